use Rattle.std.proofs.Common.{Some, refl, sym, ap, ◌∙◌, ◌%◌, arith}
use Rattle.std.proofs.lemmas.Nat.{mod_below}
use Rattle.days.proofs.Weeks.{week_at, weekday_some, weekday_none}
use Rattle.days.proofs.weekdays.weekday_of.Goals as goal

pub returns-then-day-gt-LAST_DAY : goal.returns-then-day-gt-LAST_DAY
returns-then-day-gt-LAST_DAY c = sym (weekday_none c.args.day (omega arith))

pub returns : goal.returns
returns c =
    let r = c.args.day % 7 in
    ap Some (week_at r _ (mod_below c.args.day 7 (omega arith))) ∙ sym (weekday_some c.args.day r (omega arith) refl)
