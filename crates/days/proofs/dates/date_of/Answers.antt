use Rattle.std.proofs.Common.{Some, sym, refl, ap, ◌∙◌, arith}
use Rattle.days.proofs.Months.{start_more}
use Rattle.days.proofs.Conversions.{date_eq, date_within, date_some, date_none, length_bounds}
use Rattle.days.proofs.dates.date_of.Goals as goal

pub returns-then-day-gt-LAST_DAY : goal.returns-then-day-gt-LAST_DAY
returns-then-day-gt-LAST_DAY c = sym (date_none c.args.day (omega arith))

pub overflow_cast-day : goal.overflow_cast-day
overflow_cast-day c =
    let k = c.of_day-found.result.index in
    record { fits = omega (arith, start_more k, length_bounds k) }

pub overflow_add-day : goal.overflow_add-day
overflow_add-day c =
    let k = c.of_day-found.result.index in
    record { fits = omega (arith, start_more k, length_bounds k) }

pub returns : goal.returns
returns c =
    let e = date_within c.of_day-found.result.index c.args.day c.of_day-found.ensures.begun c.of_day-found.ensures.left in
    ap Some (date_eq _ _ refl refl (omega arith) ∙ sym e) ∙ sym (date_some c.args.day (omega arith))
