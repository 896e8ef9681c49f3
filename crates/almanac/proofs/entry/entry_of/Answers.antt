use Rattle.std.proofs.Common.{◌∙◌}
use Rattle.days.specs.Dates.{date_at}
use Rattle.days.specs.Weekdays.{weekday_at}
use Rattle.days.proofs.Conversions.{date_some}
use Rattle.days.proofs.Weeks.{weekday_at_lem}
use Rattle.almanac.proofs.Entries.{no_entry, made}
use Rattle.almanac.proofs.entry.entry_of.Goals as goal

pub returns-in_err-date : goal.returns-in_err-date
returns-in_err-date c =
    let d = c.args.day in
    c.from_residual.ensures ∙ no_entry d _ (date_at d) c.in_err-date.ensures (date_some d)

pub returns-in_err-weekday : goal.returns-in_err-weekday
returns-in_err-weekday c =
    let d = c.args.day in
    c.from_residual-in_err-weekday.ensures ∙ no_entry d _ (weekday_at d) c.in_err-weekday.ensures (weekday_at_lem d)

pub returns : goal.returns
returns c =
    made c.args.day c.in_ok-date.date c.in_ok-weekday.weekday c.day_of-again.result
    c.in_ok-date.ensures c.in_ok-weekday.ensures c.day_of-again.ensures
