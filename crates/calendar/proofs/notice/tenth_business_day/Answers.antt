use Rattle.std.proofs.Common.{◌+◌, ◌-◌, refl, rules, tests, arith}
use Rattle.std.proofs.lemmas.Iterator.{YieldsList-from_range}
use Rattle.std.proofs.lemmas.Iterator.Consumers.{YieldsList-from_filter, nth_from_yields_List}
use Rattle.days.specs.Dates.{last_day}
use Rattle.calendar.proofs.Counts.{tenth_lem}
use Rattle.calendar.proofs.notice.tenth_business_day.Goals as goal

pub returns : goal.returns
returns g c =
    let b = g.C.Calendar.business c.args.calendar.now in
    let first = c.saturating_add.result in
    tenth_lem b c.args.today c.nth.result first (λ h. omega (arith, c.saturating_add.ensures)) (λ h. omega (arith, c.saturating_add.ensures))
    (nth_from_yields_List c.nth.result c.nth.new.self 9 c.nth.ensures.ran
    (YieldsList-from_filter _ b (YieldsList-from_range first (last_day + 1) (last_day + 1 - first) c.filter.ensures.source refl) c.filter.ensures.closure (λ x r q k. search (rules, tests))))
