use Rattle.std.proofs.Common.{◌≡◌, ◌+◌, ◌*◌, ◌≤◌, drop}
use Rattle.std.specs.List.{AllByRecursion as Each}
use Rattle.definitions.specs.Cover.{need, need_for}
use Rattle.definitions.specs.Limits.{most_price, most_quantity}
use Rattle.definitions.specs.Sound.{ExposureRanged}
use Rattle.definitions.specs.States.{kept_of, total}
use Rattle.ordered.specs.Places.{records}
use Rattle.collateral.proofs.needs.need_for_all.Given as goal

abbrev pub invariant-loop-place : goal.invariant-loop-place
invariant-loop-place g l =
    (l.sum + total (λ x. need_for (kept_of l.ledger) l.agent (g.T.Exposed.exposes x)) (records (drop l.place-index l.places)) ≡ total (λ x. need_for (kept_of l.ledger) l.agent (g.T.Exposed.exposes x)) (records l.places))
    × (l.sum ≤ l.place-index * need most_quantity most_price)
    × Each (λ x. ExposureRanged (g.T.Exposed.exposes x)) (records (drop l.place-index l.places))
