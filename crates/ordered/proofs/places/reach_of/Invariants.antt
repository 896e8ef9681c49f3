use Rattle.std.proofs.Common.{◌≡◌, ℕ, ◌-◌, ◌+◌, ◌*◌, ◌^◌, ◌<◌, ◌≤◌, length}
use Rattle.ordered.specs.Places.{records}
use Rattle.ordered.specs.Ranks.{rank}
use Rattle.ordered.proofs.places.reach_of.Given as goal

abbrev pub invariant-loop-reach : goal.invariant-loop-reach
invariant-loop-reach g l = record {
  power : (k : ℕ) × (l.reach ≡ 2 ^ k);
  positive : 0 < l.reach;
  half : l.reach ≤ 2 * rank g.T.Ranked.precedes l.item (records l.places) + 1;
}

abbrev pub decreases-loop-reach : goal.decreases-loop-reach
decreases-loop-reach g l = length l.places + 1 - l.reach
