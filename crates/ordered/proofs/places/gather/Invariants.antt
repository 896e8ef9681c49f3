use Rattle.std.proofs.Common.{Bool}
use Rattle.std.proofs.lemmas.List.Filters.{FiltersInPlace}
use Rattle.ordered.specs.Selected.{DecidedBy}
use Rattle.ordered.specs.Staying.{staying}
use Rattle.ordered.proofs.places.gather.Given as goal

abbrev pub invariant-loop-at : goal.invariant-loop-at
invariant-loop-at g l = (test : g.row.T.Denot → Bool) → DecidedBy g.F.Fn l.leaves test → FiltersInPlace (staying test) l.initial.places l.places l.to l.at
