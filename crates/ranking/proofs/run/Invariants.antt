use Rattle.ordered.specs.Places.{Ordered}
use Rattle.ranking.proofs.run.Given as goal

abbrev pub invariant-loop-step : goal.invariant-loop-step
invariant-loop-step g l = Ordered g.T.Ranked.precedes l.list.places.now
