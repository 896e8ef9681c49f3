use Rattle.definitions.specs.States.{kept_of}
use Rattle.agents.proofs.Middays.{Passing}
use Rattle.agents.proofs.noon.noon.Given as goal

abbrev pub invariant-loop-place : goal.invariant-loop-place
invariant-loop-place l = Passing (kept_of l.fn.ledger) l.agent-items l.place
