use Rattle.std.proofs.Common.{ℕ, ◌<◌}
use Rattle.register.specs.Holdings.{Holdings}
use Rattle.definitions.specs.Matching.{Pair}
use Rattle.definitions.specs.States.{state}
use Rattle.matching.proofs.search.first_pair.Given as goal

abbrev pub invariant-loop-borrowing : goal.invariant-loop-borrowing
invariant-loop-borrowing l = (h : Holdings) (m n : ℕ) → n < l.borrowing → Pair (state h l.ledger) m n → ⊥

abbrev pub invariant-loop-lending : goal.invariant-loop-lending
invariant-loop-lending l = (h : Holdings) (m : ℕ) → m < l.lending → Pair (state h l.ledger) m l.borrowing → ⊥
