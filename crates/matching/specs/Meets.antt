-- What a place has for a borrowing request.
use Rattle.std.specs.Prelude.{Some, None, Option}
use Rattle.terms.specs.declared.records.BorrowingRequest.{BorrowingRequest}
use Rattle.terms.specs.declared.records.LendingRequest.{LendingRequest}
use Rattle.definitions.specs.Matching.{Matches}
use Rattle.definitions.specs.States.{State}

-- The place holds a partner of the request.
abbrev pub Meets : State → Option LendingRequest → BorrowingRequest → Type 0
Meets x None b = ⊥
Meets x (Some l) b = Matches x l.request b.request
