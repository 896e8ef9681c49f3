-- The orders in which requests and loans stand.
use Rattle.std.specs.Prelude.{Bool, ◌&&◌, ◌||◌, ◌==◌, nat_lt}
use Rattle.terms.specs.declared.records.LendingRequest.{LendingRequest}
use Rattle.terms.specs.declared.records.BorrowingRequest.{BorrowingRequest}
use Rattle.terms.specs.declared.records.Loan.{Loan}

-- Lowest rate first, then lowest update number.
abbrev pub lends_before : LendingRequest → LendingRequest → Bool
lends_before x y =
    nat_lt x.request.rate y.request.rate || (x.request.rate == y.request.rate && nat_lt x.request.update y.request.update)

-- Highest rate first, then lowest update number.
abbrev pub borrows_before : BorrowingRequest → BorrowingRequest → Bool
borrows_before x y =
    nat_lt y.request.rate x.request.rate || (x.request.rate == y.request.rate && nat_lt x.request.update y.request.update)

-- Earliest return day first, then lowest reference.
abbrev pub returns_before : Loan → Loan → Bool
returns_before x y = nat_lt x.due y.due || (x.due == y.due && nat_lt x.reference y.reference)
