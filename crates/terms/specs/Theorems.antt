-- The theorems on the terms of the book.
use Rattle.std.specs.Prelude.{◌≡◌, ℕ, Bool, true, Some}
use Rattle.ordered.specs.Places.{alike}
use Rattle.terms.specs.Numbers.{refusal_number, fault_number, outcome_number, kind_number, kind_of}
use Rattle.terms.specs.Orders.{lends_before, borrows_before, returns_before}
use Rattle.terms.specs.declared.calls.Refusal.{Refusal}
use Rattle.terms.specs.declared.faults.Fault.{Fault}
use Rattle.terms.specs.declared.records.Kind.{Kind}
use Rattle.terms.specs.declared.records.Outcome.{Outcome}
use Rattle.terms.specs.declared.records.LendingRequest.{LendingRequest}
use Rattle.terms.specs.declared.records.BorrowingRequest.{BorrowingRequest}
use Rattle.terms.specs.declared.records.Loan.{Loan}

-- No two cases have one number, and a kind is found by its number and by no other.
pub record OwnNumbers : Type 0 where
  pub refusals : (x y : Refusal) → refusal_number x ≡ refusal_number y → x ≡ y
  pub faults : (x y : Fault) → fault_number x ≡ fault_number y → x ≡ y
  pub outcomes : (x y : Outcome) → outcome_number x ≡ outcome_number y → x ≡ y
  pub found : (x : Kind) → kind_of (kind_number x) ≡ Some x
  pub kinds : (n : ℕ) (x : Kind) → kind_of n ≡ Some x → n ≡ kind_number x

-- Of two records of a list neither comes before the other exactly if they agree in both keys.
pub record Keyed {X : Type 0} (lt : X → X → Bool) (first second : X → ℕ) : Type 0 where
  pub same : (x y : X) → alike lt x y ≡ true → (first x ≡ first y) × (second x ≡ second y)
  pub only : (x y : X) → first x ≡ first y → second x ≡ second y → alike lt x y ≡ true

pub record SameKeys : Type 0 where
  pub lending : Keyed {X = LendingRequest} lends_before (λ x. x.request.rate) (λ x. x.request.update)
  pub borrowing : Keyed {X = BorrowingRequest} borrows_before (λ x. x.request.rate) (λ x. x.request.update)
  pub loans : Keyed {X = Loan} returns_before (λ x. x.due) (λ x. x.reference)
