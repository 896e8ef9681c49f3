-- What is left of a ledger and a register once requests have left.
use Rattle.std.proofs.Common.{◌≡◌, ◌≤◌, Bool, List, length, Option, arith}
use Rattle.register.specs.Holdings.{Holdings}
use Rattle.ordered.specs.Places.{records}
use Rattle.ordered.specs.Selected.{those, others}
use Rattle.ordered.proofs.Selections.{length_both}
use Rattle.ordered.proofs.Standing.{few_records}
use Rattle.terms.specs.declared.ledger.Ledger.{Ledger}
use Rattle.terms.specs.declared.records.BorrowingRequest.{BorrowingRequest}
use Rattle.terms.specs.declared.records.LendingRequest.{LendingRequest}
use Rattle.definitions.specs.Requests.{released_all, taken_out}
use Rattle.definitions.specs.Sound.{Borne}
use Rattle.definitions.specs.States.{state}
use Rattle.removal.specs.Held.{Lent}
use Rattle.terms.specs.declared.records.Request.{Request}

pub lent_from_lem : (h : Holdings) (l : Ledger) → Borne (state h l) → Lent h (records l.requests.lending)
lent_from_lem h l b = record { lines = b.lines; enough = λ a s. omega (arith, b.reserved a s); capped = b.capped }

-- The ledger with other lists of requests.
abbrev pub with_lists : Ledger → List (Option LendingRequest) → List (Option BorrowingRequest) → Ledger
with_lists l ls bs =
    record { opened = l.opened; today = l.today; securities = l.securities; agents = l.agents; requests = record { lending = ls; borrowing = bs; updates = l.requests.updates }; loans = l.loans }

pub removed_state : (test : Request → Bool) (h m : Holdings) (l : Ledger) (ls : List (Option LendingRequest)) (bs : List (Option BorrowingRequest))
    → m ≡ released_all h (those (λ l. test l.request) (records l.requests.lending))
    → records ls ≡ others (λ l. test l.request) (records l.requests.lending)
    → records bs ≡ others (λ b. test b.request) (records l.requests.borrowing)
    → state m (with_lists l ls bs) ≡ taken_out test (state h l)
removed_state test h m l ls bs p q r =
    λ i. record { held = p i; kept = record { opened = l.opened; today = l.today; securities = l.securities; agents = l.agents; lending = q i; borrowing = r i; updates = l.requests.updates; loans = records l.loans.standing; references = l.loans.references } }

pub few_leave : {X : Type 0} (test : X → Bool) (ps : List (Option X)) → length (those test (records ps)) ≤ length ps
few_leave test ps = omega (arith, length_both test (records ps), few_records ps)
