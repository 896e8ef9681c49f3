-- Requests that are taken out: what is left of them is free again, and what is left of the others stays reserved.
use Rattle.std.proofs.Common.{◌≡◌, ℕ, ◌≤◌, Bool, List, arith}
use Rattle.register.specs.Holdings.{Holdings, registered, total_of}
use Rattle.register.proofs.Sums.{sum_same}
use Rattle.ordered.specs.Selected.{those}
use Rattle.terms.specs.declared.records.LendingRequest.{LendingRequest}
use Rattle.terms.specs.declared.records.Request.{Request}
use Rattle.definitions.specs.Requests.{left_on, left_of, released_all, taken_out}
use Rattle.definitions.specs.States.{State}
use Rattle.definitions.proofs.Totals.{total_parted}

-- The register has reserved what is left of the requests.
pub record Backs (h : Holdings) (ls : List LendingRequest) : Type 0 where
  pub enough : (a s : ℕ) → left_of ls a s ≤ h.reserved a s

pub released_line : (h : Holdings) (ls : List LendingRequest) → Backs h ls → (a s : ℕ) → registered (released_all h ls) a s ≡ registered h a s
released_line h ls k a s = omega (arith, k.enough a s)

pub released_total : (h : Holdings) (ls : List LendingRequest) → Backs h ls → (s : ℕ) → total_of (released_all h ls) s ≡ total_of h s
released_total h ls k s = sum_same h.accounts (λ a. registered h a s) (λ a. registered (released_all h ls) a s) (λ a l. released_line h ls k a s)

module _ (test : Request → Bool) (x : State) (backed : (a s : ℕ) → x.held.reserved a s ≡ left_of x.kept.lending a s) where
  pub backs_those : Backs x.held (those (λ l. test l.request) x.kept.lending)
  backs_those = record { enough = λ a s. omega (arith, backed a s, total_parted (left_on a s) (λ l. test l.request) x.kept.lending) }

  pub taken_reserved : (a s : ℕ) → (taken_out test x).held.reserved a s ≡ left_of (taken_out test x).kept.lending a s
  taken_reserved a s = omega (arith, backed a s, total_parted (left_on a s) (λ l. test l.request) x.kept.lending)
