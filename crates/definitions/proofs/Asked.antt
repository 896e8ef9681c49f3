-- What it tells that a call's questions were all answered by yes.
use Rattle.std.proofs.Common.{◌≡◌, ℕ, Bool, true, false, cond, List, [], ◌∷◌, Some, None, Option, refl, arith}
use Rattle.terms.specs.declared.calls.Refusal.{Refusal}
use Rattle.definitions.specs.Questions.{Question, first_no}

abbrev pub AllYes : List Question → Type 0
AllYes [] = Unit {0}
AllYes (q ∷ qs) = (q.1 ≡ true) × AllYes qs

yes_first : (b : Bool) (r : Refusal) (o : Option Refusal) → cond b o (Some r) ≡ None → (b ≡ true) × (o ≡ None)
yes_first true r o e = (refl, e)
yes_first false r o e = let z : ◌≡◌ {A = ℕ} 0 1 = cc in absurd (omega arith)

pub all_yes : (qs : List Question) → first_no qs ≡ None → AllYes qs
all_yes [] e = tt
all_yes (q ∷ qs) e = let p = yes_first q.1 q.0 (first_no qs) e in (p.0, all_yes qs p.1)
