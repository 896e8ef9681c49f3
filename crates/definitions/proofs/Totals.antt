-- Sums over lists.
use Rattle.std.proofs.Common.{◌≡◌, ℕ, ◌+◌, Bool, List, [], ◌∷◌, refl, arith}
use Rattle.ordered.specs.Selected.{those, others}
use Rattle.ordered.proofs.Selections.{sum_both}
use Rattle.definitions.specs.States.{total}

-- Those that pass a test and the others are all.
pub total_parted : {X : Type 0} (f : X → ℕ) (test : X → Bool) (xs : List X) → total f (those test xs) + total f (others test xs) ≡ total f xs
total_parted f test xs = sum_both f (total f) refl (λ _ _. refl) test xs

-- Of two numbers that agree on every record the sums agree.
pub total_same : {X : Type 0} (f g : X → ℕ) → ((x : X) → f x ≡ g x) → (xs : List X) → total f xs ≡ total g xs
total_same f g e [] = refl
total_same f g e (x ∷ xs) = omega (arith, e x, total_same f g e xs)
