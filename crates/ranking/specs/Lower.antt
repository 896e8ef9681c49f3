-- The order of characters in a row is total, and is the one that `<` on arrays decides.
use Rattle.std.specs.Prelude.{◌≡◌, ℕ, Bool, true, false, List, [], ◌∷◌, Some, refl}
use Rattle.std.proofs.Common.{arith}
use Rattle.std.proofs.lemmas.Cmp.{same_from_slice_cmp_tested}
use Rattle.std.proofs.lemmas.Bool.Decides.{nat_tests}
use Rattle.std.specs.Cmp.Lexicographic.{slice_partial_cmp}
use Rattle.std.specs.Ordering.{is_lt, is_some_and, nat_cmp}
use Rattle.ranking.specs.Ranking.{lower}

pub asymmetric : (xs ys : List ℕ) → lower xs ys ≡ true → lower ys xs ≡ false
asymmetric [] [] h = refl
asymmetric [] (y ∷ ys) h = refl
asymmetric (x ∷ xs) [] h = grind arith
asymmetric (x ∷ xs) (y ∷ ys) h = let i = asymmetric xs ys in grind (arith, nat_tests)

pub chain : (xs ys zs : List ℕ) → lower xs ys ≡ false → lower ys zs ≡ false → lower xs zs ≡ false
chain [] ys [] h k = refl
chain [] [] (z ∷ zs) h k = k
chain [] (y ∷ ys) (z ∷ zs) h k = grind arith
chain (x ∷ xs) ys [] h k = refl
chain (x ∷ xs) [] (z ∷ zs) h k = grind arith
chain (x ∷ xs) (y ∷ ys) (z ∷ zs) h k = let i = chain xs ys zs in grind (arith, nat_tests)

pub is_lower : (xs ys : List ℕ) (r : Bool) → r ≡ is_some_and is_lt (slice_partial_cmp (λ x y. Some (nat_cmp x y)) xs ys) → r ≡ lower xs ys
is_lower = same_from_slice_cmp_tested nat_cmp is_lt lower refl (λ _ _. refl) (λ _ _. refl) (λ x y xs ys o h. grind (arith, nat_tests))
