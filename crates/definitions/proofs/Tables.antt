-- A list of which one place is changed, or every place.
use Rattle.std.proofs.Common.{◌≡◌, ℕ, zero, suc, ◌+◌, ◌<◌, ◌≤◌, List, [], ◌∷◌, length, get_or, set, sym, refl, ap, ◌∙◌, subst, ⊎_elim, arith}
use Rattle.std.proofs.lemmas.Bool.{cases_eq, cases_lt}
use Rattle.std.proofs.lemmas.List.{get_or-set_same, get_or-set_other, set_past, get_or_past}
use Rattle.definitions.specs.States.{map_from}

-- What holds of each place, and of what is put in, holds of each place after.
pub at_set : {X : Type 0} (P : ℕ → X → Type 0) (xs : List X) (g : ℕ) (a d : X) → P g a → ((k : ℕ) → P k (get_or xs k d)) → (k : ℕ) → P k (get_or (set xs g a) k d)
at_set P xs g a d here all k =
    ⊎_elim
    (λ (l : g < length xs).
    ⊎_elim
    (λ (e : g ≡ k). subst (λ (n : ℕ). P n (get_or (set xs g a) n d)) e (subst (P g) (sym (get_or-set_same xs g a d l)) here))
    (λ (ne : g ≡ k → ⊥). subst (P k) (sym (get_or-set_other xs g k a d (λ q. ne (sym q)))) (all k))
    (cases_eq g k))
    (λ (l : length xs ≤ g). subst (λ ys. P k (get_or ys k d)) (sym (set_past xs g a l)) (all k))
    (cases_lt g (length xs))

pub length_from : {X Y : Type 0} (f : ℕ → X → Y) (from : ℕ) (xs : List X) → length (map_from f from xs) ≡ length xs
length_from f from [] = refl
length_from f from (x ∷ xs) = ap suc (length_from f (suc from) xs)

-- What stands at a place of a list that was changed at every place.
pub at_from : {X Y : Type 0} (f : ℕ → X → Y) (from : ℕ) (xs : List X) (k : ℕ) (d : X) (e : Y) → k < length xs → get_or (map_from f from xs) k e ≡ f (from + k) (get_or xs k d)
at_from f from [] k d e l = absurd (omega arith)
at_from f from (x ∷ xs) zero d e l = let s : from ≡ from + 0 = omega arith in ap (λ (n : ℕ). f n x) s
at_from f from (x ∷ xs) (suc k) d e l =
    let s : suc from + k ≡ from + suc k = omega arith in at_from f (suc from) xs k d e (omega arith) ∙ ap (λ (n : ℕ). f n (get_or xs k d)) s

pub at_each : {X : Type 0} (P : ℕ → X → Type 0) (f : ℕ → X → X) (xs : List X) (d : X) → ((k : ℕ) → P k (f k (get_or xs k d))) → ((k : ℕ) → length xs ≤ k → P k (get_or xs k d)) → (k : ℕ) → P k (get_or (map_from f 0 xs) k d)
at_each P f xs d all past k =
    ⊎_elim
    (λ (l : k < length xs). let s : 0 + k ≡ k = omega arith in subst (P k) (sym (at_from f 0 xs k d d l ∙ ap (λ (n : ℕ). f n (get_or xs k d)) s)) (all k))
    (λ (l : length xs ≤ k). subst (P k) (get_or_past xs k d l ∙ sym (get_or_past (map_from f 0 xs) k d (omega (arith, length_from f 0 xs)))) (past k l))
    (cases_lt k (length xs))
