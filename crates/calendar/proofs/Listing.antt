-- A search through the holidays that count.
use Rattle.std.proofs.Common.{◌≡◌, ℕ, zero, suc, ◌+◌, ◌<◌, true, false, ◌||◌, eqb, List, [], ◌∷◌, length, take, sym, refl, ap, ◌∙◌, add-one, arith}
use Rattle.std.proofs.lemmas.Bool.{eq-eqb, ne_eqb}
use Rattle.calendar.specs.Business.{is_in}

-- A search through the first n of a list: what is left decides.
module _ (n m : ℕ) (xs ys : List ℕ) (x d : ℕ) (e : xs ≡ x ∷ ys) (f : m + 1 ≡ n) where
  left_step : is_in (take n xs) d ≡ (eqb x d || is_in (take m ys) d)
  left_step = ap (λ v. is_in (take v xs) d) (sym f) ∙ ap (λ v. is_in (take (m + 1) v) d) e ∙ rw add-one refl

  pub left_found : x ≡ d → is_in (take n xs) d ≡ true
  left_found h = let a = eq-eqb x d h in left_step ∙ rw a refl

  pub left_passed : (x ≡ d → ⊥) → is_in (take n xs) d ≡ is_in (take m ys) d
  left_passed h = let a = ne_eqb x d h in left_step ∙ rw a refl

pub left_none : (n : ℕ) (xs : List ℕ) (d : ℕ) → (0 < n → length xs ≡ 0) → is_in (take n xs) d ≡ false
left_none zero xs d h = refl
left_none (suc n) [] d h = refl
left_none (suc n) (x ∷ xs) d h = absurd (omega (arith, h (omega arith)))
