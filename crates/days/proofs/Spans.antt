-- What `a..=b` gives, for the crates above that go over days.
use Rattle.std.proofs.Common.{◌≡◌, ℕ, zero, suc, ◌+◌, ◌-◌, ◌<◌, Bool, true, false, List, [], ◌∷◌, refl, sym, ap, ◌∙◌, subst, arith}
use Rattle.std.specs.declared.ops.RangeInclusive.{RangeInclusive}
use Rattle.std.specs.List.{range_with_len}
use Rattle.std.specs.Range.{range_inclusive_start, range_inclusive_end, range_inclusive_exhausted, range_inclusive_len, range_inclusive_left}
use Rattle.std.proofs.iter.runs.Sources.{nat_range_inclusive_steps}
use Rattle.std.proofs.lemmas.Iterator.{YieldsList}
use Rattle.std.proofs.lemmas.Iterator.Consumers.{YieldsList-from_shown}
use Rattle.std.proofs.lemmas.List.FromFn.{length-range_with_len}

abbrev left : RangeInclusive ℕ → ℕ
left s = range_inclusive_left (λ x y. y - x) s

abbrev shown : RangeInclusive ℕ → List ℕ
shown s = range_with_len (range_inclusive_start s) (left s)

left_as : (s : RangeInclusive ℕ) (e : Bool) → range_inclusive_exhausted s ≡ e → left s ≡ range_inclusive_len (λ x y. y - x) (range_inclusive_start s) (range_inclusive_end s) e
left_as s e p = ap (range_inclusive_len (λ x y. y - x) (range_inclusive_start s) (range_inclusive_end s)) p

-- A range with something left is not exhausted.
going : (s : RangeInclusive ℕ) (e : Bool) → range_inclusive_exhausted s ≡ e → 0 < left s → range_inclusive_exhausted s ≡ false
going s true p h = absurd (omega (arith, left_as s true p))
going s false p h = p

-- The first item, and those after it.
item : (a n b m x : ℕ) → n ≡ m + 1 → x ≡ a → (0 < m → b ≡ a + 1) → range_with_len a n ≡ x ∷ range_with_len b m
item a n b zero x e f g = ap (range_with_len a) e ∙ ap (λ (w : ℕ). w ∷ []) (sym f)
item a n b (suc m) x e f g =
    let two : n ≡ suc (suc m) = omega arith in
    ap (range_with_len a) two ∙ ap (λ (w : ℕ). w ∷ range_with_len (a + 1) (suc m)) (sym f)
    ∙ ap (λ w. x ∷ range_with_len w (suc m)) (sym (g (omega arith)))

pub YieldsList-from_span : {s : RangeInclusive ℕ} (a b : ℕ) → range_inclusive_start s ≡ a → range_inclusive_end s ≡ b → range_inclusive_exhausted s ≡ false
    → YieldsList nat_range_inclusive_steps (λ x. x) s (range_with_len a (b + 1 - a))
YieldsList-from_span {s} a b e f g =
    let n : left s ≡ b + 1 - a = omega (arith, left_as s false g) in
    let all : shown s ≡ range_with_len a (b + 1 - a) = ap (λ v. range_with_len v (left s)) e ∙ ap (range_with_len a) n in
    subst (λ ys. YieldsList nat_range_inclusive_steps (λ x. x) s ys) all
    (YieldsList-from_shown nat_range_inclusive_steps (λ x. x) shown
    (λ s t p. length-range_with_len (range_inclusive_start s) (left s) ∙ p.1.0)
    (λ s x t p. item (range_inclusive_start s) (left s) (range_inclusive_start t) (left t) x (sym p.1.1) p.1.0 (λ h. p.1.2 (going t _ refl h)))
    s)
