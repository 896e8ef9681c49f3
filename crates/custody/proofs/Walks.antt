-- A walk over the numbers below n, from 0 on.
use Rattle.std.proofs.Common.{◌≡◌, ℕ, zero, suc, ◌+◌, ◌<◌, ◌≤◌, Bool, true, false, cond, eqb, leb, Some, None, Option, MatchOption, List, [], ◌∷◌, length, get_or, refl, sym, ⊎_elim, subst, ap, ◌∙◌, arith}
use Rattle.std.specs.Bool.{MatchBool}
use Rattle.std.specs.Fn.{Called, Mut}
use Rattle.std.specs.ControlFlow.{continue_value}
use Rattle.std.specs.Iterator.{TryFoldTurn, TryFoldsItems, Yields}
use Rattle.std.specs.List.{FoldsTo, AllWithin, HoldsAt, range_with_len}
use Rattle.std.specs.declared.ops.ControlFlow.{ControlFlow}
use Rattle.std.specs.declared.ops.Range.{Range}
use Rattle.std.proofs.iter.Yields.{nat_range_steps}
use Rattle.std.proofs.lemmas.Bool.{cases_lt, cond-false, cond-true, le-leb, lt-leb, ne_eqb}
use Rattle.std.proofs.lemmas.List.FromFn.{length-range_with_len, get_or-range_with_len}
use Rattle.register.specs.Holdings.{sum_below, the_cap}
use Rattle.register.proofs.Sums.{sum_most}
use Rattle.custody.proofs.Adding.{sum_next, sum_part}

-- What each turn R keeps, from the number i on which it comes to the next, holds at the end.
module _ {P : Type 0} (R : P → ℕ → P → Type 0) (n : ℕ) (J : ℕ → P → Type 0) (more : (i : ℕ) (p q : P) → i < n → J i p → R p i q → J (i + 1) q) where
  pub walked : (xs : List ℕ) (s t : Range ℕ) (p q : P) → s.end ≡ n → s.start ≤ n → J s.start p → Yields nat_range_steps s xs t → FoldsTo R p xs q → (t.end ≡ n) × (t.start ≤ n) × J t.start q
  walked [] s t p q e l j y f = subst (λ (u : Range ℕ). (u.end ≡ n) × (u.start ≤ n) × J u.start q) y (e, l, subst (J s.start) f j)
  walked (x ∷ xs) s t p q e l j y f =
      let step = y.1 in
      walked xs y.0 t f.0 q (step.0 ∙ e) (omega arith)
      (subst (λ (m : ℕ). J m f.0) (sym step.1.2) (more s.start p f.0 (omega arith) j (subst (λ (m : ℕ). R p m f.0) step.1.1 f.1))) y.2 f.2

-- Whether a sum is 0 is whether each of its numbers is.
sum_zero : (n : ℕ) (h : ℕ → ℕ) → ((k : ℕ) → k < n → h k ≡ 0) → sum_below n h ≡ 0
sum_zero zero h all = refl
sum_zero (suc n) h all = omega (arith, all n (omega arith), sum_zero n h (λ k l. all k (omega arith)))

at_place : (n k : ℕ) → k < n → get_or (range_with_len 0 n) k 0 ≡ k
at_place n k l = omega (arith, get_or-range_with_len 0 n k 0 l)

pub none_from_all : (n : ℕ) (h : ℕ → ℕ) (r : Bool) → MatchBool r (AllWithin (λ a. h a ≡ 0) (range_with_len 0 n) 0 (length (range_with_len 0 n))) ((k : ℕ) × (k < length (range_with_len 0 n)) × HoldsAt (λ a. 0 < h a) (range_with_len 0 n) k) → r ≡ eqb (sum_below n h) 0
none_from_all n h true m =
    rw (sum_zero n h (λ k l. subst (λ i. h i ≡ 0) (at_place n k l) (m k 0 (omega arith) (omega (arith, length-range_with_len 0 n))))) refl
none_from_all n h false m =
    let l : m.0 < n = omega (arith, length-range_with_len 0 n, m.1) in
    let some : 0 < h m.0 = subst (λ i. 0 < h i) (at_place n m.0 l) (m.2 0) in
    sym (ne_eqb (sum_below n h) 0 (λ e. omega (arith, sum_most n h m.0 l)))

-- A number that is there only within the cap.
abbrev capped : ℕ → Option ℕ
capped m = cond (leb m the_cap) (Some m) None

capped_some : (m : ℕ) → m ≤ the_cap → capped m ≡ Some m
capped_some m l = cond-true _ _ _ (le-leb m the_cap l)

capped_none : (m : ℕ) → the_cap < m → capped m ≡ None
capped_none m l = cond-false _ _ _ (lt-leb m the_cap l)

from_some : (m a : ℕ) → Some a ≡ capped m → (m ≤ the_cap) × (a ≡ m)
from_some m a e =
    ⊎_elim
    (λ (l : the_cap < m). let q = capped_none m l in cc)
    (λ (l : m ≤ the_cap). (l, let q = capped_some m l in cc))
    (cases_lt the_cap m)

from_none : (m : ℕ) → None ≡ capped m → the_cap < m
from_none m e =
    ⊎_elim
    (λ (l : the_cap < m). l)
    (λ (l : m ≤ the_cap). let q = capped_some m l in cc)
    (cases_lt the_cap m)

-- What is added up, from one number to the next, as long as the sum stays within the cap.
pub sum_folded : {F E : Type 0} {g : Mut F (ℕ × (ℕ × Unit {0})) (Option ℕ)} (f : F) (n : ℕ) (h : ℕ → ℕ) (r : Option ℕ) (u : Range ℕ)
    → TryFoldsItems nat_range_steps g (λ (v : Option ℕ) (c : ControlFlow E ℕ). v ≡ continue_value c) (λ (_ : E) (v : Option ℕ). v ≡ None) (record { start = 0; end = n }) f 0 r u
    → ((a i : ℕ) (v : Option ℕ) (q : F) → Called g f (a, (i, tt)) v q → (q ≡ f) × (v ≡ capped (a + h i)))
    → r ≡ capped (sum_below n h)
sum_folded {F} {E} {g} f n h r u ran adds = by ran.1 ran.4.2 ran.6
  where
    Far : ℕ → F × ℕ → Type 0
    Far i p = (p.0 ≡ f) × (p.1 ≡ sum_below i h) × (p.1 ≤ the_cap)

    added : (i : ℕ) (p : F × ℕ) (v : Option ℕ) (q : F) → Far i p → Called g p.0 (p.1, (i, tt)) v q → (q ≡ f) × (v ≡ capped (sum_below (i + 1) h))
    added i p v q far k =
        let s = adds p.1 i v q (subst (λ (e : F). Called g e (p.1, (i, tt)) v q) far.0 k) in
        (s.0, s.1 ∙ ap capped (omega (arith, far.1, sum_next i h)))

    more : (i : ℕ) (p q : F × ℕ) → i < n → Far i p → TryFoldTurn g (λ (v : Option ℕ) (c : ControlFlow E ℕ). v ≡ continue_value c) p i q → Far (i + 1) q
    more i p q l far turn =
        let s = added i p turn.0 q.0 far turn.1 in
        let m = from_some (sum_below (i + 1) h) q.1 (sym turn.2 ∙ s.1) in
        (s.0, m.1, omega (arith, m.0, m.1))

    far : (ran.4.0.end ≡ n) × (ran.4.0.start ≤ n) × Far ran.4.0.start (ran.2, ran.3)
    far = walked (TryFoldTurn g (λ (v : Option ℕ) (c : ControlFlow E ℕ). v ≡ continue_value c)) n Far more ran.0 (record { start = 0; end = n }) ran.4.0 (f, 0) (ran.2, ran.3) refl (omega arith) (refl, refl, omega arith) ran.4.1 ran.5

    by : (o : Option ℕ) → nat_range_steps ran.4.0 o u → MatchOption o (r ≡ Some ran.3) (λ x. (v : Option ℕ) × (q : F) × (e : E) × Called g ran.2 (ran.3, (x, tt)) v q × (v ≡ None) × (r ≡ None)) → r ≡ capped (sum_below n h)
    by None step last =
        let a : ran.3 ≡ sum_below n h = far.2.1 ∙ ap (λ m. sum_below m h) (omega (arith, step.1.0, far.0, far.1)) in
        last ∙ sym (capped_some ran.3 far.2.2) ∙ ap capped a
    by (Some x) step last =
        let at : ran.4.0.start ≡ x = sym step.1.1 in
        let s = added x (ran.2, ran.3) last.0 last.1 (subst (λ m. Far m (ran.2, ran.3)) at far.2) last.3 in
        let over = from_none (sum_below (x + 1) h) (sym last.4 ∙ s.1) in
        last.5 ∙ sym (capped_none (sum_below n h) (omega (arith, over, sum_part (x + 1) n h (omega (arith, at, step.1.0, far.0)))))
