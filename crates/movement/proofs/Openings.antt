-- What an opening is found to be, and what a register holds with no movement yet.
use Rattle.std.proofs.Common.{◌≡◌, ℕ, ◌+◌, ◌*◌, ◌<◌, ◌≤◌, Bool, true, false, MatchBool, List, [], length, get_or, replicate, ℤ, pos, ◌+ℤ◌, nat_abs, Decides, sym, refl, ap, subst, ◌∙◌, zero-add, inl, inr, arith}
use lib.IntN.{+ℤ_idr}
use Rattle.std.proofs.lemmas.List.{get_or-replicate, get_or_past, length-replicate}
use Rattle.std.specs.List.{range_with_len, AllWithin, HoldsAt}
use Rattle.std.proofs.lemmas.List.FromFn.{get_or-range_with_len, length-range_with_len}
use Rattle.std.proofs.lemmas.Bool.{cases_Bool, cases_lt, cond-false, cond-true}
use Rattle.register.specs.Holdings.{Holdings, Inside, the_cap}
use Rattle.register.proofs.Changed.{same_holdings}
use Rattle.image.specs.Image.{imaged}
use Rattle.image.specs.Zero.{imaged_outside}
use Rattle.movement.specs.Moved.{net, still, within, moved}
use Rattle.movement.specs.declared.numbers.Movement.{Movement}
use Rattle.movement.specs.Opening.{AccountFits, Acceptable, nothing}
use Rattle.movement.proofs.Movements.{is_within}

pub decides_all : (P : Type 0) → P → Decides true P
decides_all P p = (λ _. p, λ _. refl)

pub decides_none : (P : Type 0) → (P → ⊥) → Decides false P
decides_none P no_p = (λ e. absurd (let z : ◌≡◌ {A = ℕ} 0 1 = cc in omega arith), λ p. absurd (no_p p))

-- What decides a fact decides one that says the same.
pub decides_same : (r : Bool) (P Q : Type 0) → (P → Q) → (Q → P) → Decides r P → Decides r Q
decides_same r P Q to from d = (λ e. to (d.0 e), λ q. d.1 (from q))

-- A test of all numbers below n decides whether what it tests holds of each.
pub decides_below : (n : ℕ) (P : ℕ → Type 0) (r : Bool) → MatchBool r (AllWithin P (range_with_len 0 n) 0 (length (range_with_len 0 n))) ((k : ℕ) × (k < length (range_with_len 0 n)) × HoldsAt (λ s. P s → ⊥) (range_with_len 0 n) k) → Decides r ((s : ℕ) → s < n → P s)
decides_below n P true all =
    decides_all ((s : ℕ) → s < n → P s) (λ s lt. subst P (get_or-range_with_len 0 n s 0 lt ∙ zero-add s) (all s 0 (omega arith) (omega (arith, length-range_with_len 0 n))))
decides_below n P false some =
    let lt : some.0 < n = omega (arith, length-range_with_len 0 n, some.1) in
    decides_none ((s : ℕ) → s < n → P s) (λ all. some.2 0 (subst P (sym (get_or-range_with_len 0 n some.0 0 lt ∙ zero-add some.0)) (all some.0 lt)))

-- A line outside the counts of o has no shares.
module _ (o : Holdings) (outside : (a s : ℕ) → (Inside o a s → ⊥) → (o.free a s ≡ 0) × (o.reserved a s ≡ 0)) where
  small_outside : (a s : ℕ) → (Inside o a s → ⊥) → (o.free a s ≤ the_cap) × (o.reserved a s ≤ the_cap)
  small_outside a s out = let z = outside a s out in (omega arith, omega arith)

  pub account_fits : (a : ℕ) → ((s : ℕ) → s < o.securities → (o.free a s ≤ the_cap) × (o.reserved a s ≤ the_cap)) → AccountFits o a
  account_fits a below s =
      elim (cases_lt s o.securities) [ inl lt ↦ below s lt | inr le ↦ small_outside a s (λ p. omega arith) ]

  pub all_fit : ((a : ℕ) → a < o.accounts → AccountFits o a) → (a : ℕ) → AccountFits o a
  all_fit below a s =
      elim (cases_lt a o.accounts) [ inl lt ↦ below a lt s | inr le ↦ small_outside a s (λ p. omega arith) ]

  -- With no movement yet a register holds what it was opened with.
  module _ (ms : List Movement) (zeros : (k : ℕ) → get_or ms k still ≡ still) where
    start : (part : Movement → ℤ) → part still ≡ pos 0 → (x k : ℕ) → net x (part (get_or ms k still)) ≡ x
    start part none x k = ap (λ y. nat_abs (pos x +ℤ part y)) (zeros k) ∙ (ap (λ z. nat_abs (pos x +ℤ z)) none ∙ ap nat_abs (+ℤ_idr (pos x)))

    out : (a s : ℕ) → within o.accounts o.securities a s ≡ false → Inside o a s → ⊥
    out a s e p =
        let w = is_within o.accounts o.securities a s p.0 p.1 in
        let z : ◌≡◌ {A = ℕ} 0 1 = cc in
        omega arith

    pub moved_start : moved o o.accounts o.securities ms ≡ o
    moved_start =
        same_holdings (moved o o.accounts o.securities ms) o refl refl
        (λ a s. elim (cases_Bool (within o.accounts o.securities a s)) [
          | inl w ↦ cond-true _ _ _ w ∙ start (λ x. x.free) refl (o.free a s) (a * o.securities + s)
          | inr w ↦ cond-false _ _ _ w ∙ sym (outside a s (out a s w)).0
        ])
        (λ a s. elim (cases_Bool (within o.accounts o.securities a s)) [
          | inl w ↦ cond-true _ _ _ w ∙ start (λ x. x.reserved) refl (o.reserved a s) (a * o.securities + s)
          | inr w ↦ cond-false _ _ _ w ∙ sym (outside a s (out a s w)).1
        ])

pub all_zero : (ms : List Movement) (size : ℕ) → ms ≡ replicate size still → (k : ℕ) → get_or ms k still ≡ still
all_zero ms size e k =
    ap (λ l. get_or l k still) e ∙ elim (cases_lt k size) [
      | inl lt ↦ get_or-replicate size k still still lt
      | inr le ↦ get_or_past (replicate size still) k still (omega (arith, length-replicate size still))
    ]

-- An image of no bytes holds nothing.
pub no_bytes : imaged [] ≡ nothing
unfolding imaged
no_bytes =
    same_holdings (imaged []) nothing refl refl
    (λ a s. (imaged_outside [] a s (λ p. omega arith)).0)
    (λ a s. (imaged_outside [] a s (λ p. omega arith)).1)

pub nothing_fits : Acceptable nothing
nothing_fits = (omega arith, omega arith, λ a s. (omega arith, omega arith))
