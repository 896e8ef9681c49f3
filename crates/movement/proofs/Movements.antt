-- What a new movement does to the holdings.
use Rattle.std.proofs.Common.{◌≡◌, ℕ, ◌+◌, ◌*◌, ◌<◌, ◌≤◌, ◌⊎◌, true, cond, List, length, get_or, set, ℤ, pos, ◌+ℤ◌, nat_abs, sym, refl, ap, ◌∙◌, inl, inr, arith, w64, SFits, to_z, of_z}
use Rattle.std.proofs.lemmas.List.{get_or-set_same, get_or-set_other, get_or_default}
use Rattle.std.proofs.lemmas.Int.{to_z-of_z}
use Rattle.std.proofs.lemmas.Bool.{cases_eq, and_parts, ltb-true, cond-true}
use Rattle.std.proofs.lemmas.Bool.Decides.{nat_tests}
use Rattle.register.specs.Holdings.{Holdings, the_cap, put, with_free, with_reserved}
use Rattle.register.proofs.Changed.{same_holdings}
use Rattle.register.proofs.Sums.{is_put}
use Rattle.image.proofs.Places.{cond_same, place_apart}
use Rattle.movement.specs.Moved.{net, still, free_movement, reserved_movement, within, moved, Settled, FreeSettled, ReservedSettled}
use Rattle.movement.specs.Inner.{Placed}
use Rattle.movement.specs.declared.numbers.Movement.{Movement}

pub within_parts : (m n a s : ℕ) → within m n a s ≡ true → (a < m) × (s < n)
within_parts m n a s e = let p = and_parts _ _ e in (ltb-true a m p.0, ltb-true s n p.1)

pub is_within : (m n a s : ℕ) → a < m → s < n → within m n a s ≡ true
is_within m n a s la ls = grind (arith, nat_tests)

-- A movement that makes v of the opening settles it.
pub settles : (o p v : ℕ) (r : ℤ) → p ≡ o → (pos p +ℤ r) ≡ pos v → o ≤ the_cap → v ≤ the_cap → Settled o r × (net o r ≡ v)
settles o p v r e made lo lv =
    let sum : (pos o +ℤ r) ≡ pos v = ap (λ n. pos n +ℤ r) (sym e) ∙ made in
    let n : net o r ≡ v = ap nat_abs sum in
    ((lo, sum ∙ sym (ap pos n), omega arith), n)

-- Numbers with the openings f, and a part of each line's movement; the movement y of one line is new.
module _ (m n : ℕ) (f : ℕ → ℕ → ℕ) (part : Movement → ℤ) (ms : List Movement) (a s : ℕ) (y : Movement) (ls : s < n) (below : a * n + s < length ms) where
  abbrev numbers : List Movement → ℕ → ℕ → ℕ
  numbers xs b t = cond (within m n b t) (net (f b t) (part (get_or xs (b * n + t) still))) 0

  abbrev after : List Movement
  after = set ms (a * n + s) y

  here : get_or after (a * n + s) still ≡ y
  here = get_or-set_same ms (a * n + s) y still below

  away : (b t : ℕ) → within m n b t ≡ true → ((a ≡ b) × (s ≡ t) → ⊥) → get_or after (b * n + t) still ≡ get_or ms (b * n + t) still
  away b t w ne =
      get_or-set_other ms (a * n + s) (b * n + t) y still (λ e. ne (place_apart n a s b t ls (within_parts m n b t w).1 (sym e)))

  changes : (v : ℕ) → within m n a s ≡ true → net (f a s) (part y) ≡ v → (b t : ℕ) → numbers after b t ≡ put (numbers ms) a s v b t
  changes v w e =
      is_put (numbers ms) (numbers after) a s v
      (cond-true _ _ _ w ∙ (ap (λ x. net (f a s) (part x)) here ∙ e))
      (λ b t ne. cond_same (within m n b t) (within m n b t) _ _ refl (λ u. ap (λ x. net (f b t) (part x)) (away b t u ne)))

  same_part : part y ≡ part (get_or ms (a * n + s) still) → (k : ℕ) → part (get_or after k still) ≡ part (get_or ms k still)
  same_part e k =
      elim (cases_eq k (a * n + s)) [
        | inl at ↦ rw at (ap part here ∙ e)
        | inr ne ↦ ap part (get_or-set_other ms (a * n + s) k y still ne)
      ]

  stays : part y ≡ part (get_or ms (a * n + s) still) → (b t : ℕ) → numbers after b t ≡ numbers ms b t
  stays e b t = cond_same (within m n b t) (within m n b t) _ _ refl (λ w. ap (net (f b t)) (same_part e (b * n + t)))

  settled_changes : Settled (f a s) (part y) → (b t : ℕ) → within m n b t ≡ true → Settled (f b t) (part (get_or ms (b * n + t) still)) → Settled (f b t) (part (get_or after (b * n + t) still))
  settled_changes st b t w old =
      elim (cases_eq (b * n + t) (a * n + s)) [
        | inl e ↦ let p = place_apart n a s b t ls (within_parts m n b t w).1 (sym e) in rw (← p.0, ← p.1) (rw here st)
        | inr ne ↦ rw (get_or-set_other ms (a * n + s) (b * n + t) y still ne) old
      ]

  settled_stays : part y ≡ part (get_or ms (a * n + s) still) → (b t : ℕ) → Settled (f b t) (part (get_or ms (b * n + t) still)) → Settled (f b t) (part (get_or after (b * n + t) still))
  settled_stays e b t old = rw (same_part e (b * n + t)) old

-- The line (a, s) of an opening o, with the movement q at its index i.
module _ (o : Holdings) (m n a s i : ℕ) (ms : List Movement) (q : Movement) (len : length ms ≡ m * n) (p : Placed m n a s i) (read : q ≡ get_or ms i q) where
  fits : a * n + s < length ms
  fits = omega (arith, p.index, p.below)

  inside : within m n a s ≡ true
  inside = is_within m n a s p.account p.security

  at : q ≡ get_or ms (a * n + s) still
  at = read ∙ (get_or_default ms i q still (omega (arith, p.below)) ∙ ap (λ j. get_or ms j still) p.index)

  -- Its movements, as the code holds them, are settled.
  pub free_read : (k : ℕ) → k ≡ o.free a s → SFits w64 q.free → FreeSettled o m n ms → Settled k (to_z w64 (of_z w64 q.free))
  free_read k e sf free = rw (e, to_z-of_z w64 q.free sf, ap (λ (x : Movement). x.free) at) (free (a, s) inside)

  pub reserved_read : (k : ℕ) → k ≡ o.reserved a s → SFits w64 q.reserved → ReservedSettled o m n ms → Settled k (to_z w64 (of_z w64 q.reserved))
  reserved_read k e sf reserved = rw (e, to_z-of_z w64 q.reserved sf, ap (λ (x : Movement). x.reserved) at) (reserved (a, s) inside)

  -- The movement z makes v of the number k of the opening.
  module _ (z : ℤ) (k v : ℕ) (sf : SFits w64 z) (made : (pos k +ℤ z) ≡ pos v) (lv : v ≤ the_cap) where
    abbrev pub free_moves : Movement
    free_moves = record { free = to_z w64 (of_z w64 z); reserved = q.reserved }

    abbrev pub reserved_moves : Movement
    reserved_moves = record { free = q.free; reserved = to_z w64 (of_z w64 z) }

    settled : (x : ℕ) → k ≡ x → x ≤ the_cap → Settled x (to_z w64 (of_z w64 z)) × (net x (to_z w64 (of_z w64 z)) ≡ v)
    settled x e lx = rw (to_z-of_z w64 z sf) (settles x k v z e made lx lv)

    pub moved_free : k ≡ o.free a s → o.free a s ≤ the_cap → moved o m n (set ms i free_moves) ≡ with_free (moved o m n ms) a s v
    moved_free e lx =
        rw p.index (same_holdings (moved o m n (set ms (a * n + s) free_moves)) (with_free (moved o m n ms) a s v) refl refl
        (changes m n o.free (λ x. x.free) ms a s free_moves p.security fits v inside (settled (o.free a s) e lx).1)
        (stays m n o.reserved (λ x. x.reserved) ms a s free_moves p.security fits (ap (λ (x : Movement). x.reserved) at)))

    pub moved_reserved : k ≡ o.reserved a s → o.reserved a s ≤ the_cap → moved o m n (set ms i reserved_moves) ≡ with_reserved (moved o m n ms) a s v
    moved_reserved e lx =
        rw p.index (same_holdings (moved o m n (set ms (a * n + s) reserved_moves)) (with_reserved (moved o m n ms) a s v) refl refl
        (stays m n o.free (λ x. x.free) ms a s reserved_moves p.security fits (ap (λ (x : Movement). x.free) at))
        (changes m n o.reserved (λ x. x.reserved) ms a s reserved_moves p.security fits v inside (settled (o.reserved a s) e lx).1))

    -- A free number's movement leaves all numbers settled, and so does a reserved number's.
    module _ (free : FreeSettled o m n ms) (reserved : ReservedSettled o m n ms) where
      pub settled_free : k ≡ o.free a s → o.free a s ≤ the_cap → FreeSettled o m n (set ms i free_moves) × ReservedSettled o m n (set ms i free_moves)
      settled_free e lx =
          rw p.index (
            λ l w. settled_changes m n o.free (λ x. x.free) ms a s free_moves p.security fits (settled (o.free a s) e lx).0 l.0 l.1 w (free l w),
            λ l w. settled_stays m n o.reserved (λ x. x.reserved) ms a s free_moves p.security fits (ap (λ (x : Movement). x.reserved) at) l.0 l.1 (reserved l w),
          )

      pub settled_reserved : k ≡ o.reserved a s → o.reserved a s ≤ the_cap → FreeSettled o m n (set ms i reserved_moves) × ReservedSettled o m n (set ms i reserved_moves)
      settled_reserved e lx =
          rw p.index (
            λ l w. settled_stays m n o.free (λ x. x.free) ms a s reserved_moves p.security fits (ap (λ (x : Movement). x.free) at) l.0 l.1 (free l w),
            λ l w. settled_changes m n o.reserved (λ x. x.reserved) ms a s reserved_moves p.security fits (settled (o.reserved a s) e lx).0 l.0 l.1 w (reserved l w),
          )

-- What a setting asks keeps the new number within the cap.
module _ (o : Holdings) (m n a s v : ℕ) (ms : List Movement) (la : a < m) (ls : s < n) where
  pub free_bound : FreeSettled o m n ms → (v ≤ (moved o m n ms).free a s) ⊎ (v ≤ the_cap) → v ≤ the_cap
  free_bound free h =
      let w = is_within m n a s la ls in
      elim h [ inl le ↦ omega (arith, cond-true (within m n a s) (net (o.free a s) (free_movement n ms a s)) 0 w, (free (a, s) w).2) | inr le ↦ le ]

  pub reserved_bound : ReservedSettled o m n ms → (v ≤ (moved o m n ms).reserved a s) ⊎ (v ≤ the_cap) → v ≤ the_cap
  reserved_bound reserved h =
      let w = is_within m n a s la ls in
      elim h [ inl le ↦ omega (arith, cond-true (within m n a s) (net (o.reserved a s) (reserved_movement n ms a s)) 0 w, (reserved (a, s) w).2) | inr le ↦ le ]
