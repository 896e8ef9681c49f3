-- Which record stands at a place, and how many there are: also for crates that read the memory of an ordered list themselves.
use Rattle.std.proofs.Common.{◌≡◌, ℕ, zero, suc, ◌<◌, ◌≤◌, true, false, eqb, List, [], ◌∷◌, length, get_or, Some, None, Option, sym, refl, ◌∙◌, arith}
use Rattle.std.proofs.lemmas.Option.{slice_get_past}
use Rattle.std.proofs.lemmas.Bool.{false≢true, ne_eqb}
use Rattle.std.proofs.lemmas.Bool.Decides.{nat_tests}
use Rattle.std.specs.List.{slice_get}
use Rattle.ordered.specs.Places.{records, packed, vacant, full}

eqb_suc : (m n : ℕ) → eqb (suc m) (suc n) ≡ eqb m n
eqb_suc m n = grind (arith, nat_tests)

module _ {X : Type 0} where
  none_some : {A : Type 0} (x : X) → None ≡ Some x → A
  none_some x e = absurd (let z : ◌≡◌ {A = ℕ} 0 1 = cc in omega arith)

  pub few_records : (ps : List (Option X)) → length (records ps) ≤ length ps
  few_records [] = omega arith
  few_records (None ∷ ps) = omega arith
  few_records (Some x ∷ ps) = omega (arith, few_records ps)

  pub full_by_count : (ps : List (Option X)) → full ps ≡ eqb (length (records ps)) (length ps)
  full_by_count [] = refl
  full_by_count (None ∷ ps) = sym (ne_eqb 0 (suc (length ps)) (λ e. omega arith))
  full_by_count (Some x ∷ ps) = full_by_count ps ∙ sym (eqb_suc (length (records ps)) (length ps))

  pub not_full : (ps : List (Option X)) → length (records ps) < length ps → full ps ≡ false
  not_full [] h = absurd (omega arith)
  not_full (None ∷ ps) h = refl
  not_full (Some x ∷ ps) h = not_full ps (omega arith)

  pub room : (ps : List (Option X)) → full ps ≡ false → length (records ps) < length ps
  room [] h = absurd (false≢true (sym h))
  room (None ∷ ps) h = omega arith
  room (Some x ∷ ps) h = omega (arith, room ps h)

  pub vacant_records : (ps : List (Option X)) → vacant ps ≡ true → records ps ≡ []
  vacant_records [] h = refl
  vacant_records (None ∷ ps) h = refl
  vacant_records (Some x ∷ ps) h = absurd (false≢true h)

  pub vacant_packed : (ps : List (Option X)) → vacant ps ≡ true → packed ps ≡ true
  vacant_packed [] h = refl
  vacant_packed (None ∷ ps) h = h
  vacant_packed (Some x ∷ ps) h = absurd (false≢true h)

  vacant_at : (ps : List (Option X)) (k : ℕ) (x : X) → vacant ps ≡ true → get_or ps k None ≡ Some x → ⊥
  vacant_at [] k x v e = none_some x e
  vacant_at (None ∷ ps) zero x v e = none_some x e
  vacant_at (None ∷ ps) (suc k) x v e = vacant_at ps k x v e
  vacant_at (Some y ∷ ps) k x v e = false≢true v

  -- an empty place stands behind the records
  pub at_none : (ps : List (Option X)) (k : ℕ) → get_or ps k None ≡ None → length (records ps) ≤ k
  at_none [] k e = omega arith
  at_none (None ∷ ps) k e = omega arith
  at_none (Some x ∷ ps) zero e = none_some x (sym e)
  at_none (Some x ∷ ps) (suc k) e = omega (arith, at_none ps k e)

  -- what stands at a place is the record there
  pub at_some : (ps : List (Option X)) (k : ℕ) (x d : X) → packed ps ≡ true → get_or ps k None ≡ Some x → (k < length (records ps)) × (get_or (records ps) k d ≡ x)
  at_some [] k x d p e = none_some x e
  at_some (None ∷ ps) zero x d p e = none_some x e
  at_some (None ∷ ps) (suc k) x d p e = absurd (vacant_at ps k x p e)
  at_some (Some y ∷ ps) zero x d p e = (omega arith, cc)
  at_some (Some y ∷ ps) (suc k) x d p e = let r = at_some ps k x d p e in (omega (arith, r.0), r.1)

  -- a record stands at its place
  pub there : (ps : List (Option X)) (k : ℕ) (d : X) → k < length (records ps) → get_or ps k None ≡ Some (get_or (records ps) k d)
  there [] k d h = absurd (omega arith)
  there (None ∷ ps) k d h = absurd (omega arith)
  there (Some y ∷ ps) zero d h = refl
  there (Some y ∷ ps) (suc k) d h = there ps k d (omega arith)

  vacant_read : (ps : List (Option X)) (i : ℕ) (r : Option X) → vacant ps ≡ true → slice_get ps i ≡ Some r → r ≡ None
  vacant_read [] i r v e = absurd (let z : ◌≡◌ {A = ℕ} 0 1 = cc in omega arith)
  vacant_read (None ∷ ps) zero r v e = cc
  vacant_read (None ∷ ps) (suc i) r v e = vacant_read ps i r v e
  vacant_read (Some x ∷ ps) i r v e = absurd (false≢true v)

  -- a place that is read, empty or not
  pub read_at : (ps : List (Option X)) (i : ℕ) (r : Option X) → packed ps ≡ true → slice_get ps i ≡ Some r → r ≡ slice_get (records ps) i
  read_at [] i r p e = absurd (let z : ◌≡◌ {A = ℕ} 0 1 = cc in omega arith)
  read_at (None ∷ ps) zero r p e = cc
  read_at (None ∷ ps) (suc i) r p e = vacant_read ps i r p e
  read_at (Some x ∷ ps) zero r p e = cc
  read_at (Some x ∷ ps) (suc i) r p e = read_at ps i r p e

  pub read_past : (ps : List (Option X)) (i : ℕ) → length ps ≤ i → slice_get (records ps) i ≡ None
  read_past ps i h = let r = few_records ps in slice_get_past (records ps) i (omega arith)

  -- where a record is read, the place is among the records
  pub read_within : (xs : List X) (i : ℕ) (x : X) → slice_get xs i ≡ Some x → i < length xs
  read_within [] i x e = none_some x e
  read_within (y ∷ xs) zero x e = omega arith
  read_within (y ∷ xs) (suc i) x e = omega (arith, read_within xs i x e)

  pub read_is : (xs : List X) (i : ℕ) (x d : X) → slice_get xs i ≡ Some x → get_or xs i d ≡ x
  read_is [] i x d e = none_some x e
  read_is (y ∷ xs) zero x d e = cc
  read_is (y ∷ xs) (suc i) x d e = read_is xs i x d e
