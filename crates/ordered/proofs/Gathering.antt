-- What the places hold once those that pass a test are taken out.
use Rattle.std.proofs.Common.{◌≡◌, ℕ, ◌+◌, ◌-◌, ◌<◌, ◌≤◌, Bool, true, false, cond, not, List, [], ◌∷◌, ◌++◌, length, get_or, take, Some, None, filter, Option, sym, refl, ap, ◌∙◌, arith, Bor, MatchOption}
use borrow.Rule.Slice.PartMut.{put_mid}
use Rattle.std.proofs.lemmas.List.Filters.{FiltersInPlace, FiltersInPlace-more_no, FiltersInPlace-more_swap}
use Rattle.std.specs.List.{SwappedAt}
use Rattle.std.specs.Option.{option_copied}
use Rattle.std.proofs.lemmas.List.{length-take-le}
use Rattle.std.proofs.lemmas.Bool.{false≢true}
use Rattle.ordered.specs.Places.{records, packed, vacant, ascending, Ordered}
use Rattle.ordered.specs.Selected.{keep_if, those, others}
use Rattle.ordered.specs.Staying.{staying}
use Rattle.ordered.proofs.Selections.{ascending_those, length_both}
use Rattle.ordered.proofs.Standing.{vacant_records, vacant_packed}
use Rattle.ordered.proofs.Steps.{whole}

module _ {X : Type 0} where
  records_keep : (b : Bool) (x : X) (ps vs : List (Option X)) → records (cond b (Some x ∷ ps) ps ++ vs) ≡ keep_if b x (records (ps ++ vs))
  records_keep true x ps vs = refl
  records_keep false x ps vs = refl

  packed_keep : (b : Bool) (x : X) (ps vs : List (Option X)) → packed (cond b (Some x ∷ ps) ps ++ vs) ≡ packed (ps ++ vs)
  packed_keep true x ps vs = refl
  packed_keep false x ps vs = refl

  length_keep : (b : Bool) (x : X) (ps : List (Option X)) (xs : List X) → length ps ≡ length xs → length (cond b (Some x ∷ ps) ps) ≡ length (keep_if b x xs)
  length_keep true x ps xs e = omega arith
  length_keep false x ps xs e = e

  emptied : (ps : List (Option X)) → packed ps ≡ true → records ps ≡ [] → vacant ps ≡ true
  emptied [] p e = refl
  emptied (None ∷ ps) p e = p
  emptied (Some x ∷ ps) p e = absurd (let z : ◌≡◌ {A = ℕ} 0 1 = cc in omega arith)

module _ {X : Type 0} where
  pub stays_by : (o : Option (Bor X)) (p : Option X) (r : Bool) (test : X → Bool) → option_copied o ≡ p → (Q : Bor X → Type 0) → MatchOption o (r ≡ false) Q → ((y : Bor X) → Q y → r ≡ not (test y.now)) → r ≡ staying test p
  stays_by None p r test e Q h f = h ∙ ap (staying test) e
  stays_by (Some y) p r test e Q h f = f y h ∙ ap (staying test) e

module _ {X : Type 0} (test : X → Bool) where
  vacant_kept : (ps : List (Option X)) → vacant ps ≡ true → filter (staying test) ps ≡ []
  vacant_kept [] v = refl
  vacant_kept (None ∷ ps) v = vacant_kept ps v
  vacant_kept (Some x ∷ ps) v = absurd (false≢true v)

  kept_records : (ps vs : List (Option X)) → packed ps ≡ true → vacant vs ≡ true → records (filter (staying test) ps ++ vs) ≡ others test (records ps)
  kept_records [] vs p v = vacant_records vs v
  kept_records (None ∷ ps) vs p v = ap (λ l. records (l ++ vs)) (vacant_kept ps p) ∙ vacant_records vs v
  kept_records (Some x ∷ ps) vs p v =
      records_keep (not (test x)) x (filter (staying test) ps) vs ∙ ap (keep_if (not (test x)) x) (kept_records ps vs p v)

  kept_packed : (ps vs : List (Option X)) → vacant vs ≡ true → packed (filter (staying test) ps ++ vs) ≡ true
  kept_packed [] vs v = vacant_packed vs v
  kept_packed (None ∷ ps) vs v = kept_packed ps vs v
  kept_packed (Some x ∷ ps) vs v =
      packed_keep (not (test x)) x (filter (staying test) ps) vs ∙ kept_packed ps vs v

  kept_count : (ps : List (Option X)) → packed ps ≡ true → length (filter (staying test) ps) ≡ length (others test (records ps))
  kept_count [] p = refl
  kept_count (None ∷ ps) p = ap length (vacant_kept ps p)
  kept_count (Some x ∷ ps) p = length_keep (not (test x)) x (filter (staying test) ps) (others test (records ps)) (kept_count ps p)

  -- one turn of the loop
  module _ (xs ys : List (Option X)) (k i : ℕ) (o : Option X) (kp : FiltersInPlace (staying test) xs ys k i) (h : i < length ys) (e : o ≡ get_or ys i o) where
    pub gather_leaves : false ≡ staying test (get_or ys i o) → FiltersInPlace (staying test) xs ys k (i + 1)
    gather_leaves s = FiltersInPlace-more_no kp h (ap (staying test) e ∙ sym s) e

    pub gather_moves : true ≡ staying test (get_or ys i o) → (zs : List (Option X)) → SwappedAt ys zs k i → FiltersInPlace (staying test) xs zs (k + 1) (i + 1)
    gather_moves s zs w = FiltersInPlace-more_swap kp h (ap (staying test) e ∙ sym s) e w

  -- xs are the places before, and ys hold in their first k places what stays
  module _ (xs ys : List (Option X)) (k : ℕ) (p : packed xs ≡ true) (f : take k ys ≡ filter (staying test) xs) (h : k ≤ length ys) where
    pub left_count : k ≡ length (others test (records xs))
    left_count = sym (length-take-le k ys h) ∙ ap length f ∙ kept_count xs p

    pub taken_count : length (records xs) ≡ length (those test (records xs)) + k
    taken_count = let a = left_count in let b = length_both test (records xs) in omega arith

    -- the places from k on are emptied
    module _ (ws : List (Option X)) (q : packed ws ≡ true) (n : records ws ≡ []) where
      rest : put_mid k (length ys - k) ys ws ≡ filter (staying test) xs ++ ws
      rest = whole ys ws k ∙ ap (λ l. l ++ ws) f

      pub left_records : records (put_mid k (length ys - k) ys ws) ≡ others test (records xs)
      left_records = ap records rest ∙ kept_records xs ws p (emptied ws q n)

      pub left_ordered : (lt : X → X → Bool) → ascending lt (records xs) ≡ true → Ordered lt (put_mid k (length ys - k) ys ws)
      left_ordered lt a = (
        ap packed rest ∙ kept_packed xs ws (emptied ws q n),
        ap (ascending lt) left_records ∙ ascending_those lt (λ x. not (test x)) (records xs) a,
      )
