-- Sorted insertion gives the one strictly ascending list of its members.
use Rattle.std.proofs.Common.{◌≡◌, ◌+◌, Bool, true, ◌⊎◌, List, [], ◌∷◌, length, sym, refl, ap, ◌∙◌, subst, inl, inr, ⊎_elim, arith}
use Rattle.std.proofs.lemmas.Bool.{and_parts, both_ways, cond_both}
use Rattle.ordered.specs.Places.{TotalOrder, first, ascending, insert}
use Rattle.ordered.specs.Theorems.{Among, With, SortedInsertion}
use Rattle.ordered.proofs.Ascending.{ascending_insert}

module _ {X : Type 0} (lt : X → X → Bool) (x : X) where
  -- x goes in behind the first record, or before it
  two_ways : (P : List X → Type 0) (y : X) (ys : List X) → P (y ∷ insert lt x ys) → P (x ∷ y ∷ ys) → P (insert lt x (y ∷ ys))
  two_ways P y ys p q = cond_both (lt y x) (y ∷ insert lt x ys) (x ∷ y ∷ ys) P (λ _. p) (λ _. q)

  longer : (xs : List X) → length (insert lt x xs) ≡ length xs + 1
  longer [] = refl
  longer (y ∷ ys) = let r = longer ys in two_ways (λ l. length l ≡ length (y ∷ ys) + 1) y ys (omega arith) (omega arith)

  new_in : (xs : List X) → Among x (insert lt x xs)
  new_in [] = inl refl
  new_in (y ∷ ys) = two_ways (Among x) y ys (inr (new_in ys)) (inl refl)

  old_in : (z : X) (xs : List X) → Among z xs → Among z (insert lt x xs)
  old_in z [] m = absurd m
  old_in z (y ∷ ys) m = two_ways (Among z) y ys (⊎_elim inl (λ h. inr (old_in z ys h)) m) (inr m)

  others_in : (z : X) (xs : List X) → Among z (insert lt x xs) → (z ≡ x) ⊎ Among z xs
  others_in z [] m = m
  others_in z (y ∷ ys) m =
      two_ways (λ l. Among z l → (z ≡ x) ⊎ Among z (y ∷ ys)) y ys
      (λ n. ⊎_elim (λ h. inr (inl h)) (λ h. ⊎_elim inl (λ i. inr (inr i)) (others_in z ys h)) n) (λ n. n) m

module _ {X : Type 0} (lt : X → X → Bool) (o : TotalOrder lt) where
  irreflexive : (x : X) → lt x x ≡ true → ⊥
  irreflexive x h = both_ways (lt x x) (o.asymmetric x x h) h

  before_all : (x z : X) (ys : List X) → first lt x ys ≡ true → Among z ys → lt x z ≡ true
  before_all x z [] f m = absurd m
  before_all x z (y ∷ ys) f m =
      let p = and_parts (lt x y) (first lt x ys) f in
      ⊎_elim (λ e. ap (lt x) e ∙ p.0) (before_all x z ys p.1) m

  -- two strictly ascending lists of the same members are the same
  one_list : (xs ys : List X) → ascending lt xs ≡ true → ascending lt ys ≡ true → ((z : X) → Among z xs → Among z ys) → ((z : X) → Among z ys → Among z xs) → xs ≡ ys
  one_list [] [] a b f g = refl
  one_list [] (y ∷ ys) a b f g = absurd (g y (inl refl))
  one_list (x ∷ xs) [] a b f g = absurd (f x (inl refl))
  one_list (x ∷ xs) (y ∷ ys) a b f g =
      let p = and_parts (first lt x xs) (ascending lt xs) a in
      let q = and_parts (first lt y ys) (ascending lt ys) b in
      let e : x ≡ y =
      ⊎_elim (λ h. h)
      (λ h. ⊎_elim sym (λ i. absurd (both_ways (lt y x) (o.asymmetric x y (before_all x y xs p.0 i)) (before_all y x ys q.0 h))) (g y (inl refl)))
      (f x (inl refl)) in
      let to : (z : X) → Among z xs → Among z ys =
      λ z m. ⊎_elim (λ h. absurd (irreflexive x (ap (lt x) (e ∙ sym h) ∙ before_all x z xs p.0 m))) (λ h. h) (f z (inr m)) in
      let from : (z : X) → Among z ys → Among z xs =
      λ z m. ⊎_elim (λ h. absurd (irreflexive y (ap (lt y) (sym e ∙ sym h) ∙ before_all y z ys q.0 m))) (λ h. h) (g z (inr m)) in
      ap (λ w. w ∷ xs) e ∙ ap (λ l. y ∷ l) (one_list xs ys p.1 q.1 to from)

same_members : {X : Type 0} {x : X} {xs ys zs : List X} → With x xs ys → With x xs zs → (z : X) → Among z ys → Among z zs
same_members {X} {x} {xs} {ys} {zs} u v z m =
    ⊎_elim (λ e. subst (λ (w : X). Among w zs) (sym e) v.new) (v.old z) (u.others z m)

pub sorted_insertion : {X : Type 0} → SortedInsertion X
sorted_insertion lt o x xs a p =
    let s = ascending_insert lt o x xs a p in
    let w : With x xs (insert lt x xs) = record { new = new_in lt x xs; old = λ z. old_in lt x z xs; others = λ z. others_in lt x z xs } in
    record {
      sorted = s;
      longer = longer lt x xs;
      holds = w;
      only = λ ys b v. one_list lt o ys (insert lt x xs) b s (same_members v w) (same_members w v);
    }
