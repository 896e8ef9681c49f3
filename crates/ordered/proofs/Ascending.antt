-- What the laws of an order say of strictly ascending records.
use Rattle.std.proofs.Common.{◌≡◌, ℕ, zero, suc, Bool, true, false, not, List, [], ◌∷◌, get_or, set, sym, refl, ◌∙◌, ⊎_elim, arith}
use Rattle.std.proofs.lemmas.Bool.{and_parts, and_from, cases_Bool, both_ways, not-true}
use Rattle.std.specs.List.{remove, slice_get}
use Rattle.ordered.specs.Answers.{equal_to}
use Rattle.ordered.specs.Places.{TotalOrder, alike, SameRank, first, ascending, present, insert}
use Rattle.ordered.specs.Ranks.{rank}

same_test : (p q : Bool) → (p ≡ false → q ≡ false) → (q ≡ false → p ≡ false) → p ≡ q
same_test true true f g = refl
same_test true false f g = g refl
same_test false true f g = sym (f refl)
same_test false false f g = refl

module _ {X : Type 0} (lt : X → X → Bool) (o : TotalOrder lt) where
  pub transitive : (x y z : X) → lt x y ≡ true → lt y z ≡ true → lt x z ≡ true
  transitive x y z a b =
      ⊎_elim (λ e. e) (λ e. absurd (both_ways (lt x y) (o.chain x z y e (o.asymmetric y z b)) a)) (cases_Bool (lt x z))

  -- records that are equal in the order stand alike to every record
  pub same_rank : (x y : X) → alike lt x y ≡ true → SameRank lt x y
  same_rank x y h z =
      let p = and_parts (not (lt x y)) (not (lt y x)) h in
      let a = not-true (lt x y) p.0 in
      let b = not-true (lt y x) p.1 in (
        same_test (lt x z) (lt y z) (o.chain y x z b) (o.chain x y z a),
        same_test (lt z x) (lt z y) (λ e. o.chain z x y e a) (λ e. o.chain z y x e b),
      )

  first_through : (x y : X) (zs : List X) → lt x y ≡ true → first lt y zs ≡ true → first lt x zs ≡ true
  first_through x y [] e h = refl
  first_through x y (z ∷ zs) e h =
      let p = and_parts (lt y z) (first lt y zs) h in
      and_from (lt x z) (first lt x zs) (transitive x y z e p.0) (first_through x y zs e p.1)

  first_insert : (y x : X) (zs : List X) → lt y x ≡ true → first lt y zs ≡ true → first lt y (insert lt x zs) ≡ true
  first_insert y x [] e h = simp e
  first_insert y x (z ∷ zs) e h =
      let p = and_parts (lt y z) (first lt y zs) h in
      let q = first_insert y x zs e p.1 in
      let i = p.0 in
      let j = p.1 in
      grind arith

  pub ascending_insert : (x : X) (ys : List X) → ascending lt ys ≡ true → present lt x ys ≡ false → ascending lt (insert lt x ys) ≡ true
  ascending_insert x [] h a = refl
  ascending_insert x (y ∷ ys) h a =
      let p = and_parts (first lt y ys) (ascending lt ys) h in
      let f = p.0 in
      let t = p.1 in
      let q = first_insert y x ys in
      let r = first_through x y ys in
      let s = ascending_insert x ys t in
      grind arith

module _ {X : Type 0} (lt : X → X → Bool) where
  absent_first : (x : X) (zs : List X) → first lt x zs ≡ true → present lt x zs ≡ false
  absent_first x [] h = refl
  absent_first x (z ∷ zs) h =
      let p = and_parts (lt x z) (first lt x zs) h in
      let q = absent_first x zs p.1 in
      let e = p.0 in
      simp (e, q)

  first_removed : (y : X) (i : ℕ) (zs : List X) → first lt y zs ≡ true → first lt y (remove zs i) ≡ true
  first_removed y zero [] h = refl
  first_removed y (suc i) [] h = refl
  first_removed y zero (z ∷ zs) h = (and_parts (lt y z) (first lt y zs) h).1
  first_removed y (suc i) (z ∷ zs) h =
      let p = and_parts (lt y z) (first lt y zs) h in
      and_from (lt y z) (first lt y (remove zs i)) p.0 (first_removed y i zs p.1)

  pub ascending_removed : (i : ℕ) (xs : List X) → ascending lt xs ≡ true → ascending lt (remove xs i) ≡ true
  ascending_removed zero [] h = refl
  ascending_removed (suc i) [] h = refl
  ascending_removed zero (x ∷ xs) h = (and_parts (first lt x xs) (ascending lt xs) h).1
  ascending_removed (suc i) (x ∷ xs) h =
      let p = and_parts (first lt x xs) (ascending lt xs) h in
      and_from (first lt x (remove xs i)) (ascending lt (remove xs i)) (first_removed x i xs p.0) (ascending_removed i xs p.1)

  first_like : (x y : X) (zs : List X) → SameRank lt y x → first lt x zs ≡ true → first lt y zs ≡ true
  first_like x y [] e h = refl
  first_like x y (z ∷ zs) e h =
      let p = and_parts (lt x z) (first lt x zs) h in
      and_from (lt y z) (first lt y zs) ((e z).0 ∙ p.0) (first_like x y zs e p.1)

  first_set : (w : X) (zs : List X) (k : ℕ) (y d : X) → SameRank lt y (get_or zs k d) → first lt w zs ≡ true → first lt w (set zs k y) ≡ true
  first_set w [] k y d e h = refl
  first_set w (z ∷ zs) zero y d e h =
      let p = and_parts (lt w z) (first lt w zs) h in and_from (lt w y) (first lt w zs) ((e w).1 ∙ p.0) p.1
  first_set w (z ∷ zs) (suc k) y d e h =
      let p = and_parts (lt w z) (first lt w zs) h in and_from (lt w z) (first lt w (set zs k y)) p.0 (first_set w zs k y d e p.1)

  -- one of the same rank takes the other's place
  pub ascending_set : (xs : List X) (k : ℕ) (y d : X) → SameRank lt y (get_or xs k d) → ascending lt xs ≡ true → ascending lt (set xs k y) ≡ true
  ascending_set [] k y d e h = refl
  ascending_set (x ∷ xs) zero y d e h =
      let p = and_parts (first lt x xs) (ascending lt xs) h in
      and_from (first lt y xs) (ascending lt xs) (first_like x y xs e p.0) p.1
  ascending_set (x ∷ xs) (suc k) y d e h =
      let p = and_parts (first lt x xs) (ascending lt xs) h in
      and_from (first lt x (set xs k y)) (ascending lt (set xs k y)) (first_set x xs k y d e p.0) (ascending_set xs k y d e p.1)

-- a record equal to x in the order would stand where x belongs
pub present_at : {X : Type 0} (lt : X → X → Bool) → TotalOrder lt → (x : X) (xs : List X) → ascending lt xs ≡ true → equal_to lt x (slice_get xs (rank lt x xs)) ≡ present lt x xs
present_at lt o x [] h = refl
present_at lt o x (y ∷ ys) h =
    let p = and_parts (first lt y ys) (ascending lt ys) h in
    let f = p.0 in
    let q = present_at lt o x ys p.1 in
    let r = first_through lt o x y ys in
    let a = absent_first lt x ys in
    grind arith
