-- What is read off the places.
use Rattle.std.proofs.Common.{◌≡◌, ℕ, zero, suc, ◌+◌, ◌<◌, ◌≤◌, Bool, true, false, List, [], ◌∷◌, length, get_or, take, drop, is_some, Some, None, Option, sym, refl, ap, ◌∙◌, ⊎_elim, arith}
use Rattle.std.proofs.lemmas.Bool.{and_parts, both_ways, cases_lt, false≢true}
use Rattle.std.proofs.lemmas.List.{get_or-drop, get_or-take, length-drop, length-take}
use Rattle.std.proofs.lemmas.List.Sums.{prefix_len-le-length, prefix_len_is, prefix_len_passes, prefix_len_stops}
use Rattle.std.specs.List.{list_all, prefix_len}
use Rattle.std.specs.List.Sorted.{IsPartitionedBy, IsPartitionPoint}
use Rattle.ordered.specs.Places.{TotalOrder, ascending, first, full, packed, records, vacant}
use Rattle.ordered.specs.Ranks.{held_before, rank}
use Rattle.ordered.proofs.Ascending.{transitive}

module _ {X : Type 0} where
  pub counted : (ps : List (Option X)) → prefix_len is_some ps ≡ length (records ps)
  counted [] = refl
  counted (None ∷ ps) = refl
  counted (Some x ∷ ps) = ap (λ n. 1 + n) (counted ps) ∙ omega arith

  pub filled : (ps : List (Option X)) → list_all is_some ps ≡ full ps
  filled [] = refl
  filled (None ∷ ps) = refl
  filled (Some x ∷ ps) = filled ps

  ranked : (lt : X → X → Bool) (x : X) (ps : List (Option X)) → prefix_len (held_before lt x) ps ≡ rank lt x (records ps)
  ranked lt x [] = refl
  ranked lt x (None ∷ ps) = refl
  ranked lt x (Some y ∷ ps) = let i = ranked lt x ps in grind arith

-- those that come before x stand in front
module _ {X : Type 0} (lt : X → X → Bool) (o : TotalOrder lt) (x : X) where
  none_behind : (ps : List (Option X)) (j : ℕ) (d : Option X) → vacant ps ≡ true → j < length ps → held_before lt x (get_or ps j d) ≡ false
  none_behind [] j d v h = absurd (omega arith)
  none_behind (None ∷ ps) zero d v h = refl
  none_behind (None ∷ ps) (suc j) d v h = none_behind ps j d v (omega arith)
  none_behind (Some y ∷ ps) j d v h = absurd (false≢true v)

  before_behind : (y : X) (ps : List (Option X)) (j : ℕ) (d : Option X) → packed ps ≡ true → first lt y (records ps) ≡ true → j < length ps → held_before lt x (get_or ps j d) ≡ true → lt y x ≡ true
  before_behind y [] j d p f h e = absurd (omega arith)
  before_behind y (None ∷ ps) zero d p f h e = absurd (false≢true e)
  before_behind y (None ∷ ps) (suc j) d p f h e = absurd (false≢true (sym (none_behind ps j d p (omega arith)) ∙ e))
  before_behind y (Some z ∷ ps) zero d p f h e = transitive lt o y z x (and_parts (lt y z) (first lt y (records ps)) f).0 e
  before_behind y (Some z ∷ ps) (suc j) d p f h e =
      before_behind y ps j d p (and_parts (lt y z) (first lt y (records ps)) f).1 (omega arith) e

  pub partitioned : (ps : List (Option X)) → packed ps ≡ true → ascending lt (records ps) ≡ true → IsPartitionedBy (held_before lt x) ps
  partitioned [] p a i j d le h e = absurd (omega arith)
  partitioned (None ∷ ps) p a i zero d le h e = absurd (false≢true e)
  partitioned (None ∷ ps) p a i (suc j) d le h e = absurd (false≢true (sym (none_behind ps j d p (omega arith)) ∙ e))
  partitioned (Some y ∷ ps) p a zero zero d le h e = e
  partitioned (Some y ∷ ps) p a zero (suc j) d le h e =
      before_behind y ps j d p (and_parts (first lt y (records ps)) (ascending lt (records ps)) a).0 (omega arith) e
  partitioned (Some y ∷ ps) p a (suc i) zero d le h e = absurd (omega arith)
  partitioned (Some y ∷ ps) p a (suc i) (suc j) d le h e =
      partitioned ps p (and_parts (first lt y (records ps)) (ascending lt (records ps)) a).1 i j d (omega arith) (omega arith) e

pub rank_is : {X : Type 0} (lt : X → X → Bool) (x : X) (ps : List (Option X)) (i : ℕ) → i ≤ length ps → IsPartitionPoint (λ p. held_before lt x p ≡ true) (λ p. held_before lt x p ≡ false) ps i → i ≡ rank lt x (records ps)
rank_is lt x ps i h w =
    sym (prefix_len_is (held_before lt x) ps i None h (λ k l. w.0 k None (omega arith) l) (λ l. w.1 i None (omega arith) l)) ∙ ranked lt x ps

-- how far the place of x is, by one place that is asked
module _ {X : Type 0} (lt : X → X → Bool) (x : X) (ps : List (Option X)) where
  pub rank_in_places : rank lt x (records ps) ≤ length ps
  rank_in_places = omega (arith, ranked lt x ps, prefix_len-le-length (held_before lt x) ps)

  module _ (k : ℕ) (q : Option X) (a : q ≡ get_or ps k q) where
    pub rank_stops : held_before lt x q ≡ false → rank lt x (records ps) ≤ k
    rank_stops e =
        ⊎_elim
        (λ (h : k < rank lt x (records ps)). absurd (both_ways (held_before lt x q) e (ap (held_before lt x) a ∙ prefix_len_passes (held_before lt x) ps k q (omega (arith, ranked lt x ps)))))
        (λ h. h)
        (cases_lt k (rank lt x (records ps)))

    pub rank_passes : IsPartitionedBy (held_before lt x) ps → k < length ps → held_before lt x q ≡ true → k < rank lt x (records ps)
    rank_passes w l e =
        let n = prefix_len (held_before lt x) ps in
        ⊎_elim
        (λ (h : k < n). omega (arith, ranked lt x ps))
        (λ (h : n ≤ k). absurd (both_ways (held_before lt x (get_or ps n q)) (prefix_len_stops (held_before lt x) ps q (omega arith)) (w n k q h l (ap (held_before lt x) (sym a) ∙ e))))
        (cases_lt k n)

-- the place of x, where it is among the n places from low on
module _ {X : Type 0} (lt : X → X → Bool) (x : X) where
  rank_front : (ps : List (Option X)) (n : ℕ) → rank lt x (records ps) ≤ n → rank lt x (records (take n ps)) ≡ rank lt x (records ps)
  rank_front [] zero h = refl
  rank_front [] (suc n) h = refl
  rank_front (None ∷ ps) zero h = refl
  rank_front (None ∷ ps) (suc n) h = refl
  rank_front (Some y ∷ ps) zero h = omega arith
  rank_front (Some y ∷ ps) (suc n) h = let i = rank_front ps n in grind arith

  pub rank_part : (ps : List (Option X)) (low n : ℕ) → low ≤ rank lt x (records ps) → rank lt x (records ps) ≤ low + n → low + rank lt x (records (take n (drop low ps))) ≡ rank lt x (records ps)
  rank_part ps zero n a b = omega (arith, rank_front ps n (omega arith))
  rank_part [] (suc low) n a b = absurd (omega arith)
  rank_part (None ∷ ps) (suc low) n a b = absurd (omega arith)
  rank_part (Some y ∷ ps) (suc low) n a b = let i = rank_part ps low n in grind arith

pub partitioned_part : {X : Type 0} (p : X → Bool) (xs : List X) (low n : ℕ) → IsPartitionedBy p xs → IsPartitionedBy p (take n (drop low xs))
partitioned_part {X} p xs low n w i j d le h e =
    let l : length (take n (drop low xs)) ≤ n = omega (arith, length-take n (drop low xs)) in
    let m : low + j < length xs = omega (arith, length-take n (drop low xs), length-drop low xs) in
    let at : (k : ℕ) → k < n → get_or (take n (drop low xs)) k d ≡ get_or xs (low + k) d = λ k g. get_or-take n (drop low xs) k d g ∙ get_or-drop low xs k d in
    ap p (at i (omega arith)) ∙ w (low + i) (low + j) d (omega arith) m (ap p (sym (at j (omega arith))) ∙ e)
