-- What each function makes of the places.
use Rattle.std.proofs.Common.{◌≡◌, ℕ, suc, ◌+◌, ◌-◌, ◌<◌, Bool, true, false, cond, List, [], ◌∷◌, ◌++◌, length, get_or, take, drop, set, Some, None, Ok, Err, Option, sym, refl, ap, ◌∙◌, subst, ⊎_elim, add-one, arith, MatchOption}
use borrow.Rule.Slice.PartMut.{put_mid}
use Rattle.std.proofs.lemmas.List.{drop_all, drop_more, append-nil, take_rest, length-drop}
use Rattle.std.proofs.lemmas.Option.{slice_get-get_or}
use Rattle.std.proofs.lemmas.Bool.{cases_lt, cond-true, cond-false, false≢true}
use Rattle.std.specs.List.{slice_get}
use Rattle.ordered.specs.Answers.{Put, Taken, Replaced, equal_to}
use Rattle.ordered.specs.Places.{TotalOrder, SameRank, records, full, packed, present, ascending, Ordered}
use Rattle.ordered.specs.Ranks.{rank, Fits}
use Rattle.ordered.specs.declared.list.PutRefusal.TheVariants.{Present, Full}
use Rattle.ordered.proofs.Ascending.{same_rank, ascending_insert, ascending_removed, ascending_set}
use Rattle.ordered.proofs.Moves.{rank_room, opened_records, opened_packed, closed_records, closed_packed, closed_room, closed_same, records_set, packed_set}
use Rattle.ordered.proofs.Standing.{read_at, read_past, read_within, read_is}

-- a part of a list that reaches to its end, written anew
pub whole : {A : Type 0} (ps rest : List A) (at : ℕ) → put_mid at (length ps - at) ps rest ≡ take at ps ++ rest
whole ps rest at =
    let e : drop (length ps - at) (drop at ps) ≡ [] = drop_all (length ps - at) (drop at ps) (simp length-drop (omega arith)) in
    ap (λ l. take at ps ++ (rest ++ l)) e ∙ ap (λ l. take at ps ++ l) (append-nil rest)

turned : {A : Type 0} (q : List A) (a : A) → 0 < length q → set (drop (length q - 1) q ++ take (length q - 1) q) 0 a ≡ a ∷ take (length q - 1) q
turned q a h =
    let l : length q - 1 < length q = omega arith in
    let e = drop_more q (length q - 1) a l in
    let n : drop (length q - 1 + 1) q ≡ [] = drop_all (length q - 1 + 1) q (omega arith) in
    ap (λ z. set (z ++ take (length q - 1) q) 0 a) e ∙ ap (λ z. a ∷ (z ++ take (length q - 1) q)) n

pub opened_is : {A : Type 0} (ps rot : List A) (at : ℕ) (a : A) → at < length ps → rot ≡ drop (length (take (length ps - at) (drop at ps)) - 1) (take (length ps - at) (drop at ps)) ++ take (length (take (length ps - at) (drop at ps)) - 1) (take (length ps - at) (drop at ps)) → put_mid at (length ps - at) ps (set rot 0 a) ≡ take at ps ++ a ∷ take (length ps - at - 1) (drop at ps)
opened_is ps rot at a h e =
    let f : rot ≡ drop (length (drop at ps) - 1) (drop at ps) ++ take (length (drop at ps) - 1) (drop at ps) =
    e ∙ ap (λ q. drop (length q - 1) q ++ take (length q - 1) q) (take_rest ps at) in
    let n = length-drop at ps in
    whole ps (set rot 0 a) at
    ∙ ap (λ l. take at ps ++ set l 0 a) f
    ∙ ap (λ l. take at ps ++ l) (turned (drop at ps) a (omega arith))
    ∙ ap (λ m. take at ps ++ a ∷ take (m - 1) (drop at ps)) n

pub closed_is : {A : Type 0} (ps rot : List A) (at : ℕ) (a : A) → at < length ps → rot ≡ drop 1 (set (take (length ps - at) (drop at ps)) 0 a) ++ take 1 (set (take (length ps - at) (drop at ps)) 0 a) → put_mid at (length ps - at) ps rot ≡ take at ps ++ (drop (at + 1) ps ++ a ∷ [])
closed_is ps rot at a h e =
    let f = e ∙ ap (λ q. drop 1 (set q 0 a) ++ take 1 (set q 0 a)) (take_rest ps at ∙ drop_more ps at a h) in
    whole ps rot at ∙ ap (λ l. take at ps ++ l) f

by_found : {X : Type 0} {P : Type 0} {Q : X → Type 0} (r : Option X) → (r ≡ None → P) → ((x : X) → r ≡ Some x → Q x) → MatchOption r P Q
by_found None p q = p refl
by_found (Some x) p q = q x refl

pub fits_within : {X : Type 0} {lt : X → X → Bool} {x : X} {ps : List (Option X)} {at : ℕ} → Fits lt x ps at → at < length ps
fits_within {X} {lt} {x} {ps} w = let h = rank_room lt x ps w.room in let e = w.belongs in omega arith

module _ {X : Type 0} (lt : X → X → Bool) (ps : List (Option X)) (o : Ordered lt ps) where
  pub opened : TotalOrder lt → (x : X) (at : ℕ) (qs : List (Option X)) → Fits lt x ps at → qs ≡ take at ps ++ Some x ∷ take (length ps - at - 1) (drop at ps) → Put lt x ps (Ok tt) qs
  opened t x at qs w e =
      let n = rank lt x (records ps) in
      let h = rank_room lt x ps w.room in
      let f = e ∙ ap (λ m. take m ps ++ Some x ∷ take (length ps - m - 1) (drop m ps)) w.belongs in
      let r = ap records f ∙ opened_records lt x ps (length ps - n - 1) w.room (omega arith) in
      record {
        answer = sym (cond-false (present lt x (records ps)) (Err Present) (cond (full ps) (Err Full) (Ok tt)) w.absent ∙ cond-false (full ps) (Err Full) (Ok tt) w.room);
        after = r;
        stays = (
          ap packed f ∙ opened_packed lt x ps (length ps - n - 1) w.room o.0,
          ap (ascending lt) r ∙ ascending_insert lt t x (records ps) o.1 w.absent,
        );
      }

  pub closed : (i : ℕ) (r : Option X) (qs : List (Option X)) → i < length ps → qs ≡ take i ps ++ (drop (i + 1) ps ++ None ∷ []) → slice_get ps i ≡ Some r → Taken lt i ps r qs
  closed i r qs h e v =
      let f : qs ≡ take i ps ++ (drop (suc i) ps ++ None ∷ []) = e ∙ ap (λ n. take i ps ++ (drop n ps ++ None ∷ [])) (add-one i) in
      let a = read_at ps i r o.0 v in
      let s = ap records f ∙ closed_records ps i o.0 h in
      record {
        answer = a;
        after = s;
        room = by_found r (λ n. f ∙ closed_same ps i o.0 h (sym a ∙ n)) (λ _ _. ap full f ∙ closed_room ps i);
        stays = (ap packed f ∙ closed_packed ps i o.0 h, ap (ascending lt) s ∙ ascending_removed lt i (records ps) o.1);
      }

  pub equal_within : (i : ℕ) (x : X) → true ≡ equal_to lt x (slice_get (records ps) i) → i < length ps
  equal_within i x b =
      ⊎_elim (λ h. h) (λ h. absurd (false≢true (ap (equal_to lt x) (sym (read_past ps i h)) ∙ sym b))) (cases_lt i (length ps))

  pub unequal : (i : ℕ) (x : X) → false ≡ equal_to lt x (slice_get (records ps) i) → Replaced lt i x ps None ps
  unequal i x b =
      record { answer = sym (cond-false (equal_to lt x (slice_get (records ps) i)) (slice_get (records ps) i) None (sym b)); after = refl; stays = o }

  written : TotalOrder lt → (i : ℕ) (x : X) (r : Option X) → r ≡ slice_get (records ps) i → true ≡ equal_to lt x r → Replaced lt i x ps r (set ps i (Some x))
  written t i x None a b = absurd (false≢true (sym b))
  written t i x (Some y) a b =
      let h = read_within (records ps) i y (sym a) in
      let s = records_set ps i x h in
      let w : SameRank lt x (get_or (records ps) i x) = subst (SameRank lt x) (sym (read_is (records ps) i y x (sym a))) (same_rank lt t x y (sym b)) in
      record {
        answer = sym (cond-true (equal_to lt x (Some y)) (Some y) None (sym b)) ∙ ap (λ q. cond (equal_to lt x q) q None) a;
        after = s;
        stays = (packed_set ps i x h o.0, ap (ascending lt) s ∙ ascending_set lt (records ps) i x x w o.1);
      }

  pub equal : TotalOrder lt → (i : ℕ) (x : X) (r : Option X) (qs : List (Option X)) → true ≡ equal_to lt x (slice_get (records ps) i) → r ≡ get_or ps i None → qs ≡ set ps i (Some x) → Replaced lt i x ps r qs
  equal t i x r qs b v e =
      let a = v ∙ read_at ps i (get_or ps i None) o.0 (slice_get-get_or ps i None (equal_within i x b)) in
      subst (Replaced lt i x ps r) (sym e) (written t i x r a (b ∙ ap (equal_to lt x) (sym a)))
