-- What the places hold once a record is put in, taken out or written over.
use Rattle.std.proofs.Common.{◌≡◌, ℕ, zero, suc, ◌+◌, ◌<◌, ◌≤◌, Bool, true, false, cond, List, [], ◌∷◌, ◌++◌, length, take, drop, set, Some, None, Option, sym, refl, ap, ◌∙◌, ⊎_elim, arith}
use Rattle.std.proofs.lemmas.Bool.{cases_Bool, cond_both, false≢true}
use Rattle.std.specs.List.{remove, slice_get}
use Rattle.ordered.specs.Places.{records, full, insert, packed, vacant}
use Rattle.ordered.specs.Ranks.{rank}
use Rattle.ordered.proofs.Standing.{few_records, room, vacant_records, vacant_packed}

module _ {X : Type 0} where
  records_take : (k : ℕ) (ps : List (Option X)) → length (records ps) ≤ k → records (take k ps) ≡ records ps
  records_take zero [] h = refl
  records_take (suc k) [] h = refl
  records_take zero (None ∷ ps) h = refl
  records_take (suc k) (None ∷ ps) h = refl
  records_take zero (Some x ∷ ps) h = absurd (omega arith)
  records_take (suc k) (Some x ∷ ps) h = ap (λ l. x ∷ l) (records_take k ps (omega arith))

  vacant_take : (k : ℕ) (ps : List (Option X)) → vacant ps ≡ true → vacant (take k ps) ≡ true
  vacant_take zero ps h = refl
  vacant_take (suc k) [] h = refl
  vacant_take (suc k) (None ∷ ps) h = vacant_take k ps h
  vacant_take (suc k) (Some x ∷ ps) h = absurd (false≢true h)

  packed_take : (k : ℕ) (ps : List (Option X)) → packed ps ≡ true → packed (take k ps) ≡ true
  packed_take zero ps h = refl
  packed_take (suc k) [] h = refl
  packed_take (suc k) (None ∷ ps) h = vacant_take k ps h
  packed_take (suc k) (Some x ∷ ps) h = packed_take k ps h

  vacant_drop : (k : ℕ) (ps : List (Option X)) → vacant ps ≡ true → vacant (drop k ps) ≡ true
  vacant_drop zero ps h = h
  vacant_drop (suc k) [] h = refl
  vacant_drop (suc k) (None ∷ ps) h = vacant_drop k ps h
  vacant_drop (suc k) (Some x ∷ ps) h = absurd (false≢true h)

  pub vacant_append : (ps qs : List (Option X)) → vacant ps ≡ true → vacant qs ≡ true → vacant (ps ++ qs) ≡ true
  vacant_append [] qs h k = k
  vacant_append (None ∷ ps) qs h k = vacant_append ps qs h k
  vacant_append (Some x ∷ ps) qs h k = absurd (false≢true h)

  records_push : (ps : List (Option X)) → records (ps ++ None ∷ []) ≡ records ps
  records_push [] = refl
  records_push (None ∷ ps) = refl
  records_push (Some x ∷ ps) = ap (λ l. x ∷ l) (records_push ps)

  packed_push : (ps : List (Option X)) → packed ps ≡ true → packed (ps ++ None ∷ []) ≡ true
  packed_push [] h = refl
  packed_push (None ∷ ps) h = vacant_append ps (None ∷ []) h refl
  packed_push (Some x ∷ ps) h = packed_push ps h

-- x put in where it belongs, with as many places as before
module _ {X : Type 0} (lt : X → X → Bool) (x : X) where
  rank_within : (xs : List X) → rank lt x xs ≤ length xs
  rank_within [] = omega arith
  rank_within (y ∷ ys) = let r = rank_within ys in cond_both (lt y x) (suc (rank lt x ys)) 0 (λ n. n ≤ suc (length ys)) (λ _. omega arith) (λ _. omega arith)

  pub rank_room : (ps : List (Option X)) → full ps ≡ false → rank lt x (records ps) < length ps
  rank_room ps f = let a = rank_within (records ps) in let b = room ps f in omega arith

  pub opened_records : (ps : List (Option X)) (k : ℕ) → full ps ≡ false → length ps ≡ rank lt x (records ps) + 1 + k → records (take (rank lt x (records ps)) ps ++ Some x ∷ take k (drop (rank lt x (records ps)) ps)) ≡ insert lt x (records ps)
  opened_records [] k f n = absurd (false≢true (sym f))
  opened_records (None ∷ ps) k f n = ap (λ l. x ∷ l) (records_take k (None ∷ ps) (omega arith))
  opened_records (Some y ∷ ps) k f n =
      ⊎_elim
      (λ (e : lt y x ≡ true). let m = ap (λ b. cond b (suc (rank lt x (records ps))) 0) e in simp e (ap (λ l. y ∷ l) (opened_records ps k f (omega (arith, m)))))
      (λ (e : lt y x ≡ false). let m = ap (λ b. cond b (suc (rank lt x (records ps))) 0) e in let r = room ps f in simp e (ap (λ l. x ∷ l) (records_take k (Some y ∷ ps) (omega (arith, m)))))
      (cases_Bool (lt y x))

  pub opened_packed : (ps : List (Option X)) (k : ℕ) → full ps ≡ false → packed ps ≡ true → packed (take (rank lt x (records ps)) ps ++ Some x ∷ take k (drop (rank lt x (records ps)) ps)) ≡ true
  opened_packed [] k f p = absurd (false≢true (sym f))
  opened_packed (None ∷ ps) k f p = packed_take k (None ∷ ps) p
  opened_packed (Some y ∷ ps) k f p =
      ⊎_elim (λ (e : lt y x ≡ true). simp e (opened_packed ps k f p)) (λ (e : lt y x ≡ false). simp e (packed_take k (Some y ∷ ps) p)) (cases_Bool (lt y x))

-- what stood at a place taken out
module _ {X : Type 0} where
  pub closed_records : (ps : List (Option X)) (i : ℕ) → packed ps ≡ true → i < length ps → records (take i ps ++ (drop (suc i) ps ++ None ∷ [])) ≡ remove (records ps) i
  closed_records [] i p h = absurd (omega arith)
  closed_records (None ∷ ps) zero p h = records_push ps ∙ vacant_records ps p
  closed_records (None ∷ ps) (suc i) p h = refl
  closed_records (Some y ∷ ps) zero p h = records_push ps
  closed_records (Some y ∷ ps) (suc i) p h = ap (λ l. y ∷ l) (closed_records ps i p (omega arith))

  pub closed_packed : (ps : List (Option X)) (i : ℕ) → packed ps ≡ true → i < length ps → packed (take i ps ++ (drop (suc i) ps ++ None ∷ [])) ≡ true
  closed_packed [] i p h = absurd (omega arith)
  closed_packed (None ∷ ps) zero p h = packed_push ps (vacant_packed ps p)
  closed_packed (None ∷ ps) (suc i) p h =
      vacant_append (take i ps) (drop (suc i) ps ++ None ∷ []) (vacant_take i ps p) (vacant_append (drop (suc i) ps) (None ∷ []) (vacant_drop (suc i) ps p) refl)
  closed_packed (Some y ∷ ps) zero p h = packed_push ps p
  closed_packed (Some y ∷ ps) (suc i) p h = closed_packed ps i p (omega arith)

  full_end : (ps : List (Option X)) → full (ps ++ None ∷ []) ≡ false
  full_end [] = refl
  full_end (None ∷ ps) = refl
  full_end (Some x ∷ ps) = full_end ps

  full_after : (ps qs : List (Option X)) → full qs ≡ false → full (ps ++ qs) ≡ false
  full_after [] qs h = h
  full_after (None ∷ ps) qs h = refl
  full_after (Some x ∷ ps) qs h = full_after ps qs h

  pub closed_room : (ps : List (Option X)) (i : ℕ) → full (take i ps ++ (drop (suc i) ps ++ None ∷ [])) ≡ false
  closed_room ps i = full_after (take i ps) (drop (suc i) ps ++ None ∷ []) (full_end (drop (suc i) ps))

  vacant_push : (ps : List (Option X)) → vacant ps ≡ true → ps ++ None ∷ [] ≡ None ∷ ps
  vacant_push [] h = refl
  vacant_push (None ∷ ps) h = ap (λ l. None ∷ l) (vacant_push ps h)
  vacant_push (Some x ∷ ps) h = absurd (false≢true h)

  vacant_closed : (ps : List (Option X)) (i : ℕ) → vacant ps ≡ true → i < length ps → take i ps ++ (drop (suc i) ps ++ None ∷ []) ≡ ps
  vacant_closed [] i v h = absurd (omega arith)
  vacant_closed (None ∷ ps) zero v h = vacant_push ps v
  vacant_closed (None ∷ ps) (suc i) v h = ap (λ l. None ∷ l) (vacant_closed ps i v (omega arith))
  vacant_closed (Some x ∷ ps) i v h = absurd (false≢true v)

  -- where none stood there, nothing moved
  pub closed_same : (ps : List (Option X)) (i : ℕ) → packed ps ≡ true → i < length ps → slice_get (records ps) i ≡ None → take i ps ++ (drop (suc i) ps ++ None ∷ []) ≡ ps
  closed_same [] i p h e = absurd (omega arith)
  closed_same (None ∷ ps) i p h e = vacant_closed (None ∷ ps) i p h
  closed_same (Some y ∷ ps) zero p h e = absurd (let z : ◌≡◌ {A = ℕ} 0 1 = cc in omega arith)
  closed_same (Some y ∷ ps) (suc i) p h e = ap (λ l. Some y ∷ l) (closed_same ps i p (omega arith) e)

  removed_all : (xs : List X) (i : ℕ) → length xs ≤ i → remove xs i ≡ xs
  removed_all [] zero h = refl
  removed_all [] (suc i) h = refl
  removed_all (x ∷ xs) zero h = absurd (omega arith)
  removed_all (x ∷ xs) (suc i) h = ap (λ l. x ∷ l) (removed_all xs i (omega arith))

  pub removed_past : (ps : List (Option X)) (i : ℕ) → length ps ≤ i → records ps ≡ remove (records ps) i
  removed_past ps i h = let r = few_records ps in sym (removed_all (records ps) i (omega arith))

  -- a record written over another
  pub records_set : (ps : List (Option X)) (k : ℕ) (y : X) → k < length (records ps) → records (set ps k (Some y)) ≡ set (records ps) k y
  records_set [] k y h = absurd (omega arith)
  records_set (None ∷ ps) k y h = absurd (omega arith)
  records_set (Some x ∷ ps) zero y h = refl
  records_set (Some x ∷ ps) (suc k) y h = ap (λ l. x ∷ l) (records_set ps k y (omega arith))

  pub packed_set : (ps : List (Option X)) (k : ℕ) (y : X) → k < length (records ps) → packed ps ≡ true → packed (set ps k (Some y)) ≡ true
  packed_set [] k y h p = absurd (omega arith)
  packed_set (None ∷ ps) k y h p = absurd (omega arith)
  packed_set (Some x ∷ ps) zero y h p = p
  packed_set (Some x ∷ ps) (suc k) y h p = packed_set ps k y (omega arith) p
