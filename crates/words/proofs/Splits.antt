-- The first of the parts of some bytes, and the parts after it.
use Rattle.std.proofs.Common.{◌≡◌, ℕ, suc, ◌<◌, ◌≤◌, true, false, cond, eqb, List, [], ◌∷◌, length, take, drop, sym, refl, ap, ◌∙◌, ⊎_elim, arith}
use Rattle.std.proofs.lemmas.List.{drop_all}
use Rattle.std.proofs.lemmas.Bool.{cases_lt}
use Rattle.words.specs.Parts.{grown, parted, until, lines}

module _ (mark : ℕ) (end : List (List ℕ)) where
  -- a mark follows the first part
  pub split_more : (cs : List ℕ) → until mark cs < length cs → parted mark end cs ≡ take (until mark cs) cs ∷ parted mark end (drop (suc (until mark cs)) cs)
  split_more [] h = absurd (omega arith)
  split_more (c ∷ cs) h =
      elim (eqb c mark) as (λ b. cond b 0 (suc (until mark cs)) < suc (length cs) → cond b ([] ∷ parted mark end cs) (grown c (parted mark end cs)) ≡ take (cond b 0 (suc (until mark cs))) (c ∷ cs) ∷ parted mark end (drop (suc (cond b 0 (suc (until mark cs)))) (c ∷ cs))) [
        | true ↦ λ _. refl
        | false ↦ λ k. ap (grown c) (split_more cs (omega arith))
      ] h

  -- none does: it is the last, if a byte alone is one part
  pub split_last : ((c : ℕ) → grown c end ≡ (c ∷ []) ∷ []) → (c : ℕ) (cs : List ℕ) → suc (length cs) ≤ until mark (c ∷ cs) → parted mark end (c ∷ cs) ≡ take (until mark (c ∷ cs)) (c ∷ cs) ∷ []
  split_last one c [] h =
      elim (eqb c mark) as (λ b. 1 ≤ cond b 0 1 → cond b ([] ∷ end) (grown c end) ≡ take (cond b 0 1) (c ∷ []) ∷ []) [
        | true ↦ λ k. absurd (omega arith)
        | false ↦ λ k. one c
      ] h
  split_last one c (d ∷ cs) h =
      elim (eqb c mark) as (λ b. suc (length (d ∷ cs)) ≤ cond b 0 (suc (until mark (d ∷ cs))) → cond b ([] ∷ parted mark end (d ∷ cs)) (grown c (parted mark end (d ∷ cs))) ≡ take (cond b 0 (suc (until mark (d ∷ cs)))) (c ∷ d ∷ cs) ∷ []) [
        | true ↦ λ k. absurd (omega arith)
        | false ↦ λ k. ap (grown c) (split_last one d cs (omega arith))
      ] h

-- a text's first line, and the lines after it
pub split_line : (text : List ℕ) → 0 < length text → lines text ≡ take (until 10 text) text ∷ lines (drop (suc (until 10 text)) text)
split_line [] h = absurd (omega arith)
split_line (c ∷ cs) h =
    ⊎_elim (split_more 10 [] (c ∷ cs))
    (λ (k : length (c ∷ cs) ≤ until 10 (c ∷ cs)). split_last 10 [] (λ _. refl) c cs k ∙ ap (λ l. take (until 10 (c ∷ cs)) (c ∷ cs) ∷ lines l) (sym (drop_all (suc (until 10 (c ∷ cs))) (c ∷ cs) (omega arith))))
    (cases_lt (until 10 (c ∷ cs)) (length (c ∷ cs)))
