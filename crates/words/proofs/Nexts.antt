-- What one `next` gives and leaves.
use Rattle.std.proofs.Common.{◌≡◌, ℕ, suc, ◌+◌, ◌<◌, ◌≤◌, cond, leb, List, [], ◌∷◌, length, take, drop, Some, sym, refl, ap, ◌∙◌, ⊎_elim, arith}
use Rattle.std.proofs.lemmas.List.{length-drop, drop-drop}
use Rattle.std.proofs.lemmas.Bool.{cond-true, cond-false, le-leb, lt-leb, cases_lt}
use Rattle.words.specs.Parts.{words, until}
use Rattle.words.specs.Reading.{Left, first, step}
use Rattle.words.proofs.Splits.{split_more, split_last}

-- the words from index at on
abbrev from : List ℕ → ℕ → List (List ℕ)
from line at = cond (leb at (length line)) (words (drop at line)) []

last_word : (cs : List ℕ) → length cs ≤ until 32 cs → words cs ≡ take (until 32 cs) cs ∷ []
last_word [] h = refl
last_word (c ∷ cs) h = split_last 32 ([] ∷ []) (λ _. refl) c cs h

module _ (line : List ℕ) (at n p : ℕ) (bytes : List ℕ) (within : at ≤ length line) (found : n ≡ until 32 (drop at line)) (cut : bytes ≡ take n (drop at line)) where
  cuts : bytes ≡ take (until 32 (drop at line)) (drop at line)
  cuts = cut ∙ ap (λ k. take k (drop at line)) found

  split : words (drop at line) ≡ bytes ∷ from line (at + n + 1)
  split =
      let long = length-drop at line in
      ⊎_elim
      (λ (h : until 32 (drop at line) < length (drop at line)).
      let here : at + suc (until 32 (drop at line)) ≡ at + n + 1 = omega (arith, found) in
      let tail : words (drop (suc (until 32 (drop at line))) (drop at line)) ≡ from line (at + n + 1) = ap words (drop-drop (suc (until 32 (drop at line))) at line ∙ ap (λ k. drop k line) here) ∙ sym (cond-true (leb (at + n + 1) (length line)) _ [] (le-leb (at + n + 1) (length line) (omega (arith, found, long)))) in
      split_more 32 ([] ∷ []) (drop at line) h ∙ (λ i. sym cuts i ∷ tail i))
      (λ (h : length (drop at line) ≤ until 32 (drop at line)).
      let none : [] ≡ from line (at + n + 1) = sym (cond-false (leb (at + n + 1) (length line)) (words (drop (at + n + 1) line)) [] (lt-leb (at + n + 1) (length line) (omega (arith, found, long)))) in
      last_word (drop at line) h ∙ (λ i. sym cuts i ∷ none i))
      (cases_lt (until 32 (drop at line)) (length (drop at line)))

  before : ◌≡◌ {A = Left} (from line at, p) (bytes ∷ from line (at + n + 1), p)
  before = λ i. ((cond-true (leb at (length line)) (words (drop at line)) [] (le-leb at (length line) within) ∙ split) i, p)

  pub next_given : Some (bytes, p) ≡ first (from line at, p)
  next_given = sym (ap first before)

  pub next_after : ◌≡◌ {A = Left} (from line (at + n + 1), p + 1) (step (from line at, p))
  next_after = sym (ap step before)
