-- Words and lines, joined and parted again.
use Rattle.std.proofs.Common.{◌≡◌, ℕ, ◌<◌, Bool, true, false, cond, eqb, List, [], ◌∷◌, ◌++◌, length, sym, refl, ap, ◌∙◌, arith}
use Rattle.std.specs.List.{AllByRecursion}
use Rattle.std.proofs.lemmas.Bool.{cond-true, cond-false, eq-eqb, ne_eqb, eqb-true, eqb-false}
use Rattle.words.specs.Parts.{grown, parted, words, lines}
use Rattle.words.specs.Theorems.{Free, spaced, HasWords, WordsSplit, ended, closed, LinesSplit}

-- a part and a mark before other bytes are one part more
front : (mark : ℕ) (end : List (List ℕ)) (w rest : List ℕ) → Free mark w → parted mark end (w ++ mark ∷ rest) ≡ w ∷ parted mark end rest
front mark end [] rest h = cond-true _ _ _ (eq-eqb mark mark refl)
front mark end (c ∷ w) rest h = cond-false _ _ _ (ne_eqb c mark h.0) ∙ ap (grown c) (front mark end w rest h.1)

-- a line without a space is one word
alone : (w : List ℕ) → Free 32 w → words w ≡ w ∷ []
alone [] h = refl
alone (c ∷ w) h = cond-false _ _ _ (ne_eqb c 32 h.0) ∙ ap (grown c) (alone w h.1)

respaced : (ws : List (List ℕ)) → 0 < length ws → AllByRecursion (Free 32) ws → words (spaced ws) ≡ ws
respaced [] some free = absurd (omega arith)
respaced (w ∷ []) some free = alone w free.0
respaced (w ∷ v ∷ ws) some free =
    front 32 ([] ∷ []) w (spaced (v ∷ ws)) free.0 ∙ ap (λ l. w ∷ l) (respaced (v ∷ ws) (omega arith) free.1)

-- a space opens a word
opened : (c : ℕ) (cs : List ℕ) (ws : List (List ℕ)) → c ≡ 32 → HasWords cs ws → HasWords (c ∷ cs) ([] ∷ ws)
opened c cs [] e h = absurd (omega (arith, h.some))
opened c cs (w ∷ ws) e h = record { some = omega arith; free = (tt, h.free); joined = λ i. sym e i ∷ h.joined i }

-- another byte goes on with one
longer : (c : ℕ) (cs : List ℕ) (ws : List (List ℕ)) → (c ≡ 32 → ⊥) → HasWords cs ws → HasWords (c ∷ cs) (grown c ws)
longer c cs [] n h = absurd (omega (arith, h.some))
longer c cs (w ∷ []) n h = record { some = omega arith; free = ((n, h.free.0), tt); joined = ap (λ l. c ∷ l) h.joined }
longer c cs (w ∷ v ∷ ws) n h =
    record { some = omega arith; free = ((n, h.free.0), h.free.1); joined = ap (λ l. c ∷ l) h.joined }

word_more : (c : ℕ) (cs : List ℕ) → HasWords cs (words cs) → (b : Bool) → (b ≡ true → c ≡ 32) → (b ≡ false → c ≡ 32 → ⊥) → HasWords (c ∷ cs) (cond b ([] ∷ words cs) (grown c (words cs)))
word_more c cs h true y n = opened c cs (words cs) (y refl) h
word_more c cs h false y n = longer c cs (words cs) (n refl) h

has_words : (line : List ℕ) → HasWords line (words line)
has_words [] = record { some = omega arith; free = (tt, tt); joined = refl }
has_words (c ∷ cs) = word_more c cs (has_words cs) (eqb c 32) (eqb-true c 32) (eqb-false c 32)

pub words_split : WordsSplit
words_split =
    record { has = has_words; only = λ line ws h. sym (respaced ws h.some h.free) ∙ ap words h.joined }

reended : (ls : List (List ℕ)) → AllByRecursion (Free 10) ls → lines (ended ls) ≡ ls
reended [] free = refl
reended (l ∷ ls) free = front 10 [] l (ended ls) free.0 ∙ ap (λ k. l ∷ k) (reended ls free.1)

free_more : (c : ℕ) (ls : List (List ℕ)) → AllByRecursion (Free 10) ls → (b : Bool) → (b ≡ false → c ≡ 10 → ⊥) → AllByRecursion (Free 10) (cond b ([] ∷ ls) (grown c ls))
free_more c ls h true n = (tt, h)
free_more c [] h false n = ((n refl, tt), tt)
free_more c (l ∷ ls) h false n = ((n refl, h.0), h.1)

free_lines : (text : List ℕ) → AllByRecursion (Free 10) (lines text)
free_lines [] = tt
free_lines (c ∷ cs) = free_more c (lines cs) (free_lines cs) (eqb c 10) (eqb-false c 10)

-- there is a line in each text but the empty one
some_line : (c : ℕ) (ls : List (List ℕ)) (b : Bool) → 0 < length (cond b ([] ∷ ls) (grown c ls))
some_line c ls true = omega arith
some_line c [] false = omega arith
some_line c (l ∷ ls) false = omega arith

-- the last byte
line_last : (c : ℕ) (b : Bool) → (b ≡ true → c ≡ 10) → ended (cond b ([] ∷ []) ((c ∷ []) ∷ [])) ≡ cond b (c ∷ []) (c ∷ 10 ∷ [])
line_last c true y = λ i. sym (y refl) i ∷ []
line_last c false y = refl

-- a byte before others
line_more : (c : ℕ) (ls : List (List ℕ)) (text : List ℕ) → 0 < length ls → ended ls ≡ text → (b : Bool) → (b ≡ true → c ≡ 10) → ended (cond b ([] ∷ ls) (grown c ls)) ≡ c ∷ text
line_more c ls text some e true y = λ i. sym (y refl) i ∷ e i
line_more c [] text some e false y = absurd (omega arith)
line_more c (l ∷ ls) text some e false y = ap (λ k. c ∷ k) e

ended_lines : (text : List ℕ) → ended (lines text) ≡ closed text
ended_lines [] = refl
ended_lines (c ∷ []) = line_last c (eqb c 10) (eqb-true c 10)
ended_lines (c ∷ d ∷ cs) =
    line_more c (lines (d ∷ cs)) (closed (d ∷ cs)) (some_line d (lines cs) (eqb d 10)) (ended_lines (d ∷ cs)) (eqb c 10) (eqb-true c 10)

pub lines_split : LinesSplit
lines_split = record {
  has = λ text. record { free = free_lines text; joined = ended_lines text };
  only = λ text ls h. sym (reended ls h.free) ∙ ap lines (h.joined ∙ sym (ended_lines text)) ∙ reended (lines text) (free_lines text);
}
