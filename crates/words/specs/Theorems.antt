-- The theorems on words, lines and numbers.
use Rattle.std.specs.Prelude.{◌≡◌, ℕ, ◌^◌, ◌<◌, cond, List, [], ◌∷◌, ◌++◌, length, Some, decimal, ◌==◌, ◌≢◌}
use Rattle.std.specs.List.{AllByRecursion}
use Rattle.words.specs.Numbers.{number_written}
use Rattle.words.specs.Parts.{words, lines}

-- The mark does not stand in a part.
abbrev pub Free : ℕ → List ℕ → Type 0
Free mark part = AllByRecursion (λ c. c ≢ mark) part

-- Words with one space between each two.
abbrev pub spaced : List (List ℕ) → List ℕ
spaced [] = []
spaced (w ∷ []) = w
spaced (w ∷ v ∷ ws) = w ++ 32 ∷ spaced (v ∷ ws)

-- A line has these words: at least one, each without a space, and joined by single spaces they are the line.
pub record HasWords (line : List ℕ) (ws : List (List ℕ)) : Type 0 where
  pub some : 0 < length ws
  pub free : AllByRecursion (Free 32) ws
  pub joined : spaced ws ≡ line

-- A line has its words, and no others.
pub record WordsSplit : Type 0 where
  pub has : (line : List ℕ) → HasWords line (words line)
  pub only : (line : List ℕ) (ws : List (List ℕ)) → HasWords line ws → ws ≡ words line

-- Lines with a newline after each.
abbrev pub ended : List (List ℕ) → List ℕ
ended [] = []
ended (l ∷ ls) = l ++ 10 ∷ ended ls

-- A text with a newline after its last byte, if it has a byte and the last is no newline.
abbrev pub closed : List ℕ → List ℕ
closed [] = []
closed (c ∷ []) = cond (c == 10) (c ∷ []) (c ∷ 10 ∷ [])
closed (c ∷ d ∷ cs) = c ∷ closed (d ∷ cs)

-- A text has these lines: each without a newline, and with a newline after each they are the text, whose last may be left out.
pub record HasLines (text : List ℕ) (ls : List (List ℕ)) : Type 0 where
  pub free : AllByRecursion (Free 10) ls
  pub joined : ended ls ≡ closed text

-- A text has its lines, and no others.
pub record LinesSplit : Type 0 where
  pub has : (text : List ℕ) → HasLines text (lines text)
  pub only : (text : List ℕ) (ls : List (List ℕ)) → HasLines text ls → ls ≡ lines text

-- A word is the number n just if it is n in decimal, and n has at most 13 digits.
pub record NumbersWritten : Type 0 where
  pub reads : (n : ℕ) → n < 10 ^ 13 → number_written (decimal n) ≡ Some n
  pub writes : (w : List ℕ) (n : ℕ) → number_written w ≡ Some n → (n < 10 ^ 13) × (w ≡ decimal n)
