-- Bytes that a mark parts: a line into words, a text into lines.
use Rattle.std.specs.Prelude.{ℕ, suc, cond, List, [], ◌∷◌, ◌==◌}

-- A byte in front of the first of some parts.
abbrev pub grown : ℕ → List (List ℕ) → List (List ℕ)
grown c [] = (c ∷ []) ∷ []
grown c (w ∷ ws) = (c ∷ w) ∷ ws

-- What lies between the marks, where `end` are the parts of no bytes at all.
abbrev pub parted : ℕ → List (List ℕ) → List ℕ → List (List ℕ)
parted mark end [] = end
parted mark end (c ∷ cs) = cond (c == mark) ([] ∷ parted mark end cs) (grown c (parted mark end cs))

-- How many bytes stand before the first mark, or in all.
abbrev pub until : ℕ → List ℕ → ℕ
until mark [] = 0
until mark (c ∷ cs) = cond (c == mark) 0 (suc (until mark cs))

-- One space parts two words. An empty line has one word, an empty one, and so has the end of a line after a space.
abbrev pub words : List ℕ → List (List ℕ)
words line = parted 32 ([] ∷ []) line

-- A newline ends a line. An empty text has no line, and after the last newline there is none unless a byte follows.
abbrev pub lines : List ℕ → List (List ℕ)
lines text = parted 10 [] text
