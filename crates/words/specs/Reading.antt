-- A line that is read word by word.
use Rattle.std.specs.Prelude.{◌≡◌, ℕ, ◌+◌, cond, List, [], ◌∷◌, length, take, drop, Some, None, Option, nat_le}
use Rattle.words.specs.Parts.{words, until}
use Rattle.words.specs.declared.reader.Part.{Part}
use Rattle.words.specs.declared.reader.Reader.{Reader}

-- The words that are left of a line, and the place of the first of them.
abbrev pub Left : Type 0
Left = List (List ℕ) × ℕ

-- What a reader has left: past the end of its line it has no more words.
abbrev pub left : Reader → Left
left r = (cond (nat_le r.at (length r.line.now)) (words (drop r.at r.line.now)) [], r.place)

-- All of a line is left: its words, of which the first has the place 1.
abbrev pub whole : List ℕ → Left
whole line = (words line, 1)

-- The first of some words, where it has the place p.
abbrev pub first_of : List (List ℕ) → ℕ → Option (List ℕ × ℕ)
first_of [] p = None
first_of (w ∷ ws) p = Some (w, p)

-- The next word with its place.
abbrev pub first : Left → Option (List ℕ × ℕ)
first l = first_of l.0 l.1

-- The words after the first, where that has the place p.
abbrev pub step_of : List (List ℕ) → ℕ → Left
step_of [] p = ([], p)
step_of (w ∷ ws) p = (ws, p + 1)

-- What is left after the next word.
abbrev pub step : Left → Left
step l = step_of l.0 l.1

-- The bytes and the place of a part of a line.
abbrev pub seen : Part → List ℕ × ℕ
seen w = (w.bytes.now, w.place)

-- The bytes of a line from where its reader stands.
abbrev pub rest : Reader → List ℕ
rest r = drop r.at r.line.now

-- The part w was cut from the line where the reader s stood, up to the next space or the end; the reader t stands past both.
pub record Cut (s : Reader) (w : Part) (t : Reader) : Type 0 where
  pub bytes : w.bytes.now ≡ take (until 32 (rest s)) (rest s)
  pub place : w.place ≡ s.place
  pub line : t.line.now ≡ s.line.now
  pub onward : t.at ≡ s.at + until 32 (rest s) + 1
