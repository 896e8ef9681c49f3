-- Words that stand for something by a table of names.
use Rattle.std.specs.Prelude.{ℕ, cond, List, [], ◌∷◌, Some, None, Option}
use Rattle.std.specs.Str.{bytes_eq}

-- What the table has under the name w.
abbrev pub named : {X : Type 0} → List (List ℕ × X) → List ℕ → Option X
named [] w = None
named (p ∷ ps) w = cond (bytes_eq w p.0) (Some p.1) (named ps w)
