-- The lines of a text, given one after another.
use Rattle.std.specs.Prelude.{◌≡◌, ℕ, List, [], ◌∷◌, Option, MatchOption}
use Rattle.std.specs.Borrow.{Bor}
use Rattle.words.specs.Parts.{lines}

-- Of the text s the first line was given, and t is left; or none was left to give, and none is.
abbrev pub Gave : List ℕ → Option (Bor (List ℕ)) → List ℕ → Type 0
Gave s r t = MatchOption r ((lines s ≡ []) × (lines t ≡ [])) (λ x. lines s ≡ x.now ∷ lines t)
