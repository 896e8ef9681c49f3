-- The place where a record belongs, which the contracts of inner functions alone cite.
use Rattle.std.specs.Prelude.{◌≡◌, ℕ, suc, Bool, false, cond, List, [], ◌∷◌, Some, None, Option}
use Rattle.ordered.specs.Places.{full, present, records}

-- The place holds a record that comes before x.
abbrev pub held_before : {X : Type 0} → (X → X → Bool) → X → Option X → Bool
held_before lt x None = false
held_before lt x (Some y) = lt y x

-- How many records, from the first on, come before x.
abbrev pub rank : {X : Type 0} → (X → X → Bool) → X → List X → ℕ
rank lt x [] = 0
rank lt x (y ∷ ys) = cond (lt y x) (suc (rank lt x ys)) 0

-- x can be put in, and belongs at this place.
pub record Fits {X : Type 0} (lt : X → X → Bool) (x : X) (ps : List (Option X)) (place : ℕ) : Type 0 where
  pub absent : present lt x (records ps) ≡ false
  pub room : full ps ≡ false
  pub belongs : place ≡ rank lt x (records ps)
