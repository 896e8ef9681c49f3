-- What places of memory hold, and what it is for that to be a strictly ascending list. `lt x y` says that x comes before y.
use Rattle.std.specs.Prelude.{◌≡◌, Bool, true, false, cond, not, ◌&&◌, ◌||◌, List, [], ◌∷◌, Some, None, Option}

-- The laws of a total order: of two records not both come before the other, and one that is not before a second, which is not before a third, is not before the third.
pub record TotalOrder {X : Type 0} (lt : X → X → Bool) : Type 0 where
  pub asymmetric : (x y : X) → lt x y ≡ true → lt y x ≡ false
  pub chain : (x y z : X) → lt x y ≡ false → lt y z ≡ false → lt x z ≡ false

-- Two records are equal in the order: neither comes before the other.
abbrev pub alike : {X : Type 0} → (X → X → Bool) → X → X → Bool
alike lt x y = not (lt x y) && not (lt y x)

-- x stands to every record as y does.
abbrev pub SameRank : {X : Type 0} → (X → X → Bool) → X → X → Type 0
SameRank {X} lt x y = (z : X) → (lt x z ≡ lt y z) × (lt z x ≡ lt z y)

-- x comes before each of the records.
abbrev pub first : {X : Type 0} → (X → X → Bool) → X → List X → Bool
first lt x [] = true
first lt x (y ∷ ys) = lt x y && first lt x ys

-- Strictly ascending: each record comes before all later ones.
abbrev pub ascending : {X : Type 0} → (X → X → Bool) → List X → Bool
ascending lt [] = true
ascending lt (x ∷ xs) = first lt x xs && ascending lt xs

-- A record equal to x in the order is among them.
abbrev pub present : {X : Type 0} → (X → X → Bool) → X → List X → Bool
present lt x [] = false
present lt x (y ∷ ys) = alike lt x y || present lt x ys

-- Sorted insertion: x put in behind those that come before it.
abbrev pub insert : {X : Type 0} → (X → X → Bool) → X → List X → List X
insert lt x [] = x ∷ []
insert lt x (y ∷ ys) = cond (lt y x) (y ∷ insert lt x ys) (x ∷ y ∷ ys)

-- The records that the places hold: those before the first empty place.
abbrev pub records : {X : Type 0} → List (Option X) → List X
records [] = []
records (None ∷ ps) = []
records (Some x ∷ ps) = x ∷ records ps

-- No place is empty.
abbrev pub full : {X : Type 0} → List (Option X) → Bool
full [] = true
full (None ∷ ps) = false
full (Some x ∷ ps) = full ps

-- Every place is empty.
abbrev pub vacant : {X : Type 0} → List (Option X) → Bool
vacant [] = true
vacant (None ∷ ps) = vacant ps
vacant (Some x ∷ ps) = false

-- No record stands behind an empty place.
abbrev pub packed : {X : Type 0} → List (Option X) → Bool
packed [] = true
packed (None ∷ ps) = vacant ps
packed (Some x ∷ ps) = packed ps

-- The places hold a strictly ascending list, with no gap.
abbrev pub Ordered : {X : Type 0} → (X → X → Bool) → List (Option X) → Type 0
Ordered lt ps = (packed ps ≡ true) × (ascending lt (records ps) ≡ true)
