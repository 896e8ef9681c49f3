-- The theorems on ordered lists, for records of any type X in any total order.
use Rattle.std.specs.Prelude.{◌≡◌, ℕ, ◌+◌, Bool, true, false, ◌⊎◌, List, [], ◌∷◌, length, Some, Ok, Option, ◌==◌}
use Rattle.ordered.specs.Answers.{put_answer, Taken}
use Rattle.ordered.specs.Places.{TotalOrder, alike, SameRank, ascending, present, insert, records, full}

-- z is one of the records.
abbrev pub Among : {X : Type 0} → X → List X → Type 0
Among z [] = ⊥
Among z (x ∷ xs) = (z ≡ x) ⊎ Among z xs

-- Records that are equal in the order stand alike to every record, and coming before is passed on.
pub record OrderLaws (X : Type 0) : Type 0 where
  pub rank : (lt : X → X → Bool) → TotalOrder lt → (x y : X) → alike lt x y ≡ true → SameRank lt x y
  pub passes : (lt : X → X → Bool) → TotalOrder lt → (x y z : X) → lt x y ≡ true → lt y z ≡ true → lt x z ≡ true

-- ys are the records xs and x besides: it holds x, every one of xs, and nothing else.
pub record With {X : Type 0} (x : X) (xs ys : List X) : Type 0 where
  pub new : Among x ys
  pub old : (z : X) → Among z xs → Among z ys
  pub others : (z : X) → Among z ys → (z ≡ x) ⊎ Among z xs

-- x put into the strictly ascending records xs by sorted insertion: strictly ascending, one record more, x besides xs, and the only such list.
pub record Inserted {X : Type 0} (lt : X → X → Bool) (x : X) (xs : List X) : Type 0 where
  pub sorted : ascending lt (insert lt x xs) ≡ true
  pub longer : length (insert lt x xs) ≡ length xs + 1
  pub holds : With x xs (insert lt x xs)
  pub only : (ys : List X) → ascending lt ys ≡ true → With x xs ys → ys ≡ insert lt x xs

abbrev pub SortedInsertion : Type 0 → Type 0
SortedInsertion X = (lt : X → X → Bool) → TotalOrder lt → (x : X) (xs : List X) → ascending lt xs ≡ true → present lt x xs ≡ false → Inserted lt x xs

-- A freed place is used again: once a record was taken out, any record that is equal in the order to none of those left is accepted.
abbrev pub FreedPlaceUsed : Type 0 → Type 0
FreedPlaceUsed X =
    (lt : X → X → Bool) (place : ℕ) (ps qs : List (Option X)) (x y : X) →
    Taken lt place ps (Some x) qs → present lt y (records qs) ≡ false → put_answer lt y qs ≡ Ok tt

-- Memory is full where it holds as many records as it has places, and only there.
abbrev pub FullByCount : Type 0 → Type 0
FullByCount X = (ps : List (Option X)) → full ps ≡ (length (records ps) == length ps)
