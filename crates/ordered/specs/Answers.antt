-- What each change of a list answers, and what it leaves: ps are the places before, r is the answer, and qs are the places after.
use Rattle.std.specs.Prelude.{◌≡◌, ℕ, Bool, false, cond, List, Some, None, Ok, Err, Option, Result, MatchOption, MatchResult, slice_set}
use Rattle.std.specs.List.{remove, slice_get}
use Rattle.ordered.specs.declared.list.PutRefusal.{PutRefusal}
use Rattle.ordered.specs.declared.list.PutRefusal.TheVariants.{Present, Full}
use Rattle.ordered.specs.Places.{alike, records, present, full, insert, Ordered}

-- Putting x in is refused where a record equal to it in the order stands there, or else where no place is empty, and not otherwise.
abbrev pub put_answer : {X : Type 0} → (X → X → Bool) → X → List (Option X) → Result (Unit {0}) PutRefusal
put_answer lt x ps = cond (present lt x (records ps)) (Err Present) (cond (full ps) (Err Full) (Ok tt))

-- x is put in: where that is accepted it stands among the records in its order, and where it is refused every place is as it was.
pub record Put {X : Type 0} (lt : X → X → Bool) (x : X) (ps : List (Option X)) (r : Result (Unit {0}) PutRefusal) (qs : List (Option X)) : Type 0 where
  pub answer : r ≡ put_answer lt x ps
  pub after : MatchResult r (λ _. records qs ≡ insert lt x (records ps)) (λ _. qs ≡ ps)
  pub stays : Ordered lt qs

-- The record at a place is taken out, and those behind it move up. Where there is none every place is as it was, and where there was one a place is empty now.
pub record Taken {X : Type 0} (lt : X → X → Bool) (place : ℕ) (ps : List (Option X)) (r : Option X) (qs : List (Option X)) : Type 0 where
  pub answer : r ≡ slice_get (records ps) place
  pub after : records qs ≡ remove (records ps) place
  pub room : MatchOption r (qs ≡ ps) (λ _. full qs ≡ false)
  pub stays : Ordered lt qs

-- There is a record, and it is equal to x in the order.
abbrev pub equal_to : {X : Type 0} → (X → X → Bool) → X → Option X → Bool
equal_to lt x None = false
equal_to lt x (Some y) = alike lt x y

-- x is written over the record at a place, if the two are equal in the order; if not, or if none is there, every place is as it was.
pub record Replaced {X : Type 0} (lt : X → X → Bool) (place : ℕ) (x : X) (ps : List (Option X)) (r : Option X) (qs : List (Option X)) : Type 0 where
  pub answer : r ≡ cond (equal_to lt x (slice_get (records ps) place)) (slice_get (records ps) place) None
  pub after : MatchOption r (qs ≡ ps) (λ _. records qs ≡ slice_set (records ps) place x)
  pub stays : Ordered lt qs
