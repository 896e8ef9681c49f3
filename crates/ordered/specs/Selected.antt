-- The records of a list that pass a test, and the others.
use Rattle.std.specs.Prelude.{◌≡◌, Bool, true, false, not, List, [], ◌∷◌}
use Rattle.std.specs.Borrow.{Bor}
use Rattle.std.specs.Fn.{FnReturnsAt, Shared}

-- x before xs, if it is kept.
abbrev pub keep_if : {X : Type 0} → Bool → X → List X → List X
keep_if true x xs = x ∷ xs
keep_if false x xs = xs

-- Those that pass, in their order.
abbrev pub those : {X : Type 0} → (X → Bool) → List X → List X
those test [] = []
those test (x ∷ xs) = keep_if (test x) x (those test xs)

-- Those that do not.
abbrev pub others : {X : Type 0} → (X → Bool) → List X → List X
others test xs = those (λ x. not (test x)) xs

-- At each record the function f can answer nothing but what the test says of it; g says what calls of f can answer.
abbrev pub DecidedBy : {X F : Type 0} → Shared F (Bor X × Unit {0}) Bool → F → (X → Bool) → Type 0
DecidedBy {X} g f test = (x : X) (answer : Bool) → FnReturnsAt g f x answer → answer ≡ test x
