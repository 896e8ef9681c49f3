-- The places whose record stays where those that pass a test are taken out, which the contracts of inner functions alone cite.
use Rattle.std.specs.Prelude.{Bool, false, not, Some, None, Option}

-- The place holds a record that does not pass.
abbrev pub staying : {X : Type 0} → (X → Bool) → Option X → Bool
staying test None = false
staying test (Some x) = not (test x)
