-- A word whose bytes were read one by one.
use Rattle.std.proofs.Common.{◌≡◌, ℕ, List, length, refl}
use Rattle.std.specs.Str.{bytes_eq}
use Rattle.std.proofs.lemmas.Slice.Eq.{HasBytesAt, text_from_reads}

-- The word that is spelt like a name is the name. The first part says nothing: it shows `grind` the call to match
pub spelt_like : (w name : List ℕ) → length w ≡ length name → HasBytesAt w 0 name → (bytes_eq w name ≡ bytes_eq w name) × (w ≡ name)
spelt_like w name long bytes = (refl, text_from_reads w name long bytes)
