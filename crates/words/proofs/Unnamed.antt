-- A word that is none of a table's names.
use Rattle.std.proofs.Common.{◌≡◌, ℕ, ◌<◌, Bool, true, false, ◌&&◌, ltb, List, [], ◌∷◌, None, IsUtf8, Decides, sym, refl, ◌∙◌, subst}
use Rattle.std.specs.List.{AllByRecursion as Each}
use Rattle.std.proofs.ByRecursion.{IsAscii-from_all}
use Rattle.std.proofs.lemmas.Slice.Eq.{bytes_eq-Decides}
use Rattle.std.proofs.lemmas.Bool.{cond-false, and_parts, ltb-true}
use Rattle.std.proofs.lemmas.Str.{IsUtf8-from_ascii}
use Rattle.words.specs.Named.{named}

-- w is no name of the table
abbrev pub Unnamed : {X : Type 0} → List (List ℕ × X) → List ℕ → Type 0
Unnamed [] w = Unit {0}
Unnamed (p ∷ ps) w = (w ≡ p.0 → ⊥) × Unnamed ps w

off : {P : Type 0} (b : Bool) → Decides b P → (P → ⊥) → b ≡ false
off true d n = absurd (n (d.0 refl))
off false d n = refl

pub unnamed : {X : Type 0} (ps : List (List ℕ × X)) (w : List ℕ) → Unnamed ps w → named ps w ≡ None
unnamed [] w h = refl
unnamed (p ∷ ps) w h = cond-false _ _ _ (off _ (bytes_eq-Decides w p.0) h.0) ∙ unnamed ps w h.1

-- each byte is below 128
abbrev ascii : List ℕ → Bool
ascii [] = true
ascii (c ∷ cs) = ltb c 128 && ascii cs

-- each name is
abbrev pub ascii_names : {X : Type 0} → List (List ℕ × X) → Bool
ascii_names [] = true
ascii_names (p ∷ ps) = ascii p.0 && ascii_names ps

ascii_all : (cs : List ℕ) → ascii cs ≡ true → Each (λ b. b < 128) cs
ascii_all [] h = tt
ascii_all (c ∷ cs) h =
    let both = and_parts (ltb c 128) (ascii cs) h in (ltb-true c 128 both.0, ascii_all cs both.1)

-- what is not UTF-8 is none of those names
pub not_utf8 : {X : Type 0} (ps : List (List ℕ × X)) (w : List ℕ) → ascii_names ps ≡ true → (IsUtf8 w → ⊥) → Unnamed ps w
not_utf8 [] w h n = tt
not_utf8 (p ∷ ps) w h n =
    let both = and_parts (ascii p.0) (ascii_names ps) h in
    (λ e. n (subst IsUtf8 (sym e) (IsUtf8-from_ascii p.0 (IsAscii-from_all p.0 (ascii_all p.0 both.0)))), not_utf8 ps w both.1 n)
