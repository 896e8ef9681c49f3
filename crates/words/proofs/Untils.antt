-- How many bytes stand before a mark, as the place of the first.
use Rattle.std.proofs.Common.{◌≡◌, ℕ, suc, ◌≤◌, eqb, Bool, true, false, cond, List, [], ◌∷◌, length, Some, None, refl, sym, ap, ◌∙◌, arith}
use Rattle.std.specs.List.{position, position_or_len}
use Rattle.std.specs.Option.{unwrap_or}
use Rattle.std.proofs.lemmas.Bool.{ltb-false}
use Rattle.std.proofs.lemmas.List.Recursion.{is_position_or_len}
use Rattle.words.specs.Parts.{until}

until_within : (mark : ℕ) (bytes : List ℕ) → until mark bytes ≤ length bytes
until_within mark [] = omega arith
until_within mark (c ∷ cs) = elim (eqb c mark) as (λ b. cond b 0 (suc (until mark cs)) ≤ suc (length cs)) [
  | true ↦ omega arith
  | false ↦ omega (arith, until_within mark cs)
]

until_is : (mark : ℕ) (bytes : List ℕ) → until mark bytes ≡ position_or_len (λ b. eqb b mark) bytes
until_is mark bytes = is_position_or_len (until mark) (λ b. eqb b mark) refl (λ c cs. ap (cond (eqb c mark) 0) (omega arith)) bytes

-- a place that is found, or else the end
or_end : (n m : ℕ) (b : Bool) → (b ≡ false → m ≤ n) → n ≤ m → unwrap_or (cond b (Some n) None) m ≡ n
or_end n m true past within = refl
or_end n m false past within = omega (arith, past refl)

pub until_found : (mark : ℕ) (bytes : List ℕ) → unwrap_or (position (λ b. eqb b mark) bytes) (length bytes) ≡ until mark bytes
until_found mark bytes =
    let is = until_is mark bytes in
    or_end (position_or_len (λ b. eqb b mark) bytes) (length bytes) _ (ltb-false (position_or_len (λ b. eqb b mark) bytes) (length bytes)) (omega (arith, is, until_within mark bytes)) ∙ sym is
