-- The number that a word writes.
use Rattle.std.specs.Prelude.{ℕ, ◌+◌, ◌-◌, ◌*◌, cond, ◌&&◌, ◌||◌, List, [], ◌∷◌, length, Some, None, Option, ◌==◌, nat_lt}
use Rattle.std.specs.Char.{is_ascii_digit}

-- The number that the bytes write after the digits of n: none if one of them is no digit.
abbrev pub digits : ℕ → List ℕ → Option ℕ
digits n [] = Some n
digits n (c ∷ cs) = cond (is_ascii_digit c) (digits (n * 10 + (c - 48)) cs) None

-- A number has 1 to 13 digits, and no zero in front of others.
abbrev pub number_written : List ℕ → Option ℕ
number_written [] = None
number_written (c ∷ cs) =
    cond (nat_lt 12 (length cs) || (c == 48 && nat_lt 0 (length cs))) None (digits 0 (c ∷ cs))
