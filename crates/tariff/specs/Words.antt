-- Numbers that 64 bits hold.
use Rattle.std.specs.Prelude.{ℕ, ◌^◌, cond, Some, None, Option, nat_lt}

-- The number, if 64 bits hold it.
abbrev pub in_word : ℕ → Option ℕ
in_word n = cond (nat_lt n (2 ^ 64)) (Some n) None
