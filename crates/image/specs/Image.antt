-- A register in bytes: the count of accounts (2 bytes), the count of securities (2), all free numbers, all reserved numbers
-- (8 bytes each), most significant byte first. The line (a, s) has the index a × securities + s among either numbers.
use Rattle.std.specs.Prelude.{ℕ, ◌+◌, ◌*◌, ◌^◌, Bool, cond, ◌&&◌, List, length, drop, nat_le, nat_lt, slice_index}
use Rattle.register.specs.Holdings.{Holdings, Frame}

-- The number in the two bytes from i on.
abbrev pub u16_at : List ℕ → ℕ → ℕ
u16_at bs i = slice_index bs i * 256 + slice_index bs (i + 1)

-- The number in the eight bytes from i on.
abbrev pub u64_at : List ℕ → ℕ → ℕ
u64_at bs i =
    slice_index bs i * 256 ^ 7 + slice_index bs (i + 1) * 256 ^ 6 + slice_index bs (i + 2) * 256 ^ 5 + slice_index bs (i + 3) * 256 ^ 4
    + slice_index bs (i + 4) * 256 ^ 3 + slice_index bs (i + 5) * 256 ^ 2 + slice_index bs (i + 6) * 256 + slice_index bs (i + 7)

-- How many bytes the header and the numbers that it announces take.
abbrev pub size_of : List ℕ → ℕ
size_of bs = 4 + 16 * (u16_at bs 0 * u16_at bs 2)

-- The bytes are enough for them.
abbrev pub whole : List ℕ → Bool
whole bs = nat_le (size_of bs) (length bs)

-- The counts are those of the header, and 0 where the bytes are too few.
abbrev pub accounts_of : List ℕ → ℕ
accounts_of bs = cond (whole bs) (u16_at bs 0) 0

abbrev pub securities_of : List ℕ → ℕ
securities_of bs = cond (whole bs) (u16_at bs 2) 0

-- Where the free number of a line stands, and where its reserved number.
abbrev pub free_place : List ℕ → ℕ → ℕ → ℕ
free_place bs a s = 4 + 8 * (a * securities_of bs + s)

abbrev pub reserved_place : List ℕ → ℕ → ℕ → ℕ
reserved_place bs a s = 4 + 8 * (accounts_of bs * securities_of bs + (a * securities_of bs + s))

-- The line lies within the counts.
abbrev pub inside : List ℕ → ℕ → ℕ → Bool
inside bs a s = nat_lt a (accounts_of bs) && nat_lt s (securities_of bs)

-- The holdings that the bytes show. Numbers above the cap are shown as they are.
unfoldable pub imaged : List ℕ → Holdings
imaged bs =
    record {
      accounts = accounts_of bs;
      securities = securities_of bs;
      free = λ a s. cond (inside bs a s) (u64_at bs (free_place bs a s)) 0;
      reserved = λ a s. cond (inside bs a s) (u64_at bs (reserved_place bs a s)) 0;
    }

-- The bytes past the last number, which belong to nobody: all the bytes where they are too few for the numbers.
unfoldable pub beyond : List ℕ → List ℕ
beyond bs = cond (whole bs) (drop (size_of bs) bs) bs

-- What no change of a register over the bytes alters.
abbrev pub frame_of : ℕ → List ℕ → Frame
frame_of lender bs = record { lender = lender; beyond = beyond bs }
