-- The bit of a day.
use Rattle.std.proofs.Common.{◌≡◌, ℕ, ◌/◌, ◌%◌, ◌^◌, ◌<◌, ◌≤◌, eqb, List, length, get_or, ap}
use lib.Bits.{bit_and}
use Rattle.std.proofs.lemmas.Nat.{and_mask}
use Rattle.std.proofs.lemmas.Bool.{lt-ltb, le-leb}
use Rattle.days.specs.Dates.{last_day}
use Rattle.calendar.specs.Business.{table_business}

pub bit_of : (bytes : List ℕ) (d : ℕ) → d ≤ last_day → d / 8 < length bytes → eqb (bit_and (get_or bytes (d / 8) 0 / 2 ^ (d % 8)) 1) 1 ≡ table_business bytes d
bit_of bytes d h l =
    let a = le-leb d last_day h in
    let b = lt-ltb (d / 8) (length bytes) l in
    rw (a, b) (ap (λ n. eqb n 1) (and_mask (get_or bytes (d / 8) 0 / 2 ^ (d % 8)) 1))
