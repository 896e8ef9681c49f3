-- An opening, and a signed movement beside each of its numbers.
use Rattle.std.specs.Prelude.{◌≡◌, ℕ, ◌+◌, ◌*◌, ◌≤◌, Bool, true, cond, ◌&&◌, List, ℤ, pos, ◌+ℤ◌, nat_lt, slice_index_or, unsigned_abs}
use Rattle.register.specs.Holdings.{Holdings, the_cap}
use Rattle.movement.specs.declared.numbers.Movement.{Movement}

-- A number: its opening and its movement.
abbrev pub net : ℕ → ℤ → ℕ
net o z = unsigned_abs (pos o +ℤ z)

-- No movement.
abbrev pub still : Movement
still = record { free = pos 0; reserved = pos 0 }

-- The movement beside a free number, and that beside a reserved number, of n securities.
abbrev pub free_movement : ℕ → List Movement → ℕ → ℕ → ℤ
free_movement n ms a s = (slice_index_or ms (a * n + s) still).free

abbrev pub reserved_movement : ℕ → List Movement → ℕ → ℕ → ℤ
reserved_movement n ms a s = (slice_index_or ms (a * n + s) still).reserved

-- The line lies within m accounts and n securities.
abbrev pub within : ℕ → ℕ → ℕ → ℕ → Bool
within m n a s = nat_lt a m && nat_lt s n

-- The holdings: each number of m accounts and n securities is its opening plus its movement.
abbrev pub moved : Holdings → ℕ → ℕ → List Movement → Holdings
moved o m n ms =
    record {
      accounts = m;
      securities = n;
      free = λ a s. cond (within m n a s) (net (o.free a s) (free_movement n ms a s)) 0;
      reserved = λ a s. cond (within m n a s) (net (o.reserved a s) (reserved_movement n ms a s)) 0;
    }

-- The opening is at most the cap, and with its movement the number is neither below 0 nor above the cap.
abbrev pub Settled : ℕ → ℤ → Type 0
Settled o z = (o ≤ the_cap) × ((pos o +ℤ z) ≡ pos (net o z)) × (net o z ≤ the_cap)

-- Each free number of m accounts and n securities is settled, and each reserved number.
abbrev pub FreeSettled : Holdings → ℕ → ℕ → List Movement → Type 0
FreeSettled o m n ms =
    (l : ℕ × ℕ) → within m n l.0 l.1 ≡ true → Settled (o.free l.0 l.1) (free_movement n ms l.0 l.1)

abbrev pub ReservedSettled : Holdings → ℕ → ℕ → List Movement → Type 0
ReservedSettled o m n ms =
    (l : ℕ × ℕ) → within m n l.0 l.1 ≡ true → Settled (o.reserved l.0 l.1) (reserved_movement n ms l.0 l.1)
