-- The day whose date a word writes.
use Rattle.std.specs.Prelude.{ℕ, ◌+◌, ◌-◌, ◌*◌, cond, ◌&&◌, List, length, Some, None, Option, ◌==◌, slice_index}
use Rattle.std.specs.Char.{is_ascii_digit}
use Rattle.days.specs.Dates.{day_of}

-- The number that two digits write.
abbrev pub two_digits : ℕ → ℕ → Option ℕ
two_digits tens ones = cond (is_ascii_digit tens && is_ascii_digit ones) (Some ((tens - 48) * 10 + (ones - 48))) None

-- What follows from a value, if there is one.
abbrev pub bind : {X Y : Type 0} → Option X → (X → Option Y) → Option Y
bind None f = None
bind (Some x) f = f x

-- A date has ten bytes: two times two digits for the year, a dash, two digits for the month, a dash, two digits for the day.
-- It has to be a true one of the years 2000 to 2049.
abbrev pub day_written : List ℕ → Option ℕ
day_written w =
    cond (length w == 10 && (slice_index w 4 == 45 && slice_index w 7 == 45))
    (bind (two_digits (slice_index w 0) (slice_index w 1)) (λ century.
    bind (two_digits (slice_index w 2) (slice_index w 3)) (λ years.
    bind (two_digits (slice_index w 5) (slice_index w 6)) (λ month.
    bind (two_digits (slice_index w 8) (slice_index w 9)) (λ day.
    day_of (record { year = century * 100 + years; month = month; day = day }))))))
    None
