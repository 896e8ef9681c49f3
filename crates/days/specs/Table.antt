-- The first days of the months, and the test that a table of them has to pass, which the checker computes.
use Rattle.std.specs.Prelude.{ℕ, suc, ◌+◌, ◌/◌, ◌%◌, Bool, false, ◌&&◌, List, [], ◌∷◌, ◌==◌}
use Rattle.days.specs.Dates.{month_length, days_before_year, days_before_month}

-- The first day of the month k, counted from January 2000: the days of the years and months before it.
unfoldable pub month_start : ℕ → ℕ
month_start k = days_before_year (k / 12) + days_before_month (2000 + k / 12) (k % 12)

-- The days of the month k, counted from January 2000.
unfoldable pub length_of : ℕ → ℕ
length_of k = month_length (2000 + k / 12) (k % 12 + 1)

-- After x, which is the entry k: each entry is the one before plus the length of that one's month, and after the last comes `end`.
unfoldable pub steps : ℕ → ℕ → ℕ → List ℕ → Bool
steps end k x [] = end == x + length_of k
steps end k x (y ∷ ys) = y == x + length_of k && steps end (suc k) y ys

-- Entry 0 is 0, and the others follow by these steps.
unfoldable pub is_month_table : ℕ → List ℕ → Bool
is_month_table end [] = false
is_month_table end (x ∷ xs) = x == 0 && steps end 0 x xs
