-- The Gregorian calendar from 1 January 2000, which is day 0, to 31 December 2049. Nothing here uses the table of months.
use Rattle.std.specs.Prelude.{ℕ, zero, suc, ◌+◌, ◌-◌, ◌/◌, ◌%◌, Bool, cond, not, ◌&&◌, ◌||◌, List, ◌++◌, Some, None, codes, decimal, Option, ◌==◌, nat_le, nat_lt}
use Rattle.days.specs.declared.dates.Date.{Date}

-- The last day that has a number: 31 December 2049.
abbrev pub last_day : ℕ
last_day = 18262

-- A leap year is divisible by 4 and not by 100, or divisible by 400.
unfoldable pub leap : ℕ → Bool
leap y = (y % 4 == 0 && not (y % 100 == 0)) || y % 400 == 0

-- The days of the month m, 1 to 12, of the year y.
unfoldable pub month_length : ℕ → ℕ → ℕ
month_length y m =
    cond (m == 2) (cond (leap y) 29 28)
    (cond (m == 4 || m == 6 || m == 9 || m == 11) 30 31)

-- The days of the year y.
unfoldable pub year_length : ℕ → ℕ
year_length y = cond (leap y) 366 365

-- A true date of the years 2000 to 2049.
unfoldable pub valid : Date → Bool
valid x =
    nat_le 2000 x.year && nat_le x.year 2049 && nat_le 1 x.month && nat_le x.month 12
    && nat_le 1 x.day && nat_le x.day (month_length x.year x.month)

-- The days of the first n years from 2000 on.
unfoldable pub days_before_year : ℕ → ℕ
days_before_year zero = 0
days_before_year (suc n) = days_before_year n + year_length (2000 + n)

-- The days of the first m months of the year y.
unfoldable pub days_before_month : ℕ → ℕ → ℕ
days_before_month y zero = 0
days_before_month y (suc m) = days_before_month y m + month_length y (suc m)

-- The days before a date: those of the years before, of the months before, and of the month before it.
unfoldable pub day_number : Date → ℕ
day_number x = days_before_year (x.year - 2000) + days_before_month x.year (x.month - 1) + (x.day - 1)

-- The day of a date: none unless it is a true date of the years 2000 to 2049.
unfoldable pub day_of : Date → Option ℕ
day_of x = cond (valid x) (Some (day_number x)) None

-- The date after a date.
unfoldable pub next_date : Date → Date
next_date x =
    cond (nat_lt x.day (month_length x.year x.month)) (record { year = x.year; month = x.month; day = x.day + 1 })
    (cond (nat_lt x.month 12) (record { year = x.year; month = x.month + 1; day = 1 }) (record { year = x.year + 1; month = 1; day = 1 }))

-- Day 0 is 1 January 2000, and each day has the date after that of the day before.
unfoldable pub date_at : ℕ → Date
date_at zero = record { year = 2000; month = 1; day = 1 }
date_at (suc d) = next_date (date_at d)

-- The date of a day: none past the last day.
unfoldable pub date_of : ℕ → Option Date
date_of d = cond (nat_le d last_day) (Some (date_at d)) None

-- A number in two digits.
abbrev pub two_digits : ℕ → List ℕ
two_digits n = decimal (n / 10) ++ decimal (n % 10)

-- A date as text: 1 March 2024 is 2024-03-01.
abbrev pub date_text : Date → List ℕ
date_text x = decimal x.year ++ (codes "-" ++ (two_digits x.month ++ (codes "-" ++ two_digits x.day)))
