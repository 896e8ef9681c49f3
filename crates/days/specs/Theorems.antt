-- The theorems on days and dates.
use Rattle.std.specs.Prelude.{◌≡◌, ℕ, ◌≤◌, true, false, Some, None}
use Rattle.days.specs.declared.dates.Date.{Date}
use Rattle.days.specs.declared.weekdays.Weekday.TheVariants.{Friday}
use Rattle.days.specs.Dates.{last_day, leap, valid, day_number, day_of, date_at, date_of}
use Rattle.days.specs.Weekdays.{weekday_of}

abbrev pub on : ℕ → ℕ → ℕ → Date
on y m d = record { year = y; month = m; day = d }

-- Days and dates correspond one to one: the date of each day has that day, and the day of each date has that date.
pub record RoundTrips : Type 0 where
  pub days : (d : ℕ) → d ≤ last_day → day_of (date_at d) ≡ Some d
  pub dates : (x : Date) → valid x ≡ true → date_of (day_number x) ≡ Some x

-- Worked figures.
pub record Figures : Type 0 where
  pub first : day_of (on 2000 1 1) ≡ Some 0
  pub leap2000 : day_of (on 2000 3 1) ≡ Some 60
  pub march2024 : day_of (on 2024 3 1) ≡ Some 8826
  pub date8826 : date_of 8826 ≡ Some (on 2024 3 1)
  pub weekday8826 : weekday_of 8826 ≡ Some Friday
  pub last : day_of (on 2049 12 31) ≡ Some last_day
  pub no_leap : day_of (on 2023 2 29) ≡ None
  -- every fourth year is a leap year, of the centuries every fourth
  pub centuries : (leap 1900 ≡ false) × (leap 2000 ≡ true) × (leap 2024 ≡ true) × (leap 2100 ≡ false)
