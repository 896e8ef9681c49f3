-- The days of the week.
use Rattle.std.specs.Prelude.{ℕ, zero, suc, cond, List, Some, None, codes, Option, nat_le}
use Rattle.days.specs.Dates.{last_day}
use Rattle.days.specs.declared.weekdays.Weekday.{Weekday}
use Rattle.days.specs.declared.weekdays.Weekday.TheVariants.{Saturday, Sunday, Monday, Tuesday, Wednesday, Thursday, Friday}

-- The weekday after a weekday.
abbrev pub next_weekday : Weekday → Weekday
next_weekday Saturday = Sunday
next_weekday Sunday = Monday
next_weekday Monday = Tuesday
next_weekday Tuesday = Wednesday
next_weekday Wednesday = Thursday
next_weekday Thursday = Friday
next_weekday Friday = Saturday

-- Day 0 is a Saturday, and each day has the weekday after that of the day before.
unfoldable pub weekday_at : ℕ → Weekday
weekday_at zero = Saturday
weekday_at (suc d) = next_weekday (weekday_at d)

-- The weekday of a day: none past the last day.
unfoldable pub weekday_of : ℕ → Option Weekday
weekday_of d = cond (nat_le d last_day) (Some (weekday_at d)) None

-- A weekday as text.
abbrev pub weekday_text : Weekday → List ℕ
weekday_text Saturday = codes "Saturday"
weekday_text Sunday = codes "Sunday"
weekday_text Monday = codes "Monday"
weekday_text Tuesday = codes "Tuesday"
weekday_text Wednesday = codes "Wednesday"
weekday_text Thursday = codes "Thursday"
weekday_text Friday = codes "Friday"
