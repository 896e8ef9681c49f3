-- Business days: what every calendar owes, and the two calendars.
use Rattle.std.specs.Prelude.{◌≡◌, ℕ, ◌/◌, ◌%◌, ◌^◌, ◌<◌, Bool, true, false, not, ◌&&◌, ◌||◌, List, [], ◌∷◌, length, take, Some, None, Option, ◌==◌, nat_le, nat_lt, slice_index}
use Rattle.days.specs.Dates.{last_day}
use Rattle.days.specs.Weekdays.{weekday_of}
use Rattle.days.specs.declared.weekdays.Weekday.{Weekday}
use Rattle.days.specs.declared.weekdays.Weekday.TheVariants.{Saturday, Sunday, Monday, Tuesday, Wednesday, Thursday, Friday}

-- No day past the last is a business day of any calendar.
abbrev pub Bounded : {X : Type 0} → (X → ℕ → Bool) → Type 0
Bounded {X} business = (x : X) (d : ℕ) → last_day < d → business x d ≡ false

-- Monday to Friday are workdays; a day that has no weekday is none.
abbrev pub is_workday : Option Weekday → Bool
is_workday None = false
is_workday (Some Saturday) = false
is_workday (Some Sunday) = false
is_workday (Some Monday) = true
is_workday (Some Tuesday) = true
is_workday (Some Wednesday) = true
is_workday (Some Thursday) = true
is_workday (Some Friday) = true

-- The day is one of the list.
abbrev pub is_in : List ℕ → ℕ → Bool
is_in [] d = false
is_in (h ∷ hs) d = h == d || is_in hs d

-- A calendar of weekdays heeds so many of its holidays, the first ones.
abbrev pub most_holidays : ℕ
most_holidays = 32

-- The weekday calendar: Monday to Friday, less the first 32 holidays listed.
abbrev pub weekday_business : List ℕ → ℕ → Bool
weekday_business holidays d = is_workday (weekday_of d) && not (is_in (take most_holidays holidays) d)

-- The table calendar: day d is bit d mod 8, the lowest being 0, of byte d div 8, set for a business day.
-- Days past the bytes, and past the last day, are none.
abbrev pub table_business : List ℕ → ℕ → Bool
table_business bytes d = nat_le d last_day && nat_lt (d / 8) (length bytes) && slice_index bytes (d / 8) / 2 ^ (d % 8) % 2 == 1
