-- The theorems on calendars.
use Rattle.std.specs.Prelude.{◌≡◌, ℕ, Bool, [], Some, Option}
use Rattle.calendar.specs.Business.{weekday_business}
use Rattle.calendar.specs.Notice.{Tenth}

-- In any set of business days a day has at most one tenth business day after it, and not both one and none.
abbrev pub OneTenth : Type 0
OneTenth = (b : ℕ → Bool) (t : ℕ) (x y : Option ℕ) → Tenth b t x → Tenth b t y → x ≡ y

-- Day 8,826 is a Friday: without holidays the tenth business day after it is the Friday two weeks on, day 8,840.
abbrev pub Fortnight : Type 0
Fortnight = Tenth (weekday_business []) 8826 (Some 8840)
