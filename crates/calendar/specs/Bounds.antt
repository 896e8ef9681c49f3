-- What the two calendars show with their meaning: no day past the last is a business day.
use Rattle.std.specs.Prelude.{◌≡◌, ℕ, ◌<◌, false, not, ◌&&◌, List, take, refl}
use Rattle.std.proofs.Common.{ap}
use Rattle.std.proofs.lemmas.Bool.{lt-leb}
use Rattle.days.specs.Dates.{last_day}
use Rattle.days.proofs.Weeks.{weekday_none}
use Rattle.calendar.specs.Business.{is_workday, is_in, most_holidays, weekday_business, table_business}

pub weekday_bounded : (holidays : List ℕ) (d : ℕ) → last_day < d → weekday_business holidays d ≡ false
weekday_bounded holidays d h = ap (λ w. is_workday w && not (is_in (take most_holidays holidays) d)) (weekday_none d h)

pub table_bounded : (bytes : List ℕ) (d : ℕ) → last_day < d → table_business bytes d ≡ false
table_bounded bytes d h = let e = lt-leb d last_day h in rw e refl
