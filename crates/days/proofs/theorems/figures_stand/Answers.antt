use Rattle.std.proofs.Common.{refl}
use Rattle.days.specs.Dates.{leap, month_length, year_length, days_before_year, days_before_month, valid, day_number, day_of, next_date, date_at, date_of}
use Rattle.days.specs.Weekdays.{weekday_at, weekday_of}
use Rattle.days.proofs.theorems.figures_stand.Goals as goal

pub returns : goal.returns
unfolding leap month_length year_length days_before_year days_before_month valid day_number day_of next_date date_at date_of weekday_at weekday_of
returns c =
    record { first = refl; leap2000 = refl; march2024 = refl; date8826 = refl; weekday8826 = refl; last = refl; no_leap = refl; centuries = (refl, refl, refl, refl) }
