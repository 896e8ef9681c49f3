use Rattle.std.proofs.Common.{refl}
use Rattle.days.specs.Dates.{leap, month_length, year_length, days_before_year, days_before_month, valid, day_number, day_of}
use Rattle.days.specs.Weekdays.{weekday_at, weekday_of}
use Rattle.tariff.specs.Theorems.{Figures}
use Rattle.tariff.proofs.theorems.figures_stand.Goals as goal

pub returns : goal.returns
unfolding leap month_length year_length days_before_year days_before_month valid day_number day_of weekday_at weekday_of Figures
returns c = (refl, refl, refl, refl, refl, refl, refl, refl)
