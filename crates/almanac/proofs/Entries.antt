-- The entry of a day, from what the three conversions answer.
use Rattle.std.proofs.Common.{◌≡◌, ℕ, ◌<◌, ◌≤◌, Some, None, Option, sym, ap, ◌∙◌, ⊎_elim}
use Rattle.std.proofs.lemmas.Bool.{cases_lt, cond-true, cond-false, le-leb, lt-leb}
use Rattle.std.proofs.lemmas.Option.{none-some}
use Rattle.days.specs.Dates.{last_day, date_at, date_of, day_of}
use Rattle.days.specs.Weekdays.{weekday_at, weekday_of}
use Rattle.days.specs.declared.dates.Date.{Date}
use Rattle.days.specs.declared.weekdays.Weekday.{Weekday}
use Rattle.days.proofs.Conversions.{date_some, date_none, round_trips}
use Rattle.days.proofs.Weeks.{weekday_at_lem}
use Rattle.almanac.specs.Almanac.{entry_at, entry_of}

-- A day of which a conversion answers nothing, that answers something up to the last, is past the last.
pub no_entry : {A : Type 0} (d : ℕ) (o : Option A) (x : A) → None ≡ o → (d ≤ last_day → o ≡ Some x) → None ≡ entry_of d
no_entry d o x n some =
    ⊎_elim
    (λ (h : last_day < d). sym (cond-false _ (Some (entry_at d)) None (lt-leb d last_day h)))
    (λ (h : d ≤ last_day). absurd (none-some x (n ∙ some h)))
    (cases_lt last_day d)

entry_is : (d : ℕ) (x : Date) (w : Weekday) (n : Option ℕ) → x ≡ date_at d → w ≡ weekday_at d → n ≡ Some d → Some (record { day = d; date = x; weekday = w; again = n }) ≡ Some (entry_at d)
entry_is d x w n p q r = cc

pub made : (d : ℕ) (x : Date) (w : Weekday) (n : Option ℕ) → Some x ≡ date_of d → Some w ≡ weekday_of d → n ≡ day_of x
    → Some (record { day = d; date = x; weekday = w; again = n }) ≡ entry_of d
made d x w n p q r =
    ⊎_elim
    (λ (h : last_day < d). absurd (none-some x (sym (p ∙ date_none d h))))
    (λ (h : d ≤ last_day).
    let e = date_some d h in
    let f = weekday_at_lem d h in
    let g = round_trips.days d h in
    let s : x ≡ date_at d = cc in
    let t : w ≡ weekday_at d = cc in
    let u : n ≡ Some d = r ∙ ap day_of s ∙ g in
    entry_is d x w n s t u ∙ sym (cond-true _ (Some (entry_at d)) None (le-leb d last_day h)))
    (cases_lt last_day d)
