-- The weekday calendar by the remainder of the day, by which its figures compute.
use Rattle.std.proofs.Common.{◌≡◌, ℕ, zero, suc, ◌%◌, ◌<◌, ◌≤◌, Bool, not, ◌&&◌, leb, List, [], take, Some, sym, refl, ap, ◌∙◌, subst, ⊎_elim, arith}
use Rattle.std.proofs.lemmas.Nat.{mod_below}
use Rattle.std.proofs.lemmas.Bool.{le-leb, lt-leb, cases_lt}
use Rattle.days.specs.Dates.{last_day}
use Rattle.days.specs.Weekdays.{weekday_at}
use Rattle.days.proofs.Weeks.{weekday_some}
use Rattle.calendar.specs.Bounds.{weekday_bounded}
use Rattle.calendar.specs.Business.{is_workday, is_in, most_holidays, weekday_business}
use Rattle.calendar.specs.Notice.{Tenth, business_days}
use Rattle.calendar.specs.Theorems.{Fortnight}

-- Saturday and Sunday leave the remainders 0 and 1.
workday_by : (r : ℕ) → r < 7 → is_workday (Some (weekday_at r)) ≡ leb 2 r
unfolding weekday_at
workday_by zero h = refl
workday_by (suc zero) h = refl
workday_by (suc (suc zero)) h = refl
workday_by (suc (suc (suc zero))) h = refl
workday_by (suc (suc (suc (suc zero)))) h = refl
workday_by (suc (suc (suc (suc (suc zero))))) h = refl
workday_by (suc (suc (suc (suc (suc (suc zero)))))) h = refl
workday_by (suc (suc (suc (suc (suc (suc (suc r))))))) h = absurd (omega arith)

abbrev by_remainder : List ℕ → ℕ → Bool
by_remainder holidays d = leb d last_day && (leb 2 (d % 7) && not (is_in (take most_holidays holidays) d))

by_remainder_lem : (holidays : List ℕ) (d : ℕ) → weekday_business holidays d ≡ by_remainder holidays d
by_remainder_lem holidays d =
    ⊎_elim
    (λ (h : last_day < d). let e = lt-leb d last_day h in weekday_bounded holidays d h ∙ rw e refl)
    (λ (h : d ≤ last_day).
    let e = le-leb d last_day h in
    let w = ap is_workday (weekday_some d (d % 7) h refl) ∙ workday_by (d % 7) (mod_below d 7 (omega arith)) in
    ap (λ t. t && not (is_in (take most_holidays holidays) d)) w ∙ rw e refl)
    (cases_lt last_day d)

pub fortnight : Fortnight
unfolding business_days
fortnight =
    subst (λ (b : ℕ → Bool). Tenth b 8826 (Some 8840)) (λ i d. sym (by_remainder_lem [] d) i) (omega arith, omega arith, refl, refl)
