-- Weekdays come round every seven days.
use Rattle.std.proofs.Common.{◌≡◌, ℕ, zero, suc, ◌+◌, ◌*◌, ◌/◌, ◌%◌, ◌<◌, ◌≤◌, [], ◌∷◌, get_or, Some, None, sym, refl, ap, ◌∙◌, arith}
use Rattle.std.proofs.lemmas.Nat.{div-add-mod'}
use Rattle.std.proofs.lemmas.Bool.{cond-true, cond-false, le-leb, lt-leb}
use Rattle.days.specs.Dates.{last_day}
use Rattle.days.specs.declared.weekdays.Weekday.{Weekday}
use Rattle.days.specs.declared.weekdays.Weekday.TheVariants.{Saturday, Sunday, Monday, Tuesday, Wednesday, Thursday, Friday}
use Rattle.days.specs.Weekdays.{next_weekday, weekday_at, weekday_of}

-- Seven steps on, the same weekday.
week : (w : Weekday) → next_weekday (next_weekday (next_weekday (next_weekday (next_weekday (next_weekday (next_weekday w)))))) ≡ w
week Saturday = refl
week Sunday = refl
week Monday = refl
week Tuesday = refl
week Wednesday = refl
week Thursday = refl
week Friday = refl

a_week_on : (d : ℕ) → weekday_at (suc (suc (suc (suc (suc (suc (suc d))))))) ≡ weekday_at d
unfolding weekday_at
a_week_on d = week (weekday_at d)

weeks_on : (q r : ℕ) → weekday_at (q * 7 + r) ≡ weekday_at r
weeks_on zero r = ap weekday_at (omega arith)
weeks_on (suc q) r =
    let e : suc q * 7 + r ≡ suc (suc (suc (suc (suc (suc (suc (q * 7 + r))))))) = omega arith in
    ap weekday_at e ∙ a_week_on (q * 7 + r) ∙ weeks_on q r

-- The remainder by seven decides.
pub by_remainder_lem : (d : ℕ) → weekday_at d ≡ weekday_at (d % 7)
by_remainder_lem d = sym (ap weekday_at (div-add-mod' d 7)) ∙ weeks_on (d / 7) (d % 7)

pub weekday_at_lem : (d : ℕ) → d ≤ last_day → weekday_of d ≡ Some (weekday_at d)
unfolding weekday_of
weekday_at_lem d h = cond-true _ _ _ (le-leb d last_day h)

pub weekday_some : (d r : ℕ) → d ≤ last_day → d % 7 ≡ r → weekday_of d ≡ Some (weekday_at r)
weekday_some d r h e = weekday_at_lem d h ∙ ap Some (by_remainder_lem d ∙ ap weekday_at e)

pub weekday_none : (d : ℕ) → last_day < d → weekday_of d ≡ None
unfolding weekday_of
weekday_none d h = cond-false _ _ _ (lt-leb d last_day h)

-- The week that day 0 begins, by the remainder.
pub week_at : (r : ℕ) (x : Weekday) → r < 7
    → get_or (Saturday ∷ (Sunday ∷ (Monday ∷ (Tuesday ∷ (Wednesday ∷ (Thursday ∷ (Friday ∷ []))))))) r x ≡ weekday_at r
unfolding weekday_at
week_at zero x h = refl
week_at (suc zero) x h = refl
week_at (suc (suc zero)) x h = refl
week_at (suc (suc (suc zero))) x h = refl
week_at (suc (suc (suc (suc zero)))) x h = refl
week_at (suc (suc (suc (suc (suc zero))))) x h = refl
week_at (suc (suc (suc (suc (suc (suc zero)))))) x h = refl
week_at (suc (suc (suc (suc (suc (suc (suc r))))))) x h = absurd (omega arith)
