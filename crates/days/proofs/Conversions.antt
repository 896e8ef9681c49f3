-- The two conversions, over the months' first days.
use Rattle.std.proofs.Common.{◌≡◌, ℕ, zero, suc, ◌+◌, ◌-◌, ◌*◌, ◌/◌, ◌%◌, ◌<◌, ◌≤◌, true, false, cond, ◌||◌, eqb, ltb, Some, None, sym, refl, ap, ◌∙◌, ⊎_elim, add-zero, add-suc, add-one, arith}
use Rattle.std.proofs.lemmas.Bool.{cond_both, cond-true, cond-false, cases_lt, lt-ltb, le-ltb, le-leb, lt-leb}
use Rattle.std.proofs.lemmas.Bool.Decides.{nat_tests}
use Rattle.days.specs.declared.dates.Date.{Date}
use Rattle.days.specs.Dates.{last_day, leap, month_length, year_length, days_before_year, days_before_month, valid, day_number, day_of, next_date, date_at, date_of}
use Rattle.days.specs.Table.{month_start, length_of}
use Rattle.days.specs.Theorems.{RoundTrips}
use Rattle.days.proofs.Months.{start_first, start_more, start_in, length_in}

pub month_bounds : (y m : ℕ) → (28 ≤ month_length y m) × (month_length y m ≤ 31)
unfolding month_length
month_bounds y m =
    let P : ℕ → Type 0 = λ n. (28 ≤ n) × (n ≤ 31) in
    cond_both (eqb m 2) _ _ P
    (λ _. cond_both (leap y) 29 28 P (λ _. (omega arith, omega arith)) (λ _. (omega arith, omega arith)))
    (λ _. cond_both (eqb m 4 || eqb m 6 || eqb m 9 || eqb m 11) 30 31 P (λ _. (omega arith, omega arith)) (λ _. (omega arith, omega arith)))

pub length_bounds : (k : ℕ) → (28 ≤ length_of k) × (length_of k ≤ 31)
unfolding length_of
length_bounds k = month_bounds (2000 + k / 12) (k % 12 + 1)

pub start_end : month_start 600 ≡ 18263
unfolding month_start days_before_year days_before_month year_length leap
start_end = refl

-- The first days ascend.
pub start_mono : (k j : ℕ) → month_start k ≤ month_start (k + j)
start_mono k zero = rw add-zero (omega arith)
start_mono k (suc j) = omega (arith, start_mono k j, start_more (k + j), ap month_start (add-suc k j), ap month_start (add-one (k + j)))

pub start_below : (k : ℕ) → k < 600 → month_start k + length_of k ≤ 18263
start_below k h =
    let e : k + 1 + (599 - k) ≡ 600 = omega arith in
    omega (arith, start_mono (k + 1) (599 - k), ap month_start e, start_end, start_more k)

-- The month of a year and a month of it.
abbrev pub place : ℕ → ℕ → ℕ
place y m = (y - 2000) * 12 + (m - 1)

pub place_start : (y m : ℕ) → 1 ≤ m → m ≤ 12 → 2000 ≤ y → month_start (place y m) ≡ days_before_year (y - 2000) + days_before_month y (m - 1)
place_start y m h k l =
    let e : 2000 + (y - 2000) ≡ y = omega arith in
    start_in (y - 2000) (m - 1) (omega arith) ∙ ap (λ z. days_before_year (y - 2000) + days_before_month z (m - 1)) e

pub place_length : (y m : ℕ) → 1 ≤ m → m ≤ 12 → 2000 ≤ y → length_of (place y m) ≡ month_length y m
place_length y m h k l =
    let e : 2000 + (y - 2000) ≡ y = omega arith in
    let f : m - 1 + 1 ≡ m = omega arith in
    length_in (y - 2000) (m - 1) (omega arith) ∙ ap (λ z. month_length z (m - 1 + 1)) e ∙ ap (month_length y) f

pub invalid : (x : Date) → valid x ≡ false → None ≡ day_of x
unfolding day_of
invalid x e = sym (cond-false (valid x) (Some (day_number x)) None e)

pub valid_day : (x : Date) → valid x ≡ true → Some (day_number x) ≡ day_of x
unfolding day_of
valid_day x e = sym (cond-true (valid x) (Some (day_number x)) None e)

-- What a valid date is.
pub record Valid (x : Date) : Type 0 where
  pub from : 2000 ≤ x.year
  pub to : x.year ≤ 2049
  pub first : 1 ≤ x.month
  pub last : x.month ≤ 12
  pub one : 1 ≤ x.day
  pub fits : x.day ≤ month_length x.year x.month

pub valid_true : (x : Date) → Valid x → valid x ≡ true
unfolding valid
valid_true x v = grind (arith, nat_tests)

pub valid_parts : (x : Date) → valid x ≡ true → Valid x
unfolding valid
valid_parts x e = record { from = grind (arith, nat_tests); to = grind (arith, nat_tests); first = grind (arith, nat_tests); last = grind (arith, nat_tests); one = grind (arith, nat_tests); fits = grind (arith, nat_tests) }

-- The date with j days of the month k before it.
abbrev pub date_in : ℕ → ℕ → Date
date_in k j = record { year = 2000 + k / 12; month = k % 12 + 1; day = j + 1 }

next_in : (k j : ℕ) → j + 1 < length_of k → next_date (date_in k j) ≡ date_in k (j + 1)
unfolding next_date length_of
next_in k j h = cond-true _ _ _ (lt-ltb (j + 1) (month_length (2000 + k / 12) (k % 12 + 1)) h)

parts_eq : (a b c d e f : ℕ) → a ≡ d → b ≡ e → c ≡ f → ◌≡◌ {A = Date} (record { year = a; month = b; day = c }) (record { year = d; month = e; day = f })
parts_eq a b c d e f p q r = cc

pub date_eq : (x y : Date) → x.year ≡ y.year → x.month ≡ y.month → x.day ≡ y.day → x ≡ y
date_eq x y p q r = parts_eq x.year x.month x.day y.year y.month y.day p q r

next_month : (k j : ℕ) → j + 1 ≡ length_of k → next_date (date_in k j) ≡ date_in (k + 1) 0
unfolding next_date length_of
next_month k j h =
    let a = cond-false _ (record { year = 2000 + k / 12; month = k % 12 + 1; day = j + 1 + 1 }) (cond (ltb (k % 12 + 1) 12) (record { year = 2000 + k / 12; month = k % 12 + 1 + 1; day = 1 }) (record { year = 2000 + k / 12 + 1; month = 1; day = 1 })) (le-ltb (j + 1) (month_length (2000 + k / 12) (k % 12 + 1)) (omega arith)) in
    a ∙ ⊎_elim
    (λ (l : k % 12 + 1 < 12).
    cond-true _ _ _ (lt-ltb (k % 12 + 1) 12 l) ∙ date_eq _ _ (omega arith) (omega arith) refl)
    (λ (l : 12 ≤ k % 12 + 1).
    cond-false _ _ _ (le-ltb (k % 12 + 1) 12 l) ∙ date_eq _ _ (omega arith) (omega arith) refl)
    (cases_lt (k % 12 + 1) 12)

date_more : (d : ℕ) → date_at (d + 1) ≡ next_date (date_at d)
unfolding date_at
date_more d = rw add-one refl

-- Within a month, the dates follow its first day's.
in-month : (k : ℕ) → date_at (month_start k) ≡ date_in k 0 → (j : ℕ) → j < length_of k → date_at (month_start k + j) ≡ date_in k j
in-month k e zero h = rw add-zero e
in-month k e (suc j) h =
    let a : month_start k + suc j ≡ month_start k + j + 1 = omega arith in
    let b : suc j ≡ j + 1 = omega arith in
    ap date_at a ∙ date_more (month_start k + j) ∙ ap next_date (in-month k e j (omega arith)) ∙ next_in k j (omega arith) ∙ ap (date_in k) (sym b)

at_start : (k : ℕ) → date_at (month_start k) ≡ date_in k 0
unfolding date_at
at_start zero = ap date_at start_first
at_start (suc k) =
    let b = length_bounds k in
    let a : month_start (suc k) ≡ month_start k + (length_of k - 1) + 1 = omega (arith, start_more k, ap month_start (add-one k)) in
    let e : suc k ≡ k + 1 = omega arith in
    ap date_at a ∙ date_more (month_start k + (length_of k - 1)) ∙ ap next_date (in-month k (at_start k) (length_of k - 1) (omega arith))
    ∙ next_month k (length_of k - 1) (omega arith) ∙ ap (λ n. date_in n 0) (sym e)

pub date_in_lem : (k j : ℕ) → j < length_of k → date_at (month_start k + j) ≡ date_in k j
date_in_lem k = in-month k (at_start k)

-- A day within its month.
pub date_within : (k d : ℕ) → month_start k ≤ d → d < month_start (k + 1) → date_at d ≡ date_in k (d - month_start k)
date_within k d h l =
    let e : d ≡ month_start k + (d - month_start k) = omega arith in
    ap date_at e ∙ date_in_lem k (d - month_start k) (omega (arith, start_more k))

pub number_in : (k j : ℕ) → day_number (date_in k j) ≡ month_start k + j
unfolding day_number month_start
number_in k j =
    let a : 2000 + k / 12 - 2000 ≡ k / 12 = omega arith in
    let b : k % 12 + 1 - 1 ≡ k % 12 = omega arith in
    omega (arith, ap days_before_year a, ap (days_before_month (2000 + k / 12)) b)

pub valid_in : (k j : ℕ) → k < 600 → j < length_of k → valid (date_in k j) ≡ true
unfolding length_of
valid_in k j h l = valid_true (date_in k j) (record { from = omega arith; to = omega arith; first = omega arith; last = omega arith; one = omega arith; fits = omega arith })

-- Each day before the month n lies in a month.
month_at : (n d : ℕ) → d < month_start n → (k : ℕ) × (k < n) × (month_start k ≤ d) × (d < month_start (k + 1))
month_at zero d h = absurd (omega (arith, start_first))
month_at (suc n) d h =
    ⊎_elim
    (λ (l : d < month_start n). let i = month_at n d l in (i.0, omega arith, i.2, i.3))
    (λ (l : month_start n ≤ d). (n, omega arith, l, rw add-one h))
    (cases_lt d (month_start n))

pub number_date : (d : ℕ) → d ≤ last_day → (valid (date_at d) ≡ true) × (day_number (date_at d) ≡ d)
number_date d h =
    let m = month_at 600 d (omega (arith, start_end)) in
    let k : ℕ = m.0 in
    let e = date_within k d m.2 m.3 in
    let l : d - month_start k < length_of k = omega (arith, start_more k) in
    (ap valid e ∙ valid_in k (d - month_start k) m.1 l, ap day_number e ∙ number_in k (d - month_start k) ∙ omega arith)

pub date_number : (x : Date) → valid x ≡ true → (date_at (day_number x) ≡ x) × (day_number x ≤ last_day)
unfolding day_number
date_number x t =
    let v = valid_parts x t in
    let y : ℕ = x.year in
    let m : ℕ = x.month in
    let k : ℕ = place y m in
    let s = place_start y m v.first v.last v.from in
    let n = place_length y m v.first v.last v.from in
    let l : x.day - 1 < length_of k = omega arith in
    let e : days_before_year (y - 2000) + days_before_month y (m - 1) + (x.day - 1) ≡ month_start k + (x.day - 1) = omega arith in (
      ap date_at e ∙ date_in_lem k (x.day - 1) l ∙ date_eq _ _ (omega arith) (omega arith) (omega arith),
      omega (arith, start_below k (omega arith)),
    )

-- Past the last day there is no date.
pub date_some : (d : ℕ) → d ≤ last_day → date_of d ≡ Some (date_at d)
unfolding date_of
date_some d h = cond-true _ _ _ (le-leb d last_day h)

pub date_none : (d : ℕ) → last_day < d → date_of d ≡ None
unfolding date_of
date_none d h = cond-false _ _ _ (lt-leb d last_day h)

pub round_trips : RoundTrips
round_trips = record {
  days = λ d h. let p = number_date d h in sym (valid_day (date_at d) p.0) ∙ ap Some p.1;
  dates = λ x t. let p = date_number x t in date_some (day_number x) (omega arith) ∙ ap Some p.0;
}
