-- The table's rule, carried to every entry.
use Rattle.std.proofs.Common.{◌≡◌, ℕ, zero, suc, ◌+◌, ◌*◌, ◌/◌, ◌%◌, ◌<◌, true, false, cond, eqb, List, [], ◌∷◌, length, get_or, sym, refl, ap, ◌∙◌, ⊎_elim, le_of_suc-le-suc, not-suc-le-zero, add-zero, add_assoc, zero-add, add-one, arith}
use Rattle.std.proofs.lemmas.Bool.{and_parts, eqb-true, cases_eq}
use Rattle.std.proofs.lemmas.Nat.{div-mul-add, mod-mul-add, div-add-mod', mod_below}
use Rattle.days.specs.Dates.{leap, month_length, year_length, days_before_year, days_before_month}
use Rattle.days.specs.Table.{month_start, length_of, steps, is_month_table}

-- The twelve months make the year.
pub whole_year : (y : ℕ) → days_before_month y 12 ≡ year_length y
unfolding days_before_month month_length year_length
whole_year y = elim (leap y) as (λ b. 31 + cond b 29 28 + 31 + 30 + 31 + 30 + 31 + 31 + 30 + 31 + 30 + 31 ≡ cond b 366 365) [ true ↦ refl | false ↦ refl ]

-- The months of one year, and the first of the next.
pub start_in : (q r : ℕ) → r < 12 → month_start (q * 12 + r) ≡ days_before_year q + days_before_month (2000 + q) r
unfolding month_start
start_in q r h = rw (div-mul-add q 12 r h, mod-mul-add q 12 r h)

pub length_in : (q r : ℕ) → r < 12 → length_of (q * 12 + r) ≡ month_length (2000 + q) (r + 1)
unfolding length_of
length_in q r h = rw (div-mul-add q 12 r h, mod-mul-add q 12 r h)

month_more : (y r : ℕ) → days_before_month y (r + 1) ≡ days_before_month y r + month_length y (r + 1)
unfolding days_before_month
month_more y r = rw add-one refl

year_more : (q : ℕ) → days_before_year (q + 1) ≡ days_before_year q + year_length (2000 + q)
unfolding days_before_year
year_more q = rw add-one refl

no_month : (y : ℕ) → days_before_month y 0 ≡ 0
unfolding days_before_month
no_month y = refl

start_step : (q r : ℕ) → r < 12 → month_start (q * 12 + r + 1) ≡ month_start (q * 12 + r) + length_of (q * 12 + r)
start_step q r h =
    ⊎_elim
    (λ (e : r ≡ 11).
    let a : q * 12 + r + 1 ≡ (q + 1) * 12 + 0 = omega arith in
    let b : month_start (q * 12 + r + 1) ≡ days_before_year (q + 1) + days_before_month (2000 + (q + 1)) 0 =
    ap month_start a ∙ start_in (q + 1) 0 (omega arith) in
    let t : days_before_month (2000 + q) (r + 1) ≡ days_before_month (2000 + q) 12 = ap (λ n. days_before_month (2000 + q) (n + 1)) e in
    omega (arith, b, t, start_in q r h, length_in q r h, month_more (2000 + q) r, year_more q, whole_year (2000 + q), no_month (2000 + (q + 1))))
    (λ (n : r ≡ 11 → ⊥).
    let b : month_start (q * 12 + r + 1) ≡ days_before_year q + days_before_month (2000 + q) (r + 1) =
    ap month_start (add_assoc (q * 12) r 1) ∙ start_in q (r + 1) (omega arith) in
    omega (arith, b, start_in q r h, length_in q r h, month_more (2000 + q) r))
    (cases_eq r 11)

pub start_more : (k : ℕ) → month_start (k + 1) ≡ month_start k + length_of k
start_more k =
    let e : k / 12 * 12 + k % 12 ≡ k = div-add-mod' k 12 in
    rw e at (start_step (k / 12) (k % 12) (mod_below k 12 (omega arith)))

pub start_first : month_start 0 ≡ 0
unfolding month_start days_before_year days_before_month
start_first = refl

-- From an entry that is right, every entry after it is.
from : (end : ℕ) (xs : List ℕ) (k x : ℕ) → steps end k x xs ≡ true → x ≡ month_start k → (j : ℕ) → j < length (x ∷ xs) → get_or (x ∷ xs) j 0 ≡ month_start (k + j)
unfolding steps
from end xs k x t e zero h = rw add-zero e
from end [] k x t e (suc j) h = absurd (not-suc-le-zero (le_of_suc-le-suc h))
from end (y ∷ ys) k x t e (suc j) h =
    let p = and_parts (eqb y (x + length_of k)) (steps end (suc k) y ys) t in
    let q : y ≡ month_start (suc k) = omega (arith, eqb-true y (x + length_of k) p.0, start_more k, ap month_start (add-one k)) in
    let i = from end ys (suc k) y p.1 q j (le_of_suc-le-suc h) in
    i ∙ ap month_start (omega arith)

pub table_at : (end : ℕ) (xs : List ℕ) → is_month_table end xs ≡ true → (k : ℕ) → k < length xs → get_or xs k 0 ≡ month_start k
unfolding is_month_table
table_at end [] t k h = absurd (not-suc-le-zero h)
table_at end (x ∷ xs) t k h =
    let p = and_parts (eqb x 0) (steps end 0 x xs) t in
    from end xs 0 x p.1 (eqb-true x 0 p.0 ∙ sym start_first) k h ∙ ap month_start (zero-add k)
