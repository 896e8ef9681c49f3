-- The theorems on the tariff.
use Rattle.std.specs.Prelude.{◌≡◌, ℕ, ◌+◌, ◌*◌, ◌<◌, ◌≤◌, Some}
use Rattle.days.specs.Dates.{day_of}
use Rattle.days.specs.Theorems.{on}
use Rattle.days.specs.Weekdays.{weekday_of}
use Rattle.days.specs.declared.weekdays.Weekday.TheVariants.{Friday}
use Rattle.terms.specs.declared.records.Bill.{Bill}
use Rattle.definitions.specs.Cover.{need}
use Rattle.definitions.specs.Tariff.{value, accrues, part_down, part_up, fee_of, bill_of, fine_on}

abbrev pub bill_is : ℕ → ℕ → ℕ → ℕ → ℕ → Bill
bill_is fee ld lf bd bf =
    record { fee = fee; lender = record { depository = ld; fund = lf }; borrower = record { depository = bd; fund = bf } }

-- Figures: two days and a weekday; what 1,000 shares at 2,550 cents need; the bill of a loan of these at the rate 400 over 30 closes; and
-- the fines at the lower end, between the ends and at the upper end.
unfoldable pub Figures : Type 0
Figures =
    (day_of (on 2000 3 1) ≡ Some 60)
    × (day_of (on 2024 3 1) ≡ Some 8826)
    × (weekday_of 8826 ≡ Some Friday)
    × (need 1000 2550 ≡ 280500000)
    × (bill_of (30 * accrues 1000 2550 400) (value 1000 2550) ≡ bill_is 8383 586 83 5100 1275)
    × (fine_on 2550000 ≡ 300000)
    × (fine_on 500000000 ≡ 700000)
    × (fine_on 1000000000 ≡ 1000000)

-- A part that is rounded down is the largest number of cents that is not above it, and one rounded up the smallest that is not below;
-- a fee likewise. The needs of two quantities add up to the need of both.
pub record Rounding : Type 0 where
  pub down : (n amount : ℕ) → (part_down n amount * 10000 ≤ amount * n) × (amount * n < (part_down n amount + 1) * 10000)
  pub up : (n amount : ℕ) → (amount * n ≤ part_up n amount * 10000) × (part_up n amount * 10000 < amount * n + 10000)
  pub fee : (accrual : ℕ) → (fee_of accrual * 3650000 ≤ accrual) × (accrual < (fee_of accrual + 1) * 3650000)
  pub split : (m n cents : ℕ) → need (m + n) cents ≡ need m cents + need n cents
