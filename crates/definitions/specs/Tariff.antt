-- What a loan costs, in cents.
use Rattle.std.specs.Prelude.{ℕ, ◌+◌, ◌*◌, ◌/◌, min, max}
use Rattle.terms.specs.declared.records.Bill.{Bill}
use Rattle.terms.specs.declared.records.Levies.{Levies}
use Rattle.definitions.specs.Limits.{accrual_per_cent, lender_depository, lender_fund, borrower_depository, borrower_fund, fine_rate, least_fine, most_fine, penalty_rate}

-- The value of a quantity at a price.
abbrev pub value : ℕ → ℕ → ℕ
value quantity price = quantity * price

-- What a loan adds to its accrual at a close.
abbrev pub accrues : ℕ → ℕ → ℕ → ℕ
accrues quantity price rate = value quantity price * rate

-- So many hundredths of a percent of an amount, rounded down, and rounded up.
abbrev pub part_down : ℕ → ℕ → ℕ
part_down hundredths amount = amount * hundredths / 10000

abbrev pub part_up : ℕ → ℕ → ℕ
part_up hundredths amount = (amount * hundredths + 9999) / 10000

-- The fee of an accrual, rounded down once, at the end.
abbrev pub fee_of : ℕ → ℕ
fee_of accrual = accrual / accrual_per_cent

-- The lender's levies are parts of the fee, the borrower's of the opening value.
abbrev pub lender_levies : ℕ → Levies
lender_levies fee = record { depository = part_down lender_depository fee; fund = part_down lender_fund fee }

abbrev pub borrower_levies : ℕ → Levies
borrower_levies opening = record { depository = part_down borrower_depository opening; fund = part_down borrower_fund opening }

-- The bill of a loan with this accrual and this opening value.
abbrev pub bill_of : ℕ → ℕ → Bill
bill_of accrual opening =
    record { fee = fee_of accrual; lender = lender_levies (fee_of accrual); borrower = borrower_levies opening }

-- The fine on a loan of this value that was not delivered: a part rounded up, within its two ends.
abbrev pub fine_on : ℕ → ℕ
fine_on amount = min most_fine (max least_fine (part_up fine_rate amount))

-- The penalty on a loan of this value that is closed by cash: a part rounded up.
abbrev pub penalty_on : ℕ → ℕ
penalty_on amount = part_up penalty_rate amount
