-- The numbers that the rules name, each once.
use Rattle.std.specs.Prelude.{ℕ, Bool, ◌&&◌, nat_le}

-- The most accounts and securities of a register that is fit for a book.
abbrev pub most_accounts : ℕ
most_accounts = 64

abbrev pub most_securities : ℕ
most_securities = 16

-- The agents, and the kinds of collateral.
abbrev pub agent_count : ℕ
agent_count = 16

abbrev pub kind_count : ℕ
kind_count = 4

-- The last day on which a book may be opened.
abbrev pub last_opening : ℕ
last_opening = 17897

-- The highest price, in cents, and the most shares of a request.
abbrev pub most_price : ℕ
most_price = 1000000

abbrev pub most_quantity : ℕ
most_quantity = 1000000

-- The points that a cent of each kind counts, and the points of need for each cent of value.
abbrev pub cash_points : ℕ
cash_points = 100

abbrev pub bill_points : ℕ
bill_points = 95

abbrev pub bond_points : ℕ
bond_points = 90

abbrev pub guarantee_points : ℕ
guarantee_points = 100

abbrev pub need_points : ℕ
need_points = 110

-- What of an accrual is a cent of fee: an accrual counts cents × hundredths of a percent × days, of 10,000 to the whole and 365 to the year.
abbrev pub accrual_per_cent : ℕ
accrual_per_cent = 3650000

-- The levies in hundredths of a percent: of the fee for the lender, of the opening value for the borrower.
abbrev pub lender_depository : ℕ
lender_depository = 700

abbrev pub lender_fund : ℕ
lender_fund = 100

abbrev pub borrower_depository : ℕ
borrower_depository = 20

abbrev pub borrower_fund : ℕ
borrower_fund = 5

-- The fine in hundredths of a percent of the value, and its ends in cents.
abbrev pub fine_rate : ℕ
fine_rate = 14

abbrev pub least_fine : ℕ
least_fine = 300000

abbrev pub most_fine : ℕ
most_fine = 1000000

-- The penalty in hundredths of a percent of the value.
abbrev pub penalty_rate : ℕ
penalty_rate = 200

-- low ≤ n ≤ high
abbrev pub within : ℕ → ℕ → ℕ → Bool
within low high n = nat_le low n && nat_le n high
