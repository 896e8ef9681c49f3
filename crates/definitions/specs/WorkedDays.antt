-- Worked days: what the definitions answer to lists of calls, put to a book on 64 accounts and 16 securities without shares; and worked
-- states, with requests and a loan, for what these calls make of them.
use Rattle.std.specs.Prelude.{◌≡◌, ℕ, ◌+◌, true, false, List, [], ◌∷◌, map, replicate, Some, Ok, Err, Result}
use Rattle.terms.specs.Numbers.{refusal_number}
use Rattle.terms.specs.declared.calls.Answer.{Answer}
use Rattle.terms.specs.declared.calls.Answer.TheVariants.{Done, Suspensions}
use Rattle.terms.specs.declared.calls.Call.{Call}
use Rattle.terms.specs.declared.calls.Call.TheVariants.{Admit, Stop, Price, Deposit, Withdraw, Trade, Pledge, Unpledge, Suspend, Noon}
use Rattle.terms.specs.declared.calls.Refusal.{Refusal}
use Rattle.terms.specs.declared.records.Agent.{Agent}
use Rattle.terms.specs.declared.records.LendingRequest.{LendingRequest}
use Rattle.terms.specs.declared.records.Loan.{Loan}
use Rattle.terms.specs.declared.records.Request.{Request}
use Rattle.terms.specs.declared.records.Sharing.TheVariants.{Many}
use Rattle.terms.specs.declared.records.Standing.{Standing}
use Rattle.terms.specs.declared.records.Standing.TheVariants.{Clear, Notified, Suspended}
use Rattle.definitions.specs.Calls.{does}
use Rattle.definitions.specs.Cover.{needed_in, short_in}
use Rattle.definitions.specs.Runs.{answers}
use Rattle.definitions.specs.States.{State, agent_in, no_security, no_shares, on_line, opening}

-- An answer as a worked day writes it: done, how many were suspended, or the number of the refusal.
pub data Due : Type 0 where
  done : Due
  suspended : ℕ → Due
  refused : ℕ → Due

abbrev pub due_of : Result Answer Refusal → Due
due_of (Ok Done) = done
due_of (Ok (Suspensions n)) = suspended n
due_of (Err r) = refused (refusal_number r)

abbrev pub Gives : ℕ → List Call → List Due → Type 0
Gives day calls dues = map due_of (answers (opening (no_shares 64 16) day) calls) ≡ dues

-- The ends of every range, on the last day on which a book may be opened.
abbrev pub ranges_calls : List Call
ranges_calls =
    Admit 16
    ∷ Admit 15
    ∷ Admit 15
    ∷ Stop 14
    ∷ Stop 15
    ∷ Stop 15
    ∷ Admit 15
    ∷ Price 15 0
    ∷ Price 15 1000001
    ∷ Price 15 1000000
    ∷ Deposit 64 0 1
    ∷ Deposit 63 15 0
    ∷ Deposit 63 15 1000000000001
    ∷ Deposit 63 15 1000000000000
    ∷ Deposit 0 15 1
    ∷ Deposit 0 14 1
    ∷ Withdraw 63 15 9999999999999
    ∷ Withdraw 63 15 1000000000000
    ∷ Withdraw 63 15 1
    ∷ Trade 0 0 14 1
    ∷ Trade 0 1 14 1
    ∷ Trade 0 1 14 1
    ∷ Pledge 16 0 1
    ∷ Pledge 0 4 1
    ∷ Pledge 0 0 0
    ∷ Pledge 0 0 1000000000000
    ∷ Pledge 0 0 1
    ∷ Unpledge 0 1 1
    ∷ Unpledge 0 0 1000000000000
    ∷ Unpledge 0 0 1
    ∷ Deposit 1 15 1000000
    ∷ Suspend 16
    ∷ []

abbrev pub ranges_dues : List Due
ranges_dues =
    refused 2
    ∷ done
    ∷ refused 5
    ∷ refused 5
    ∷ done
    ∷ refused 5
    ∷ done
    ∷ refused 4
    ∷ refused 4
    ∷ done
    ∷ refused 2
    ∷ refused 4
    ∷ refused 4
    ∷ done
    ∷ refused 12
    ∷ done
    ∷ refused 4
    ∷ done
    ∷ refused 10
    ∷ refused 4
    ∷ done
    ∷ refused 10
    ∷ refused 2
    ∷ refused 2
    ∷ refused 4
    ∷ done
    ∷ refused 12
    ∷ refused 11
    ∷ done
    ∷ refused 11
    ∷ done
    ∷ refused 2
    ∷ []

-- Standings: nobody is notified before a close, and who is suspended is not suspended again.
abbrev pub standing_calls : List Call
standing_calls = Admit 0 ∷ Price 0 100 ∷ Deposit 1 0 1000 ∷ Pledge 3 0 110000 ∷ Price 0 101 ∷ Noon ∷ Suspend 3 ∷ Suspend 3 ∷ Noon ∷ []

abbrev pub standing_dues : List Due
standing_dues = done ∷ done ∷ done ∷ done ∷ done ∷ suspended 0 ∷ done ∷ refused 5 ∷ suspended 0 ∷ []

-- The worked days, as they are due. A book that would be opened a day later is not open.
unfoldable pub WorkedDays : Type 0
WorkedDays = Gives 17897 ranges_calls ranges_dues × Gives 8829 standing_calls standing_dues × Gives 17898 (Noon ∷ Admit 15 ∷ []) (refused 1 ∷ refused 1 ∷ [])

-- A state with requests and a loan. Agent 3 asked for 1,000 shares of security 0, at 2,550 cents: 400 are lent to it and 600 are left.
-- Agent 2 lends from account 1: 250 of 650 are left in security 0, and all 80 in security 1. Agents 3 and 4 are notified.
abbrev pub asking : ℕ → ℕ → ℕ → ℕ → ℕ → ℕ → Request
asking n g a s quantity left =
    record { number = n; update = n; agent = g; account = a; security = s; quantity = quantity; left = left; rate = 300; expiry = 8830; sharing = Many; duration = 30 }

abbrev pub second_lending : LendingRequest
second_lending = record { request = asking 2 2 1 1 80 80 }

abbrev pub lent : Loan
lent =
    record { reference = 1; security = 0; quantity = 400; rate = 300; opening = 1020000; accrual = 0; due = 8856; lender = record { agent = 2; account = 1 }; borrower = record { agent = 3; account = 5 }; failed = false }

abbrev pub agent_with : Standing → ℕ → Agent
agent_with standing cash = record { standing = standing; cents = cash ∷ 0 ∷ 0 ∷ 0 ∷ [] }

-- The same with this cash of agent 3.
abbrev pub crowded : ℕ → State
crowded cash = record {
  held = record { accounts = 64; securities = 16; free = λ a s. 0; reserved = λ a s. on_line a s 1 0 250 + on_line a s 1 1 80 };
  kept = record {
    opened = true;
    today = 8826;
    securities = record { eligible = true; posted = Some 2600; price = Some 2550 } ∷ replicate 15 no_security;
    agents = agent_with Clear 0 ∷ agent_with Clear 0 ∷ agent_with Clear 0 ∷ agent_with Notified cash ∷ agent_with Notified 0 ∷ replicate 11 (agent_with Clear 0);
    lending = record { request = asking 1 2 1 0 650 250 } ∷ second_lending ∷ [];
    borrowing = record { request = asking 3 3 5 0 1000 600 } ∷ [];
    updates = 3;
    loans = lent ∷ [];
    references = 1;
  };
}

abbrev pub standing_of : State → ℕ → Standing
standing_of x g = (agent_in x.kept g).standing

-- What noon, unpledge and stop make of it. 600 left and 400 lent need 280,500,000 points, for which 2,805,000 cents of cash are
-- just enough. Only what is left of a request is released.
unfoldable pub WorkedStates : Type 0
WorkedStates =
    (needed_in (crowded 0).kept 3 ≡ 280500000)
    × (short_in (crowded 2804999).kept 3 ≡ true)
    × (short_in (crowded 2805000).kept 3 ≡ false)
    × (map due_of (answers (crowded 2804999) (Noon ∷ Noon ∷ [])) ≡ suspended 1 ∷ suspended 0 ∷ [])
    × (standing_of (does (crowded 2804999) Noon) 3 ≡ Suspended)
    × (standing_of (does (crowded 2804999) Noon) 4 ≡ Clear)
    × (map due_of (answers (crowded 2805000) (Noon ∷ [])) ≡ suspended 0 ∷ [])
    × (standing_of (does (crowded 2805000) Noon) 3 ≡ Clear)
    × (map due_of (answers (crowded 2805000) (Unpledge 3 0 1 ∷ Pledge 3 1 2 ∷ Unpledge 3 0 2 ∷ Unpledge 3 0 1 ∷ [])) ≡ refused 11 ∷ done ∷ refused 11 ∷ done ∷ [])
    × ((does (crowded 0) (Stop 0)).kept.lending ≡ second_lending ∷ [])
    × ((does (crowded 0) (Stop 0)).kept.borrowing ≡ [])
    × ((does (crowded 0) (Stop 0)).kept.loans ≡ lent ∷ [])
    × ((does (crowded 0) (Stop 0)).held.free 1 0 ≡ 250)
    × ((does (crowded 0) (Stop 0)).held.reserved 1 0 ≡ 0)
    × ((does (crowded 0) (Stop 0)).held.reserved 1 1 ≡ 80)
