-- Deposit, withdraw and trade: free shares that come, go and pass from one account to another.
use Rattle.std.specs.Prelude.{ℕ, ◌+◌, not, ◌&&◌, List, [], ◌∷◌, ◌==◌, nat_le}
use Rattle.register.specs.Holdings.{the_cap, credited, debited, total_of}
use Rattle.terms.specs.declared.calls.Refusal.TheVariants.{Unknown, OutOfRange, TooFewShares, OverCap}
use Rattle.definitions.specs.Limits.{within}
use Rattle.definitions.specs.Questions.{Question, is_opened, has_line}
use Rattle.definitions.specs.States.{State, with_held, free}

-- A deposit: opened, line, quantity, and the security's total, over all accounts, stays within the cap.
abbrev pub deposit_asks : State → ℕ → ℕ → ℕ → List Question
deposit_asks x a s q =
    is_opened x ∷ (Unknown, has_line x a s) ∷ (OutOfRange, within 1 the_cap q) ∷ (OverCap, nat_le (total_of x.held s + q) the_cap) ∷ []

abbrev pub deposit_does : State → ℕ → ℕ → ℕ → State
deposit_does x a s q = with_held x (credited x.held a s q)

-- A withdrawal: opened, line, quantity, and the shares are free.
abbrev pub withdraw_asks : State → ℕ → ℕ → ℕ → List Question
withdraw_asks x a s q =
    is_opened x ∷ (Unknown, has_line x a s) ∷ (OutOfRange, within 1 the_cap q) ∷ (TooFewShares, nat_le q (free x a s)) ∷ []

abbrev pub withdraw_does : State → ℕ → ℕ → ℕ → State
withdraw_does x a s q = with_held x (debited x.held a s q)

-- A trade from a to b: opened, lines, quantity and two accounts, and the giver has the shares free.
abbrev pub trade_asks : State → ℕ → ℕ → ℕ → ℕ → List Question
trade_asks x a b s q =
    is_opened x ∷ (Unknown, has_line x a s && has_line x b s) ∷ (OutOfRange, within 1 the_cap q && not (a == b)) ∷ (TooFewShares, nat_le q (free x a s)) ∷ []

abbrev pub trade_does : State → ℕ → ℕ → ℕ → ℕ → State
trade_does x a b s q = with_held x (credited (debited x.held a s q) b s q)
