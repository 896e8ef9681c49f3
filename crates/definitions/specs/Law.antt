-- The law of runs: whatever calls were put to a book, its shares balance, each loan is closed once, and nobody is left unmatched or uncovered.
use Rattle.std.specs.Prelude.{◌≡◌, ℕ, ◌+◌, ◌<◌, ◌≤◌, Bool, true, false, cond, ◌&&◌, List, Ok, Err, Result, ◌==◌, nat_eq}
use Rattle.std.specs.List.{AllByRecursion as Each}
use Rattle.register.specs.Holdings.{Holdings, Inside, registered}
use Rattle.terms.specs.declared.calls.Answer.{Answer}
use Rattle.terms.specs.declared.calls.Answer.TheVariants.{Done, Suspensions}
use Rattle.terms.specs.declared.calls.Call.{Call}
use Rattle.terms.specs.declared.calls.Call.TheVariants.{Admit, Stop, Price, Deposit, Withdraw, Trade, Pledge, Unpledge, Suspend, Noon}
use Rattle.terms.specs.declared.calls.Refusal.{Refusal}
use Rattle.terms.specs.declared.records.CloseLine.{CloseLine}
use Rattle.terms.specs.declared.records.Loan.{Loan}
use Rattle.terms.specs.declared.records.Outcome.{Outcome}
use Rattle.terms.specs.declared.records.Outcome.TheVariants.{Returned, Failed}
use Rattle.definitions.specs.Cover.{short}
use Rattle.definitions.specs.Limits.{agent_count, within}
use Rattle.definitions.specs.Matching.{NoPair}
use Rattle.definitions.specs.Requests.{left_on}
use Rattle.definitions.specs.Runs.{Entry, trace, after}
use Rattle.definitions.specs.States.{State, opening, fit, agent, is_clear, on_line, total, count}

-- The shares of a loan, where the line is its lender's, and where it is its borrower's.
abbrev pub lent_from : ℕ → ℕ → Loan → ℕ
lent_from a s l = on_line a s l.lender.account l.security l.quantity

abbrev pub lent_to : ℕ → ℕ → Loan → ℕ
lent_to a s l = on_line a s l.borrower.account l.security l.quantity

-- Shares of open loans are out on loan for the lender's line and borrowed for the borrower's.
abbrev pub out_on_loan : State → ℕ → ℕ → ℕ
out_on_loan x a s = total (lent_from a s) x.kept.loans

abbrev pub borrowed : State → ℕ → ℕ → ℕ
borrowed x a s = total (lent_to a s) x.kept.loans

-- What is left of a line's open lending requests.
abbrev pub left_to_lend : State → ℕ → ℕ → ℕ
left_to_lend x a s = total (left_on a s) x.kept.lending

-- How an accepted call moves shares across the border of the book: not at all, onto a line, from a line, from the first account to
-- the second; a loan closed by cash counts as a trade of its quantity from lender to borrower.
pub data Movement : Type 0 where
  nothing : Movement
  comes : ℕ → ℕ → ℕ → Movement
  goes : ℕ → ℕ → ℕ → Movement
  passes : ℕ → ℕ → ℕ → ℕ → Movement
  settles : Loan → Movement

abbrev pub movement : State → Call → Movement
movement x (Admit s) = nothing
movement x (Stop s) = nothing
movement x (Price s p) = nothing
movement x (Deposit a s q) = comes a s q
movement x (Withdraw a s q) = goes a s q
movement x (Trade a b s q) = passes a b s q
movement x (Pledge g kind c) = nothing
movement x (Unpledge g kind c) = nothing
movement x (Suspend g) = nothing
movement x Noon = nothing

abbrev pub incoming_by : ℕ → ℕ → Movement → ℕ
incoming_by a s nothing = 0
incoming_by a s (comes b t q) = on_line a s b t q
incoming_by a s (goes b t q) = 0
incoming_by a s (passes b c t q) = on_line a s c t q
incoming_by a s (settles l) = lent_to a s l

abbrev pub outgoing_by : ℕ → ℕ → Movement → ℕ
outgoing_by a s nothing = 0
outgoing_by a s (comes b t q) = 0
outgoing_by a s (goes b t q) = on_line a s b t q
outgoing_by a s (passes b c t q) = on_line a s b t q
outgoing_by a s (settles l) = lent_from a s l

-- A refused call moves nothing.
abbrev pub moved_by : Result Answer Refusal → Movement → Movement
moved_by (Ok v) m = m
moved_by (Err r) m = nothing

abbrev pub moved : Entry → Movement
moved e = moved_by e.reply.says (movement e.before e.asked)

abbrev pub incoming : ℕ → ℕ → List Entry → ℕ
incoming a s es = total (λ e. incoming_by a s (moved e)) es

abbrev pub outgoing : ℕ → ℕ → List Entry → ℕ
outgoing a s es = total (λ e. outgoing_by a s (moved e)) es

-- Closings of the reference n: an accepted cash of it, and each close line that says it was returned.
abbrev pub cash_closings : ℕ → Movement → ℕ
cash_closings n nothing = 0
cash_closings n (comes b t q) = 0
cash_closings n (goes b t q) = 0
cash_closings n (passes b c t q) = 0
cash_closings n (settles l) = cond (l.reference == n) 1 0

abbrev pub is_returned : Outcome → Bool
is_returned Returned = true
is_returned Failed = false

abbrev pub line_closings : ℕ → List CloseLine → ℕ
line_closings n ls = count (λ l. is_returned l.outcome && l.reference == n) ls

abbrev pub closings : ℕ → List Entry → ℕ
closings n es = total (λ e. cash_closings n (moved e) + line_closings n e.reply.writes) es

-- The loans that an answer says were made.
abbrev pub loans_said : Result Answer Refusal → ℕ
loans_said (Ok Done) = 0
loans_said (Ok (Suspensions n)) = 0
loans_said (Err r) = 0

-- How often the reference n stands among the open loans, and 1 where it was given out.
abbrev pub stands : ℕ → State → ℕ
stands n x = count (λ l. nat_eq l.reference n) x.kept.loans

abbrev pub given_out : ℕ → State → ℕ
given_out n x = cond (within 1 x.kept.references n) 1 0

-- A line that says a loan was returned is written on a business day, while the loan stands, and not before its return day.
pub record InTime (days : ℕ → Bool) (x : State) (l : CloseLine) : Type 0 where
  pub business : is_returned l.outcome ≡ true → days x.kept.today ≡ true
  pub stood : is_returned l.outcome ≡ true → stands l.reference x ≡ 1
  pub due : is_returned l.outcome ≡ true → Each (λ k. k.reference ≡ l.reference → k.due ≤ x.kept.today) x.kept.loans

-- The law of a trace es from the state x to the state y, by the business days `days`.
pub record Law (days : ℕ → Bool) (x : State) (es : List Entry) (y : State) : Type 0 where
  -- registered, out on loan and outgoing shares of a line are its opening, incoming and borrowed ones
  pub balance : (a s : ℕ) → registered y.held a s + out_on_loan y a s + outgoing a s es ≡ registered x.held a s + incoming a s es + borrowed y a s
  -- reserved shares are what is left of open lending requests
  pub reserved : (a s : ℕ) → y.held.reserved a s ≡ left_to_lend y a s
  -- a reference given out stands once and was never closed, or stands no more and was closed once; no other stands or was closed
  pub references : (n : ℕ) → stands n y + closings n es ≡ given_out n y
  -- the references given out are the loans that were answered
  pub loans : y.kept.references ≡ total (λ e. loans_said e.reply.says) es
  -- a loan is returned on a business day, not before its return day
  pub in_time : Each (λ e. Each (InTime days e.before) e.reply.writes) es
  -- no pair of open requests is left
  pub unmatched : NoPair y
  -- no clear agent is short
  pub covered : (g : ℕ) → g < agent_count → is_clear (agent y g).standing ≡ true → short y g ≡ false

-- The law holds of every book that opens on a fit register, and of any list of calls.
unfoldable pub LawOfRuns : Type 0
LawOfRuns =
    (days : ℕ → Bool) (h : Holdings) (day : ℕ) (cs : List Call) → fit h ≡ true
    → ((a s : ℕ) → (Inside h a s → ⊥) → (h.free a s ≡ 0) × (h.reserved a s ≡ 0))
    → Law days (opening h day) (trace (opening h day) cs) (after (opening h day) cs)
