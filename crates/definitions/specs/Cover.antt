-- Whether an agent's collateral covers what it must, and how its standing changes.
use Rattle.std.specs.Prelude.{ℕ, ◌+◌, ◌*◌, Bool, cond, List, ◌==◌, nat_le, nat_lt, slice_index}
use Rattle.std.specs.Option.{unwrap_or}
use Rattle.terms.specs.Numbers.{kind_number}
use Rattle.terms.specs.declared.records.Agent.{Agent}
use Rattle.terms.specs.declared.records.BorrowingRequest.{BorrowingRequest}
use Rattle.terms.specs.declared.records.Event.{Event}
use Rattle.terms.specs.declared.records.Event.TheVariants.{Close, Noon, Suspend, Resume}
use Rattle.terms.specs.declared.records.Exposure.{Exposure}
use Rattle.terms.specs.declared.records.Kind.{Kind}
use Rattle.terms.specs.declared.records.Kind.TheVariants.{Cash, Bills, Bonds, Guarantees}
use Rattle.terms.specs.declared.records.Loan.{Loan}
use Rattle.terms.specs.declared.records.Standing.{Standing}
use Rattle.terms.specs.declared.records.Standing.TheVariants.{Clear, Notified, Suspended}
use Rattle.definitions.specs.Limits.{cash_points, bill_points, bond_points, guarantee_points, need_points}
use Rattle.definitions.specs.States.{State, Kept, agent, agent_in, security, security_in, total}

-- The points that a cent of a kind counts.
abbrev pub weight : Kind → ℕ
weight Cash = cash_points
weight Bills = bill_points
weight Bonds = bond_points
weight Guarantees = guarantee_points

-- The points of the cents of one kind.
abbrev pub kind_points : List ℕ → Kind → ℕ
kind_points cents k = slice_index cents (kind_number k) * weight k

-- The points of an agent's collateral.
abbrev pub points : List ℕ → ℕ
points cents = kind_points cents Cash + kind_points cents Bills + kind_points cents Bonds + kind_points cents Guarantees

-- The price in force of a security, in cents.
abbrev pub price : State → ℕ → ℕ
price x s = unwrap_or (security x s).price 0

-- The need of a quantity at a price, in points.
abbrev pub need : ℕ → ℕ → ℕ
need quantity cents = quantity * cents * need_points

-- What an agent needs for a borrowing request of its own, as far as it is unmatched, and for a loan as its borrower.
abbrev pub request_need : State → ℕ → BorrowingRequest → ℕ
request_need x g b = cond (b.request.agent == g) (need b.request.left (price x b.request.security)) 0

abbrev pub loan_need : State → ℕ → Loan → ℕ
loan_need x g l = cond (l.borrower.agent == g) (need l.quantity (price x l.security)) 0

-- What an agent needs in all.
abbrev pub needed : State → ℕ → ℕ
needed x g = total (request_need x g) x.kept.borrowing + total (loan_need x g) x.kept.loans

-- An agent is short where its points less what it needs, its available, is below zero.
abbrev pub short : State → ℕ → Bool
short x g = nat_lt (points (agent x g).cents) (needed x g)

-- The same in what a ledger keeps, by exposures. The price in force:
abbrev pub price_in : Kept → ℕ → ℕ
price_in k s = unwrap_or (security_in k s).price 0

-- What is to be covered of a borrowing request, as far as it is unmatched, and of a loan, for its borrower.
abbrev pub request_exposure : BorrowingRequest → Exposure
request_exposure b = record { agent = b.request.agent; security = b.request.security; quantity = b.request.left }

abbrev pub loan_exposure : Loan → Exposure
loan_exposure l = record { agent = l.borrower.agent; security = l.security; quantity = l.quantity }

-- What an agent needs for an exposure: nothing for another's.
abbrev pub need_for : Kept → ℕ → Exposure → ℕ
need_for k g e = cond (e.agent == g) (need e.quantity (price_in k e.security)) 0

-- What an agent needs in all, for its unmatched borrowing and for its loans as borrower.
abbrev pub needed_in : Kept → ℕ → ℕ
needed_in k g =
    total (λ b. need_for k g (request_exposure b)) k.borrowing + total (λ l. need_for k g (loan_exposure l)) k.loans

-- Available is an agent's points less what it needs. It covers so many points if it is at least as many.
abbrev pub covers : Kept → ℕ → ℕ → Bool
covers k g more = nat_le (needed_in k g + more) (points (agent_in k g).cents)

-- An agent is short if its available is below zero.
abbrev pub short_in : Kept → ℕ → Bool
short_in k g = nat_lt (points (agent_in k g).cents) (needed_in k g)

-- The standing after an event. A close notifies who is clear and short; noon suspends who is notified and short, and clears who is
-- notified and not; suspend and resume say themselves what they give.
abbrev pub standing_after : Standing → Event → Standing
standing_after Clear (Close is_short) = cond is_short Notified Clear
standing_after Notified (Close is_short) = Notified
standing_after Suspended (Close is_short) = Suspended
standing_after Clear (Noon is_short) = Clear
standing_after Notified (Noon is_short) = cond is_short Suspended Clear
standing_after Suspended (Noon is_short) = Suspended
standing_after Clear Suspend = Suspended
standing_after Notified Suspend = Suspended
standing_after Suspended Suspend = Suspended
standing_after Clear Resume = Clear
standing_after Notified Resume = Clear
standing_after Suspended Resume = Clear

-- An agent after an event: its collateral stays.
abbrev pub agent_after : Agent → Event → Agent
agent_after a e = record { standing = standing_after a.standing e; cents = a.cents }
