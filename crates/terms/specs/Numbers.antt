-- The numbers of the answers that are enums, each case with its own.
use Rattle.std.specs.Prelude.{ℕ, zero, suc, Some, None, Option}
use Rattle.terms.specs.declared.calls.Refusal.{Refusal}
use Rattle.terms.specs.declared.calls.Refusal.TheVariants.{Unopened, Unknown, NotOpen, OutOfRange, WrongCondition, AgentSuspended, PartMatched, WrongDay, Unpriced, TooFewShares, Uncovered, OverCap, NoPlace, TooManyLoans, ShortList, LastDay}
use Rattle.terms.specs.declared.faults.Fault.{Fault}
use Rattle.terms.specs.declared.faults.Fault.TheVariants.{NotVerb, Missing, Excess, WrongKind, TooLong}
use Rattle.terms.specs.declared.records.Kind.{Kind}
use Rattle.terms.specs.declared.records.Kind.TheVariants.{Cash, Bills, Bonds, Guarantees}
use Rattle.terms.specs.declared.records.Outcome.{Outcome}
use Rattle.terms.specs.declared.records.Outcome.TheVariants.{Returned, Failed}

-- A refusal has the number of the question that was answered by no.
abbrev pub refusal_number : Refusal → ℕ
refusal_number Unopened = 1
refusal_number Unknown = 2
refusal_number NotOpen = 3
refusal_number OutOfRange = 4
refusal_number WrongCondition = 5
refusal_number AgentSuspended = 6
refusal_number PartMatched = 7
refusal_number WrongDay = 8
refusal_number Unpriced = 9
refusal_number TooFewShares = 10
refusal_number Uncovered = 11
refusal_number OverCap = 12
refusal_number NoPlace = 13
refusal_number TooManyLoans = 14
refusal_number ShortList = 15
refusal_number LastDay = 16

-- The faults of a line: no verb, a word missing, a word too many, a word of the wrong kind, a line too long.
abbrev pub fault_number : Fault → ℕ
fault_number NotVerb = 1
fault_number Missing = 2
fault_number Excess = 3
fault_number WrongKind = 4
fault_number TooLong = 5

-- The outcomes of a loan that was due: returned, failed.
abbrev pub outcome_number : Outcome → ℕ
outcome_number Returned = 1
outcome_number Failed = 2

-- The kinds of collateral: cash, bills, bonds, guarantees.
abbrev pub kind_number : Kind → ℕ
kind_number Cash = 0
kind_number Bills = 1
kind_number Bonds = 2
kind_number Guarantees = 3

-- The kind with a number, of which there are four.
abbrev pub kind_of : ℕ → Option Kind
kind_of zero = Some Cash
kind_of (suc zero) = Some Bills
kind_of (suc (suc zero)) = Some Bonds
kind_of (suc (suc (suc zero))) = Some Guarantees
kind_of (suc (suc (suc (suc n)))) = None
