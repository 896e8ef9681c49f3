-- For each call: the questions that it puts, what it answers, and the state after.
use Rattle.std.specs.Prelude.{List, []}
use Rattle.terms.specs.declared.calls.Answer.{Answer}
use Rattle.terms.specs.declared.calls.Answer.TheVariants.{Done, Suspensions}
use Rattle.terms.specs.declared.calls.Call.{Call}
use Rattle.terms.specs.declared.calls.Call.TheVariants.{Admit, Stop, Price, Deposit, Withdraw, Trade, Pledge, Unpledge, Suspend, Noon}
use Rattle.terms.specs.declared.records.CloseLine.{CloseLine}
use Rattle.definitions.specs.Custody.{deposit_asks, deposit_does, withdraw_asks, withdraw_does, trade_asks, trade_does}
use Rattle.definitions.specs.Listing.{admit_asks, admit_does, stop_asks, stop_does, price_asks, price_does}
use Rattle.definitions.specs.Pledges.{pledge_asks, pledge_does, unpledge_asks, unpledge_does}
use Rattle.definitions.specs.Questions.{Question}
use Rattle.definitions.specs.Standings.{suspend_asks, suspend_does, noon_asks, noon_does, suspensions}
use Rattle.definitions.specs.States.{State, with_kept}

-- The questions, in order.
abbrev pub asks : State → Call → List Question
asks x (Admit s) = admit_asks x s
asks x (Stop s) = stop_asks x s
asks x (Price s p) = price_asks x s p
asks x (Deposit a s q) = deposit_asks x a s q
asks x (Withdraw a s q) = withdraw_asks x a s q
asks x (Trade a b s q) = trade_asks x a b s q
asks x (Pledge g kind c) = pledge_asks x.kept g kind c
asks x (Unpledge g kind c) = unpledge_asks x.kept g kind c
asks x (Suspend g) = suspend_asks x.kept g
asks x Noon = noon_asks x.kept

-- The answer of an accepted call.
abbrev pub answer : State → Call → Answer
answer x (Admit s) = Done
answer x (Stop s) = Done
answer x (Price s p) = Done
answer x (Deposit a s q) = Done
answer x (Withdraw a s q) = Done
answer x (Trade a b s q) = Done
answer x (Pledge g kind c) = Done
answer x (Unpledge g kind c) = Done
answer x (Suspend g) = Done
answer x Noon = Suspensions (suspensions x.kept)

-- The lines that an accepted call writes.
abbrev pub lines : State → Call → List CloseLine
lines x (Admit s) = []
lines x (Stop s) = []
lines x (Price s p) = []
lines x (Deposit a s q) = []
lines x (Withdraw a s q) = []
lines x (Trade a b s q) = []
lines x (Pledge g kind c) = []
lines x (Unpledge g kind c) = []
lines x (Suspend g) = []
lines x Noon = []

-- The state after an accepted call.
abbrev pub does : State → Call → State
does x (Admit s) = admit_does x s
does x (Stop s) = stop_does x s
does x (Price s p) = price_does x s p
does x (Deposit a s q) = deposit_does x a s q
does x (Withdraw a s q) = withdraw_does x a s q
does x (Trade a b s q) = trade_does x a b s q
does x (Pledge g kind c) = with_kept x (pledge_does x.kept g kind c)
does x (Unpledge g kind c) = with_kept x (unpledge_does x.kept g kind c)
does x (Suspend g) = with_kept x (suspend_does x.kept g)
does x Noon = with_kept x (noon_does x.kept)
