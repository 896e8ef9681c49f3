-- What noon and stop come to, beside how they are defined.
use Rattle.std.specs.Prelude.{◌≡◌, ℕ, ◌+◌, false}
use Rattle.std.specs.List.{AllByRecursion as Each}
use Rattle.register.specs.Holdings.{registered}
use Rattle.definitions.specs.Cover.{needed, needed_in, short, short_in}
use Rattle.definitions.specs.Limits.{agent_count}
use Rattle.definitions.specs.Listing.{in_security, stop_does}
use Rattle.definitions.specs.Requests.{left_of}
use Rattle.definitions.specs.Standings.{noon_does, suspensions}
use Rattle.definitions.specs.States.{State, Kept, agent_in, count_below, is_notified, suspended}

-- Noon answers how many more agents are suspended after it than before. Nobody is notified any more, and who was not notified is as it was.
pub record NoonDecides (k : Kept) : Type 0 where
  pub counted : count_below agent_count (suspended (noon_does k)) ≡ count_below agent_count (suspended k) + suspensions k
  pub decided : (g : ℕ) → is_notified (agent_in (noon_does k) g).standing ≡ false
  pub others : (g : ℕ) → is_notified (agent_in k g).standing ≡ false → agent_in (noon_does k) g ≡ agent_in k g

-- No request of a security that was stopped is left, its loans are as they were, and so are the registered shares of every line, where
-- what is left of requests was reserved.
pub record StopClears (x : State) (s : ℕ) : Type 0 where
  pub lending : Each (λ l. in_security s l.request ≡ false) (stop_does x s).kept.lending
  pub borrowing : Each (λ b. in_security s b.request ≡ false) (stop_does x s).kept.borrowing
  pub loans : (stop_does x s).kept.loans ≡ x.kept.loans
  pub lines : ((a t : ℕ) → x.held.reserved a t ≡ left_of x.kept.lending a t) → (a t : ℕ) → registered (stop_does x s).held a t ≡ registered x.held a t

abbrev pub CallsDecide : Type 0
CallsDecide = ((k : Kept) → NoonDecides k) × ((x : State) (s : ℕ) → StopClears x s)

-- What the law asks of a state is what the calls ask of the ledger: an agent needs the same, and is short by both or by neither.
pub record CoverAgrees (x : State) : Type 0 where
  pub same_need : (g : ℕ) → needed x g ≡ needed_in x.kept g
  pub same_short : (g : ℕ) → short x g ≡ short_in x.kept g
