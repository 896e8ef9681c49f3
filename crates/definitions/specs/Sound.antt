-- What holds of every book between calls.
use Rattle.std.specs.Prelude.{◌≡◌, ℕ, ◌<◌, ◌≤◌, Bool, true, List, length, Option}
use Rattle.std.specs.Option.{unwrap_or}
use Rattle.std.specs.List.{AllByRecursion as Each}
use Rattle.register.specs.Holdings.{Inside, Holdings, the_cap, total_of}
use Rattle.ordered.specs.Places.{Ordered}
use Rattle.terms.specs.Orders.{lends_before, borrows_before, returns_before}
use Rattle.terms.specs.declared.ledger.Ledger.{Ledger}
use Rattle.terms.specs.declared.records.Agent.{Agent}
use Rattle.terms.specs.declared.records.Exposure.{Exposure}
use Rattle.terms.specs.declared.records.Security.{Security}
use Rattle.definitions.specs.Cover.{request_exposure, loan_exposure}
use Rattle.definitions.specs.Limits.{agent_count, kind_count, most_price, most_quantity, most_securities}
use Rattle.definitions.specs.Requests.{left_of}
use Rattle.definitions.specs.States.{State, Kept, kept_of, state}

-- An agent has cents in four kinds, in each at most the cap.
pub record AgentRanged (a : Agent) : Type 0 where
  pub kinds : length a.cents ≡ kind_count
  pub capped : Each (λ c. c ≤ the_cap) a.cents

-- No price, posted or in force, is too high.
pub record PriceRanged (s : Security) : Type 0 where
  pub posted : unwrap_or s.posted 0 ≤ most_price
  pub price : unwrap_or s.price 0 ≤ most_price

-- An exposure is in a security that there may be, of no more shares than a request has.
pub record ExposureRanged (e : Exposure) : Type 0 where
  pub security : e.security < most_securities
  pub quantity : e.quantity ≤ most_quantity

-- The numbers that a ledger keeps are in range, so that no sum of them runs over.
pub record Ranged (k : Kept) : Type 0 where
  pub agents : length k.agents ≡ agent_count
  pub collateral : Each AgentRanged k.agents
  pub securities : length k.securities ≡ most_securities
  pub prices : Each PriceRanged k.securities
  pub borrowing : Each (λ b. ExposureRanged (request_exposure b)) k.borrowing
  pub loans : Each (λ l. ExposureRanged (loan_exposure l)) k.loans

-- The register bears the ledger out: it is small enough, no security has more shares than the cap, each lending request is on a
-- line that there is, and what is left of the requests is what is reserved.
pub record Borne (x : State) : Type 0 where
  pub securities : x.held.securities ≤ most_securities
  pub capped : (s : ℕ) → s < x.held.securities → total_of x.held s ≤ the_cap
  pub lines : Each (λ l. Inside x.held l.request.account l.request.security) x.kept.lending
  pub reserved : (a s : ℕ) → x.held.reserved a s ≡ left_of x.kept.lending a s

-- The state of a book that was opened: no security has more shares than the cap. A book that was not opened refuses every call.
pub record Sound (x : State) : Type 0 where
  pub capped : x.kept.opened ≡ true → (s : ℕ) → s < x.held.securities → total_of x.held s ≤ the_cap

-- And more: its numbers are in range, and if it was opened its register bears it out.
pub record Upright (x : State) : Type 0 where
  pub ranged : Ranged x.kept
  pub borne : x.kept.opened ≡ true → Borne x

-- n places hold a list in its order, with no gap.
pub record Tidy {X : Type 0} (n : ℕ) (lt : X → X → Bool) (places : List (Option X)) : Type 0 where
  pub ordered : Ordered lt places
  pub long : length places ≡ n

-- The three lists of a ledger are so.
pub record Neat (l : Ledger) : Type 0 where
  pub lending : Tidy 64 lends_before l.requests.lending
  pub borrowing : Tidy 64 borrows_before l.requests.borrowing
  pub loans : Tidy 128 returns_before l.loans.standing

-- A ledger in order: its lists are neat, and its numbers in range.
pub record Kempt (l : Ledger) : Type 0 where
  pub neat : Neat l
  pub ranged : Ranged (kept_of l)

-- A register and a ledger that stand together: what every book has between calls.
pub record Upheld (h : Holdings) (l : Ledger) : Type 0 where
  pub neat : Neat l
  pub upright : Upright (state h l)
