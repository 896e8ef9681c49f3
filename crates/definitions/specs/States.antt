-- The state of a book: what its register holds and what its ledger keeps, its lists as plain lists.
use Rattle.std.specs.Prelude.{ℕ, zero, suc, ◌+◌, Bool, true, false, cond, ◌&&◌, List, [], ◌∷◌, replicate, None, ◌==◌, nat_le, slice_index_or}
use Rattle.register.specs.Holdings.{Holdings, the_cap, total_of, sum_below, sum_reserved}
use Rattle.ordered.specs.Places.{records}
use Rattle.terms.specs.declared.ledger.Ledger.{Ledger}
use Rattle.terms.specs.declared.records.Agent.{Agent}
use Rattle.terms.specs.declared.records.BorrowingRequest.{BorrowingRequest}
use Rattle.terms.specs.declared.records.LendingRequest.{LendingRequest}
use Rattle.terms.specs.declared.records.Loan.{Loan}
use Rattle.terms.specs.declared.records.Request.{Request}
use Rattle.terms.specs.declared.records.Security.{Security}
use Rattle.terms.specs.declared.records.Sharing.TheVariants.{One}
use Rattle.terms.specs.declared.records.Standing.{Standing}
use Rattle.terms.specs.declared.records.Standing.TheVariants.{Clear, Notified, Suspended}
use Rattle.definitions.specs.Limits.{most_accounts, most_securities, agent_count, kind_count, last_opening, within}

-- What a ledger keeps: its three lists are the records that stand in their places.
pub record Kept : Type 0 where
  pub opened : Bool
  pub today : ℕ
  pub securities : List Security
  pub agents : List Agent
  pub lending : List LendingRequest
  pub borrowing : List BorrowingRequest
  pub updates : ℕ
  pub loans : List Loan
  pub references : ℕ

pub record State : Type 0 where
  pub held : Holdings
  pub kept : Kept

-- What a ledger means.
abbrev pub kept_of : Ledger → Kept
kept_of l =
    record { opened = l.opened; today = l.today; securities = l.securities; agents = l.agents; lending = records l.requests.lending; borrowing = records l.requests.borrowing; updates = l.requests.updates; loans = records l.loans.standing; references = l.loans.references }

-- The state of a register and a ledger.
abbrev pub state : Holdings → Ledger → State
state h l = record { held = h; kept = kept_of l }

-- The state with one part exchanged.
abbrev pub with_held : State → Holdings → State
with_held x h = record { held = h; kept = x.kept }

abbrev pub with_kept : State → Kept → State
with_kept x k = record { held = x.held; kept = k }

abbrev pub with_securities : Kept → List Security → Kept
with_securities k ss =
    record { opened = k.opened; today = k.today; securities = ss; agents = k.agents; lending = k.lending; borrowing = k.borrowing; updates = k.updates; loans = k.loans; references = k.references }

abbrev pub with_agents : Kept → List Agent → Kept
with_agents k gs =
    record { opened = k.opened; today = k.today; securities = k.securities; agents = gs; lending = k.lending; borrowing = k.borrowing; updates = k.updates; loans = k.loans; references = k.references }

abbrev pub with_requests : Kept → List LendingRequest → List BorrowingRequest → Kept
with_requests k ls bs =
    record { opened = k.opened; today = k.today; securities = k.securities; agents = k.agents; lending = ls; borrowing = bs; updates = k.updates; loans = k.loans; references = k.references }

-- The free shares of a line.
abbrev pub free : State → ℕ → ℕ → ℕ
free x a s = x.held.free a s

-- What a list reads past its end; no rule ever does.
abbrev pub no_agent : Agent
no_agent = record { standing = Clear; cents = [] }

abbrev pub no_security : Security
no_security = record { eligible = false; posted = None; price = None }

abbrev pub no_request : Request
no_request = record { number = 0; update = 0; agent = 0; account = 0; security = 0; quantity = 0; left = 0; rate = 0; expiry = 0; sharing = One; duration = 0 }

abbrev pub no_lending : LendingRequest
no_lending = record { request = no_request }

abbrev pub no_borrowing : BorrowingRequest
no_borrowing = record { request = no_request }

abbrev pub agent : State → ℕ → Agent
agent x g = slice_index_or x.kept.agents g no_agent

abbrev pub security : State → ℕ → Security
security x s = slice_index_or x.kept.securities s no_security

-- The same in what a ledger keeps.
abbrev pub agent_in : Kept → ℕ → Agent
agent_in k g = slice_index_or k.agents g no_agent

abbrev pub security_in : Kept → ℕ → Security
security_in k s = slice_index_or k.securities s no_security

abbrev pub is_suspended : Standing → Bool
is_suspended Clear = false
is_suspended Notified = false
is_suspended Suspended = true

abbrev pub is_notified : Standing → Bool
is_notified Clear = false
is_notified Notified = true
is_notified Suspended = false

abbrev pub is_clear : Standing → Bool
is_clear Clear = true
is_clear Notified = false
is_clear Suspended = false

abbrev pub suspended : Kept → ℕ → Bool
suspended k g = is_suspended (agent_in k g).standing

-- The number n, where the line (b, t) is the line (a, s).
abbrev pub on_line : ℕ → ℕ → ℕ → ℕ → ℕ → ℕ
on_line a s b t n = cond (b == a && t == s) n 0

-- The sum of a number over a list, and how many of a list pass a test.
abbrev pub total : {X : Type 0} → (X → ℕ) → List X → ℕ
total f [] = 0
total f (x ∷ xs) = f x + total f xs

abbrev pub count : {X : Type 0} → (X → Bool) → List X → ℕ
count p xs = total (λ x. cond (p x) 1 0) xs

-- A list by a function of each place, counted from `from`, and of what stands there.
abbrev pub map_from : {X Y : Type 0} → (ℕ → X → Y) → ℕ → List X → List Y
map_from f from [] = []
map_from f from (x ∷ xs) = f from x ∷ map_from f (suc from) xs

-- How many numbers below n pass a test.
abbrev pub count_below : ℕ → (ℕ → Bool) → ℕ
count_below n p = sum_below n (λ i. cond (p i) 1 0)

-- Each number below n passes.
abbrev pub all_below : ℕ → (ℕ → Bool) → Bool
all_below zero p = true
all_below (suc n) p = p n && all_below n p

-- A register without shares.
abbrev pub no_shares : ℕ → ℕ → Holdings
no_shares accounts securities = record { accounts = accounts; securities = securities; free = λ a s. 0; reserved = λ a s. 0 }

-- A register is fit with 1 to 64 accounts, 1 to 16 securities, nothing reserved, and at most the cap in shares of each security.
abbrev pub fit : Holdings → Bool
fit h =
    within 1 most_accounts h.accounts && (within 1 most_securities h.securities
    && all_below h.securities (λ s. (sum_reserved h s == 0) && nat_le (total_of h s) the_cap))

-- An agent at first: clear, with no collateral.
abbrev pub new_agent : Agent
new_agent = record { standing = Clear; cents = replicate kind_count 0 }

-- A book as it opens on a register: no security is eligible, all agents are clear, all else is empty.
abbrev pub opening : Holdings → ℕ → State
opening h day = record {
  held = h;
  kept = record { opened = fit h && nat_le day last_opening; today = day; securities = replicate most_securities no_security; agents = replicate agent_count new_agent; lending = []; borrowing = []; updates = 0; loans = []; references = 0 };
}
