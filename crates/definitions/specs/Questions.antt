-- Questions as data: a call puts its questions in a fixed order, and the first that is answered by no refuses it.
use Rattle.std.specs.Prelude.{◌≡◌, ℕ, Bool, cond, ◌&&◌, List, [], ◌∷◌, Some, None, Ok, Err, Option, Result, nat_lt}
use Rattle.terms.specs.declared.calls.Refusal.{Refusal}
use Rattle.terms.specs.declared.calls.Refusal.TheVariants.{Unopened}
use Rattle.definitions.specs.Limits.{agent_count}
use Rattle.definitions.specs.States.{State, Kept}

-- A question: the refusal that a no gives, and its answer.
abbrev pub Question : Type 0
Question = Refusal × Bool

-- The refusal of the first question that is answered by no.
abbrev pub first_no : List Question → Option Refusal
first_no [] = None
first_no (q ∷ qs) = cond q.1 (first_no qs) (Some q.0)

-- What a call answers, by its first no.
abbrev pub reply_to : {X : Type 0} → Option Refusal → X → Result X Refusal
reply_to None v = Ok v
reply_to (Some r) v = Err r

-- What an answer leaves: the new state where it accepts, and where it refuses the old one.
abbrev pub left_by : {X S : Type 0} → Result X Refusal → S → S → S
left_by (Ok v) new old = new
left_by (Err r) new old = old

-- A call with the questions qs, the answer v and the new state: from x it answers r and leaves y. A state is a book's, or for a call
-- that does not concern the register what a ledger keeps.
pub record Step {X S : Type 0} (qs : List Question) (v : X) (new x y : S) (r : Result X Refusal) : Type 0 where
  pub answers : r ≡ reply_to (first_no qs) v
  pub leaves : y ≡ left_by r new x

-- Was the book opened? And the same of what a ledger keeps.
abbrev pub is_opened : State → Question
is_opened x = (Unopened, x.kept.opened)

abbrev pub opened_in : Kept → Question
opened_in k = (Unopened, k.opened)

-- The agent, the security, the account and the security exist.
abbrev pub has_agent : ℕ → Bool
has_agent g = nat_lt g agent_count

abbrev pub has_security : State → ℕ → Bool
has_security x s = nat_lt s x.held.securities

abbrev pub has_line : State → ℕ → ℕ → Bool
has_line x a s = nat_lt a x.held.accounts && nat_lt s x.held.securities
