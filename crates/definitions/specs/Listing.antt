-- Admit, stop and price: which securities may be lent, and at what price.
use Rattle.std.specs.Prelude.{ℕ, Bool, true, false, not, List, [], ◌∷◌, Some, ◌==◌, slice_set}
use Rattle.terms.specs.declared.calls.Refusal.TheVariants.{Unknown, OutOfRange, WrongCondition}
use Rattle.terms.specs.declared.records.Request.{Request}
use Rattle.terms.specs.declared.records.Security.{Security}
use Rattle.definitions.specs.Limits.{most_price, within}
use Rattle.definitions.specs.Questions.{Question, is_opened, has_security}
use Rattle.definitions.specs.Requests.{taken_out}
use Rattle.definitions.specs.States.{State, Kept, with_kept, with_securities, security_in}

abbrev pub eligible : Kept → ℕ → Bool
eligible k s = (security_in k s).eligible

-- The state with another record of a security.
abbrev pub with_security : State → ℕ → Security → State
with_security x s r = with_kept x (with_securities x.kept (slice_set x.kept.securities s r))

-- A security that is eligible or not, and one with a price posted: its price in force stays.
abbrev pub as_eligible : Security → Bool → Security
as_eligible r e = record { eligible = e; posted = r.posted; price = r.price }

abbrev pub as_posted : Security → ℕ → Security
as_posted r p = record { eligible = r.eligible; posted = Some p; price = r.price }

abbrev pub made_eligible : State → ℕ → Bool → State
made_eligible x s e = with_security x s (as_eligible (security_in x.kept s) e)

-- Admit makes a security eligible: opened, security, and it is not eligible yet.
abbrev pub admit_asks : State → ℕ → List Question
admit_asks x s = is_opened x ∷ (Unknown, has_security x s) ∷ (WrongCondition, not (eligible x.kept s)) ∷ []

abbrev pub admit_does : State → ℕ → State
admit_does x s = made_eligible x s true

-- Stop ends that, and takes out the security's requests; its loans run on: opened, security, and it is eligible.
abbrev pub stop_asks : State → ℕ → List Question
stop_asks x s = is_opened x ∷ (Unknown, has_security x s) ∷ (WrongCondition, eligible x.kept s) ∷ []

abbrev pub in_security : ℕ → Request → Bool
in_security s r = r.security == s

abbrev pub stop_does : State → ℕ → State
stop_does x s = taken_out (in_security s) (made_eligible x s false)

-- Price posts a price, which comes into force at the next close: opened, security, and the price is in range.
abbrev pub price_asks : State → ℕ → ℕ → List Question
price_asks x s p = is_opened x ∷ (Unknown, has_security x s) ∷ (OutOfRange, within 1 most_price p) ∷ []

abbrev pub price_does : State → ℕ → ℕ → State
price_does x s p = with_security x s (as_posted (security_in x.kept s) p)
