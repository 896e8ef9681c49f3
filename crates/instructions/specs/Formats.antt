-- The formats of the lines: what each verb asks of the words after it.
use Rattle.std.specs.Prelude.{◌≡◌, ℕ, zero, suc, ◌<◌, ◌≤◌, Bool, true, false, List, [], ◌∷◌, length, is_some, Some, None, Option}
use Rattle.words.specs.Kinds.{Kind, verb, number, day, read, value_as, as_verb}
use Rattle.words.specs.Operands.{unfit}
use Rattle.words.specs.declared.faults.WordFault.TheVariants.{Missing, Excess}
use Rattle.words.specs.declared.verbs.Verb.{Verb}
use Rattle.words.specs.declared.verbs.Verb.TheVariants.{Start, Admit, Stop, Price, Deposit, Withdraw, Trade, Pledge, Unpledge, Suspend, Noon}
use Rattle.instructions.specs.Faults.{of_word}
use Rattle.instructions.specs.declared.faults.LineFault.{LineFault}

-- The kinds of the operands of a verb, in their order.
abbrev pub operands : Verb → List Kind
-- start DATE
operands Start = day ∷ []
-- admit security
operands Admit = number ∷ []
-- stop security
operands Stop = number ∷ []
-- price security cents
operands Price = number ∷ number ∷ []
-- deposit account security quantity
operands Deposit = number ∷ number ∷ number ∷ []
-- withdraw account security quantity
operands Withdraw = number ∷ number ∷ number ∷ []
-- trade giver receiver security quantity
operands Trade = number ∷ number ∷ number ∷ number ∷ []
-- pledge agent kind cents
operands Pledge = number ∷ number ∷ number ∷ []
-- unpledge agent kind cents
operands Unpledge = number ∷ number ∷ number ∷ []
-- suspend agent
operands Suspend = number ∷ []
-- noon
operands Noon = []

-- A verb is asked for, and then the operands of the one that is there.
abbrev pub format_of : Option Verb → List Kind
format_of None = verb ∷ []
format_of (Some v) = verb ∷ operands v

-- The kinds that are asked of the words of a line: first a verb, and then the operands of that verb.
abbrev pub format : List (List ℕ) → List Kind
format [] = verb ∷ []
format (w ∷ ws) = format_of (as_verb (read w))

-- What stands at a place, counted from 1: nothing past the last.
abbrev pub at : {X : Type 0} → List X → ℕ → Option X
at [] p = None
at (x ∷ xs) zero = None
at (x ∷ xs) (suc zero) = Some x
at (x ∷ xs) (suc (suc p)) = at xs (suc p)

-- Whether a word is of a kind.
abbrev pub fits : Kind → List ℕ → Bool
fits k w = is_some (value_as k (read w))

-- A word is asked for, it is there, and it is of the kind that is asked for.
abbrev pub AsAsked : Option Kind → Option (List ℕ) → Type 0
AsAsked None w = ⊥
AsAsked (Some k) None = ⊥
AsAsked (Some k) (Some w) = fits k w ≡ true

-- A word is asked for and none is there: missing. One is there and none is asked for: too many. Or it is not of the kind that
-- is asked for: no verb, or the wrong kind.
abbrev pub Wrong : Option Kind → Option (List ℕ) → LineFault → Type 0
Wrong None None e = ⊥
Wrong (Some k) None e = e ≡ of_word (Missing e.place)
Wrong None (Some w) e = e ≡ of_word (Excess e.place)
Wrong (Some k) (Some w) e = (fits k w ≡ false) × (e ≡ of_word (unfit k e.place))

-- The words are as many as are asked for, and each is of its kind.
pub record Exact (ks : List Kind) (ws : List (List ℕ)) : Type 0 where
  pub count : length ws ≡ length ks
  pub each : (p : ℕ) → 0 < p → p ≤ length ws → AsAsked (at ks p) (at ws p)

-- The fault stands at the first place that is not as asked for: each word before is of its kind.
pub record FirstWrong (ks : List Kind) (ws : List (List ℕ)) (e : LineFault) : Type 0 where
  pub counted : 0 < e.place
  pub before : (p : ℕ) → 0 < p → p < e.place → AsAsked (at ks p) (at ws p)
  pub here : Wrong (at ks e.place) (at ws e.place) e
