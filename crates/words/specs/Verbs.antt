-- The verbs, each with its name.
use Rattle.std.specs.Prelude.{ℕ, List, [], ◌∷◌, codes, Option}
use Rattle.words.specs.Named.{named}
use Rattle.words.specs.declared.verbs.Verb.{Verb}
use Rattle.words.specs.declared.verbs.Verb.TheVariants.{Start, Admit, Stop, Price, Deposit, Withdraw, Trade, Pledge, Unpledge, Suspend, Noon}

-- The names of the verbs.
abbrev pub verbs : List (List ℕ × Verb)
verbs =
    (codes "start", Start) ∷
    (codes "admit", Admit) ∷
    (codes "stop", Stop) ∷
    (codes "price", Price) ∷
    (codes "deposit", Deposit) ∷
    (codes "withdraw", Withdraw) ∷
    (codes "trade", Trade) ∷
    (codes "pledge", Pledge) ∷
    (codes "unpledge", Unpledge) ∷
    (codes "suspend", Suspend) ∷
    (codes "noon", Noon) ∷
    []

-- The verb that a word names.
abbrev pub verb_named : List ℕ → Option Verb
verb_named w = named verbs w
