-- What a word says, and the kinds of words that may be asked for.
use Rattle.std.specs.Prelude.{ℕ, Bool, cond, ◌&&◌, List, [], ◌∷◌, length, Some, None, codes, Option, ◌==◌, slice_index}
use Rattle.terms.specs.declared.records.Sharing as s
use Rattle.terms.specs.declared.records.Sharing.TheVariants.{One, Many}
use Rattle.words.specs.Dates.{day_written}
use Rattle.words.specs.Named.{named}
use Rattle.words.specs.Numbers.{number_written}
use Rattle.words.specs.Verbs.{verb_named}
use Rattle.words.specs.declared.verbs.Verb as v
use Rattle.words.specs.declared.kinds.Word.{Word}
use Rattle.words.specs.declared.kinds.Word.TheVariants.{Verb, Number, Date, Dash, Sharing, Other}

-- What a word says: a verb, a number, the day of a date, a dash, a sharing, or nothing.
pub data Meant : Type 0 where
  a_verb : v.Verb → Meant
  a_number : ℕ → Meant
  a_date : ℕ → Meant
  a_dash : Meant
  a_sharing : s.Sharing → Meant
  nothing : Meant

-- The names of the sharings.
abbrev pub sharings : List (List ℕ × s.Sharing)
sharings = (codes "one", One) ∷ (codes "many", Many) ∷ []

-- The sharing that a word names.
abbrev pub sharing_named : List ℕ → Option s.Sharing
sharing_named w = named sharings w

-- A word that is a dash and nothing else.
abbrev pub is_dash : List ℕ → Bool
is_dash w = length w == 1 && slice_index w 0 == 45

-- The first of two ways to read a word, or else the second.
abbrev pub or_else : {X : Type 0} → Option X → (X → Meant) → Meant → Meant
or_else None f m = m
or_else (Some x) f m = f x

-- What the bytes of a word say.
abbrev pub read : List ℕ → Meant
read w =
    or_else (number_written w) a_number
    (or_else (verb_named w) a_verb
    (or_else (day_written w) a_date
    (or_else (sharing_named w) a_sharing (cond (is_dash w) a_dash nothing))))

-- What a word of the program says.
abbrev pub meant : Word → Meant
meant (Verb w x) = a_verb x
meant (Number w n) = a_number n
meant (Date w d) = a_date d
meant (Dash w) = a_dash
meant (Sharing w x) = a_sharing x
meant (Other w) = nothing

-- The bytes of a word of the program.
abbrev pub spelt : Word → List ℕ
spelt (Verb w x) = w.now
spelt (Number w n) = w.now
spelt (Date w d) = w.now
spelt (Dash w) = w.now
spelt (Sharing w x) = w.now
spelt (Other w) = w.now

-- The verb that a word says.
abbrev pub as_verb : Meant → Option v.Verb
as_verb (a_verb x) = Some x
as_verb (a_number n) = None
as_verb (a_date d) = None
as_verb a_dash = None
as_verb (a_sharing x) = None
as_verb nothing = None

-- The number that a word says.
abbrev pub as_number : Meant → Option ℕ
as_number (a_verb x) = None
as_number (a_number n) = Some n
as_number (a_date d) = None
as_number a_dash = None
as_number (a_sharing x) = None
as_number nothing = None

-- The day whose date a word says.
abbrev pub as_day : Meant → Option ℕ
as_day (a_verb x) = None
as_day (a_number n) = None
as_day (a_date d) = Some d
as_day a_dash = None
as_day (a_sharing x) = None
as_day nothing = None

-- The expiry that a word says: a dash stands for one that is not given.
abbrev pub as_expiry : Meant → Option (Option ℕ)
as_expiry (a_verb x) = None
as_expiry (a_number n) = None
as_expiry (a_date d) = Some (Some d)
as_expiry a_dash = Some None
as_expiry (a_sharing x) = None
as_expiry nothing = None

-- The sharing that a word says.
abbrev pub as_sharing : Meant → Option s.Sharing
as_sharing (a_verb x) = None
as_sharing (a_number n) = None
as_sharing (a_date d) = None
as_sharing a_dash = None
as_sharing (a_sharing x) = Some x
as_sharing nothing = None

-- The kinds that may be asked of a word: a verb, a number, a date, a date or a dash, a sharing.
pub data Kind : Type 0 where
  verb : Kind
  number : Kind
  day : Kind
  expiry : Kind
  sharing : Kind

-- What a word of a kind gives.
abbrev pub Value : Kind → Type 0
Value verb = v.Verb
Value number = ℕ
Value day = ℕ
Value expiry = Option ℕ
Value sharing = s.Sharing

-- What a word gives as one of a kind: nothing unless it is of that kind.
abbrev pub value_as : (k : Kind) → Meant → Option (Value k)
value_as verb m = as_verb m
value_as number m = as_number m
value_as day m = as_day m
value_as expiry m = as_expiry m
value_as sharing m = as_sharing m
