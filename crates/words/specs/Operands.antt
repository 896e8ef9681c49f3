-- The words of a line, each as one of the kind that is asked for.
use Rattle.std.specs.Prelude.{◌≡◌, ℕ, List, [], ◌∷◌, Some, None, Ok, Err, Option, Result}
use Rattle.std.specs.Option.{ok_or}
use Rattle.words.specs.Kinds.{Kind, verb, number, day, expiry, sharing, Meant, Value, meant, read, value_as}
use Rattle.words.specs.Reading.{Left, first}
use Rattle.words.specs.declared.faults.WordFault.{WordFault}
use Rattle.words.specs.declared.faults.WordFault.TheVariants.{NotVerb, Missing, Excess, WrongKind}
use Rattle.words.specs.declared.kinds.Word.{Word}

-- What a word says that was handed out, and its place.
abbrev pub told : Option (List ℕ × ℕ) → ℕ → Result (Meant × ℕ) WordFault
told None p = Err (Missing p)
told (Some w) p = Ok (read w.0, w.1)

-- What the next word says, and its place: it is missing if none is left.
abbrev pub next : Left → Result (Meant × ℕ) WordFault
next l = told (first l) l.1

-- The fault of the word at the place p that is not of the kind that is asked for.
abbrev pub unfit : Kind → ℕ → WordFault
unfit verb p = NotVerb p
unfit number p = WrongKind p
unfit day p = WrongKind p
unfit expiry p = WrongKind p
unfit sharing p = WrongKind p

-- A word that was read, as one of a kind.
abbrev pub field_of : (k : Kind) → Result (Meant × ℕ) WordFault → Result (Value k) WordFault
field_of k (Ok x) = ok_or (value_as k x.0) (unfit k x.1)
field_of k (Err e) = Err e

-- The next word as one of a kind.
abbrev pub field : (k : Kind) → Left → Result (Value k) WordFault
field k l = field_of k (next l)

-- r is what a kind makes of a word that was read, or else the fault at its place. `makes` says what the kind makes of words, and
-- `faults` what is wrong at places.
abbrev pub ReadBy : {T : Type 0} → (Word → Option T → Type 0) → (ℕ → WordFault → Type 0) → Result (Meant × ℕ) WordFault → Result T WordFault → Type 0
ReadBy {T} makes faults (Ok x) r = (w : Word) × (o : Option T) × (e : WordFault) × (meant w ≡ x.0) × makes w o × faults x.1 e × (r ≡ ok_or o e)
ReadBy makes faults (Err e) r = r ≡ Err e

-- No word is among those that are left.
abbrev pub done_of : List (List ℕ) → ℕ → Result (Unit {0}) WordFault
done_of [] p = Ok tt
done_of (w ∷ ws) p = Err (Excess p)

-- No word is left: the next would be too many.
abbrev pub done : Left → Result (Unit {0}) WordFault
done l = done_of l.0 l.1
