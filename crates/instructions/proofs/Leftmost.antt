-- The definition of what a line means agrees with the formats of the verbs.
use Rattle.std.proofs.Common.{◌≡◌, ℕ, zero, suc, ◌+◌, ◌<◌, ◌≤◌, true, false, ltb, List, [], ◌∷◌, length, is_some, Some, None, Ok, Err, Option, Result, sym, refl, ap, ◌∙◌, subst, ⊎_elim, arith}
use Rattle.std.specs.Option.{ok_or}
use Rattle.terms.specs.declared.calls.Call.{Call}
use Rattle.terms.specs.declared.faults.Fault.TheVariants.{TooLong}
use Rattle.std.proofs.lemmas.Bool.{cond-true, cond-false, lt-ltb, le-ltb, cases_lt}
use Rattle.words.specs.Kinds.{Kind, verb, number, day, expiry, sharing, Value, read, value_as, as_verb}
use Rattle.words.specs.Operands.{unfit, field, done}
use Rattle.words.specs.Parts.{words}
use Rattle.words.specs.Reading.{Left, step, whole}
use Rattle.words.specs.declared.faults.WordFault.TheVariants.{Missing, Excess}
use Rattle.words.specs.declared.verbs.Verb.{Verb}
use Rattle.words.specs.declared.verbs.Verb.TheVariants.{Start, Admit, Stop, Price, Deposit, Withdraw, Trade, Pledge, Unpledge, Suspend, Noon}
use Rattle.instructions.specs.Faults.{of_word}
use Rattle.instructions.specs.Formats.{operands, format_of, format, at, fits, AsAsked, Wrong, Exact, FirstWrong}
use Rattle.instructions.specs.Meaning.{then, after, one_number, three_numbers, calls, asked, instructs, parsed}
use Rattle.instructions.specs.Theorems.{LeftmostFault}
use Rattle.instructions.specs.declared.faults.LineFault.{LineFault}
use Rattle.instructions.specs.declared.instruction.Instruction.TheVariants as i

-- the fault stands j words after the place p, and is the first
record From (ks : List Kind) (ws : List (List ℕ)) (p : ℕ) (e : LineFault) : Type 0 where
  j : ℕ
  stands : e.place ≡ p + j
  before : (q : ℕ) → q < j → AsAsked (at ks (suc q)) (at ws (suc q))
  here : Wrong (at ks (suc j)) (at ws (suc j)) e

-- words from the place p on, read as words of these kinds, gave r
record Gives {Y : Type 0} (ks : List Kind) (ws : List (List ℕ)) (p : ℕ) (r : Result Y LineFault) : Type 0 where
  good : (y : Y) → r ≡ Ok y → Exact ks ws
  bad : (e : LineFault) → r ≡ Err e → From ks ws p e

apart : {Y : Type 0} (e : LineFault) (y : Y) → ◌≡◌ {A = Result Y LineFault} (Err e) (Ok y) → ⊥
apart e y q = let z : ◌≡◌ {A = ℕ} 0 1 = cc in omega arith

-- a fault at the first word
at_once : {Y : Type 0} (ks : List Kind) (ws : List (List ℕ)) (p : ℕ) (e : LineFault) → e.place ≡ p → Wrong (at ks 1) (at ws 1) e → Gives {Y = Y} ks ws p (Err e)
at_once ks ws p e s w = record {
  good = λ i q. absurd (apart e i q);
  bad = λ x q.
      let same : e ≡ x = cc in
      subst (λ (y : LineFault). From ks ws p y) same (record { j = 0; stands = omega (arith, s); before = λ k h. absurd (omega arith); here = w });
}

each_more : (k : Kind) (ks : List Kind) (w : List ℕ) (ws : List (List ℕ)) → fits k w ≡ true → ((p : ℕ) → 0 < p → p ≤ length ws → AsAsked (at ks p) (at ws p)) → (p : ℕ) → 0 < p → p ≤ suc (length ws) → AsAsked (at (k ∷ ks) p) (at (w ∷ ws) p)
each_more k ks w ws f h zero a b = absurd (omega arith)
each_more k ks w ws f h (suc zero) a b = f
each_more k ks w ws f h (suc (suc p)) a b = h (suc p) (omega arith) (omega arith)

before_more : (k : Kind) (ks : List Kind) (w : List ℕ) (ws : List (List ℕ)) (j : ℕ) → fits k w ≡ true → ((q : ℕ) → q < j → AsAsked (at ks (suc q)) (at ws (suc q))) → (q : ℕ) → q < suc j → AsAsked (at (k ∷ ks) (suc q)) (at (w ∷ ws) (suc q))
before_more k ks w ws j f h zero a = f
before_more k ks w ws j f h (suc q) a = h q (omega arith)

-- a word of its kind before the others
goes_on : {Y : Type 0} (k : Kind) (ks : List Kind) (w : List ℕ) (ws : List (List ℕ)) (p : ℕ) (r : Result Y LineFault) → fits k w ≡ true → Gives ks ws (p + 1) r → Gives (k ∷ ks) (w ∷ ws) p r
goes_on k ks w ws p r f h = record {
  good = λ i q. let g = h.good i q in record { count = ap suc g.count; each = each_more k ks w ws f g.each };
  bad = λ e q.
      let b = h.bad e q in
      record { j = suc b.j; stands = omega (arith, b.stands); before = before_more k ks w ws b.j f b.before; here = b.here };
}

unfit_place : (k : Kind) (p : ℕ) → (of_word (unfit k p)).place ≡ p
unfit_place verb p = refl
unfit_place number p = refl
unfit_place day p = refl
unfit_place expiry p = refl
unfit_place sharing p = refl

-- a word that is not of its kind
misfit : {Y : Type 0} (k : Kind) (ks : List Kind) (w : List ℕ) (ws : List (List ℕ)) (p : ℕ) → fits k w ≡ false → Gives {Y = Y} (k ∷ ks) (w ∷ ws) p (Err (of_word (unfit k p)))
misfit k ks w ws p f =
    at_once (k ∷ ks) (w ∷ ws) p (of_word (unfit k p)) (unfit_place k p) (f, ap (λ n. of_word (unfit k n)) (sym (unfit_place k p)))

word_as : {Y : Type 0} (k : Kind) (ks : List Kind) (w : List ℕ) (ws : List (List ℕ)) (p : ℕ) (f : Value k → Result Y LineFault) → ((x : Value k) → Gives ks ws (p + 1) (f x)) → (o : Option (Value k)) → fits k w ≡ is_some o → Gives (k ∷ ks) (w ∷ ws) p (then (ok_or o (unfit k p)) f)
word_as k ks w ws p f g None e = misfit k ks w ws p e
word_as k ks w ws p f g (Some x) e = goes_on k ks w ws p (f x) e (g x)

field_on : {Y : Type 0} (k : Kind) (ks : List Kind) (ws : List (List ℕ)) (p : ℕ) (f : Value k → Result Y LineFault) → ((x : Value k) → Gives ks (step (ws, p)).0 (step (ws, p)).1 (f x)) → Gives (k ∷ ks) ws p (then (field k (ws, p)) f)
field_on k ks [] p f g = at_once (k ∷ ks) [] p (of_word (Missing p)) refl refl
field_on k ks (w ∷ ws) p f g = word_as k ks w ws p f g (value_as k (read w)) refl

-- the next word is read as one of its kind
asks : {Y : Type 0} (k : Kind) (ks : List Kind) (l : Left) (f : Value k → Result Y LineFault) → ((x : Value k) → Gives ks (step l).0 (step l).1 (f x)) → Gives (k ∷ ks) l.0 l.1 (then (field k l) f)
asks k ks l f g = field_on k ks l.0 l.1 f g

done_on : {Y : Type 0} (ws : List (List ℕ)) (p : ℕ) (y : Y) → Gives [] ws p (then (done (ws, p)) (λ _. Ok y))
done_on [] p y = record {
  good = λ x q. record { count = refl; each = λ n a b. absurd (omega arith) };
  bad = λ e q. absurd (apart e y (sym q));
}
done_on (w ∷ ws) p y = at_once [] (w ∷ ws) p (of_word (Excess p)) refl refl

-- no word is left
ends : {Y : Type 0} (l : Left) (y : Y) → Gives [] l.0 l.1 (then (done l) (λ _. Ok y))
ends l y = done_on l.0 l.1 y

-- a call is at fault just where its operands are
call_of : {X : Type 0} (f : X → Call) (ks : List Kind) (ws : List (List ℕ)) (p : ℕ) (r : Result X LineFault) → Gives ks ws p r → Gives ks ws p (calls f r)
call_of f ks ws p (Ok x) h = record { good = λ i q. h.good x refl; bad = λ e q. absurd (apart e (i.Call (f x)) (sym q)) }
call_of f ks ws p (Err e) h = record { good = λ i q. absurd (apart e i q); bad = λ d q. h.bad d (cc) }

one : (f : ℕ → Call) (l : Left) → Gives (number ∷ []) l.0 l.1 (calls f (one_number l))
one f l = call_of f _ _ _ _ (asks number _ l _ (λ x. ends (after 1 l) _))

three : (f : ℕ × ℕ × ℕ → Call) (l : Left) → Gives (number ∷ number ∷ number ∷ []) l.0 l.1 (calls f (three_numbers l))
three f l = call_of f _ _ _ _ (asks number _ l _ (λ x. asks number _ (after 1 l) _ (λ y. asks number _ (after 2 l) _ (λ z. ends (after 3 l) _))))

-- each verb reads its operands
verbs : (v : Verb) (l : Left) → Gives (operands v) l.0 l.1 (asked v l)
verbs Start l = asks day _ l _ (λ d. ends (after 1 l) _)
verbs Admit l = one _ l
verbs Stop l = one _ l
verbs Price l = asks number _ l _ (λ s. asks number _ (after 1 l) _ (λ c. ends (after 2 l) _))
verbs Deposit l = asks number _ l _ (λ a. asks number _ (after 1 l) _ (λ s. asks number _ (after 2 l) _ (λ q. ends (after 3 l) _)))
verbs Withdraw l = asks number _ l _ (λ a. asks number _ (after 1 l) _ (λ s. asks number _ (after 2 l) _ (λ q. ends (after 3 l) _)))
verbs Trade l =
    asks number _ l _ (λ g. asks number _ (after 1 l) _ (λ r. asks number _ (after 2 l) _ (λ s. asks number _ (after 3 l) _ (λ q. ends (after 4 l) _))))
verbs Pledge l = three _ l
verbs Unpledge l = three _ l
verbs Suspend l = one _ l
verbs Noon l = ends l _

verb_first : (w : List ℕ) (ws : List (List ℕ)) (o : Option Verb) → fits verb w ≡ is_some o → Gives (format_of o) (w ∷ ws) 1 (then (ok_or o (unfit verb 1)) (λ v. asked v (ws, 1 + 1)))
verb_first w ws None e = misfit verb [] w ws 1 e
verb_first w ws (Some v) e = goes_on verb (operands v) w ws 1 (asked v (ws, 1 + 1)) e (verbs v (ws, 1 + 1))

all_words : (ws : List (List ℕ)) → Gives (format ws) ws 1 (instructs (ws, 1))
all_words [] = at_once (verb ∷ []) [] 1 (of_word (Missing 1)) refl refl
all_words (w ∷ ws) = verb_first w ws (as_verb (read w)) refl

before_place : (ks : List Kind) (ws : List (List ℕ)) (n j : ℕ) → n ≡ 1 + j → ((q : ℕ) → q < j → AsAsked (at ks (suc q)) (at ws (suc q))) → (p : ℕ) → 0 < p → p < n → AsAsked (at ks p) (at ws p)
before_place ks ws n j s h zero a b = absurd (omega arith)
before_place ks ws n j s h (suc q) a b = h q (omega arith)

placed : (ks : List Kind) (ws : List (List ℕ)) (e : LineFault) → From ks ws 1 e → FirstWrong ks ws e
placed ks ws e h =
    let same : suc h.j ≡ e.place = omega (arith, h.stands) in
    record {
      counted = omega (arith, h.stands);
      before = before_place ks ws e.place h.j h.stands h.before;
      here = subst (λ (p : ℕ). Wrong (at ks p) (at ws p) e) same h.here;
    }

-- a line that is not too long means what its words do
short : (line : List ℕ) → length line ≤ 120 → parsed line ≡ instructs (whole line)
short line h = cond-false (ltb 120 (length line)) _ _ (le-ltb 120 (length line) h)

pub leftmost : LeftmostFault
leftmost = record {
  long = λ line h. cond-true (ltb 120 (length line)) _ _ (lt-ltb 120 (length line) h);
  fault = λ line e h q. placed (format (words line)) (words line) e ((all_words (words line)).bad e (sym (short line h) ∙ q));
  faultless = λ line i q.
      ⊎_elim
      (λ (h : 120 < length line).
      absurd (apart (record { fault = TooLong; place = 0 }) i (sym (cond-true (ltb 120 (length line)) _ _ (lt-ltb 120 (length line) h)) ∙ q)))
      (λ (h : length line ≤ 120). (h, (all_words (words line)).good i (sym (short line h) ∙ q)))
      (cases_lt 120 (length line));
}
