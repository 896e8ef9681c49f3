-- A word that is a number is that number in decimal.
use Rattle.std.proofs.Common.{◌≡◌, ℕ, zero, suc, ◌+◌, ◌-◌, ◌*◌, ◌^◌, ◌<◌, ◌≤◌, Bool, true, false, cond, ◌&&◌, ◌||◌, eqb, ltb, List, [], ◌∷◌, length, get_or, Some, None, decimal, Option, sym, refl, ap, ◌∙◌, arith, rules}
use Rattle.std.specs.Char.{is_ascii_digit}
use Rattle.std.specs.Str.{all_ascii_digits}
use Rattle.std.proofs.lemmas.Fmt.{decimal_digit, length-decimal-le, decimal_nonempty, first_decimal, digits_decimal, digits_value-decimal, decimal-digits_value}
use Rattle.std.proofs.lemmas.Str.Parse.{IsNumeralModel, numerals_by_fold, tells_all_ascii_digits, digits_value_short}
use Rattle.std.proofs.lemmas.Bool.{cond-true, cond-false, and_parts}
use Rattle.std.proofs.lemmas.Bool.Decides.{nat_tests}
use Rattle.words.specs.Numbers.{number_written, digits}
use Rattle.words.specs.Theorems.{NumbersWritten}

-- what digits write after the digits of n
abbrev value : ℕ → List ℕ → ℕ
value n [] = n
value n (c ∷ cs) = value (n * 10 + (c - 48)) cs

own : IsNumeralModel (λ ds. all_ascii_digits ds ≡ true) (value 0)
own = numerals_by_fold _ tells_all_ascii_digits value (search rules)

none_some : {X : Type 0} (x : X) → ◌≡◌ {A = Option X} None (Some x) → ⊥
none_some x e = let z : ◌≡◌ {A = ℕ} 0 1 = cc in omega arith

all_value : (n : ℕ) (cs : List ℕ) → all_ascii_digits cs ≡ true → digits n cs ≡ Some (value n cs)
all_value n [] h = refl
all_value n (c ∷ cs) h =
    let both = and_parts (is_ascii_digit c) (all_ascii_digits cs) h in
    cond-true _ _ _ both.0 ∙ all_value (n * 10 + (c - 48)) cs both.1

value_more : (n m c : ℕ) (cs : List ℕ) (b : Bool) → ((k : ℕ) → digits k cs ≡ Some m → (all_ascii_digits cs ≡ true) × (value k cs ≡ m)) → cond b (digits (n * 10 + (c - 48)) cs) None ≡ Some m → ((b && all_ascii_digits cs) ≡ true) × (value n (c ∷ cs) ≡ m)
value_more n m c cs true h e = h (n * 10 + (c - 48)) e
value_more n m c cs false h e = absurd (none_some m e)

value_all : (m : ℕ) (cs : List ℕ) (n : ℕ) → digits n cs ≡ Some m → (all_ascii_digits cs ≡ true) × (value n cs ≡ m)
value_all m [] n e = (refl, cc)
value_all m (c ∷ cs) n e = value_more n m c cs (is_ascii_digit c) (value_all m cs) e

-- a length and a first digit that a number may have
plain : (w : List ℕ) → 0 < length w → length w ≤ 13 → (get_or w 0 0 ≡ 48 → length w ≤ 1) → number_written w ≡ digits 0 w
plain [] some short first = absurd (omega arith)
plain (c ∷ cs) some short first =
    let right : (ltb 12 (length cs) || (eqb c 48 && ltb 0 (length cs))) ≡ false = grind (arith, nat_tests) in cond-false _ _ _ right

first_zero : (n : ℕ) → n < 2 ^ 64 → get_or (decimal n) 0 0 ≡ 48 → length (decimal n) ≤ 1
first_zero zero h e = omega (arith, ap length (decimal_digit 0 (omega arith)))
first_zero (suc n) h e = absurd (omega (arith, first_decimal (suc n) (omega arith) h))

reads : (n : ℕ) → n < 10 ^ 13 → number_written (decimal n) ≡ Some n
reads n h =
    let small : n < 2 ^ 64 = omega arith in
    plain (decimal n) (decimal_nonempty n small) (length-decimal-le 13 n (omega arith) h small) (first_zero n small) ∙ all_value 0 (decimal n) (digits_decimal own n small) ∙ ap (λ k. Some k) (digits_value-decimal own n small)

writes_plain : (w : List ℕ) (n : ℕ) → 0 < length w → length w ≤ 13 → (get_or w 0 0 ≡ 48 → length w ≡ 1) → digits 0 w ≡ Some n → (n < 10 ^ 13) × (w ≡ decimal n)
writes_plain w n some short first e =
    let told = value_all n w 0 e in
    let below : value 0 w < 10 ^ 13 = digits_value_short own w 13 told.0 short in
    let small : value 0 w < 2 ^ 64 = omega arith in
    (omega (arith, below, told.1), sym (decimal-digits_value own w told.0 some first small) ∙ ap decimal told.1)

writes_by : (c : ℕ) (cs : List ℕ) (n : ℕ) (b : Bool) → (ltb 12 (length cs) || (eqb c 48 && ltb 0 (length cs))) ≡ b → cond b None (digits 0 (c ∷ cs)) ≡ Some n → (n < 10 ^ 13) × (c ∷ cs ≡ decimal n)
writes_by c cs n true is e = absurd (none_some n e)
writes_by c cs n false is e =
    let short : length cs ≤ 12 = grind (arith, nat_tests) in
    let first : c ≡ 48 → length cs ≡ 0 = λ z. grind (arith, nat_tests) in
    writes_plain (c ∷ cs) n (omega arith) (omega arith) (λ z. ap suc (first z)) e

writes : (w : List ℕ) (n : ℕ) → number_written w ≡ Some n → (n < 10 ^ 13) × (w ≡ decimal n)
writes [] n e = absurd (none_some n e)
writes (c ∷ cs) n e = writes_by c cs n (ltb 12 (length cs) || (eqb c 48 && ltb 0 (length cs))) refl e

pub numbers_written : NumbersWritten
numbers_written = record { reads = reads; writes = writes }
