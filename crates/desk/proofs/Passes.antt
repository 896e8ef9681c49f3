-- The two passes give what the lines give one after the other.
use Rattle.std.proofs.Common.{◌≡◌, ℕ, ◌+◌, ◌≤◌, Bool, true, false, cond, leb, List, [], ◌∷◌, ◌++◌, length, Some, None, Ok, Err, Option, Result, sym, refl, ap, ◌∙◌}
use Rattle.std.specs.Option.{option_to_list}
use Rattle.std.proofs.lemmas.Bool.{cond-false, le-ltb}
use Rattle.terms.specs.declared.calls.Answer.{Answer}
use Rattle.terms.specs.declared.calls.Answer.TheVariants.{Done}
use Rattle.terms.specs.declared.calls.Call as c
use Rattle.terms.specs.declared.calls.Refusal.{Refusal}
use Rattle.terms.specs.declared.calls.Refusal.TheVariants.{Unopened}
use Rattle.definitions.specs.Limits.{last_opening}
use Rattle.definitions.specs.Runs.{answers, step}
use Rattle.definitions.specs.States.{State, opening}
use Rattle.words.specs.Parts.{lines}
use Rattle.instructions.specs.Answers.{reply_text}
use Rattle.instructions.specs.declared.answers.Reply.TheVariants.{Answered, Refused, Faulty}
use Rattle.instructions.specs.declared.faults.ProgramFault.{ProgramFault}
use Rattle.instructions.specs.declared.instruction.Instruction.{Instruction}
use Rattle.instructions.specs.declared.instruction.Instruction.TheVariants.{Start, Call}
use Rattle.desk.specs.Day.{day_text, most_bytes, zeros, instruction, start_reply, reply_to, after, replies}
use Rattle.desk.specs.Plan.{open_on, put_by, day_of, calls_of, reply_by, left_by, told}

-- Once the book is open it stays so.
still_open : (d : ℕ) (ls : List (List ℕ)) → day_of (Some d) ls ≡ Some d
still_open d [] = refl
still_open d (l ∷ ls) = still_open d ls

-- The replies of a line in state and what follows, by what the line asks.
abbrev Open : ℕ → ℕ → State → List (List ℕ) → Result Instruction ProgramFault → Type 0
Open d n x ls i =
    reply_text n (reply_by (Some d) i (answers x (option_to_list (put_by (Some d) i) ++ calls_of (Some d) ls))) ++ told (n + 1) (Some d) (left_by (put_by (Some d) i) (answers x (option_to_list (put_by (Some d) i) ++ calls_of (Some d) ls))) ls
    ≡ reply_text n (reply_to (Some x) i) ++ replies (n + 1) (after (Some x) i) ls

-- Each call takes the next answer.
open_line : (d n : ℕ) (x : State) (ls : List (List ℕ)) (i : Result Instruction ProgramFault)
    → ((m : ℕ) (y : State) → told m (Some d) (answers y (calls_of (Some d) ls)) ls ≡ replies m (Some y) ls) → Open d n x ls i
open_line d n x ls (Ok (Start e)) more = ap (λ (t : List ℕ). reply_text n (reply_to (Some x) (Ok (Start e))) ++ t) (more (n + 1) x)
open_line d n x ls (Ok (Call k)) more = ap (λ (t : List ℕ). reply_text n (reply_to (Some x) (Ok (Call k))) ++ t) (more (n + 1) (step x k).leaves)
open_line d n x ls (Err e) more = ap (λ (t : List ℕ). reply_text n (reply_to (Some x) (Err e)) ++ t) (more (n + 1) x)

told_open : (d n : ℕ) (x : State) (ls : List (List ℕ)) → told n (Some d) (answers x (calls_of (Some d) ls)) ls ≡ replies n (Some x) ls
told_open d n x [] = refl
told_open d n x (l ∷ ls) = open_line d n x ls (instruction l) (λ m y. told_open d m y ls)

-- The answers of the run that a day's lines ask for: none where they never open the book.
abbrev pub answers_of : Option ℕ → List c.Call → List (Result Answer Refusal)
answers_of None cs = []
answers_of (Some d) cs = answers (opening zeros d) cs

abbrev Found : ℕ → List (List ℕ) → Type 0
Found n ls = told n None (answers_of (day_of None ls) (calls_of None ls)) ls ≡ replies n None ls

-- A start on a day that is early enough, or not.
start_line : (b : Bool) (e n : ℕ) (ls : List (List ℕ)) → Found (n + 1) ls
    → reply_text n (cond b (Answered Done) (Refused Unopened)) ++ told (n + 1) (cond b (Some e) None) (answers_of (day_of (cond b (Some e) None) ls) (calls_of (cond b (Some e) None) ls)) ls
    ≡ reply_text n (start_reply (cond b (Some (opening zeros e)) None)) ++ replies (n + 1) (cond b (Some (opening zeros e)) None) ls
start_line true e n ls more =
    ap (λ (t : List ℕ). reply_text n (Answered Done) ++ t)
    (ap (λ (o : Option ℕ). told (n + 1) (Some e) (answers_of o (calls_of (Some e) ls)) ls) (still_open e ls) ∙ told_open e (n + 1) (opening zeros e) ls)
start_line false e n ls more = ap (λ (t : List ℕ). reply_text n (Refused Unopened) ++ t) more

-- Until the book is opened every call is refused.
first_line : (n : ℕ) (ls : List (List ℕ)) (i : Result Instruction ProgramFault) → Found (n + 1) ls
    → reply_text n (reply_by None i (answers_of (day_of (open_on None i) ls) (calls_of (open_on None i) ls))) ++ told (n + 1) (open_on None i) (answers_of (day_of (open_on None i) ls) (calls_of (open_on None i) ls)) ls
    ≡ reply_text n (reply_to None i) ++ replies (n + 1) (after None i) ls
first_line n ls (Ok (Start e)) more = start_line (leb e last_opening) e n ls more
first_line n ls (Ok (Call k)) more = ap (λ (t : List ℕ). reply_text n (Refused Unopened) ++ t) more
first_line n ls (Err e) more = ap (λ (t : List ℕ). reply_text n (Faulty e) ++ t) more

pub passes : (n : ℕ) (ls : List (List ℕ)) → told n None (answers_of (day_of None ls) (calls_of None ls)) ls ≡ replies n None ls
passes n [] = refl
passes n (l ∷ ls) = first_line n ls (instruction l) (passes (n + 1) ls)

-- A text that is not too large is answered line by line.
module _ (text : List ℕ) (small : length text ≤ most_bytes) where
  by_lines : replies 1 None (lines text) ≡ day_text text
  by_lines = sym (cond-false _ _ _ (le-ltb most_bytes (length text) small))

  pub never_open : day_of None (lines text) ≡ None → told 1 None [] (lines text) ≡ day_text text
  never_open e =
      sym (ap (λ (o : Option ℕ). told 1 None (answers_of o (calls_of None (lines text))) (lines text)) e) ∙ passes 1 (lines text) ∙ by_lines

  pub once_open : (d : ℕ) (cs : List c.Call) → day_of None (lines text) ≡ Some d → cs ≡ calls_of None (lines text)
      → told 1 None (answers (opening zeros d) cs) (lines text) ≡ day_text text
  once_open d cs e f =
      ap (λ (ks : List c.Call). told 1 None (answers (opening zeros d) ks) (lines text)) f
      ∙ sym (ap (λ (o : Option ℕ). told 1 None (answers_of o (calls_of None (lines text))) (lines text)) e) ∙ passes 1 (lines text) ∙ by_lines
