-- The same in two passes, as the program goes: first the day of the start that opens and the calls after it, which are run, and then the replies with the run's answers.
use Rattle.std.specs.Prelude.{ℕ, ◌+◌, cond, List, [], ◌∷◌, ◌++◌, Some, None, Ok, Err, Option, Result, nat_le}
use Rattle.std.specs.Option.{option_to_list}
use Rattle.terms.specs.declared.calls.Answer.{Answer}
use Rattle.terms.specs.declared.calls.Answer.TheVariants.{Done}
use Rattle.terms.specs.declared.calls.Call as c
use Rattle.terms.specs.declared.calls.Refusal.{Refusal}
use Rattle.terms.specs.declared.calls.Refusal.TheVariants.{Unopened}
use Rattle.definitions.specs.Limits.{last_opening}
use Rattle.instructions.specs.Answers.{reply_text}
use Rattle.instructions.specs.declared.answers.Reply.{Reply}
use Rattle.instructions.specs.declared.answers.Reply.TheVariants.{Answered, Refused, Faulty}
use Rattle.instructions.specs.declared.faults.ProgramFault.{ProgramFault}
use Rattle.instructions.specs.declared.instruction.Instruction.{Instruction}
use Rattle.instructions.specs.declared.instruction.Instruction.TheVariants.{Start, Call}
use Rattle.desk.specs.Day.{instruction, said}

-- The day on which the book is open after a line, if it is.
abbrev pub open_on : Option ℕ → Result Instruction ProgramFault → Option ℕ
open_on None (Ok (Start d)) = cond (nat_le d last_opening) (Some d) None
open_on None (Ok (Call c)) = None
open_on None (Err e) = None
open_on (Some d) i = Some d

-- The call that a line puts to the open book.
abbrev pub put_by : Option ℕ → Result Instruction ProgramFault → Option c.Call
put_by None i = None
put_by (Some d) (Ok (Start e)) = None
put_by (Some d) (Ok (Call c)) = Some c
put_by (Some d) (Err e) = None

-- The day on which the lines open the book, and the calls that they put to it.
abbrev pub day_of : Option ℕ → List (List ℕ) → Option ℕ
day_of o [] = o
day_of o (l ∷ ls) = day_of (open_on o (instruction l)) ls

abbrev pub calls_of : Option ℕ → List (List ℕ) → List c.Call
calls_of o [] = []
calls_of o (l ∷ ls) = option_to_list (put_by o (instruction l)) ++ calls_of (open_on o (instruction l)) ls

-- The reply to a line where the answers that are left are given, and the answers that are left after it.
abbrev pub first_of : List (Result Answer Refusal) → Reply
first_of [] = Refused Unopened
first_of (a ∷ vs) = said a

abbrev pub rest_of : List (Result Answer Refusal) → List (Result Answer Refusal)
rest_of [] = []
rest_of (a ∷ vs) = vs

abbrev pub reply_by : Option ℕ → Result Instruction ProgramFault → List (Result Answer Refusal) → Reply
reply_by None (Ok (Start d)) vs = cond (nat_le d last_opening) (Answered Done) (Refused Unopened)
reply_by None (Ok (Call c)) vs = Refused Unopened
reply_by None (Err e) vs = Faulty e
reply_by (Some d) (Ok (Start e)) vs = Refused Unopened
reply_by (Some d) (Ok (Call c)) vs = first_of vs
reply_by (Some d) (Err e) vs = Faulty e

abbrev pub left_by : Option c.Call → List (Result Answer Refusal) → List (Result Answer Refusal)
left_by None vs = vs
left_by (Some c) vs = rest_of vs

abbrev pub told : ℕ → Option ℕ → List (Result Answer Refusal) → List (List ℕ) → List ℕ
told n o vs [] = []
told n o vs (l ∷ ls) =
    reply_text n (reply_by o (instruction l) vs) ++ told (n + 1) (open_on o (instruction l)) (left_by (put_by o (instruction l)) vs) ls
