-- What the program answers to a day's text.
use Rattle.std.specs.Prelude.{ℕ, ◌+◌, cond, List, [], ◌∷◌, ◌++◌, length, Some, None, Ok, Err, Option, Result, nat_le, nat_lt}
use Rattle.register.specs.Holdings.{Holdings}
use Rattle.terms.specs.declared.calls.Answer.{Answer}
use Rattle.terms.specs.declared.calls.Answer.TheVariants.{Done}
use Rattle.terms.specs.declared.calls.Refusal.{Refusal}
use Rattle.terms.specs.declared.calls.Refusal.TheVariants.{Unopened}
use Rattle.definitions.specs.Limits.{last_opening, most_accounts, most_securities}
use Rattle.definitions.specs.Runs.{answer_to, step}
use Rattle.definitions.specs.States.{State, opening}
use Rattle.words.specs.Parts.{lines}
use Rattle.instructions.specs.Answers.{reply_text}
use Rattle.instructions.specs.Faults.{of_line}
use Rattle.instructions.specs.Meaning.{parsed}
use Rattle.instructions.specs.declared.answers.Reply.{Reply}
use Rattle.instructions.specs.declared.answers.Reply.TheVariants.{Answered, Refused, Faulty}
use Rattle.instructions.specs.declared.faults.LineFault.{LineFault}
use Rattle.instructions.specs.declared.faults.ProgramFault.{ProgramFault}
use Rattle.instructions.specs.declared.faults.ProgramFault.TheVariants.{TooLarge}
use Rattle.instructions.specs.declared.instruction.Instruction.{Instruction}
use Rattle.instructions.specs.declared.instruction.Instruction.TheVariants.{Start, Call}

-- The most bytes of a text.
abbrev pub most_bytes : ℕ
most_bytes = 65536

-- The register that a start opens the book on: 64 accounts, 16 securities, and no share on any line.
abbrev pub zeros : Holdings
zeros = record { accounts = most_accounts; securities = most_securities; free = λ a s. 0; reserved = λ a s. 0 }

-- The book, once one was opened.
abbrev pub Session : Type 0
Session = Option State

-- A start opens a book on a day up to 17,897.
abbrev pub started : ℕ → Session
started d = cond (nat_le d last_opening) (Some (opening zeros d)) None

-- What a line asks for, its fault being the program's.
abbrev pub carried : Result Instruction LineFault → Result Instruction ProgramFault
carried (Ok i) = Ok i
carried (Err e) = Err (of_line e)

abbrev pub instruction : List ℕ → Result Instruction ProgramFault
instruction line = carried (parsed line)

-- What the book said.
abbrev pub said : Result Answer Refusal → Reply
said (Ok v) = Answered v
said (Err r) = Refused r

abbrev pub start_reply : Session → Reply
start_reply None = Refused Unopened
start_reply (Some x) = Answered Done

-- The reply to a line. Without a book every call is refused as one put to a book that was not opened, and so is a second start.
abbrev pub reply_to : Session → Result Instruction ProgramFault → Reply
reply_to None (Ok (Start d)) = start_reply (started d)
reply_to None (Ok (Call c)) = Refused Unopened
reply_to None (Err e) = Faulty e
reply_to (Some x) (Ok (Start d)) = Refused Unopened
reply_to (Some x) (Ok (Call c)) = said (answer_to x c)
reply_to (Some x) (Err e) = Faulty e

-- The book after a line.
abbrev pub after : Session → Result Instruction ProgramFault → Session
after None (Ok (Start d)) = started d
after None (Ok (Call c)) = None
after None (Err e) = None
after (Some x) (Ok (Start d)) = Some x
after (Some x) (Ok (Call c)) = Some (step x c).leaves
after (Some x) (Err e) = Some x

-- The replies to lines, of which the first is the nth.
abbrev pub replies : ℕ → Session → List (List ℕ) → List ℕ
replies n s [] = []
replies n s (l ∷ ls) = reply_text n (reply_to s (instruction l)) ++ replies (n + 1) (after s (instruction l)) ls

-- The answer to a day's text: the replies to its lines, or the one fault of a text that is too large.
abbrev pub day_text : List ℕ → List ℕ
day_text text = cond (nat_lt most_bytes (length text)) (reply_text 0 (Faulty TooLarge)) (replies 1 None (lines text))
