-- The texts of the answers.
use Rattle.std.specs.Prelude.{ℕ, List, ◌++◌, codes, decimal}
use Rattle.terms.specs.Numbers.{refusal_number}
use Rattle.terms.specs.declared.calls.Answer.{Answer}
use Rattle.terms.specs.declared.calls.Answer.TheVariants.{Done, Suspensions}
use Rattle.instructions.specs.Faults.{program_fault_number, program_fault_place}
use Rattle.instructions.specs.declared.answers.Reply.{Reply}
use Rattle.instructions.specs.declared.answers.Reply.TheVariants.{Answered, Refused, Faulty}

-- The answer to the nth line, where the call was accepted. Noon answers how many agents it suspended.
abbrev pub answer_text : ℕ → Answer → List ℕ
answer_text n Done = decimal n ++ codes " ok\n"
answer_text n (Suspensions k) = decimal n ++ (codes " ok " ++ (decimal k ++ codes "\n"))

-- Where a call was refused, by the number of the refusal.
abbrev pub refusal_text : ℕ → ℕ → List ℕ
refusal_text n refusal = decimal n ++ (codes " no " ++ (decimal refusal ++ codes "\n"))

-- Where a line was at fault, by the number and the place of the fault.
abbrev pub fault_text : ℕ → ℕ → ℕ → List ℕ
fault_text n fault place = decimal n ++ (codes " bad " ++ (decimal fault ++ (codes " " ++ (decimal place ++ codes "\n"))))

-- The reply to the nth line.
abbrev pub reply_text : ℕ → Reply → List ℕ
reply_text n (Answered a) = answer_text n a
reply_text n (Refused r) = refusal_text n (refusal_number r)
reply_text n (Faulty e) = fault_text n (program_fault_number e) (program_fault_place e)

-- What is said of a line, the number of the line and the newline apart.
abbrev pub worded : Reply → List ℕ
worded (Answered Done) = codes "ok"
worded (Answered (Suspensions k)) = codes "ok " ++ decimal k
worded (Refused r) = codes "no " ++ decimal (refusal_number r)
worded (Faulty e) = codes "bad " ++ (decimal (program_fault_number e) ++ (codes " " ++ decimal (program_fault_place e)))
