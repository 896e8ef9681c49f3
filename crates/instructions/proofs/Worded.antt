-- A reply as the number of its line and what is said of it.
use Rattle.std.proofs.Common.{◌≡◌, ℕ, ◌++◌, codes, decimal, refl, ap, append_assoc}
use Rattle.terms.specs.declared.calls.Answer.TheVariants.{Done, Suspensions}
use Rattle.instructions.specs.Answers.{reply_text, worded}
use Rattle.instructions.specs.Faults.{program_fault_number, program_fault_place}
use Rattle.instructions.specs.declared.answers.Reply.{Reply}
use Rattle.instructions.specs.declared.answers.Reply.TheVariants.{Answered, Refused, Faulty}

pub numbered : (n : ℕ) (r : Reply) → decimal n ++ (codes " " ++ (worded r ++ codes "\n")) ≡ reply_text n r
numbered n (Answered Done) = refl
numbered n (Answered (Suspensions k)) = refl
numbered n (Refused r) = refl
numbered n (Faulty e) =
    ap (λ t. decimal n ++ (codes " bad " ++ t)) (append_assoc (decimal (program_fault_number e)) (codes " " ++ decimal (program_fault_place e)) (codes "\n"))
