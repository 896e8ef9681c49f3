-- One line further in either pass.
use Rattle.std.proofs.Common.{◌≡◌, ℕ, ◌+◌, List, ◌∷◌, ◌++◌, Option, Result, sym, ap, ◌∙◌, append_assoc}
use Rattle.std.specs.Option.{option_to_list}
use Rattle.terms.specs.declared.calls.Answer.{Answer}
use Rattle.terms.specs.declared.calls.Call.{Call}
use Rattle.terms.specs.declared.calls.Refusal.{Refusal}
use Rattle.instructions.specs.Answers.{reply_text}
use Rattle.instructions.specs.declared.faults.ProgramFault.{ProgramFault}
use Rattle.instructions.specs.declared.instruction.Instruction.{Instruction}
use Rattle.desk.specs.Day.{instruction}
use Rattle.desk.specs.Plan.{calls_of, day_of, left_by, open_on, put_by, reply_by, told}

module _ (o o' : Option ℕ) (i : Result Instruction ProgramFault) (ls rest : List (List ℕ)) (line : List ℕ) (split : ls ≡ line ∷ rest) (asked : i ≡ instruction line) (opened : o' ≡ open_on o i) where
  opened_by_lem : o' ≡ open_on o (instruction line)
  opened_by_lem = opened ∙ ap (open_on o) asked

  pub day_next : (all : Option ℕ) → day_of o ls ≡ all → day_of o' rest ≡ all
  day_next all e = ap (λ (p : Option ℕ). day_of p rest) opened_by_lem ∙ sym (ap (day_of o) split) ∙ e

  pub calls_next : (all acc acc' : List Call) → acc' ≡ acc ++ option_to_list (put_by o i) → acc ++ calls_of o ls ≡ all → acc' ++ calls_of o' rest ≡ all
  calls_next all acc acc' more e =
      ap (λ (cs : List Call). cs ++ calls_of o' rest) (more ∙ ap (λ (k : Result Instruction ProgramFault). acc ++ option_to_list (put_by o k)) asked)
      ∙ append_assoc acc (option_to_list (put_by o (instruction line))) (calls_of o' rest)
      ∙ ap (λ (p : Option ℕ). acc ++ (option_to_list (put_by o (instruction line)) ++ calls_of p rest)) opened_by_lem
      ∙ sym (ap (λ (l : List (List ℕ)). acc ++ calls_of o l) split) ∙ e

  pub told_next : (n : ℕ) (all out out' : List ℕ) (vs vs' : List (Result Answer Refusal)) → out' ≡ out ++ reply_text n (reply_by o i vs) → vs' ≡ left_by (put_by o i) vs
      → out ++ told n o vs ls ≡ all → out' ++ told (n + 1) o' vs' rest ≡ all
  told_next n all out out' vs vs' more left e =
      ap (λ (t : List ℕ). t ++ told (n + 1) o' vs' rest) (more ∙ ap (λ (k : Result Instruction ProgramFault). out ++ reply_text n (reply_by o k vs)) asked)
      ∙ append_assoc out (reply_text n (reply_by o (instruction line) vs)) (told (n + 1) o' vs' rest)
      ∙ ap (λ (p : Option ℕ). out ++ (reply_text n (reply_by o (instruction line) vs) ++ told (n + 1) p vs' rest)) opened_by_lem
      ∙ ap (λ (us : List (Result Answer Refusal)). out ++ (reply_text n (reply_by o (instruction line) vs) ++ told (n + 1) (open_on o (instruction line)) us rest)) (left ∙ ap (λ (k : Result Instruction ProgramFault). left_by (put_by o k) vs) asked)
      ∙ sym (ap (λ (l : List (List ℕ)). out ++ told n o vs l) split) ∙ e
