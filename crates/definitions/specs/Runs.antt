-- One call after another.
use Rattle.std.specs.Prelude.{List, [], ◌∷◌, Ok, Err, Result}
use Rattle.terms.specs.declared.calls.Answer.{Answer}
use Rattle.terms.specs.declared.calls.Call.{Call}
use Rattle.terms.specs.declared.calls.Refusal.{Refusal}
use Rattle.terms.specs.declared.records.CloseLine.{CloseLine}
use Rattle.definitions.specs.Calls.{asks, answer, lines, does}
use Rattle.definitions.specs.Questions.{first_no, reply_to, left_by}
use Rattle.definitions.specs.States.{State}

-- What a call answers, writes and leaves.
pub record Reply : Type 0 where
  pub says : Result Answer Refusal
  pub writes : List CloseLine
  pub leaves : State

-- What an answer writes: a refused call writes nothing.
abbrev pub written_by : Result Answer Refusal → List CloseLine → List CloseLine
written_by (Ok v) ls = ls
written_by (Err r) ls = []

-- One call: refused by its first no, and then nothing is altered or written; else accepted.
abbrev pub answer_to : State → Call → Result Answer Refusal
answer_to x c = reply_to (first_no (asks x c)) (answer x c)

abbrev pub step : State → Call → Reply
step x c = record { says = answer_to x c; writes = written_by (answer_to x c) (lines x c); leaves = left_by (answer_to x c) (does x c) x }

-- An entry of a trace: the state before the call, the call, and the reply.
pub record Entry : Type 0 where
  pub before : State
  pub asked : Call
  pub reply : Reply

-- The trace of a list of calls, refused ones included.
abbrev pub trace : State → List Call → List Entry
trace x [] = []
trace x (c ∷ cs) = record { before = x; asked = c; reply = step x c } ∷ trace (step x c).leaves cs

-- The state after a list of calls.
abbrev pub after : State → List Call → State
after x [] = x
after x (c ∷ cs) = after (step x c).leaves cs

-- The answers of a trace.
abbrev pub answers : State → List Call → List (Result Answer Refusal)
answers x [] = []
answers x (c ∷ cs) = answer_to x c ∷ answers (step x c).leaves cs
