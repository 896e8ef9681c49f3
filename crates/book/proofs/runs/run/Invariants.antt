use Rattle.std.proofs.Common.{◌≡◌, ◌≤◌, length, drop, vec_items, vec_len, vec_capacity}
use Rattle.book.specs.Meaning.{state_of}
use Rattle.book.proofs.Going.{Going}
use Rattle.book.proofs.runs.run.Given as goal

abbrev pub invariant-loop-call : goal.invariant-loop-call
invariant-loop-call g l =
    Going (state_of l.initial.book) l.calls (drop l.call-index l.calls) (state_of l.book) (vec_items l.journal)
    × (vec_len l.journal ≡ l.call-index)
    × (length l.calls ≤ vec_capacity l.journal)
    × (l.book.calendar ≡ l.initial.book.calendar)
    × (g.R.Register.frame l.book.register ≡ g.R.Register.frame l.initial.book.register)
