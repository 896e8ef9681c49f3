use Rattle.std.proofs.Common.{◌≡◌, ◌+◌, ◌++◌, map, None, string_bytes}
use Rattle.std.specs.Iterator.Adapters.{enumerate_count, enumerate_source}
use Rattle.words.specs.Parts.{lines}
use Rattle.desk.specs.Plan.{told}
use Rattle.desk.proofs.replies.reply_all.Given as goal

-- what is left to reply to completes what was replied
abbrev pub invariant-loop-i : goal.invariant-loop-i
invariant-loop-i l =
    (goal.iterator-loop-i).can_next l.i-iterator ×
    (goal.iterator-loop-i).is_finite l.i-iterator ×
    (string_bytes l.out ++ told (enumerate_count l.i-iterator + 1) l.day (map (λ e. e.answer) l.left.rest.now) (lines (enumerate_source l.i-iterator).rest.now)
    ≡ told 1 None (map (λ e. e.answer) l.entries) (lines l.text))
