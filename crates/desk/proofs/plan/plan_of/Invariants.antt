use Rattle.std.proofs.Common.{◌≡◌, ◌++◌, None, vec_items}
use Rattle.words.specs.Parts.{lines}
use Rattle.desk.specs.Plan.{calls_of, day_of}
use Rattle.desk.proofs.plan.plan_of.Given as goal

-- what is left of the text completes what was found
abbrev pub invariant-loop-line : goal.invariant-loop-line
invariant-loop-line l =
    (goal.iterator-loop-line).can_next l.line-iterator ×
    (goal.iterator-loop-line).is_finite l.line-iterator ×
    (day_of l.day (lines l.line-iterator.rest.now) ≡ day_of None (lines l.text)) ×
    (vec_items l.calls ++ calls_of l.day (lines l.line-iterator.rest.now) ≡ calls_of None (lines l.text))
