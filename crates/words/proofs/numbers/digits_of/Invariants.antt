use Rattle.std.proofs.Common.{◌≡◌, ◌^◌, ◌<◌, drop}
use Rattle.words.specs.Numbers.{digits}
use Rattle.words.proofs.numbers.digits_of.Given as goal

-- what is left gives the number, and each digit read made it ten times larger at most
abbrev pub invariant-loop-b : goal.invariant-loop-b
invariant-loop-b l = (digits l.n (drop l.b-index l.word) ≡ digits 0 l.word) × (l.n < 10 ^ l.b-index)
