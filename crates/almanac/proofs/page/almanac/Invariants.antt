use Rattle.std.proofs.Common.{◌≡◌, length, string_bytes}
use Rattle.almanac.specs.Almanac.{lines_before}
use Rattle.almanac.proofs.page.almanac.Given as goal

abbrev pub invariant-loop-entry : goal.invariant-loop-entry
invariant-loop-entry l = (string_bytes l.text ≡ lines_before (length l.yielded)) × (l.different ≡ 0)
