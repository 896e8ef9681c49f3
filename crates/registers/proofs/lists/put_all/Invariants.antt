use Rattle.std.proofs.Common.{◌≡◌, length, take}
use Rattle.registers.specs.Lists.{Runs}
use Rattle.registers.proofs.lists.put_all.Given as goal

abbrev pub invariant-loop-i : goal.invariant-loop-i
invariant-loop-i g l =
    Runs (g.R.Register.holdings l.initial.register) (take l.i l.changes) (take l.i l.answers) (g.R.Register.holdings l.register)
    × (g.R.Register.frame l.register ≡ g.R.Register.frame l.initial.register)
    × (length l.answers ≡ length l.changes)
