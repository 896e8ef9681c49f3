use Rattle.std.proofs.Common.{rules}
use Rattle.ordered.proofs.Deciding.{told}
use Rattle.removal.proofs.release.release_one.Goals as goal

pub returns-then-leaves-clause-holds : goal.returns-then-leaves-clause-holds
returns-then-leaves-clause-holds g c = λ test d.
    let e = told g.F.Fn c.args.leaves.now test d _ _ c.if-leaves.ensures in search rules

pub returns-else-leaves-clause-holds : goal.returns-else-leaves-clause-holds
returns-else-leaves-clause-holds g c = λ test d.
    let e = told g.F.Fn c.args.leaves.now test d _ _ c.if-leaves.ensures in search rules
