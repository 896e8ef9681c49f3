use Rattle.std.proofs.Common.{◌≡◌, Bool}
use Rattle.ordered.specs.Selected.{DecidedBy}
use Rattle.terms.specs.declared.records.Request.{Request}
use Rattle.removal.proofs.Releasing.{Releasing}
use Rattle.removal.proofs.release.release_those.Given as goal

abbrev pub invariant-loop-place : goal.invariant-loop-place
invariant-loop-place g l =
    ((test : Request → Bool) → DecidedBy g.F.Fn l.leaves test →
    Releasing (λ x. test x.request) (g.R.Register.holdings l.initial.register) (g.R.Register.holdings l.register) l.places l.place-index)
    × (g.R.Register.frame l.register ≡ g.R.Register.frame l.initial.register)
