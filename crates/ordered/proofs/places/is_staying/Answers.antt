use Rattle.std.proofs.Common.{rules}
use Rattle.ordered.proofs.Deciding.{told}
use Rattle.ordered.proofs.Gathering.{stays_by}
use Rattle.ordered.proofs.places.is_staying.Goals as goal

pub returns : goal.returns
returns g c = λ test d.
    stays_by c.as_ref.result c.args.place.now c.is_some_and.result test c.as_ref.ensures.value _ c.is_some_and.ensures
    (λ y h. let t = told g.F.Fn c.args.leaves.now test d y in search rules)
