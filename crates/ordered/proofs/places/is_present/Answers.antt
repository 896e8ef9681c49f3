use Rattle.std.proofs.Common.{ap, ◌∙◌}
use Rattle.std.specs.List.{slice_get}
use Rattle.ordered.specs.Answers.{equal_to}
use Rattle.ordered.specs.Places.{records}
use Rattle.ordered.proofs.Ascending.{present_at}
use Rattle.ordered.proofs.places.is_present.Goals as goal

pub returns : goal.returns
returns g c =
    let lt = g.T.Ranked.precedes in
    let xs = records c.args.places.now in
    c.is_equal_at.ensures
    ∙ ap (λ n. equal_to lt c.args.item.now (slice_get xs n)) c.requires.belongs
    ∙ present_at lt (record { asymmetric = g.met.T.Ranked.asymmetric; chain = g.met.T.Ranked.chain }) c.args.item.now xs c.requires.ordered.1
