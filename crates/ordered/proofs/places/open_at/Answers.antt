use Rattle.std.proofs.Common.{Some}
use Rattle.ordered.proofs.Steps.{opened, opened_is}
use Rattle.ordered.proofs.places.open_at.Goals as goal

pub returns : goal.returns
returns g c =
    opened g.T.Ranked.precedes c.args.places.now c.requires.ordered (record { asymmetric = g.met.T.Ranked.asymmetric; chain = g.met.T.Ranked.chain }) c.args.item c.args.at _ c.requires.fits
    (opened_is c.args.places.now c.rotate_right.new.self c.args.at (Some c.args.item) c.requires.within c.rotate_right.ensures.after)
