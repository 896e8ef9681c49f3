use Rattle.ordered.proofs.Steps.{equal, equal_within, unequal}
use Rattle.ordered.proofs.places.write_over.Goals as goal

pub returns-then-not-is_equal_at : goal.returns-then-not-is_equal_at
returns-then-not-is_equal_at g c =
    unequal g.T.Ranked.precedes c.args.places.now c.requires c.args.place c.args.item c.if-not-is_equal_at.ensures

pub write_at-requires : goal.write_at-requires
write_at-requires g c =
    equal_within g.T.Ranked.precedes c.args.places.now c.requires c.args.place c.args.item c.if-not-is_equal_at.ensures

pub returns : goal.returns
returns g c =
    equal g.T.Ranked.precedes c.args.places.now c.requires (record { asymmetric = g.met.T.Ranked.asymmetric; chain = g.met.T.Ranked.chain })
    c.args.place c.args.item c.write_at.result c.write_at.new.places
    c.if-not-is_equal_at.ensures c.write_at.ensures.value c.write_at.ensures.after
