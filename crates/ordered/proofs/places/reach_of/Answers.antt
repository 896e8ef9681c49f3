use Rattle.std.proofs.Common.{◌+◌, ◌-◌, ◌*◌, ◌<◌, sym, ap, ◌∙◌, arith}
use Rattle.std.proofs.lemmas.Grind.{pow_more}
use Rattle.ordered.specs.Places.{records}
use Rattle.ordered.specs.Ranks.{rank}
use Rattle.ordered.proofs.Reading.{partitioned, rank_passes, rank_stops}
use Rattle.ordered.proofs.places.reach_of.Goals as goal

pub loop-reach-preserved : goal.loop-reach-preserved
loop-reach-preserved g c =
    let lt = g.T.Ranked.precedes in
    let x = c.args.item.now in
    let ps = c.args.places.now in
    let w = partitioned lt (record { asymmetric = g.met.T.Ranked.asymmetric; chain = g.met.T.Ranked.chain }) x ps c.requires.0 c.requires.1 in
    let h : c.loop-reach.reach - 1 < rank lt x (records ps) =
    rank_passes lt x ps (c.loop-reach.reach - 1) c.index-places-reach.result c.index-places-reach.is w (omega arith) (sym c.holds_before.ensures ∙ c.if-holds_before.true) in
    record {
      power = (c.loop-reach.invariant.power.0 + 1, ap (λ n. n * 2) c.loop-reach.invariant.power.1 ∙ sym (pow_more 2 c.loop-reach.invariant.power.0));
      positive = omega arith;
      half = omega arith;
    }

pub returns-else-holds_before-clause-past : goal.returns-else-holds_before-clause-past
returns-else-holds_before-clause-past g c =
    let h = rank_stops g.T.Ranked.precedes c.args.item.now c.args.places.now (c.loop-reach.reach - 1) c.index-places-reach.result c.index-places-reach.is (sym c.holds_before.ensures ∙ c.if-holds_before.false) in
    omega arith
