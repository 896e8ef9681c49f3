use Rattle.std.proofs.Common.{◌-◌, ◌/◌, ◌∙◌, ap, ◌+◌, take, drop, rules, arith}
use Rattle.std.proofs.lemmas.List.Sorted.{IsPartitionPoint-from_clause}
use Rattle.ordered.specs.Ranks.{held_before}
use Rattle.ordered.proofs.Reading.{partitioned, partitioned_part, rank_in_places, rank_is, rank_part}
use Rattle.ordered.proofs.places.rank_of.Goals as goal

pub returns : goal.returns
returns g c =
    let lt = g.T.Ranked.precedes in
    let x = c.args.item.now in
    let ps = c.args.places.now in
    let low = c.reach_of-reach.result / 2 in
    let n = c.min-high.result - c.reach_of-reach.result / 2 in
    let r = rank_in_places lt x ps in
    ap (λ i. low + i)
    (rank_is lt x (take n (drop low ps)) c.partition_point.result c.partition_point.ensures.bound
    (IsPartitionPoint-from_clause (held_before lt x) (take n (drop low ps)) c.partition_point.result c.partition_point.ensures.partitioned
    (partitioned_part (held_before lt x) ps low n
    (partitioned lt (record { asymmetric = g.met.T.Ranked.asymmetric; chain = g.met.T.Ranked.chain }) x ps c.requires.0 c.requires.1))
    (λ a r f k. search rules)))
    ∙ rank_part lt x ps low n c.reach_of-reach.ensures.half (omega arith)
