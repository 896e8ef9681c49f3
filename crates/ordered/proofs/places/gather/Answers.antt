use Rattle.std.proofs.Common.{◌<◌, length, arith}
use Rattle.std.proofs.lemmas.List.Filters.{FiltersInPlace-all}
use Rattle.ordered.proofs.Gathering.{gather_leaves, gather_moves}
use Rattle.ordered.proofs.places.gather.Goals as goal
use Rattle.ordered.proofs.places.gather.Goals.{then-is_staying, else-is_staying}

pub swap-requires-clause-a_in_bounds : goal.swap-requires-clause-a_in_bounds
swap-requires-clause-a_in_bounds g c = let k = c.loop-at.invariant c.requires.decided.0 c.requires.decided.1 in omega (arith, k.behind)

pub overflow_add-to : goal.overflow_add-to
overflow_add-to g c = let k = c.loop-at.invariant c.requires.decided.0 c.requires.decided.1 in omega (arith, k.behind)

pub loop-at-preserved : goal.loop-at-preserved
loop-at-preserved g c = λ test d.
    let h : c.loop-at.at < length c.loop-at.places = omega arith in
    elim c.if-is_staying.branch [
      | then-is_staying w ↦ rw (w.places-is, w.to-is) (gather_moves test c.args.places.now c.loop-at.places c.loop-at.to c.loop-at.at c.index-places-at.result (c.loop-at.invariant test d) h c.index-places-at.is (w.if-is_staying.ensures test d) w.swap.new.self w.swap.ensures.by_index)
      | else-is_staying w ↦ rw (w.places-is, w.to-is) (gather_leaves test c.args.places.now c.loop-at.places c.loop-at.to c.loop-at.at c.index-places-at.result (c.loop-at.invariant test d) h c.index-places-at.is (w.if-is_staying.ensures test d))
    ]

pub returns : goal.returns
returns g c =
    let k = c.loop-at.invariant c.requires.decided.0 c.requires.decided.1 in
    record { front = λ test d. FiltersInPlace-all (c.loop-at.invariant test d) c.loop-at-test.false; within = omega (arith, k.behind, k.within, k.long) }
