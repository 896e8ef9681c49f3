use Rattle.std.proofs.Common.{sym, ◌∙◌, arith}
use Rattle.ordered.proofs.Walking.{records_all, records_end, records_more}
use Rattle.definitions.specs.States.{kept_of}
use Rattle.collateral.proofs.Summing.{ranged_first, ranged_rest, sum_end, sum_more}
use Rattle.collateral.proofs.needs.need_for_all.Goals as goal

pub returns-in_default : goal.returns-in_default
returns-in_default g c =
    let ps = c.args.places.now in
    let i = c.loop-place.place-index in
    let inv = c.loop-place.invariant in
    let none = records_end ps i c.place-item.result c.loop-place-test.true (sym c.place-item.is ∙ c.in_default.is) in
    record {
      value = sum_end (kept_of c.args.ledger.now) c.args.agent g.T.Exposed.exposes ps i c.loop-place.sum inv.0 none;
      bound = omega (arith, inv.1, c.requires.few);
    }

pub need_for-sum-requires : goal.need_for-sum-requires
need_for-sum-requires g c =
    let ps = c.args.places.now in
    let i = c.loop-place.place-index in
    let more = records_more ps i c.place-item.result c.loop-place-test.true c.in-Some.held (sym c.place-item.is ∙ c.in-Some.is) in
    record {
      kempt = c.requires.kempt;
      ranged = ranged_first g.T.Exposed.exposes c.in-Some.held _ _ more c.loop-place.invariant.2 c.exposure.result c.exposure.ensures;
    }

pub loop-place-preserved : goal.loop-place-preserved
loop-place-preserved g c =
    let k = kept_of c.args.ledger.now in
    let exposes = g.T.Exposed.exposes in
    let ps = c.args.places.now in
    let i = c.loop-place.place-index in
    let x = c.in-Some.held in
    let inv = c.loop-place.invariant in
    let more = records_more ps i c.place-item.result c.loop-place-test.true x (sym c.place-item.is ∙ c.in-Some.is) in (
      sum_more k c.args.agent exposes ps i c.loop-place.sum inv.0 x c.exposure.result c.need_for-sum.result more c.exposure.ensures c.need_for-sum.ensures.value,
      omega (arith, inv.1, c.need_for-sum.ensures.bound),
      ranged_rest exposes x _ _ more inv.2,
    )

pub returns : goal.returns
returns g c =
    let ps = c.args.places.now in
    let i = c.loop-place.place-index in
    let inv = c.loop-place.invariant in
    record {
      value = sum_end (kept_of c.args.ledger.now) c.args.agent g.T.Exposed.exposes ps i c.loop-place.sum inv.0 (records_all ps i c.loop-place-test.false);
      bound = omega (arith, inv.1, c.requires.few);
    }
