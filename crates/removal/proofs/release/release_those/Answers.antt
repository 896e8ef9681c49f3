use Rattle.std.proofs.Common.{refl, ◌∙◌}
use Rattle.removal.proofs.Releasing.{next_releasable, releasing_all, releasing_more, releasing_stop}
use Rattle.removal.proofs.release.release_those.Goals as goal

pub loop-place-init : goal.loop-place-init
loop-place-init g c = (λ test d. record { onward = refl; lent = c.requires.lent }, refl)

pub release_one-requires-clause-releasable : goal.release_one-requires-clause-releasable
release_one-requires-clause-releasable g c =
    let p = c.requires.decided in
    next_releasable (λ x. p.0 x.request) (g.R.Register.holdings c.args.register.now) (g.R.Register.holdings c.loop-place.register)
    c.args.places.now c.loop-place.place-index (c.loop-place.invariant.0 p.0 p.1) c.in-Some.lending c.loop-place-test.true c.in-Some.is

pub loop-place-preserved : goal.loop-place-preserved
loop-place-preserved g c = (
  λ test d.
      releasing_more (λ x. test x.request) (g.R.Register.holdings c.args.register.now) (g.R.Register.holdings c.loop-place.register)
      c.args.places.now c.loop-place.place-index (c.loop-place.invariant.0 test d) c.in-Some.lending
      (g.R.Register.holdings c.release_one.new.register) c.loop-place-test.true c.in-Some.is (c.release_one.ensures.holds test d),
  c.release_one.ensures.frame ∙ c.loop-place.invariant.1,
)

pub returns-in_default : goal.returns-in_default
returns-in_default g c = record {
  holds = λ test d.
      releasing_stop (λ x. test x.request) (g.R.Register.holdings c.args.register.now) (g.R.Register.holdings c.loop-place.register)
      c.args.places.now c.loop-place.place-index (c.loop-place.invariant.0 test d) c.loop-place-test.true c.in_default.is;
  frame = c.loop-place.invariant.1;
}

pub returns : goal.returns
returns g c = record {
  holds = λ test d.
      releasing_all (λ x. test x.request) (g.R.Register.holdings c.args.register.now) (g.R.Register.holdings c.loop-place.register)
      c.args.places.now c.loop-place.place-index (c.loop-place.invariant.0 test d) c.loop-place-test.false;
  frame = c.loop-place.invariant.1;
}
