use Rattle.std.proofs.Common.{◌<◌, length, refl, ◌∙◌, arith}
use Rattle.std.proofs.lemmas.List.{length-set, take_all}
use Rattle.registers.proofs.Running.{runs_none, runs_more}
use Rattle.registers.proofs.lists.put_all.Goals as goal

pub loop-i-init : goal.loop-i-init
loop-i-init g c = (runs_none (g.R.Register.holdings c.args.register.now), refl, omega arith)

pub loop-i-preserved : goal.loop-i-preserved
loop-i-preserved g c =
    let holdings = g.R.Register.holdings in
    let lx : c.loop-i.i < length c.args.changes.now = omega arith in
    let lr : c.loop-i.i < length c.loop-i.answers = omega (arith, c.loop-i.invariant.2) in (
      runs_more (holdings c.args.register.now) (holdings c.loop-i.register) (holdings c.put.new.register) c.args.changes.now c.loop-i.answers c.loop-i.i _ c.put.result lx lr c.loop-i.invariant.0 c.put.ensures.answer,
      c.put.ensures.frame ∙ c.loop-i.invariant.1,
      simp length-set c.loop-i.invariant.2,
    )

pub returns : goal.returns
returns g c =
    let xs = take_all c.loop-i.i c.args.changes.now (omega arith) in
    let rs = take_all c.loop-i.i c.loop-i.answers (omega (arith, c.loop-i.invariant.2)) in
    record { run = rw (xs, rs) at c.loop-i.invariant.0; frame = c.loop-i.invariant.1 }
