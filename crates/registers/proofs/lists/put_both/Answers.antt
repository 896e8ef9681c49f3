use Rattle.std.proofs.Common.{sym, subst}
use Rattle.register.specs.Holdings.{Holdings}
use Rattle.registers.specs.Lists.{Runs}
use Rattle.registers.proofs.Running.{runs_alike}
use Rattle.registers.proofs.lists.put_both.Goals as goal

pub returns : goal.returns
returns g c =
    let one = g.R.Register.holdings in
    let two = g.S.Register.holdings in
    let xs = c.args.changes.now in
    let p = c.put_all-answers.ensures in
    let q = c.put_all.ensures in
    record {
      first = p.run;
      second = q.run;
      alike = λ e. runs_alike (one c.args.first.now) (one c.put_all-answers.new.register) (two c.put_all.new.register) xs c.put_all-answers.result c.put_all.result p.run (subst (λ (h : Holdings). Runs h xs c.put_all.result (two c.put_all.new.register)) (sym e) q.run);
      frames = (p.frame, q.frame);
    }
