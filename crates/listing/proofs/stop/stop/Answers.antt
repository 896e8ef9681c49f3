use Rattle.std.proofs.Common.{ltb-true, ◌<◌, sym, subst, rules, arith}
use Rattle.ordered.proofs.Deciding.{decides}
use Rattle.definitions.specs.Limits.{most_securities}
use Rattle.definitions.specs.Listing.{in_security}
use Rattle.definitions.specs.Sound.{Upright}
use Rattle.definitions.specs.States.{state}
use Rattle.definitions.proofs.Ranges.{upright_stopped}
use Rattle.listing.proofs.stop.stop.Goals as goal

pub remove_requests-requires-clause-decided : goal.remove_requests-requires-clause-decided
remove_requests-requires-clause-decided g c = (in_security c.args.security, decides _ (λ y b h. search rules))

pub returns-clause-upheld : goal.returns-clause-upheld
returns-clause-upheld g c =
    let x = state (g.R.Register.holdings c.args.register.now) c.args.ledger.now in
    let s = c.in_ok-security.security in
    let known : s < most_securities =
    omega (arith, ltb-true _ _ c.in_ok-security.ensures.0, c.in_ok-security.ensures.1, (c.requires.upright.borne c.in_ok-is_opened.ensures.0).securities) in
    let removed = c.remove_requests.ensures in
    record {
      neat = removed.neat;
      upright = subst Upright (sym (removed.leaves (in_security s) (decides _ (λ y b h. search rules)))) (upright_stopped x c.requires.upright s known);
    }
