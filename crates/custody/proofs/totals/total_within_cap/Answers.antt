use borrow.Author.Tests.{tests}
use Rattle.std.proofs.Common.{rules}
use Rattle.register.specs.Holdings.{registered}
use Rattle.custody.proofs.Walks.{sum_folded}
use Rattle.custody.proofs.totals.total_within_cap.Goals as goal

pub returns : goal.returns
returns g c =
    let h = g.R.Register.holdings c.args.register.now in
    rw (← c.accounts.ensures) (sum_folded _ c.accounts.result (λ a. registered h a c.args.security) c.try_fold.result _ c.try_fold.ensures.ran (λ a i v q k. search (rules, tests)))
