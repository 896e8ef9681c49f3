use borrow.Author.Tests.{tests}
use Rattle.std.proofs.Common.{◌≡◌, ◌<◌, refl, arith, rules}
use Rattle.std.proofs.lemmas.Iterator.{cases_from_all, YieldsList-from_range}
use Rattle.custody.proofs.Walks.{none_from_all}
use Rattle.custody.proofs.totals.none_reserved.Goals as goal

pub returns : goal.returns
returns g c =
    let h = g.R.Register.holdings c.args.register.now in
    rw (← c.accounts.ensures) (none_from_all c.accounts.result (λ a. h.reserved a c.args.security) c.all.result
    (cases_from_all _ _ _ (λ a. h.reserved a c.args.security ≡ 0) (λ a. 0 < h.reserved a c.args.security) c.all.ensures.ran (YieldsList-from_range 0 c.accounts.result c.accounts.result refl (omega arith))
    (λ x q k. search (rules, tests)) (λ x q k. search (rules, tests))))
