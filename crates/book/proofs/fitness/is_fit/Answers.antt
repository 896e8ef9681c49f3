use borrow.Author.Tests.{tests}
use Rattle.std.proofs.Common.{◌≡◌, ℕ, Bool, true, false, ◌&&◌, eqb, leb, refl, ap, ◌∙◌, arith, rules}
use Rattle.std.proofs.lemmas.Iterator.{cases_from_all, YieldsList-from_range}
use Rattle.register.specs.Holdings.{sum_reserved, the_cap, total_of}
use Rattle.definitions.specs.States.{all_below}
use Rattle.book.proofs.Fits.{asked_below, fit_by}
use Rattle.book.proofs.fitness.is_fit.Goals as goal

pub returns : goal.returns
returns g c =
    let h = g.R.Register.holdings c.args.register.now in
    let p : ℕ → Bool = λ s. eqb (sum_reserved h s) 0 && leb (total_of h s) the_cap in
    let n = c.securities-securities.result in
    let below : c.all.result ≡ all_below n p = asked_below n p c.all.result
    (cases_from_all _ _ _ (λ s. p s ≡ true) (λ s. p s ≡ false) c.all.ensures.ran (YieldsList-from_range 0 n n refl (omega arith)) (λ x q k. search (rules, tests)) (λ x q k. search (rules, tests))) in
    fit_by h c.all.result (omega arith) (omega arith) (omega arith) (omega arith) (below ∙ ap (λ (m : ℕ). all_below m p) c.securities-securities.ensures)
