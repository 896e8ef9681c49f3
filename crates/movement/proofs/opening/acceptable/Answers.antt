use Rattle.std.proofs.Common.{ℕ, refl, rules, arith}
use Rattle.std.proofs.lemmas.Iterator.{YieldsList-from_range, cases_from_all}
use borrow.Author.Tests.{tests}
use Rattle.image.specs.View.{image_of}
use Rattle.image.specs.Zero.{imaged_outside}
use Rattle.movement.specs.Opening.{Acceptable, AccountFits}
use Rattle.movement.proofs.Openings.{all_fit, decides_below, decides_same}
use Rattle.movement.proofs.opening.acceptable.Goals as goal

pub returns : goal.returns
returns c =
    let o = image_of c.args.opening in
    let n = c.accounts-2.result in
    let P = λ (a : ℕ). AccountFits o a in
    let each = cases_from_all _ _ _ P (λ (a : ℕ). P a → ⊥) c.all.ensures.ran (YieldsList-from_range 0 n n refl (omega arith)) (λ x q k. search (rules, tests)) (λ x q k. search (rules, tests)) in
    decides_same c.all.result _ (Acceptable o)
    (λ below. (omega arith, omega arith, all_fit o (imaged_outside c.args.opening.bytes.now) (λ a lt. below a (omega arith))))
    (λ fit a lt. fit.2 a)
    (decides_below n P c.all.result each)
