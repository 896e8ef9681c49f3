use Rattle.std.proofs.Common.{ℕ, ◌≤◌, refl, rules, arith}
use Rattle.std.proofs.lemmas.Iterator.{YieldsList-from_range, cases_from_all}
use borrow.Author.Tests.{tests}
use Rattle.register.specs.Holdings.{the_cap}
use Rattle.image.specs.View.{image_of}
use Rattle.image.specs.Zero.{imaged_outside}
use Rattle.movement.specs.Opening.{AccountFits}
use Rattle.movement.proofs.Openings.{account_fits, decides_below, decides_same}
use Rattle.movement.proofs.opening.account_fits.Goals as goal

pub returns : goal.returns
returns c =
    let o = image_of c.args.opening in
    let a = c.args.account in
    let n = c.securities.result in
    let P = λ (s : ℕ). (o.free a s ≤ the_cap) × (o.reserved a s ≤ the_cap) in
    let each = cases_from_all _ _ _ P (λ (s : ℕ). P s → ⊥) c.all.ensures.ran (YieldsList-from_range 0 n n refl (omega arith)) (λ x q k. search (rules, tests)) (λ x q k. search (rules, tests)) in
    decides_same c.all.result _ (AccountFits o a)
    (λ below. account_fits o (imaged_outside c.args.opening.bytes.now) a (λ s lt. below s (omega arith)))
    (λ fits s lt. fits s)
    (decides_below n P c.all.result each)
