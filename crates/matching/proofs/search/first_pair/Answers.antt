use Rattle.std.proofs.Common.{true, false, refl, arith}
use Rattle.matching.proofs.Searching.{found, next_borrowing, next_partner, none_at_all, none_at_end}
use Rattle.matching.proofs.search.first_pair.Goals as goal

pub loop-lending-preserved : goal.loop-lending-preserved
loop-lending-preserved c = λ h.
    next_partner h c.args.ledger.now c.requires c.loop-borrowing.borrowing c.in-Some.request c.in-Some.is c.loop-lending.lending false
    (c.loop-lending.invariant h) (c.if-is_partner.ensures h) refl

pub loop-borrowing-preserved : goal.loop-borrowing-preserved
loop-borrowing-preserved c = λ h.
    next_borrowing h c.args.ledger.now c.requires c.loop-borrowing.borrowing c.in-Some.request c.in-Some.is (c.loop-borrowing.invariant h) c.loop-lending.lending
    (omega (arith, c.requires.lending.long)) (c.loop-lending.invariant h)

pub returns-in_default : goal.returns-in_default
returns-in_default c = λ h. none_at_end h c.args.ledger.now c.requires c.loop-borrowing.borrowing (c.loop-borrowing.invariant h) c.in_default.is

pub returns-then-is_partner : goal.returns-then-is_partner
returns-then-is_partner c = λ h.
    found h c.args.ledger.now c.requires c.loop-borrowing.borrowing c.in-Some.request c.in-Some.is (c.loop-borrowing.invariant h) c.loop-lending.lending true
    (c.loop-lending.invariant h) (c.if-is_partner.ensures h) refl

pub returns-after-loop-borrowing : goal.returns-after-loop-borrowing
returns-after-loop-borrowing c = λ h.
    none_at_all h c.args.ledger.now c.requires c.loop-borrowing.borrowing (c.loop-borrowing.invariant h) (omega (arith, c.requires.borrowing.long))
