use Rattle.std.proofs.Common.{Decides, Option, sym, subst}
use Rattle.terms.specs.declared.records.LendingRequest.{LendingRequest}
use Rattle.definitions.specs.States.{state}
use Rattle.matching.specs.Meets.{Meets}
use Rattle.matching.proofs.search.is_partner.Goals as goal

pub returns-in-Some : goal.returns-in-Some
returns-in-Some c = λ h.
    subst (λ (o : Option LendingRequest). Decides c.is_match.result (Meets (state h c.args.ledger.now) o c.args.borrowing.now)) (sym c.in-Some.is) (c.is_match.ensures h)
