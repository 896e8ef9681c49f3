use Rattle.std.proofs.Common.{rules}
use Rattle.matching.proofs.pairs.is_match.Goals as goal

pub returns-then-shares_with : goal.returns-then-shares_with
returns-then-shares_with c = λ h. search rules

pub returns-else-shares_with : goal.returns-else-shares_with
returns-else-shares_with c = λ h. search rules
