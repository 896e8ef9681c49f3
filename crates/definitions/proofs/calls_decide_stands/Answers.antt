use Rattle.definitions.proofs.Decided.{decide}
use Rattle.definitions.proofs.calls_decide_stands.Goals as goal

pub returns : goal.returns
returns c = decide
