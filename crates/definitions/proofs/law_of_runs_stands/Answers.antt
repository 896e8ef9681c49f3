use Rattle.definitions.proofs.LawProof.{law}
use Rattle.definitions.proofs.law_of_runs_stands.Goals as goal

pub returns : goal.returns
returns c = law
