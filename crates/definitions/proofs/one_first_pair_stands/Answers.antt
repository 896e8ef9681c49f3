use Rattle.definitions.proofs.FirstPairs.{one_first_pair}
use Rattle.definitions.proofs.one_first_pair_stands.Goals as goal

pub returns : goal.returns
returns c = one_first_pair
