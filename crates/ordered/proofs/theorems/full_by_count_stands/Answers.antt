use Rattle.ordered.proofs.Standing.{full_by_count}
use Rattle.ordered.proofs.theorems.full_by_count_stands.Goals as goal

pub returns : goal.returns
returns g c = full_by_count
