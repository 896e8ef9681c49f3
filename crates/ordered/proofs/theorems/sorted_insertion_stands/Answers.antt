use Rattle.ordered.proofs.Insertion.{sorted_insertion}
use Rattle.ordered.proofs.theorems.sorted_insertion_stands.Goals as goal

pub returns : goal.returns
returns g c = sorted_insertion
