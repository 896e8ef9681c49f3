use Rattle.instructions.proofs.Leftmost.{leftmost}
use Rattle.instructions.proofs.theorems.leftmost_fault_stands.Goals as goal

pub returns : goal.returns
returns c = leftmost
