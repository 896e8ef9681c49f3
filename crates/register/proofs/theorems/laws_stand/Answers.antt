use Rattle.register.proofs.Changed.{laws}
use Rattle.register.proofs.theorems.laws_stand.Goals as goal

pub returns : goal.returns
returns c = laws
