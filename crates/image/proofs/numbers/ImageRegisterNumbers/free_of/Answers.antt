use Rattle.std.proofs.Common.{rules}
use Rattle.image.proofs.Places.{free_found}
use Rattle.image.proofs.numbers.ImageRegisterNumbers.free_of.Goals as goal

pub returns : goal.returns
returns c = search (rules, free_found)
