use Rattle.std.proofs.Common.{rules}
use Rattle.image.proofs.Places.{reserved_found}
use Rattle.image.proofs.numbers.ImageRegisterNumbers.reserved_of.Goals as goal

pub returns : goal.returns
returns c = search (rules, reserved_found)
