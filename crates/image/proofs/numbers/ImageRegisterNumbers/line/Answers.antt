use Rattle.image.proofs.Places.{line_found}
use Rattle.image.proofs.numbers.ImageRegisterNumbers.line.Goals as goal

pub returns : goal.returns
returns c = line_found _ _ _ _ c.find_line.ensures
