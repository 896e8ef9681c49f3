use Rattle.image.proofs.Pinned.{images_pinned}
use Rattle.image.proofs.theorems.images_are_pinned.Goals as goal

pub returns : goal.returns
returns c = images_pinned
