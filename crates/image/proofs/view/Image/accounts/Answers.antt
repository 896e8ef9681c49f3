use Rattle.image.specs.Image.{imaged}
use Rattle.image.proofs.view.Image.accounts.Goals as goal

pub returns : goal.returns
unfolding imaged
returns c = c.counts_in.ensures.accounts
