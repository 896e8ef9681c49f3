use Rattle.std.proofs.Common.{refl}
use Rattle.definitions.specs.WorkedDays.{WorkedDays}
use Rattle.definitions.proofs.worked_days_stand.Goals as goal

pub returns : goal.returns
unfolding WorkedDays
returns c = (refl, refl, refl)
