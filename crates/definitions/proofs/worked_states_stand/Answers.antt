use Rattle.std.proofs.Common.{refl}
use Rattle.definitions.specs.WorkedDays.{WorkedStates}
use Rattle.definitions.proofs.worked_states_stand.Goals as goal

pub returns : goal.returns
unfolding WorkedStates
returns c = (refl, refl, refl, refl, refl, refl, refl, refl, refl, refl, refl, refl, refl, refl, refl)
