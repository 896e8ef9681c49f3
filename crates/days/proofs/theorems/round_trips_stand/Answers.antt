use Rattle.days.proofs.Conversions.{round_trips}
use Rattle.days.proofs.theorems.round_trips_stand.Goals as goal

pub returns : goal.returns
returns c = round_trips
