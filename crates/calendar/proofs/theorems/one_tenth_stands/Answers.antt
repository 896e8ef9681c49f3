use Rattle.calendar.proofs.Counts.{one_tenth}
use Rattle.calendar.proofs.theorems.one_tenth_stands.Goals as goal

pub returns : goal.returns
returns c = one_tenth
