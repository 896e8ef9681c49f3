use Rattle.calendar.proofs.Weeks.{fortnight}
use Rattle.calendar.proofs.theorems.fortnight_stands.Goals as goal

pub returns : goal.returns
returns c = fortnight
