use Rattle.words.proofs.Joins.{lines_split}
use Rattle.words.proofs.theorems.lines_split_stands.Goals as goal

pub returns : goal.returns
returns c = lines_split
