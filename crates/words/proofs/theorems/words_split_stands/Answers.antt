use Rattle.words.proofs.Joins.{words_split}
use Rattle.words.proofs.theorems.words_split_stands.Goals as goal

pub returns : goal.returns
returns c = words_split
