use Rattle.words.proofs.Decimal.{numbers_written}
use Rattle.words.proofs.theorems.numbers_written_stands.Goals as goal

pub returns : goal.returns
returns c = numbers_written
