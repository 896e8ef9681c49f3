use Rattle.ranking.specs.Lower.{is_lower}
use Rattle.ranking.proofs.codes.CodeRanked.before.Goals as goal

pub returns : goal.returns
returns c = is_lower c.args.self.now.letters c.args.other.now.letters c.lt.result c.lt.ensures
