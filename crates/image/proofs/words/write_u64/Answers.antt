use Rattle.std.proofs.Common.{arith, rules}
use Rattle.std.proofs.lemmas.List.{places}
use Rattle.image.proofs.BigEndian.{u64_at_written}
use Rattle.image.proofs.words.write_u64.Goals as goal

pub returns : goal.returns
returns c =
    record {
      len = search (rules, places);
      value = search (rules, u64_at_written);
      others = λ i away. grind (arith, places);
    }
