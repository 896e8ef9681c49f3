use Rattle.image.proofs.Places.{set_reserved_after, set_reserved_frame, set_reserved_stays}
use Rattle.image.proofs.numbers.ImageRegisterNumbers.set_reserved.Goals as goal

pub returns : goal.returns
returns c =
    let f = c.requires.found in
    let st = c.write_u64.ensures in
    record {
      number = set_reserved_after _ _ _ _ f _ _ st;
      frame = set_reserved_frame _ _ _ _ f _ _ st _;
      stays = set_reserved_stays _ _ _ _ f _ _ st;
    }
