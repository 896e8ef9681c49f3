use Rattle.image.proofs.Places.{set_free_after, set_free_frame, set_free_stays}
use Rattle.image.proofs.numbers.ImageRegisterNumbers.set_free.Goals as goal

pub returns : goal.returns
returns c =
    let f = c.requires.found in
    let st = c.write_u64.ensures in
    record {
      number = set_free_after _ _ _ _ f _ _ st;
      frame = set_free_frame _ _ _ _ f _ _ st _;
      stays = set_free_stays _ _ _ _ f _ _ st;
    }
