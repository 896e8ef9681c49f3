use Rattle.std.proofs.Common.{sym, refl}
use Rattle.ordered.proofs.Moves.{removed_past}
use Rattle.ordered.proofs.Standing.{read_past}
use Rattle.ordered.proofs.places.take_out.Goals as goal

pub returns-else-place-places : goal.returns-else-place-places
returns-else-place-places g c =
    record {
      answer = sym (read_past c.args.places.now c.args.place c.if-place-places.false);
      after = removed_past c.args.places.now c.args.place c.if-place-places.false;
      room = refl;
      stays = c.requires;
    }
