use Rattle.std.proofs.Common.{rules, w64, SFits}
use Rattle.image.specs.View.{image_of}
use Rattle.movement.proofs.Movements.{reserved_read}
use Rattle.movement.proofs.lines.MovementRegisterNumbers.reserved_of.Goals as goal

pub after-requires : goal.after-requires
after-requires c =
    let x = c.args.self.now in
    let fits : SFits w64 c.index.result.now.reserved = search rules in
    reserved_read (image_of x.opening) _ _ _ _ _ x.movements.items c.index.result.now x.len c.requires c.index.ensures _ c.reserved.ensures fits x.reserved
