use Rattle.std.proofs.Common.{sym, subst}
use Rattle.register.specs.Holdings.{Holdings}
use Rattle.image.specs.View.{image_of}
use Rattle.image.specs.Zero.{imaged_outside}
use Rattle.movement.specs.Opening.{Opened}
use Rattle.movement.proofs.Openings.{all_zero, moved_start}
use Rattle.movement.proofs.state.MovementRegister.new.Goals as goal

pub returns : goal.returns
returns c =
    let opening = c.taken-opening.result in
    let ms = c.in_ok-movements.movements.items in
    let zeros = all_zero ms _ (c.in_ok-movements.ensures.items_if_clones_equal (λ y e. e)) in
    subst (λ (h : Holdings). Opened (image_of c.args.opening) h)
    (sym (moved_start (image_of opening) (imaged_outside opening.bytes.now) ms zeros))
    c.taken-opening.ensures.opened
