use Rattle.std.proofs.Common.{◌≡◌, sym, subst, ap, ◌∙◌}
use Rattle.image.specs.Image.{imaged}
use Rattle.image.specs.View.{image_of}
use Rattle.register.specs.Holdings.{Holdings}
use Rattle.movement.specs.Opening.{Acceptable, nothing}
use Rattle.movement.proofs.Openings.{no_bytes, nothing_fits}
use Rattle.movement.proofs.opening.taken.Goals as goal

pub returns-else-acceptable-clause-opened : goal.returns-else-acceptable-clause-opened
returns-else-acceptable-clause-opened c =
    let e : image_of c.new.result ≡ nothing = ap imaged c.new.ensures ∙ no_bytes in
    record { accepted = λ ok. let no = c.if-acceptable.ensures.1 ok in cc; unfit = λ _. e }

pub returns-else-acceptable-clause-acceptable : goal.returns-else-acceptable-clause-acceptable
returns-else-acceptable-clause-acceptable c =
    let e : image_of c.new.result ≡ nothing = ap imaged c.new.ensures ∙ no_bytes in
    subst (λ (h : Holdings). Acceptable h) (sym e) nothing_fits
