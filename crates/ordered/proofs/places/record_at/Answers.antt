use Rattle.std.proofs.Common.{sym, refl, ap, ◌∙◌, arith}
use Rattle.std.proofs.lemmas.Option.{slice_get_read}
use Rattle.std.specs.Option.{option_map}
use Rattle.ordered.proofs.Standing.{read_at, read_past}
use Rattle.ordered.proofs.places.record_at.Goals as goal

pub returns-in_err-get : goal.returns-in_err-get
returns-in_err-get g c =
    let h = c.in_err-get.ensures.lookup in
    ap (option_map (λ x. x.now)) c.from_residual.ensures ∙ sym (read_past c.args.places.now c.args.place (omega (arith, h)))

pub returns : goal.returns
returns g c =
    let ps = c.args.places.now in
    let h = c.in_ok-get.ensures.lookup in
    c.as_ref.ensures.value
    ∙ read_at ps c.args.place c.in_ok-get.field-0.now c.requires.0 (slice_get_read ps _ c.args.place c.in_ok-get.field-0.now refl (omega (arith, h)) h.1)
