use Rattle.std.proofs.Common.{ℕ, sym, ap, ◌∙◌}
use Rattle.tariff.specs.Words.{in_word}
use Rattle.definitions.specs.Cover.{need as need_of}
use Rattle.definitions.specs.States.{kept_of}
use Rattle.collateral.proofs.Needing.{need_held, need_is, need_bound}
use Rattle.collateral.proofs.needs.need_for.Goals as goal

pub unwrap-requires : goal.unwrap-requires
unwrap-requires c =
    need_held (kept_of c.args.ledger.now) c.requires.kempt.ranged c.args.agent c.args.exposure c.requires.ranged
    c.need.result (c.need.ensures ∙ ap (λ (p : ℕ). in_word (need_of c.args.exposure.quantity p)) c.unwrap_or-price.ensures)

pub returns : goal.returns
returns c =
    let k = kept_of c.args.ledger.now in
    let held = sym c.unwrap.ensures ∙ c.need.ensures ∙ ap (λ (p : ℕ). in_word (need_of c.args.exposure.quantity p)) c.unwrap_or-price.ensures in
    record {
      value = need_is k c.requires.kempt.ranged c.args.agent c.args.exposure c.requires.ranged c.unwrap.result held c.if-exposure-agent.false;
      bound = need_bound k c.requires.kempt.ranged c.args.agent c.args.exposure c.requires.ranged c.unwrap.result held;
    }
