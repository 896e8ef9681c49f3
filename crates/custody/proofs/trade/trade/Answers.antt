use Rattle.std.proofs.Common.{is_ok, sym, ap, ◌∙◌, subst, rules}
use Rattle.register.specs.Holdings.{Holdings, Creditable, credited}
use Rattle.definitions.specs.Sound.{Sound}
use Rattle.definitions.specs.States.{state}
use Rattle.definitions.proofs.Keeping.{sound_moved, room_to_move}
use Rattle.custody.proofs.Changed.{accepted, changed}
use Rattle.custody.proofs.trade.trade.Goals as goal

-- after the debit the receiver has room for the shares
pub unwrap-requires : goal.unwrap-requires
unwrap-requires g c =
    let x = state (g.R.Register.holdings c.args.register.now) c.args.ledger.now in
    let debit = changed _ _ _ _ c.debit.result c.debit.ensures.change (sym c.in_ok-map_err.ensures.variant) in
    accepted _ _ _ _ c.credit.result c.credit.ensures.change
    (subst (λ (k : Holdings). Creditable k c.in_ok-receiver.receiver c.in_ok-security.security c.args.quantity) (sym debit.1)
    (search rules, debit.0.1, room_to_move x c.requires c.in_ok-giver.giver c.in_ok-receiver.receiver c.in_ok-security.security c.args.quantity debit.0.0 (search rules) debit.0.2 (c.requires.capped c.in_ok-is_opened.ensures.0 _ debit.0.1)))

pub returns-clause-sound : goal.returns-clause-sound
returns-clause-sound g c =
    let x = state (g.R.Register.holdings c.args.register.now) c.args.ledger.now in
    let debit = changed _ _ _ _ c.debit.result c.debit.ensures.change (sym c.in_ok-map_err.ensures.variant) in
    let credit = changed _ _ _ _ c.credit.result c.credit.ensures.change (ap is_ok c.unwrap.ensures) in
    let moved = credit.1 ∙ ap (λ (k : Holdings). credited k c.in_ok-receiver.receiver c.in_ok-security.security c.args.quantity) debit.1 in
    subst (λ (k : Holdings). Sound (state k c.args.ledger.now)) (sym moved) (sound_moved x c.requires c.in_ok-giver.giver c.in_ok-receiver.receiver c.in_ok-security.security c.args.quantity debit.0.0 (search rules) debit.0.2)
