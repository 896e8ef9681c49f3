use Rattle.definitions.proofs.Keeping.{sound_debited}
use Rattle.custody.proofs.Changed.{sound_asked}
use Rattle.custody.proofs.withdraw.withdraw.Goals as goal

pub returns-clause-sound : goal.returns-clause-sound
returns-clause-sound g c =
    sound_asked _ _ _ _ _ c.debit.result c.debit.ensures.change c.requires (λ p. sound_debited _ c.requires _ _ _ p.0 p.2)
