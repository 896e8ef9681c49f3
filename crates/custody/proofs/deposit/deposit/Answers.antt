use Rattle.std.proofs.Common.{rules}
use Rattle.definitions.proofs.Keeping.{sound_credited, room_on_line}
use Rattle.custody.proofs.Changed.{accepted, sound_asked}
use Rattle.custody.proofs.deposit.deposit.Goals as goal

-- the line has room for what the security's total has room for
pub unwrap-requires : goal.unwrap-requires
unwrap-requires g c =
    accepted _ _ _ _ c.credit.result c.credit.ensures.change (search rules, search rules, room_on_line _ c.requires _ _ _ (search rules) (search rules))

pub returns-clause-sound : goal.returns-clause-sound
returns-clause-sound g c =
    sound_asked _ _ _ _ _ c.credit.result c.credit.ensures.change c.requires (λ p. sound_credited _ c.requires _ _ _ p.0 (λ _. search rules))
