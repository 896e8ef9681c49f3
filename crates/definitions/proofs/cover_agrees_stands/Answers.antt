use Rattle.std.proofs.Common.{refl}
use Rattle.definitions.proofs.cover_agrees_stands.Goals as goal

pub returns : goal.returns
returns c = λ x. record { same_need = λ g. refl; same_short = λ g. refl }
