use Rattle.std.proofs.Common.{refl}
use Rattle.days.specs.Dates.{leap, month_length}
use Rattle.days.specs.Table.{length_of, steps, is_month_table}
use Rattle.days.proofs.table.first_days.Goals as goal

pub returns : goal.returns
unfolding leap month_length length_of steps is_month_table
returns c = record { rule = refl; len = refl }
