use Rattle.std.proofs.Common.{◌∙◌, arith}
use Rattle.days.proofs.Months.{table_at}
use Rattle.days.proofs.table.Month.first_day.Goals as goal

pub returns : goal.returns
returns c =
    c.from.ensures ∙ table_at 18263 c.first_days.result.now c.first_days.ensures.rule c.args.self.index (omega arith)
