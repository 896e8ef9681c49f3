use Rattle.std.proofs.Common.{◌+◌, arith}
use Rattle.std.proofs.lemmas.Grind.{common_steps}
use Rattle.days.proofs.Months.{start_more, table_at}
use Rattle.days.proofs.Conversions.{start_end}
use Rattle.days.proofs.table.Month.length.Goals as goal

pub overflow_sub-result : goal.overflow_sub-result
overflow_sub-result c =
    let k = c.args.self.index in
    let more = start_more k in
    let at = table_at 18263 c.first_days.result.now c.first_days.ensures.rule (k + 1) in
    let end = start_end in
    grind (arith, common_steps)

pub returns : goal.returns
returns c =
    let k = c.args.self.index in
    let more = start_more k in
    let at = table_at 18263 c.first_days.result.now c.first_days.ensures.rule (k + 1) in
    let end = start_end in
    grind (arith, common_steps)
