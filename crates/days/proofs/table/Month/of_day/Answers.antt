use Rattle.std.proofs.Common.{leb, rules}
use Rattle.std.proofs.lemmas.List.Sorted.{IsPartitionPoint-from_clause}
use Rattle.days.proofs.Search.{Begun, parted, begun_at}
use Rattle.days.proofs.table.Month.of_day.Goals as goal
use Rattle.days.proofs.table.Month.of_day.Goals.{After-partition_point-begun}

months_begun : (c : After-partition_point-begun) → Begun c.partition_point-begun.result c.args.day
months_begun c =
    let table = c.first_days.result.now in
    let rule = c.first_days.ensures.rule in
    let point = IsPartitionPoint-from_clause (λ first. leb first c.args.day) _ _ c.partition_point-begun.ensures.partitioned (parted table rule c.args.day) (λ a r q k. search rules) in
    begun_at table rule c.args.day _ point c.first_days.ensures.len c.requires c.partition_point-begun.ensures.bound

pub overflow_sub-result : goal.overflow_sub-result
overflow_sub-result c = (months_begun c).some

pub returns-clause-begun : goal.returns-clause-begun
returns-clause-begun c = (months_begun (goal.at.returns-clause-begun c).After-partition_point-begun).begun

pub returns-clause-left : goal.returns-clause-left
returns-clause-left c = (months_begun (goal.at.returns-clause-left c).After-partition_point-begun).left
