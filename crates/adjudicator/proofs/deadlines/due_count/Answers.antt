use Rattle.std.proofs.Common.{rules}
use Rattle.std.proofs.lemmas.List.Sorted.{IsPartitionPoint-from_clause}
use Rattle.std.specs.Prelude.{nat_le}
use Rattle.adjudicator.proofs.Ordered.{count_is, partitioned_due}
use Rattle.adjudicator.proofs.deadlines.due_count.Goals as goal

pub returns-clause-value : goal.returns-clause-value
returns-clause-value c =
    count_is (λ row. nat_le row.0 c.args.now) c.args.rows.now c.partition_point.result c.partition_point.ensures.bound
    (IsPartitionPoint-from_clause (λ row. nat_le row.0 c.args.now) c.args.rows.now c.partition_point.result c.partition_point.ensures.partitioned (partitioned_due c.args.now c.args.rows.now c.requires) (λ a r q k. search rules))
