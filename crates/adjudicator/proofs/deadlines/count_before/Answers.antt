use Rattle.std.proofs.Common.{rules}
use Rattle.std.proofs.lemmas.List.Sorted.{IsPartitionPoint-from_clause}
use Rattle.std.specs.Ordering.{is_lt}
use Rattle.adjudicator.specs.Due.{row_cmp}
use Rattle.adjudicator.proofs.Ordered.{count_is, partitioned_before}
use Rattle.adjudicator.proofs.deadlines.count_before.Goals as goal

pub returns-clause-value : goal.returns-clause-value
returns-clause-value c =
    count_is (λ row. is_lt (row_cmp row c.args.new.now)) c.args.rows.now c.partition_point.result c.partition_point.ensures.bound
    (IsPartitionPoint-from_clause (λ row. is_lt (row_cmp row c.args.new.now)) c.args.rows.now c.partition_point.result c.partition_point.ensures.partitioned (partitioned_before c.args.new.now c.args.rows.now c.requires) (λ a r q k. search rules))
