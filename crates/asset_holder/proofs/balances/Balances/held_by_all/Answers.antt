use Rattle.std.proofs.Common.{arith}
use Rattle.call_history.proofs.Conservation.{held_is_left}
use Rattle.asset_holder.proofs.balances.Balances.held_by_all.Goals as goal

pub overflow_sub-result : goal.overflow_sub-result
overflow_sub-result c = omega (arith, held_is_left c.args.self.now c.args.asset c.requires)
