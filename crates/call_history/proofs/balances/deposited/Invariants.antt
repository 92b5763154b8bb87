use Rattle.std.proofs.Common.{◌≡◌, ◌≤◌, ◌*◌, take}
use Rattle.call_history.specs.Flows.{deposited_in}
use Rattle.call_history.proofs.balances.deposited.Given as goal

abbrev pub invariant-loop-flow : goal.invariant-loop-flow
invariant-loop-flow l = record {
  sum : l.sum ≡ deposited_in (take l.flow-index l.flows) l.asset;
  fits : l.sum ≤ 18446744073709551615 * l.flow-index;
}
