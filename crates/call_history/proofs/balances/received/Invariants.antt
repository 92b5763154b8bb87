use Rattle.std.proofs.Common.{◌≡◌, ◌≤◌, ◌*◌, take}
use Rattle.call_history.specs.Flows.{into}
use Rattle.call_history.proofs.balances.received.Given as goal

abbrev pub invariant-loop-flow : goal.invariant-loop-flow
invariant-loop-flow l = record {
  sum : l.sum ≡ into (take l.flow-index l.flows) l.to l.asset;
  fits : l.sum ≤ 18446744073709551615 * l.flow-index;
}
