use Rattle.std.proofs.Common.{◌≡◌, ◌≤◌, ◌*◌, take}
use Rattle.call_history.specs.Flows.{out_of}
use Rattle.call_history.proofs.balances.sent.Given as goal

abbrev pub invariant-loop-flow : goal.invariant-loop-flow
invariant-loop-flow l = record {
  sum : l.sum ≡ out_of (take l.flow-index l.flows) l.channel l.asset;
  fits : l.sum ≤ 18446744073709551615 * l.flow-index;
}
