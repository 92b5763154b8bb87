use Rattle.std.proofs.Common.{◌≡◌, ◌≤◌, ◌*◌, take}
use Rattle.std.specs.Prelude.{sum_by}
use Rattle.call_history.proofs.Conservation.{pays_person}
use Rattle.call_history.proofs.balances.paid_to_all.Given as goal

abbrev pub invariant-loop-flow : goal.invariant-loop-flow
invariant-loop-flow l = record {
  sum : l.sum ≡ sum_by (pays_person l.asset) (take l.flow-index l.flows);
  fits : l.sum ≤ 18446744073709551615 * l.flow-index;
}
