use Rattle.std.proofs.Common.{◌≡◌, ◌++◌, ℕ, map, take}
use Rattle.node_guarantees.specs.Gains.{share_known}
use Rattle.network_node.proofs.sharing.add_shares.Given as goal

abbrev pub invariant-loop-balance : goal.invariant-loop-balance
invariant-loop-balance l = l.all.items ≡ l.fn.all.items ++ map (λ (x : ℕ × ℕ). (x.0, share_known l.known x.0)) (take l.balance-index l.view.held)
