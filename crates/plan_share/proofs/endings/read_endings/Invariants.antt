use Rattle.std.proofs.Common.{◌≡◌, ◌++◌, drop}
use Rattle.plan_share.specs.Seen.{counting_seen}
use Rattle.plan_share.proofs.endings.read_endings.Given as goal

abbrev pub invariant-loop-state : goal.invariant-loop-state
invariant-loop-state l = l.endings.items ++ counting_seen l.view (drop l.state-index l.known) ≡ counting_seen l.view l.known
