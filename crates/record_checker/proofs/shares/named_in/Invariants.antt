use Rattle.std.proofs.Common.{◌≡◌, take}
use Rattle.record_checker.specs.Seen.{named}
use Rattle.record_checker.proofs.shares.named_in.Given as goal

abbrev pub invariant-loop-state : goal.invariant-loop-state
invariant-loop-state l = l.named.items ≡ named l.past (take l.state-index l.known)
