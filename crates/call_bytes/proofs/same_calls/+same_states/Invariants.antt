use Rattle.std.proofs.Common.{length}
use Rattle.call_bytes.proofs.same_calls.+same_states.Given as goal

abbrev pub decreases-same_states : goal.decreases-same_states
decreases-same_states l = length l.a.now
