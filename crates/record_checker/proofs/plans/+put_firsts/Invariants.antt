use Rattle.std.proofs.Common.{length}
use Rattle.record_checker.proofs.plans.+put_firsts.Given as goal

abbrev pub decreases-put_firsts : goal.decreases-put_firsts
decreases-put_firsts l = length l.known.now
