use Rattle.std.proofs.Common.{◌≡◌, ◌++◌}
use Rattle.lms_signatures.specs.Ots.{digit, joined}
use Rattle.lms_signatures.specs.Secret.{along}
use Rattle.lms_signatures.proofs.secret.Seed.push_chains.Given as goal

abbrev pub invariant-loop-i : goal.invariant-loop-i
invariant-loop-i l = l.out.items ≡ l.fn.out.items ++ joined (λ i. along l.self l.q (digit l.self.ots l.hash i) i) l.i
