use Rattle.std.proofs.Common.{◌≡◌, ◌++◌, take}
use Rattle.std.specs.List.{flat_map, AllByRecursion}
use Rattle.run_record.specs.Limits.{IsHeldChain}
use Rattle.run_record.specs.Spelling.{held_chain}
use Rattle.run_record.proofs.putting.put_chains.Given as goal

abbrev pub invariant-loop-held : goal.invariant-loop-held
invariant-loop-held l = (l.out.items ≡ l.initial.out.items ++ flat_map held_chain (take l.held-index l.chains)) × AllByRecursion IsHeldChain (take l.held-index l.chains)
