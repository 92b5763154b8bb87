use Rattle.std.proofs.Common.{◌≡◌, map, take}
use Rattle.channel_values.specs.Spelling.{chain}
use Rattle.lasting_node.proofs.queries.all_chain_bytes.Given as goal

abbrev pub invariant-loop-held : goal.invariant-loop-held
invariant-loop-held l = l.all.items ≡ map (λ k. chain k.chain) (take l.held-index l.chains)
