use Rattle.std.proofs.Common.{◌≡◌, ◌++◌, ℕ, List, map, take}
use Rattle.call_history.specs.Spelling.{message}
use Rattle.node_knowledge.proofs.giving.put_sends.Given as goal

abbrev pub invariant-loop-person : goal.invariant-loop-person
invariant-loop-person l = l.sends.items ≡ l.initial.sends.items ++ map (λ (person : List ℕ). (person, message (l.channel, record { state = l.state; signature = l.signature }))) (take l.person-index l.people)
