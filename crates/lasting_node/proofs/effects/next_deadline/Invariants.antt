use Rattle.std.proofs.Common.{◌≡◌, take}
use Rattle.std.specs.Prelude.{fold, None}
use Rattle.node_guarantees.specs.Ways.{ways}
use Rattle.lasting_node.specs.Effects.{earlier, deadline_of}
use Rattle.lasting_node.proofs.effects.next_deadline.Given as goal

abbrev pub invariant-loop-held : goal.invariant-loop-held
invariant-loop-held l =
    l.next ≡ fold (λ time k. earlier time (deadline_of l.node.node.mind.view k)) None (take l.held-index (ways.chains l.node))
