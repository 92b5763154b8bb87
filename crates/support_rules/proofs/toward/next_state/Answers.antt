use Rattle.std.proofs.Common.{◌+◌, false, rules, arith}
use Rattle.channel_values.specs.Parts.{state_with}
use Rattle.support_rules.proofs.Making.{fault_of_memory}
use Rattle.support_rules.proofs.toward.next_state.Goals as goal

pub unless_memory-requires : goal.unless_memory-requires
unless_memory-requires c =
    fault_of_memory (λ s. s) c.make-made.result (state_with (c.turn.result + 1) false c.in_ok-ends.ends c.in_ok-app_bytes.app_bytes.items)
    (c.make-made.ensures.only (record { turn = search rules; outcome = search rules; few = search (rules, arith); bytes = search rules }))
