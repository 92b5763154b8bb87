-- A payment that isn't refused can be made.
use Rattle.std.proofs.Common.{◌≡◌, ℕ, Bool, List}
use Rattle.std.specs.Prelude.{Option, Some, None, not, nat_le, ◌==◌}
use Rattle.call_history.specs.declared.event.NodeRefusal.{NodeRefusal}
use Rattle.call_history.specs.declared.event.NodeRefusal.TheVariants.{NotAStep, NotNext, KeySpent}
use Rattle.channel_values.specs.Rows.{mover}
use Rattle.channel_values.specs.Rules.{people}
use Rattle.channel_values.specs.Words.{fault_if, ◌⊳◌}
use Rattle.channel_store.specs.Keeping.{next_of}
use Rattle.channel_store.specs.Storing.{kept_of}
use Rattle.channel_store.specs.declared.kept.Kept.{Kept}
use Rattle.funding_plans.specs.Shapes.{items_in}
use Rattle.network.specs.declared.command.Command.TheVariants.{Pay}
use Rattle.channel_node.specs.Minds.{Mind, facts_of}
use Rattle.channel_node.specs.Refusing.{has_left, not_open, not_running, part_joined, latest_outcome, is_payable, pay_refusal, command_refusal}
use Rattle.stage_tables.specs.Stages.{stages}
use Rattle.node_decisions.specs.Paying.{IsPayable}
use Rattle.support_rules.specs.Real.{real}
use Rattle.node_decisions.proofs.Tests.{not_false, first_none, others_none, not_broken}

module _ (limit used : ℕ) (m : Mind) (channel : List ℕ) (asset amount : ℕ) where
  abbrev payable : Kept → Bool
  payable k = is_payable real m channel asset amount k (items_in asset (latest_outcome m channel k))

  abbrev last_lines : Option NodeRefusal
  last_lines = has_left m ⊳ not_running stages (facts_of m) (part_joined channel m.parts) ⊳ fault_if (nat_le limit used) (KeySpent used)

  abbrev step_lines : Kept → Option NodeRefusal
  step_lines k = fault_if (not (payable k)) NotAStep ⊳ last_lines

  abbrev turn_line : Kept → Option NodeRefusal
  turn_line k = fault_if (not (mover (people k.chain.fixed) (next_of k) == k.me)) (NotNext (next_of k))

  kept_so : (o : Option Kept) → pay_refusal stages real limit used m channel asset amount o ≡ None → IsPayable m channel asset amount o
  kept_so None e = tt
  kept_so (Some k) e =
      not_false (payable k)
      (not_broken (not (payable k)) NotAStep
      (first_none (fault_if (not (payable k)) NotAStep) last_lines
      (others_none (turn_line k) (step_lines k) (others_none (not_open stages (facts_of m)) (turn_line k ⊳ step_lines k) e))))

  pub paid_so : command_refusal stages real limit used m (Pay channel asset amount) ≡ None → IsPayable m channel asset amount (kept_of channel m.kept)
  paid_so e = kept_so (kept_of channel m.kept) e
