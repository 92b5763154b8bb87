-- A command that isn't refused can be taken up.
use Rattle.std.proofs.Common.{◌≡◌, ℕ, ◌+◌, ◌≤◌, true, false, length, map, arith}
use Rattle.std.specs.Prelude.{Option, None, not, nat_lt}
use Rattle.channel_values.specs.Words.{fault_if, ◌⊳◌}
use Rattle.call_history.specs.declared.event.NodeRefusal.{NodeRefusal}
use Rattle.call_history.specs.declared.event.NodeRefusal.TheVariants.{NotAStep, UnknownChannel, TooMany}
use Rattle.funding_plans.specs.Parts.{channels}
use Rattle.network.specs.declared.command.Command.{Command}
use Rattle.network.specs.declared.command.Command.TheVariants.{Open, OpenOn, OpenVirtual, Pay, Close, Release, Resend, Exit}
use Rattle.channel_node.specs.Minds.{Mind, facts_of}
use Rattle.channel_node.specs.Openings.{opened_by, ledgers_for}
use Rattle.channel_node.specs.Refusing.{has_left, not_open, unfinished, are_new, can_open, are_planned, open_refusal, command_refusal}
use Rattle.channel_node.specs.Tables.{Tables}
use Rattle.node_knowledge.specs.Taking.{CanTake, CanOpen}
use Rattle.stage_tables.specs.Fitting.{fits}
use Rattle.stage_tables.specs.Stages.{stages}
use Rattle.support_rules.specs.Real.{real}
use Rattle.node_decisions.specs.Lines.{too_many}
use Rattle.node_decisions.proofs.Accepted.{can_open_all}
use Rattle.node_decisions.proofs.Shares.{shares_on_ledger, shares_in_virtual}
use Rattle.node_decisions.proofs.Tests.{left_true, right_true, not_false, first_none, others_none, not_broken}

-- ---- the lines after one another

abbrev last_lines : Tables → Mind → Command → Option NodeRefusal
last_lines t m command = has_left m ⊳ unfinished t (facts_of m) ⊳ too_many m command

abbrev step_lines : Tables → Mind → Command → Option NodeRefusal
step_lines t m command = fault_if (not (can_open t real m command)) NotAStep ⊳ last_lines t m command

steps : (t : Tables) (m : Mind) (command : Command) → open_refusal t real m command ≡ None → step_lines t m command ≡ None
steps t m command e =
    others_none (not_open t (facts_of m)) (step_lines t m command)
    (others_none (fault_if (not (are_planned m (ledgers_for m.key command))) UnknownChannel) (not_open t (facts_of m) ⊳ step_lines t m command) e)

opens : (t : Tables) (m : Mind) (command : Command) → open_refusal t real m command ≡ None → can_open t real m command ≡ true
opens t m command e =
    not_false (can_open t real m command) (not_broken (not (can_open t real m command)) NotAStep (first_none (fault_if (not (can_open t real m command)) NotAStep) (last_lines t m command) (steps t m command e)))

pub has_room : (t : Tables) (m : Mind) (command : Command) → open_refusal t real m command ≡ None → nat_lt 64 (length (channels m.parts) + length (opened_by command)) ≡ false
has_room t m command e =
    not_broken (nat_lt 64 (length (channels m.parts) + length (opened_by command))) (TooMany (length (channels m.parts)))
    (others_none (unfinished t (facts_of m)) (too_many m command)
    (others_none (has_left m) (unfinished t (facts_of m) ⊳ too_many m command) (others_none (fault_if (not (can_open t real m command)) NotAStep) (last_lines t m command) (steps t m command e))))

can_join : (t : Tables) (m : Mind) (command : Command) → open_refusal t real m command ≡ None → 1 ≤ length (opened_by command) → CanOpen m (opened_by command)
can_join t m command e some_opened =
    can_open_all m (opened_by command) (right_true (t.fits (facts_of m) command) (are_new m (map real.named (opened_by command))) (opens t m command e)) (has_room t m command e) some_opened

fitting : (m : Mind) (command : Command) → open_refusal stages real m command ≡ None → fits (facts_of m) command ≡ true
fitting m command e = left_true (fits (facts_of m) command) (are_new m (map real.named (opened_by command))) (opens stages m command e)

-- ---- commands

pub accepted_fits : (limit used : ℕ) (m : Mind) (command : Command) → command_refusal stages real limit used m command ≡ None → CanTake command m
unfolding fits
accepted_fits limit used m (Open f outcome) e = can_join stages m (Open f outcome) e (omega arith)
accepted_fits limit used m (OpenOn o) e = (
  can_join stages m (OpenOn o) e (omega arith),
  shares_on_ledger (facts_of m) o.ledger o.fixed o.asset o.amounts (fitting m (OpenOn o) e),
)
accepted_fits limit used m (OpenVirtual v) e = (
  can_join stages m (OpenVirtual v) e (omega arith),
  shares_in_virtual (facts_of m) v.route v.ledgers v.guarantors v.joint v.channel v.asset v.amounts
      (fitting m (OpenVirtual v) e),
)
accepted_fits limit used m (Pay channel asset amount) e = tt
accepted_fits limit used m (Close channel) e = tt
accepted_fits limit used m (Release how channel) e = tt
accepted_fits limit used m (Resend channel) e = tt
accepted_fits limit used m Exit e = tt
