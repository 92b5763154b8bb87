-- What a node knows, and what entries, commands and states make of it.
use Rattle.std.specs.Prelude.{ℕ, ◌==◌, ◌||◌, Bool, true, false, List, [], ◌++◌, length, map, Option, Some, None, Result, Ok, Err, if◌then◌else◌}
use Rattle.std.specs.List.{flat_map, position_or_len}
use Rattle.channel_values.specs.Parts.{FixedParts}
use Rattle.channel_values.specs.declared.chain.Chain.{Chain}
use Rattle.channel_values.specs.declared.chain.Signed.{Signed}
use Rattle.channel_values.specs.declared.fault.ByteFault.{ByteFault}
use Rattle.channel_values.specs.Digests.{name_of_person}
use Rattle.channel_values.specs.Rules.{Rules}
use Rattle.call_history.specs.Flows.{is_among}
use Rattle.call_history.specs.Marked.{Marked, nothing, marked_of, answered}
use Rattle.call_history.specs.Rows.{fixed_of}
use Rattle.call_history.specs.History.{is_accepted}
use Rattle.call_history.specs.Reading.{message_of}
use Rattle.call_history.specs.Spelling.{Message}
use Rattle.call_history.specs.declared.call.Call.TheVariants.{Challenge, Respond, Checkpoint, Conclude}
use Rattle.call_history.specs.declared.call.Op.{Op}
use Rattle.call_history.specs.declared.call.Op.TheVariants as ops
use Rattle.call_history.specs.declared.entry.Entry.{Entry}
use Rattle.call_history.specs.declared.event.Deed.{Deed}
use Rattle.call_history.specs.declared.event.Deed.TheVariants as deeds
use Rattle.call_history.specs.declared.event.NodeRefusal.{NodeRefusal}
use Rattle.call_history.specs.declared.view.WorldView.{WorldView}
use Rattle.history_view.specs.Views.{view_of, followed, unseen}
use Rattle.channel_store.specs.Keeping.{held_chain, known_state, place_in, noting, adopting}
use Rattle.channel_store.specs.Storing.{kept_with}
use Rattle.channel_store.specs.declared.kept.Kept.{Kept}
use Rattle.funding_plans.specs.Known.{FactsOf}
use Rattle.funding_plans.specs.Parts.{channels_of}
use Rattle.funding_plans.specs.declared.plan.Goal.{Goal}
use Rattle.funding_plans.specs.declared.plan.Part.{Part}
use Rattle.network.specs.declared.command.Command.{Command}
use Rattle.network.specs.declared.command.Command.TheVariants.{Open, OpenOn, OpenVirtual, Pay, Close, Release, Resend, Exit}
use Rattle.channel_node.specs.Openings.{adds, opened, parts_of, goals_of}

-- Its key, what it opened and what was commanded of that, its view of the history, and what its store keeps; and
-- whether it left.
pub record Mind : Type 0 where
  pub key : List ℕ
  pub parts : List Part
  pub goals : List Goal
  pub view : WorldView
  pub kept : List Kept
  pub left : Bool

abbrev pub fresh : List ℕ → Mind
fresh key = record { key = key; parts = []; goals = []; view = unseen; kept = []; left = false }

-- what its rules read
abbrev pub facts_of : Mind → FactsOf
facts_of m =
    record {
      me = name_of_person m.key;
      plan = record { me = name_of_person m.key; parts = m.parts };
      view = m.view;
      places = map place_in m.kept;
      chains = flat_map held_chain m.kept;
      known = flat_map known_state m.kept;
      goals = m.goals;
    }

-- ---- entries

-- the chain that an accepted op shows, by the newest chain that was shown before; a respond shows that with its answer
abbrev pub shown_by : Op → Option Chain → Marked
shown_by (ops.Call (Challenge k)) before = marked_of k.chain
shown_by (ops.Call (Respond k)) (Some chain) = answered k.fixed k.next (marked_of chain)
shown_by (ops.Call (Checkpoint chain)) before = marked_of chain
shown_by (ops.Call (Conclude chain)) before = marked_of chain
shown_by _ before = nothing

abbrev pub kept_seeing : Rules → WorldView → Op → Option FixedParts → List Kept → List Kept
kept_seeing r view op None kept = kept
kept_seeing r view op (Some f) kept = kept_with (adopting r (shown_by op (view_of view.channels (r.named f)).shown)) (r.named f) kept

-- an entry is followed, and a newer chain that it shows is adopted
abbrev pub saw : Rules → Entry → Mind → Mind
saw r e m = record m { view = followed r.named e m.view; kept = if is_accepted e.reply then kept_seeing r m.view e.op (fixed_of e.op) m.kept else m.kept }

-- ---- states

-- a state is noted where it passes the tests; `own` says that the node signed it
abbrev pub noted : Rules → Bool → List ℕ → Signed → Mind → Mind
noted r own channel s m = record m { kept = kept_with (noting r own s) channel m.kept }

abbrev pub noted_message : Rules → Result Message ByteFault → Mind → Mind
noted_message r (Ok message) m = noted r false message.0 message.1 m
noted_message r (Err fault) m = m

-- ---- commands

-- with what a command opens
abbrev pub with_opened : Rules → Command → Mind → Mind
with_opened r command m =
    record m {
      parts = m.parts ++ parts_of r m.key command;
      goals = m.goals ++ goals_of (length m.parts) command;
      kept = m.kept ++ map (opened r m.key) (adds m.key (Some command));
    }

-- the place of the part that has a channel
abbrev pub place_with : List ℕ → List Part → ℕ
place_with channel parts = position_or_len (λ part. is_among channel (channels_of part)) parts

-- it closes; `lets` says that the participant lets go of it
abbrev pub close_if : (lets : Bool) → Bool → Goal → Goal
close_if lets true goal = record goal { closing = true; over = lets || goal.over }
close_if lets false goal = goal

abbrev pub commanded : Rules → Command → Mind → Mind
commanded r (Open f outcome) m = with_opened r (Open f outcome) m
commanded r (OpenOn o) m = with_opened r (OpenOn o) m
commanded r (OpenVirtual v) m = with_opened r (OpenVirtual v) m
commanded r (Close channel) m = record m { goals = map (λ goal. close_if false (goal.part == place_with channel m.parts) goal) m.goals }
commanded r (Release how channel) m = record m { goals = map (λ goal. close_if true (goal.part == place_with channel m.parts) goal) m.goals }
commanded r (Pay channel asset amount) m = m
commanded r (Resend channel) m = m
commanded r Exit m = record m { left = true }

-- ---- events

abbrev pub commanded_if : Rules → Option Command → Option NodeRefusal → Mind → Mind
commanded_if r (Some command) None m = commanded r command m
commanded_if r _ _ m = m

-- what an event makes of what is known; `command` is that of a command's event
abbrev pub did : Rules → Deed → Option Command → Mind → Mind
did r (deeds.Commanded step refusal) command m = commanded_if r command refusal m
did r (deeds.Handled bytes None) command m = noted_message r (message_of bytes) m
did r (deeds.Signed channel state signature) command m = noted r true channel (record { state = state; signature = signature }) m
did r _ command m = m
