-- What a node says of an entry, a message, a command and the time.
use Rattle.std.specs.Prelude.{ℕ, suc, ◌-◌, ◌==◌, Bool, true, false, ◌&&◌, nat_lt, List, [], ◌∷◌, ◌++◌, map, fold, flat_map, Option, Some, None, Result, Ok, Err, if◌then◌else◌}
use Rattle.std.specs.List.{list_any}
use Rattle.std.specs.Str.{bytes_eq}
use Rattle.channel_values.specs.Amounts.{amt}
use Rattle.channel_values.specs.Outcomes.{is_same}
use Rattle.channel_values.specs.Parts.{FixedParts}
use Rattle.channel_values.specs.Rules.{top_outcome}
use Rattle.channel_values.specs.Digests.{name_of_person}
use Rattle.channel_values.specs.declared.fault.ByteFault.{ByteFault}
use Rattle.channel_values.specs.declared.value.AssetOutcome.{AssetOutcome}
use Rattle.channel_values.specs.declared.value.Dest.TheVariants.{Person}
use Rattle.call_history.specs.History.{flow_of, time_set}
use Rattle.call_history.specs.Mode.{mode_at, is_challenged, is_final}
use Rattle.call_history.specs.Naming.{name_of}
use Rattle.call_history.specs.Reading.{message_of}
use Rattle.call_history.specs.Rows.{fixed_of}
use Rattle.call_history.specs.Spelling.{Message}
use Rattle.call_history.specs.declared.call.Call.{Call}
use Rattle.call_history.specs.declared.call.Op.{Op}
use Rattle.call_history.specs.declared.funds.Flow.{Flow}
use Rattle.call_history.specs.declared.held_chain.HeldChain.{HeldChain}
use Rattle.call_history.specs.declared.refusal.Reply.{Reply}
use Rattle.call_history.specs.declared.refusal.Reply.TheVariants.{Until, Concluded}
use Rattle.call_history.specs.declared.view.WorldView.{WorldView}
use Rattle.funding_plans.specs.Shapes.{items_in}
use Rattle.history_view.specs.Views.{view_of}
use Rattle.network.specs.declared.outs.NodeFault.{NodeFault}
use Rattle.network.specs.declared.outs.NodeFault.TheVariants.{Refused, NoMemory}
use Rattle.network.specs.declared.outs.Outs.{Outs}
use Rattle.node_guarantees.specs.Ways.{Numbered, ways}
use Rattle.node_lines.specs.declared.effects.Effect.{Effect}
use Rattle.node_lines.specs.declared.effects.Effect.TheVariants as effects

-- ---- what a node gives

abbrev pub sends : List (List ℕ × List ℕ) → List Effect
sends letters = map (λ letter. effects.Send letter.0 letter.1) letters

-- the first at this place among the calls of the event
abbrev pub calls : ℕ → List Call → List Effect
calls place [] = []
calls place (call ∷ given) = effects.Call place call ∷ calls (suc place) given

abbrev pub spent : Option ℕ → List Effect
spent None = []
spent (Some used) = effects.Spent used ∷ []

-- ---- an entry

abbrev pub holds_chain : List HeldChain → List ℕ → Bool
holds_chain chains channel = list_any (λ k. bytes_eq k.channel channel) chains

-- a challenge is open in the channel, or it was concluded
abbrev pub turned : List ℕ → Reply → List Effect
turned channel (Until time) = effects.Challenged channel time ∷ []
turned channel (Concluded turn) = effects.Final channel ∷ []
turned channel reply = []

-- where the node holds a chain of it
abbrev pub turned_own : List HeldChain → Option FixedParts → Reply → List Effect
turned_own chains None reply = []
turned_own chains (Some f) reply = if holds_chain chains (name_of f) then turned (name_of f) reply else []

abbrev pub paid_from : Option (List ℕ) → Flow → List Effect
paid_from None flow = []
paid_from (Some channel) flow = effects.Paid channel flow.asset flow.amount ∷ []

-- a channel paid this person
abbrev pub paid_to : List ℕ → Flow → List Effect
paid_to me flow = if is_same flow.to (Person me) then paid_from flow.from flow else []

-- a challenge is open at the time before, and has run out at the time after
abbrev pub runs_out : ℕ → ℕ → Option ℕ → Bool
runs_out before after deadline = is_challenged (mode_at deadline before) && is_final (mode_at deadline after)

-- so the channel of a chain is final
abbrev pub final_by_time : ℕ → ℕ → WorldView → HeldChain → List Effect
final_by_time before after view k =
    if runs_out before after (view_of view.channels k.channel).deadline then effects.Final k.channel ∷ [] else []

-- by the time that the entry sets, if it does, of the chains that the node holds
abbrev pub run_out : ℕ → Numbered → Option ℕ → List Effect
run_out before p None = []
run_out before p (Some after) = flat_map (final_by_time before after p.node.mind.view) (ways.chains p)

-- to a node that has followed the entry; the time is that before it
abbrev pub of_entry : ℕ → Numbered → Op → Reply → List Effect
of_entry before p op reply =
    run_out before p (time_set op reply)
    ++ (turned_own (ways.chains p) (fixed_of op) reply
    ++ flat_map (paid_to (name_of_person (ways.key p))) (flow_of op reply))

-- ---- a message

-- what an outcome has for this person
abbrev pub own : List ℕ → List AssetOutcome → ℕ → ℕ
own me outcome asset = amt (items_in asset outcome) (Person me)

-- what it has more of an asset than before
abbrev pub gain : List ℕ → List ℕ → List AssetOutcome → List AssetOutcome → AssetOutcome → List Effect
gain me channel before after a =
    if nat_lt (own me before a.asset) (own me after a.asset)
    then effects.Gained channel a.asset (own me after a.asset - own me before a.asset) ∷ [] else []

-- in a payment channel, over the newest chain that is held of it
abbrev pub gain_over : List ℕ → List ℕ → List AssetOutcome → HeldChain → List Effect
gain_over me channel after k =
    if bytes_eq k.channel channel && (k.chain.fixed.app == 1)
    then flat_map (gain me channel (top_outcome k.chain.states) after) after else []

abbrev pub took : Numbered → Result Message ByteFault → List Effect
took p (Err fault) = []
took p (Ok message) =
    effects.Took message.0 message.1.state.turn
    ∷ flat_map (gain_over (name_of_person (ways.key p)) message.0 message.1.state.outcome) (ways.chains p)

-- of a message that the node takes
abbrev pub of_message : Numbered → List ℕ → List Effect
of_message p bytes = took p (message_of bytes)

-- ---- a command

abbrev pub of_command : Result Outs NodeFault → List Effect
of_command (Ok outs) = sends outs.sends ++ (calls 0 outs.calls ++ spent outs.spent)
of_command (Err (Refused refusal)) = effects.Refused refusal ∷ []
of_command (Err NoMemory) = []

-- ---- deadlines

-- the earlier of two times, of which each may be missing
abbrev pub earlier : Option ℕ → Option ℕ → Option ℕ
earlier None b = b
earlier (Some a) None = Some a
earlier (Some a) (Some b) = if nat_lt b a then Some b else Some a

-- a deadline that is still to come
abbrev pub to_come : ℕ → Option ℕ → Option ℕ
to_come now None = None
to_come now (Some time) = if nat_lt now time then Some time else None

abbrev pub deadline_of : WorldView → HeldChain → Option ℕ
deadline_of view k = to_come view.now (view_of view.channels k.channel).deadline

-- the next one of the channels of which the node holds a chain
abbrev pub next_deadline : Numbered → Option ℕ
next_deadline p = fold (λ time k. earlier time (deadline_of p.node.mind.view k)) None (ways.chains p)

abbrev pub told_deadline : Option ℕ → List Effect
told_deadline None = []
told_deadline (Some time) = effects.Deadline time ∷ []

abbrev pub of_time : Numbered → List Effect
of_time p = told_deadline (next_deadline p)
