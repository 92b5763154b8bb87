-- Each message that a machine sends is signed in its node's journal then, and stays there.
use Rattle.std.proofs.Common.{ℕ, suc, Bool, true, false, cond, ◌&&◌, List, [], ◌∷◌, ◌++◌, drop, sym, subst}
use Rattle.std.specs.Prelude.{◌-◌, ◌==◌, not, flat_map, Option, Some, None, Result, Ok, Err, nat_lt}
use Rattle.std.specs.List.{AllByRecursion}
use Rattle.std.specs.Str.{bytes_eq}
use Rattle.channel_values.specs.Digests.{name_of_person}
use Rattle.channel_values.specs.Outcomes.{is_same}
use Rattle.channel_values.specs.Parts.{FixedParts}
use Rattle.channel_values.specs.Rules.{top_outcome}
use Rattle.channel_values.specs.declared.value.Dest.TheVariants.{Person}
use Rattle.call_history.specs.History.{flow_of, time_set, reply_to}
use Rattle.call_history.specs.Naming.{name_of}
use Rattle.call_history.specs.Rows.{fixed_of}
use Rattle.channel_values.specs.declared.fault.ByteFault.{ByteFault}
use Rattle.channel_values.specs.declared.value.AssetOutcome.{AssetOutcome}
use Rattle.call_history.specs.Reading.{message_of}
use Rattle.call_history.specs.Spelling.{Message}
use Rattle.call_history.specs.declared.call.Call.{Call}
use Rattle.call_history.specs.declared.call.Op.{Op}
use Rattle.call_history.specs.declared.entry.Entry.{Entry}
use Rattle.call_history.specs.declared.funds.Flow.{Flow}
use Rattle.call_history.specs.declared.held_chain.HeldChain.{HeldChain}
use Rattle.call_history.specs.declared.refusal.Reply.{Reply}
use Rattle.call_history.specs.declared.refusal.Reply.TheVariants as replies
use Rattle.call_history.specs.declared.view.WorldView.{WorldView}
use Rattle.channel_safety.specs.Journals.{In}
use Rattle.history_view.specs.Views.{view_of}
use Rattle.network.specs.Entered.{oldest_first}
use Rattle.network.specs.Members.{accepted}
use Rattle.network.specs.Standing.{AreKept}
use Rattle.network.specs.declared.outs.NodeFault.{NodeFault}
use Rattle.network.specs.declared.outs.NodeFault.TheVariants.{Refused, NoMemory}
use Rattle.network.specs.declared.outs.Outs.{Outs}
use Rattle.node_guarantees.proofs.Sending.{nodes_send_what_they_signed}
use Rattle.node_guarantees.specs.Commanded.{told}
use Rattle.node_guarantees.specs.Once.{Signature}
use Rattle.node_guarantees.specs.Placed.{IsPlaced}
use Rattle.node_guarantees.specs.Sends.{AreSigned}
use Rattle.node_guarantees.specs.Telling.{ChallengesAreOwn}
use Rattle.node_guarantees.specs.Ways.{Numbered, ways}
use Rattle.lasting_lines.specs.Batches.{next_all}
use Rattle.lasting_node.proofs.Called.{AreSignedCalls, more-signed-call, more-signed-calls, ticked-calls, commanded-calls, look-signed}
use Rattle.lasting_node.proofs.Entries.{taken-valid}
use Rattle.lasting_node.proofs.Sent.{Stays, same, then, saw-stays, commanded-stays, handled-stays, ticked-stays, watched-stays}
use Rattle.lasting_node.proofs.Standing.{IsNode, IsMachine, ticks, next-stands}
use Rattle.lasting_node.specs.Effects.{sends, calls, spent, holds_chain, turned, turned_own, own, paid_from, paid_to, runs_out, final_by_time, run_out, of_entry, gain, gain_over, took, of_command, next_deadline, told_deadline, of_time}
use Rattle.node_lines.specs.declared.entries.LedgerEntry.{LedgerEntry}
use Rattle.support_rules.specs.Real.{real}
use Rattle.lasting_node.specs.InFlight.{is_in_flight}
use Rattle.lasting_node.specs.Laws.{made_by, IsSent, Answer, answer_if, answers_to, IsSentIn}
use Rattle.lasting_node.specs.Machines.{taken, number, entering, seeing, look, lookout_of, new_calls, looking, ticking, look_place, after_entry, after_tick, after_event, next, time_of, entry_effects, tick_effects, effects_of, line_ways}
use Rattle.node_lines.specs.declared.effects.Effect.{Effect}
use Rattle.node_lines.specs.declared.effects.Effect.TheVariants as effects
use Rattle.lasting_node.specs.declared.machine.NodeMachine.{NodeMachine}
use Rattle.lasting_node.specs.declared.taking.NotTaken.{NotTaken}
use Rattle.node_lines.specs.declared.events.NodeEvent.{NodeEvent}
use Rattle.node_lines.specs.declared.events.NodeEvent.TheVariants as events

-- ---- lists of effects

-- the messages among these effects are signed
abbrev pub AreSent : List Signature → List Effect → Type 0
AreSent made = AllByRecursion (IsSent made)

module _ (made : List Signature) where
  both : (first second : List Effect) → AreSent made first → AreSent made second → AreSent made (first ++ second)
  both [] second is rest = rest
  both (effect ∷ first) second is rest = (is.0, both first second is.1 rest)

  flat : {A : Type 0} (f : A → List Effect) → ((x : A) → AreSent made (f x)) → (xs : List A) → AreSent made (flat_map f xs)
  flat f each [] = tt
  flat f each (x ∷ xs) = both (f x) (flat_map f xs) (each x) (flat f each xs)

  sent : (letters : List (List ℕ × List ℕ)) → AreSigned made letters → AreSent made (sends letters)
  sent [] is = tt
  sent (letter ∷ letters) is = (is.0, sent letters is.1)

  called : (place : ℕ) (given : List Call) → AreSignedCalls made given → AreSent made (calls place given)
  called place [] all = tt
  called place (call ∷ given) all = (all.0, called (suc place) given all.1)

  spent-sent : (o : Option ℕ) → AreSent made (spent o)
  spent-sent None = tt
  spent-sent (Some used) = (tt, tt)

  timed : (p : Numbered) → AreSent made (of_time p)
  timed p = go (next_deadline p)
    where
      go : (o : Option ℕ) → AreSent made (told_deadline o)
      go None = tt
      go (Some time) = (tt, tt)

  if-sent : (b : Bool) (some : List Effect) → AreSent made some → AreSent made (cond b some [])
  if-sent true some is = is
  if-sent false some is = tt

  -- ---- what is said of entries and messages sends nothing

  turned-sent : (channel : List ℕ) (reply : Reply) → AreSent made (turned channel reply)
  turned-sent channel (replies.Held amount) = tt
  turned-sent channel (replies.Until time) = (tt, tt)
  turned-sent channel (replies.Opened turn) = tt
  turned-sent channel (replies.Concluded turn) = (tt, tt)
  turned-sent channel (replies.Paid amount) = tt
  turned-sent channel (replies.Now time) = tt
  turned-sent channel (replies.No refusal) = tt

  own-sent : (chains : List HeldChain) (o : Option FixedParts) (reply : Reply) → AreSent made (turned_own chains o reply)
  own-sent chains None reply = tt
  own-sent chains (Some f) reply = if-sent (holds_chain chains (name_of f)) (turned (name_of f) reply) (turned-sent (name_of f) reply)

  paid-sent : (me : List ℕ) (flow : Flow) → AreSent made (paid_to me flow)
  paid-sent me flow = if-sent (is_same flow.to (Person me)) (paid_from flow.from flow) (from flow.from)
    where
      from : (o : Option (List ℕ)) → AreSent made (paid_from o flow)
      from None = tt
      from (Some channel) = (tt, tt)

  final-sent : (before after : ℕ) (view : WorldView) (k : HeldChain) → AreSent made (final_by_time before after view k)
  final-sent before after view k =
      if-sent (runs_out before after (view_of view.channels k.channel).deadline) (effects.Final k.channel ∷ []) (tt, tt)

  run-out-sent : (before : ℕ) (p : Numbered) (o : Option ℕ) → AreSent made (run_out before p o)
  run-out-sent before p None = tt
  run-out-sent before p (Some after) =
      flat (final_by_time before after p.node.mind.view) (final-sent before after p.node.mind.view) (ways.chains p)

  entry-sent : (before : ℕ) (p : Numbered) (op : Op) (reply : Reply) → AreSent made (of_entry before p op reply)
  entry-sent before p op reply =
      both (run_out before p (time_set op reply)) (turns ++ pays) (run-out-sent before p (time_set op reply))
      (both turns pays (own-sent (ways.chains p) (fixed_of op) reply) (flat (paid_to me) (paid-sent me) (flow_of op reply)))
    where
      me : List ℕ
      me = name_of_person (ways.key p)

      turns : List Effect
      turns = turned_own (ways.chains p) (fixed_of op) reply

      pays : List Effect
      pays = flat_map (paid_to me) (flow_of op reply)

  gain-sent : (me channel : List ℕ) (before after : List AssetOutcome) (a : AssetOutcome) → AreSent made (gain me channel before after a)
  gain-sent me channel before after a = go (nat_lt (own me before a.asset) (own me after a.asset))
    where
      go : (b : Bool) → AreSent made (cond b (effects.Gained channel a.asset (own me after a.asset - own me before a.asset) ∷ []) [])
      go true = (tt, tt)
      go false = tt

  over-sent : (me channel : List ℕ) (after : List AssetOutcome) (k : HeldChain) → AreSent made (gain_over me channel after k)
  over-sent me channel after k =
      if-sent (bytes_eq k.channel channel && (k.chain.fixed.app == 1)) (flat_map (gain me channel (top_outcome k.chain.states) after) after)
      (flat (gain me channel (top_outcome k.chain.states) after) (gain-sent me channel (top_outcome k.chain.states) after) after)

  took-sent : (p : Numbered) (r : Result Message ByteFault) → AreSent made (took p r)
  took-sent p (Err fault) = tt
  took-sent p (Ok message) = (
    tt,
    flat (gain_over (name_of_person (ways.key p)) message.0 message.1.state.outcome)
        (over-sent (name_of_person (ways.key p)) message.0 message.1.state.outcome) (ways.chains p),
  )

  -- ---- what is said of a command

  command-sent : (r : Result Outs NodeFault) → AreSigned made (accepted r).sends → AreSignedCalls made (accepted r).calls → AreSent made (of_command r)
  command-sent (Ok outs) is all =
      both (sends outs.sends) (calls 0 outs.calls ++ spent outs.spent) (sent outs.sends is)
      (both (calls 0 outs.calls) (spent outs.spent) (called 0 outs.calls all) (spent-sent outs.spent))
  command-sent (Err (Refused refusal)) is all = (tt, tt)
  command-sent (Err NoMemory) is all = tt

-- what is signed among these is signed among more
more-signed : (some all : List Signature) → ((made : Signature) → In made some → In made all)
    → (letters : List (List ℕ × List ℕ)) → AreSigned some letters → AreSigned all letters
more-signed some all within [] is = tt
more-signed some all within (letter ∷ letters) is = (
  record { channel = is.0.channel; state = is.0.state; spells = is.0.spells; there = within _ is.0.there },
  more-signed some all within letters is.1,
)

more-sent : (p q : Numbered) → Stays p q → (some : List Effect) → AreSent (made_by p) some → AreSent (made_by q) some
more-sent p q stays [] is = tt
more-sent p q stays (effects.Send to bytes ∷ some) is = (
  record { channel = is.0.channel; state = is.0.state; spells = is.0.spells; there = stays _ is.0.there },
  more-sent p q stays some is.1,
)
more-sent p q stays (effects.Call place call ∷ some) is = (more-signed-call (made_by p) (made_by q) stays call is.0, more-sent p q stays some is.1)
more-sent p q stays (effects.Took channel turn ∷ some) is = (tt, more-sent p q stays some is.1)
more-sent p q stays (effects.Gained channel asset amount ∷ some) is = (tt, more-sent p q stays some is.1)
more-sent p q stays (effects.Refused refusal ∷ some) is = (tt, more-sent p q stays some is.1)
more-sent p q stays (effects.Spent used ∷ some) is = (tt, more-sent p q stays some is.1)
more-sent p q stays (effects.Challenged channel until ∷ some) is = (tt, more-sent p q stays some is.1)
more-sent p q stays (effects.Final channel ∷ some) is = (tt, more-sent p q stays some is.1)
more-sent p q stays (effects.Paid channel asset amount ∷ some) is = (tt, more-sent p q stays some is.1)
more-sent p q stays (effects.Deadline time ∷ some) is = (tt, more-sent p q stays some is.1)

-- ---- one line

looking-stays : (place : ℕ) (m : NodeMachine) → Stays m.node (looking place m).node
looking-stays place m = watched-stays (lookout_of m).seen 0 (look m) m.node

event-stays : (event : NodeEvent) (m : NodeMachine) → Stays m.node (after_event event m).node
event-stays (events.Entry e) m =
    then m.node (seeing (entering e m)).node (looking 0 (seeing (entering e m))).node
    (saw-stays (drop (ways.seen m.node) (oldest_first (entering e m).ledger)) m.node) (looking-stays 0 (seeing (entering e m)))
event-stays (events.Message bytes) m = handled-stays bytes m.node
event-stays (events.Command command) m = commanded-stays (number m) command m.node
event-stays events.Tick m =
    then m.node (ticking m).node (looking (look_place m) (ticking m)).node (ticked-stays m.node) (looking-stays (look_place m) (ticking m))
event-stays (events.Dropped call) m = same m.node

next-stays : (m : NodeMachine) (event : Result NodeEvent NotTaken) → Stays m.node (next m event).node
next-stays m (Err why) = same m.node
next-stays m (Ok event) = event-stays event m

new-signed : (made : List Signature) (m : NodeMachine) → AreSignedCalls made (new_calls m)
new-signed made m = look-signed made (λ (call : Call). not (is_in_flight m.waiting call)) (ways.chains m.node) (lookout_of m)

entry-sends : (made : List Signature) (e : LedgerEntry) (m : NodeMachine) → AreSent made (entry_effects e m)
entry-sends made e m =
    both made (of_entry (time_of m) now.node e.op (reply_to real m.ledger e.op)) (calls 0 (new_calls now) ++ of_time (after_entry e m).node)
    (entry-sent made (time_of m) now.node e.op (reply_to real m.ledger e.op))
    (both made (calls 0 (new_calls now)) (of_time (after_entry e m).node) (called made 0 (new_calls now) (new-signed made now))
    (timed made (after_entry e m).node))
  where
    now : NodeMachine
    now = seeing (entering e m)

tick-sends : (made : List Signature) (m : NodeMachine) → AreSigned made (ways.gives m.node).sends → AreSignedCalls made (ways.gives m.node).calls
    → AreSent made (tick_effects m)
tick-sends made m is all =
    both made (sends gives.sends) (calls 0 gives.calls ++ (looked ++ said)) (sent made gives.sends is)
    (both made (calls 0 gives.calls) (looked ++ said) (called made 0 gives.calls all)
    (both made looked said (called made (look_place m) (new_calls (ticking m)) (new-signed made (ticking m)))
    (both made (spent gives.spent) (of_time (after_tick m).node) (spent-sent made gives.spent) (timed made (after_tick m).node))))
  where
    gives : Outs
    gives = ways.gives m.node

    looked : List Effect
    looked = calls (look_place m) (new_calls (ticking m))

    said : List Effect
    said = spent gives.spent ++ of_time (after_tick m).node

-- ---- lines

-- the messages and challenges of answers are signed
abbrev pub AreAnswered : List Signature → List Answer → Type 0
AreAnswered made = AllByRecursion (IsSentIn made)

both-answered : (made : List Signature) (first second : List Answer) → AreAnswered made first → AreAnswered made second
    → AreAnswered made (first ++ second)
both-answered made [] second is rest = rest
both-answered made (a ∷ first) second is rest = (is.0, both-answered made first second is.1 rest)

pub more-answered : (p q : Numbered) → Stays p q → (some : List Answer) → AreAnswered (made_by p) some → AreAnswered (made_by q) some
more-answered p q stays [] is = tt
more-answered p q stays (a ∷ some) is = (more-sent p q stays a.effects is.0, more-answered p q stays some is.1)

pub lines-stay : (lines : List (List ℕ)) (m : NodeMachine) → Stays m.node (next_all line_ways m lines).node
lines-stay [] m = same m.node
lines-stay (line ∷ lines) m =
    then m.node (line_ways.next m line).node (next_all line_ways (line_ways.next m line) lines).node (next-stays m (taken m line))
    (lines-stay lines (line_ways.next m line))

module _ {Stood : List Entry → Numbered → Type 0} (kept : AreKept ways Stood) (placed : (h : List Entry) (p : Numbered) → Stood h p → IsPlaced h p)
    (owns : ChallengesAreOwn ways Stood (λ p. p.node.is_lost) told) where
  -- the calls of a tick
  tick-calls : (key : List ℕ) (m : NodeMachine) → IsMachine Stood key m → AreSignedCalls (made_by (ways.ticked m.node)) (ways.gives m.node).calls
  tick-calls key m is =
      ticked-calls m.ledger m.node (placed m.ledger m.node is.node.stands).stands (ways.key (ways.ticked m.node)) is.node.able
      (owns m.ledger (ways.ticked m.node) now.stands now.able)
    where
      now : IsNode Stood key m.ledger (ways.ticked m.node)
      now = ticks kept placed key m.ledger m.node is.node

  event-sends : (key : List ℕ) (event : NodeEvent) (m : NodeMachine) → IsMachine Stood key m → AreSent (made_by (after_event event m).node) (effects_of event m)
  event-sends key (events.Entry e) m is = entry-sends (made_by (after_event (events.Entry e) m).node) e m
  event-sends key (events.Message bytes) m is = took-sent (made_by (after_event (events.Message bytes) m).node) m.node (message_of bytes)
  event-sends key (events.Command command) m is =
      command-sent made (ways.answers command m.node) (nodes_send_what_they_signed.commanded (number m) command m.node is.node.able)
      (subst (AreSignedCalls made) (sym (commanded-calls m.ledger m.node (placed m.ledger m.node is.node.stands).stands command)) tt)
    where
      made : List Signature
      made = made_by (after_event (events.Command command) m).node
  event-sends key events.Tick m is =
      tick-sends (made_by (after_event events.Tick m).node) m
      (more-signed (made_by (ways.ticked m.node)) (made_by (after_event events.Tick m).node) (looking-stays (look_place m) (ticking m))
      (ways.gives m.node).sends (nodes_send_what_they_signed.ticked m.node is.node.able))
      (more-signed-calls (made_by (ways.ticked m.node)) (made_by (after_event events.Tick m).node) (looking-stays (look_place m) (ticking m))
      (ways.gives m.node).calls (tick-calls key m is))
  event-sends key (events.Dropped call) m is = tt

  next-sends : (key : List ℕ) (m : NodeMachine) (event : Result NodeEvent NotTaken) → IsMachine Stood key m
      → AreAnswered (made_by (next m event).node) (answer_if m event)
  next-sends key m (Err why) is = tt
  next-sends key m (Ok event) is = (event-sends key event m is, tt)

  line-stands : (key : List ℕ) (m : NodeMachine) (line : List ℕ) → IsMachine Stood key m → IsMachine Stood key (line_ways.next m line)
  line-stands key m line is = next-stands kept placed key m (taken m line) (taken-valid m line) is

  pub lines-stand : (key : List ℕ) (lines : List (List ℕ)) (m : NodeMachine) → IsMachine Stood key m → IsMachine Stood key (next_all line_ways m lines)
  lines-stand key [] m is = is
  lines-stand key (line ∷ lines) m is = lines-stand key lines (line_ways.next m line) (line-stands key m line is)

  pub lines-send : (key : List ℕ) (lines : List (List ℕ)) (m : NodeMachine) → IsMachine Stood key m
      → AreAnswered (made_by (next_all line_ways m lines).node) (answers_to m lines)
  lines-send key [] m is = tt
  lines-send key (line ∷ lines) m is =
      both-answered (made_by (next_all line_ways one lines).node) (answer_if m (taken m line)) (answers_to one lines)
      (more-answered one.node (next_all line_ways one lines).node (lines-stay lines one) (answer_if m (taken m line)) (next-sends key m (taken m line) is))
      (lines-send key lines one (line-stands key m line is))
    where
      one : NodeMachine
      one = line_ways.next m line
