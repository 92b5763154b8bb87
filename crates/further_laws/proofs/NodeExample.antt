-- A opens a channel with B, signs turn 0, takes B's turn 1 and signs turn 2; B challenges with turns 0 and 1, and A
-- looks.
use Rattle.std.proofs.Common.{◌≡◌, ℕ, zero, suc, ◌<◌, false, List, [], ◌∷◌, replicate, refl, sym, ◌∙◌, ap, subst, arith}
use Rattle.std.specs.Prelude.{Option, Some, None, Result, Ok, take}
use Rattle.std.specs.List.{flat_map}
use Rattle.std.specs.Str.{bytes_eq}
use Rattle.channel_values.specs.Parts.{FixedParts, StateParts, IsFixed, fixed_with, state_with}
use Rattle.channel_values.specs.Outcomes.{AreBytes}
use Rattle.channel_values.specs.Reading.{many_at, count_at, outcome_at, turn_at, flag_at, sized_at, state_at, signed_at, all_of}
use Rattle.channel_values.specs.Spelling.{outcome, state, signed}
use Rattle.channel_values.specs.declared.fault.ByteFault.{ByteFault}
use Rattle.channel_values.specs.declared.chain.Chain.{Chain}
use Rattle.channel_values.specs.declared.chain.Mark.{Mark}
use Rattle.channel_values.specs.declared.chain.Signed.{Signed}
use Rattle.channel_values.specs.Digests.{name_of_person}
use Rattle.channel_values.specs.Rows.{last_turn}
use Rattle.channel_values.specs.Rules.{Rules}
use Rattle.channel_values.specs.Support.{supports}
use Rattle.call_history.specs.History.{Legal, reply_to}
use Rattle.call_history.specs.Reading.{message_at, message_of}
use Rattle.call_history.proofs.Names.{bytes_eq_self}
use Rattle.call_history.specs.Spelling.{Message, message}
use Rattle.call_history.specs.Calls.{make_challenge}
use Rattle.call_history.specs.declared.call.Call.TheVariants.{Checkpoint}
use Rattle.call_history.specs.declared.call.Op.TheVariants as ops
use Rattle.call_history.specs.declared.entry.Entry.{Entry}
use Rattle.call_history.specs.declared.event.Deed.{Deed}
use Rattle.call_history.specs.declared.event.Deed.TheVariants as deeds
use Rattle.call_history.specs.declared.event.Event.{Event}
use Rattle.call_history.specs.declared.event.NodeRefusal.{NodeRefusal}
use Rattle.call_history.specs.declared.refusal.Reply.TheVariants.{Until}
use Rattle.call_history.specs.declared.view.WorldView.{WorldView}
use Rattle.history_view.specs.Views.{followed, unseen}
use Rattle.network.specs.Watching.{looks}
use Rattle.channel_store.specs.Keeping.{held_chain}
use Rattle.funding_plans.specs.declared.plan.Part.TheVariants.{Root}
use Rattle.network.specs.declared.command.Command.{Command}
use Rattle.network.specs.declared.command.Command.TheVariants.{Open}
use Rattle.channel_node.specs.Minds.{Mind, fresh, did, noted_message}
use Rattle.channel_node.specs.Nodes.{NodeOf, wrote, asked, paid_if, told_to, ticked, handled, saw_one}
use Rattle.channel_node.specs.Standing.{Stands, Looks}
use Rattle.channel_node.specs.Places.{AreFew}
use Rattle.channel_node.specs.Playing.{Signing, SignerOf, SignsWell}
use Rattle.channel_node.specs.Refusing.{command_refusal, message_refusal}
use Rattle.stage_tables.specs.Fitting.{fits}
use Rattle.stage_tables.specs.Stages.{stages}
use Rattle.channel_node.specs.NodeLaws.{CallsStand}
use Rattle.channel_node.proofs.Calling.{calls_keep_standing}
use Rattle.channel_node.proofs.Keepers.{same-tail}
use Rattle.further_laws.specs.NodeWitness.{StandsWithJournal}

-- ---- the rules: a signature is the first byte of the key, a name repeats the nonce, and every step follows

abbrev pub rules : Rules
rules =
    record {
      verifies = λ key message signature. bytes_eq (take 1 key) signature;
      named = λ f. replicate 32 f.nonce;
      digest = λ channel s. s.turn ∷ channel;
      outcome_digest = λ o. [];
      step = λ f s t. None;
    }

abbrev pub key_a : List ℕ
key_a = replicate 56 1

abbrev key_b : List ℕ
key_b = replicate 56 2

abbrev by_a : List ℕ
by_a = 1 ∷ []

abbrev by_b : List ℕ
by_b = 2 ∷ []

abbrev pub signing : Signing
signing = record { key = key_a; limit = 2; made = λ index message. by_a }

pub signs : SignsWell rules signing
signs index message within = refl

-- ---- the channel, its states, and the history

abbrev pub pair : FixedParts
pair = fixed_with (key_a ∷ key_b ∷ []) 7 0 10

abbrev pub name : List ℕ
name = replicate 32 7

abbrev pub at_turn : ℕ → StateParts
at_turn turn = state_with turn false [] []

abbrev mark : ℕ → List ℕ → Mark
mark place signature = record { place = place; signature = signature }

abbrev chain : List StateParts → List Mark → Chain
chain states marks = record { fixed = pair; states = states; marks = marks }

abbrev challenged : Chain
challenged = chain (at_turn 0 ∷ at_turn 1 ∷ []) (mark 0 by_a ∷ mark 1 by_b ∷ [])

abbrev pub challenge : Entry
challenge = record { number = 1; by = 2; op = ops.Call (make_challenge challenged 1 by_b); reply = Until 10 }

abbrev pub history : List Entry
history = challenge ∷ []

pub legal : Legal rules history
unfolding reply_to supports last_turn
legal = (tt, refl, refl)

-- ---- the node after each call

abbrev command : Command
command = Open pair []

abbrev by_b_1 : Signed
by_b_1 = record { state = at_turn 1; signature = by_b }

abbrev bytes : List ℕ
bytes = message (name, by_b_1)

abbrev pub held : Chain
held = chain (at_turn 1 ∷ at_turn 2 ∷ []) (mark 1 by_a ∷ mark 0 by_b ∷ [])

abbrev event : ℕ → Deed → Event
event seen deed = record { seen = seen; deed = deed }

abbrev opening : Event
opening = event 0 (deeds.Commanded 0 None)

abbrev first : Event
first = event 0 (deeds.Signed name (at_turn 0) by_a)

abbrev taking : Event
taking = event 0 (deeds.Handled bytes None)

abbrev second : Event
second = event 0 (deeds.Signed name (at_turn 2) by_a)

abbrev looking : Event
looking = event 1 (deeds.Watched 0 (Checkpoint held ∷ []))

abbrev signer : SignerOf
signer = record { seed = []; id = []; h = 1 }

abbrev node_0 : NodeOf
node_0 = record { mind = fresh key_a; signer = signer; used = 0; journal = []; commands = []; has_exited = false; is_lost = false }

abbrev knowing : WorldView → Chain → Option StateParts → Mind
knowing view c last =
    record {
      key = key_a;
      parts = Root name ∷ [];
      goals = record { part = 0; opening = []; amounts = (0, 0); closing = false; over = false } ∷ [];
      view = view;
      kept = record { channel = name; me = 0; chain = c; last = last } ∷ [];
      left = false;
    }

abbrev node : Mind → ℕ → List Event → NodeOf
node m used journal = record { mind = m; signer = signer; used = used; journal = journal; commands = command ∷ []; has_exited = false; is_lost = false }

abbrev node_1 : NodeOf
node_1 = node (knowing unseen (chain [] []) None) 0 (opening ∷ [])

abbrev node_2 : NodeOf
node_2 = node (knowing unseen (chain (at_turn 0 ∷ []) (mark 0 by_a ∷ [])) (Some (at_turn 0))) 1 (opening ∷ first ∷ [])

abbrev node_3 : NodeOf
node_3 = node (knowing unseen challenged (Some (at_turn 0))) 1 (opening ∷ first ∷ taking ∷ [])

abbrev node_4 : NodeOf
node_4 = node (knowing unseen held (Some (at_turn 2))) 2 (opening ∷ first ∷ taking ∷ second ∷ [])

abbrev pub node_5 : NodeOf
node_5 = node (knowing (followed rules.named challenge unseen) held (Some (at_turn 2))) 2 (opening ∷ first ∷ taking ∷ second ∷ [])

abbrev pub node_6 : NodeOf
node_6 = node (knowing (followed rules.named challenge unseen) held (Some (at_turn 2))) 2 (opening ∷ first ∷ taking ∷ second ∷ looking ∷ [])

-- ---- what the calls make of it

unrefused : command_refusal stages rules 2 0 (fresh key_a) command ≡ None
unfolding fits
unrefused = rw (bytes_eq_self (name_of_person key_a)) refl

opens : told_to stages rules signing 0 command node_0 ≡ node_1
opens = ap (λ (o : Option NodeRefusal). paid_if stages rules signing o command (asked rules signing 0 command o node_0)) unrefused

signs-first : ticked stages rules signing (name ∷ []) node_1 ≡ node_2
unfolding outcome count_at outcome_at many_at all_of
signs-first = refl

reads : message_of bytes ≡ Ok (name, by_b_1)
unfolding message signed state outcome message_at signed_at state_at turn_at flag_at outcome_at count_at many_at sized_at all_of
reads = refl

unrefused-message : message_refusal stages rules node_2.mind (Ok (name, by_b_1)) ≡ None
unfolding outcome
unrefused-message = refl

takes : handled stages rules bytes node_2 ≡ node_3
takes =
    ap (λ (o : Option NodeRefusal). wrote (deeds.Handled bytes o) (did rules (deeds.Handled bytes o) None node_2.mind) node_2)
    (ap (message_refusal stages rules node_2.mind) reads ∙ unrefused-message)
    ∙ ap (λ (m : Result Message ByteFault). wrote (deeds.Handled bytes None) (noted_message rules m node_2.mind) node_2) reads

signs-second : ticked stages rules signing (name ∷ []) node_3 ≡ node_4
unfolding outcome count_at outcome_at many_at all_of
signs-second = refl

sees : saw_one rules node_4 challenge ≡ node_5
unfolding supports last_turn
sees = refl

-- ---- it stands

fresh-stands : Stands stages rules signing history node_0
fresh-stands = record {
  plays = tt;
  knows = λ kept. record {
    later = history;
    past = [];
    split = refl;
    few = tt;
    mind = refl;
    used = refl;
    before = λ y i w. absurd i;
    waits = refl;
  };
}

calls : (n : NodeOf) → n.is_lost ≡ false → Stands stages rules signing history n → CallsStand stages rules signing history n
calls n kept st = calls_keep_standing stages rules signing history n legal kept st

looked : Looks rules history 1 (Checkpoint held ∷ []) node_5
unfolding supports last_turn
looked = record {
  within = omega arith;
  after = omega arith;
  are = λ later past is len. subst (λ (z : List Entry). AreFew z × ((Checkpoint held ∷ []) ≡ looks rules z (flat_map held_chain node_5.mind.kept))) (sym (same-tail later [] past history (sym is) len)) ((omega arith, tt), refl);
}

pub stands : Stands stages rules signing history node_6
stands =
    let st1 = subst (Stands stages rules signing history) opens ((calls node_0 refl fresh-stands).tells 0 command) in
    let st2 = subst (Stands stages rules signing history) signs-first ((calls node_1 refl st1).ticks (name ∷ [])) in
    let st3 = subst (Stands stages rules signing history) takes ((calls node_2 refl st2).handles bytes) in
    let st4 = subst (Stands stages rules signing history) signs-second ((calls node_3 refl st3).ticks (name ∷ [])) in
    let st5 = subst (Stands stages rules signing history) sees ((calls node_4 refl st4).sees challenge ([], [], refl, refl, omega arith)) in
    (calls node_5 refl st5).watches 1 0 (Checkpoint held ∷ []) looked

are-bytes : (n b : ℕ) → b < 256 → AreBytes (replicate n b)
are-bytes zero b h i = omega arith
are-bytes (suc n) b h zero = h
are-bytes (suc n) b h (suc i) = are-bytes n b h i

pub valid : IsFixed pair
valid = record {
  at_least_two = omega arith;
  at_most_four = omega arith;
  keys = record { each = ((refl, are-bytes 56 1 (omega arith)), ((refl, are-bytes 56 2 (omega arith)), tt)); apart = (refl, (refl, tt)) };
  nonce = omega arith;
  app = omega arith;
  payment = λ e. absurd cc;
  started = omega arith;
  duration = omega arith;
}

abbrev pub stands_with_journal : StandsWithJournal
stands_with_journal = record {
  rules = rules;
  signing = signing;
  history = history;
  node = node_6;
  signs_well = signs;
  legal = legal;
  stands = stands;
  remembers = refl;
  fixed = pair;
  valid = valid;
  outcome = [];
  first = record { state = at_turn 0; signature = by_a };
  bytes = bytes;
  second = record { state = at_turn 2; signature = by_a };
  chain = held;
  journal = refl;
}
