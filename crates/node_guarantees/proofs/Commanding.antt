-- A node's events stand with the commands of their steps.
use Rattle.std.proofs.Common.{◌≡◌, ℕ, Bool, true, false, cond, List, [], ◌∷◌, ◌++◌, map, reverse, refl, sym, ◌∙◌, ap}
use Rattle.std.specs.Prelude.{Option, Some, None, nat_lt}
use Rattle.std.proofs.lemmas.List.{reverse-append}
use Rattle.channel_values.specs.Parts.{StateParts}
use Rattle.channel_values.specs.Messages.{message_of_state, message_of_challenge}
use Rattle.call_history.specs.Reading.{message_of}
use Rattle.call_history.specs.declared.call.Call.{Call}
use Rattle.call_history.specs.declared.entry.Entry.{Entry}
use Rattle.call_history.specs.declared.event.Deed.TheVariants as deeds
use Rattle.call_history.specs.declared.event.Event.{Event}
use Rattle.call_history.specs.declared.event.NodeRefusal.{NodeRefusal}
use Rattle.channel_values.specs.Rules.{Rules}
use Rattle.network.specs.declared.command.Command.{Command}
use Rattle.network.specs.declared.command.Command.TheVariants.{Open, OpenOn, OpenVirtual, Pay, Close, Release, Resend, Exit}
use Rattle.channel_node.proofs.Places.{told-event, told-command}
use Rattle.channel_node.specs.Giving.{in_order, after_signing, after_challenging, tick_calls, after_tick}
use Rattle.channel_node.specs.Leaving.{OwnChallenge, challenge_in}
use Rattle.channel_node.specs.Nodes.{NodeOf, told_of, handled, signed, signed_if, ticked, challenged, challenged_if, challenged_all, gave_one, gave, asked, paid_if, told_to, saw_one, saw_all, watched}
use Rattle.channel_node.specs.Places.{Told, tell, told, told_by, command_for, is_commanded}
use Rattle.channel_node.specs.Playing.{Signing, signing_of}
use Rattle.channel_node.specs.Refusing.{message_refusal, command_refusal, signs_in}
use Rattle.channel_node.specs.Tables.{Tables}
use Rattle.stage_tables.specs.Stages.{stages}
use Rattle.support_rules.specs.Real.{real}
use Rattle.node_guarantees.specs.Commanded.{NodesFollowCommands}
use Rattle.channel_node.specs.Exiting.{leaves}
use Rattle.node_guarantees.specs.Ways.{Numbered, unless_lost, noting_if}

module _ (commands : ℕ → Option Command) where
  abbrev Follows : NodeOf → Type 0
  Follows n = told_of n ≡ told_by commands n.journal

  -- one event more, which is of no command
  event-more : (n : NodeOf) (x : Event) → is_commanded x.deed ≡ false → command_for commands x.deed ≡ None → Follows n
      → told (reverse (n.journal ++ x ∷ [])) (reverse n.commands) ≡ told_by commands (n.journal ++ x ∷ [])
  event-more n x plain none follows =
      told-event n.journal x n.commands plain
      ∙ (ap (λ (o : Option Command). tell x o ∷ told_of n) (sym none)
      ∙ (ap (λ (front : List Told). tell x (command_for commands x.deed) ∷ front) follows
      ∙ sym (ap (map (λ (y : Event). tell y (command_for commands y.deed))) (reverse-append n.journal (x ∷ [])))))

  -- and one of the command of a step
  command-more : (n : NodeOf) (seen step : ℕ) (refusal : Option NodeRefusal) (command : Command) → commands step ≡ Some command → Follows n
      → told (reverse (n.journal ++ record { seen = seen; deed = deeds.Commanded step refusal } ∷ [])) (reverse (n.commands ++ command ∷ []))
      ≡ told_by commands (n.journal ++ record { seen = seen; deed = deeds.Commanded step refusal } ∷ [])
  command-more n seen step refusal command is follows =
      told-command n.journal x n.commands command refl
      ∙ (ap (λ (o : Option Command). tell x o ∷ told_of n) (sym is)
      ∙ (ap (λ (front : List Told). tell x (commands step) ∷ front) follows
      ∙ sym (ap (map (λ (y : Event). tell y (command_for commands y.deed))) (reverse-append n.journal (x ∷ [])))))
    where
      x : Event
      x = record { seen = seen; deed = deeds.Commanded step refusal }

  module _ (t : Tables) (r : Rules) (s : Signing) where
    handles : (bytes : List ℕ) (n : NodeOf) → Follows n → Follows (handled t r bytes n)
    handles bytes n f = event-more n (record { seen = n.mind.view.count; deed = deeds.Handled bytes (message_refusal t r n.mind (message_of bytes)) }) refl refl f

    signs : (channel : List ℕ) (o : Option StateParts) (n : NodeOf) → Follows n → Follows (signed_if r s channel o n)
    signs channel None n f = f
    signs channel (Some state) n f = go (nat_lt n.used s.limit)
      where
        go : (b : Bool) → Follows (cond b (signed r s channel state n) n)
        go true = event-more n (record { seen = n.mind.view.count; deed = deeds.Signed channel state (s.made n.used (message_of_state (r.digest channel state))) }) refl refl f
        go false = f

    signs-all : (channels : List (List ℕ)) (n : NodeOf) → Follows n → Follows (ticked t r s channels n)
    signs-all [] n f = f
    signs-all (channel ∷ channels) n f = signs-all channels (signed_if r s channel (signs_in t r None n.mind channel) n) (signs channel (signs_in t r None n.mind channel) n f)

    challenges : (channel : List ℕ) (o : Option OwnChallenge) (n : NodeOf) → Follows n → Follows (challenged_if r s channel o n)
    challenges channel None n f = f
    challenges channel (Some c) n f = go (nat_lt n.used s.limit)
      where
        go : (b : Bool) → Follows (cond b (challenged r s channel c n) n)
        go true = event-more n (record { seen = n.mind.view.count; deed = deeds.SignedChallenge channel c.state c.who (s.made n.used (message_of_challenge (r.digest channel c.state) c.who)) }) refl refl f
        go false = f

    challenges-all : (channels : List (List ℕ)) (n : NodeOf) → Follows n → Follows (challenged_all r s channels n)
    challenges-all [] n f = f
    challenges-all (channel ∷ channels) n f = challenges-all channels (challenged_if r s channel (challenge_in n.mind channel) n) (challenges channel (challenge_in n.mind channel) n f)

    gives-all : (calls : List Call) (n : NodeOf) → Follows n → Follows (gave calls n)
    gives-all [] n f = f
    gives-all (call ∷ calls) n f = gives-all calls (gave_one n call) (event-more n (record { seen = n.mind.view.count; deed = deeds.Called call }) refl refl f)

    ticks : (n : NodeOf) → Follows n → Follows (after_tick t r s n)
    ticks n f = gives-all (tick_calls t r s n) (after_challenging t r s n) (challenges-all (in_order n.mind.parts) (after_signing t r s n) (signs-all (in_order n.mind.parts) n f))

    pays : (refusal : Option NodeRefusal) (command : Command) (n : NodeOf) → Follows n → Follows (paid_if t r s refusal command n)
    pays (Some refusal) command n f = f
    pays None (Open fixed outcome) n f = f
    pays None (OpenOn o) n f = f
    pays None (OpenVirtual v) n f = f
    pays None (Pay channel asset amount) n f = signs channel (signs_in t r (Some (Pay channel asset amount)) n.mind channel) n f
    pays None (Close channel) n f = f
    pays None (Release how channel) n f = f
    pays None (Resend channel) n f = f
    pays None Exit n f = f

    tells : (step : ℕ) (command : Command) (n : NodeOf) → commands step ≡ Some command → Follows n → Follows (told_to t r s step command n)
    tells step command n is f =
        let refusal : Option NodeRefusal = command_refusal t r s.limit n.used n.mind command in
        pays refusal command (asked r s step command refusal n) (command-more n n.mind.view.count step refusal command is f)

  sees : (entries : List Entry) (n : NodeOf) → Follows n → Follows (saw_all real entries n)
  sees [] n f = f
  sees (e ∷ entries) n f = sees entries (saw_one real n e) f

  -- where memory failed it nothing changes
  unless : (change : NodeOf → NodeOf) (p : Numbered) → Follows p.node → Follows (change p.node) → Follows (unless_lost change p).node
  unless change p old new = go p.node.is_lost
    where
      go : (b : Bool) → Follows (cond b p (record p { node = change p.node })).node
      go true = old
      go false = new

  noting : (b : Bool) (p : Numbered) → Follows p.node → Follows (noting_if b p).node
  noting true p f = f
  noting false p f = f

pub nodes_follow_commands : NodesFollowCommands
unfolding signing_of
nodes_follow_commands commands = record {
  fresh = λ number signer. refl;
  saw = λ entries p f. unless commands (saw_all real entries) p f (sees commands entries p.node f);
  commanded = λ step command p is f.
      noting commands (leaves command) (unless_lost (λ n. told_to stages real (signing_of n.signer) step command n) p)
      (unless commands (λ n. told_to stages real (signing_of n.signer) step command n) p f (tells commands stages real (signing_of p.node.signer) step command p.node is f));
  handled = λ bytes p f. unless commands (handled stages real bytes) p f (handles commands stages real (signing_of p.node.signer) bytes p.node f);
  ticked = λ p f. unless commands (λ n. after_tick stages real (signing_of n.signer) n) p f (ticks commands stages real (signing_of p.node.signer) p.node f);
  watched = λ seen place calls p f.
      unless commands (watched seen place calls) p f
      (event-more commands p.node (record { seen = seen; deed = deeds.Watched place calls }) refl refl f);
}
