-- What a node sends its journal has signed, and what its journal signed stays there.
use Rattle.std.proofs.Common.{◌≡◌, ℕ, Bool, true, false, cond, List, [], ◌∷◌, ◌++◌, map, reverse, refl, sym, ◌∙◌, ap, subst, inl}
use Rattle.std.specs.Prelude.{Option, Some, None, nat_lt}
use Rattle.channel_values.specs.Parts.{StateParts}
use Rattle.channel_values.specs.declared.chain.Signed.{Signed}
use Rattle.channel_values.specs.Messages.{message_of_state, message_of_challenge}
use Rattle.call_history.specs.Reading.{message_of}
use Rattle.call_history.specs.Spelling.{message}
use Rattle.call_history.specs.declared.call.Call.{Call}
use Rattle.call_history.specs.declared.entry.Entry.{Entry}
use Rattle.call_history.specs.declared.event.Deed.TheVariants as deeds
use Rattle.call_history.specs.declared.event.Event.{Event}
use Rattle.call_history.specs.declared.event.NodeRefusal.{NodeRefusal}
use Rattle.channel_safety.proofs.Lists.{In-append_right}
use Rattle.channel_safety.specs.Journals.{In}
use Rattle.channel_store.specs.Storing.{kept_of}
use Rattle.channel_store.specs.declared.kept.Kept.{Kept}
use Rattle.network.specs.Members.{accepted}
use Rattle.network.specs.declared.command.Command.{Command}
use Rattle.network.specs.declared.command.Command.TheVariants.{Open, OpenOn, OpenVirtual, Pay, Close, Release, Resend, Exit}
use Rattle.channel_node.proofs.Places.{told-event, told-command}
use Rattle.channel_node.specs.Exiting.{leaves}
use Rattle.channel_node.proofs.Resending.{resent-asked}
use Rattle.channel_node.specs.Giving.{in_order, others, last_signed, sends_again, sends_to, sent_if, sent, after_signing, after_challenging, tick_calls, after_tick, command_gives}
use Rattle.channel_node.specs.Leaving.{OwnChallenge, challenge_in}
use Rattle.channel_node.specs.Nodes.{NodeOf, told_of, handled, signed, signed_if, ticked, challenged, challenged_if, challenged_all, gave_one, gave, asked, paid_if, told_to, saw_one, saw_all, watched}
use Rattle.channel_node.specs.Places.{Told, told, is_commanded}
use Rattle.channel_node.specs.Playing.{Signing, signing_of}
use Rattle.channel_node.specs.Refusing.{message_refusal, command_refusal, signs_in}
use Rattle.stage_tables.specs.Stages.{stages}
use Rattle.support_rules.specs.Real.{real}
use Rattle.node_guarantees.specs.Commanded as commanded
use Rattle.node_guarantees.specs.Once.{Signature, signed_in, signed_by}
use Rattle.node_guarantees.specs.Sends.{IsSigned, AreSigned, SendWhatTheySigned, HasSigned, SignaturesStay}
use Rattle.node_guarantees.specs.Ways.{Numbered, key_of, unless_lost, noting_if, ways}
use Rattle.node_guarantees.proofs.Signed.{IsThere, last-made}
use Rattle.node_guarantees.proofs.Staying.{tick-stays, told-signer, saw-signer}

-- ---- what is signed stays

-- what a node's journal signed
abbrev made_by : NodeOf → List Signature
made_by n = signed_by real (told_of n)

module _ (made : Signature) where
  abbrev Has : NodeOf → Type 0
  Has n = In made (made_by n)

  event-more : (n : NodeOf) (x : Event) → is_commanded x.deed ≡ false → Has n → In made (signed_by real (told (reverse (n.journal ++ x ∷ [])) (reverse n.commands)))
  event-more n x plain i =
      subst (λ (events : List Told). In made (signed_by real events)) (sym (told-event n.journal x n.commands plain))
      (In-append_right made (signed_in real x.deed) (made_by n) i)

  command-more : (n : NodeOf) (x : Event) (command : Command) → is_commanded x.deed ≡ true → Has n
      → In made (signed_by real (told (reverse (n.journal ++ x ∷ [])) (reverse (n.commands ++ command ∷ []))))
  command-more n x command is i =
      subst (λ (events : List Told). In made (signed_by real events)) (sym (told-command n.journal x n.commands command is))
      (In-append_right made (signed_in real x.deed) (made_by n) i)

  handles : (bytes : List ℕ) (n : NodeOf) → Has n → Has (handled stages real bytes n)
  handles bytes n i = event-more n (record { seen = n.mind.view.count; deed = deeds.Handled bytes (message_refusal stages real n.mind (message_of bytes)) }) refl i

  sees : (entries : List Entry) (n : NodeOf) → Has n → Has (saw_all real entries n)
  sees [] n i = i
  sees (e ∷ entries) n i = sees entries (saw_one real n e) i

  gives-all : (calls : List Call) (n : NodeOf) → Has n → Has (gave calls n)
  gives-all [] n i = i
  gives-all (call ∷ calls) n i = gives-all calls (gave_one n call) (event-more n (record { seen = n.mind.view.count; deed = deeds.Called call }) refl i)

  module _ (s : Signing) where
    signs : (channel : List ℕ) (o : Option StateParts) (n : NodeOf) → Has n → Has (signed_if real s channel o n)
    signs channel None n i = i
    signs channel (Some state) n i = go (nat_lt n.used s.limit)
      where
        go : (b : Bool) → Has (cond b (signed real s channel state n) n)
        go true = event-more n (record { seen = n.mind.view.count; deed = deeds.Signed channel state (s.made n.used (message_of_state (real.digest channel state))) }) refl i
        go false = i

    signs-all : (channels : List (List ℕ)) (n : NodeOf) → Has n → Has (ticked stages real s channels n)
    signs-all [] n i = i
    signs-all (channel ∷ channels) n i = signs-all channels (signed_if real s channel (signs_in stages real None n.mind channel) n) (signs channel (signs_in stages real None n.mind channel) n i)

    challenges : (channel : List ℕ) (o : Option OwnChallenge) (n : NodeOf) → Has n → Has (challenged_if real s channel o n)
    challenges channel None n i = i
    challenges channel (Some c) n i = go (nat_lt n.used s.limit)
      where
        go : (b : Bool) → Has (cond b (challenged real s channel c n) n)
        go true =
            event-more n
            (record { seen = n.mind.view.count; deed = deeds.SignedChallenge channel c.state c.who (s.made n.used (message_of_challenge (real.digest channel c.state) c.who)) }) refl i
        go false = i

    challenges-all : (channels : List (List ℕ)) (n : NodeOf) → Has n → Has (challenged_all real s channels n)
    challenges-all [] n i = i
    challenges-all (channel ∷ channels) n i =
        challenges-all channels (challenged_if real s channel (challenge_in n.mind channel) n) (challenges channel (challenge_in n.mind channel) n i)

    -- after the states of a tick it only challenges and calls
    after : (n : NodeOf) → Has (after_signing stages real s n) → Has (after_tick stages real s n)
    after n i = gives-all (tick_calls stages real s n) (after_challenging stages real s n) (challenges-all (in_order n.mind.parts) (after_signing stages real s n) i)

    ticks : (n : NodeOf) → Has n → Has (after_tick stages real s n)
    ticks n i = after n (signs-all (in_order n.mind.parts) n i)

    pays : (refusal : Option NodeRefusal) (command : Command) (n : NodeOf) → Has n → Has (paid_if stages real s refusal command n)
    pays (Some refusal) command n i = i
    pays None (Open fixed outcome) n i = i
    pays None (OpenOn o) n i = i
    pays None (OpenVirtual v) n i = i
    pays None (Pay channel asset amount) n i = signs channel (signs_in stages real (Some (Pay channel asset amount)) n.mind channel) n i
    pays None (Close channel) n i = i
    pays None (Release how channel) n i = i
    pays None (Resend channel) n i = i
    pays None Exit n i = i

    tells : (step : ℕ) (command : Command) (n : NodeOf) → Has n → Has (told_to stages real s step command n)
    tells step command n i =
        let refusal : Option NodeRefusal = command_refusal stages real s.limit n.used n.mind command in
        pays refusal command (asked real s step command refusal n) (command-more n (record { seen = n.mind.view.count; deed = deeds.Commanded step refusal }) command refl i)

-- ---- what is sent is signed

-- what is signed among these is signed among more
more-signed : (some all : List Signature) → ((made : Signature) → In made some → In made all) → (letters : List (List ℕ × List ℕ)) → AreSigned some letters → AreSigned all letters
more-signed some all within [] is = tt
more-signed some all within (letter ∷ letters) is = (
  record { channel = is.0.channel; state = is.0.state; spells = is.0.spells; there = within _ is.0.there },
  more-signed some all within letters is.1,
)

both-signed : (made : List Signature) (first second : List (List ℕ × List ℕ)) → AreSigned made first → AreSigned made second → AreSigned made (first ++ second)
both-signed made [] second is rest = rest
both-signed made (letter ∷ first) second is rest = (is.0, both-signed made first second is.1 rest)

-- one message for each of these people
each-signed : (made : List Signature) (bytes : List ℕ) → IsSigned made bytes → (people : List (List ℕ)) → AreSigned made (map (λ person. (person, bytes)) people)
each-signed made bytes is [] = tt
each-signed made bytes is (person ∷ people) = (is, each-signed made bytes is people)

module _ (s : Signing) where
  abbrev signature : (channel : List ℕ) (state : StateParts) (n : NodeOf) → List ℕ
  signature channel state n = s.made n.used (message_of_state (real.digest channel state))

  -- the messages of a state that a node signs
  sends : (channel : List ℕ) (state : StateParts) (n : NodeOf) (kept : Option Kept)
      → AreSigned (made_by (signed_if real s channel (Some state) n)) (cond (nat_lt n.used s.limit) (sends_to channel state (signature channel state n) kept) [])
  sends channel state n kept = go (nat_lt n.used s.limit)
    where
      one : IsSigned (made_by (signed real s channel state n)) (message (channel, record { state = state; signature = signature channel state n }))
      one = record {
        channel = channel;
        state = record { state = state; signature = signature channel state n };
        spells = refl;
        there =
            subst (λ (events : List Told). In (record { message = message_of_state (real.digest channel state); bytes = signature channel state n }) (signed_by real events))
            (sym (told-event n.journal (record { seen = n.mind.view.count; deed = deeds.Signed channel state (signature channel state n) }) n.commands refl)) (inl refl);
      }

      to : (kept : Option Kept) → AreSigned (made_by (signed real s channel state n)) (sends_to channel state (signature channel state n) kept)
      to None = tt
      to (Some k) = each-signed (made_by (signed real s channel state n)) (message (channel, record { state = state; signature = signature channel state n })) one (others k)

      go : (b : Bool) → AreSigned (made_by (cond b (signed real s channel state n) n)) (cond b (sends_to channel state (signature channel state n) kept) [])
      go true = to kept
      go false = tt

  sends-if : (channel : List ℕ) (o : Option StateParts) (n : NodeOf) → AreSigned (made_by (signed_if real s channel o n)) (sent_if real s channel o n)
  sends-if channel None n = tt
  sends-if channel (Some state) n = sends channel state n (kept_of channel (signed real s channel state n).mind.kept)

  sends-all : (channels : List (List ℕ)) (n : NodeOf) → AreSigned (made_by (ticked stages real s channels n)) (sent stages real s channels n)
  sends-all [] n = tt
  sends-all (channel ∷ channels) n =
      both-signed (made_by (ticked stages real s channels one)) (sent_if real s channel (signs_in stages real None n.mind channel) n) (sent stages real s channels one)
      (more-signed (made_by one) (made_by (ticked stages real s channels one)) (λ made i. signs-all made s channels one i)
      (sent_if real s channel (signs_in stages real None n.mind channel) n) (sends-if channel (signs_in stages real None n.mind channel) n))
      (sends-all channels one)
    where
      one : NodeOf
      one = signed_if real s channel (signs_in stages real None n.mind channel) n

  tick-sends : (n : NodeOf) → AreSigned (made_by (after_tick stages real s n)) (sent stages real s (in_order n.mind.parts) n)
  tick-sends n =
      more-signed (made_by (after_signing stages real s n)) (made_by (after_tick stages real s n)) (λ made i. after made s n i)
      (sent stages real s (in_order n.mind.parts) n) (sends-all (in_order n.mind.parts) n)

  -- a payment's state, whichever step commanded it
  payment-sends : (step : ℕ) (channel : List ℕ) (asset amount : ℕ) (n : NodeOf) (o : Option StateParts)
      → AreSigned (made_by (signed_if real s channel o (asked real s step (Pay channel asset amount) None n))) (sent_if real s channel o (asked real s 0 (Pay channel asset amount) None n))
  payment-sends step channel asset amount n None = tt
  payment-sends step channel asset amount n (Some state) =
      sends channel state (asked real s step (Pay channel asset amount) None n)
      (kept_of channel (signed real s channel state (asked real s 0 (Pay channel asset amount) None n)).mind.kept)

  -- the messages of a state that its journal signed
  again : (channel : List ℕ) (n later : NodeOf) → ((made : Signature) → In made (made_by n) → In made (made_by later)) → (o : Option Signed)
      → IsThere (made_by n) channel o
      → AreSigned (made_by later) (sends_again n.mind channel o)
  again channel n later within None there = tt
  again channel n later within (Some x) there = to (kept_of channel n.mind.kept)
    where
      to : (kept : Option Kept) → AreSigned (made_by later) (sends_to channel x.state x.signature kept)
      to None = tt
      to (Some k) =
          each-signed (made_by later) (message (channel, record { state = x.state; signature = x.signature }))
          (record { channel = channel; state = record { state = x.state; signature = x.signature }; spells = refl; there = within _ there }) (others k)

  answer-sends : (step : ℕ) (command : Command) (n : NodeOf) (refusal : Option NodeRefusal)
      → AreSigned (made_by (paid_if stages real s refusal command (asked real s step command refusal n))) (accepted (command_gives stages real s 0 command n refusal)).sends
  answer-sends step command n (Some refusal) = tt
  answer-sends step (Open fixed outcome) n None = tt
  answer-sends step (OpenOn o) n None = tt
  answer-sends step (OpenVirtual v) n None = tt
  answer-sends step (Pay channel asset amount) n None =
      payment-sends step channel asset amount n (signs_in stages real (Some (Pay channel asset amount)) (asked real s step (Pay channel asset amount) None n).mind channel)
  answer-sends step (Close channel) n None = tt
  answer-sends step (Release how channel) n None = tt
  answer-sends step (Resend channel) n None =
      subst (AreSigned (made_by (asked real s step (Resend channel) None n))) (sym (resent-asked real s 0 channel n))
      (again channel n (asked real s step (Resend channel) None n) (λ made i. command-more made n (record { seen = n.mind.view.count; deed = deeds.Commanded step None }) (Resend channel) refl i)
      (last_signed channel n.journal) (last-made channel n))
  answer-sends step Exit n None = tt

-- ---- nodes

-- what is done by a node that memory didn't fail
awake : (change : NodeOf → NodeOf) (p : Numbered) → p.node.is_lost ≡ false → change p.node ≡ (unless_lost change p).node
awake change p able = sym (ap (λ (b : Bool). (cond b p (record p { node = change p.node })).node) able)

noted : (b : Bool) (p : Numbered) → p.node ≡ (noting_if b p).node
noted true p = refl
noted false p = refl

pub nodes_send_what_they_signed : SendWhatTheySigned ways (λ p. p.node.is_lost) commanded.told
unfolding signing_of
nodes_send_what_they_signed = record {
  ticked = λ p able.
      subst (λ (n : NodeOf). AreSigned (made_by n) (ways.gives p).sends) (awake (λ n. after_tick stages real (signing_of n.signer) n) p able)
      (tick-sends (signing_of p.node.signer) p.node);
  commanded = λ step command p able.
      subst (λ (n : NodeOf). AreSigned (made_by n) (accepted (ways.answers command p)).sends)
      (awake (λ n. told_to stages real (signing_of n.signer) step command n) p able
      ∙ noted (leaves command) (unless_lost (λ n. told_to stages real (signing_of n.signer) step command n) p))
      (answer-sends (signing_of p.node.signer) step command p.node
      (command_refusal stages real (signing_of p.node.signer).limit p.node.used p.node.mind command));
}

-- ---- and stays

module _ (key : List ℕ) (made : Signature) where
  -- where memory failed it nothing changes
  unless : (change : NodeOf → NodeOf) (p : Numbered) → (change p.node).signer ≡ p.node.signer → (Has made p.node → Has made (change p.node))
      → HasSigned ways commanded.told key made p → HasSigned ways commanded.told key made (unless_lost change p)
  unless change p signer keeps has = go p.node.is_lost
    where
      go : (b : Bool) → HasSigned ways commanded.told key made (cond b p (record p { node = change p.node }))
      go true = has
      go false = record { own = ap key_of signer ∙ has.own; there = keeps has.there }

  noting : (b : Bool) (p : Numbered) → HasSigned ways commanded.told key made p → HasSigned ways commanded.told key made (noting_if b p)
  noting true p has = record { own = has.own; there = has.there }
  noting false p has = has

pub signatures_stay : SignaturesStay ways commanded.told
unfolding signing_of
signatures_stay key made = record {
  saw = λ entries p has. unless key made (saw_all real entries) p (saw-signer stages real entries p.node) (sees made entries p.node) has;
  commanded = λ step command p has.
      noting key made (leaves command) (unless_lost (λ n. told_to stages real (signing_of n.signer) step command n) p)
      (unless key made (λ n. told_to stages real (signing_of n.signer) step command n) p (told-signer stages real (signing_of p.node.signer) step command p.node)
      (tells made (signing_of p.node.signer) step command p.node) has);
  handled = λ bytes p has. unless key made (handled stages real bytes) p refl (handles made bytes p.node) has;
  ticked = λ p has.
      unless key made (λ n. after_tick stages real (signing_of n.signer) n) p (tick-stays stages real (signing_of p.node.signer) p.node).signer
      (ticks made (signing_of p.node.signer) p.node) has;
  watched = λ seen place calls p has.
      unless key made (watched seen place calls) p refl
      (λ i. event-more made p.node (record { seen = seen; deed = deeds.Watched place calls }) refl i) has;
}
