-- What no call of a node changes.
use Rattle.std.proofs.Common.{◌≡◌, ℕ, Bool, true, false, cond, ◌&&◌, List, [], ◌∷◌, ◌++◌, reverse, refl, ◌∙◌, ap}
use Rattle.std.specs.Prelude.{Option, Some, None, Result, Ok, Err, nat_lt}
use Rattle.std.specs.Option.{option_or}
use Rattle.channel_values.specs.Parts.{StateParts}
use Rattle.channel_values.specs.Messages.{message_of_state, message_of_challenge}
use Rattle.channel_values.specs.declared.fault.ByteFault.{ByteFault}
use Rattle.call_history.specs.Reading.{message_of}
use Rattle.call_history.specs.Spelling.{Message}
use Rattle.call_history.specs.declared.call.Call.{Call}
use Rattle.call_history.specs.declared.entry.Entry.{Entry}
use Rattle.call_history.specs.declared.event.Deed.TheVariants as deeds
use Rattle.call_history.specs.declared.event.Event.{Event}
use Rattle.call_history.specs.declared.event.NodeRefusal.{NodeRefusal}
use Rattle.channel_values.specs.Rules.{Rules}
use Rattle.channel_safety.proofs.Tests.{cond-false}
use Rattle.channel_safety.specs.Journals.{is_followed}
use Rattle.network.specs.declared.command.Command.{Command}
use Rattle.network.specs.declared.command.Command.TheVariants.{Open, OpenOn, OpenVirtual, Pay, Close, Release, Resend, Exit}
use Rattle.channel_node.specs.Giving.{in_order, after_signing, after_challenging, tick_calls, after_tick}
use Rattle.channel_node.specs.Leaving.{OwnChallenge, challenge_in}
use Rattle.channel_node.specs.Minds.{Mind, noted_message, commanded, commanded_if, did}
use Rattle.channel_node.specs.Nodes.{NodeOf, told_of, handled, signed, signed_if, ticked, challenged, challenged_if, challenged_all, gave_one, gave, exited, asked, paid_if, told_to, saw_one, saw_all}
use Rattle.channel_node.specs.Places.{Told, tell, told, is_commanded}
use Rattle.channel_node.specs.Playing.{Signing}
use Rattle.channel_node.specs.Refusing.{message_refusal, command_refusal, signs_in}
use Rattle.channel_node.specs.Tables.{Tables}
use Rattle.channel_node.proofs.Places.{told-event, told-command}
use Rattle.channel_node.specs.Exiting.{leaves, is_exit, until_exit}

-- its signer, its view of the history, whether it is lost, and its events up to the first command to exit
pub record Stays (old new : NodeOf) : Type 0 where
  pub signer : new.signer ≡ old.signer
  pub view : new.mind.view ≡ old.mind.view
  pub lost : new.is_lost ≡ old.is_lost
  pub exit : until_exit (told_of new) ≡ until_exit (told_of old)

and-stays : (a b c : NodeOf) → Stays a b → Stays b c → Stays a c
and-stays a b c first second =
    record { signer = second.signer ∙ first.signer; view = second.view ∙ first.view; lost = second.lost ∙ first.lost; exit = second.exit ∙ first.exit }

same-stays : (n : NodeOf) → Stays n n
same-stays n = record { signer = refl; view = refl; lost = refl; exit = refl }

-- ---- what is written

or-none : {A : Type 0} (o : Option A) → option_or o None ≡ o
or-none None = refl
or-none (Some x) = refl

and-false : (a b : Bool) → b ≡ false → (a && b) ≡ false
and-false true b e = e
and-false false b e = refl

-- an event that is no command to exit
until-after : (x : Told) (front : List Told) → is_exit x ≡ false → until_exit (x ∷ front) ≡ until_exit front
until-after x front e =
    ap (λ (o : Option (List Told)). option_or (until_exit front) o) (cond-false (is_exit x) (Some (x ∷ front)) None e) ∙ or-none (until_exit front)

pub wrote-event : (n : NodeOf) (x : Event) → is_commanded x.deed ≡ false → is_followed x.deed ≡ false
    → until_exit (told (reverse (n.journal ++ x ∷ [])) (reverse n.commands)) ≡ until_exit (told_of n)
wrote-event n x plain quiet =
    ap until_exit (told-event n.journal x n.commands plain) ∙ until-after (tell x None) (told_of n) (ap (λ (b : Bool). b && false) quiet)

wrote-command : (n : NodeOf) (x : Event) (command : Command) → is_commanded x.deed ≡ true → leaves command ≡ false
    → until_exit (told (reverse (n.journal ++ x ∷ [])) (reverse (n.commands ++ command ∷ []))) ≡ until_exit (told_of n)
wrote-command n x command is stays =
    ap until_exit (told-command n.journal x n.commands command is)
    ∙ until-after (tell x (Some command)) (told_of n) (and-false (is_followed x.deed) (leaves command) stays)

-- ---- what is known

commanded-view : (r : Rules) (command : Command) (m : Mind) → (commanded r command m).view ≡ m.view
commanded-view r (Open f outcome) m = refl
commanded-view r (OpenOn o) m = refl
commanded-view r (OpenVirtual v) m = refl
commanded-view r (Pay channel asset amount) m = refl
commanded-view r (Close channel) m = refl
commanded-view r (Release how channel) m = refl
commanded-view r (Resend channel) m = refl
commanded-view r Exit m = refl

commanded-if-view : (r : Rules) (command : Command) (refusal : Option NodeRefusal) (m : Mind) → (commanded_if r (Some command) refusal m).view ≡ m.view
commanded-if-view r command None m = commanded-view r command m
commanded-if-view r command (Some refusal) m = refl

message-view : (r : Rules) (read : Result Message ByteFault) (m : Mind) → (noted_message r read m).view ≡ m.view
message-view r (Ok message) m = refl
message-view r (Err fault) m = refl

handled-view : (r : Rules) (bytes : List ℕ) (refusal : Option NodeRefusal) (m : Mind) → (did r (deeds.Handled bytes refusal) None m).view ≡ m.view
handled-view r bytes None m = message-view r (message_of bytes) m
handled-view r bytes (Some refusal) m = refl

-- ---- calls

module _ (t : Tables) (r : Rules) where
  pub handled-stays : (bytes : List ℕ) (n : NodeOf) → Stays n (handled t r bytes n)
  handled-stays bytes n =
      record {
        signer = refl;
        view = handled-view r bytes (message_refusal t r n.mind (message_of bytes)) n.mind;
        lost = refl;
        exit = wrote-event n (record { seen = n.mind.view.count; deed = deeds.Handled bytes (message_refusal t r n.mind (message_of bytes)) }) refl refl;
      }

  signed-stays : (s : Signing) (channel : List ℕ) (o : Option StateParts) (n : NodeOf) → Stays n (signed_if r s channel o n)
  signed-stays s channel None n = same-stays n
  signed-stays s channel (Some state) n = go (nat_lt n.used s.limit)
    where
      go : (b : Bool) → Stays n (cond b (signed r s channel state n) n)
      go true =
          record {
            signer = refl;
            view = refl;
            lost = refl;
            exit = wrote-event n (record { seen = n.mind.view.count; deed = deeds.Signed channel state (s.made n.used (message_of_state (r.digest channel state))) }) refl refl;
          }
      go false = same-stays n

  ticked-stays : (s : Signing) (channels : List (List ℕ)) (n : NodeOf) → Stays n (ticked t r s channels n)
  ticked-stays s [] n = same-stays n
  ticked-stays s (channel ∷ channels) n =
      let one : NodeOf = signed_if r s channel (signs_in t r None n.mind channel) n in
      and-stays n one (ticked t r s channels one) (signed-stays s channel (signs_in t r None n.mind channel) n) (ticked-stays s channels one)

  challenged-stays : (s : Signing) (channel : List ℕ) (o : Option OwnChallenge) (n : NodeOf) → Stays n (challenged_if r s channel o n)
  challenged-stays s channel None n = same-stays n
  challenged-stays s channel (Some c) n = go (nat_lt n.used s.limit)
    where
      go : (b : Bool) → Stays n (cond b (challenged r s channel c n) n)
      go true =
          record {
            signer = refl;
            view = refl;
            lost = refl;
            exit = wrote-event n (record { seen = n.mind.view.count; deed = deeds.SignedChallenge channel c.state c.who (s.made n.used (message_of_challenge (r.digest channel c.state) c.who)) }) refl refl;
          }
      go false = same-stays n

  all-challenged-stays : (s : Signing) (channels : List (List ℕ)) (n : NodeOf) → Stays n (challenged_all r s channels n)
  all-challenged-stays s [] n = same-stays n
  all-challenged-stays s (channel ∷ channels) n =
      let one : NodeOf = challenged_if r s channel (challenge_in n.mind channel) n in
      and-stays n one (challenged_all r s channels one) (challenged-stays s channel (challenge_in n.mind channel) n) (all-challenged-stays s channels one)

  gave-stays : (calls : List Call) (n : NodeOf) → Stays n (gave calls n)
  gave-stays [] n = same-stays n
  gave-stays (call ∷ calls) n =
      and-stays n (gave_one n call) (gave calls (gave_one n call))
      (record { signer = refl; view = refl; lost = refl; exit = wrote-event n (record { seen = n.mind.view.count; deed = deeds.Called call }) refl refl })
      (gave-stays calls (gave_one n call))

  exited-stays : (n : NodeOf) → Stays n (exited n)
  exited-stays n = record { signer = refl; view = refl; lost = refl; exit = (same-stays n).exit }

  pub tick-stays : (s : Signing) (n : NodeOf) → Stays n (after_tick t r s n)
  tick-stays s n =
      let signed : NodeOf = after_signing t r s n in
      let done : NodeOf = after_challenging t r s n in
      let given : NodeOf = gave (tick_calls t r s n) done in
      and-stays n given (after_tick t r s n)
      (and-stays n done given
      (and-stays n signed done (ticked-stays s (in_order n.mind.parts) n) (all-challenged-stays s (in_order n.mind.parts) signed)) (gave-stays (tick_calls t r s n) done))
      (exited-stays given)

  asked-stays : (s : Signing) (step : ℕ) (command : Command) (refusal : Option NodeRefusal) (n : NodeOf) → leaves command ≡ false → Stays n (asked r s step command refusal n)
  asked-stays s step command refusal n stays =
      record {
        signer = refl;
        view = commanded-if-view r command refusal n.mind;
        lost = refl;
        exit = wrote-command n (record { seen = n.mind.view.count; deed = deeds.Commanded step refusal }) command refl stays;
      }

  paid-stays : (s : Signing) (refusal : Option NodeRefusal) (command : Command) (n : NodeOf) → Stays n (paid_if t r s refusal command n)
  paid-stays s (Some refusal) command n = same-stays n
  paid-stays s None (Open f outcome) n = same-stays n
  paid-stays s None (OpenOn o) n = same-stays n
  paid-stays s None (OpenVirtual v) n = same-stays n
  paid-stays s None (Pay channel asset amount) n = signed-stays s channel (signs_in t r (Some (Pay channel asset amount)) n.mind channel) n
  paid-stays s None (Close channel) n = same-stays n
  paid-stays s None (Release how channel) n = same-stays n
  paid-stays s None (Resend channel) n = same-stays n
  paid-stays s None Exit n = same-stays n

  pub told-stays : (s : Signing) (step : ℕ) (command : Command) (n : NodeOf) → leaves command ≡ false → Stays n (told_to t r s step command n)
  told-stays s step command n stays =
      let refusal : Option NodeRefusal = command_refusal t r s.limit n.used n.mind command in
      let one : NodeOf = asked r s step command refusal n in
      and-stays n one (paid_if t r s refusal command one) (asked-stays s step command refusal n stays) (paid-stays s refusal command one)

  -- its signer stays also where it is commanded to exit
  pub told-signer : (s : Signing) (step : ℕ) (command : Command) (n : NodeOf) → (told_to t r s step command n).signer ≡ n.signer
  told-signer s step (Open f outcome) n = (told-stays s step (Open f outcome) n refl).signer
  told-signer s step (OpenOn o) n = (told-stays s step (OpenOn o) n refl).signer
  told-signer s step (OpenVirtual v) n = (told-stays s step (OpenVirtual v) n refl).signer
  told-signer s step (Pay channel asset amount) n = (told-stays s step (Pay channel asset amount) n refl).signer
  told-signer s step (Close channel) n = (told-stays s step (Close channel) n refl).signer
  told-signer s step (Release how channel) n = (told-stays s step (Release how channel) n refl).signer
  told-signer s step (Resend channel) n = (told-stays s step (Resend channel) n refl).signer
  told-signer s step Exit n = refl

  pub saw-signer : (entries : List Entry) (n : NodeOf) → (saw_all r entries n).signer ≡ n.signer
  saw-signer [] n = refl
  saw-signer (e ∷ entries) n = saw-signer entries (saw_one r n e)
