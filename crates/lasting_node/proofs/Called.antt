-- The challenges that a node calls are signed in its journal.
use Rattle.std.proofs.Common.{◌≡◌, ℕ, Bool, true, false, cond, List, [], ◌∷◌, ◌++◌, map, filter, refl, sym, ◌∙◌, ap, subst, inl, inr}
use Rattle.std.specs.Prelude.{Option, Some, None}
use Rattle.std.specs.List.{AllByRecursion}
use Rattle.channel_values.specs.Messages.{message_of_challenge}
use Rattle.call_history.specs.declared.call.Call.{Call}
use Rattle.call_history.specs.declared.call.Call.TheVariants.{Deposit, Challenge, Respond, Refute, Checkpoint, Conclude, Transfer, Claim}
use Rattle.call_history.specs.declared.entry.Entry.{Entry}
use Rattle.call_history.specs.declared.event.Deed.{Deed}
use Rattle.call_history.specs.declared.event.Deed.TheVariants as deeds
use Rattle.call_history.specs.declared.event.NodeRefusal.{NodeRefusal}
use Rattle.call_history.specs.declared.held_chain.HeldChain.{HeldChain}
use Rattle.channel_node.proofs.Places.{told-event}
use Rattle.channel_node.specs.Giving.{tick_calls, after_challenging, after_tick, command_gives, command_answers}
use Rattle.channel_node.specs.Nodes.{NodeOf, told_of, gave_one, gave}
use Rattle.channel_node.specs.Places.{Told, tell, AreFew}
use Rattle.channel_node.specs.Playing.{Signing, signing_of}
use Rattle.channel_node.specs.Refusing.{command_refusal}
use Rattle.channel_node.specs.Standing.{Stands}
use Rattle.channel_node.specs.Tables.{Tables}
use Rattle.channel_safety.proofs.Members.{In-append_right}
use Rattle.channel_safety.specs.Journals.{In}
use Rattle.network.specs.Members.{accepted}
use Rattle.network.specs.Ways.{looked}
use Rattle.network.specs.declared.command.Command.{Command}
use Rattle.network.specs.declared.lookout.Lookout.{Lookout}
use Rattle.node_guarantees.specs.Challenges.{MadeChallenge, just_made, made_then, IsOwnCall, IsOwnDeed, CallsOwnChallenges}
use Rattle.node_guarantees.specs.Once.{Signature, signed_in, signed_by}
use Rattle.node_guarantees.specs.Ways.{Numbered}
use Rattle.support_rules.specs.Real.{real}
use Rattle.lasting_node.specs.Laws.{challenge_string, IsSignedCall}

abbrev pub AreSignedCalls : List Signature → List Call → Type 0
AreSignedCalls made = AllByRecursion (IsSignedCall made)

-- ---- what was just made is signed

-- the signature of a challenge
abbrev signature_of : MadeChallenge → Signature
signature_of c = record { message = message_of_challenge (real.digest c.channel c.state) c.who; bytes = c.signature }

just-signed : (c : MadeChallenge) (events : List Told) → In c (just_made events) → In (signature_of c) (signed_by real events)
just-signed c [] i = absurd i
just-signed c (x ∷ front) i = go x.deed (just-signed c front) i
  where
    go : (deed : Deed) → (In c (just_made front) → In (signature_of c) (signed_by real front)) → In c (made_then x.seen deed (just_made front))
        → In (signature_of c) (signed_in real deed ++ signed_by real front)
    go (deeds.SignedChallenge channel state who signature) before (inl e) = inl (ap signature_of e)
    go (deeds.SignedChallenge channel state who signature) before (inr j) = inr (before j)
    go (deeds.Called call) before j = before j
    go (deeds.Commanded step refusal) before j = absurd j
    go (deeds.Handled bytes refusal) before j = absurd j
    go (deeds.Signed channel state signature) before j = absurd j
    go (deeds.Watched watcher calls) before j = absurd j

-- a call of the person with this key is signed before
own-signed : (key : List ℕ) (events : List Told) (seen : ℕ) (call : Call) → IsOwnCall key (just_made events) seen call
    → IsSignedCall (signed_by real events) call
own-signed key events seen (Challenge k) own = record { state = own.it.state; newest = own.state; there = named }
  where
    told-so : In (record { message = challenge_string own.it.channel own.it.state own.it.who; bytes = own.it.signature }) (signed_by real events)
    told-so = just-signed own.it events own.there

    placed : In (record { message = challenge_string own.it.channel own.it.state k.challenger; bytes = own.it.signature }) (signed_by real events)
    placed =
        subst (λ (who : ℕ). In (record { message = challenge_string own.it.channel own.it.state who; bytes = own.it.signature }) (signed_by real events))
        own.challenger told-so

    called : In (record { message = challenge_string own.it.channel own.it.state k.challenger; bytes = k.signature }) (signed_by real events)
    called =
        subst (λ (bytes : List ℕ). In (record { message = challenge_string own.it.channel own.it.state k.challenger; bytes = bytes }) (signed_by real events))
        own.signed placed

    named : In (record { message = challenge_string (real.named k.chain.fixed) own.it.state k.challenger; bytes = k.signature }) (signed_by real events)
    named =
        subst (λ (channel : List ℕ). In (record { message = challenge_string channel own.it.state k.challenger; bytes = k.signature }) (signed_by real events))
        own.channel called
own-signed key events seen (Deposit d) own = tt
own-signed key events seen (Respond k) own = tt
own-signed key events seen (Refute f next) own = tt
own-signed key events seen (Checkpoint chain) own = tt
own-signed key events seen (Conclude chain) own = tt
own-signed key events seen (Transfer k) own = tt
own-signed key events seen (Claim k) own = tt

pub more-signed-call : (some more : List Signature) → ((made : Signature) → In made some → In made more) → (call : Call) → IsSignedCall some call
    → IsSignedCall more call
more-signed-call some more within (Challenge k) is = record { state = is.state; newest = is.newest; there = within _ is.there }
more-signed-call some more within (Deposit d) is = tt
more-signed-call some more within (Respond k) is = tt
more-signed-call some more within (Refute f next) is = tt
more-signed-call some more within (Checkpoint chain) is = tt
more-signed-call some more within (Conclude chain) is = tt
more-signed-call some more within (Transfer k) is = tt
more-signed-call some more within (Claim k) is = tt

pub more-signed-calls : (some more : List Signature) → ((made : Signature) → In made some → In made more) → (calls : List Call) → AreSignedCalls some calls
    → AreSignedCalls more calls
more-signed-calls some more within [] all = tt
more-signed-calls some more within (call ∷ calls) all = (more-signed-call some more within call all.0, more-signed-calls some more within calls all.1)

-- ---- what a journal called is signed in it

record IsCalled (events : List Told) (call : Call) : Type 0 where
  it : Told
  there : In it events
  deed : it.deed ≡ deeds.Called call

called-signed : (key : List ℕ) (events : List Told) (call : Call) → CallsOwnChallenges key events → (x : Told) → In x events → x.deed ≡ deeds.Called call
    → IsSignedCall (signed_by real events) call
called-signed key [] call own x i deed = absurd i
called-signed key (y ∷ front) call own x (inl e) deed =
    more-signed-call (signed_by real front) (signed_by real (y ∷ front)) (λ made i. In-append_right made (signed_in real y.deed) (signed_by real front) i) call
    (own-signed key front y.seen call (subst (IsOwnDeed key (just_made front) y.seen) (ap (λ (z : Told). z.deed) (sym e) ∙ deed) own.0))
called-signed key (y ∷ front) call own x (inr i) deed =
    more-signed-call (signed_by real front) (signed_by real (y ∷ front)) (λ made j. In-append_right made (signed_in real y.deed) (signed_by real front) j) call
    (called-signed key front call own.1 x i deed)

-- ---- the calls of a tick

gave-told : (n : NodeOf) (call : Call) → told_of (gave_one n call) ≡ tell (record { seen = n.mind.view.count; deed = deeds.Called call }) None ∷ told_of n
gave-told n call = told-event n.journal (record { seen = n.mind.view.count; deed = deeds.Called call }) n.commands refl

gave-stays : (calls : List Call) (n : NodeOf) (x : Told) → In x (told_of n) → In x (told_of (gave calls n))
gave-stays [] n x i = i
gave-stays (call ∷ calls) n x i =
    gave-stays calls (gave_one n call) x (subst (In x) (sym (gave-told n call)) (inr i))

gave-called : (calls : List Call) (n : NodeOf) (call : Call) → In call calls → IsCalled (told_of (gave calls n)) call
gave-called [] n call i = absurd i
gave-called (first ∷ calls) n call (inl e) =
    record {
      it = tell (record { seen = n.mind.view.count; deed = deeds.Called first }) None;
      there = gave-stays calls (gave_one n first) _ (subst (In (tell (record { seen = n.mind.view.count; deed = deeds.Called first }) None)) (sym (gave-told n first)) (inl refl));
      deed = ap (λ (c : Call). deeds.Called c) (sym e);
    }
gave-called (first ∷ calls) n call (inr i) = gave-called calls (gave_one n first) call i

all-signed : (made : List Signature) (calls : List Call) → ((call : Call) → In call calls → IsSignedCall made call) → AreSignedCalls made calls
all-signed made [] each = tt
all-signed made (call ∷ calls) each = (each call (inl refl), all-signed made calls (λ other i. each other (inr i)))

-- The tables are those of a node that stands for a history.
module _ {t : Tables} (h : List Entry) (p : Numbered) (stands : AreFew h → Stands t real (signing_of p.node.signer) h p.node) where
  -- memory didn't fail the node
  pub ticked-calls : (key : List ℕ) → p.node.is_lost ≡ false
      → CallsOwnChallenges key (told_of (cond p.node.is_lost p (record p { node = after_tick t real (signing_of p.node.signer) p.node })).node)
      → AreSignedCalls (signed_by real (told_of (cond p.node.is_lost p (record p { node = after_tick t real (signing_of p.node.signer) p.node })).node))
      (tick_calls t real (signing_of p.node.signer) p.node)
  ticked-calls key able own = go p.node.is_lost able own
    where
      s : Signing
      s = signing_of p.node.signer

      ticked : NodeOf
      ticked = after_tick t real s p.node

      each : CallsOwnChallenges key (told_of ticked) → (call : Call) → In call (tick_calls t real s p.node) → IsSignedCall (signed_by real (told_of ticked)) call
      each own call i =
          let is : IsCalled (told_of ticked) call = gave-called (tick_calls t real s p.node) (after_challenging t real s p.node) call i in
          called-signed key (told_of ticked) call own is.it is.there is.deed

      go : (b : Bool) → b ≡ false → CallsOwnChallenges key (told_of (cond b p (record p { node = ticked })).node)
          → AreSignedCalls (signed_by real (told_of (cond b p (record p { node = ticked })).node)) (tick_calls t real s p.node)
      go true able own = absurd cc
      go false able own = all-signed (signed_by real (told_of ticked)) (tick_calls t real s p.node) (each own)

  -- a command calls nothing
  pub commanded-calls : (command : Command) → (accepted (command_answers t real (signing_of p.node.signer) 0 command p.node)).calls ≡ []
  commanded-calls command = go (command_refusal t real (signing_of p.node.signer).limit p.node.used p.node.mind command)
    where
      go : (o : Option NodeRefusal) → (accepted (command_gives t real (signing_of p.node.signer) 0 command p.node o)).calls ≡ []
      go (Some refusal) = refl
      go None = refl

-- ---- the calls of a look

some-signed : (made : List Signature) (test : Call → Bool) (calls : List Call) → AreSignedCalls made calls → AreSignedCalls made (filter test calls)
some-signed made test [] all = tt
some-signed made test (call ∷ calls) all = go (test call) (some-signed made test calls all.1)
  where
    go : (b : Bool) → AreSignedCalls made (filter test calls) → AreSignedCalls made (cond b (call ∷ filter test calls) (filter test calls))
    go true rest = (all.0, rest)
    go false rest = rest

pub look-signed : (made : List Signature) (test : Call → Bool) (chains : List HeldChain) (l : Lookout) → AreSignedCalls made (filter test (looked chains l))
look-signed made test chains l = some-signed made test (looked chains l) (checkpoints-signed _)
  where
    checkpoints-signed : (ks : List HeldChain) → AreSignedCalls made (map (λ (held : HeldChain). Checkpoint held.chain) ks)
    checkpoints-signed [] = tt
    checkpoints-signed (k ∷ ks) = (tt, checkpoints-signed ks)
