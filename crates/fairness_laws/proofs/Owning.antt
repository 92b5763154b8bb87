-- Whatever comes to a node, it calls its own challenges alone, as itself.
use Rattle.std.proofs.Common.{◌≡◌, ℕ, Bool, true, false, cond, List, [], ◌∷◌, ◌++◌, reverse, refl, sym, ◌∙◌, ap, subst, ◌⊎◌, inl, inr}
use Rattle.std.specs.Prelude.{Option, Some, None, nat_lt, ◌&&◌, flat_map, slice_get}
use Rattle.channel_values.specs.Parts.{StateParts}
use Rattle.channel_values.specs.declared.chain.Chain.{Chain}
use Rattle.channel_values.specs.Messages.{message_of_state, message_of_challenge}
use Rattle.channel_values.specs.Rules.{newest}
use Rattle.call_history.specs.Calls.{make_challenge}
use Rattle.call_history.specs.History.{Legal}
use Rattle.call_history.specs.Reading.{message_of}
use Rattle.call_history.specs.declared.call.Call.{Call}
use Rattle.call_history.specs.declared.call.Call.TheVariants.{Challenge, Respond, Refute, Deposit, Checkpoint, Conclude, Transfer, Claim}
use Rattle.call_history.specs.declared.entry.Entry.{Entry}
use Rattle.call_history.specs.declared.event.Deed.TheVariants as deeds
use Rattle.call_history.specs.declared.event.Event.{Event}
use Rattle.call_history.specs.declared.event.NodeRefusal.{NodeRefusal}
use Rattle.channel_safety.proofs.Lists.{In-append_cases}
use Rattle.channel_safety.proofs.Tests.{clash, none-eq, some-eq}
use Rattle.channel_safety.specs.Journals.{In}
use Rattle.channel_store.specs.Keeping.{held_chain, is_held}
use Rattle.channel_store.specs.Storing.{kept_of}
use Rattle.channel_store.specs.declared.kept.Kept.{Kept}
use Rattle.network.specs.Ways.{followed, looked}
use Rattle.network.specs.declared.command.Command.{Command}
use Rattle.network.specs.declared.command.Command.TheVariants.{Open, OpenOn, OpenVirtual, Pay, Close, Release, Resend, Exit}
use Rattle.channel_node.proofs.Leaving.{from-held}
use Rattle.channel_node.proofs.Places.{told-event, told-command}
use Rattle.channel_node.specs.Exiting.{leaves}
use Rattle.channel_node.specs.Giving.{in_order, challenge_call, challenge_calls, after_signing, after_challenging, tick_calls, after_tick}
use Rattle.channel_node.specs.Leaving.{OwnChallenge, challenge_with, challenge_of, challenge_in, calls_of}
use Rattle.channel_node.specs.Minds.{Mind, facts_of}
use Rattle.channel_node.specs.Nodes.{NodeOf, told_of, handled, signed, signed_if, ticked, challenged, challenged_if, challenged_all, gave_one, gave, asked, paid_if, told_to, saw_one, saw_all, watched}
use Rattle.channel_node.specs.Places.{Told, tell, told, is_commanded}
use Rattle.channel_node.specs.Playing.{Signing, SignerOf, signing_of}
use Rattle.channel_node.specs.Standing.{Stands}
use Rattle.channel_node.specs.Refusing.{is_open, stands_in, message_refusal, command_refusal, signs_in}
use Rattle.stage_tables.specs.Stages.{stages}
use Rattle.node_guarantees.proofs.Kept.{nodes_are_kept, lost-placed, told-placed}
use Rattle.node_guarantees.proofs.Staying.{tick-stays, told-signer, saw-signer}
use Rattle.node_guarantees.specs.Ways.{Numbered, key_of, unless_lost, noting_if}
use Rattle.node_guarantees.specs.Challenges.{MadeChallenge, just_made, IsOwnCall, IsOwnDeed, CallsOwnChallenges}
use Rattle.support_rules.specs.Real.{real}
use Rattle.fairness_laws.specs.Owning.{IsMindOf, Owns, StandsOwning, NodesStandOwning, NodesCallTheirOwn}
use Rattle.fairness_laws.proofs.Naming.{found-named, named-so, saw-named, command-named, handled-named, signed-named}
use Rattle.fairness_laws.proofs.Plain.{IsPlain, ArePlain, calls-plain}

-- ---- lists, and places

plain-in : (calls : List Call) → ArePlain calls → (call : Call) → In call calls → IsPlain call
plain-in [] all call i = absurd i
plain-in (x ∷ calls) all call (inl e) = subst IsPlain (sym e) all.0
plain-in (x ∷ calls) all call (inr i) = plain-in calls all.1 call i

-- the challenger is the place that is kept
who-is : (k : Kept) (c : OwnChallenge) (o : Option StateParts) → challenge_with k o ≡ Some c → c.who ≡ k.me
who-is k c None e = absurd (none-eq c e)
who-is k c (Some state) e = sym (ap (λ (z : OwnChallenge). z.who) (some-eq (record { chain = k.chain; state = state; who = k.me }) c e))

own-place : (m : Mind) (channel : List ℕ) (c : OwnChallenge) (k : Kept) → challenge_in m channel ≡ Some c → kept_of channel m.kept ≡ Some k → c.who ≡ k.me
own-place m channel c k e is = left m.left e
  where
    held : (b : Bool) → cond b (challenge_with k (newest k.chain.states)) None ≡ Some c → c.who ≡ k.me
    held true e = who-is k c (newest k.chain.states) e
    held false e = absurd (none-eq c e)

    left : (b : Bool) → cond b (challenge_of m channel (kept_of channel m.kept)) None ≡ Some c → c.who ≡ k.me
    left true e = held (is_held k && is_open (stands_in (facts_of m) channel)) (sym (ap (challenge_of m channel) is) ∙ e)
    left false e = absurd (none-eq c e)

module _ (key : List ℕ) where
  -- ---- one event more

  more : (n : NodeOf) (x : Event) → is_commanded x.deed ≡ false → IsOwnDeed key (just_made (told_of n)) x.seen x.deed → CallsOwnChallenges key (told_of n)
      → CallsOwnChallenges key (told (reverse (n.journal ++ x ∷ [])) (reverse n.commands))
  more n x plain own calls = subst (CallsOwnChallenges key) (sym (told-event n.journal x n.commands plain)) (own, calls)

  command-more : (n : NodeOf) (seen step : ℕ) (refusal : Option NodeRefusal) (command : Command) → CallsOwnChallenges key (told_of n)
      → CallsOwnChallenges key (told (reverse (n.journal ++ record { seen = seen; deed = deeds.Commanded step refusal } ∷ [])) (reverse (n.commands ++ command ∷ [])))
  command-more n seen step refusal command calls =
      subst (CallsOwnChallenges key) (sym (told-command n.journal (record { seen = seen; deed = deeds.Commanded step refusal }) n.commands command refl)) (tt, calls)

  -- a call that is no challenge is its own
  plain-own : (made : List MadeChallenge) (seen : ℕ) (call : Call) → IsPlain call → IsOwnCall key made seen call
  plain-own made seen (Challenge k) plain = absurd plain
  plain-own made seen (Deposit d) plain = tt
  plain-own made seen (Respond k) plain = tt
  plain-own made seen (Refute f next) plain = tt
  plain-own made seen (Checkpoint chain) plain = tt
  plain-own made seen (Conclude chain) plain = tt
  plain-own made seen (Transfer k) plain = tt
  plain-own made seen (Claim k) plain = tt

  -- ---- messages and states

  handles : (bytes : List ℕ) (n : NodeOf) → Owns key n → Owns key (handled stages real bytes n)
  handles bytes n o = record {
    calls = more n (record { seen = n.mind.view.count; deed = deeds.Handled bytes (message_refusal stages real n.mind (message_of bytes)) }) refl tt o.calls;
    mind = handled-named key bytes (message_refusal stages real n.mind (message_of bytes)) n.mind o.mind;
  }

  module _ (s : Signing) where
    signs : (channel : List ℕ) (state : Option StateParts) (n : NodeOf) → Owns key n → Owns key (signed_if real s channel state n)
    signs channel None n o = o
    signs channel (Some state) n o = go (nat_lt n.used s.limit)
      where
        go : (b : Bool) → Owns key (cond b (signed real s channel state n) n)
        go true = record {
          calls = more n (record { seen = n.mind.view.count; deed = deeds.Signed channel state (s.made n.used (message_of_state (real.digest channel state))) }) refl tt o.calls;
          mind = signed-named key channel (record { state = state; signature = s.made n.used (message_of_state (real.digest channel state)) }) n.mind o.mind;
        }
        go false = o

    signs-all : (channels : List (List ℕ)) (n : NodeOf) → Owns key n → Owns key (ticked stages real s channels n)
    signs-all [] n o = o
    signs-all (channel ∷ channels) n o = signs-all channels (signed_if real s channel (signs_in stages real None n.mind channel) n) (signs channel (signs_in stages real None n.mind channel) n o)

    -- ---- challenges

    -- the event of a challenge
    abbrev event-of : (channel : List ℕ) (c : OwnChallenge) (n : NodeOf) → Event
    event-of channel c n = record { seen = n.mind.view.count; deed = deeds.SignedChallenge channel c.state c.who (s.made n.used (message_of_challenge (real.digest channel c.state) c.who)) }

    told-more : (channel : List ℕ) (c : OwnChallenge) (n : NodeOf) → told_of (challenged real s channel c n) ≡ tell (event-of channel c n) None ∷ told_of n
    told-more channel c n = told-event n.journal (event-of channel c n) n.commands refl

    challenges : (channel : List ℕ) (c : Option OwnChallenge) (n : NodeOf) → Owns key n → Owns key (challenged_if real s channel c n)
    challenges channel None n o = o
    challenges channel (Some c) n o = go (nat_lt n.used s.limit)
      where
        go : (b : Bool) → Owns key (cond b (challenged real s channel c n) n)
        go true = record { calls = more n (event-of channel c n) refl tt o.calls; mind = o.mind }
        go false = o

    challenges-all : (channels : List (List ℕ)) (n : NodeOf) → Owns key n → Owns key (challenged_all real s channels n)
    challenges-all [] n o = o
    challenges-all (channel ∷ channels) n o = challenges-all channels (challenged_if real s channel (challenge_in n.mind channel) n) (challenges channel (challenge_in n.mind channel) n o)

    if-mind : (channel : List ℕ) (o : Option OwnChallenge) (n : NodeOf) → (challenged_if real s channel o n).mind ≡ n.mind
    if-mind channel None n = refl
    if-mind channel (Some c) n = go (nat_lt n.used s.limit)
      where
        go : (b : Bool) → (cond b (challenged real s channel c n) n).mind ≡ n.mind
        go true = refl
        go false = refl

    all-mind : (channels : List (List ℕ)) (n : NodeOf) → (challenged_all real s channels n).mind ≡ n.mind
    all-mind [] n = refl
    all-mind (channel ∷ channels) n = all-mind channels (challenged_if real s channel (challenge_in n.mind channel) n) ∙ if-mind channel (challenge_in n.mind channel) n

    -- what was made stays among what was just made
    one-stays : (channel : List ℕ) (o : Option OwnChallenge) (n : NodeOf) (x : MadeChallenge) → In x (just_made (told_of n)) → In x (just_made (told_of (challenged_if real s channel o n)))
    one-stays channel None n x i = i
    one-stays channel (Some c) n x i = go (nat_lt n.used s.limit)
      where
        go : (b : Bool) → In x (just_made (told_of (cond b (challenged real s channel c n) n)))
        go true = subst (λ (events : List Told). In x (just_made events)) (sym (told-more channel c n)) (inr i)
        go false = i

    all-stay : (channels : List (List ℕ)) (n : NodeOf) (x : MadeChallenge) → In x (just_made (told_of n)) → In x (just_made (told_of (challenged_all real s channels n)))
    all-stay [] n x i = i
    all-stay (channel ∷ channels) n x i =
        all-stay channels (challenged_if real s channel (challenge_in n.mind channel) n) x (one-stays channel (challenge_in n.mind channel) n x i)

    -- a challenge that is called is among them
    one-own : (channel : List ℕ) (channels : List (List ℕ)) (n : NodeOf) → IsMindOf key n.mind → (o : Option OwnChallenge) → challenge_in n.mind channel ≡ o
        → (call : Call) → In call (challenge_call real s channel o n)
        → IsOwnCall key (just_made (told_of (challenged_all real s channels (challenged_if real s channel o n)))) n.mind.view.count call
    one-own channel channels n named None is call i = absurd i
    one-own channel channels n named (Some c) is call i = go (nat_lt n.used s.limit) i
      where
        signature : List ℕ
        signature = s.made n.used (message_of_challenge (real.digest channel c.state) c.who)

        it : MadeChallenge
        it = record { seen = n.mind.view.count; channel = channel; state = c.state; who = c.who; signature = signature }

        there : In it (just_made (told_of (challenged real s channel c n)))
        there = subst (λ (events : List Told). In it (just_made events)) (sym (told-more channel c n)) (inl refl)

        go : (b : Bool) → In call (cond b (make_challenge c.chain c.who signature ∷ []) [])
            → IsOwnCall key (just_made (told_of (challenged_all real s channels (cond b (challenged real s channel c n) n)))) n.mind.view.count call
        go true (inl e) =
            let from = from-held n.mind channel c is in
            subst (IsOwnCall key (just_made (told_of (challenged_all real s channels (challenged real s channel c n)))) n.mind.view.count) (sym e)
            (record {
              it = it;
              there = all-stay channels (challenged real s channel c n) it there;
              then = refl;
              channel = sym (ap (λ (chain : Chain). real.named chain.fixed) from.chain ∙ named-so key channel n.mind.kept from.k named.named from.is);
              state = ap (λ (chain : Chain). newest chain.states) from.chain ∙ from.ends;
              challenger = refl;
              mine =
                  subst (λ (chain : Chain). slice_get chain.fixed.keys c.who ≡ Some key) (sym from.chain)
                  (ap (slice_get from.k.chain.fixed.keys) (own-place n.mind channel c from.k is from.is) ∙ (found-named key channel n.mind.kept from.k named.named from.is).mine);
              signed = refl;
            })
        go true (inr j) = absurd j
        go false j = absurd j

    all-own : (channels : List (List ℕ)) (n : NodeOf) → IsMindOf key n.mind → (call : Call) → In call (challenge_calls real s channels n)
        → IsOwnCall key (just_made (told_of (challenged_all real s channels n))) n.mind.view.count call
    all-own [] n named call i = absurd i
    all-own (channel ∷ channels) n named call i =
        which (In-append_cases call (challenge_call real s channel (challenge_in n.mind channel) n) (challenge_calls real s channels next) i)
        (all-own channels next (subst (IsMindOf key) (sym (if-mind channel (challenge_in n.mind channel) n)) named) call)
      where
        next : NodeOf
        next = challenged_if real s channel (challenge_in n.mind channel) n

        which : (In call (challenge_call real s channel (challenge_in n.mind channel) n) ⊎ In call (challenge_calls real s channels next))
            → (In call (challenge_calls real s channels next) → IsOwnCall key (just_made (told_of (challenged_all real s channels next))) next.mind.view.count call)
            → IsOwnCall key (just_made (told_of (challenged_all real s channels next))) n.mind.view.count call
        which (inl j) rest = one-own channel channels n named (challenge_in n.mind channel) refl call j
        which (inr j) rest =
            subst (λ (m : Mind). IsOwnCall key (just_made (told_of (challenged_all real s channels next))) m.view.count call) (if-mind channel (challenge_in n.mind channel) n) (rest j)

    -- ---- calls

    gives-all : (calls : List Call) (n : NodeOf) → ((call : Call) → In call calls → IsOwnCall key (just_made (told_of n)) n.mind.view.count call) → Owns key n → Owns key (gave calls n)
    gives-all [] n may o = o
    gives-all (call ∷ calls) n may o =
        gives-all calls (gave_one n call)
        (λ other i. subst (λ (events : List Told). IsOwnCall key (just_made events) n.mind.view.count other) (sym told-is) (may other (inr i)))
        (record { calls = more n x refl (may call (inl refl)) o.calls; mind = o.mind })
      where
        x : Event
        x = record { seen = n.mind.view.count; deed = deeds.Called call }

        told-is : told_of (gave_one n call) ≡ tell x None ∷ told_of n
        told-is = told-event n.journal x n.commands refl

    ticks : (n : NodeOf) → Owns key n → Owns key (after_tick stages real s n)
    ticks n o = record { calls = given.calls; mind = given.mind }
      where
        channels : List (List ℕ)
        channels = in_order n.mind.parts

        signing : Owns key (after_signing stages real s n)
        signing = signs-all channels n o

        done : NodeOf
        done = after_challenging stages real s n

        may : (call : Call) → In call (tick_calls stages real s n) → IsOwnCall key (just_made (told_of done)) done.mind.view.count call
        may call i = which (In-append_cases call (challenge_calls real s channels (after_signing stages real s n)) (calls_of stages done.has_exited done.mind) i)
          where
            which : (In call (challenge_calls real s channels (after_signing stages real s n)) ⊎ In call (calls_of stages done.has_exited done.mind))
                → IsOwnCall key (just_made (told_of done)) done.mind.view.count call
            which (inl j) =
                subst (λ (m : Mind). IsOwnCall key (just_made (told_of done)) m.view.count call) (sym (all-mind channels (after_signing stages real s n)))
                (all-own channels (after_signing stages real s n) signing.mind call j)
            which (inr j) = plain-own (just_made (told_of done)) done.mind.view.count call (plain-in (calls_of stages done.has_exited done.mind) (calls-plain done.has_exited done.mind) call j)

        given : Owns key (gave (tick_calls stages real s n) done)
        given = gives-all (tick_calls stages real s n) done may (challenges-all channels (after_signing stages real s n) signing)

    -- ---- commands

    pays : (refusal : Option NodeRefusal) (command : Command) (n : NodeOf) → Owns key n → Owns key (paid_if stages real s refusal command n)
    pays (Some refusal) command n o = o
    pays None (Open fixed outcome) n o = o
    pays None (OpenOn opening) n o = o
    pays None (OpenVirtual v) n o = o
    pays None (Pay channel asset amount) n o = signs channel (signs_in stages real (Some (Pay channel asset amount)) n.mind channel) n o
    pays None (Close channel) n o = o
    pays None (Release how channel) n o = o
    pays None (Resend channel) n o = o
    pays None Exit n o = o

    tells : (step : ℕ) (command : Command) (n : NodeOf) → Owns key n → Owns key (told_to stages real s step command n)
    tells step command n o =
        let refusal : Option NodeRefusal = command_refusal stages real s.limit n.used n.mind command in
        pays refusal command (asked real s step command refusal n)
        (record { calls = command-more n n.mind.view.count step refusal command o.calls; mind = command-named key step refusal command n.mind o.mind })

  sees : (entries : List Entry) (n : NodeOf) → Owns key n → Owns key (saw_all real entries n)
  sees [] n o = o
  sees (e ∷ entries) n o = sees entries (saw_one real n e) (record { calls = o.calls; mind = saw-named key e n.mind o.mind })

-- ---- nodes

abbrev OwnsUnlessLost : Numbered → Type 0
OwnsUnlessLost p = p.node.is_lost ≡ false → Owns (key_of p.node.signer) p.node

-- where memory failed it nothing changes
unless : (change : NodeOf → NodeOf) (p : Numbered) → (Owns (key_of p.node.signer) p.node → Owns (key_of (change p.node).signer) (change p.node))
    → OwnsUnlessLost p → OwnsUnlessLost (unless_lost change p)
unless change p keeps old = go p.node.is_lost refl
  where
    go : (b : Bool) → p.node.is_lost ≡ b → OwnsUnlessLost (cond b p (record p { node = change p.node }))
    go true lost kept = old kept
    go false able kept = keeps (old able)

noting : (b : Bool) (p : Numbered) → OwnsUnlessLost p → OwnsUnlessLost (noting_if b p)
noting true p o = o
noting false p o = o

told-owns : (step : ℕ) (command : Command) (n : NodeOf) → Owns (key_of n.signer) n
    → Owns (key_of (told_to stages real (signing_of n.signer) step command n).signer) (told_to stages real (signing_of n.signer) step command n)
told-owns step command n o =
    subst (λ (signer : SignerOf). Owns (key_of signer) (told_to stages real (signing_of n.signer) step command n)) (sym (told-signer stages real (signing_of n.signer) step command n))
    (tells (key_of n.signer) (signing_of n.signer) step command n o)

pub nodes_stand : NodesStandOwning
unfolding signing_of
nodes_stand = record {
  fresh = λ h number signer is. record {
    placed = nodes_are_kept.fresh h number signer is;
    owning = λ kept. record { calls = tt; mind = record { same = refl; named = tt } };
  };
  saw = λ h entries p legal next st. record {
    placed = nodes_are_kept.saw h entries p legal next st.placed;
    owning =
        unless (saw_all real entries) p
        (λ o. subst (λ (signer : SignerOf). Owns (key_of signer) (saw_all real entries p.node)) (sym (saw-signer stages real entries p.node)) (sees (key_of p.node.signer) entries p.node o))
        st.owning;
  };
  commanded = λ h step command p legal st. record {
    placed = nodes_are_kept.commanded h step command p legal st.placed;
    owning =
        noting (leaves command) (unless_lost (λ n. told_to stages real (signing_of n.signer) step command n) p)
        (unless (λ n. told_to stages real (signing_of n.signer) step command n) p (told-owns step command p.node) st.owning);
  };
  handled = λ h bytes p legal st. record {
    placed = nodes_are_kept.handled h bytes p legal st.placed;
    owning = unless (handled stages real bytes) p (handles (key_of p.node.signer) bytes p.node) st.owning;
  };
  ticked = λ h p legal st. record {
    placed = nodes_are_kept.ticked h p legal st.placed;
    owning =
        unless (λ n. after_tick stages real (signing_of n.signer) n) p
        (λ o. subst (λ (signer : SignerOf). Owns (key_of signer) (after_tick stages real (signing_of p.node.signer) p.node))
        (sym (tick-stays stages real (signing_of p.node.signer) p.node).signer) (ticks (key_of p.node.signer) (signing_of p.node.signer) p.node o))
        st.owning;
  };
  watched = λ h entries l place p legal looks st. record {
    placed = nodes_are_kept.watched h entries l place p legal looks st.placed;
    owning =
        unless (watched (followed entries l).seen place (looked (flat_map held_chain p.node.mind.kept) (followed entries l))) p
        (λ o. record {
          calls =
              more (key_of p.node.signer) p.node
              (record { seen = (followed entries l).seen; deed = deeds.Watched place (looked (flat_map held_chain p.node.mind.kept) (followed entries l)) }) refl tt o.calls;
          mind = o.mind;
        })
        st.owning;
  };
  grows = λ h e p legal st. record { placed = nodes_are_kept.grows h e p legal st.placed; owning = st.owning };
  within = λ h p st. nodes_are_kept.within h p st.placed;
  honest = λ h p legal valid st. nodes_are_kept.honest h p legal valid st.placed;
}

-- a command that is refused is noted
pub told-stands : (h : List Entry) (step : ℕ) (command : Command) (p : Numbered) → leaves command ≡ false → Legal real h → p.node.is_lost ≡ false → StandsOwning h p
    → StandsOwning h (record p { node = told_to stages real (signing_of p.node.signer) step command p.node })
told-stands h step command p stays legal kept st = record {
  placed = told-placed h step command p stays legal kept st.placed;
  owning = λ still. told-owns step command p.node (st.owning kept);
}

-- where memory failed it, as long as its journal, its commands and its signer stay
pub lost-stands : (h : List Entry) (p : Numbered) (new : NodeOf) → new.is_lost ≡ true → new.signer ≡ p.node.signer
    → (Stands stages real (signing_of p.node.signer) h p.node → Stands stages real (signing_of p.node.signer) h new) → StandsOwning h p → StandsOwning h (record p { node = new })
lost-stands h p new lost signer keeps st = record {
  placed = lost-placed h p new lost signer keeps st.placed;
  owning = λ kept. absurd (clash new.is_lost lost kept);
}

pub own_calls : NodesCallTheirOwn
own_calls h p st kept = (st.owning kept).calls
