-- A node stands for a history as events and entries come.
use Rattle.std.proofs.Common.{◌≡◌, ℕ, suc, ◌+◌, ◌<◌, ◌≤◌, Bool, true, false, cond, List, [], ◌∷◌, ◌++◌, inl, inr, length, reverse, refl, sym, ◌∙◌, ap, subst, arith}
use Rattle.std.specs.Prelude.{Option, Some, None, nat_lt}
use Rattle.std.proofs.lemmas.List.{length-append}
use Rattle.channel_values.specs.Parts.{FixedParts, StateParts}
use Rattle.channel_values.specs.Messages.{message_of_state, message_of_challenge}
use Rattle.channel_values.specs.Rules.{Rules}
use Rattle.call_history.specs.History.{Legal}
use Rattle.call_history.specs.Reading.{message_of}
use Rattle.call_history.specs.declared.call.Call.{Call}
use Rattle.call_history.specs.declared.entry.Entry.{Entry}
use Rattle.call_history.specs.declared.event.Deed.TheVariants as deeds
use Rattle.call_history.specs.declared.event.Event.{Event}
use Rattle.channel_safety.proofs.Lists.{append_assoc'}
use Rattle.channel_safety.proofs.Rowing.{legal-suffix}
use Rattle.channel_safety.proofs.Tests.{lt-true}
use Rattle.channel_safety.specs.Journals.{In, is_watched}
use Rattle.channel_node.specs.Minds.{Mind, saw, did}
use Rattle.channel_node.specs.Leaving.{OwnChallenge, challenge_in, MayCall}
use Rattle.channel_node.specs.Tables.{Tables}
use Rattle.channel_node.specs.Refusing.{message_refusal, command_refusal, signs_in}
use Rattle.channel_node.specs.Places.{Told, tell, told, mind_at, AreFew}
use Rattle.channel_node.specs.Playing.{Signing, SignerOf, signing_of, is_signed, signings, payment_in, pending, Allowed, PlaysEvent, Plays}
use Rattle.channel_node.specs.Nodes.{NodeOf, new_node, told_of, handled, signed, signed_if, ticked, challenged, challenged_if, challenged_all, gave_one, gave, exited, asked, saw_one}
use Rattle.channel_node.specs.Standing.{Knows, Stands, ComesNext}
use Rattle.network.specs.declared.command.Command.{Command}
use Rattle.channel_node.proofs.Standing.{known}
use Rattle.channel_node.proofs.Places.{mind-event, mind-entry, told-event, told-command}

pub same-tail : {A : Type 0} (xs ys us vs : List A) → xs ++ us ≡ ys ++ vs → length us ≡ length vs → us ≡ vs
same-tail [] [] us vs e l = e
same-tail [] (y ∷ ys) us vs e l =
    let long : length us ≡ suc (length (ys ++ vs)) = ap length e in
    let more : length (ys ++ vs) ≡ length ys + length vs = length-append ys vs in
    absurd (omega arith)
same-tail (x ∷ xs) [] us vs e l =
    let long : suc (length (xs ++ us)) ≡ length vs = ap length e in
    let more : length (xs ++ us) ≡ length xs + length us = length-append xs us in
    absurd (omega arith)
same-tail (x ∷ xs) (y ∷ ys) us vs e l = same-tail xs ys us vs (tails e) l
  where
    tails : (x ∷ (xs ++ us)) ≡ (y ∷ (ys ++ vs)) → xs ++ us ≡ ys ++ vs
    tails e = cc

module _ (ts : Tables) (r : Rules) (s : Signing) (h : List Entry) (legal : Legal r h) where
  -- how many entries a node followed
  pub count-is : (n : NodeOf) (k : Knows r s h n) → n.mind.view.count ≡ length k.past
  count-is n k =
      ap (λ (m : Mind). m.view.count) k.mind
      ∙ (known r s.key nowhere k.past (told_of n) (legal-suffix r k.later k.past (subst (Legal r) k.split legal)) k.few).view.count
    where
      nowhere : FixedParts
      nowhere = record { keys = []; nonce = 0; app = 0; duration = 0 }

  -- what one more event makes of a node
  pub record Writes (n : NodeOf) (x : Told) (new : NodeOf) : Type 0 where
    pub told : told_of new ≡ x ∷ told_of n
    pub here : x.seen ≡ n.mind.view.count
    pub mind : new.mind ≡ did r x.deed x.command n.mind
    pub used : new.used ≡ cond (is_signed x.deed) (suc n.used) n.used

  -- the node as it was, where a payment may wait
  pub record Waits (n : NodeOf) (waits : Option Command) : Type 0 where
    pub plays : Plays ts r s h (told_of n)
    pub later : List Entry
    pub past : List Entry
    pub split : h ≡ later ++ past
    pub few : AreFew past
    pub mind : n.mind ≡ mind_at r s.key past (told_of n)
    pub used : n.used ≡ signings (told_of n)
    pub before : (y : Told) → In y (told_of n) → is_watched y.deed ≡ false → y.seen ≤ length past
    pub waiting : pending (told_of n) ≡ waits
    pub count : n.mind.view.count ≡ length past

  pub waiting : (n : NodeOf) → n.is_lost ≡ false → Stands ts r s h n → Waits n None
  waiting n kept st =
      let k = st.knows kept in
      record { plays = st.plays; later = k.later; past = k.past; split = k.split; few = k.few; mind = k.mind; used = k.used; before = k.before; waiting = k.waits; count = count-is n k }

  pub standing : (n : NodeOf) → Waits n None → Stands ts r s h n
  standing n w = record { plays = w.plays; knows = λ kept. record { later = w.later; past = w.past; split = w.split; few = w.few; mind = w.mind; used = w.used; before = w.before; waits = w.waiting } }

  -- one more event, which is allowed
  pub writes : (n : NodeOf) (waits : Option Command) (x : Told) (new : NodeOf) → Waits n waits → Writes n x new → ((past : List Entry) → Allowed ts r s past n.mind n.used waits x.deed x.command)
      → Waits new (payment_in x.deed x.command)
  writes n waits x new w wr allowed =
      record {
        plays = subst (Plays ts r s h) (sym wr.told) (event, w.plays);
        later = w.later;
        past = w.past;
        split = w.split;
        few = w.few;
        mind = wr.mind ∙ after ∙ ap (mind_at r s.key w.past) (sym wr.told);
        used = wr.used ∙ ap (λ (u : ℕ). cond (is_signed x.deed) (suc u) u) w.used ∙ ap signings (sym wr.told);
        before = λ y i u. was y u (subst (In y) wr.told i);
        waiting = ap pending wr.told;
        count = ap (λ (m : Mind). m.view.count) (wr.mind ∙ after) ∙ (known r s.key nowhere w.past (x ∷ told_of n) (legal-suffix r w.later w.past (subst (Legal r) w.split legal)) w.few).view.count;
      }
    where
      nowhere : FixedParts
      nowhere = record { keys = []; nonce = 0; app = 0; duration = 0 }

      seen : x.seen ≡ length w.past
      seen = wr.here ∙ w.count

      all : length h ≡ length w.later + length w.past
      all = ap length w.split ∙ length-append w.later w.past

      after : did r x.deed x.command n.mind ≡ mind_at r s.key w.past (x ∷ told_of n)
      after = ap (did r x.deed x.command) w.mind ∙ sym (mind-event r s.key w.past x (told_of n) (sym seen))

      event : PlaysEvent ts r s h x (told_of n)
      event = record {
        within = omega (arith, all, seen);
        rising = λ y i u. subst (λ (k : ℕ). y.seen ≤ k) (sym seen) (w.before y i u);
        place = λ later past is len. (
            let one : past ≡ w.past = same-tail later w.later past w.past (sym is ∙ w.split) (len ∙ seen) in (
              subst AreFew (sym one) w.few,
              subst (λ (p : List Entry). Allowed ts r s past (mind_at r s.key p (told_of n)) (signings (told_of n)) (pending (told_of n)) x.deed x.command) (sym one)
                  (subst (λ (m : Mind). Allowed ts r s past m (signings (told_of n)) (pending (told_of n)) x.deed x.command) w.mind
                  (subst (λ (u : ℕ). Allowed ts r s past n.mind u (pending (told_of n)) x.deed x.command) w.used
                  (subst (λ (z : Option Command). Allowed ts r s past n.mind n.used z x.deed x.command) (sym w.waiting) (allowed past)))),
            ));
      }

      was : (y : Told) → is_watched y.deed ≡ false → In y (x ∷ told_of n) → y.seen ≤ length w.past
      was y u (inl e) = let a : y.seen ≡ x.seen = ap (λ (z : Told). z.seen) e in omega (arith, seen)
      was y u (inr i) = w.before y i u

  pub handles : (n : NodeOf) (bytes : List ℕ) → Waits n None → Waits (handled ts r bytes n) None
  handles n bytes w =
      writes n None (tell x None) (handled ts r bytes n) w (record { told = told-event n.journal x n.commands refl; here = refl; mind = refl; used = refl }) (λ past. (refl, refl))
    where
      x : Event
      x = record { seen = n.mind.view.count; deed = deeds.Handled bytes (message_refusal ts r n.mind (message_of bytes)) }

  pub signs : (n : NodeOf) (waits : Option Command) (channel : List ℕ) (state : StateParts) → signs_in ts r waits n.mind channel ≡ Some state → n.used < s.limit → Waits n waits → Waits (signed r s channel state n) None
  signs n waits channel state wants below w =
      writes n waits (tell x None) (signed r s channel state n) w (record { told = told-event n.journal x n.commands refl; here = refl; mind = refl; used = refl }) (λ past. (wants, below, refl))
    where
      x : Event
      x = record { seen = n.mind.view.count; deed = deeds.Signed channel state (s.made n.used (message_of_state (r.digest channel state))) }

  signs-if : (n : NodeOf) (channel : List ℕ) (o : Option StateParts) → signs_in ts r None n.mind channel ≡ o → Waits n None → Waits (signed_if r s channel o n) None
  signs-if n channel None wants w = w
  signs-if n channel (Some state) wants w = go (nat_lt n.used s.limit) refl
    where
      go : (b : Bool) → nat_lt n.used s.limit ≡ b → Waits (cond b (signed r s channel state n) n) None
      go true e = signs n None channel state wants (lt-true n.used s.limit e) w
      go false e = w

  pub ticks : (channels : List (List ℕ)) (n : NodeOf) → Waits n None → Waits (ticked ts r s channels n) None
  ticks [] n w = w
  ticks (channel ∷ channels) n w = ticks channels (signed_if r s channel (signs_in ts r None n.mind channel) n) (signs-if n channel (signs_in ts r None n.mind channel) refl w)

  -- a challenge with the chain that it holds
  challenges-one : (n : NodeOf) (channel : List ℕ) (c : OwnChallenge) → challenge_in n.mind channel ≡ Some c → n.used < s.limit → Waits n None → Waits (challenged r s channel c n) None
  challenges-one n channel c is below w =
      writes n None (tell x None) (challenged r s channel c n) w (record { told = told-event n.journal x n.commands refl; here = refl; mind = refl; used = refl }) (λ past. (refl, (c, is, refl, refl), below, refl))
    where
      x : Event
      x = record { seen = n.mind.view.count; deed = deeds.SignedChallenge channel c.state c.who (s.made n.used (message_of_challenge (r.digest channel c.state) c.who)) }

  challenges-if : (n : NodeOf) (channel : List ℕ) (o : Option OwnChallenge) → challenge_in n.mind channel ≡ o → Waits n None → Waits (challenged_if r s channel o n) None
  challenges-if n channel None is w = w
  challenges-if n channel (Some c) is w = go (nat_lt n.used s.limit) refl
    where
      go : (b : Bool) → nat_lt n.used s.limit ≡ b → Waits (cond b (challenged r s channel c n) n) None
      go true e = challenges-one n channel c is (lt-true n.used s.limit e) w
      go false e = w

  pub challenges : (channels : List (List ℕ)) (n : NodeOf) → Waits n None → Waits (challenged_all r s channels n) None
  challenges [] n w = w
  challenges (channel ∷ channels) n w = challenges channels (challenged_if r s channel (challenge_in n.mind channel) n) (challenges-if n channel (challenge_in n.mind channel) refl w)

  -- a call that it may give, and some of them
  pub gives : (n : NodeOf) (call : Call) → MayCall ts n.mind call → Waits n None → Waits (gave_one n call) None
  gives n call inside w = writes n None (tell x None) (gave_one n call) w (record { told = told-event n.journal x n.commands refl; here = refl; mind = refl; used = refl }) (λ past. (refl, inside))
    where
      x : Event
      x = record { seen = n.mind.view.count; deed = deeds.Called call }

  pub gives-all : (cs : List Call) (n : NodeOf) → ((c : Call) → In c cs → MayCall ts n.mind c) → Waits n None → Waits (gave cs n) None
  gives-all [] n may w = w
  gives-all (call ∷ cs) n may w = gives-all cs (gave_one n call) (λ c i. may c (inr i)) (gives n call (may call (inl refl)) w)

  -- that the calls of its exit were given is no part of what it knows
  pub exits : (n : NodeOf) → Waits n None → Waits (exited n) None
  exits n w =
      record { plays = w.plays; later = w.later; past = w.past; split = w.split; few = w.few; mind = w.mind; used = w.used; before = w.before; waiting = w.waiting; count = w.count }

  -- a command, before the state of a payment
  pub asks : (n : NodeOf) (step : ℕ) (command : Command) → Waits n None
      → Waits (asked r s step command (command_refusal ts r s.limit n.used n.mind command) n) (payment_in (deeds.Commanded step (command_refusal ts r s.limit n.used n.mind command)) (Some command))
  asks n step command w =
      writes n None (tell x (Some command)) (asked r s step command (command_refusal ts r s.limit n.used n.mind command) n) w
      (record { told = told-command n.journal x n.commands command refl; here = refl; mind = refl; used = refl }) (λ past. (refl, refl))
    where
      x : Event
      x = record { seen = n.mind.view.count; deed = deeds.Commanded step (command_refusal ts r s.limit n.used n.mind command) }

  -- an entry that comes next
  pub sees : (n : NodeOf) (e : Entry) → ComesNext h e n → Waits n None → Waits (saw_one r n e) None
  sees n e next w =
      record {
        plays = w.plays;
        later = next.0;
        past = e ∷ next.1;
        split = next.2;
        few = (next.4, subst AreFew (sym one) w.few);
        mind = ap (saw r e) w.mind ∙ ap (λ (p : List Entry). saw r e (mind_at r s.key p (told_of n))) (sym one) ∙ sym (mind-entry r s.key next.1 e (told_of n) was);
        used = w.used;
        before = λ y i u. (let a : y.seen ≤ length next.1 = was y i u in omega arith);
        waiting = w.waiting;
        count = number;
      }
    where
      one : next.1 ≡ w.past
      one = same-tail (next.0 ++ e ∷ []) w.later next.1 w.past (sym (append_assoc' next.0 (e ∷ []) next.1) ∙ (sym next.2 ∙ w.split)) (next.3 ∙ w.count)

      was : (y : Told) → In y (told_of n) → is_watched y.deed ≡ false → y.seen ≤ length next.1
      was y i u = subst (λ (k : ℕ). y.seen ≤ k) (sym (next.3 ∙ w.count)) (w.before y i u)

      legal-here : Legal r (e ∷ next.1)
      legal-here = legal-suffix r next.0 (e ∷ next.1) (subst (Legal r) next.2 legal)

      number : e.number ≡ length (e ∷ next.1)
      number = legal-here.1

-- a node that lost its memory
pub loses : (ts : Tables) (r : Rules) (s : Signing) (h : List Entry) (n new : NodeOf) → new.is_lost ≡ true → new.journal ≡ n.journal → new.commands ≡ n.commands → Stands ts r s h n → Stands ts r s h new
loses ts r s h n new lost journal commands st =
    record {
      plays = subst (Plays ts r s h) (sym (ap (λ (j : List Event). told (reverse j) (reverse new.commands)) journal ∙ ap (λ (k : List Command). told (reverse n.journal) (reverse k)) commands)) st.plays;
      knows = λ kept. absurd cc;
    }

-- a node that was made
pub stands-fresh : (ts : Tables) (r : Rules) (signer : SignerOf) (h : List Entry) → Stands ts r (signing_of signer) h (new_node signer)
stands-fresh ts r signer h =
    record { plays = tt; knows = λ kept. record { later = h; past = []; split = sym (append_nil h); few = tt; mind = refl; used = refl; before = λ y i u. absurd i; waits = refl } }
  where
    append_nil : (xs : List Entry) → xs ++ [] ≡ xs
    append_nil [] = refl
    append_nil (x ∷ xs) = ap (λ (zs : List Entry). x ∷ zs) (append_nil xs)

-- ---- longer histories

plays-grow : (ts : Tables) (r : Rules) (s : Signing) (h : List Entry) (e : Entry) (journal : List Told) → Plays ts r s h journal → Plays ts r s (e ∷ h) journal
plays-grow ts r s h e [] plays = tt
plays-grow ts r s h e (x ∷ front) plays = (one plays.0, plays-grow ts r s h e front plays.1)
  where
    one : PlaysEvent ts r s h x front → PlaysEvent ts r s (e ∷ h) x front
    one ev =
        record {
          within = (let a : x.seen ≤ length h = ev.within in omega arith);
          rising = ev.rising;
          place = at;
        }
      where
        heads : (k : Entry) (later past : List Entry) → (e ∷ h) ≡ (k ∷ later) ++ past → h ≡ later ++ past
        heads k later past is = cc

        at : (later past : List Entry) → (e ∷ h) ≡ later ++ past → length past ≡ x.seen
            → AreFew past × Allowed ts r s past (mind_at r s.key past front) (signings front) (pending front) x.deed x.command
        at [] past is len =
            let long : suc (length h) ≡ length past = ap length is in
            let a : x.seen ≤ length h = ev.within in
            absurd (omega arith)
        at (k ∷ later) past is len = ev.place later past (heads k later past is) len

pub grows : (ts : Tables) (r : Rules) (s : Signing) (h : List Entry) (e : Entry) (n : NodeOf) → Stands ts r s h n → Stands ts r s (e ∷ h) n
grows ts r s h e n st =
    record {
      plays = plays-grow ts r s h e (told_of n) st.plays;
      knows = λ kept. (let k = st.knows kept in record { later = e ∷ k.later; past = k.past; split = ap (λ (z : List Entry). e ∷ z) k.split; few = k.few; mind = k.mind; used = k.used; before = k.before; waits = k.waits });
    }

pub within : (ts : Tables) (r : Rules) (s : Signing) (h : List Entry) (n : NodeOf) → Legal r h → n.is_lost ≡ false → Stands ts r s h n → n.mind.view.count ≤ length h
within ts r s h n legal kept st =
    let w = waiting ts r s h legal n kept st in
    let a : n.mind.view.count ≡ length w.past = w.count in
    let b : length h ≡ length w.later + length w.past = ap length w.split ∙ length-append w.later w.past in
    omega arith
