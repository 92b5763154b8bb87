-- What a node sends once more, and what comes of it.
use Rattle.std.proofs.Common.{◌≡◌, ℕ, ◌+◌, ◌<◌, ◌==◌, Bool, true, false, cond, ◌&&◌, not, List, [], ◌∷◌, ◌++◌, length, refl, sym, ◌∙◌, ap, subst, arith}
use Rattle.std.proofs.lemmas.Bool.{eq-eqb}
use Rattle.std.proofs.lemmas.Bool.Decides.{nat_tests}
use Rattle.std.specs.Prelude.{Option, Some, None, Result, Ok, is_none, is_some, map, nat_lt}
use Rattle.std.specs.Option.{option_or, option_map}
use Rattle.channel_values.specs.Parts.{FixedParts, StateParts}
use Rattle.channel_values.specs.Rows.{mover}
use Rattle.channel_values.specs.Rules.{Rules, people, newest, is_signed_well}
use Rattle.channel_values.specs.Words.{fault_if, ◌⊳◌}
use Rattle.channel_values.specs.declared.chain.Signed.{Signed}
use Rattle.channel_values.specs.declared.fault.ByteFault.{ByteFault}
use Rattle.channel_values.proofs.Format.{valid_again}
use Rattle.call_history.proofs.Formats.{message_format}
use Rattle.call_history.proofs.Names.{bytes_eq_self}
use Rattle.call_history.specs.Marked.{Marked, marked_of, longer, lowest, answered, next_after, is_step, extends}
use Rattle.call_history.specs.Reading.{message_of}
use Rattle.call_history.specs.Spelling.{Message, message}
use Rattle.call_history.specs.declared.event.Deed.TheVariants as deeds
use Rattle.call_history.specs.declared.event.NodeRefusal.{NodeRefusal}
use Rattle.call_history.specs.declared.event.NodeRefusal.TheVariants.{UnknownChannel, NotNext, BadSignature, NotAStep}
use Rattle.channel_safety.proofs.Answering.{lowest-le, newest-end}
use Rattle.channel_safety.proofs.Tests.{none-eq, some-eq, cond-true, and-left, and-right, and-both, not-false}
use Rattle.channel_store.specs.Keeping.{is_ended, next_of, step_of, noting}
use Rattle.channel_store.specs.Storing.{kept_of}
use Rattle.channel_store.specs.declared.kept.Kept.{Kept}
use Rattle.channel_store.proofs.Keeping.{kept_same}
use Rattle.network.specs.declared.command.Command.TheVariants.{Pay, Resend}
use Rattle.channel_node.specs.Giving.{others, sends_to, sends_of, sent_if, last_signed, sends_again, resent, command_gives, command_answers}
use Rattle.channel_node.specs.Minds.{Mind, facts_of, noted, noted_message, did}
use Rattle.channel_node.specs.Nodes.{NodeOf, handled, signed, signed_if, asked, paid_if, told_to}
use Rattle.channel_node.specs.Playing.{Signing}
use Rattle.channel_node.specs.Refusing.{is_open, stands_in, not_open, state_refusal, message_refusal, paying, follows, can_sign, resend_refusal, command_refusal, signs_in}
use Rattle.further_laws.specs.Resending.{payment, sends_only, IsSentAgain, PaymentsAreSentAgain, Later, still, event, entry, ResendsStay, ResendsSignNothing, RefusedMessagesDoNothing, Holds, IsTaken, MessagesAreTakenOnce, ResentPaymentsAreHeld}
use Rattle.channel_node.specs.Tables.{Tables}
use Rattle.channel_node.proofs.Allowing.{first_none, rest_none, holds_not, Extends, is-a-step, none-is}
use Rattle.further_laws.proofs.Lasting.{KeptSo, did-so, saw-so}
use Rattle.channel_node.proofs.Resending.{last-append, resent-asked}
use Rattle.channel_node.proofs.Paying.{Payable, payable}
use Rattle.channel_node.proofs.Refused.{refuses}

-- what an accepted Resend gives
resend-gives : (t : Tables) (r : Rules) (s : Signing) (step : ℕ) (channel : List ℕ) (n : NodeOf) → command_refusal t r s.limit n.used n.mind (Resend channel) ≡ None
    → command_answers t r s step (Resend channel) n ≡ sends_only (resent channel n)
resend-gives t r s step channel n taken =
    ap (command_gives t r s step (Resend channel) n) taken ∙ ap sends_only (resent-asked r s step channel n)

-- ---- a payment that was accepted

below-so : (a b : ℕ) → a < b → nat_lt a b ≡ true
below-so a b l = grind arith

module _ (t : Tables) (r : Rules) (s : Signing) (step : ℕ) (channel : List ℕ) (asset amount : ℕ) (n : NodeOf)
    (accepted : command_refusal t r s.limit n.used n.mind (Pay channel asset amount) ≡ None) where
  abbrev can-pay : Payable t r s.limit n.used n.mind channel asset amount
  can-pay = payable t r s.limit n.used n.mind channel asset amount accepted

  -- its state
  abbrev paid : Signed
  paid = payment r s channel asset amount can-pay.k n

  -- the node with the command's event, and with its signature
  abbrev before : NodeOf
  before = asked r s step (Pay channel asset amount) None n

  abbrev after : NodeOf
  after = signed r s channel paid.state before

  wants-it : signs_in t r (Some (Pay channel asset amount)) n.mind channel ≡ Some paid.state
  wants-it = can-pay.signs ∙ ap (λ (x : StateParts). Some x) can-pay.is

  can-still : nat_lt n.used s.limit ≡ true
  can-still = below-so n.used s.limit can-pay.below

  becomes : told_to t r s step (Pay channel asset amount) n ≡ after
  becomes =
      ap (λ (o : Option NodeRefusal). paid_if t r s o (Pay channel asset amount) (asked r s step (Pay channel asset amount) o n)) accepted
      ∙ (ap (λ (o : Option StateParts). signed_if r s channel o before) wants-it ∙ cond-true (nat_lt n.used s.limit) after before can-still)

  kept-after : kept_of channel after.mind.kept ≡ Some (noting r true paid can-pay.k)
  kept-after = kept_same (noting r true paid) (λ k. refl) channel n.mind.kept ∙ ap (λ (o : Option Kept). option_map (noting r true paid) o) can-pay.keeps

  last-after : last_signed channel after.journal ≡ Some paid
  last-after =
      last-append channel before.journal (record { seen = n.mind.view.count; deed = deeds.Signed channel paid.state paid.signature })
      ∙ ap (λ (b : Bool). option_or (cond b (Some paid) None) (last_signed channel before.journal)) (bytes_eq_self channel)

  abbrev letters : List (List ℕ × List ℕ)
  letters = map (λ person. (person, message (channel, paid))) (others can-pay.k)

  sends-after : resent channel after ≡ letters
  sends-after = ap (sends_again after.mind channel) last-after ∙ ap (sends_to channel paid.state paid.signature) kept-after

  gives-again : (later : ℕ) → command_answers t r s later (Resend channel) after ≡ sends_only letters
  gives-again later = resend-gives t r s later channel after (ap (resend_refusal t after.mind channel) kept-after) ∙ ap sends_only sends-after

  gave-first : command_answers t r s step (Pay channel asset amount) n ≡ sends_only letters
  gave-first =
      ap (command_gives t r s step (Pay channel asset amount) n) accepted
      ∙ ap sends_only (ap (λ (o : Option StateParts). sent_if r s channel o before) wants-it
      ∙ (cond-true (nat_lt n.used s.limit) (sends_of after.mind channel paid.state paid.signature) [] can-still
      ∙ ap (sends_to channel paid.state paid.signature) kept-after))

  sent-again : (later : ℕ) → IsSentAgain t r s step later channel asset amount n
  sent-again later =
      let gives : command_answers t r s later (Resend channel) (told_to t r s step (Pay channel asset amount) n) ≡ sends_only letters =
      ap (command_answers t r s later (Resend channel)) becomes ∙ gives-again later in
      record { k = can-pay.k; keeps = can-pay.keeps; same = gives ∙ sym gave-first; gives = gives }

pub payments_are_sent_again : PaymentsAreSentAgain
payments_are_sent_again t r s step later channel asset amount n accepted = sent-again t r s step channel asset amount n accepted later

-- ---- for as long as nothing more is signed there

-- what is kept of a channel is of the same people as before, and the state that the node signed last is the same
record SameLast (old new : Kept) : Type 0 where
  fixed : new.chain.fixed ≡ old.chain.fixed
  me : new.me ≡ old.me
  last : new.last ≡ old.last

-- the last state that the journal signed there, and what is kept of the channel
record StaysLast (channel : List ℕ) (k : Kept) (old new : NodeOf) : Type 0 where
  journal : last_signed channel new.journal ≡ last_signed channel old.journal
  kept : KeptSo channel (SameLast k) new.mind.kept

module _ (r : Rules) (channel : List ℕ) (k : Kept) (old : NodeOf) (keeps : kept_of channel old.mind.kept ≡ Some k) where
  later-last : (new : NodeOf) → Later r channel old new → StaysLast channel k old new
  later-last new still = record { journal = refl; kept = record { k = k; is = keeps; holds = record { fixed = refl; me = refl; last = refl } } }
  later-last new (event n same seen deed command l quiet journal mind) =
      let was : StaysLast channel k old n = later-last n l in
      record {
        journal =
            ap (last_signed channel) journal
            ∙ (last-append channel n.journal (record { seen = seen; deed = deed })
            ∙ (ap (λ (o : Option Signed). option_or o (last_signed channel n.journal)) quiet ∙ was.journal));
        kept =
            subst (λ (m : Mind). KeptSo channel (SameLast k) m.kept) (sym mind)
            (did-so r channel (SameLast k) (λ x j h. record { fixed = h.fixed; me = h.me; last = h.last }) n.mind was.kept deed command
            (λ x e. absurd (none-eq x (sym quiet ∙ e))));
      }
  later-last new (entry n same e l journal mind) =
      let was : StaysLast channel k old n = later-last n l in
      record {
        journal = ap (last_signed channel) journal ∙ was.journal;
        kept =
            subst (λ (m : Mind). KeptSo channel (SameLast k) m.kept) (sym mind)
            (saw-so r channel (SameLast k) (λ w j h. record { fixed = h.fixed; me = h.me; last = h.last }) n.mind was.kept e);
      }

-- the same people, so the same others
same-others : (k now : Kept) → now.chain.fixed ≡ k.chain.fixed → now.me ≡ k.me → others now ≡ others k
same-others k now fixed me = cc

module _ (t : Tables) (r : Rules) (channel : List ℕ) (old new : NodeOf) (k : Kept) (keeps : kept_of channel old.mind.kept ≡ Some k)
    (stays : StaysLast channel k old new) where
  still-taken : resend_refusal t old.mind channel (Some k) ≡ None → resend_refusal t new.mind channel (kept_of channel new.mind.kept) ≡ None
  still-taken taken = ap (resend_refusal t new.mind channel) stays.kept.is ∙ last-there _ _ stays.kept.k.last k.last stays.kept.holds.last taken
    where
      last-there : (a b : NodeRefusal) (now was : Option StateParts) → now ≡ was → fault_if (is_none was) a ≡ None → fault_if (is_none now) b ≡ None
      last-there a b now None e taken = absurd (none-eq a (sym taken))
      last-there a b now (Some x) e taken = ap (λ (o : Option StateParts). fault_if (is_none o) b) e

  still-sends : resent channel new ≡ resent channel old
  still-sends = ap (sends_again new.mind channel) stays.journal ∙ by (last_signed channel old.journal)
    where
      to : (x : Signed) → sends_of new.mind channel x.state x.signature ≡ sends_of old.mind channel x.state x.signature
      to x =
          ap (sends_to channel x.state x.signature) stays.kept.is
          ∙ (ap (map (λ person. (person, message (channel, record { state = x.state; signature = x.signature })))) (same-others k stays.kept.k stays.kept.holds.fixed stays.kept.holds.me)
          ∙ sym (ap (sends_to channel x.state x.signature) keeps))

      by : (o : Option Signed) → sends_again new.mind channel o ≡ sends_again old.mind channel o
      by None = refl
      by (Some x) = to x

pub resends_stay : ResendsStay
resends_stay t r s step later channel old new taken l = go (kept_of channel old.mind.kept) refl taken
  where
    go : (o : Option Kept) → kept_of channel old.mind.kept ≡ o → resend_refusal t old.mind channel o ≡ None
        → command_answers t r s later (Resend channel) new ≡ command_answers t r s step (Resend channel) old
    go None is e = absurd (none-eq UnknownChannel (sym e))
    go (Some k) is e =
        let stays = later-last r channel k old is new l in
        resend-gives t r s later channel new (still-taken t r channel old new k is stays e)
        ∙ (ap sends_only (still-sends t r channel old new k is stays) ∙ sym (resend-gives t r s step channel old taken))

-- ---- it signs nothing

module _ (t : Tables) (r : Rules) (s : Signing) (step : ℕ) (channel : List ℕ) (n : NodeOf) where
  -- with this refusal, or none
  abbrev answered-so : Option NodeRefusal → NodeOf
  answered-so o = paid_if t r s o (Resend channel) (asked r s step (Resend channel) o n)

  mind-stays : (o : Option NodeRefusal) → (answered-so o).mind ≡ n.mind
  mind-stays None = refl
  mind-stays (Some refusal) = refl

  used-stays : (o : Option NodeRefusal) → (answered-so o).used ≡ n.used
  used-stays None = refl
  used-stays (Some refusal) = refl

  event-more : (o : Option NodeRefusal) → (answered-so o).journal ≡ n.journal ++ record { seen = n.mind.view.count; deed = deeds.Commanded step o } ∷ []
  event-more None = refl
  event-more (Some refusal) = refl

pub resends_sign_nothing : ResendsSignNothing
resends_sign_nothing t r s step channel n =
    let o : Option NodeRefusal = command_refusal t r s.limit n.used n.mind (Resend channel) in
    record { mind = mind-stays t r s step channel n o; used = used-stays t r s step channel n o; journal = event-more t r s step channel n o }

-- ---- a message that comes twice

pub refused_messages_do_nothing : RefusedMessagesDoNothing
refused_messages_do_nothing t r bytes refusal n e = refuses t r bytes refusal n e

newest-answered : (f : FixedParts) (x : Signed) (w : Marked) → newest (answered f x w).states ≡ Some x.state
newest-answered f x w = newest-end (lowest (length w.states) (longer f x w).marks) w.states x.state (lowest-le (length w.states) (longer f x w).marks)

-- a state that was noted is the newest
noted-holds : (r : Rules) (own : Bool) (channel : List ℕ) (x : Signed) (m : Mind) (k : Kept) → kept_of channel m.kept ≡ Some k
    → extends r k.chain.fixed x (marked_of k.chain) ≡ true → Holds channel x.state (noted r own channel x m)
noted-holds r own channel x m k is tests = record {
  k = noting r own x k;
  keeps = kept_same (noting r own x) (λ j. refl) channel m.kept ∙ ap (λ (o : Option Kept). option_map (noting r own x) o) is;
  top =
      ap (λ (b : Bool). newest (cond b (answered k.chain.fixed x (marked_of k.chain)) (marked_of k.chain)).states) tests
      ∙ newest-answered k.chain.fixed x (marked_of k.chain);
}

-- a message that is taken extends what is kept
taken-extends : (t : Tables) (r : Rules) (m : Mind) (x : Message) (o : Option Kept) → kept_of x.0 m.kept ≡ o → state_refusal t r m x.0 x.1 o ≡ None → Extends r m x.0 x.1
taken-extends t r m x None is e = absurd (none-eq UnknownChannel (sym e))
taken-extends t r m x (Some k) is e =
    let after-open = rest_none (not_open t (facts_of m)) _ e in
    let after-end = rest_none (fault_if (is_ended k) (NotNext 0)) _ after-open in
    let after-turn = rest_none (fault_if (not (x.1.state.turn == next_of k)) (NotNext (next_of k))) _ after-end in
    let after-well = rest_none (fault_if (not (is_signed_well r k.chain.fixed x.1)) BadSignature) _ after-turn in
    let turn : (x.1.state.turn == next_of k) ≡ true =
    not-false (x.1.state.turn == next_of k)
    (holds_not (not (x.1.state.turn == next_of k)) (NotNext (next_of k)) (first_none (fault_if (not (x.1.state.turn == next_of k)) (NotNext (next_of k))) _ after-end)) in
    let well : is_signed_well r k.chain.fixed x.1 ≡ true =
    not-false (is_signed_well r k.chain.fixed x.1)
    (holds_not (not (is_signed_well r k.chain.fixed x.1)) BadSignature (first_none (fault_if (not (is_signed_well r k.chain.fixed x.1)) BadSignature) _ after-turn)) in
    let step : is_some (step_of r k x.1.state) ≡ false =
    holds_not (is_some (step_of r k x.1.state)) NotAStep (first_none (fault_if (is_some (step_of r k x.1.state)) NotAStep) _ after-well) in
    record {
      k = k;
      is = is;
      tests =
          and-both (x.1.state.turn == next_of k) (is_signed_well r k.chain.fixed x.1 && is_step r k.chain.fixed x.1.state (newest k.chain.states)) turn
          (and-both (is_signed_well r k.chain.fixed x.1) (is_step r k.chain.fixed x.1.state (newest k.chain.states)) well
          (is-a-step r k x.1.state (newest k.chain.states) (none-is (step_of r k x.1.state) step)));
    }

later-some : {E : Type 0} (o rest : Option E) → is_some rest ≡ true → is_some (o ⊳ rest) ≡ true
later-some None rest h = h
later-some (Some x) rest h = refl

here-some : {E : Type 0} (b : Bool) (fault : E) (rest : Option E) → b ≡ false → is_some (fault_if (not b) fault ⊳ rest) ≡ true
here-some true fault rest h = absurd cc
here-some false fault rest h = refl

not-next : (a b : ℕ) → b ≡ a + 1 → (a == b) ≡ false
not-next a b h = grind (arith, nat_tests)

-- a message whose state is held already is refused
held-refused : (t : Tables) (r : Rules) (bytes : List ℕ) (x : Message) (m : Mind) → message_of bytes ≡ Ok x → Holds x.0 x.1.state m
    → is_some (message_refusal t r m (message_of bytes)) ≡ true
held-refused t r bytes x m reads held =
    ap (λ (o : Result Message ByteFault). is_some (message_refusal t r m o)) reads
    ∙ (ap (λ (o : Option Kept). is_some (state_refusal t r m x.0 x.1 o)) held.keeps
    ∙ later-some (not_open t (facts_of m)) _
    (later-some (fault_if (is_ended held.k) (NotNext 0)) _
    (here-some (x.1.state.turn == next_of held.k) (NotNext (next_of held.k)) _ (not-next x.1.state.turn (next_of held.k) (ap next_after held.top)))))

-- what is refused changes nothing that is known
refused-stays : (r : Rules) (bytes : List ℕ) (m : Mind) (o : Option NodeRefusal) → is_some o ≡ true → did r (deeds.Handled bytes o) None m ≡ m
refused-stays r bytes m None h = absurd cc
refused-stays r bytes m (Some refusal) h = refl

pub messages_are_taken_once : MessagesAreTakenOnce
messages_are_taken_once t r bytes x n reads taken = record {
  notes = notes;
  holds = holds;
  again = again;
  twice = refused-stays r bytes (handled t r bytes n).mind (message_refusal t r (handled t r bytes n).mind (message_of bytes)) again;
}
  where
    notes : (handled t r bytes n).mind ≡ noted r false x.0 x.1 n.mind
    notes =
        ap (λ (o : Option NodeRefusal). did r (deeds.Handled bytes o) None n.mind) taken
        ∙ ap (λ (o : Result Message ByteFault). noted_message r o n.mind) reads

    there : Extends r n.mind x.0 x.1
    there = taken-extends t r n.mind x (kept_of x.0 n.mind.kept) refl (sym (ap (message_refusal t r n.mind) reads) ∙ taken)

    holds : Holds x.0 x.1.state (handled t r bytes n).mind
    holds = subst (Holds x.0 x.1.state) (sym notes) (noted-holds r false x.0 x.1 n.mind there.k there.is there.tests)

    again : is_some (message_refusal t r (handled t r bytes n).mind (message_of bytes)) ≡ true
    again = held-refused t r bytes x (handled t r bytes n).mind reads holds

-- ---- payer and payee

pub resent_payments_are_held : ResentPaymentsAreHeld
resent_payments_are_held t r s step later channel asset amount payer payee k one accepted fits taken = (subst (Holds channel x.state) (sym payer-is) payers, payees.holds)
  where
    x : Signed
    x = payment r s channel asset amount k payer

    reads : message_of (message (channel, x)) ≡ Ok (channel, x)
    reads = valid_again message_format (channel, x) fits

    payees : IsTaken t r (message (channel, x)) (channel, x) payee
    payees = messages_are_taken_once t r (message (channel, x)) (channel, x) payee reads taken

    there : Extends r payee.mind channel x
    there = taken-extends t r payee.mind (channel, x) (kept_of channel payee.mind.kept) refl (sym (ap (message_refusal t r payee.mind) reads) ∙ taken)

    -- the payee's tests pass at the payer's
    tests-too : (is_signed_well r there.k.chain.fixed x && is_step r there.k.chain.fixed x.state (newest there.k.chain.states)) ≡ true
    tests-too =
        and-right (x.state.turn == next_of there.k) (is_signed_well r there.k.chain.fixed x && is_step r there.k.chain.fixed x.state (newest there.k.chain.states)) there.tests

    same-fixed : there.k.chain.fixed ≡ k.chain.fixed
    same-fixed = ap (λ (j : Kept). j.chain.fixed) (some-eq there.k one.other (sym there.is ∙ one.keeps_too)) ∙ sym one.fixed

    well : is_signed_well r k.chain.fixed x ≡ true
    well =
        subst (λ (f : FixedParts). is_signed_well r f x ≡ true) same-fixed
        (and-left (is_signed_well r there.k.chain.fixed x) (is_step r there.k.chain.fixed x.state (newest there.k.chain.states)) tests-too)

    able : Payable t r s.limit payer.used payer.mind channel asset amount
    able = can-pay t r s step channel asset amount payer accepted

    same-kept : able.k ≡ k
    same-kept = some-eq able.k k (sym able.keeps ∙ one.keeps)

    can : can_sign r (facts_of payer.mind) channel k x.state ≡ true
    can = subst (λ (j : Kept). can_sign r (facts_of payer.mind) channel j (paying payer.mind channel asset amount j) ≡ true) same-kept able.can

    turns : Bool
    turns = (x.state.turn == next_of k) && (mover (people k.chain.fixed) x.state.turn == k.me)

    step-is : is_step r k.chain.fixed x.state (newest k.chain.states) ≡ true
    step-is =
        is-a-step r k x.state (newest k.chain.states)
        (and-right (not (is_ended k)) (is_none (step_of r k x.state))
        (and-left (follows r k x.state) (turns && is_open (stands_in (facts_of payer.mind) channel)) can))

    tests : extends r k.chain.fixed x (marked_of k.chain) ≡ true
    tests =
        and-both (x.state.turn == next_of k) (is_signed_well r k.chain.fixed x && is_step r k.chain.fixed x.state (newest k.chain.states))
        (eq-eqb (next_of k) (next_of k) refl)
        (and-both (is_signed_well r k.chain.fixed x) (is_step r k.chain.fixed x.state (newest k.chain.states)) well step-is)

    payers : Holds channel x.state (noted r true channel x payer.mind)
    payers = noted-holds r true channel x payer.mind k one.keeps tests

    payer-is : (told_to t r s later (Resend channel) (told_to t r s step (Pay channel asset amount) payer)).mind ≡ noted r true channel x payer.mind
    payer-is =
        (resends_sign_nothing t r s later channel (told_to t r s step (Pay channel asset amount) payer)).mind
        ∙ (ap (λ (n : NodeOf). n.mind) (becomes t r s step channel asset amount payer accepted)
        ∙ ap (λ (j : Kept). noted r true channel (payment r s channel asset amount j payer) payer.mind) same-kept)
