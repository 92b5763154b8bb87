-- Each call of a node adds events to its journal.
use Rattle.std.proofs.Common.{◌≡◌, ℕ, suc, ◌+◌, Bool, true, false, cond, ◌⊎◌, inl, inr, List, [], ◌∷◌, ◌++◌, length, map, reverse, refl, sym, ◌∙◌, ap, subst, arith, append_assoc, append-nil}
use Rattle.std.proofs.lemmas.List.{reverse-append, reverse-reverse}
use Rattle.std.specs.Prelude.{Option, Some, None, Result, Ok, Err, nat_lt}
use Rattle.channel_values.specs.Parts.{StateParts}
use Rattle.channel_values.specs.declared.fault.ByteFault.{ByteFault}
use Rattle.channel_values.specs.Messages.{message_of_state, message_of_challenge}
use Rattle.call_history.specs.History.{Legal}
use Rattle.call_history.specs.Reading.{message_of}
use Rattle.network.specs.Watching.{history_after}
use Rattle.network.specs.Histories.{ComeNext}
use Rattle.network.proofs.Fronts.{after_is}
use Rattle.call_history.specs.Spelling.{Message}
use Rattle.call_history.specs.declared.call.Call.{Call}
use Rattle.call_history.specs.declared.entry.Entry.{Entry}
use Rattle.call_history.specs.declared.event.Deed.{Deed}
use Rattle.call_history.specs.declared.event.Deed.TheVariants as deeds
use Rattle.call_history.specs.declared.event.Event.{Event}
use Rattle.call_history.specs.declared.event.NodeRefusal.{NodeRefusal}
use Rattle.channel_values.specs.Rules.{Rules}
use Rattle.channel_safety.specs.Journals.{In}
use Rattle.network.specs.declared.command.Command.{Command}
use Rattle.network.specs.declared.command.Command.TheVariants.{Open, OpenOn, OpenVirtual, Pay, Close, Release, Resend, Exit}
use Rattle.channel_node.proofs.Bridging.{lines-append}
use Rattle.channel_node.proofs.Places.{told-event, told-command}
use Rattle.channel_node.specs.Giving.{in_order, after_signing, after_challenging, tick_calls, after_tick}
use Rattle.channel_node.specs.Leaving.{OwnChallenge, challenge_in}
use Rattle.channel_node.specs.Minds.{Mind, noted_message, commanded, commanded_if, did}
use Rattle.channel_node.specs.Nodes.{NodeOf, told_of, handled, signed, signed_if, ticked, challenged, challenged_if, challenged_all, gave_one, gave, exited, asked, paid_if, told_to, saw_one, saw_all, watched}
use Rattle.channel_node.specs.Places.{Told, tell, told, line_of, lines_of, is_commanded}
use Rattle.channel_node.specs.Playing.{Signing, signing_of}
use Rattle.channel_node.specs.Refusing.{message_refusal, command_refusal, signs_in}
use Rattle.channel_node.specs.Tables.{Tables}
use Rattle.stage_tables.specs.Stages.{stages}
use Rattle.channel_node.specs.Exiting.{leaves}
use Rattle.node_guarantees.specs.Ways.{Numbered, key_of, ways, unless_lost, noting_if}
use Rattle.support_rules.specs.Real.{real}
use Rattle.network_rounds.specs.Journals.{event_of, event, called_by, called_in, Wrote}
use Rattle.network_node.specs.JournalLaws.{NodesWriteJournals, is_lost}

abbrev of_told : Told → Event
of_told x = record { seen = x.seen; deed = x.deed }

-- the events of these, in the order of time
abbrev events_of : List Told → List Event
events_of newer = reverse (map of_told newer)

-- The node has written these events, which had seen as many entries as it had followed; they give these calls.
record Adds (calls : List Call) (old new : NodeOf) : Type 0 where
  newer : List Told
  events : told_of new ≡ newer ++ told_of old
  journal : new.journal ≡ old.journal ++ events_of newer
  seen : (x : Told) → In x newer → x.seen ≡ old.mind.view.count
  gives : called_in (events_of newer) ≡ calls
  signer : new.signer ≡ old.signer
  lost : new.is_lost ≡ old.is_lost
  count : new.mind.view.count ≡ old.mind.view.count

in-append : {A : Type 0} (x : A) (xs ys : List A) → In x (xs ++ ys) → In x xs ⊎ In x ys
in-append x [] ys i = inr i
in-append x (z ∷ xs) ys (inl e) = inl (inl e)
in-append {A} x (z ∷ xs) ys (inr i) = go (in-append x xs ys i)
  where
    go : In x xs ⊎ In x ys → In x (z ∷ xs) ⊎ In x ys
    go (inl j) = inl (inr j)
    go (inr j) = inr j

map-append : {A B : Type 0} (f : A → B) (xs ys : List A) → map f (xs ++ ys) ≡ map f xs ++ map f ys
map-append f [] ys = refl
map-append {A} {B} f (x ∷ xs) ys = ap (λ (l : List B). f x ∷ l) (map-append f xs ys)

events-append : (xs ys : List Told) → events_of (xs ++ ys) ≡ events_of ys ++ events_of xs
events-append xs ys = ap reverse (map-append of_told xs ys) ∙ reverse-append (map of_told xs) (map of_told ys)

called-append : (xs ys : List Event) → called_in (xs ++ ys) ≡ called_in xs ++ called_in ys
called-append [] ys = refl
called-append (x ∷ xs) ys = ap (λ (l : List Call). called_by x.deed ++ l) (called-append xs ys) ∙ sym (append_assoc (called_by x.deed) (called_in xs) (called_in ys))

adds-none : (n : NodeOf) → Adds [] n n
adds-none n = record { newer = []; events = refl; journal = sym (append-nil n.journal); seen = λ x i. absurd i; gives = refl; signer = refl; lost = refl; count = refl }

adds-then : (calls more : List Call) (a b c : NodeOf) → Adds calls a b → Adds more b c → Adds (calls ++ more) a c
adds-then calls more a b c first second = record {
  newer = second.newer ++ first.newer;
  events = second.events ∙ (ap (λ (l : List Told). second.newer ++ l) first.events ∙ sym (append_assoc second.newer first.newer (told_of a)));
  journal = second.journal ∙ (ap (λ (l : List Event). l ++ events_of second.newer) first.journal
      ∙ (append_assoc a.journal (events_of first.newer) (events_of second.newer) ∙ ap (λ (l : List Event). a.journal ++ l) (sym (events-append second.newer first.newer))));
  seen = λ x i. of x (in-append x second.newer first.newer i);
  gives = ap called_in (events-append second.newer first.newer) ∙ (called-append (events_of first.newer) (events_of second.newer)
      ∙ (ap (λ (l : List Call). l ++ called_in (events_of second.newer)) first.gives ∙ ap (λ (l : List Call). calls ++ l) second.gives));
  signer = second.signer ∙ first.signer;
  lost = second.lost ∙ first.lost;
  count = second.count ∙ first.count;
}
  where
    of : (x : Told) → In x second.newer ⊎ In x first.newer → x.seen ≡ a.mind.view.count
    of x (inl i) = second.seen x i ∙ first.count
    of x (inr i) = first.seen x i

-- one event, that is no command
adds-one : (n new : NodeOf) (deed : Deed) (calls : List Call) → is_commanded deed ≡ false → called_in (event n.mind.view.count deed ∷ []) ≡ calls
    → new.journal ≡ n.journal ++ event n.mind.view.count deed ∷ [] → new.commands ≡ n.commands → new.signer ≡ n.signer → new.is_lost ≡ n.is_lost
    → new.mind.view.count ≡ n.mind.view.count → Adds calls n new
adds-one n new deed calls plain gives journal commands signer lost count = record {
  newer = tell (event n.mind.view.count deed) None ∷ [];
  events = ap (λ (j : List Event). told (reverse j) (reverse new.commands)) journal
      ∙ (ap (λ (c : List Command). told (reverse (n.journal ++ event n.mind.view.count deed ∷ [])) (reverse c)) commands
      ∙ told-event n.journal (event n.mind.view.count deed) n.commands plain);
  journal = journal;
  seen = λ x i. only x i;
  gives = gives;
  signer = signer;
  lost = lost;
  count = count;
}
  where
    only : (x : Told) → In x (tell (event n.mind.view.count deed) None ∷ []) → x.seen ≡ n.mind.view.count
    only x (inl e) = ap (λ (y : Told). y.seen) e
    only x (inr none) = absurd none

-- ---- what is known

commanded-view : (r : Rules) (command : Command) (m : Mind) → (commanded r command m).view.count ≡ m.view.count
commanded-view r (Open f outcome) m = refl
commanded-view r (OpenOn o) m = refl
commanded-view r (OpenVirtual v) m = refl
commanded-view r (Pay channel asset amount) m = refl
commanded-view r (Close channel) m = refl
commanded-view r (Release how channel) m = refl
commanded-view r (Resend channel) m = refl
commanded-view r Exit m = refl

commanded-if-view : (r : Rules) (command : Command) (refusal : Option NodeRefusal) (m : Mind) → (commanded_if r (Some command) refusal m).view.count ≡ m.view.count
commanded-if-view r command None m = commanded-view r command m
commanded-if-view r command (Some refusal) m = refl

message-view : (r : Rules) (read : Result Message ByteFault) (m : Mind) → (noted_message r read m).view.count ≡ m.view.count
message-view r (Ok message) m = refl
message-view r (Err fault) m = refl

handled-view : (r : Rules) (bytes : List ℕ) (refusal : Option NodeRefusal) (m : Mind) → (did r (deeds.Handled bytes refusal) None m).view.count ≡ m.view.count
handled-view r bytes None m = message-view r (message_of bytes) m
handled-view r bytes (Some refusal) m = refl

-- ---- calls

module _ (t : Tables) (r : Rules) where
  handled-adds : (bytes : List ℕ) (n : NodeOf) → Adds [] n (handled t r bytes n)
  handled-adds bytes n =
      adds-one n (handled t r bytes n) (deeds.Handled bytes (message_refusal t r n.mind (message_of bytes))) [] refl refl refl refl refl refl
      (handled-view r bytes (message_refusal t r n.mind (message_of bytes)) n.mind)

  signed-adds : (s : Signing) (channel : List ℕ) (o : Option StateParts) (n : NodeOf) → Adds [] n (signed_if r s channel o n)
  signed-adds s channel None n = adds-none n
  signed-adds s channel (Some state) n = go (nat_lt n.used s.limit)
    where
      go : (b : Bool) → Adds [] n (cond b (signed r s channel state n) n)
      go true = adds-one n (signed r s channel state n) (deeds.Signed channel state (s.made n.used (message_of_state (r.digest channel state)))) [] refl refl refl refl refl refl refl
      go false = adds-none n

  ticked-adds : (s : Signing) (channels : List (List ℕ)) (n : NodeOf) → Adds [] n (ticked t r s channels n)
  ticked-adds s [] n = adds-none n
  ticked-adds s (channel ∷ channels) n =
      let one : NodeOf = signed_if r s channel (signs_in t r None n.mind channel) n in
      adds-then [] [] n one (ticked t r s channels one) (signed-adds s channel (signs_in t r None n.mind channel) n) (ticked-adds s channels one)

  challenged-adds : (s : Signing) (channel : List ℕ) (o : Option OwnChallenge) (n : NodeOf) → Adds [] n (challenged_if r s channel o n)
  challenged-adds s channel None n = adds-none n
  challenged-adds s channel (Some c) n = go (nat_lt n.used s.limit)
    where
      go : (b : Bool) → Adds [] n (cond b (challenged r s channel c n) n)
      go true =
          adds-one n (challenged r s channel c n) (deeds.SignedChallenge channel c.state c.who (s.made n.used (message_of_challenge (r.digest channel c.state) c.who))) [] refl refl refl refl refl refl refl
      go false = adds-none n

  all-challenged-adds : (s : Signing) (channels : List (List ℕ)) (n : NodeOf) → Adds [] n (challenged_all r s channels n)
  all-challenged-adds s [] n = adds-none n
  all-challenged-adds s (channel ∷ channels) n =
      let one : NodeOf = challenged_if r s channel (challenge_in n.mind channel) n in
      adds-then [] [] n one (challenged_all r s channels one) (challenged-adds s channel (challenge_in n.mind channel) n) (all-challenged-adds s channels one)

  gave-adds : (calls : List Call) (n : NodeOf) → Adds calls n (gave calls n)
  gave-adds [] n = adds-none n
  gave-adds (call ∷ calls) n =
      adds-then (call ∷ []) calls n (gave_one n call) (gave calls (gave_one n call))
      (adds-one n (gave_one n call) (deeds.Called call) (call ∷ []) refl refl refl refl refl refl refl) (gave-adds calls (gave_one n call))

  exited-adds : (n : NodeOf) → Adds [] n (exited n)
  exited-adds n = record { newer = []; events = refl; journal = sym (append-nil n.journal); seen = λ x i. absurd i; gives = refl; signer = refl; lost = refl; count = refl }

  tick-adds : (s : Signing) (n : NodeOf) → Adds (tick_calls t r s n) n (after_tick t r s n)
  tick-adds s n =
      let signed_ : NodeOf = after_signing t r s n in
      let done : NodeOf = after_challenging t r s n in
      let given : NodeOf = gave (tick_calls t r s n) done in
      subst (λ (l : List Call). Adds l n (after_tick t r s n)) (append-nil (tick_calls t r s n))
      (adds-then (tick_calls t r s n) [] n given (after_tick t r s n)
      (adds-then [] (tick_calls t r s n) n done given
      (adds-then [] [] n signed_ done (ticked-adds s (in_order n.mind.parts) n) (all-challenged-adds s (in_order n.mind.parts) signed_)) (gave-adds (tick_calls t r s n) done))
      (exited-adds given))

  asked-adds : (s : Signing) (step : ℕ) (command : Command) (refusal : Option NodeRefusal) (n : NodeOf) → Adds [] n (asked r s step command refusal n)
  asked-adds s step command refusal n = record {
    newer = tell (event n.mind.view.count (deeds.Commanded step refusal)) (Some command) ∷ [];
    events = told-command n.journal (event n.mind.view.count (deeds.Commanded step refusal)) n.commands command refl;
    journal = refl;
    seen = λ x i. only x i;
    gives = refl;
    signer = refl;
    lost = refl;
    count = commanded-if-view r command refusal n.mind;
  }
    where
      only : (x : Told) → In x (tell (event n.mind.view.count (deeds.Commanded step refusal)) (Some command) ∷ []) → x.seen ≡ n.mind.view.count
      only x (inl e) = ap (λ (y : Told). y.seen) e
      only x (inr none) = absurd none

  paid-adds : (s : Signing) (refusal : Option NodeRefusal) (command : Command) (n : NodeOf) → Adds [] n (paid_if t r s refusal command n)
  paid-adds s (Some refusal) command n = adds-none n
  paid-adds s None (Open f outcome) n = adds-none n
  paid-adds s None (OpenOn o) n = adds-none n
  paid-adds s None (OpenVirtual v) n = adds-none n
  paid-adds s None (Pay channel asset amount) n = signed-adds s channel (signs_in t r (Some (Pay channel asset amount)) n.mind channel) n
  paid-adds s None (Close channel) n = adds-none n
  paid-adds s None (Release how channel) n = adds-none n
  paid-adds s None (Resend channel) n = adds-none n
  paid-adds s None Exit n = adds-none n

  told-adds : (s : Signing) (step : ℕ) (command : Command) (n : NodeOf) → Adds [] n (told_to t r s step command n)
  told-adds s step command n =
      let refusal : Option NodeRefusal = command_refusal t r s.limit n.used n.mind command in
      let one : NodeOf = asked r s step command refusal n in
      adds-then [] [] n one (paid_if t r s refusal command one) (asked-adds s step command refusal n) (paid-adds s refusal command one)

-- ---- entries

record Follows (k : ℕ) (old new : NodeOf) : Type 0 where
  journal : new.journal ≡ old.journal
  commands : new.commands ≡ old.commands
  signer : new.signer ≡ old.signer
  lost : new.is_lost ≡ old.is_lost
  count : new.mind.view.count ≡ old.mind.view.count + k

legal-end : (more g : List Entry) → Legal real (more ++ g) → Legal real g
legal-end [] g l = l
legal-end (x ∷ more) g l = legal-end more g l.0

-- an entry that comes next in a legal history has the next number
numbered : (past : List Entry) (e : Entry) (entries : List Entry) → Legal real (history_after past (e ∷ entries)) → e.number ≡ suc (length past)
numbered past e entries legal = (legal-end (reverse entries) (e ∷ past) (subst (Legal real) (after_is (e ∷ past) entries) legal)).1

-- a view takes its count from the number of the entry, which a legal history gives
follows : (past entries : List Entry) (n : NodeOf) → Legal real (history_after past entries) → length past ≡ n.mind.view.count → Follows (length entries) n (saw_all real entries n)
follows past [] n legal is = record { journal = refl; commands = refl; signer = refl; lost = refl; count = omega arith }
follows past (e ∷ entries) n legal is =
    let number = numbered past e entries legal in
    let f = follows (e ∷ past) entries (saw_one real n e) legal (sym number) in
    record { journal = f.journal; commands = f.commands; signer = f.signer; lost = f.lost; count = omega (arith, f.count, counted n e, number, is) }
  where
    counted : (n : NodeOf) (e : Entry) → (saw_one real n e).mind.view.count ≡ e.number
    counted n e = refl

-- ---- a node with its number

event-lines : (key : List ℕ) (newer : List Told) → map event_of (lines_of key newer) ≡ map of_told newer
event-lines key [] = refl
event-lines key (x ∷ newer) = ap (λ (l : List Event). of_told x ∷ l) (event-lines key newer)

-- what is added is written
wrote : (calls : List Call) (p q : Numbered) → p.node.is_lost ≡ false → q.number ≡ p.number → (a : Adds calls p.node q.node) → Wrote ways is_lost (events_of a.newer) p q
wrote calls p q well number a = record {
  number = number;
  key = ap key_of a.signer;
  well = a.lost ∙ well;
  journal = a.journal;
  gained = lines_of (key_of p.node.signer) a.newer;
  lines = ap (λ (s : _). lines_of (key_of s) (told_of q.node)) a.signer ∙ (ap (lines_of (key_of p.node.signer)) a.events ∙ lines-append (key_of p.node.signer) a.newer (told_of p.node));
  are = event-lines (key_of p.node.signer) a.newer ∙ sym (reverse-reverse (map of_told a.newer));
}

-- where memory hasn't failed it, a call does what it does
does : (change : NodeOf → NodeOf) (p : Numbered) → p.node.is_lost ≡ false → unless_lost change p ≡ record p { node = change p.node }
does change p well = ap (λ (b : Bool). cond b p (record p { node = change p.node })) well

seen-is : (p : Numbered) → p.node.is_lost ≡ false → ways.seen p ≡ p.node.mind.view.count
seen-is p well = ap (λ (b : Bool). cond b 0 p.node.mind.view.count) well

in-map : {A B : Type 0} (f : A → B) (y : B) (xs : List A) → In y (map f xs) → (x : A) × In x xs × (y ≡ f x)
in-map f y [] i = absurd i
in-map f y (x ∷ xs) (inl e) = (x, inl refl, e)
in-map f y (x ∷ xs) (inr i) = let r = in-map f y xs i in (r.0, inr r.1, r.2)

in-reverse : {A : Type 0} (x : A) (xs : List A) → In x (reverse xs) → In x xs
in-reverse x [] i = absurd i
in-reverse {A} x (y ∷ xs) i = go (in-append x (reverse xs) (y ∷ []) (subst (λ (l : List A). In x l) (reverse-append (y ∷ []) xs) i)) (λ j. in-reverse x xs j)
  where
    go : In x (reverse xs) ⊎ In x (y ∷ []) → (In x (reverse xs) → In x xs) → In x (y ∷ xs)
    go (inl j) rest = inr (rest j)
    go (inr (inl e)) rest = inl e
    go (inr (inr none)) rest = absurd none

each-seen : (calls : List Call) (p : Numbered) (new : NodeOf) (a : Adds calls p.node new) → p.node.is_lost ≡ false → (x : Event) → In x (events_of a.newer) → x.seen ≡ ways.seen p
each-seen calls p new a well x i =
    let m = in-map of_told x a.newer (in-reverse x (map of_told a.newer) i) in
    ap (λ (y : Event). y.seen) m.2 ∙ (a.seen m.0 m.1 ∙ sym (seen-is p well))

with-node : Numbered → NodeOf → Numbered
with-node p n = record { number = p.number; node = n; exits = p.exits }

-- noting an exit changes no node
noted-node : (b : Bool) (p : Numbered) → (noting_if b p).node ≡ p.node
noted-node true p = refl
noted-node false p = refl

noted-number : (b : Bool) (p : Numbered) → (noting_if b p).number ≡ p.number
noted-number true p = refl
noted-number false p = refl

-- the node of a number after a call, where memory hasn't failed it
after : (change : NodeOf → NodeOf) (p : Numbered) → p.node.is_lost ≡ false → (unless_lost change p).node ≡ change p.node
after change p well = ap (λ (q : Numbered). q.node) (does change p well)

after-number : (change : NodeOf → NodeOf) (p : Numbered) → (unless_lost change p).number ≡ p.number
unfolding with-node
after-number change p = go p.node.is_lost
  where
    go : (b : Bool) → (cond b p (with-node p (change p.node))).number ≡ p.number
    go true = refl
    go false = refl

-- a call that adds events
record Told-of (calls : List Call) (p q : Numbered) : Type 0 where
  events : List Event
  wrote_all : Wrote ways is_lost events p q
  same : ways.seen q ≡ ways.seen p
  each : (x : Event) → In x events → x.seen ≡ ways.seen p
  gives : called_in events ≡ calls

tells : (calls : List Call) (p q : Numbered) (new : NodeOf) → p.node.is_lost ≡ false → q.number ≡ p.number → q.node ≡ new → Adds calls p.node new → Told-of calls p q
tells calls p q new well number is added =
    let a : Adds calls p.node q.node = subst (Adds calls p.node) (sym is) added in record {
      events = events_of a.newer;
      wrote_all = wrote calls p q well number a;
      same = seen-is q (a.lost ∙ well) ∙ (a.count ∙ sym (seen-is p well));
      each = each-seen calls p q.node a well;
      gives = a.gives;
    }

-- a call that adds one event
writes-one : (p q : Numbered) (new : NodeOf) (seen : ℕ) (deed : Deed) → p.node.is_lost ≡ false → q.number ≡ p.number → q.node ≡ new → is_commanded deed ≡ false
    → new.journal ≡ p.node.journal ++ event seen deed ∷ [] → new.commands ≡ p.node.commands → new.signer ≡ p.node.signer → new.is_lost ≡ p.node.is_lost
    → new.mind.view.count ≡ p.node.mind.view.count → Wrote ways is_lost (event seen deed ∷ []) p q × (ways.seen q ≡ ways.seen p)
writes-one p q new seen deed well number is plain journal commands signer lost count = (
  record {
    number = number;
    key = ap (λ (n : NodeOf). key_of n.signer) is ∙ ap key_of signer;
    well = lost_is;
    journal = ap (λ (n : NodeOf). n.journal) is ∙ journal;
    gained = line_of (key_of p.node.signer) (tell (event seen deed) None) ∷ [];
    lines = ap (λ (n : NodeOf). lines_of (key_of n.signer) (told_of n)) is ∙ (ap (λ (s : _). lines_of (key_of s) (told_of new)) signer ∙ ap (lines_of (key_of p.node.signer)) told_is);
    are = refl;
  },
  seen-is q lost_is ∙ (ap (λ (n : NodeOf). n.mind.view.count) is ∙ (count ∙ sym (seen-is p well))),
)
  where
    lost_is : q.node.is_lost ≡ false
    lost_is = ap (λ (n : NodeOf). n.is_lost) is ∙ (lost ∙ well)

    told_is : told_of new ≡ tell (event seen deed) None ∷ told_of p.node
    told_is =
        ap (λ (j : List Event). told (reverse j) (reverse new.commands)) journal
        ∙ (ap (λ (c : List Command). told (reverse (p.node.journal ++ event seen deed ∷ [])) (reverse c)) commands
        ∙ told-event p.node.journal (event seen deed) p.node.commands plain)

saw-of : (h entries : List Entry) (p : Numbered) → Legal real h → ComeNext h entries (ways.seen p) → p.node.is_lost ≡ false
    → Wrote ways is_lost [] p (ways.saw entries p) × (ways.seen (ways.saw entries p) ≡ ways.seen p + length entries)
saw-of h entries p legal next well = (
  record {
    number = after-number (saw_all real entries) p;
    key = ap (λ (n : NodeOf). key_of n.signer) is ∙ ap key_of f.signer;
    well = lost_is;
    journal = ap (λ (n : NodeOf). n.journal) is ∙ (f.journal ∙ sym (append-nil p.node.journal));
    gained = [];
    lines = ap (λ (n : NodeOf). lines_of (key_of n.signer) (told_of n)) is ∙ (ap (λ (s : _). lines_of (key_of s) (told_of new)) f.signer
        ∙ ap (lines_of (key_of p.node.signer)) (ap (λ (j : List Event). told (reverse j) (reverse new.commands)) f.journal ∙ ap (λ (c : List Command). told (reverse p.node.journal) (reverse c)) f.commands));
    are = refl;
  },
  seen-is (ways.saw entries p) lost_is ∙ (ap (λ (n : NodeOf). n.mind.view.count) is ∙ (f.count ∙ ap (λ (k : ℕ). k + length entries) (sym (seen-is p well)))),
)
  where
    new : NodeOf
    new = saw_all real entries p.node

    f : Follows (length entries) p.node new
    f = follows next.1 entries p.node (legal-end next.0 (history_after next.1 entries) (subst (Legal real) next.2 legal)) (next.3 ∙ seen-is p well)

    is : (ways.saw entries p).node ≡ new
    is = after (saw_all real entries) p well

    lost_is : (ways.saw entries p).node.is_lost ≡ false
    lost_is = ap (λ (n : NodeOf). n.is_lost) is ∙ (f.lost ∙ well)

handled-of : (bytes : List ℕ) (p : Numbered) → p.node.is_lost ≡ false
    → Wrote ways is_lost (event (ways.seen p) (deeds.Handled bytes (ways.refuses bytes p)) ∷ []) p (ways.handled bytes p) × (ways.seen (ways.handled bytes p) ≡ ways.seen p)
handled-of bytes p well =
    let refusal = message_refusal stages real p.node.mind (message_of bytes) in
    subst (λ (k : ℕ). Wrote ways is_lost (event k (deeds.Handled bytes refusal) ∷ []) p (ways.handled bytes p) × (ways.seen (ways.handled bytes p) ≡ ways.seen p)) (sym (seen-is p well))
    (writes-one p (ways.handled bytes p) (handled stages real bytes p.node) p.node.mind.view.count (deeds.Handled bytes refusal) well (after-number (handled stages real bytes) p)
    (after (handled stages real bytes) p well) refl refl refl refl refl (handled-view real bytes refusal p.node.mind))

commanded-of : (step : ℕ) (command : Command) (p : Numbered) → p.node.is_lost ≡ false → Told-of [] p (ways.commanded step command p)
commanded-of step command p well =
    tells [] p (ways.commanded step command p) (told_to stages real (signing_of p.node.signer) step command p.node) well
    (noted-number (leaves command) (unless_lost change p) ∙ after-number change p)
    (noted-node (leaves command) (unless_lost change p) ∙ after change p well)
    (told-adds stages real (signing_of p.node.signer) step command p.node)
  where
    change : NodeOf → NodeOf
    change n = told_to stages real (signing_of n.signer) step command n

ticked-of : (p : Numbered) → p.node.is_lost ≡ false → Told-of (ways.gives p).calls p (ways.ticked p)
ticked-of p well =
    tells (tick_calls stages real (signing_of p.node.signer) p.node) p (ways.ticked p) (after_tick stages real (signing_of p.node.signer) p.node) well
    (after-number change p) (after change p well) (tick-adds stages real (signing_of p.node.signer) p.node)
  where
    change : NodeOf → NodeOf
    change n = after_tick stages real (signing_of n.signer) n

watched-of : (seen place : ℕ) (calls : List Call) (p : Numbered) → p.node.is_lost ≡ false
    → Wrote ways is_lost (event seen (deeds.Watched place calls) ∷ []) p (ways.watched seen place calls p) × (ways.seen (ways.watched seen place calls p) ≡ ways.seen p)
watched-of seen place calls p well =
    writes-one p (ways.watched seen place calls p) (watched seen place calls p.node) seen (deeds.Watched place calls) well (after-number (watched seen place calls) p)
    (after (watched seen place calls) p well) refl refl refl refl refl refl

pub nodes_write_journals : NodesWriteJournals
nodes_write_journals = record {
  fresh = λ number signer. (refl, refl, refl);
  saw = saw-of;
  handled = handled-of;
  commanded = λ step command p well. let t = commanded-of step command p well in (t.events, t.wrote_all, t.same, t.each);
  ticked = λ p well. let t = ticked-of p well in (t.events, t.wrote_all, t.same, t.each, t.gives);
  watched = watched-of;
}
