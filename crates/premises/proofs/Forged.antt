-- The test that nothing is forged shows it.
use Rattle.std.proofs.Common.{◌≡◌, ℕ, Bool, true, ◌&&◌, List, [], ◌∷◌, ◌++◌, ◌⊎◌, inl, inr, length, refl, sym, ◌∙◌, ap, subst, nat_le, Option, Some, None, Result, Ok, Err}
use Rattle.std.specs.List.{list_all}
use Rattle.channel_values.specs.Parts.{FixedParts}
use Rattle.channel_values.specs.declared.chain.Signed.{Signed}
use Rattle.channel_values.specs.declared.fault.ByteFault.{ByteFault}
use Rattle.channel_values.specs.Messages.{message_of_challenge}
use Rattle.channel_values.specs.Rules.{Rules, top_digest}
use Rattle.call_history.proofs.Names.{same_bytes, bytes_eq_self}
use Rattle.call_history.specs.Rows.{fixed_of}
use Rattle.call_history.specs.Spelling.{Message}
use Rattle.call_history.specs.Reading.{message_of}
use Rattle.call_history.specs.declared.call.ChallengeCall.{ChallengeCall}
use Rattle.call_history.specs.declared.call.Call.TheVariants.{Challenge}
use Rattle.call_history.specs.declared.call.Op.{Op}
use Rattle.call_history.specs.declared.call.Op.TheVariants as ops
use Rattle.call_history.specs.declared.entry.Entry.{Entry}
use Rattle.call_history.specs.declared.event.Deed.{Deed}
use Rattle.call_history.specs.declared.event.Deed.TheVariants as deeds
use Rattle.call_history.specs.declared.event.NodeRefusal.{NodeRefusal}
use Rattle.channel_safety.specs.Journals.{In, Line}
use Rattle.channel_safety.specs.Strings.{signed_in, string_of, WasSigned, WasSignedBy}
use Rattle.channel_safety.specs.Premises.{Unforged}
use Rattle.premises.specs.Own.{Inscription, on_state, on_states, on_challenge, in_op, in_message, in_deed, is_string, signs, is_signed, is_signed_by}
use Rattle.premises.specs.Forgery.{is_own, entries_are_own, messages_are_own, is_unforged, ForgeryIsTold}
use Rattle.channel_safety.proofs.Members.{In-append_right, In-append_cases, In-map, mapped}
use Rattle.channel_safety.proofs.Tests.{and-left, and-right, and-both, le-true, true-le}
use Rattle.premises.proofs.ListTests.{never, found, any-in, all-pass, pass-all, own-if, if-own}

-- ---- which line signed a string

string-is : (o : Option (List ℕ)) (m : List ℕ) → is_string o m ≡ true → o ≡ Some m
string-is None m h = never h
string-is (Some own) m h = ap Some (same_bytes own m h)

is-string : (o : Option (List ℕ)) (m : List ℕ) → o ≡ Some m → is_string o m ≡ true
is-string o m e = ap (λ (y : Option (List ℕ)). is_string y m) e ∙ bytes_eq_self m

was-signed : (r : Rules) (journal : List Line) (m : List ℕ) → is_signed r journal m ≡ true → WasSigned r journal m
was-signed r journal m h = let f = found (signs r m) journal h in record { line = f.item; there = f.there; is = string-is (string_of r f.item.deed) m f.passes }

is-signed : (r : Rules) (journal : List Line) (m : List ℕ) → WasSigned r journal m → is_signed r journal m ≡ true
is-signed r journal m w = any-in (signs r m) journal w.line w.there (is-string (string_of r w.line.deed) m w.is)

was-signed_by : (r : Rules) (journal : List Line) (seen : ℕ) (m : List ℕ) → is_signed_by r journal seen m ≡ true → WasSignedBy r journal seen m
was-signed_by r journal seen m h =
    let f = found (λ (x : Line). nat_le x.seen seen && signs r m x) journal h in
    let a = and-left (nat_le f.item.seen seen) (signs r m f.item) f.passes in
    let b = and-right (nat_le f.item.seen seen) (signs r m f.item) f.passes in
    record {
      signed = record { line = f.item; there = f.there; is = string-is (string_of r f.item.deed) m b };
      early = le-true f.item.seen seen a;
    }

is-signed_by : (r : Rules) (journal : List Line) (seen : ℕ) (m : List ℕ) → WasSignedBy r journal seen m → is_signed_by r journal seen m ≡ true
is-signed_by r journal seen m w =
    any-in (λ (x : Line). nat_le x.seen seen && signs r m x) journal w.signed.line w.signed.there
    (and-both (nat_le w.signed.line.seen seen) (signs r m w.signed.line) (true-le w.signed.line.seen seen w.early) (is-string (string_of r w.signed.line.deed) m w.signed.is))

-- ---- which strings an op and a message have

record Challenged (r : Rules) (op : Op) (x : Inscription) : Type 0 where
  pub call : ChallengeCall
  pub is : op ≡ ops.Call (Challenge call)
  pub same : x ≡ record { message = message_of_challenge (top_digest r call.chain.fixed call.chain.states) call.challenger; signature = call.signature }

challenged : (r : Rules) (op : Op) (x : Inscription) → In x (on_challenge r op) → Challenged r op x
challenged r (ops.Call (Challenge k)) x (inl e) = record { call = k; is = refl; same = e }
challenged r (ops.Call (Challenge k)) x (inr i) = absurd i
challenged r _ x i = absurd i

record OnState (r : Rules) (o : Option FixedParts) (signed : List Signed) (x : Inscription) : Type 0 where
  pub fixed : FixedParts
  pub is : o ≡ Some fixed
  pub state : Signed
  pub there : In state signed
  pub same : x ≡ on_state r (r.named fixed) state

of-state : (r : Rules) (o : Option FixedParts) (signed : List Signed) (x : Inscription) → In x (on_states r o signed) → OnState r o signed x
of-state r None signed x i = absurd i
of-state r (Some f) signed x i = let m = mapped (on_state r (r.named f)) x signed i in record { fixed = f; is = refl; state = m.from; there = m.there; same = m.is }

record InMessage (r : Rules) (d : Deed) (x : Inscription) : Type 0 where
  pub bytes : List ℕ
  pub refusal : Option NodeRefusal
  pub is : d ≡ deeds.Handled bytes refusal
  pub message : Message
  pub reads : message_of bytes ≡ Ok message
  pub same : x ≡ on_state r message.0 message.1

handled : (r : Rules) (d : Deed) (x : Inscription) → In x (in_deed r d) → InMessage r d x
handled r (deeds.Handled bytes refusal) x i = go (message_of bytes) refl i
  where
    go : (o : Result Message ByteFault) → message_of bytes ≡ o → In x (in_message r o) → InMessage r (deeds.Handled bytes refusal) x
    go (Ok m) e (inl s) = record { bytes = bytes; refusal = refusal; is = refl; message = m; reads = e; same = s }
    go (Ok m) e (inr j) = absurd j
    go (Err f) e j = absurd j
handled r _ x i = absurd i

-- ---- the test of entries

entries-at : (r : Rules) (key : List ℕ) (journal : List Line) (later past : List Entry) (e : Entry) → entries_are_own r key journal (later ++ e ∷ past) ≡ true
    → list_all (is_own r key (is_signed_by r journal (length past))) (in_op r e.op) ≡ true
entries-at r key journal [] past e h =
    and-left (list_all (is_own r key (is_signed_by r journal (length past))) (in_op r e.op)) (entries_are_own r key journal past) h
entries-at r key journal (q ∷ later) past e h =
    entries-at r key journal later past e
    (and-right (list_all (is_own r key (is_signed_by r journal (length (later ++ e ∷ past)))) (in_op r q.op)) (entries_are_own r key journal (later ++ e ∷ past)) h)

entries-all : (r : Rules) (key : List ℕ) (journal : List Line) (h : List Entry)
    → ((later past : List Entry) (e : Entry) → h ≡ later ++ e ∷ past → list_all (is_own r key (is_signed_by r journal (length past))) (in_op r e.op) ≡ true)
    → entries_are_own r key journal h ≡ true
entries-all r key journal [] at = refl
entries-all r key journal (q ∷ past) at =
    and-both (list_all (is_own r key (is_signed_by r journal (length past))) (in_op r q.op)) (entries_are_own r key journal past) (at [] past q refl)
    (entries-all r key journal past (λ later older e s. at (q ∷ later) older e (ap (λ (z : List Entry). q ∷ z) s)))

-- ---- the test of messages

messages-at : (r : Rules) (key : List ℕ) (newer front : List Line) (x : Line) → messages_are_own r key (newer ++ x ∷ front) ≡ true
    → list_all (is_own r key (is_signed r front)) (in_deed r x.deed) ≡ true
messages-at r key [] front x h = and-left (list_all (is_own r key (is_signed r front)) (in_deed r x.deed)) (messages_are_own r key front) h
messages-at r key (y ∷ newer) front x h =
    messages-at r key newer front x
    (and-right (list_all (is_own r key (is_signed r (newer ++ x ∷ front))) (in_deed r y.deed)) (messages_are_own r key (newer ++ x ∷ front)) h)

messages-all : (r : Rules) (key : List ℕ) (journal : List Line)
    → ((newer front : List Line) (x : Line) → journal ≡ newer ++ x ∷ front → list_all (is_own r key (is_signed r front)) (in_deed r x.deed) ≡ true)
    → messages_are_own r key journal ≡ true
messages-all r key [] at = refl
messages-all r key (y ∷ front) at =
    and-both (list_all (is_own r key (is_signed r front)) (in_deed r y.deed)) (messages_are_own r key front) (at [] front y refl)
    (messages-all r key front (λ newer older x s. at (y ∷ newer) older x (ap (λ (z : List Line). y ∷ z) s)))

-- ---- both

-- what verifies among these strings passes the test
verified-passes : (r : Rules) (key : List ℕ) (own : List ℕ → Bool) (xs : List Inscription) (x : Inscription)
    → list_all (is_own r key own) xs ≡ true → In x xs → r.verifies key x.message x.signature ≡ true → own x.message ≡ true
verified-passes r key own xs x h i v = own-if (r.verifies key x.message x.signature) (own x.message) (all-pass (is_own r key own) xs x h i) v

told : (r : Rules) (key : List ℕ) (h : List Entry) (journal : List Line)
    → entries_are_own r key journal h ≡ true → messages_are_own r key journal ≡ true → Unforged r key h journal
told r key h journal a b =
    record {
      states =
          λ later past e f s split fixed i v.
          let x : Inscription = on_state r (r.named f) s in
          let there : In x (on_states r (fixed_of e.op) (signed_in e.op)) =
          subst (λ (o : Option FixedParts). In x (on_states r o (signed_in e.op))) (sym fixed) (In-map (on_state r (r.named f)) s (signed_in e.op) i) in
          was-signed_by r journal (length past) x.message
          (verified-passes r key (is_signed_by r journal (length past)) (in_op r e.op) x
          (entries-at r key journal later past e (ap (entries_are_own r key journal) (sym split) ∙ a))
          (In-append_right x (on_challenge r e.op) (on_states r (fixed_of e.op) (signed_in e.op)) there) v);
      challenges =
          λ later past e chain who signature split is v.
          let x : Inscription = record { message = message_of_challenge (top_digest r chain.fixed chain.states) who; signature = signature } in
          let there : In x (in_op r e.op) = subst (λ (op : Op). In x (in_op r op)) (sym is) (inl refl) in
          was-signed_by r journal (length past) x.message
          (verified-passes r key (is_signed_by r journal (length past)) (in_op r e.op) x
          (entries-at r key journal later past e (ap (entries_are_own r key journal) (sym split) ∙ a)) there v);
      messages =
          λ newer front x bytes refusal channel s split is reads v.
          let y : Inscription = on_state r channel s in
          let told_there : In y (in_message r (message_of bytes)) =
          subst (λ (o : Result Message ByteFault). In y (in_message r o)) (sym reads) (inl refl) in
          let there : In y (in_deed r x.deed) = subst (λ (d : Deed). In y (in_deed r d)) (sym is) told_there in
          was-signed r front y.message
          (verified-passes r key (is_signed r front) (in_deed r x.deed) y
          (messages-at r key newer front x (ap (messages_are_own r key) (sym split) ∙ b)) there v);
    }

entry-passes : (r : Rules) (key : List ℕ) (h : List Entry) (journal : List Line) (u : Unforged r key h journal) (later past : List Entry) (e : Entry)
    → h ≡ later ++ e ∷ past → (x : Inscription) → In x (in_op r e.op) → r.verifies key x.message x.signature ≡ true
    → is_signed_by r journal (length past) x.message ≡ true
entry-passes r key h journal u later past e split x i v = go (In-append_cases x (on_challenge r e.op) (on_states r (fixed_of e.op) (signed_in e.op)) i)
  where
    verified : (y : Inscription) → x ≡ y → r.verifies key y.message y.signature ≡ true
    verified y s = ap (λ (z : Inscription). r.verifies key z.message z.signature) (sym s) ∙ v

    back : (y : Inscription) → x ≡ y → is_signed_by r journal (length past) y.message ≡ true → is_signed_by r journal (length past) x.message ≡ true
    back y s b = ap (λ (z : Inscription). is_signed_by r journal (length past) z.message) s ∙ b

    go : In x (on_challenge r e.op) ⊎ In x (on_states r (fixed_of e.op) (signed_in e.op)) → is_signed_by r journal (length past) x.message ≡ true
    go (inl j) =
        let c = challenged r e.op x j in
        let k = c.call in
        let m = message_of_challenge (top_digest r k.chain.fixed k.chain.states) k.challenger in
        let y : Inscription = record { message = m; signature = k.signature } in
        back y c.same (is-signed_by r journal (length past) m (u.challenges later past e k.chain k.challenger k.signature split c.is (verified y c.same)))
    go (inr j) =
        let c = of-state r (fixed_of e.op) (signed_in e.op) x j in
        let y : Inscription = on_state r (r.named c.fixed) c.state in
        back y c.same (is-signed_by r journal (length past) y.message (u.states later past e c.fixed c.state split c.is c.there (verified y c.same)))

message-passes : (r : Rules) (key : List ℕ) (h : List Entry) (journal : List Line) (u : Unforged r key h journal) (newer front : List Line) (x : Line)
    → journal ≡ newer ++ x ∷ front → (y : Inscription) → In y (in_deed r x.deed) → r.verifies key y.message y.signature ≡ true
    → is_signed r front y.message ≡ true
message-passes r key h journal u newer front x split y i v =
    let c = handled r x.deed y i in
    let z : Inscription = on_state r c.message.0 c.message.1 in
    let verified : r.verifies key z.message z.signature ≡ true = ap (λ (w : Inscription). r.verifies key w.message w.signature) (sym c.same) ∙ v in
    ap (λ (w : Inscription). is_signed r front w.message) c.same
    ∙ is-signed r front z.message (u.messages newer front x c.bytes c.refusal c.message.0 c.message.1 split c.is c.reads verified)

passes : (r : Rules) (key : List ℕ) (h : List Entry) (journal : List Line) → Unforged r key h journal → is_unforged r key h journal ≡ true
passes r key h journal u =
    and-both (entries_are_own r key journal h) (messages_are_own r key journal)
    (entries-all r key journal h
    (λ later past e split. pass-all (is_own r key (is_signed_by r journal (length past))) (in_op r e.op)
    (λ x i. if-own (r.verifies key x.message x.signature) (is_signed_by r journal (length past) x.message) (entry-passes r key h journal u later past e split x i))))
    (messages-all r key journal
    (λ newer front x split. pass-all (is_own r key (is_signed r front)) (in_deed r x.deed)
    (λ y i. if-own (r.verifies key y.message y.signature) (is_signed r front y.message) (message-passes r key h journal u newer front x split y i))))

told-whole : (r : Rules) (key : List ℕ) (h : List Entry) (journal : List Line) → is_unforged r key h journal ≡ true → Unforged r key h journal
told-whole r key h journal t =
    told r key h journal (and-left (entries_are_own r key journal h) (messages_are_own r key journal) t) (and-right (entries_are_own r key journal h) (messages_are_own r key journal) t)

pub forgery-told : ForgeryIsTold
forgery-told = λ r key h journal. (told-whole r key h journal, passes r key h journal)
