-- Why a state was noted: its stage took it, or wished it and the node signed it.
use Rattle.std.proofs.Common.{◌≡◌, ℕ, Bool, true, false, cond, ◌&&◌, not, ◌⊎◌, List, inl, inr, refl, sym, ◌∙◌, ap, subst}
use Rattle.std.specs.Prelude.{◌==◌, Option, Some, None, is_none, is_some, Result, Ok, Err}
use Rattle.std.specs.Str.{bytes_eq}
use Rattle.channel_values.specs.Parts.{StateParts}
use Rattle.channel_values.specs.declared.chain.Signed.{Signed}
use Rattle.channel_values.specs.declared.fault.ByteFault.{ByteFault}
use Rattle.channel_values.specs.Rows.{mover}
use Rattle.channel_values.specs.Rules.{Rules, people, is_signed_well}
use Rattle.channel_values.specs.Words.{fault_if, ◌⊳◌}
use Rattle.call_history.proofs.Names.{same_bytes}
use Rattle.call_history.specs.Reading.{message_of}
use Rattle.call_history.specs.Spelling.{Message}
use Rattle.call_history.specs.declared.entry.Entry.{Entry}
use Rattle.call_history.specs.declared.event.Deed.{Deed}
use Rattle.call_history.specs.declared.event.Deed.TheVariants as deeds
use Rattle.call_history.specs.declared.event.NodeRefusal.{NodeRefusal}
use Rattle.call_history.specs.declared.event.NodeRefusal.TheVariants.{NotNext, BadSignature, NotAStep, NotWanted}
use Rattle.channel_store.specs.Keeping.{is_ended, next_of, step_of}
use Rattle.channel_store.specs.Storing.{kept_of}
use Rattle.channel_store.specs.declared.kept.Kept.{Kept}
use Rattle.channel_safety.specs.Journals.{some_if, made_in, told_in, noted_in}
use Rattle.network.specs.declared.command.Command.{Command}
use Rattle.network.specs.declared.command.Command.TheVariants as commands
use Rattle.channel_node.specs.Minds.{Mind, facts_of}
use Rattle.channel_node.specs.Playing.{Signing, Allowed}
use Rattle.channel_node.specs.Refusing.{is_open, stands_in, not_open, has_left, stage_of, state_refusal, message_refusal, paying, wish_staying, wish, follows, can_sign, if_signable, signs_of, signs_in}
use Rattle.channel_node.specs.Tables.{Tables}
use Rattle.channel_safety.proofs.Tests.{some-eq, none-eq, and-left, and-right, not-false, eqb-true}
use Rattle.channel_node.proofs.Allowing.{first_none, rest_none, holds_not}

-- a payment in the channel waits
pub record IsPaid (waits : Option Command) (c : List ℕ) : Type 0 where
  pub paid : List ℕ
  pub asset : ℕ
  pub amount : ℕ
  pub is : waits ≡ Some (commands.Pay paid asset amount)
  pub here : bytes_eq paid c ≡ true

-- or the stage wanted the state
abbrev pub IsWished : Tables → Option Command → Mind → List ℕ → StateParts → Type 0
IsWished t waits m c s = IsPaid waits c ⊎ (t.wanted (facts_of m) c ≡ Some s)

-- the state of a channel that is kept, which comes next there, and why it was noted
pub record IsNoted (t : Tables) (waits : Option Command) (m : Mind) (c : List ℕ) (s : StateParts) : Type 0 where
  pub k : Kept
  pub keeps : kept_of c m.kept ≡ Some k
  pub next : s.turn ≡ next_of k
  pub why : (t.accepts (facts_of m) c s ≡ true) ⊎ IsWished t waits m c s

-- the same of a state that was signed
pub record IsMade (t : Tables) (waits : Option Command) (m : Mind) (c : List ℕ) (s : StateParts) : Type 0 where
  pub k : Kept
  pub keeps : kept_of c m.kept ≡ Some k
  pub next : s.turn ≡ next_of k
  pub why : IsWished t waits m c s

made-noted : (t : Tables) (waits : Option Command) (m : Mind) (c : List ℕ) (s : StateParts) → IsMade t waits m c s → IsNoted t waits m c s
made-noted t waits m c s made = record { k = made.k; keeps = made.keeps; next = made.next; why = inr made.why }

-- ---- what is signed

wished : (t : Tables) (waits : Option Command) (m : Mind) (c : List ℕ) (k : Kept) (s : StateParts) → wish t waits m c k ≡ Some s → IsWished t waits m c s
wished t waits m c k s e = by waits (staying m.left (wish_staying t waits m c k) e)
  where
    staying : (left : Bool) (w : Option StateParts) → cond left None w ≡ Some s → w ≡ Some s
    staying true w e = absurd (none-eq s e)
    staying false w e = e

    clear : (b : Bool) (w : Option StateParts) → cond b w None ≡ Some s → w ≡ Some s
    clear true w e = e
    clear false w e = absurd (none-eq s e)

    wants : cond (is_none (not_open t (facts_of m))) (t.wanted (facts_of m) c) None ≡ Some s → t.wanted (facts_of m) c ≡ Some s
    wants e = clear (is_none (not_open t (facts_of m))) (t.wanted (facts_of m) c) e

    by : (o : Option Command) → wish_staying t o m c k ≡ Some s → IsWished t o m c s
    by None e = inr (wants e)
    by (Some (commands.Pay paid asset amount)) e = go (bytes_eq paid c) refl e
      where
        go : (b : Bool) → bytes_eq paid c ≡ b → cond b (Some (paying m c asset amount k)) None ≡ Some s → IsWished t (Some (commands.Pay paid asset amount)) m c s
        go true is e = inl (record { paid = paid; asset = asset; amount = amount; is = refl; here = is })
        go false is e = absurd (none-eq s e)
    by (Some (commands.Open f outcome)) e = inr (wants e)
    by (Some (commands.OpenOn o)) e = inr (wants e)
    by (Some (commands.OpenVirtual v)) e = inr (wants e)
    by (Some (commands.Close channel)) e = inr (wants e)
    by (Some (commands.Release how channel)) e = inr (wants e)
    by (Some (commands.Resend channel)) e = inr (wants e)
    by (Some commands.Exit) e = inr (wants e)

signs : (t : Tables) (r : Rules) (waits : Option Command) (m : Mind) (c : List ℕ) (s : StateParts) → signs_in t r waits m c ≡ Some s → IsMade t waits m c s
signs t r waits m c s e = by (kept_of c m.kept) refl e
  where
    by : (o : Option Kept) → kept_of c m.kept ≡ o → signs_of t r waits m c o ≡ Some s → IsMade t waits m c s
    by None is e = absurd (none-eq s e)
    by (Some k) is e = go (wish t waits m c k) refl e
      where
        turns : StateParts → Bool
        turns x = (x.turn == next_of k) && (mover (people k.chain.fixed) x.turn == k.me)

        test : (x : StateParts) (b : Bool) → can_sign r (facts_of m) c k x ≡ b → wish t waits m c k ≡ Some x → cond b (Some x) None ≡ Some s → IsMade t waits m c s
        test x false can w e = absurd (none-eq s e)
        test x true can w e =
            let same : x ≡ s = some-eq x s e in
            let comes : turns x ≡ true = and-left (turns x) (is_open (stands_in (facts_of m) c)) (and-right (follows r k x) (turns x && is_open (stands_in (facts_of m) c)) can) in
            record {
              k = k;
              keeps = is;
              next = ap (λ (y : StateParts). y.turn) (sym same) ∙ eqb-true x.turn (next_of k) (and-left (x.turn == next_of k) (mover (people k.chain.fixed) x.turn == k.me) comes);
              why = wished t waits m c k s (w ∙ ap (λ (y : StateParts). Some y) same);
            }

        go : (o : Option StateParts) → wish t waits m c k ≡ o → if_signable r (facts_of m) c k o ≡ Some s → IsMade t waits m c s
        go None w e = absurd (none-eq s e)
        go (Some x) w e = test x (can_sign r (facts_of m) c k x) refl w e

-- ---- what is taken

takes : (t : Tables) (r : Rules) (waits : Option Command) (m : Mind) (c : List ℕ) (s : Signed) → None ≡ state_refusal t r m c s (kept_of c m.kept) → IsNoted t waits m c s.state
takes t r waits m c s e = by (kept_of c m.kept) refl e
  where
    by : (o : Option Kept) → kept_of c m.kept ≡ o → None ≡ state_refusal t r m c s o → IsNoted t waits m c s.state
    by None is e = absurd (none-eq _ e)
    by (Some k) is e = record {
      k = k;
      keeps = is;
      next = eqb-true s.state.turn (next_of k) (not-false (s.state.turn == next_of k) (holds_not (not (s.state.turn == next_of k)) (NotNext (next_of k)) (first_none line3 (line4 ⊳ line5 ⊳ line6 ⊳ line7) after3)));
      why = inl (not-false (t.accepts (facts_of m) c s.state)
          (holds_not (not (t.accepts (facts_of m) c s.state)) (NotWanted (stage_of t (facts_of m) (t.asked (facts_of m) c)))
          (rest_none line6 line7 (rest_none line5 (line6 ⊳ line7) (rest_none line4 (line5 ⊳ line6 ⊳ line7) (rest_none line3 (line4 ⊳ line5 ⊳ line6 ⊳ line7) after3))))));
    }
      where
        line7 : Option NodeRefusal
        line7 = fault_if (not (t.accepts (facts_of m) c s.state)) (NotWanted (stage_of t (facts_of m) (t.asked (facts_of m) c)))

        line6 : Option NodeRefusal
        line6 = has_left m

        line5 : Option NodeRefusal
        line5 = fault_if (is_some (step_of r k s.state)) NotAStep

        line4 : Option NodeRefusal
        line4 = fault_if (not (is_signed_well r k.chain.fixed s)) BadSignature

        line3 : Option NodeRefusal
        line3 = fault_if (not (s.state.turn == next_of k)) (NotNext (next_of k))

        line2 : Option NodeRefusal
        line2 = fault_if (is_ended k) (NotNext 0)

        after3 : (line3 ⊳ line4 ⊳ line5 ⊳ line6 ⊳ line7) ≡ None
        after3 = rest_none line2 (line3 ⊳ line4 ⊳ line5 ⊳ line6 ⊳ line7) (rest_none (not_open t (facts_of m)) (line2 ⊳ line3 ⊳ line4 ⊳ line5 ⊳ line6 ⊳ line7) (sym e))

-- ---- any event

module _ (t : Tables) (r : Rules) (s : Signing) (past : List Entry) (m : Mind) (used : ℕ) (waits : Option Command) (c : List ℕ) where
  told : (o : Result Message ByteFault) (n : Signed) → None ≡ message_refusal t r m o → told_in c o ≡ Some n → IsNoted t waits m c n.state
  told (Err fault) n e is = absurd (none-eq n is)
  told (Ok message) n e is = go (bytes_eq message.0 c) refl is
    where
      go : (b : Bool) → bytes_eq message.0 c ≡ b → some_if b message.1 ≡ Some n → IsNoted t waits m c n.state
      go false same is = absurd (none-eq n is)
      go true same is =
          subst (λ (x : Signed). IsNoted t waits m c x.state) (some-eq message.1 n is)
          (takes t r waits m c message.1 (subst (λ (x : List ℕ). None ≡ state_refusal t r m x message.1 (kept_of x m.kept)) (same_bytes message.0 c same) e))

  pub why-made : (deed : Deed) (command : Option Command) (n : Signed) → Allowed t r s past m used waits deed command → made_in c deed ≡ Some n → IsMade t waits m c n.state
  why-made (deeds.Signed name state signature) command n allowed e = go (bytes_eq name c) refl e
    where
      go : (b : Bool) → bytes_eq name c ≡ b → some_if b (record { state = state; signature = signature }) ≡ Some n → IsMade t waits m c n.state
      go false same e = absurd (none-eq n e)
      go true same e =
          subst (λ (x : Signed). IsMade t waits m c x.state) (some-eq (record { state = state; signature = signature }) n e)
          (signs t r waits m c state (subst (λ (x : List ℕ). signs_in t r waits m x ≡ Some state) (same_bytes name c same) allowed.0))
  why-made (deeds.Handled bytes refusal) command n allowed e = absurd (none-eq n e)
  why-made (deeds.Commanded step refusal) command n allowed e = absurd (none-eq n e)
  why-made (deeds.SignedChallenge channel state who signature) command n allowed e = absurd (none-eq n e)
  why-made (deeds.Called call) command n allowed e = absurd (none-eq n e)
  why-made (deeds.Watched watcher calls) command n allowed e = absurd (none-eq n e)

  pub why-noted : (deed : Deed) (command : Option Command) (n : Signed) → Allowed t r s past m used waits deed command → noted_in c deed ≡ Some n → IsNoted t waits m c n.state
  why-noted (deeds.Signed name state signature) command n allowed e = made-noted t waits m c n.state (why-made (deeds.Signed name state signature) command n allowed e)
  why-noted (deeds.Handled bytes None) command n allowed e = told (message_of bytes) n allowed.1 e
  why-noted (deeds.Handled bytes (Some refusal)) command n allowed e = absurd (none-eq n e)
  why-noted (deeds.Commanded step refusal) command n allowed e = absurd (none-eq n e)
  why-noted (deeds.SignedChallenge channel state who signature) command n allowed e = absurd (none-eq n e)
  why-noted (deeds.Called call) command n allowed e = absurd (none-eq n e)
  why-noted (deeds.Watched watcher calls) command n allowed e = absurd (none-eq n e)
