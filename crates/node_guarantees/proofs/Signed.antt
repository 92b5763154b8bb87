-- What a node's journal signed, event by event.
use Rattle.std.proofs.Common.{◌≡◌, ℕ, Bool, true, false, cond, List, [], ◌∷◌, reverse, refl, sym, subst, inl, inr}
use Rattle.std.proofs.lemmas.List.{reverse-reverse}
use Rattle.std.specs.Prelude.{Option, Some, None, fold}
use Rattle.std.specs.Option.{option_or}
use Rattle.std.specs.Str.{bytes_eq}
use Rattle.channel_values.specs.Messages.{message_of_state}
use Rattle.channel_values.specs.declared.chain.Signed.{Signed}
use Rattle.call_history.proofs.Names.{same_bytes}
use Rattle.call_history.specs.declared.event.Deed.{Deed}
use Rattle.call_history.specs.declared.event.Deed.TheVariants as deeds
use Rattle.call_history.specs.declared.event.Event.{Event}
use Rattle.channel_safety.proofs.Members.{In-append_left, In-append_right, In-reverse}
use Rattle.channel_safety.specs.Journals.{In}
use Rattle.network.specs.declared.command.Command.{Command}
use Rattle.channel_node.specs.Giving.{signed_here, last_signed}
use Rattle.channel_node.specs.Nodes.{NodeOf, told_of}
use Rattle.channel_node.specs.Places.{tell, told, is_commanded}
use Rattle.support_rules.specs.Real.{real}
use Rattle.node_guarantees.specs.Once.{Signature, signed_in, signed_by}

-- what an event signs stands among what all sign, whichever commands stand with them
pub told-signs : (events : List Event) (commands : List Command) (e : Event) → In e events → (s : Signature) → In s (signed_in real e.deed)
    → In s (signed_by real (told events commands))
told-signs [] commands e i s j = absurd i
told-signs (x ∷ front) [] e (inl is) s j =
    In-append_left s (signed_in real x.deed) (signed_by real (told front [])) (subst (λ (y : Event). In s (signed_in real y.deed)) is j)
told-signs (x ∷ front) [] e (inr i) s j = In-append_right s (signed_in real x.deed) (signed_by real (told front [])) (told-signs front [] e i s j)
told-signs (x ∷ front) (c ∷ commands) e i s j = go (is_commanded x.deed) i (λ k. told-signs front commands e k s j) (λ k. told-signs front (c ∷ commands) e k s j)
  where
    go : (b : Bool) → In e (x ∷ front) → (In e front → In s (signed_by real (told front commands))) → (In e front → In s (signed_by real (told front (c ∷ commands))))
        → In s (signed_by real (cond b (tell x (Some c) ∷ told front commands) (tell x None ∷ told front (c ∷ commands))))
    go true (inl is) with_it without =
        In-append_left s (signed_in real x.deed) (signed_by real (told front commands)) (subst (λ (y : Event). In s (signed_in real y.deed)) is j)
    go true (inr k) with_it without = In-append_right s (signed_in real x.deed) (signed_by real (told front commands)) (with_it k)
    go false (inl is) with_it without =
        In-append_left s (signed_in real x.deed) (signed_by real (told front (c ∷ commands))) (subst (λ (y : Event). In s (signed_in real y.deed)) is j)
    go false (inr k) with_it without = In-append_right s (signed_in real x.deed) (signed_by real (told front (c ∷ commands))) (without k)

pub journal-signs : (n : NodeOf) (e : Event) → In e n.journal → (s : Signature) → In s (signed_in real e.deed) → In s (signed_by real (told_of n))
journal-signs n e i s j =
    told-signs (reverse n.journal) (reverse n.commands) e
    (In-reverse e (reverse n.journal) (subst (In e) (sym (reverse-reverse n.journal)) i)) s j

-- ---- the last state that it signed in a channel

abbrev pub IsThere : List Signature → List ℕ → Option Signed → Type 0
IsThere made channel None = Unit {0}
IsThere made channel (Some x) = In (record { message = message_of_state (real.digest channel x.state); bytes = x.signature }) made

module _ (made : List Signature) (channel : List ℕ) where
  deed-there : (deed : Deed) (before : Option Signed) → ((s : Signature) → In s (signed_in real deed) → In s made)
      → IsThere made channel before → IsThere made channel (option_or (signed_here channel deed) before)
  deed-there (deeds.Signed own state signature) before within was = go (bytes_eq own channel) refl
    where
      go : (b : Bool) → bytes_eq own channel ≡ b
          → IsThere made channel (option_or (cond b (Some (record { state = state; signature = signature })) None) before)
      go true same =
          subst (λ (name : List ℕ). In (record { message = message_of_state (real.digest name state); bytes = signature }) made)
          (same_bytes own channel same) (within _ (inl refl))
      go false same = was
  deed-there (deeds.SignedChallenge own state who signature) before within was = was
  deed-there (deeds.Commanded step refusal) before within was = was
  deed-there (deeds.Handled bytes refusal) before within was = was
  deed-there (deeds.Called call) before within was = was
  deed-there (deeds.Watched watcher calls) before within was = was

  all-there : (events : List Event) → ((e : Event) → In e events → (s : Signature) → In s (signed_in real e.deed) → In s made)
      → (before : Option Signed) → IsThere made channel before
      → IsThere made channel (fold (λ (b : Option Signed) (e : Event). option_or (signed_here channel e.deed) b) before events)
  all-there [] within before was = was
  all-there (e ∷ events) within before was =
      all-there events (λ x i. within x (inr i)) (option_or (signed_here channel e.deed) before) (deed-there e.deed before (within e (inl refl)) was)

pub last-made : (channel : List ℕ) (n : NodeOf) → IsThere (signed_by real (told_of n)) channel (last_signed channel n.journal)
last-made channel n = all-there (signed_by real (told_of n)) channel n.journal (journal-signs n) None tt
