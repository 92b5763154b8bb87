-- What a node sends again its journal has signed.
use Rattle.std.proofs.Common.{◌≡◌, ℕ, Bool, true, false, cond, List, [], ◌∷◌, ◌++◌, fold, reverse, refl, sym, subst, inl, inr}
use Rattle.std.proofs.lemmas.List.{reverse-reverse}
use Rattle.std.specs.Prelude.{Some, None, flat_map}
use Rattle.std.specs.Str.{bytes_eq}
use Rattle.channel_values.specs.Digests.{name_of_person}
use Rattle.channel_values.specs.Messages.{message_of_state}
use Rattle.channel_values.specs.Parts.{FixedParts, StateParts}
use Rattle.call_history.proofs.Names.{same_bytes}
use Rattle.call_history.specs.Naming.{name_of}
use Rattle.call_history.specs.Spelling.{message}
use Rattle.call_history.specs.declared.event.Deed.{Deed}
use Rattle.call_history.specs.declared.event.Deed.TheVariants as deeds
use Rattle.call_history.specs.declared.event.Event.{Event}
use Rattle.channel_node.specs.Openings.{opened_by}
use Rattle.channel_node.specs.Places.{tell, told, is_commanded}
use Rattle.channel_safety.proofs.Members.{In-append_left, In-append_right, In-reverse}
use Rattle.channel_safety.specs.Journals.{In}
use Rattle.network.specs.declared.command.Command.{Command}
use Rattle.node_guarantees.specs.Once.{Signature, signed_in, signed_by}
use Rattle.node_guarantees.specs.Sends.{AreSigned}
use Rattle.node_guarantees.specs.Ways.{Numbered, ways}
use Rattle.support_rules.specs.Real.{real}
use Rattle.lasting_node.specs.Laws.{made_by}
use Rattle.lasting_node.specs.Queries.{letter_to, letters, letters_in, later, last_letters, resent}

-- ---- messages

module _ (made : List Signature) where
  both : (first second : List (List ℕ × List ℕ)) → AreSigned made first → AreSigned made second → AreSigned made (first ++ second)
  both [] second is rest = rest
  both (letter ∷ first) second is rest = (is.0, both first second is.1 rest)

  flat : {A : Type 0} (f : A → List (List ℕ × List ℕ)) → ((x : A) → AreSigned made (f x)) → (xs : List A) → AreSigned made (flat_map f xs)
  flat f each [] = tt
  flat f each (x ∷ xs) = both (f x) (flat_map f xs) (each x) (flat f each xs)

  letters-signed : (me : List ℕ) (f : FixedParts) (state : StateParts) (signature : List ℕ)
      → In (record { message = message_of_state (real.digest (name_of f) state); bytes = signature }) made → AreSigned made (letters me f state signature)
  letters-signed me f state signature there = flat (letter_to me f state signature) one f.keys
    where
      one : (key : List ℕ) → AreSigned made (letter_to me f state signature key)
      one key = go (bytes_eq (name_of_person key) me)
        where
          go : (b : Bool) → AreSigned made (cond b [] ((name_of_person key, message (name_of f, record { state = state; signature = signature })) ∷ []))
          go true = tt
          go false = (record { channel = name_of f; state = record { state = state; signature = signature }; spells = refl; there = there }, tt)

  deed-signed : (me : List ℕ) (f : FixedParts) (deed : Deed) → ((s : Signature) → In s (signed_in real deed) → In s made)
      → AreSigned made (letters_in me f deed)
  deed-signed me f (deeds.Signed channel state signature) within = go (bytes_eq channel (name_of f)) refl
    where
      go : (b : Bool) → bytes_eq channel (name_of f) ≡ b → AreSigned made (cond b (letters me f state signature) [])
      go true same =
          letters-signed me f state signature
          (subst (λ (name : List ℕ). In (record { message = message_of_state (real.digest name state); bytes = signature }) made)
          (same_bytes channel (name_of f) same) (within _ (inl refl)))
      go false same = tt
  deed-signed me f (deeds.SignedChallenge channel state who signature) within = tt
  deed-signed me f (deeds.Commanded step refusal) within = tt
  deed-signed me f (deeds.Handled bytes refusal) within = tt
  deed-signed me f (deeds.Called call) within = tt
  deed-signed me f (deeds.Watched watcher calls) within = tt

  last-signed : (me : List ℕ) (f : FixedParts) (events : List Event)
      → ((e : Event) → In e events → (s : Signature) → In s (signed_in real e.deed) → In s made)
      → (before : List (List ℕ × List ℕ)) → AreSigned made before
      → AreSigned made (fold (λ (before : List (List ℕ × List ℕ)) (e : Event). later before (letters_in me f e.deed)) before events)
  last-signed me f [] within before is = is
  last-signed me f (e ∷ events) within before is =
      last-signed me f events (λ x i. within x (inr i)) (later before (letters_in me f e.deed))
      (go (letters_in me f e.deed) (deed-signed me f e.deed (within e (inl refl))))
    where
      go : (some : List (List ℕ × List ℕ)) → AreSigned made some → AreSigned made (later before some)
      go [] none = is
      go (letter ∷ more) all = all

-- ---- a journal

-- what an event signs stands among what all sign, whichever commands stand with them
told-signs : (events : List Event) (commands : List Command) (e : Event) → In e events → (s : Signature) → In s (signed_in real e.deed)
    → In s (signed_by real (told events commands))
told-signs [] commands e i s j = absurd i
told-signs (x ∷ front) [] e (inl is) s j =
    In-append_left s (signed_in real x.deed) (signed_by real (told front [])) (subst (λ (y : Event). In s (signed_in real y.deed)) is j)
told-signs (x ∷ front) [] e (inr i) s j = In-append_right s (signed_in real x.deed) (signed_by real (told front [])) (told-signs front [] e i s j)
told-signs (x ∷ front) (c ∷ commands) e i s j = go (is_commanded x.deed) i (λ k. told-signs front commands e k s j) (λ k. told-signs front (c ∷ commands) e k s j)
  where
    go : (b : Bool) → In e (x ∷ front) → (In e front → In s (signed_by real (told front commands))) → (In e front → In s (signed_by real (told front (c ∷ commands))))
        → In s (signed_by real (cond b (tell x (Some c) ∷ told front commands) (tell x None ∷ told front (c ∷ commands))))
    go true (inl is) with_it without =
        In-append_left s (signed_in real x.deed) (signed_by real (told front commands)) (subst (λ (y : Event). In s (signed_in real y.deed)) is j)
    go true (inr k) with_it without = In-append_right s (signed_in real x.deed) (signed_by real (told front commands)) (with_it k)
    go false (inl is) with_it without =
        In-append_left s (signed_in real x.deed) (signed_by real (told front (c ∷ commands))) (subst (λ (y : Event). In s (signed_in real y.deed)) is j)
    go false (inr k) with_it without = In-append_right s (signed_in real x.deed) (signed_by real (told front (c ∷ commands))) (without k)

journal-signs : (p : Numbered) (e : Event) → In e p.node.journal → (s : Signature) → In s (signed_in real e.deed) → In s (made_by p)
journal-signs p e i s j =
    told-signs (reverse p.node.journal) (reverse p.node.commands) e
    (In-reverse e (reverse p.node.journal) (subst (In e) (sym (reverse-reverse p.node.journal)) i)) s j

pub resent-signed : (p : Numbered) → AreSigned (made_by p) (resent p)
resent-signed p =
    flat (made_by p) (λ (f : FixedParts). last_letters (name_of_person (ways.key p)) f (ways.journal p))
    (λ f. last-signed (made_by p) (name_of_person (ways.key p)) f p.node.journal (journal-signs p) [] tt) (flat_map opened_by p.node.commands)
