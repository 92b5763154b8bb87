-- Values of the types make valid model lists.
use Rattle.std.proofs.Common.{◌≡◌, ℕ, zero, suc, Bool, true, false, cond, List, [], ◌∷◌, ◌++◌, map, ◌⊎◌, inl, inr, length, reverse, refl, sym, subst, Option, Some, None, Result, Ok, Err}
use Rattle.std.specs.Prelude.{IfSome}
use Rattle.std.specs.List.{AllByRecursion}
use Rattle.std.specs.Str.{bytes_eq}
use Rattle.std.proofs.lemmas.List.{reverse-append}
use Rattle.channel_values.specs.declared.chain.Signed.{Signed}
use Rattle.channel_values.specs.declared.fault.ByteFault.{ByteFault}
use Rattle.channel_values.specs.Outcomes.{AreBytes, IsName, IsOutcome}
use Rattle.channel_values.specs.declared.value.AssetOutcome.{AssetOutcome}
use Rattle.call_history.specs.declared.call.Op.{Op}
use Rattle.channel_values.specs.Parts.{FixedParts, StateParts, IsFixed, IsState}
use Rattle.channel_values.proofs.Format.{all_takes}
use Rattle.call_history.specs.History.{newest_first}
use Rattle.call_history.specs.Limits.{IsMessage}
use Rattle.call_history.specs.Reading.{message_of}
use Rattle.call_history.specs.Spelling.{Message}
use Rattle.call_history.specs.declared.entry.Entry.{Entry}
use Rattle.call_history.specs.declared.event.Deed.{Deed}
use Rattle.call_history.specs.declared.event.Deed.TheVariants as deeds
use Rattle.call_history.specs.declared.event.Event.{Event}
use Rattle.call_history.proofs.Formats.{message_format}
use Rattle.channel_safety.specs.Journals.{In, Line, lines, is_followed, opened, some_if, told_in, noted_in}
use Rattle.channel_safety.specs.Occurring.{OccursFixed, OccursOutcome, AreValid}
use Rattle.channel_safety.specs.Strings.{states_in, given_in, outcomes_in, signed_of}
use Rattle.channel_safety.proofs.Tests.{some-eq, none-eq}
use Rattle.channel_safety.specs.Valid.{IsValidOp, IsValidEntry, IsValidDeed, IsValidEvent}
use Rattle.channel_safety.proofs.Members.{In-append_cases, mapped, all-in}
use Rattle.channel_safety.proofs.ValidOps.{valid-fixed, valid-states, valid-given}
use Rattle.network.specs.Valid.{AddsFixed, adds_of, newest_lines}

-- ---- each of a list

all-append : {A : Type 0} (P : A → Type 0) (xs ys : List A) → AllByRecursion P xs → AllByRecursion P ys → AllByRecursion P (xs ++ ys)
all-append P [] ys a b = b
all-append P (x ∷ xs) ys a b = (a.0, all-append P xs ys a.1 b)

all-reverse : {A : Type 0} (P : A → Type 0) (xs : List A) → AllByRecursion P xs → AllByRecursion P (reverse xs)
all-reverse P [] a = tt
all-reverse P (x ∷ xs) a = subst (AllByRecursion P) (sym (reverse-append (x ∷ []) xs)) (all-append P (reverse xs) (x ∷ []) (all-reverse P xs a.1) (a.0, tt))

-- ---- what is read

-- what bytes are read as is a message
read-valid : (bytes : List ℕ) → AreBytes bytes → (m : Message) → message_of bytes ≡ Ok m → IsMessage m
read-valid bytes fits m e = (all_takes message_format bytes m fits e).0

told-valid : (channel : List ℕ) (read : Result Message ByteFault) (s : Signed) → ((m : Message) → read ≡ Ok m → IsMessage m) → told_in channel read ≡ Some s → IsState s.state
told-valid channel (Ok m) s valid e = go (bytes_eq m.0 channel) e
  where
    go : (b : Bool) → some_if b m.1 ≡ Some s → IsState s.state
    go true q = subst (λ (t : Signed). IsState t.state) (some-eq m.1 s q) (valid m refl).1.0
    go false q = absurd (none-eq s q)
told-valid channel (Err fault) s valid e = absurd (none-eq s e)

-- ---- lines

-- what is said of a line whose event is valid
signed-valid : (d : Deed) (channel : List ℕ) (s : StateParts) → IsValidDeed d → signed_of d ≡ Some (channel, s) → IsName channel × IsState s
signed-valid (deeds.Signed name t signature) channel s valid e = subst (λ (p : List ℕ × StateParts). IsName p.0 × IsState p.1) (some-eq (name, t) (channel, s) e) valid
signed-valid (deeds.SignedChallenge name t who signature) channel s valid e = subst (λ (p : List ℕ × StateParts). IsName p.0 × IsState p.1) (some-eq (name, t) (channel, s) e) valid
signed-valid _ channel s valid e = cc

noted-valid : (d : Deed) (channel : List ℕ) (s : Signed) → IsValidDeed d → noted_in channel d ≡ Some s → IsState s.state
noted-valid (deeds.Signed name t signature) channel s valid e = go (bytes_eq name channel) e
  where
    made : Signed
    made = record { state = t; signature = signature }

    go : (b : Bool) → some_if b made ≡ Some s → IsState s.state
    go true q = subst (λ (u : Signed). IsState u.state) (some-eq made s q) valid.1
    go false q = absurd (none-eq s q)
noted-valid (deeds.Handled bytes None) channel s valid e = told-valid channel (message_of bytes) s (read-valid bytes valid) e
noted-valid _ channel s valid e = cc

-- a line whose event is valid, and what it adds too
record IsValidLine (x : Line) : Type 0 where
  deed : IsValidDeed x.deed
  adds : AllByRecursion IsFixed x.adds

lines-valid : (adds : ℕ → List FixedParts) (events : List Event) → ((place : ℕ) → AllByRecursion IsFixed (adds place)) → AllByRecursion IsValidEvent events → AllByRecursion IsValidLine (lines adds events)
lines-valid adds [] fixed valid = tt
lines-valid adds (x ∷ front) fixed valid = (record { deed = valid.0; adds = fixed (length front) }, lines-valid adds front fixed valid.1)

pub adds-valid : (adds : List (List FixedParts)) → AllByRecursion (AllByRecursion IsFixed) adds → AddsFixed (adds_of adds)
adds-valid [] valid place = tt
adds-valid (added ∷ adds) valid zero = valid.0
adds-valid (added ∷ adds) valid (suc place) = adds-valid adds valid.1 place

opened-valid : (x : Line) (f : FixedParts) → AllByRecursion IsFixed x.adds → In f (opened x) → IsFixed f
opened-valid x f valid i = go (is_followed x.deed) i
  where
    go : (b : Bool) → In f (cond b x.adds []) → IsFixed f
    go true j = all-in IsFixed f x.adds valid j
    go false j = absurd j

-- ---- both

outcome-valid : (op : Op) → IsValidOp op → (o : List AssetOutcome) → In o (outcomes_in op) → IsOutcome o
outcome-valid op valid o i = go (In-append_cases o (given_in op) (map (λ (s : StateParts). s.outcome) (states_in op)) i)
  where
    go : In o (given_in op) ⊎ In o (map (λ (s : StateParts). s.outcome) (states_in op)) → IsOutcome o
    go (inl j) = all-in IsOutcome o (given_in op) (valid-given op valid) j
    go (inr j) =
        let m = mapped (λ (s : StateParts). s.outcome) o (states_in op) j in
        subst IsOutcome (sym m.is) (all-in IsState m.from (states_in op) (valid-states op valid) m.there).outcome

lists-valid : (h : List Entry) (journal : List Line) → AllByRecursion IsValidEntry h → AllByRecursion IsValidLine journal → AreValid h journal
lists-valid h journal entries valid = record {
  fixed = occurs;
  states = λ e s i j. all-in IsState s (states_in e.op) (valid-states e.op (all-in IsValidEntry e h entries i)) j;
  outcomes = ends;
  signed = λ x channel s i e. signed-valid x.deed channel s (all-in IsValidLine x journal valid i).deed e;
  noted = λ x channel s i e. noted-valid x.deed channel s (all-in IsValidLine x journal valid i).deed e;
}
  where
    occurs : (f : FixedParts) → OccursFixed h journal f → IsFixed f
    occurs f (inl o) = subst (λ (k : Option FixedParts). IfSome k IsFixed) o.2 (valid-fixed o.0.op (all-in IsValidEntry o.0 h entries o.1))
    occurs f (inr o) = opened-valid o.0 f (all-in IsValidLine o.0 journal valid o.1).adds o.2

    ends : (o : List AssetOutcome) → OccursOutcome h o → IsOutcome o
    ends o (e, i, j) = outcome-valid e.op (all-in IsValidEntry e h entries i) o j

pub events-valid : (history : List Entry) (journal : List Event) (adds : ℕ → List FixedParts) → AllByRecursion IsValidEntry history → AllByRecursion IsValidEvent journal → AddsFixed adds → AreValid (newest_first history) (newest_lines journal adds)
events-valid history journal adds entries events fixed =
    lists-valid (newest_first history) (lines adds (reverse journal)) (all-reverse IsValidEntry history entries)
    (lines-valid adds (reverse journal) fixed (all-reverse IsValidEvent journal events))
