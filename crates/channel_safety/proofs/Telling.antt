-- Where names and digests are hashes and no two strings have one, names determine fixed parts. Digests determine
-- states and outcomes.
use Rattle.std.proofs.Common.{◌≡◌, ℕ, List, ◌⊎◌, inl, inr, length, refl, sym, ap, subst, ◌∙◌}
use Rattle.std.specs.Prelude.{Option, Some, map, flat_map}
use Rattle.channel_values.specs.Parts.{FixedParts, StateParts, IsState}
use Rattle.channel_values.specs.Spelling.{fixed, state, outcome}
use Rattle.channel_values.specs.declared.value.AssetOutcome.{AssetOutcome}
use Rattle.channel_values.proofs.Format.{spelled_once}
use Rattle.channel_values.proofs.Formats.{fixed_format, state_format, outcome_format}
use Rattle.sha2.proofs.Facts256.{length-sha256}
use Rattle.channel_values.specs.Digests.{channel_string, state_string, name_of_channel}
use Rattle.channel_values.specs.Laws.{Tells}
use Rattle.channel_values.proofs.Telling.{digests_tell}
use Rattle.channel_values.specs.Rules.{Rules}
use Rattle.call_history.specs.Rows.{fixed_of}
use Rattle.call_history.specs.declared.call.Call.TheVariants.{Deposit, Challenge, Respond, Refute, Checkpoint, Conclude, Transfer, Claim}
use Rattle.call_history.specs.declared.call.Op.{Op}
use Rattle.call_history.specs.declared.call.Op.TheVariants as ops
use Rattle.call_history.specs.declared.entry.Entry.{Entry}
use Rattle.call_history.specs.declared.event.Deed.{Deed}
use Rattle.call_history.specs.declared.event.Deed.TheVariants as deeds
use Rattle.channel_safety.specs.Journals.{In, Line, opened}
use Rattle.channel_safety.specs.Strings.{states_in, given_in, outcomes_in, signed_of}
use Rattle.channel_safety.specs.Hashed.{of_fixed, of_outcome, of_state, of_states, of_op, of_entry, of_deed, of_line, hashed}
use Rattle.channel_safety.specs.Occurring.{OccursFixed, OccursState, OccursOutcome, AreValid, in_call, in_line}
use Rattle.channel_safety.specs.Hashing.{Hashes, StringsTell, HashedOutcomesAreNotOlder, HashedChainsHaveTheSteps, FewHashedChallengesAreCleared}
use Rattle.channel_safety.proofs.Tests.{some-eq}
use Rattle.channel_safety.proofs.Members.{In-append_left, In-append_right, In-append_cases, In-map, In-flat_map, mapped, contains}
use Rattle.channel_safety.proofs.Headline.{safe}
use Rattle.channel_safety.proofs.Since.{has_steps}
use Rattle.channel_safety.proofs.Clearing.{few-cleared}

-- ---- which strings there are

in-entry : (h : List Entry) (journal : List Line) (e : Entry) (b : List ℕ) → In e h → In b (of_op e.op) → In b (hashed h journal)
in-entry h journal e b i j = In-append_left b (flat_map of_entry h) (flat_map of_line journal) (In-flat_map of_entry b e h i j)

in-journal : (h : List Entry) (journal : List Line) (x : Line) (b : List ℕ) → In x journal → In b (of_line x) → In b (hashed h journal)
in-journal h journal x b i j = In-append_right b (flat_map of_entry h) (flat_map of_line journal) (In-flat_map of_line b x journal i j)

fixed-there : (h : List Entry) (journal : List Line) (f : FixedParts) → OccursFixed h journal f → In (channel_string (fixed f)) (hashed h journal)
fixed-there h journal f (inl o) =
    in-entry h journal o.0 (channel_string (fixed f)) o.1
    (In-append_left (channel_string (fixed f)) (of_states (fixed_of o.0.op) (states_in o.0.op)) (map of_outcome (given_in o.0.op))
    (subst (λ (k : Option FixedParts). In (channel_string (fixed f)) (of_states k (states_in o.0.op))) (sym o.2) (inl refl)))
fixed-there h journal f (inr o) =
    in-journal h journal o.0 (channel_string (fixed f)) o.1
    (In-append_left (channel_string (fixed f)) (flat_map of_fixed (opened o.0)) (of_deed o.0.deed) (In-flat_map of_fixed (channel_string (fixed f)) f (opened o.0) o.2 (inl refl)))

name-length : (f : FixedParts) → length (name_of_channel (fixed f)) ≡ 32
unfolding name_of_channel
name-length f = length-sha256 (channel_string (fixed f))

-- a state that occurs is a state, of a name, and its string is there
record There (h : List Entry) (journal : List Line) (c : List ℕ) (s : StateParts) : Type 0 where
  name : length c ≡ 32
  string : In (state_string c (state s)) (hashed h journal)

of-pair : (p q : List ℕ × StateParts) → p ≡ q → state_string q.0 (state q.1) ≡ state_string p.0 (state p.1)
of-pair p q e = sym (ap (λ (z : List ℕ × StateParts). state_string z.0 (state z.1)) e)

in-deed : (c : List ℕ) (s : StateParts) (d : Deed) → signed_of d ≡ Some (c, s) → In (state_string c (state s)) (of_deed d)
in-deed c s (deeds.Signed channel t signature) e =
    let p : List ℕ × StateParts = (channel, t) in
    let q : List ℕ × StateParts = (c, s) in
    inl (of-pair p q (some-eq p q e))
in-deed c s (deeds.SignedChallenge channel t who signature) e =
    let p : List ℕ × StateParts = (channel, t) in
    let q : List ℕ × StateParts = (c, s) in
    inl (of-pair p q (some-eq p q e))
in-deed c s _ e = cc

state-there : (r : Rules) (h : List Entry) (journal : List Line) → Hashes r → AreValid h journal → (c : List ℕ) (s : StateParts) → OccursState r h journal c s → There h journal c s
state-there r h journal by valid c s (in_call e f i has named j) =
    let is : name_of_channel (fixed f) ≡ c = sym (by.named f) ∙ named in
    record {
      name = subst (λ (b : List ℕ). length b ≡ 32) is (name-length f);
      string = subst (λ (b : List ℕ). In (state_string b (state s)) (hashed h journal)) is
          (in-entry h journal e (state_string (name_of_channel (fixed f)) (state s)) i
          (In-append_left (state_string (name_of_channel (fixed f)) (state s)) (of_states (fixed_of e.op) (states_in e.op)) (map of_outcome (given_in e.op)) (subst (λ (k : Option FixedParts). In (state_string (name_of_channel (fixed f)) (state s)) (of_states k (states_in e.op))) (sym has)
          (In-append_right (state_string (name_of_channel (fixed f)) (state s)) (of_fixed f) (flat_map (of_state (name_of_channel (fixed f))) (states_in e.op)) (In-flat_map (of_state (name_of_channel (fixed f))) (state_string (name_of_channel (fixed f)) (state s)) s (states_in e.op) j (inl refl))))));
    }
state-there r h journal by valid c s (in_line x i e) =
    record {
      name = (valid.signed x c s i e).0.0;
      string = in-journal h journal x (state_string c (state s)) i (In-append_right (state_string c (state s)) (flat_map of_fixed (opened x)) (of_deed x.deed) (in-deed c s x.deed e));
    }

state-valid : (r : Rules) (h : List Entry) (journal : List Line) → AreValid h journal → (c : List ℕ) (s : StateParts) → OccursState r h journal c s → IsState s
state-valid r h journal valid c s (in_call e f i has named j) = valid.states e s i j
state-valid r h journal valid c s (in_line x i e) = (valid.signed x c s i e).1

-- ---- outcomes

-- an op that has a state has a fixed part
has-fixed : (op : Op) (s : StateParts) → In s (states_in op) → (f : FixedParts) × (fixed_of op ≡ Some f)
has-fixed (ops.Call (Deposit d)) s i = absurd i
has-fixed (ops.Call (Challenge k)) s i = (k.chain.fixed, refl)
has-fixed (ops.Call (Respond k)) s i = (k.fixed, refl)
has-fixed (ops.Call (Refute f next)) s i = (f, refl)
has-fixed (ops.Call (Checkpoint chain)) s i = (chain.fixed, refl)
has-fixed (ops.Call (Conclude chain)) s i = (chain.fixed, refl)
has-fixed (ops.Call (Transfer k)) s i = absurd i
has-fixed (ops.Call (Claim k)) s i = absurd i
has-fixed (ops.Time t) s i = absurd i

-- the string of an outcome of an op is one of the op's
outcome-of_op : (op : Op) (o : List AssetOutcome) → In o (outcomes_in op) → In (of_outcome o) (of_op op)
outcome-of_op op o i = go (In-append_cases o (given_in op) (map (λ (s : StateParts). s.outcome) (states_in op)) i)
  where
    of_state-there : (c : List ℕ) (s : StateParts) → o ≡ s.outcome → In (of_outcome o) (of_state c s)
    of_state-there c s e = inr (inl (ap of_outcome e))

    go : In o (given_in op) ⊎ In o (map (λ (s : StateParts). s.outcome) (states_in op)) → In (of_outcome o) (of_op op)
    go (inl j) = In-append_right (of_outcome o) (of_states (fixed_of op) (states_in op)) (map of_outcome (given_in op)) (In-map of_outcome o (given_in op) j)
    go (inr j) =
        let m = mapped (λ (s : StateParts). s.outcome) o (states_in op) j in
        let f = has-fixed op m.from m.there in
        In-append_left (of_outcome o) (of_states (fixed_of op) (states_in op)) (map of_outcome (given_in op))
        (subst (λ (k : Option FixedParts). In (of_outcome o) (of_states k (states_in op))) (sym f.1)
        (In-append_right (of_outcome o) (of_fixed f.0) (flat_map (of_state (name_of_channel (fixed f.0))) (states_in op))
        (In-flat_map (of_state (name_of_channel (fixed f.0))) (of_outcome o) m.from (states_in op) m.there (of_state-there (name_of_channel (fixed f.0)) m.from m.is))))

outcome-there : (h : List Entry) (journal : List Line) (o : List AssetOutcome) → OccursOutcome h o → In (of_outcome o) (hashed h journal)
outcome-there h journal o x = in-entry h journal x.0 (of_outcome o) x.1 (outcome-of_op x.0.op o x.2)

-- ---- what they determine

pub tells : StringsTell
tells r h journal by valid none = record {
  names = λ f g a b e. spelled_once fixed_format f g (valid.fixed f a) (valid.fixed g b)
      (told.channels (fixed f) (fixed g) (contains (channel_string (fixed f)) (hashed h journal) (fixed-there h journal f a)) (contains (channel_string (fixed g)) (hashed h journal) (fixed-there h journal g b))
      (sym (by.named f) ∙ (e ∙ by.named g)));
  states = λ c d s t a b e. (
      let p = state-there r h journal by valid c s a in
      let q = state-there r h journal by valid d t b in
      let k = told.states c d (state s) (state t) p.name q.name (contains (state_string c (state s)) (hashed h journal) p.string) (contains (state_string d (state t)) (hashed h journal) q.string)
      (sym (by.digest c s) ∙ (e ∙ by.digest d t)) in
      (k.0, spelled_once state_format s t (state-valid r h journal valid c s a) (state-valid r h journal valid d t b) k.1)
      );
  outcomes = λ o p a b e. spelled_once outcome_format o p (valid.outcomes o a) (valid.outcomes p b)
      (told.outcomes (outcome o) (outcome p) (contains (of_outcome o) (hashed h journal) (outcome-there h journal o a)) (contains (of_outcome p) (hashed h journal) (outcome-there h journal p b))
      (sym (by.outcome_digest o) ∙ (e ∙ by.outcome_digest p)));
}
  where
    told : Tells (hashed h journal)
    told = digests_tell (hashed h journal) none

pub hashed-safe : HashedOutcomesAreNotOlder
hashed-safe r key h journal keeps by legal honest unforged none valid in_time = safe r key h journal keeps legal honest unforged (tells r h journal by valid none) valid in_time

pub hashed-steps : HashedChainsHaveTheSteps
hashed-steps r key h journal keeps by legal honest unforged none valid = has_steps r key h journal keeps legal honest unforged (tells r h journal by valid none) valid

pub hashed-cleared : FewHashedChallengesAreCleared
hashed-cleared r key h journal keeps by legal honest unforged none valid = few-cleared r key h journal keeps legal honest unforged (tells r h journal by valid none) valid
