-- A history and a journal in which all premises hold and a challenge runs out: A signs turn 0, B signs turn 1 and
-- challenges with both, A looks, and time passes.
use Rattle.std.proofs.Common.{◌≡◌, ℕ, zero, suc, ◌+◌, ◌-◌, ◌<◌, ◌≤◌, Bool, true, false, cond, ◌||◌, List, [], ◌∷◌, ◌++◌, ◌⊎◌, inl, inr, length, drop, replicate, refl, sym, ◌∙◌, ap, subst, arith}
use Rattle.std.specs.Prelude.{Option, Some, None}
use Rattle.std.specs.Str.{bytes_eq}
use Rattle.channel_values.specs.Parts.{FixedParts, StateParts, IsFixed, IsState, fixed_with, state_with}
use Rattle.channel_values.specs.Outcomes.{AreBytes, IsName, IsOutcome}
use Rattle.channel_values.specs.declared.value.AssetOutcome.{AssetOutcome}
use Rattle.channel_values.specs.declared.chain.Chain.{Chain}
use Rattle.channel_values.specs.declared.chain.Signed.{Signed}
use Rattle.channel_values.specs.declared.fault.StepFault.TheVariants.{AfterFinal}
use Rattle.call_history.specs.declared.standing.Standing.TheVariants.{Challenged, Final}
use Rattle.channel_values.specs.Messages.{message_of_state, message_of_challenge}
use Rattle.channel_values.specs.Rows.{last_turn}
use Rattle.channel_values.specs.Rules.{Rules, top_turn, top_digest, KeepsFinal}
use Rattle.channel_values.specs.Support.{supports}
use Rattle.call_history.specs.Rows.{fixed_of}
use Rattle.call_history.specs.History.{Legal, mode, reply_to}
use Rattle.call_history.specs.Marked.{Marked, nothing}
use Rattle.call_history.specs.Calls.{make_challenge}
use Rattle.call_history.specs.declared.call.Call.TheVariants.{Challenge}
use Rattle.call_history.specs.declared.call.Op.{Op}
use Rattle.call_history.specs.declared.call.Op.TheVariants as ops
use Rattle.call_history.specs.declared.refusal.Reply.TheVariants.{Until, Now}
use Rattle.call_history.specs.declared.entry.Entry.{Entry}
use Rattle.call_history.specs.declared.event.Deed.TheVariants as deeds
use Rattle.call_history.specs.declared.event.NodeRefusal.{NodeRefusal}
use Rattle.call_history.proofs.Names.{same_bytes}
use Rattle.channel_safety.specs.Journals.{In, Line, opened, some_if, made_in, noted_in, is_challenge}
use Rattle.channel_safety.specs.Strings.{signed_in, states_in, outcomes_in, signed_of, WasSignedBy}
use Rattle.channel_safety.specs.Premises.{Unforged, Looked, InTime}
use Rattle.channel_safety.specs.Occurring.{OccursFixed, OccursState, OccursOutcome, NoCollision, AreValid, in_call, in_line}
use Rattle.channel_safety.specs.Honest.{key_at, HonestAt, HonestIn, Honest}
use Rattle.channel_safety.specs.SafetyWitness.{RunsOutSafely}
use Rattle.channel_safety.proofs.Tests.{clash, some-eq, none-eq}
use Rattle.channel_safety.proofs.Lists.{In-append_right}

-- ---- the rules: a signature is the key, a name repeats the nonce, a digest is the turn and the name, and nothing is
-- final

abbrev rules : Rules
rules =
    record {
      verifies = λ key message signature. bytes_eq key signature;
      named = λ f. replicate 32 f.nonce;
      digest = λ channel s. s.turn ∷ channel;
      outcome_digest = λ o. [];
      step = λ f s t. cond (s.is_final || t.is_final) (Some AfterFinal) None;
    }

none-final : (a b : Bool) → cond (a || b) (Some AfterFinal) None ≡ None → (a ≡ false) × (b ≡ false)
none-final true b h = cc
none-final false true h = cc
none-final false false h = (refl, refl)

not-so : (b : Bool) → b ≡ false → b ≡ true → ⊥
not-so b f t = cc

keeps : KeepsFinal rules
keeps = record {
  stays = λ f s t h e. absurd (not-so s.is_final (none-final s.is_final t.is_final h).0 e);
  same = λ f s t hs ht h e. absurd (not-so t.is_final (none-final s.is_final t.is_final h).1 e);
  late = λ f s t h e. absurd (not-so t.is_final (none-final s.is_final t.is_final h).1 e);
}

-- ---- the channel, its states and the history

abbrev key_a : List ℕ
key_a = replicate 56 1

abbrev key_b : List ℕ
key_b = replicate 56 2

abbrev pair : FixedParts
pair = fixed_with (key_a ∷ key_b ∷ []) 7 2 10

abbrev name : List ℕ
name = replicate 32 7

abbrev at_turn : ℕ → StateParts
at_turn turn = state_with turn false [] []

abbrev chain : Chain
chain = record { fixed = pair; states = at_turn 0 ∷ at_turn 1 ∷ []; marks = record { place = 0; signature = key_a } ∷ record { place = 1; signature = key_b } ∷ [] }

abbrev challenge : Entry
challenge = record { number = 1; by = 2; op = ops.Call (make_challenge chain 1 key_b); reply = Until 10 }

abbrev time : Entry
time = record { number = 2; by = 0; op = ops.Time 10; reply = Now 10 }

abbrev history : List Entry
history = time ∷ challenge ∷ []

legal : Legal rules history
unfolding reply_to supports last_turn
legal = ((tt, refl, refl), refl, refl)

was : mode rules name (challenge ∷ []) ≡ Challenged
was = refl

ends : mode rules name history ≡ Final
ends = refl

-- ---- A's journal

abbrev opening : Line
opening = record { seen = 0; deed = deeds.Commanded 0 None; adds = pair ∷ [] }

abbrev signing : Line
signing = record { seen = 0; deed = deeds.Signed name (at_turn 0) key_a; adds = [] }

abbrev looking : Line
looking = record { seen = 1; deed = deeds.Watched 0 []; adds = [] }

abbrev journal : List Line
journal = looking ∷ signing ∷ opening ∷ []

-- what A signed
is-signing : (s : Signed) → made_in name signing.deed ≡ Some s → s ≡ record { state = at_turn 0; signature = key_a }
is-signing s e = sym (some-eq (record { state = at_turn 0; signature = key_a }) s e)

-- the end of a list, by its length
drop-all : {A : Type 0} (xs ys : List A) → drop (length xs) (xs ++ ys) ≡ ys
drop-all [] ys = refl
drop-all (x ∷ xs) ys = drop-all xs ys

length-both : {A : Type 0} (xs ys : List A) → length (xs ++ ys) ≡ length xs + length ys
length-both [] ys = let z : length ys ≡ 0 + length ys = omega arith in z
length-both (x ∷ xs) ys = let z : length (xs ++ ys) ≡ length xs + length ys = length-both xs ys in omega arith

end-is : {A : Type 0} (h later past : List A) (k : ℕ) → h ≡ later ++ past → length past ≡ k → past ≡ drop (length h - k) h
end-is h later past k is len =
    let l : length h ≡ length later + length past = ap length is ∙ length-both later past in
    let d : length h - k ≡ length later = omega arith in
    sym (ap (λ (n : ℕ). drop n h) d ∙ (ap (drop (length later)) is ∙ drop-all later past))

at-opening : HonestAt rules key_a pair [] opening []
at-opening = record {
  opening = λ o. refl;
  takes_part = λ i. (0, refl);
  in_plan = λ s m. absurd (none-eq s m);
  is_open = λ s m. absurd (none-eq s m);
  own_turn = λ s m. absurd (none-eq s m);
  above = λ s m. absurd (none-eq s m);
  holds = λ s m. absurd (none-eq s m);
  challenges = λ s who signature d. absurd cc;
  leaves = λ s m. absurd (none-eq s m);
  looks = λ watcher calls w d. absurd cc;
}

at-signing : HonestAt rules key_a pair [] signing (opening ∷ [])
at-signing = record {
  opening = λ o. absurd cc;
  takes_part = λ i. absurd i;
  in_plan = λ s m. (nothing, refl);
  is_open = λ s m. refl;
  own_turn = λ s m. subst (λ (z : Signed). key_at pair z.state.turn ≡ Some key_a) (sym (is-signing s m)) refl;
  above = λ s m y t i n. absurd (nothing-made y t i n);
  holds = λ s m high. absurd (early s (is-signing s m) high);
  challenges = λ s who signature d. absurd cc;
  leaves = λ s m y i. no-challenge y i;
  looks = λ watcher calls w d. absurd cc;
}
  where
    nothing-made : (y : Line) (t : Signed) → In y (opening ∷ []) → made_in name y.deed ≡ Some t → ⊥
    nothing-made y t (inl e) n = none-eq t (subst (λ (z : Line). made_in name z.deed ≡ Some t) e n)
    nothing-made y t (inr i) n = absurd i

    early : (s : Signed) → s ≡ record { state = at_turn 0; signature = key_a } → 2 ≤ s.state.turn + 1 → ⊥
    early s e h = let z : s.state.turn ≡ 0 = ap (λ (x : Signed). x.state.turn) e in omega arith

    no-challenge : (y : Line) → In y (opening ∷ []) → is_challenge y.deed ≡ false
    no-challenge y (inl e) = ap (λ (z : Line). is_challenge z.deed) e
    no-challenge y (inr i) = absurd i

at-looking : HonestAt rules key_a pair (challenge ∷ []) looking (signing ∷ opening ∷ [])
unfolding supports last_turn
at-looking = record {
  opening = λ o. absurd cc;
  takes_part = λ i. absurd i;
  in_plan = λ s m. absurd (none-eq s m);
  is_open = λ s m. absurd (none-eq s m);
  own_turn = λ s m. absurd (none-eq s m);
  above = λ s m. absurd (none-eq s m);
  holds = λ s m. absurd (none-eq s m);
  challenges = λ s who signature d. absurd cc;
  leaves = λ s m. absurd (none-eq s m);
  looks = λ watcher calls w d is sup mode lt. absurd (not-above w is lt);
}
  where
    not-above : (w : Marked) → Some (record { states = at_turn 0 ∷ at_turn 1 ∷ []; marks = chain.marks }) ≡ Some w → 1 < top_turn w.states → ⊥
    not-above w e lt = let t : top_turn w.states ≡ 1 = ap (λ (x : Marked). top_turn x.states) (sym (some-eq (record { states = at_turn 0 ∷ at_turn 1 ∷ []; marks = chain.marks }) w e)) in omega arith

honest-lines : HonestIn rules key_a pair history journal
honest-lines = (
  record {
    within = omega arith;
    rising = λ y i n. low y i;
    place = λ later past is len. subst (λ (z : List Entry). HonestAt rules key_a pair z looking (signing ∷ opening ∷ [])) (sym (end-is history later past 1 is len)) at-looking;
  },
  (
    record {
      within = omega arith;
      rising = λ y i n. lower y i;
      place = λ later past is len. subst (λ (z : List Entry). HonestAt rules key_a pair z signing (opening ∷ [])) (sym (end-is history later past 0 is len)) at-signing;
    },
    (
      record {
        within = omega arith;
        rising = λ y i n. absurd i;
        place = λ later past is len. subst (λ (z : List Entry). HonestAt rules key_a pair z opening []) (sym (end-is history later past 0 is len)) at-opening;
      },
      tt,
    ),
  ),
)
  where
    low : (y : Line) → In y (signing ∷ opening ∷ []) → y.seen ≤ 1
    low y (inl e) = let z : y.seen ≡ 0 = ap (λ (x : Line). x.seen) e in omega arith
    low y (inr (inl e)) = let z : y.seen ≡ 0 = ap (λ (x : Line). x.seen) e in omega arith
    low y (inr (inr i)) = absurd i

    lower : (y : Line) → In y (opening ∷ []) → y.seen ≤ 0
    lower y (inl e) = let z : y.seen ≡ 0 = ap (λ (x : Line). x.seen) e in omega arith
    lower y (inr i) = absurd i

-- the one fixed part that is opened
is-pair : (x : Line) (f : FixedParts) → In x journal → In f (opened x) → f ≡ pair
is-pair x f (inl e) i = absurd (subst (λ (z : Line). In f (opened z)) e i)
is-pair x f (inr (inl e)) i = absurd (subst (λ (z : Line). In f (opened z)) e i)
is-pair x f (inr (inr (inl e))) i = first (subst (λ (z : Line). In f (opened z)) e i)
  where
    first : In f (pair ∷ []) → f ≡ pair
    first (inl q) = q
    first (inr j) = absurd j
is-pair x f (inr (inr (inr i))) j = absurd i

honest : Honest rules key_a history journal
honest f x i j = subst (λ (g : FixedParts). HonestIn rules key_a g history journal) (sym (is-pair x f i j)) honest-lines

-- ---- nothing is forged

in-journal : (x : Line) (P : Line → Type 0) → In x journal → P looking → P signing → P opening → P x
in-journal x P (inl e) a b c = subst P (sym e) a
in-journal x P (inr (inl e)) a b c = subst P (sym e) b
in-journal x P (inr (inr (inl e))) a b c = subst P (sym e) c
in-journal x P (inr (inr (inr i))) a b c = absurd i

in-history : (e : Entry) (P : Entry → Type 0) → In e history → P time → P challenge → P e
in-history e P (inl q) a b = subst P (sym q) a
in-history e P (inr (inl q)) a b = subst P (sym q) b
in-history e P (inr (inr i)) a b = absurd i

-- an entry with its place: the time after the challenge, or the challenge
in-place : (later past : List Entry) (e : Entry) (P : List Entry → Entry → Type 0) → history ≡ later ++ e ∷ past → P (challenge ∷ []) time → P [] challenge → P past e
in-place [] past e P is a b = subst (λ (z : List Entry). P (rest z) (first z)) is a
  where
    rest : List Entry → List Entry
    rest [] = []
    rest (x ∷ xs) = xs

    first : List Entry → Entry
    first [] = time
    first (x ∷ xs) = x
in-place (k ∷ []) past e P is a b = subst (λ (z : List Entry). P (rest z) (second z)) is b
  where
    rest : List Entry → List Entry
    rest (x ∷ y ∷ xs) = xs
    rest _ = []

    second : List Entry → Entry
    second (x ∷ y ∷ xs) = y
    second _ = challenge
in-place (k ∷ l ∷ later) past e P is a b = absurd (too-long later past e (tails is))
  where
    tails : history ≡ k ∷ (l ∷ (later ++ e ∷ past)) → 2 ≡ length (k ∷ (l ∷ (later ++ e ∷ past)))
    tails q = ap length q

    too-long : (later past : List Entry) (e : Entry) → 2 ≡ suc (suc (length (later ++ e ∷ past))) → ⊥
    too-long later past e q = let n : length (later ++ e ∷ past) ≡ length later + length (e ∷ past) = length-both later (e ∷ past) in omega arith

-- what verifies under A's key in the challenge is turn 0, which A signed
signed-by-a : (s : Signed) → In s (signed_in challenge.op) → bytes_eq key_a s.signature ≡ true → s ≡ record { state = at_turn 0; signature = key_a }
signed-by-a s (inl e) v = e
signed-by-a s (inr (inl e)) v = absurd (not-b (subst (λ (z : Signed). bytes_eq key_a z.signature ≡ true) e v))
  where
    not-b : bytes_eq key_a key_b ≡ true → ⊥
    not-b h = cc
signed-by-a s (inr (inr i)) v = absurd i

abbrev States : List Entry → Entry → Type 0
States past e = (f : FixedParts) (s : Signed) → fixed_of e.op ≡ Some f → In s (signed_in e.op) → bytes_eq key_a s.signature ≡ true
    → WasSignedBy rules journal (length past) (message_of_state (s.state.turn ∷ replicate 32 f.nonce))

states-at-challenge : States [] challenge
states-at-challenge f s has i v =
    subst (λ (g : FixedParts). WasSignedBy rules journal 0 (message_of_state (s.state.turn ∷ replicate 32 g.nonce))) (some-eq pair f has)
    (subst (λ (z : Signed). WasSignedBy rules journal 0 (message_of_state (z.state.turn ∷ name))) (sym (signed-by-a s i v))
    (record { signed = record { line = signing; there = inr (inl refl); is = refl }; early = omega arith }))

abbrev Challenges : List Entry → Entry → Type 0
Challenges past e = (c : Chain) (who : ℕ) (signature : List ℕ) → e.op ≡ ops.Call (make_challenge c who signature) → bytes_eq key_a signature ≡ true
    → WasSignedBy rules journal (length past) (message_of_challenge (top_digest rules c.fixed c.states) who)

-- the challenge is B's
not-by-a : (signature : List ℕ) → key_b ≡ signature → bytes_eq key_a signature ≡ true → ⊥
not-by-a signature e v = clash (bytes_eq key_a key_b) (subst (λ (z : List ℕ). bytes_eq key_a z ≡ true) (sym e) v) refl

challenges-at-challenge : Challenges [] challenge
challenges-at-challenge c who signature op v = absurd (not-by-a signature (ap signature-in op) v)
  where
    signature-in : Op → List ℕ
    signature-in (ops.Call (Challenge k)) = k.signature
    signature-in _ = []

no-message : (x : Line) (bytes : List ℕ) (refusal : Option NodeRefusal) → In x journal → x.deed ≡ deeds.Handled bytes refusal → ⊥
no-message x bytes refusal i = in-journal x (λ (z : Line). z.deed ≡ deeds.Handled bytes refusal → ⊥) i (λ d. cc) (λ d. cc) (λ d. cc)

unforged : Unforged rules key_a history journal
unforged = record {
  states = λ later past e f s is has i v. in-place later past e States is (λ g t has' j w. absurd j) states-at-challenge f s has i v;
  challenges = λ later past e c who signature is op v. in-place later past e Challenges is (λ d w sig o u. absurd cc) challenges-at-challenge c who signature op v;
  messages = λ newer front x bytes refusal channel s is deed. absurd (no-message x bytes refusal (subst (In x) (sym is) (In-append_right x newer (x ∷ front) (inl refl))) deed);
}

-- ---- no collision, and valid values

occurring : (f : FixedParts) → OccursFixed history journal f → f ≡ pair
occurring f (inl o) = in-history o.0 (λ (z : Entry). fixed_of z.op ≡ Some f → f ≡ pair) o.1 (λ h. cc) (λ h. sym (some-eq pair f h)) o.2
occurring f (inr o) = is-pair o.0 f o.1 o.2

-- a state that occurs has turn 0 or 1, in the channel
record Known (c : List ℕ) (s : StateParts) : Type 0 where
  channel : c ≡ name
  state : (s ≡ at_turn 0) ⊎ (s ≡ at_turn 1)

in-challenge : (s : StateParts) → In s (states_in challenge.op) → (s ≡ at_turn 0) ⊎ (s ≡ at_turn 1)
in-challenge s (inl e) = inl e
in-challenge s (inr (inl e)) = inr e
in-challenge s (inr (inr i)) = absurd i

known : (c : List ℕ) (s : StateParts) → OccursState rules history journal c s → Known c s
known c s (in_call e f i has named j) =
    record {
      channel = sym named ∙ ap rules.named (occurring f (inl (e, i, has)));
      state = in-history e (λ (z : Entry). In s (states_in z.op) → (s ≡ at_turn 0) ⊎ (s ≡ at_turn 1)) i (λ k. absurd k) (λ k. in-challenge s k) j;
    }
known c s (in_line x i e) = in-journal x (λ (z : Line). signed_of z.deed ≡ Some (c, s) → Known c s) i (λ h. cc) (λ h. by-signing h) (λ h. cc) e
  where
    by-signing : signed_of signing.deed ≡ Some (c, s) → Known c s
    by-signing h =
        let a : List ℕ × StateParts = (name, at_turn 0) in
        let b : List ℕ × StateParts = (c, s) in
        let p = some-eq a b h in
        record { channel = sym (ap (λ (q : List ℕ × StateParts). q.0) p); state = inl (sym (ap (λ (q : List ℕ × StateParts). q.1) p)) }

one-turn : (s t : StateParts) → (s ≡ at_turn 0) ⊎ (s ≡ at_turn 1) → (t ≡ at_turn 0) ⊎ (t ≡ at_turn 1) → s.turn ≡ t.turn → s ≡ t
one-turn s t (inl a) (inl b) e = a ∙ sym b
one-turn s t (inl a) (inr b) e = let x : s.turn ≡ 0 = ap (λ (z : StateParts). z.turn) a in let y : t.turn ≡ 1 = ap (λ (z : StateParts). z.turn) b in absurd (omega arith)
one-turn s t (inr a) (inl b) e = let x : s.turn ≡ 1 = ap (λ (z : StateParts). z.turn) a in let y : t.turn ≡ 0 = ap (λ (z : StateParts). z.turn) b in absurd (omega arith)
one-turn s t (inr a) (inr b) e = a ∙ sym b

-- all outcomes are empty
nothing-given : (o : List AssetOutcome) → OccursOutcome history o → o ≡ []
nothing-given o (e, i, j) = in-history e (λ (z : Entry). In o (outcomes_in z.op) → o ≡ []) i (λ k. absurd k) (λ k. in-states k) j
  where
    in-states : In o ([] ∷ [] ∷ []) → o ≡ []
    in-states (inl e) = e
    in-states (inr (inl e)) = e
    in-states (inr (inr i)) = absurd i

distinct : NoCollision rules history journal
distinct = record {
  names = λ f g a b e. occurring f a ∙ sym (occurring g b);
  states = λ c d s t a b e. (
    (known c s a).channel ∙ sym (known d t b).channel,
    one-turn s t (known c s a).state (known d t b).state (heads s.turn t.turn c d e),
  );
  outcomes = λ o p a b e. nothing-given o a ∙ sym (nothing-given p b);
}
  where
    heads : (i j : ℕ) (a b : List ℕ) → i ∷ a ≡ j ∷ b → i ≡ j
    heads i j a b e = cc

are-bytes : (n b : ℕ) → b < 256 → AreBytes (replicate n b)
are-bytes zero b h i = omega arith
are-bytes (suc n) b h zero = h
are-bytes (suc n) b h (suc i) = are-bytes n b h i

pair-valid : IsFixed pair
pair-valid = record {
  at_least_two = omega arith;
  at_most_four = omega arith;
  keys = record { each = ((refl, are-bytes 56 1 (omega arith)), ((refl, are-bytes 56 2 (omega arith)), tt)); apart = (refl, (refl, tt)) };
  nonce = omega arith;
  app = omega arith;
  payment = λ e. absurd cc;
  started = omega arith;
  duration = omega arith;
}

state-valid : (turn : ℕ) → turn < 2 → IsState (at_turn turn)
state-valid turn small = record {
  turn = omega arith;
  outcome = (omega arith, record { each = tt; rising = tt });
  few = omega arith;
  bytes = λ i. omega arith;
}

known-valid : (s : StateParts) → (s ≡ at_turn 0) ⊎ (s ≡ at_turn 1) → IsState s
known-valid s (inl e) = subst IsState (sym e) (state-valid 0 (omega arith))
known-valid s (inr e) = subst IsState (sym e) (state-valid 1 (omega arith))

name-valid : IsName name
name-valid = (refl, are-bytes 32 7 (omega arith))

valid : AreValid history journal
valid = record {
  fixed = λ f o. subst IsFixed (sym (occurring f o)) pair-valid;
  states = λ e s i j. in-history e (λ (z : Entry). In s (states_in z.op) → IsState s) i (λ k. absurd k) (λ k. known-valid s (in-challenge s k)) j;
  outcomes = λ o x. subst IsOutcome (sym (nothing-given o x)) (state-valid 0 (omega arith)).outcome;
  signed = λ x c s i e. (
    subst IsName (sym (known c s (in_line x i e)).channel) name-valid,
    known-valid s (known c s (in_line x i e)).state,
  );
  noted = λ x c s i e. in-journal x (λ (z : Line). noted_in c z.deed ≡ Some s → IsState s.state) i (λ h. absurd (none-eq s h)) (λ h. by-signing c s h) (λ h. absurd (none-eq s h)) e;
}
  where
    by-signing : (c : List ℕ) (s : Signed) → noted_in c signing.deed ≡ Some s → IsState s.state
    by-signing c s h = go (bytes_eq name c) h
      where
        go : (b : Bool) → some_if b (record { state = at_turn 0; signature = key_a }) ≡ Some s → IsState s.state
        go true k = subst (λ (z : Signed). IsState z.state) (some-eq (record { state = at_turn 0; signature = key_a }) s k) (state-valid 0 (omega arith))
        go false k = absurd (none-eq s k)

-- ---- in time: the challenge runs out at the time, and A looked between

in-time : InTime rules history journal
in-time later mid past e m f x s is out i noted early = by-place later mid past e m is
  where
    is-name : rules.named f ≡ name
    is-name = in-journal x (λ (z : Line). noted_in (rules.named f) z.deed ≡ Some s → rules.named f ≡ name) i (λ h. absurd (none-eq s h)) (λ h. by-signing h) (λ h. absurd (none-eq s h)) noted
      where
        by-signing : noted_in (rules.named f) signing.deed ≡ Some s → rules.named f ≡ name
        by-signing h = go (bytes_eq name (rules.named f)) refl h
          where
            go : (b : Bool) → bytes_eq name (rules.named f) ≡ b → some_if b (record { state = at_turn 0; signature = key_a }) ≡ Some s → rules.named f ≡ name
            go true q k = sym (same_bytes name (rules.named f) q)
            go false q k = absurd (none-eq s k)

    looked : Looked rules name journal [] challenge []
    looked = record {
      newer = [];
      front = signing ∷ opening ∷ [];
      line = looking;
      watcher = 0;
      calls = [];
      split = refl;
      deed = refl;
      after = [];
      before = [];
      between = refl;
      saw = refl;
      noted_before = λ y t j n. absurd j;
      entered = λ call j n. absurd j;
    }

    by-place : (later mid past : List Entry) (e m : Entry) → history ≡ later ++ e ∷ (mid ++ m ∷ past) → Looked rules (rules.named f) journal mid m past
    by-place [] [] past e m is = subst (λ (c : List ℕ). Looked rules c journal [] m past) (sym is-name) (subst (λ (z : List Entry). Looked rules name journal [] (second z) (rest z)) is looked)
      where
        second : List Entry → Entry
        second (a ∷ b ∷ xs) = b
        second _ = challenge

        rest : List Entry → List Entry
        rest (a ∷ b ∷ xs) = xs
        rest _ = []
    by-place [] (k ∷ mid) past e m is = let l : length (mid ++ m ∷ past) ≡ length mid + length (m ∷ past) = length-both mid (m ∷ past) in absurd (too-long (length (mid ++ m ∷ past)) (length mid) (length past) l (ap length is))
      where
        too-long : (a b c : ℕ) → a ≡ b + suc c → 2 ≡ suc (suc a) → ⊥
        too-long a b c p q = omega arith
    by-place (j ∷ later) mid past e m is =
        let l : length (later ++ e ∷ (mid ++ m ∷ past)) ≡ length later + length (e ∷ (mid ++ m ∷ past)) = length-both later (e ∷ (mid ++ m ∷ past)) in
        let n : length (mid ++ m ∷ past) ≡ length mid + length (m ∷ past) = length-both mid (m ∷ past) in
        absurd (too-long (length (later ++ e ∷ (mid ++ m ∷ past))) (length later) (length (mid ++ m ∷ past)) (length mid) (length past) l n (ap length is))
      where
        too-long : (a b c d e : ℕ) → a ≡ b + suc c → c ≡ d + suc e → 2 ≡ suc a → ⊥
        too-long a b c d e p q r = omega arith

pub runs_out_safely : RunsOutSafely
runs_out_safely = record {
  rules = rules;
  key = key_a;
  fixed = pair;
  last = time;
  past = challenge ∷ [];
  journal = journal;
  keeps = keeps;
  legal = legal;
  honest = honest;
  unforged = unforged;
  distinct = distinct;
  valid = valid;
  in_time = in-time;
  channel = record { line = opening; there = inr (inr (inl refl)); early = omega arith; opens = inl refl; me = 0; mine = refl };
  was = was;
  ends = ends;
}
