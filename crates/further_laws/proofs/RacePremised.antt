-- In the race of channel_safety, Story, all premises of safety hold for A.
use Rattle.std.proofs.Common.{◌≡◌, ℕ, zero, suc, ◌+◌, ◌-◌, ◌<◌, ◌≤◌, Bool, true, false, cond, not, ◌||◌, List, [], ◌∷◌, ◌++◌, inl, inr, length, drop, replicate, refl, sym, ◌∙◌, ap, subst, arith}
use Rattle.std.specs.Prelude.{Option, Some, None, nat_lt, nat_le}
use Rattle.std.specs.List.{list_all}
use Rattle.std.specs.Str.{bytes_eq}
use Rattle.std.proofs.lemmas.List.{length-append}
use Rattle.std.proofs.Math.Seq.{drop-append_seam}
use Rattle.channel_values.specs.Parts.{FixedParts, StateParts, IsFixed, IsState}
use Rattle.channel_values.specs.Outcomes.{AreBytes, IsName, IsOutcome}
use Rattle.channel_values.specs.declared.chain.Signed.{Signed}
use Rattle.channel_values.specs.declared.fault.StepFault.TheVariants.{AfterFinal}
use Rattle.channel_values.specs.declared.value.AssetOutcome.{AssetOutcome}
use Rattle.call_history.specs.declared.standing.Standing.TheVariants.{Open}
use Rattle.channel_values.specs.Messages.{message_of_state, message_of_challenge}
use Rattle.channel_values.specs.Rows.{last_turn}
use Rattle.channel_values.specs.Rules.{KeepsFinal, top_turn}
use Rattle.channel_values.specs.Support.{supports}
use Rattle.call_history.specs.Rows.{fixed_of}
use Rattle.call_history.specs.History.{mode, row}
use Rattle.call_history.specs.Marked.{Marked, nothing, chain_of}
use Rattle.call_history.specs.declared.call.Call.{Call}
use Rattle.call_history.specs.declared.call.Call.TheVariants.{Checkpoint}
use Rattle.call_history.specs.declared.entry.Entry.{Entry}
use Rattle.call_history.specs.declared.event.Deed.{Deed}
use Rattle.call_history.specs.declared.event.Deed.TheVariants as deeds
use Rattle.channel_safety.proofs.Tests.{some-eq, none-eq, lt-true, le-true}
use Rattle.channel_safety.specs.Held.{held}
use Rattle.channel_safety.specs.Honest.{key_at, EndsWith, HonestAt, HonestLine, HonestIn, Honest}
use Rattle.channel_safety.specs.Journals.{In, Line, some_if, made_in, noted_in, is_challenge}
use Rattle.channel_safety.specs.Occurring.{OccursFixed, OccursState, NoCollision, AreValid, in_call, in_line}
use Rattle.channel_safety.specs.Strings.{states_in, outcomes_in, signed_of}
use Rattle.channel_safety.proofs.Members.{all-in}
use Rattle.premises.proofs.Forged.{forgery-told}
use Rattle.premises.proofs.ListTests.{all-pass}
use Rattle.channel_safety.specs.RaceWitness.{second_round, history, journal}
use Rattle.channel_safety.proofs.Story.{rules, key_a, pair, name, at_turn, by_a, by_b, shows, attack, answer, again, first_time, second_time, opens, signs, looks, story, is-pair, passes_rounds}
use Rattle.further_laws.specs.RaceWitness.{PremisesHold}

none-final : (a b : Bool) → cond (a || b) (Some AfterFinal) None ≡ None → (a ≡ false) × (b ≡ false)
none-final true b h = cc
none-final false true h = cc
none-final false false h = (refl, refl)

not-so : (b : Bool) → b ≡ false → b ≡ true → ⊥
not-so b f t = cc

keeps : KeepsFinal rules
keeps = record {
  stays = λ f s t h e. absurd (not-so s.is_final (none-final s.is_final t.is_final h).0 e);
  same = λ f s t hs ht h e. absurd (not-so t.is_final (none-final s.is_final t.is_final h).1 e);
  late = λ f s t h e. absurd (not-so t.is_final (none-final s.is_final t.is_final h).1 e);
}

-- ---- what a line of each kind keeps

opening : HonestAt rules key_a pair [] opens []
opening = record {
  opening = λ o. refl;
  takes_part = λ i. (0, refl);
  in_plan = λ s m. absurd (none-eq s m);
  is_open = λ s m. absurd (none-eq s m);
  own_turn = λ s m. absurd (none-eq s m);
  above = λ s m. absurd (none-eq s m);
  holds = λ s m. absurd (none-eq s m);
  challenges = λ s who signature d. absurd cc;
  leaves = λ s m. absurd (none-eq s m);
  looks = λ watcher calls w d. absurd cc;
}

-- a state that A signed has a lower turn
abbrev is_below : ℕ → Option Signed → Bool
is_below turn None = true
is_below turn (Some t) = nat_lt t.state.turn turn

below : (turn : ℕ) (o : Option Signed) (t : Signed) → is_below turn o ≡ true → o ≡ Some t → t.state.turn < turn
below turn o t h e = lt-true t.state.turn turn (ap (λ (p : Option Signed). is_below turn p) (sym e) ∙ h)

signing : (past : List Entry) (seen turn : ℕ) (front : List Line) (w : Marked) → held rules pair past front ≡ Some w → mode rules name past ≡ Open → key_at pair turn ≡ Some key_a
    → list_all (λ y. is_below turn (made_in name y.deed)) front ≡ true → list_all (λ y. not (is_challenge y.deed)) front ≡ true
    → (2 ≤ turn + 1 → EndsWith rules pair (held rules pair past (signs seen turn ∷ front)) (at_turn turn)) → HonestAt rules key_a pair past (signs seen turn) front
signing past seen turn front w is_held is_open own low none ends = record {
  opening = λ o. absurd cc;
  takes_part = λ i. absurd i;
  in_plan = λ s m. (w, is_held);
  is_open = λ s m. is_open;
  own_turn = λ s m. subst (λ (z : Signed). key_at pair z.state.turn ≡ Some key_a) (made s m) own;
  above = λ s m y t i n. subst (λ (z : Signed). t.state.turn < z.state.turn) (made s m) (below turn (made_in name y.deed) t (all-pass (λ (z : Line). is_below turn (made_in name z.deed)) front y low i) n);
  holds = λ s m. subst (λ (z : Signed). 2 ≤ z.state.turn + 1 → EndsWith rules pair (held rules pair past (signs seen turn ∷ front)) z.state) (made s m) ends;
  challenges = λ s who signature d. absurd cc;
  leaves = λ s m y i. no-challenge (is_challenge y.deed) (all-pass (λ (z : Line). not (is_challenge z.deed)) front y none i);
  looks = λ watcher calls w d. absurd cc;
}
  where
    own_state : Signed
    own_state = record { state = at_turn turn; signature = key_a }

    made : (s : Signed) → Some own_state ≡ Some s → own_state ≡ s
    made s e = some-eq own_state s e

    no-challenge : (t : Bool) → not t ≡ true → t ≡ false
    no-challenge true h = absurd cc
    no-challenge false h = refl

-- a look at a channel that isn't below what is held, or where it is, with the checkpoint
looking : (past : List Entry) (seen : ℕ) (given : List Call) (front : List Line) (w : Marked) → held rules pair past front ≡ Some w
    → ((row rules name past).turn < top_turn w.states → In (Checkpoint (chain_of pair w)) given) → HonestAt rules key_a pair past (looks seen given) front
looking past seen given front w is_held gives = record {
  opening = λ o. absurd cc;
  takes_part = λ i. absurd i;
  in_plan = λ s m. absurd (none-eq s m);
  is_open = λ s m. absurd (none-eq s m);
  own_turn = λ s m. absurd (none-eq s m);
  above = λ s m. absurd (none-eq s m);
  holds = λ s m. absurd (none-eq s m);
  challenges = λ s who signature d. absurd cc;
  leaves = λ s m. absurd (none-eq s m);
  looks = λ watcher calls v d is sup mode lt. subst (λ (cs : List Call). In (Checkpoint (chain_of pair v)) cs) (ap calls_in d)
      (subst (λ (u : Marked). (row rules name past).turn < top_turn u.states → In (Checkpoint (chain_of pair u)) given) (some-eq w v (sym is_held ∙ is)) gives lt);
}
  where
    calls_in : Deed → List Call
    calls_in (deeds.Watched watcher calls) = calls
    calls_in _ = []

-- ---- each line at its place

end-is : (h later past : List Entry) (k : ℕ) → h ≡ later ++ past → length past ≡ k → past ≡ drop (length h - k) h
end-is h later past k is len =
    let l : length h ≡ length later + length past = ap length is ∙ length-append later past in
    let d : length h - k ≡ length later = omega (arith, l, len) in
    sym (ap (λ (n : ℕ). drop n h) d ∙ (ap (drop (length later)) is ∙ drop-append_seam later past))

honest-line : (x : Line) (front : List Line) → nat_le x.seen 6 ≡ true → list_all (λ y. nat_le y.seen x.seen) front ≡ true → HonestAt rules key_a pair (drop (6 - x.seen) (history story)) x front
    → HonestLine rules key_a pair (history story) x front
honest-line x front within rising at = record {
  within = le-true x.seen 6 within;
  rising = λ y i n. le-true y.seen x.seen (all-pass (λ (z : Line). nat_le z.seen x.seen) front y rising i);
  place = λ later past is len. subst (λ (z : List Entry). HonestAt rules key_a pair z x front) (sym (end-is (history story) later past x.seen is len)) at;
}

at_first : HonestAt rules key_a pair [] (signs 0 0) (opens ∷ [])
unfolding supports last_turn
at_first = signing [] 0 0 (opens ∷ []) nothing refl refl refl refl refl (λ high. absurd (omega arith))

at_next : HonestAt rules key_a pair (shows ∷ []) (signs 1 2) (signs 0 0 ∷ opens ∷ [])
unfolding supports last_turn
at_next = signing (shows ∷ []) 1 2 (signs 0 0 ∷ opens ∷ []) (by_b 1) refl refl refl refl refl (λ high. record { chain = by_a 2; is = refl; ends = refl; chain_supported = refl })

at_look : HonestAt rules key_a pair (attack ∷ shows ∷ []) story.first_look story.signed
unfolding supports last_turn
at_look = looking (attack ∷ shows ∷ []) 2 (Checkpoint (chain_of pair (by_a 2)) ∷ []) story.signed (by_a 2) refl (λ lt. inl refl)

at_next_look : HonestAt rules key_a pair (second_round story) story.second_look (story.first_look ∷ story.signed)
unfolding supports last_turn
at_next_look = looking (second_round story) 5 [] (story.first_look ∷ story.signed) (by_a 2) refl (λ lt. absurd (omega (arith, lt)))

honest-lines : HonestIn rules key_a pair (history story) (journal story)
honest-lines = (
  honest-line story.second_look (story.first_look ∷ story.signed) refl refl at_next_look,
  (
    honest-line story.first_look story.signed refl refl at_look,
    (
      honest-line (signs 1 2) (signs 0 0 ∷ opens ∷ []) refl refl at_next,
      (honest-line (signs 0 0) (opens ∷ []) refl refl at_first, (honest-line opens [] refl refl opening, tt)),
    ),
  ),
)

honest : Honest rules key_a (history story) (journal story)
honest f x i j = subst (λ (g : FixedParts). HonestIn rules key_a g (history story) (journal story)) (sym (is-pair x f i j)) honest-lines

-- ---- what there is

-- a state of the channel, of one of its turns
record IsThere (s : StateParts) : Type 0 where
  turn : ℕ
  small : turn < 3
  is : s ≡ at_turn turn

there : (turn : ℕ) → turn < 3 → IsThere (at_turn turn)
there turn small = record { turn = turn; small = small; is = refl }

-- of what an entry names
record Known (e : Entry) : Type 0 where
  fixed : (f : FixedParts) → fixed_of e.op ≡ Some f → f ≡ pair
  states : (s : StateParts) → In s (states_in e.op) → IsThere s
  outcomes : (o : List AssetOutcome) → In o (outcomes_in e.op) → o ≡ []

two_states : (m n : ℕ) → m < 3 → n < 3 → (s : StateParts) → In s (at_turn m ∷ at_turn n ∷ []) → IsThere s
two_states m n i j s (inl e) = record { turn = m; small = i; is = e }
two_states m n i j s (inr (inl e)) = record { turn = n; small = j; is = e }
two_states m n i j s (inr (inr k)) = absurd k

two_outcomes : (o : List AssetOutcome) → In o ([] ∷ [] ∷ []) → o ≡ []
two_outcomes o (inl e) = e
two_outcomes o (inr (inl e)) = e
two_outcomes o (inr (inr k)) = absurd k

knows-shows : Known shows
knows-shows = record { fixed = λ f e. sym (some-eq pair f e); states = two_states 0 1 (omega arith) (omega arith); outcomes = two_outcomes }

knows-attack : Known attack
knows-attack = record { fixed = λ f e. sym (some-eq pair f e); states = two_states 0 1 (omega arith) (omega arith); outcomes = two_outcomes }

knows-answer : Known answer
knows-answer = record { fixed = λ f e. sym (some-eq pair f e); states = two_states 1 2 (omega arith) (omega arith); outcomes = two_outcomes }

knows-again : Known again
knows-again = record { fixed = λ f e. sym (some-eq pair f e); states = two_states 1 2 (omega arith) (omega arith); outcomes = two_outcomes }

knows-first : Known first_time
knows-first = record { fixed = λ f e. absurd (none-eq f e); states = λ s i. absurd i; outcomes = λ o i. absurd i }

knows-second : Known second_time
knows-second = record { fixed = λ f e. absurd (none-eq f e); states = λ s i. absurd i; outcomes = λ o i. absurd i }

known : (e : Entry) → In e (history story) → Known e
known e i = all-in Known e (history story) (knows-second, (knows-first, (knows-again, (knows-answer, (knows-attack, (knows-shows, tt)))))) i

-- of what a line names
record KnownLine (x : Line) : Type 0 where
  signed : (p : List ℕ × StateParts) → signed_of x.deed ≡ Some p → (name ≡ p.0) × IsThere p.1
  noted : (channel : List ℕ) (s : Signed) → noted_in channel x.deed ≡ Some s → IsThere s.state

if_some : (t : Bool) (m s : Signed) → some_if t m ≡ Some s → IsThere m.state → IsThere s.state
if_some true m s e k = subst (λ (z : Signed). IsThere z.state) (some-eq m s e) k
if_some false m s e k = absurd (none-eq s e)

signs_it : (seen turn : ℕ) → turn < 3 → KnownLine (signs seen turn)
signs_it seen turn small = record {
  signed = λ p e. subst (λ (q : List ℕ × StateParts). (name ≡ q.0) × IsThere q.1) (some-eq (name, at_turn turn) p e) (refl, there turn small);
  noted = λ channel s e. if_some (bytes_eq name channel) (record { state = at_turn turn; signature = key_a }) s e (there turn small);
}

opens_it : KnownLine opens
opens_it = record { signed = λ p e. absurd (none-eq p e); noted = λ channel s e. absurd (none-eq s e) }

looks_on : (seen : ℕ) (given : List Call) → KnownLine (looks seen given)
looks_on seen given = record { signed = λ p e. absurd (none-eq p e); noted = λ channel s e. absurd (none-eq s e) }

known-line : (x : Line) → In x (journal story) → KnownLine x
known-line x i = all-in KnownLine x (journal story)
    (looks_on 5 [], (looks_on 2 (Checkpoint (chain_of pair (by_a 2)) ∷ []), (signs_it 1 2 (omega arith), (signs_it 0 0 (omega arith), (opens_it, tt))))) i

fixed-there : (f : FixedParts) → OccursFixed (history story) (journal story) f → f ≡ pair
fixed-there f (inl o) = (known o.0 o.1).fixed f o.2
fixed-there f (inr o) = is-pair o.0 f o.1 o.2

record Occurs (channel : List ℕ) (s : StateParts) : Type 0 where
  of : name ≡ channel
  state : IsThere s

state-there : (c : List ℕ) (s : StateParts) → OccursState rules (history story) (journal story) c s → Occurs c s
state-there c s (in_call e f i has named j) = record { of = ap (λ (g : FixedParts). rules.named g) (sym ((known e i).fixed f has)) ∙ named; state = (known e i).states s j }
state-there c s (in_line x i is) = let k = (known-line x i).signed (c, s) is in record { of = k.0; state = k.1 }

-- ---- no two collide, and all is valid

distinct : NoCollision rules (history story) (journal story)
distinct = record {
  names = λ f g i j e. fixed-there f i ∙ sym (fixed-there g j);
  states = λ c d s t i j e. (
      let p = state-there c s i in
      let q = state-there d t j in
      (sym p.of ∙ q.of, p.state.is ∙ (ap at_turn (same-turn s t p.state q.state (heads s.turn t.turn c d e)) ∙ sym q.state.is))
      );
  outcomes = λ o p i j e. (known i.0 i.1).outcomes o i.2 ∙ sym ((known j.0 j.1).outcomes p j.2);
}
  where
    heads : (i j : ℕ) (a b : List ℕ) → i ∷ a ≡ j ∷ b → i ≡ j
    heads i j a b e = cc

    turn-is : (s : StateParts) (k : IsThere s) → s.turn ≡ k.turn
    turn-is s k = ap (λ (z : StateParts). z.turn) k.is

    same-turn : (s t : StateParts) (k : IsThere s) (l : IsThere t) → s.turn ≡ t.turn → k.turn ≡ l.turn
    same-turn s t k l e = sym (turn-is s k) ∙ (e ∙ turn-is t l)

are-bytes : (n b : ℕ) → b < 256 → AreBytes (replicate n b)
are-bytes zero b h i = omega arith
are-bytes (suc n) b h zero = h
are-bytes (suc n) b h (suc i) = are-bytes n b h i

valid-fixed : IsFixed pair
valid-fixed = record {
  at_least_two = omega arith;
  at_most_four = omega arith;
  keys = record { each = ((refl, are-bytes 56 1 (omega arith)), ((refl, are-bytes 56 2 (omega arith)), tt)); apart = (refl, (refl, tt)) };
  nonce = omega arith;
  app = omega arith;
  payment = λ e. absurd cc;
  started = omega arith;
  duration = omega arith;
}

valid-outcome : IsOutcome []
valid-outcome = (omega arith, record { each = tt; rising = tt })

valid-turn : (turn : ℕ) → turn < 3 → IsState (at_turn turn)
valid-turn turn small = record { turn = omega arith; outcome = valid-outcome; few = omega arith; bytes = λ i. omega arith }

valid-state : (s : StateParts) → IsThere s → IsState s
valid-state s k = subst IsState (sym k.is) (valid-turn k.turn k.small)

valid : AreValid (history story) (journal story)
valid = record {
  fixed = λ f o. subst IsFixed (sym (fixed-there f o)) valid-fixed;
  states = λ e s i j. valid-state s ((known e i).states s j);
  outcomes = λ o i. subst IsOutcome (sym ((known i.0 i.1).outcomes o i.2)) valid-outcome;
  signed = λ x channel s i e. (let k = (known-line x i).signed (channel, s) e in (subst IsName k.0 (refl, are-bytes 32 7 (omega arith)), valid-state s k.1));
  noted = λ x channel s i e. valid-state s.state ((known-line x i).noted channel s e);
}

-- That nothing is forged is a test of the entries and the journal.
pub premises-hold : PremisesHold
unfolding supports last_turn message_of_state message_of_challenge
premises-hold = record {
  story = story;
  key = key_a;
  passes = passes_rounds;
  keeps = keeps;
  honest = honest;
  unforged = (forgery-told rules key_a (history story) _).0 refl;
  distinct = distinct;
  valid = valid;
  channel = record { line = opens; there = inr (inr (inr (inr (inl refl)))); early = omega arith; opens = inl refl; me = 0; mine = refl };
}
