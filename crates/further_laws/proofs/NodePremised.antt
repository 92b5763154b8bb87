-- Nothing is forged, no two things collide, all is valid, and no challenge runs out.
use Rattle.std.proofs.Common.{◌≡◌, ℕ, zero, suc, ◌<◌, ◌^◌, Bool, true, false, cond, List, [], ◌∷◌, inl, inr, refl, sym, ◌∙◌, ap, subst, arith}
use Rattle.std.specs.Prelude.{Some, None, Result, Ok, nat_lt, ◌==◌, Contains}
use Rattle.std.specs.List.{AllByRecursion, list_all, list_any, position_or_len}
use Rattle.std.specs.Str.{bytes_eq}
use Rattle.channel_values.specs.Parts.{FixedParts, StateParts, IsFixed, IsState}
use Rattle.channel_values.specs.Outcomes.{AreBytes, IsName, IsOutcome}
use Rattle.channel_values.specs.declared.chain.Signed.{Signed}
use Rattle.channel_values.specs.declared.fault.ByteFault.{ByteFault}
use Rattle.channel_values.specs.declared.value.AssetOutcome.{AssetOutcome}
use Rattle.channel_values.specs.Reading.{many_at, count_at, asset_at, shape_at, allocation_at, item_at, dest_at, outcome_at, turn_at, flag_at, sized_at, state_at, signed_at, all_of}
use Rattle.channel_values.specs.Spelling.{fixed, outcome, state, signed}
use Rattle.support_rules.specs.Rules.{app_fault}
use Rattle.channel_values.specs.Messages.{message_of_state, message_of_challenge}
use Rattle.channel_values.specs.Rows.{last_turn}
use Rattle.channel_values.specs.Support.{supports}
use Rattle.call_history.specs.Reading.{message_at, message_of}
use Rattle.call_history.specs.Spelling.{Message, message}
use Rattle.sha2.specs.Sha256.{sha256, hash_after, compress, digest_bytes, first_words, schedule, rounds}
use Rattle.channel_values.specs.Collisions.{NoneCollide}
use Rattle.channel_values.specs.Digests.{name_of_channel}
use Rattle.call_history.proofs.Names.{same_bytes}
use Rattle.channel_safety.specs.Hashed.{hashed}
use Rattle.call_history.specs.Marked.{chain_of}
use Rattle.call_history.specs.Rows.{fixed_of}
use Rattle.call_history.specs.declared.call.Call.{Call}
use Rattle.call_history.specs.Calls.{make_deposit, make_transfer}
use Rattle.call_history.specs.declared.call.Call.TheVariants.{Checkpoint}
use Rattle.call_history.specs.declared.entry.Entry.{Entry}
use Rattle.call_history.specs.declared.event.Deed.TheVariants as deeds
use Rattle.call_history.specs.declared.refusal.Reply.{Reply}
use Rattle.call_history.specs.declared.refusal.Reply.TheVariants.{Held, Paid}
use Rattle.channel_safety.proofs.Tests.{some-eq, none-eq, and-left, and-right, lt-true, eqb-true}
use Rattle.channel_safety.specs.Journals.{In, Line, some_if, told_in, noted_in}
use Rattle.channel_safety.specs.Strings.{states_in, outcomes_in, signed_of}
use Rattle.channel_safety.specs.Premises.{Unforged, InTime}
use Rattle.channel_safety.specs.Occurring.{OccursFixed, OccursState, NoCollision, AreValid, in_call, in_line}
use Rattle.channel_safety.proofs.Members.{all-in, contained}
use Rattle.premises.proofs.Forged.{forgery-told}
use Rattle.premises.proofs.ListTests.{found, all-pass}
use Rattle.premises.proofs.Timed.{timing-told}
use Rattle.lms_signatures.specs.IsSigned.{is_signed}
use Rattle.lms_signatures.specs.Parts.{number_at, key_of, signature_of}
use Rattle.further_laws.proofs.Computing.{rules}
use Rattle.further_laws.proofs.Digests.{hash, hash-is, string_of, end_at, digest_5_3, digest_3_5, key_a, key_b, a, b, pair, name, pays, at_turn, digests}
use Rattle.further_laws.proofs.Story.{signature, entry, by_a, attack, answer, challenge, time, history, line, challenges, from_b, signs, takes, journal, reads_1, reads_3, reads_5}
use Rattle.further_laws.proofs.Honesty.{is-pair}

pub unforged : Unforged rules key_a history journal
unfolding supports last_turn message_of_state message_of_challenge fixed outcome app_fault message signed state message_at signed_at state_at turn_at flag_at outcome_at asset_at shape_at allocation_at item_at dest_at count_at many_at sized_at all_of is_signed key_of signature_of number_at
unforged = (forgery-told rules key_a history journal).0 refl

-- ---- what there is

abbrev turns : List ℕ
turns = 0 ∷ 1 ∷ 2 ∷ 3 ∷ 4 ∷ 5 ∷ 6 ∷ []

turn-in : (turn : ℕ) → list_any (λ n. n == turn) turns ≡ true → In turn turns
turn-in turn h = let f = found (λ (n : ℕ). n == turn) turns h in subst (λ (n : ℕ). In n turns) (eqb-true f.item turn f.passes) f.there

-- a state of the channel, of one of its turns
record IsThere (s : StateParts) : Type 0 where
  turn : ℕ
  small : In turn turns
  is : s ≡ at_turn turn

there : (turn : ℕ) → In turn turns → IsThere (at_turn turn)
there turn small = record { turn = turn; small = small; is = refl }

-- an outcome of one of the turns
record IsEnd (o : List AssetOutcome) : Type 0 where
  turn : ℕ
  small : In turn turns
  is : o ≡ end_at turn

-- of what an entry names
record Known (e : Entry) : Type 0 where
  fixed : (f : FixedParts) → fixed_of e.op ≡ Some f → f ≡ pair
  states : (s : StateParts) → In s (states_in e.op) → IsThere s
  outcomes : (o : List AssetOutcome) → In o (outcomes_in e.op) → IsEnd o

deposits_nothing : (number expected amount : ℕ) (reply : Reply) → Known (entry number (make_deposit name 0 expected amount) reply)
deposits_nothing number expected amount reply = record { fixed = λ f e. absurd (none-eq f e); states = λ s i. absurd i; outcomes = λ o i. absurd i }

transfers_it : (number index : ℕ) (reply : Reply) → Known (entry number (make_transfer name (pays 4 4) 0 index) reply)
transfers_it number index reply = record { fixed = λ f e. absurd (none-eq f e); states = λ s i. absurd i; outcomes = one }
  where
    one : (o : List AssetOutcome) → In o (pays 4 4 ∷ []) → IsEnd o
    one o (inl e) = record { turn = 5; small = turn-in 5 refl; is = e }
    one o (inr i) = absurd i

two_states : (m n : ℕ) → In m turns → In n turns → (s : StateParts) → In s (at_turn m ∷ at_turn n ∷ []) → IsThere s
two_states m n i j s (inl e) = record { turn = m; small = i; is = e }
two_states m n i j s (inr (inl e)) = record { turn = n; small = j; is = e }
two_states m n i j s (inr (inr k)) = absurd k

two_outcomes : (m n : ℕ) → In m turns → In n turns → (o : List AssetOutcome) → In o (end_at m ∷ end_at n ∷ []) → IsEnd o
two_outcomes m n i j o (inl e) = record { turn = m; small = i; is = e }
two_outcomes m n i j o (inr (inl e)) = record { turn = n; small = j; is = e }
two_outcomes m n i j o (inr (inr k)) = absurd k

attacks : Known attack
attacks = record { fixed = λ f e. sym (some-eq pair f e); states = two_states 3 4 (turn-in 3 refl) (turn-in 4 refl); outcomes = two_outcomes 3 4 (turn-in 3 refl) (turn-in 4 refl) }

answers_it : Known answer
answers_it = record { fixed = λ f e. sym (some-eq pair f e); states = two_states 5 6 (turn-in 5 refl) (turn-in 6 refl); outcomes = two_outcomes 5 6 (turn-in 5 refl) (turn-in 6 refl) }

challenges_it : Known challenge
challenges_it = record { fixed = λ f e. sym (some-eq pair f e); states = two_states 5 6 (turn-in 5 refl) (turn-in 6 refl); outcomes = two_outcomes 5 6 (turn-in 5 refl) (turn-in 6 refl) }

passes : Known time
passes = record { fixed = λ f e. absurd (none-eq f e); states = λ s i. absurd i; outcomes = λ o i. absurd i }

known : (e : Entry) → In e history → Known e
known e i = all-in Known e history
    (transfers_it 8 1 (Paid 4), (transfers_it 7 0 (Paid 4), (passes, (challenges_it, (answers_it, (attacks, (deposits_nothing 2 5 3 (Held 8), (deposits_nothing 1 0 5 (Held 5), tt)))))))) i

-- of what a line names
record KnownLine (x : Line) : Type 0 where
  signed : (p : List ℕ × StateParts) → signed_of x.deed ≡ Some p → (name ≡ p.0) × IsThere p.1
  noted : (channel : List ℕ) (s : Signed) → noted_in channel x.deed ≡ Some s → IsThere s.state

if_some : (t : Bool) (m s : Signed) → some_if t m ≡ Some s → IsThere m.state → IsThere s.state
if_some true m s e k = subst (λ (z : Signed). IsThere z.state) (some-eq m s e) k
if_some false m s e k = absurd (none-eq s e)

signs_one : (seen turn : ℕ) → In turn turns → KnownLine (signs seen turn)
signs_one seen turn small = record {
  signed = λ p e. subst (λ (q : List ℕ × StateParts). (name ≡ q.0) × IsThere q.1) (some-eq (name, at_turn turn) p e) (refl, there turn small);
  noted = λ channel s e. if_some (bytes_eq name channel) (record { state = at_turn turn; signature = signature turn }) s e (there turn small);
}

takes_one : (seen turn : ℕ) → In turn turns → message_of (message (name, from_b turn)) ≡ Ok (name, from_b turn) → KnownLine (takes seen turn)
takes_one seen turn small reads = record {
  signed = λ p e. absurd (none-eq p e);
  noted = λ channel s e. if_some (bytes_eq name channel) (from_b turn) s (sym (ap (λ (o : Result Message ByteFault). told_in channel o) reads) ∙ e) (there turn small);
}

commands : (seen step : ℕ) (adds : List FixedParts) → KnownLine (record { seen = seen; deed = deeds.Commanded step None; adds = adds })
commands seen step adds = record { signed = λ p e. absurd (none-eq p e); noted = λ channel s e. absurd (none-eq s e) }

looks_on : (seen watcher : ℕ) (given : List Call) → KnownLine (line seen (deeds.Watched watcher given) [])
looks_on seen watcher given = record { signed = λ p e. absurd (none-eq p e); noted = λ channel s e. absurd (none-eq s e) }

leaves_by : KnownLine challenges
leaves_by = record {
  signed = λ p e. subst (λ (q : List ℕ × StateParts). (name ≡ q.0) × IsThere q.1) (some-eq (name, at_turn 6) p e) (refl, there 6 (turn-in 6 refl));
  noted = λ channel s e. absurd (none-eq s e);
}

known-line : (x : Line) → In x journal → KnownLine x
known-line x i = all-in KnownLine x journal (
  looks_on 5 0 [],
  (
    leaves_by,
    (
      looks_on 3 0 (Checkpoint (chain_of pair (by_a 6)) ∷ []),
      (
        signs_one 2 6 (turn-in 6 refl),
        (
          takes_one 2 5 (turn-in 5 refl) reads_5,
          (
            signs_one 2 4 (turn-in 4 refl),
            (
              commands 2 1 [],
              (takes_one 2 3 (turn-in 3 refl) reads_3, (signs_one 2 2 (turn-in 2 refl), (takes_one 0 1 (turn-in 1 refl) reads_1, (signs_one 0 0 (turn-in 0 refl), (commands 0 0 (pair ∷ []), tt))))),
            ),
          ),
        ),
      ),
    ),
  ),
) i

fixed-there : (f : FixedParts) → OccursFixed history journal f → f ≡ pair
fixed-there f (inl o) = (known o.0 o.1).fixed f o.2
fixed-there f (inr o) = is-pair o.0 f o.1 o.2

record Occurs (channel : List ℕ) (s : StateParts) : Type 0 where
  of : name ≡ channel
  state : IsThere s

state-there : (c : List ℕ) (s : StateParts) → OccursState rules history journal c s → Occurs c s
unfolding fixed
state-there c s (in_call e f i has named j) = record { of = ap (λ (g : FixedParts). rules.named g) (sym ((known e i).fixed f has)) ∙ named; state = (known e i).states s j }
state-there c s (in_line x i is) = let k = (known-line x i).signed (c, s) is in record { of = k.0; state = k.1 }

-- ---- no two collide

-- a digest determines the turn
abbrev told_by : List ℕ → ℕ
told_by digest = position_or_len (λ d. bytes_eq d digest) digests

tells : (turn : ℕ) → In turn turns → told_by (rules.digest name (at_turn turn)) ≡ turn
unfolding fixed state outcome
tells turn i = all-in (λ (n : ℕ). told_by (rules.digest name (at_turn n)) ≡ n) turn turns (refl, (refl, (refl, (refl, (refl, (refl, (refl, tt))))))) i

-- and that of an outcome determines it
abbrev end_by : List ℕ → List AssetOutcome
end_by digest = cond (bytes_eq digest_5_3 digest) (pays 5 3) (cond (bytes_eq digest_3_5 digest) (pays 3 5) (pays 4 4))

tells-end : (turn : ℕ) → In turn turns → end_by (rules.outcome_digest (end_at turn)) ≡ end_at turn
unfolding outcome
tells-end turn i = all-in (λ (n : ℕ). end_by (rules.outcome_digest (end_at n)) ≡ end_at n) turn turns (refl, (refl, (refl, (refl, (refl, (refl, (refl, tt))))))) i

tells-there : (c : List ℕ) (s : StateParts) → name ≡ c → (k : IsThere s) → told_by (rules.digest c s) ≡ k.turn
tells-there c s of k =
    subst (λ (n : List ℕ). told_by (rules.digest n s) ≡ k.turn) of (subst (λ (z : StateParts). told_by (rules.digest name z) ≡ k.turn) (sym k.is) (tells k.turn k.small))

pub distinct : NoCollision rules history journal
distinct = record {
  names = λ f g i j e. fixed-there f i ∙ sym (fixed-there g j);
  states = λ c d s t i j e. (
      let p = state-there c s i in
      let q = state-there d t j in
      let same : p.state.turn ≡ q.state.turn = sym (tells-there c s p.of p.state) ∙ (ap (λ (x : List ℕ). told_by x) e ∙ tells-there d t q.of q.state) in
      (sym p.of ∙ q.of, p.state.is ∙ (ap (λ (n : ℕ). at_turn n) same ∙ sym q.state.is))
      );
  outcomes = λ o p i j e. (
      let k = (known i.0 i.1).outcomes o i.2 in
      let l = (known j.0 j.1).outcomes p j.2 in
      sym (told-end o k) ∙ (ap (λ (x : List ℕ). end_by x) e ∙ told-end p l)
      );
}
  where
    told-end : (o : List AssetOutcome) → IsEnd o → end_by (rules.outcome_digest o) ≡ o
    told-end o k = subst (λ (z : List AssetOutcome). end_by (rules.outcome_digest z) ≡ z) (sym k.is) (tells-end k.turn k.small)

-- whatever is hashed is in the table, by whose digests it is told
all-told : list_all (λ x. bytes_eq (string_of (hash x)) x) (hashed history journal) ≡ true
unfolding name_of_channel sha256 hash_after compress digest_bytes first_words schedule rounds fixed outcome message signed state message_at signed_at state_at turn_at flag_at outcome_at asset_at shape_at allocation_at item_at dest_at count_at many_at sized_at all_of
all-told = refl

told-back : (x : List ℕ) → Contains (hashed history journal) x → string_of (sha256 x) ≡ x
told-back x i =
    ap (λ (h : List ℕ → List ℕ). string_of (h x)) (sym hash-is)
    ∙ same_bytes (string_of (hash x)) x (all-pass (λ (y : List ℕ). bytes_eq (string_of (hash y)) y) (hashed history journal) x all-told (contained x (hashed history journal) i))

pub none_collide : NoneCollide (hashed history journal)
none_collide x y i j e = sym (told-back x i) ∙ (ap (λ (d : List ℕ). string_of d) e ∙ told-back y j)

-- ---- all is valid

all-bytes : (xs : List ℕ) → list_all (λ n. nat_lt n 256) xs ≡ true → AreBytes xs
all-bytes [] h i = omega arith
all-bytes (x ∷ xs) h zero = lt-true x 256 (and-left (nat_lt x 256) (list_all (λ n. nat_lt n 256) xs) h)
all-bytes (x ∷ xs) h (suc i) = all-bytes xs (and-right (nat_lt x 256) (list_all (λ n. nat_lt n 256) xs) h) i

valid-fixed : IsFixed pair
valid-fixed = record {
  at_least_two = omega arith;
  at_most_four = omega arith;
  keys = record { each = ((refl, all-bytes key_a refl), ((refl, all-bytes key_b refl), tt)); apart = (refl, (refl, tt)) };
  nonce = omega arith;
  app = omega arith;
  payment = λ e. refl;
  started = omega arith;
  duration = omega arith;
}

valid-outcome : (x y : ℕ) → x < 9 → y < 9 → IsOutcome (pays x y)
valid-outcome x y h k = (
  omega arith,
  record {
    each = ((omega arith, (omega arith, record { each = (((refl, all-bytes a refl), omega (arith, h)), (((refl, all-bytes b refl), omega (arith, k)), tt)); apart = (refl, (refl, tt)); within = omega (arith, h, k) })), tt);
    rising = (refl, tt);
  },
)

valid-end : (turn : ℕ) → IsOutcome (end_at turn)
valid-end turn = go (nat_lt turn 4) (turn == 4)
  where
    go : (t u : Bool) → IsOutcome (cond t (pays 5 3) (cond u (pays 3 5) (pays 4 4)))
    go true u = valid-outcome 5 3 (omega arith) (omega arith)
    go false true = valid-outcome 3 5 (omega arith) (omega arith)
    go false false = valid-outcome 4 4 (omega arith) (omega arith)

valid-state : (s : StateParts) → IsThere s → IsState s
valid-state s k = subst IsState (sym k.is) (record { turn = all-in (λ (n : ℕ). n < 2 ^ 48) k.turn turns (omega arith, (omega arith, (omega arith, (omega arith, (omega arith, (omega arith, (omega arith, tt))))))) k.small; outcome = valid-end k.turn; few = omega arith; bytes = λ i. omega arith })

pub valid : AreValid history journal
valid = record {
  fixed = λ f o. subst IsFixed (sym (fixed-there f o)) valid-fixed;
  states = λ e s i j. valid-state s ((known e i).states s j);
  outcomes = λ o i. (let k = (known i.0 i.1).outcomes o i.2 in subst IsOutcome (sym k.is) (valid-end k.turn));
  signed = λ x channel s i e. (let k = (known-line x i).signed (channel, s) e in (subst IsName k.0 (refl, all-bytes name refl), valid-state s k.1));
  noted = λ x channel s i e. valid-state s.state ((known-line x i).noted channel s e);
}

-- ---- A's looks are in time

pub in_time : InTime rules history journal
unfolding supports last_turn message_of_state message_of_challenge fixed outcome app_fault message signed state message_at signed_at state_at turn_at flag_at outcome_at asset_at shape_at allocation_at item_at dest_at count_at many_at sized_at all_of
in_time = (timing-told rules history journal
    (valid-end 5, (valid-end 5, (tt, (ends_in_6, (ends_in_6, ((valid-fixed, (valid-state (at_turn 3) (there 3 (turn-in 3 refl)), (valid-state (at_turn 4) (there 4 (turn-in 4 refl)), tt))), (tt, (tt, tt)))))))) (
      tt,
      (
        own 6 (turn-in 6 refl),
        (
          (ends_in_6, tt),
          (
            own 6 (turn-in 6 refl),
            (
              all-bytes (message (name, from_b 5)) refl,
              (
                own 4 (turn-in 4 refl),
                (
                  tt,
                  (all-bytes (message (name, from_b 3)) refl, (own 2 (turn-in 2 refl), (all-bytes (message (name, from_b 1)) refl, (own 0 (turn-in 0 refl), (tt, tt))))),
                ),
              ),
            ),
          ),
        ),
      ),
    )).0 refl
  where
    ends_in_6 : IsFixed pair × AllByRecursion IsState (at_turn 5 ∷ at_turn 6 ∷ [])
    ends_in_6 = (valid-fixed, (valid-state (at_turn 5) (there 5 (turn-in 5 refl)), (valid-state (at_turn 6) (there 6 (turn-in 6 refl)), tt)))

    own : (turn : ℕ) → In turn turns → IsName name × IsState (at_turn turn)
    own turn i = ((refl, all-bytes name refl), valid-state (at_turn turn) (there turn i))
