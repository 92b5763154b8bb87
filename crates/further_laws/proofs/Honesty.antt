-- A's journal is honest.
use Rattle.std.proofs.Common.{◌≡◌, ℕ, ◌+◌, ◌-◌, ◌<◌, ◌≤◌, Bool, true, false, not, List, [], ◌∷◌, ◌++◌, inl, inr, length, drop, refl, sym, ◌∙◌, ap, subst, arith}
use Rattle.std.specs.Prelude.{Option, Some, None, Result, Ok, nat_lt, nat_le}
use Rattle.std.specs.List.{list_all}
use Rattle.std.proofs.lemmas.List.{length-append}
use Rattle.std.proofs.Math.Seq.{drop-append_seam}
use Rattle.channel_values.specs.Parts.{FixedParts, StateParts}
use Rattle.channel_values.specs.Reading.{many_at, count_at, asset_at, shape_at, allocation_at, item_at, dest_at, outcome_at, turn_at, flag_at, sized_at, state_at, signed_at, all_of}
use Rattle.channel_values.specs.Spelling.{fixed, outcome, state, signed}
use Rattle.support_rules.specs.Rules.{app_fault}
use Rattle.channel_values.specs.declared.chain.Signed.{Signed}
use Rattle.channel_values.specs.declared.fault.ByteFault.{ByteFault}
use Rattle.call_history.specs.declared.standing.Standing.TheVariants.{Open}
use Rattle.channel_values.specs.Messages.{message_of_state, message_of_challenge}
use Rattle.channel_values.specs.Rows.{last_turn}
use Rattle.channel_values.specs.Rules.{top_turn}
use Rattle.channel_values.specs.Support.{supports}
use Rattle.call_history.specs.History.{mode, row}
use Rattle.call_history.specs.Marked.{Marked, nothing, chain_of}
use Rattle.call_history.specs.Reading.{message_at, message_of}
use Rattle.call_history.specs.Spelling.{Message, message}
use Rattle.call_history.specs.declared.entry.Entry.{Entry}
use Rattle.call_history.specs.declared.call.Call.{Call}
use Rattle.call_history.specs.declared.call.Call.TheVariants.{Checkpoint}
use Rattle.call_history.specs.declared.event.Deed.{Deed}
use Rattle.call_history.specs.declared.event.Deed.TheVariants as deeds
use Rattle.channel_safety.proofs.Tests.{some-eq, none-eq, lt-true, le-true}
use Rattle.channel_safety.specs.Held.{held}
use Rattle.channel_safety.specs.Honest.{key_at, EndsWith, HonestAt, HonestLine, HonestIn, Honest}
use Rattle.channel_safety.specs.Journals.{In, Line, opened, told_in, made_in, is_challenge}
use Rattle.channel_safety.proofs.Members.{all-in}
use Rattle.premises.proofs.ListTests.{all-pass}
use Rattle.further_laws.proofs.Computing.{rules}
use Rattle.further_laws.proofs.Digests.{key_a, pair, name, at_turn}
use Rattle.further_laws.proofs.Story.{line, signature, deposits, attack, answer, challenge, history, signs, from_b, takes, opens, ordered, set_up, paid, back, answers, challenges, looks, journal, reads_1, reads_3, reads_5, by_a, by_b}

-- ---- what a line of each kind keeps

-- a state that A signed has a lower turn
abbrev is_below : ℕ → Option Signed → Bool
is_below turn None = true
is_below turn (Some t) = nat_lt t.state.turn turn

below : (turn : ℕ) (o : Option Signed) (t : Signed) → is_below turn o ≡ true → o ≡ Some t → t.state.turn < turn
below turn o t h e = lt-true t.state.turn turn (ap (λ (p : Option Signed). is_below turn p) (sym e) ∙ h)

-- a command that opens nothing more
commanding : (past : List Entry) (front : List Line) → HonestAt rules key_a pair past ordered front
commanding past front = record {
  opening = λ o. absurd cc;
  takes_part = λ i. absurd i;
  in_plan = λ s m. absurd (none-eq s m);
  is_open = λ s m. absurd (none-eq s m);
  own_turn = λ s m. absurd (none-eq s m);
  above = λ s m. absurd (none-eq s m);
  holds = λ s m. absurd (none-eq s m);
  challenges = λ s who signature d. absurd cc;
  leaves = λ s m. absurd (none-eq s m);
  looks = λ watcher calls w d. absurd cc;
}

opening : HonestAt rules key_a pair [] opens []
opening = record {
  opening = λ o. refl;
  takes_part = λ i. (0, refl);
  in_plan = λ s m. absurd (none-eq s m);
  is_open = λ s m. absurd (none-eq s m);
  own_turn = λ s m. absurd (none-eq s m);
  above = λ s m. absurd (none-eq s m);
  holds = λ s m. absurd (none-eq s m);
  challenges = λ s who signature d. absurd cc;
  leaves = λ s m. absurd (none-eq s m);
  looks = λ watcher calls w d. absurd cc;
}

signing : (past : List Entry) (seen turn : ℕ) (front : List Line) (w : Marked) → held rules pair past front ≡ Some w → mode rules name past ≡ Open → key_at pair turn ≡ Some key_a
    → list_all (λ y. is_below turn (made_in name y.deed)) front ≡ true → list_all (λ y. not (is_challenge y.deed)) front ≡ true
    → (2 ≤ turn + 1 → EndsWith rules pair (held rules pair past (signs seen turn ∷ front)) (at_turn turn)) → HonestAt rules key_a pair past (signs seen turn) front
unfolding fixed
signing past seen turn front w is_held is_open own low none ends = record {
  opening = λ o. absurd cc;
  takes_part = λ i. absurd i;
  in_plan = λ s m. (w, is_held);
  is_open = λ s m. is_open;
  own_turn = λ s m. subst (λ (z : Signed). key_at pair z.state.turn ≡ Some key_a) (made s m) own;
  above = λ s m y t i n. subst (λ (z : Signed). t.state.turn < z.state.turn) (made s m) (below turn (made_in name y.deed) t (all-pass (λ (z : Line). is_below turn (made_in name z.deed)) front y low i) n);
  holds = λ s m. subst (λ (z : Signed). 2 ≤ z.state.turn + 1 → EndsWith rules pair (held rules pair past (signs seen turn ∷ front)) z.state) (made s m) ends;
  challenges = λ s who signature d. absurd cc;
  leaves = λ s m y i. no-challenge (is_challenge y.deed) (all-pass (λ (z : Line). not (is_challenge z.deed)) front y none i);
  looks = λ watcher calls w d. absurd cc;
}
  where
    own_state : Signed
    own_state = record { state = at_turn turn; signature = signature turn }

    made : (s : Signed) → Some own_state ≡ Some s → own_state ≡ s
    made s e = some-eq own_state s e

    no-challenge : (t : Bool) → not t ≡ true → t ≡ false
    no-challenge true h = absurd cc
    no-challenge false h = refl

taking : (past : List Entry) (seen turn : ℕ) (front : List Line) → message_of (message (name, from_b turn)) ≡ Ok (name, from_b turn)
    → EndsWith rules pair (held rules pair past (takes seen turn ∷ front)) (at_turn turn) → HonestAt rules key_a pair past (takes seen turn) front
unfolding fixed
taking past seen turn front reads ends = record {
  opening = λ o. absurd cc;
  takes_part = λ i. absurd i;
  in_plan = λ s m. absurd (none-eq s m);
  is_open = λ s m. absurd (none-eq s m);
  own_turn = λ s m. absurd (none-eq s m);
  above = λ s m. absurd (none-eq s m);
  holds = λ s m high. subst (λ (z : Signed). EndsWith rules pair (held rules pair past (takes seen turn ∷ front)) z.state) (told s m) ends;
  challenges = λ s who signature d. absurd cc;
  leaves = λ s m. absurd (none-eq s m);
  looks = λ watcher calls w d. absurd cc;
}
  where
    told : (s : Signed) → told_in name (message_of (message (name, from_b turn))) ≡ Some s → from_b turn ≡ s
    told s m = some-eq (from_b turn) s (sym (ap (λ (o : Result Message ByteFault). told_in name o) reads) ∙ m)

-- a look at a channel that isn't below what is held, or where it is, with the checkpoint
looking : (past : List Entry) (seen : ℕ) (given : List Call) (front : List Line) (w : Marked) → held rules pair past front ≡ Some w
    → ((row rules name past).turn < top_turn w.states → In (Checkpoint (chain_of pair w)) given) → HonestAt rules key_a pair past (line seen (deeds.Watched 0 given) []) front
unfolding fixed
looking past seen given front w is_held gives = record {
  opening = λ o. absurd cc;
  takes_part = λ i. absurd i;
  in_plan = λ s m. absurd (none-eq s m);
  is_open = λ s m. absurd (none-eq s m);
  own_turn = λ s m. absurd (none-eq s m);
  above = λ s m. absurd (none-eq s m);
  holds = λ s m. absurd (none-eq s m);
  challenges = λ s who signature d. absurd cc;
  leaves = λ s m. absurd (none-eq s m);
  looks = λ watcher calls v d is sup mode lt. subst (λ (cs : List Call). In (Checkpoint (chain_of pair v)) cs) (given-is watcher calls d)
      (subst (λ (u : Marked). (row rules name past).turn < top_turn u.states → In (Checkpoint (chain_of pair u)) given) (some-eq w v (sym is_held ∙ is)) gives lt);
}
  where
    calls_in : Deed → List Call
    calls_in (deeds.Watched watcher calls) = calls
    calls_in _ = []

    given-is : (watcher : ℕ) (calls : List Call) → deeds.Watched 0 given ≡ deeds.Watched watcher calls → given ≡ calls
    given-is watcher calls d = ap calls_in d

challenging : (past : List Entry) (front : List Line) → EndsWith rules pair (held rules pair past front) (at_turn 6) → HonestAt rules key_a pair past challenges front
challenging past front ends = record {
  opening = λ o. absurd cc;
  takes_part = λ i. absurd i;
  in_plan = λ s m. absurd (none-eq s m);
  is_open = λ s m. absurd (none-eq s m);
  own_turn = λ s m. absurd (none-eq s m);
  above = λ s m. absurd (none-eq s m);
  holds = λ s m. absurd (none-eq s m);
  challenges = λ s who signature d. subst (λ (z : StateParts). EndsWith rules pair (held rules pair past front) z) (ap state_in d) ends;
  leaves = λ s m. absurd (none-eq s m);
  looks = λ watcher calls w d. absurd cc;
}
  where
    state_in : Deed → StateParts
    state_in (deeds.SignedChallenge channel s who signature) = s
    state_in _ = at_turn 0

-- ---- each line at its place

pub end-is : (h later past : List Entry) (k : ℕ) → h ≡ later ++ past → length past ≡ k → past ≡ drop (length h - k) h
end-is h later past k is len =
    let l : length h ≡ length later + length past = ap length is ∙ length-append later past in
    let d : length h - k ≡ length later = omega (arith, l, len) in
    sym (ap (λ (n : ℕ). drop n h) d ∙ (ap (drop (length later)) is ∙ drop-append_seam later past))

honest-line : (x : Line) (front : List Line) → nat_le x.seen 8 ≡ true → list_all (λ y. nat_le y.seen x.seen) front ≡ true → HonestAt rules key_a pair (drop (8 - x.seen) history) x front → HonestLine rules key_a pair history x front
honest-line x front within rising at = record {
  within = le-true x.seen 8 within;
  rising = λ y i n. le-true y.seen x.seen (all-pass (λ (z : Line). nat_le z.seen x.seen) front y rising i);
  place = λ later past is len. subst (λ (z : List Entry). HonestAt rules key_a pair z x front) (sym (end-is history later past x.seen is len)) at;
}

abbrev pub after_0 : List Line
after_0 = opens ∷ []

abbrev after_1 : List Line
after_1 = signs 0 0 ∷ after_0

abbrev pub after_2 : List Line
after_2 = takes 0 1 ∷ after_1

abbrev after_3 : List Line
after_3 = signs 2 2 ∷ after_2

abbrev pub after_5 : List Line
after_5 = ordered ∷ set_up

abbrev pub after_7 : List Line
after_7 = takes 2 5 ∷ paid

abbrev after_9 : List Line
after_9 = answers ∷ (back ++ paid)

abbrev after_10 : List Line
after_10 = challenges ∷ after_9

at_0 : HonestAt rules key_a pair [] (signs 0 0) after_0
unfolding supports last_turn message_of_state message_of_challenge fixed outcome app_fault message signed state message_at signed_at state_at turn_at flag_at outcome_at asset_at shape_at allocation_at item_at dest_at count_at many_at sized_at all_of
at_0 = signing [] 0 0 after_0 nothing refl refl refl refl refl (λ high. absurd (omega arith))

at_1 : HonestAt rules key_a pair [] (takes 0 1) after_1
unfolding supports last_turn message_of_state message_of_challenge fixed outcome app_fault message signed state message_at signed_at state_at turn_at flag_at outcome_at asset_at shape_at allocation_at item_at dest_at count_at many_at sized_at all_of
at_1 = taking [] 0 1 after_1 reads_1 (record { chain = by_b 1; is = refl; ends = refl; chain_supported = refl })

at_2 : HonestAt rules key_a pair deposits (signs 2 2) after_2
unfolding supports last_turn message_of_state message_of_challenge fixed outcome app_fault message signed state message_at signed_at state_at turn_at flag_at outcome_at asset_at shape_at allocation_at item_at dest_at count_at many_at sized_at all_of
at_2 = signing deposits 2 2 after_2 (by_b 1) refl refl refl refl refl (λ high. record { chain = by_a 2; is = refl; ends = refl; chain_supported = refl })

at_3 : HonestAt rules key_a pair deposits (takes 2 3) after_3
unfolding supports last_turn message_of_state message_of_challenge fixed outcome app_fault message signed state message_at signed_at state_at turn_at flag_at outcome_at asset_at shape_at allocation_at item_at dest_at count_at many_at sized_at all_of
at_3 = taking deposits 2 3 after_3 reads_3 (record { chain = by_b 3; is = refl; ends = refl; chain_supported = refl })

at_4 : HonestAt rules key_a pair deposits (signs 2 4) after_5
unfolding supports last_turn message_of_state message_of_challenge fixed outcome app_fault message signed state message_at signed_at state_at turn_at flag_at outcome_at asset_at shape_at allocation_at item_at dest_at count_at many_at sized_at all_of
at_4 = signing deposits 2 4 after_5 (by_b 3) refl refl refl refl refl (λ high. record { chain = by_a 4; is = refl; ends = refl; chain_supported = refl })

at_5 : HonestAt rules key_a pair deposits (takes 2 5) paid
unfolding supports last_turn message_of_state message_of_challenge fixed outcome app_fault message signed state message_at signed_at state_at turn_at flag_at outcome_at asset_at shape_at allocation_at item_at dest_at count_at many_at sized_at all_of
at_5 = taking deposits 2 5 paid reads_5 (record { chain = by_b 5; is = refl; ends = refl; chain_supported = refl })

at_6 : HonestAt rules key_a pair deposits (signs 2 6) after_7
unfolding supports last_turn message_of_state message_of_challenge fixed outcome app_fault message signed state message_at signed_at state_at turn_at flag_at outcome_at asset_at shape_at allocation_at item_at dest_at count_at many_at sized_at all_of
at_6 = signing deposits 2 6 after_7 (by_b 5) refl refl refl refl refl (λ high. record { chain = by_a 6; is = refl; ends = refl; chain_supported = refl })

at_9 : HonestAt rules key_a pair (attack ∷ deposits) answers (back ++ paid)
unfolding supports last_turn message_of_state message_of_challenge fixed outcome app_fault message signed state message_at signed_at state_at turn_at flag_at outcome_at asset_at shape_at allocation_at item_at dest_at count_at many_at sized_at all_of
at_9 = looking (attack ∷ deposits) 3 (Checkpoint (chain_of pair (by_a 6)) ∷ []) (back ++ paid) (by_a 6) refl (λ lt. inl refl)

at_10 : HonestAt rules key_a pair (answer ∷ attack ∷ deposits) challenges after_9
unfolding supports last_turn message_of_state message_of_challenge fixed outcome app_fault message signed state message_at signed_at state_at turn_at flag_at outcome_at asset_at shape_at allocation_at item_at dest_at count_at many_at sized_at all_of
at_10 = challenging (answer ∷ attack ∷ deposits) after_9 (record { chain = by_a 6; is = refl; ends = refl; chain_supported = refl })

at_11 : HonestAt rules key_a pair (challenge ∷ answer ∷ attack ∷ deposits) looks after_10
unfolding supports last_turn message_of_state message_of_challenge fixed outcome app_fault message signed state message_at signed_at state_at turn_at flag_at outcome_at asset_at shape_at allocation_at item_at dest_at count_at many_at sized_at all_of
at_11 = looking (challenge ∷ answer ∷ attack ∷ deposits) 5 [] after_10 (by_a 6) refl (λ lt. absurd (omega (arith, lt)))

honest-lines : HonestIn rules key_a pair history journal
honest-lines = (
  honest-line looks after_10 refl refl at_11,
  (
    honest-line challenges after_9 refl refl at_10,
    (
      honest-line answers (back ++ paid) refl refl at_9,
      (
        honest-line (signs 2 6) after_7 refl refl at_6,
        (
          honest-line (takes 2 5) paid refl refl at_5,
          (
            honest-line (signs 2 4) after_5 refl refl at_4,
            (
              honest-line ordered set_up refl refl (commanding deposits set_up),
              (
                honest-line (takes 2 3) after_3 refl refl at_3,
                (
                  honest-line (signs 2 2) after_2 refl refl at_2,
                  (
                    honest-line (takes 0 1) after_1 refl refl at_1,
                    (
                      honest-line (signs 0 0) after_0 refl refl at_0,
                      (honest-line opens [] refl refl opening, tt),
                    ),
                  ),
                ),
              ),
            ),
          ),
        ),
      ),
    ),
  ),
)

-- the one fixed part that is opened
pub is-pair : (x : Line) (f : FixedParts) → In x journal → In f (opened x) → f ≡ pair
is-pair x f i j = all-in (λ (y : Line). (g : FixedParts) → In g (opened y) → g ≡ pair) x journal (nothing_more, (nothing_more, (nothing_more, (nothing_more, (nothing_more, (nothing_more, (nothing_more, (nothing_more, (nothing_more, (nothing_more, (nothing_more, (first, tt)))))))))))) i f j
  where
    nothing_more : (g : FixedParts) → In g [] → g ≡ pair
    nothing_more g k = absurd k

    first : (g : FixedParts) → In g (pair ∷ []) → g ≡ pair
    first g (inl e) = e
    first g (inr k) = absurd k

pub honest : Honest rules key_a history journal
honest f x i j = subst (λ (g : FixedParts). HonestIn rules key_a g history journal) (sym (is-pair x f i j)) honest-lines
