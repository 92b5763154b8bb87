-- A race of two rounds. A signs turn 0, B shows it with turn 1, and A signs turn 2. B challenges with turns 0 and 1,
-- A's look answers with turns 1 and 2, B challenges with these, and time passes.
use Rattle.std.proofs.Common.{◌≡◌, ℕ, ◌-◌, ◌≤◌, Bool, true, false, cond, ◌||◌, List, [], ◌∷◌, inl, inr, replicate, refl, sym, ap, subst, arith}
use Rattle.std.specs.Prelude.{Some, None}
use Rattle.std.specs.List.{AllByRecursion}
use Rattle.std.specs.Str.{bytes_eq}
use Rattle.channel_values.specs.Parts.{FixedParts, StateParts, fixed_with, state_with}
use Rattle.channel_values.specs.declared.chain.Mark.{Mark}
use Rattle.channel_values.specs.declared.chain.Signed.{Signed}
use Rattle.channel_values.specs.declared.fault.StepFault.TheVariants.{AfterFinal}
use Rattle.channel_values.specs.Rows.{last_turn}
use Rattle.channel_values.specs.Rules.{Rules}
use Rattle.channel_values.specs.Support.{supports}
use Rattle.call_history.specs.History.{Legal, time_set, reply_to}
use Rattle.call_history.specs.Marked.{Marked, chain_of}
use Rattle.call_history.specs.Calls.{make_challenge}
use Rattle.call_history.specs.declared.call.Call.{Call}
use Rattle.call_history.specs.declared.call.Call.TheVariants.{Challenge, Checkpoint}
use Rattle.call_history.specs.declared.call.Op.{Op}
use Rattle.call_history.specs.declared.call.Op.TheVariants as ops
use Rattle.call_history.specs.declared.entry.Entry.{Entry}
use Rattle.call_history.specs.declared.event.Deed.{Deed}
use Rattle.call_history.specs.declared.event.Deed.TheVariants as deeds
use Rattle.call_history.specs.declared.refusal.Reply.{Reply}
use Rattle.call_history.specs.declared.refusal.Reply.TheVariants.{Until, Opened, Now}
use Rattle.call_history.proofs.Names.{same_bytes}
use Rattle.channel_safety.specs.Journals.{In, Line, opened, some_if, noted_in}
use Rattle.channel_safety.proofs.Members.{all-in}
use Rattle.channel_safety.proofs.Tests.{none-eq}
use Rattle.channel_safety.proofs.Lists.{In-append_right}
use Rattle.channel_safety.specs.Races.{IsEntered, IsRaced, StandForTwo, NotesLasting}
use Rattle.channel_safety.specs.Growing.{AreTimeless, HaveSeen, GainsRound}
use Rattle.channel_safety.specs.RaceWitness.{Story, first_round, second_round, history, journal, PassesRounds, RacesCanPass}
use Rattle.channel_safety.proofs.Grows.{begins, goes_on, round_ends}

-- ---- the rules: a signature is the key, a name repeats the nonce, a digest is the turn and the name, and nothing is
-- final

abbrev pub rules : Rules
rules =
    record {
      verifies = λ key message signature. bytes_eq key signature;
      named = λ f. replicate 32 f.nonce;
      digest = λ channel s. s.turn ∷ channel;
      outcome_digest = λ o. [];
      step = λ f s t. cond (s.is_final || t.is_final) (Some AfterFinal) None;
    }

-- ---- the channel, and what is held of it where A signed last, and where B did, by the turn of the last state

abbrev pub key_a : List ℕ
key_a = replicate 56 1

abbrev pub key_b : List ℕ
key_b = replicate 56 2

abbrev pub pair : FixedParts
pair = fixed_with (key_a ∷ key_b ∷ []) 7 2 2

abbrev pub name : List ℕ
name = replicate 32 7

abbrev pub at_turn : ℕ → StateParts
at_turn turn = state_with turn false [] []

abbrev mark : ℕ → List ℕ → Mark
mark place key = record { place = place; signature = key }

abbrev pub by_a : ℕ → Marked
by_a turn = record { states = at_turn (turn - 1) ∷ at_turn turn ∷ []; marks = mark 1 key_a ∷ mark 0 key_b ∷ [] }

abbrev pub by_b : ℕ → Marked
by_b turn = record { states = at_turn (turn - 1) ∷ at_turn turn ∷ []; marks = mark 0 key_a ∷ mark 1 key_b ∷ [] }

-- ---- the history

abbrev entry : ℕ → ℕ → Op → Reply → Entry
entry number by op reply = record { number = number; by = by; op = op; reply = reply }

abbrev pub shows : Entry
shows = entry 1 2 (ops.Call (Checkpoint (chain_of pair (by_b 1)))) (Opened 1)

abbrev pub attack : Entry
attack = entry 2 2 (ops.Call (make_challenge (chain_of pair (by_b 1)) 1 key_b)) (Until 2)

abbrev pub answer : Entry
answer = entry 3 1 (ops.Call (Checkpoint (chain_of pair (by_a 2)))) (Opened 2)

abbrev pub again : Entry
again = entry 4 2 (ops.Call (make_challenge (chain_of pair (by_a 2)) 1 key_b)) (Until 2)

abbrev pub first_time : Entry
first_time = entry 5 0 (ops.Time 1) (Now 1)

abbrev pub second_time : Entry
second_time = entry 6 0 (ops.Time 2) (Now 2)

-- ---- A's journal

abbrev line : ℕ → Deed → List FixedParts → Line
line seen deed adds = record { seen = seen; deed = deed; adds = adds }

abbrev pub opens : Line
opens = line 0 (deeds.Commanded 0 None) (pair ∷ [])

abbrev pub signs : (seen turn : ℕ) → Line
signs seen turn = line seen (deeds.Signed name (at_turn turn) key_a) []

abbrev pub looks : ℕ → List Call → Line
looks seen calls = line seen (deeds.Watched 0 calls) []

abbrev pub story : Story
story =
    record {
      rules = rules;
      fixed = pair;
      before = shows ∷ [];
      attack = attack;
      answer = answer;
      again = again;
      first_time = first_time;
      second_time = second_time;
      signed = signs 1 2 ∷ signs 0 0 ∷ opens ∷ [];
      first_look = looks 2 (Checkpoint (chain_of pair (by_a 2)) ∷ []);
      second_look = looks 5 [];
    }

-- ---- it is a race

abbrev SetsNone : Entry → Type 0
SetsNone e = time_set e.op e.reply ≡ None

-- none of these entries sets a time
timeless : (entries : List Entry) → AllByRecursion SetsNone entries → AreTimeless entries
timeless entries all e i = all-in SetsNone e entries all i

before-rounds : IsRaced (shows ∷ []) (signs 0 0 ∷ opens ∷ []) []
before-rounds = goes_on [] (shows ∷ []) [] (signs 0 0 ∷ opens ∷ []) [] begins (timeless (shows ∷ []) (refl, tt)) saw
  where
    saw : HaveSeen 0 (signs 0 0 ∷ opens ∷ [])
    saw x i = omega arith

after-first : IsRaced (second_round story) (looks 2 (Checkpoint (chain_of pair (by_a 2)) ∷ []) ∷ story.signed) (4 ∷ [])
after-first = round_ends (shows ∷ []) (again ∷ answer ∷ attack ∷ []) (signs 0 0 ∷ opens ∷ []) (story.first_look ∷ signs 1 2 ∷ []) [] first_time before-rounds
    (timeless (again ∷ answer ∷ attack ∷ []) (refl, (refl, (refl, tt)))) gains refl
  where
    entered : (call : Call) → In call (Checkpoint (chain_of pair (by_a 2)) ∷ []) → IsEntered (first_round story) call 2 4
    entered call (inl e) = record {
      later = again ∷ [];
      entry = answer;
      past = attack ∷ shows ∷ [];
      split = refl;
      is = ap (λ (c : Call). ops.Call c) (sym e);
      after = omega arith;
      before = omega arith;
    }
    entered call (inr i) = absurd i

    gains : GainsRound 1 (first_round story) (story.first_look ∷ signs 1 2 ∷ [])
    gains = record {
      look = story.first_look;
      front = signs 1 2 ∷ [];
      split = refl;
      looks = record { watcher = 0; calls = Checkpoint (chain_of pair (by_a 2)) ∷ []; deed = refl; entered = entered };
      begins = λ x i. all-in (λ (y : Line). 1 ≤ y.seen) x (story.first_look ∷ signs 1 2 ∷ []) (omega arith, (omega arith, tt)) i;
      ends = λ x i. all-in (λ (y : Line). y.seen ≤ 4) x (story.first_look ∷ signs 1 2 ∷ []) (omega arith, (omega arith, tt)) i;
    }

pub raced : IsRaced (history story) (journal story) (5 ∷ 4 ∷ [])
raced = round_ends (second_round story) [] (story.first_look ∷ story.signed) (story.second_look ∷ []) (4 ∷ []) second_time after-first (timeless [] tt) gains refl
  where
    gains : GainsRound 5 (second_round story) (story.second_look ∷ [])
    gains = record {
      look = story.second_look;
      front = [];
      split = refl;
      looks = record { watcher = 0; calls = []; deed = refl; entered = λ call i. absurd i };
      begins = λ x i. all-in (λ (y : Line). 5 ≤ y.seen) x (story.second_look ∷ []) (omega arith, tt) i;
      ends = λ x i. all-in (λ (y : Line). y.seen ≤ 5) x (story.second_look ∷ []) (omega arith, tt) i;
    }

-- ---- and its channel stands open for two

-- the one fixed part that is opened
pub is-pair : (x : Line) (f : FixedParts) → In x (journal story) → In f (opened x) → f ≡ pair
is-pair x f i j = all-in (λ (y : Line). (g : FixedParts) → In g (opened y) → g ≡ pair) x (journal story) (nothing_more, (nothing_more, (nothing_more, (nothing_more, (just_it, tt))))) i f j
  where
    nothing_more : (g : FixedParts) → In g [] → g ≡ pair
    nothing_more g k = absurd k

    just_it : (g : FixedParts) → In g (pair ∷ []) → g ≡ pair
    just_it g (inl e) = e
    just_it g (inr k) = absurd k

pub notes-name : (x : Line) (channel : List ℕ) (s : Signed) → In x (journal story) → noted_in channel x.deed ≡ Some s → name ≡ channel
notes-name x channel s i = all-in (λ (y : Line). noted_in channel y.deed ≡ Some s → name ≡ channel) x (journal story) (
  λ e. absurd (none-eq s e),
  (λ e. absurd (none-eq s e), (own 2, (own 0, (λ e. absurd (none-eq s e), tt)))),
) i
  where
    own : (turn : ℕ) → some_if (bytes_eq name channel) (record { state = at_turn turn; signature = key_a }) ≡ Some s → name ≡ channel
    own turn e = go (bytes_eq name channel) refl e
      where
        go : (b : Bool) → bytes_eq name channel ≡ b → some_if b (record { state = at_turn turn; signature = key_a }) ≡ Some s → name ≡ channel
        go true q k = same_bytes name channel q
        go false q k = absurd (none-eq s k)

pub lasting : NotesLasting rules (journal story)
lasting = record {
  planned = λ x channel s i n. record { line = opens; there = inr (inr (inr (inr (inl refl)))); fixed = pair; opens = inl refl; name = notes-name x channel s i n };
  lasting = λ x f i j. subst (λ (g : FixedParts). 2 ≤ g.duration) (sym (is-pair x f i j)) (omega arith);
}

stands : StandForTwo rules (history story) (journal story)
stands later past m chain who signature x f s split is turns i n =
    let two = long m (subst (In m) (sym split) (In-append_right m later (m ∷ past) (inl refl))) is in omega (arith, two)
  where
    fixed-in : Op → FixedParts
    fixed-in (ops.Call (Challenge k)) = k.chain.fixed
    fixed-in _ = pair

    long : (e : Entry) → In e (history story) → e.op ≡ ops.Call (make_challenge chain who signature) → 2 ≤ chain.fixed.duration
    long e j o =
        subst (λ (g : FixedParts). 2 ≤ g.duration) (ap fixed-in o)
        (all-in (λ (y : Entry). 2 ≤ (fixed-in y.op).duration) e (history story) (omega arith, (omega arith, (omega arith, (omega arith, (omega arith, (omega arith, tt)))))) j)

-- ---- what happens in it

pub legal : Legal rules (history story)
unfolding reply_to supports last_turn
legal = ((((((tt, refl, refl), refl, refl), refl, refl), refl, refl), refl, refl), refl, refl)

pub passes_rounds : PassesRounds story
passes_rounds = record {
  legal = legal;
  raced = raced;
  lasting = lasting;
  stands = stands;
  attacked = refl;
  answers = record { chain = chain_of pair (by_a 2); saw = refl; looked = refl; entered = refl };
  answered = refl;
  challenged = refl;
  looked_on = refl;
  ends = refl;
}

pub passes : RacesCanPass
passes = (story, passes_rounds)
