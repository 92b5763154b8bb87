-- The checkpoint of A's look is entered in the look's round, and then a time comes.
use Rattle.std.proofs.Common.{◌≡◌, ℕ, ◌≤◌, List, [], ◌∷◌, inl, inr, refl, sym, ◌∙◌, ap, subst, arith}
use Rattle.std.specs.Prelude.{Some, None, filter}
use Rattle.channel_values.specs.Parts.{FixedParts, StateParts}
use Rattle.channel_values.specs.declared.value.AssetOutcome.{AssetOutcome}
use Rattle.channel_values.specs.Rows.{last_turn}
use Rattle.channel_values.specs.Support.{supports}
use Rattle.call_history.specs.History.{Legal, time_set, reply_to}
use Rattle.call_history.specs.Rows.{fixed_of}
use Rattle.call_history.specs.declared.call.Call.{Call}
use Rattle.call_history.specs.declared.call.Call.TheVariants.{Checkpoint}
use Rattle.call_history.specs.declared.call.Op.TheVariants as ops
use Rattle.call_history.specs.declared.entry.Entry.{Entry}
use Rattle.call_history.specs.declared.refusal.Reply.TheVariants.{Opened, Now}
use Rattle.call_history.specs.declared.event.Deed.TheVariants as deeds
use Rattle.channel_safety.proofs.Tests.{some-eq, none-eq}
use Rattle.channel_safety.specs.Journals.{In, Line, opened}
use Rattle.channel_safety.specs.Occurring.{OccursFixed, OccursState, NoCollision, in_call, in_line}
use Rattle.channel_safety.specs.Strings.{states_in, outcomes_in, signed_of}
use Rattle.channel_safety.proofs.Members.{all-in}
use Rattle.channel_node.specs.Nodes.{told_of}
use Rattle.channel_node.specs.Standing.{Stands}
use Rattle.channel_node.specs.Openings.{takes_part}
use Rattle.channel_node.specs.Places.{lines_of}
use Rattle.channel_node.proofs.Allowing.{filter-in}
use Rattle.channel_node.proofs.Calling.{standing_grows}
use Rattle.stage_tables.specs.Stages.{stages}
use Rattle.channel_safety.specs.Races.{IsEntered, IsRaced}
use Rattle.channel_safety.specs.Growing.{AreTimeless, GainsRound}
use Rattle.channel_safety.proofs.Grows.{begins, round_ends}
use Rattle.channel_node.specs.Races.{OpensLasting}
use Rattle.further_laws.specs.Race.{PlaysRound}
use Rattle.further_laws.proofs.NodeExample.{rules, signing, key_a, pair, name, at_turn, challenge, history, held, node_5, node_6, stands, stands_with_journal}

-- ---- the history

abbrev answer : Entry
answer = record { number = 2; by = 1; op = ops.Call (Checkpoint held); reply = Opened 2 }

abbrev time : Entry
time = record { number = 3; by = 0; op = ops.Time 1; reply = Now 1 }

abbrev round : List Entry
round = answer ∷ history

legal : Legal rules (time ∷ round)
unfolding reply_to supports last_turn
legal = ((((tt, refl, refl), refl, refl), refl, refl))

grown : Stands stages rules signing (time ∷ round) node_6
grown = standing_grows stages rules signing round time node_6 (standing_grows stages rules signing history answer node_6 stands)

-- ---- it is a race

abbrev lines : List Line
lines = lines_of key_a (told_of node_6)

abbrev look : Line
look = record { seen = 1; deed = deeds.Watched 0 (Checkpoint held ∷ []); adds = [] }

abbrev SetsNone : Entry → Type 0
SetsNone e = time_set e.op e.reply ≡ None

timeless : AreTimeless round
timeless e i = all-in SetsNone e round (refl, (refl, tt)) i

entered : (call : Call) → In call (Checkpoint held ∷ []) → IsEntered round call 1 2
entered call (inl e) = record {
  later = [];
  entry = answer;
  past = history;
  split = refl;
  is = ap (λ (c : Call). ops.Call c) (sym e);
  after = omega arith;
  before = omega arith;
}
entered call (inr i) = absurd i

gains : GainsRound 0 round lines
gains = record {
  look = look;
  front = lines_of key_a (told_of node_5);
  split = refl;
  looks = record { watcher = 0; calls = Checkpoint held ∷ []; deed = refl; entered = entered };
  begins = λ x i. omega arith;
  ends = λ x i. all-in (λ (y : Line). y.seen ≤ 2) x lines (omega arith, (omega arith, (omega arith, (omega arith, (omega arith, tt))))) i;
}

raced : IsRaced (time ∷ round) lines (2 ∷ [])
raced = round_ends [] round [] lines [] time begins timeless gains refl

-- ---- the channel that is opened

opens-pair : (x : Line) (f : FixedParts) → In x lines → In f (opened x) → f ≡ pair
opens-pair x f i j =
    all-in (λ (y : Line). (g : FixedParts) → In g (opened y) → g ≡ pair) x lines (nothing, (nothing, (nothing, (nothing, (just, tt))))) i f j
  where
    nothing : (g : FixedParts) → In g [] → g ≡ pair
    nothing g k = absurd k

    only : (g : FixedParts) → In g (pair ∷ []) → g ≡ pair
    only g (inl e) = e
    only g (inr k) = absurd k

    just : (g : FixedParts) → In g (filter (takes_part key_a) (pair ∷ [])) → g ≡ pair
    just g k = only g (filter-in (takes_part key_a) g (pair ∷ []) k)

lasting : OpensLasting lines
lasting x f i j = subst (λ (g : FixedParts). 2 ≤ g.duration) (sym (opens-pair x f i j)) (omega arith)

-- ---- no two collide

-- a state of the channel, of one of its turns
record IsThere (s : StateParts) : Type 0 where
  turn : ℕ
  is : s ≡ at_turn turn

-- of what an entry names
record Known (e : Entry) : Type 0 where
  fixed : (f : FixedParts) → fixed_of e.op ≡ Some f → f ≡ pair
  states : (s : StateParts) → In s (states_in e.op) → IsThere s
  outcomes : (o : List AssetOutcome) → In o (outcomes_in e.op) → o ≡ []

two_states : (m n : ℕ) (s : StateParts) → In s (at_turn m ∷ at_turn n ∷ []) → IsThere s
two_states m n s (inl e) = record { turn = m; is = e }
two_states m n s (inr (inl e)) = record { turn = n; is = e }
two_states m n s (inr (inr k)) = absurd k

two_outcomes : (o : List AssetOutcome) → In o ([] ∷ [] ∷ []) → o ≡ []
two_outcomes o (inl e) = e
two_outcomes o (inr (inl e)) = e
two_outcomes o (inr (inr k)) = absurd k

knows-challenge : Known challenge
knows-challenge = record { fixed = λ f e. sym (some-eq pair f e); states = two_states 0 1; outcomes = two_outcomes }

knows-answer : Known answer
knows-answer = record { fixed = λ f e. sym (some-eq pair f e); states = two_states 1 2; outcomes = two_outcomes }

knows-time : Known time
knows-time = record { fixed = λ f e. absurd (none-eq f e); states = λ s i. absurd i; outcomes = λ o i. absurd i }

known : (e : Entry) → In e (time ∷ round) → Known e
known e i = all-in Known e (time ∷ round) (knows-time, (knows-answer, (knows-challenge, tt))) i

record Occurs (channel : List ℕ) (s : StateParts) : Type 0 where
  of : name ≡ channel
  state : IsThere s

abbrev Signs : Line → Type 0
Signs x = (p : List ℕ × StateParts) → signed_of x.deed ≡ Some p → Occurs p.0 p.1

signs : (x : Line) → In x lines → Signs x
signs x i = all-in Signs x lines (λ p e. absurd (none-eq p e), (it 2, (λ p e. absurd (none-eq p e), (it 0, (λ p e. absurd (none-eq p e), tt))))) i
  where
    it : (turn : ℕ) (p : List ℕ × StateParts) → Some (name, at_turn turn) ≡ Some p → Occurs p.0 p.1
    it turn p e =
        subst (λ (q : List ℕ × StateParts). Occurs q.0 q.1) (some-eq (name, at_turn turn) p e)
        (record { of = refl; state = record { turn = turn; is = refl } })

fixed-there : (f : FixedParts) → OccursFixed (time ∷ round) lines f → f ≡ pair
fixed-there f (inl o) = (known o.0 o.1).fixed f o.2
fixed-there f (inr o) = opens-pair o.0 f o.1 o.2

state-there : (c : List ℕ) (s : StateParts) → OccursState rules (time ∷ round) lines c s → Occurs c s
state-there c s (in_call e f i has named j) =
    record { of = ap (λ (g : FixedParts). rules.named g) (sym ((known e i).fixed f has)) ∙ named; state = (known e i).states s j }
state-there c s (in_line x i is) = signs x i (c, s) is

distinct : NoCollision rules (time ∷ round) lines
distinct = record {
  names = λ f g i j e. fixed-there f i ∙ sym (fixed-there g j);
  states = λ c d s t i j e. (
      let p = state-there c s i in
      let q = state-there d t j in
      (sym p.of ∙ q.of, p.state.is ∙ (ap at_turn (same-turn s t p.state q.state (heads s.turn t.turn c d e)) ∙ sym q.state.is))
      );
  outcomes = λ o p i j e. (known i.0 i.1).outcomes o i.2 ∙ sym ((known j.0 j.1).outcomes p j.2);
}
  where
    heads : (i j : ℕ) (a b : List ℕ) → i ∷ a ≡ j ∷ b → i ≡ j
    heads i j a b e = cc

    turn-is : (s : StateParts) (k : IsThere s) → s.turn ≡ k.turn
    turn-is s k = ap (λ (z : StateParts). z.turn) k.is

    same-turn : (s t : StateParts) (k : IsThere s) (l : IsThere t) → s.turn ≡ t.turn → k.turn ≡ l.turn
    same-turn s t k l e = sym (turn-is s k) ∙ (e ∙ turn-is t l)

pub plays_round : PlaysRound stands_with_journal
plays_round = record {
  answer = answer;
  time = time;
  answers = refl;
  accepted = refl;
  ticks = refl;
  race = record { legal = legal; plays = grown.plays; raced = raced; lasting = lasting };
  distinct = distinct;
}
