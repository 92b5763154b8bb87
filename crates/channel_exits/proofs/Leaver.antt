-- A leaves a ledger that holds 10 and a channel of 6 on it. Both are concluded, B's item of the channel is paid
-- between, and A is paid its 9.
use Rattle.std.proofs.Common.{◌≡◌, ℕ, ◌<◌, ◌≤◌, Bool, true, false, cond, List, [], ◌∷◌, ◌++◌, ◌⊎◌, inl, inr, refl, sym, ◌∙◌, ap, subst, arith}
use Rattle.std.specs.Prelude.{◌==◌, Some, None, map, take}
use Rattle.std.specs.List.{AllByRecursion}
use Rattle.std.specs.Str.{bytes_eq}
use Rattle.channel_values.specs.Parts.{FixedParts, StateParts, fixed_with, state_with}
use Rattle.channel_values.specs.declared.chain.Chain.{Chain}
use Rattle.channel_values.specs.declared.value.AssetOutcome.{AssetOutcome}
use Rattle.channel_values.specs.declared.value.Dest.{Dest}
use Rattle.channel_values.specs.declared.value.Dest.TheVariants.{Person, Channel}
use Rattle.channel_values.specs.declared.value.Item.{Item}
use Rattle.channel_values.specs.declared.value.Shape.TheVariants.{Allocation}
use Rattle.call_history.specs.Mode.{is_final}
use Rattle.channel_values.specs.Rows.{last_turn}
use Rattle.channel_values.specs.Rules.{Rules}
use Rattle.channel_values.specs.Support.{supports}
use Rattle.call_history.specs.History.{Legal, mode, reply_to}
use Rattle.call_history.specs.declared.call.Call.{Call}
use Rattle.call_history.specs.Calls.{make_deposit, make_transfer}
use Rattle.call_history.specs.declared.call.Call.TheVariants.{Conclude}
use Rattle.call_history.specs.declared.call.Op.TheVariants as ops
use Rattle.call_history.specs.declared.entry.Entry.{Entry}
use Rattle.call_history.specs.declared.event.Deed.{Deed}
use Rattle.call_history.specs.declared.event.Deed.TheVariants as deeds
use Rattle.call_history.specs.declared.refusal.Reply.{Reply}
use Rattle.call_history.specs.declared.refusal.Reply.TheVariants.{Held, Concluded, Paid}
use Rattle.call_history.proofs.Names.{same_bytes}
use Rattle.call_history.specs.Rows.{fixed_of}
use Rattle.channel_safety.specs.Journals.{In, Line, opened}
use Rattle.channel_safety.specs.Strings.{states_in, outcomes_in, signed_of}
use Rattle.channel_safety.specs.Occurring.{OccursFixed, OccursState, OccursOutcome, NoCollision, in_call, in_line}
use Rattle.channel_safety.proofs.Members.{all-in}
use Rattle.channel_safety.proofs.Tests.{some-eq, none-eq}
use Rattle.funding_plans.specs.Shapes.{items_of}
use Rattle.funding_plans.specs.declared.plan.Part.TheVariants.{Root, OnLedger}
use Rattle.share_laws.specs.Books.{counts_in}
use Rattle.share_laws.specs.Places.{Order, opening, other, counting, share, IsPlace}
use Rattle.channel_exits.specs.ExitLaws.{CanExit}
use Rattle.channel_exits.specs.Leaving.{LeavesWithItsShare}

-- ---- the rules: a name is the nonce, a digest of an outcome its first amount, and every signature verifies

abbrev first_amount : List AssetOutcome → List ℕ
first_amount [] = []
first_amount (o ∷ os) = map (λ x. x.amount) (take 1 (items_of (Some o.shape)))

abbrev rules : Rules
rules =
    record {
      verifies = λ key message signature. true;
      named = λ f. f.nonce ∷ [];
      digest = λ channel s. channel;
      outcome_digest = first_amount;
      step = λ f s t. None;
    }

-- ---- the channels, and what they end with

abbrev a : List ℕ
a = 1 ∷ []

abbrev b : List ℕ
b = 2 ∷ []

abbrev keys : List (List ℕ)
keys = (11 ∷ []) ∷ (12 ∷ []) ∷ []

abbrev ledger : List ℕ
ledger = 7 ∷ []

abbrev channel : List ℕ
channel = 8 ∷ []

abbrev of_ledger : FixedParts
of_ledger = fixed_with keys 7 0 10

abbrev of_channel : FixedParts
of_channel = fixed_with keys 8 0 10

abbrev pays : List Item → List AssetOutcome
pays items = record { asset = 0; shape = Allocation items } ∷ []

abbrev item : Dest → ℕ → Item
item to amount = record { to = to; amount = amount }

abbrev ledger_ends : List AssetOutcome
ledger_ends = pays (item (Channel channel) 6 ∷ item (Person a) 4 ∷ [])

abbrev channel_ends : List AssetOutcome
channel_ends = pays (item (Person a) 5 ∷ item (Person b) 1 ∷ [])

abbrev last : List AssetOutcome → StateParts
last outcome = state_with 3 true outcome []

abbrev chain : FixedParts → List AssetOutcome → Chain
chain f outcome = record { fixed = f; states = last outcome ∷ []; marks = record { place = 0; signature = [] } ∷ record { place = 0; signature = [] } ∷ [] }

-- ---- the history

abbrev entry : ℕ → Call → Reply → Entry
entry number call reply = record { number = number; by = 2; op = ops.Call call; reply = reply }

abbrev past : List Entry
past =
    entry 3 (Conclude (chain of_channel channel_ends)) (Concluded 3)
    ∷ entry 2 (Conclude (chain of_ledger ledger_ends)) (Concluded 3)
    ∷ entry 1 (make_deposit ledger 0 0 10) (Held 10) ∷ []

-- the ledger pays the channel, that pays B, the ledger pays A, and the channel A
abbrev later : List Entry
later =
    entry 7 (make_transfer channel channel_ends 0 0) (Paid 5)
    ∷ entry 6 (make_transfer ledger ledger_ends 0 1) (Paid 4)
    ∷ entry 5 (make_transfer channel channel_ends 0 1) (Paid 1)
    ∷ entry 4 (make_transfer ledger ledger_ends 0 0) (Paid 6) ∷ []

abbrev history : List Entry
history = later ++ past

legal : Legal rules history
unfolding reply_to supports last_turn
legal = (((((((tt, refl, refl), refl, refl), refl, refl), refl, refl), refl, refl), refl, refl), refl, refl)

-- ---- A's journal

abbrev line : Deed → List FixedParts → Line
line deed adds = record { seen = 0; deed = deed; adds = adds }

abbrev journal : List Line
journal =
    line (deeds.Signed channel (last channel_ends) []) []
    ∷ line (deeds.Signed ledger (last ledger_ends) []) []
    ∷ line (deeds.Commanded 1 None) (of_channel ∷ [])
    ∷ line (deeds.Commanded 0 None) (of_ledger ∷ []) ∷ []

abbrev orders : ℕ → Order
orders step = cond (step == 0) (opening (Root ledger)) (cond (step == 1) (opening (OnLedger ledger channel)) other)

place : IsPlace history journal past journal
place = record {
  later = later;
  newer = [];
  entries = refl;
  lines = refl;
  before = λ x i w. all-in (λ (y : Line). y.seen ≤ 3) x journal (omega arith, (omega arith, (omega arith, (omega arith, tt)))) i;
  after = λ x i. absurd i;
}

-- ---- A can exit

ended-well : (n : List ℕ) → counts_in (counting rules past journal) n ≡ true → is_final (mode rules n past) ≡ true
unfolding supports last_turn
ended-well n h = go (bytes_eq ledger n) (bytes_eq channel n) (same_bytes ledger n) (same_bytes channel n) h
  where
    go : (s t : Bool) → (s ≡ true → ledger ≡ n) → (t ≡ true → channel ≡ n) → cond s true (cond t true false) ≡ true → is_final (mode rules n past) ≡ true
    go true t p q h = subst (λ (m : List ℕ). is_final (mode rules m past) ≡ true) (p refl) refl
    go false true p q h = subst (λ (m : List ℕ). is_final (mode rules m past) ≡ true) (q refl) refl
    go false false p q h = cc

can : CanExit rules a orders past journal
can = record {
  sound = record { payers = (refl, (refl, tt)); apart = (tt, (tt, tt)); guarantors = (tt, (tt, tt)) };
  apart = (refl, (refl, tt));
  channels = (tt, (tt, tt));
  on_ledgers = (tt, (inl (inl refl), tt));
  backed = (tt, (tt, tt));
  final = ended-well;
}

-- ---- no two things collide

-- one of two that differ by their keys
two : {A B : Type 0} (x y : A) (key : A → B) → (key x ≡ key y → ⊥) → (p q : A) → (p ≡ x) ⊎ (p ≡ y) → (q ≡ x) ⊎ (q ≡ y) → key p ≡ key q → p ≡ q
two x y key ne p q (inl i) (inl j) e = i ∙ sym j
two x y key ne p q (inr i) (inr j) e = i ∙ sym j
two x y key ne p q (inl i) (inr j) e = absurd (ne (ap key (sym i) ∙ (e ∙ ap key j)))
two x y key ne p q (inr i) (inl j) e = absurd (ne (ap key (sym j) ∙ (sym e ∙ ap key i)))

abbrev head : List ℕ → ℕ
head [] = 0
head (n ∷ ns) = n

two-numbers : (p q m n : ℕ) → p ≡ m → q ≡ n → (m ≡ n → ⊥) → p ≡ q → ⊥
two-numbers p q m n i j ne e = ne (sym i ∙ (e ∙ j))

names-differ : ledger ≡ channel → ⊥
names-differ e = two-numbers (head ledger) (head channel) 7 8 refl refl (λ n. absurd (omega arith)) (ap head e)

abbrev IsFixedThere : FixedParts → Type 0
IsFixedThere f = (f ≡ of_ledger) ⊎ (f ≡ of_channel)

abbrev IsEndThere : List AssetOutcome → Type 0
IsEndThere o = (o ≡ ledger_ends) ⊎ (o ≡ channel_ends)

-- a state of a channel
abbrev IsStateThere : List ℕ × StateParts → Type 0
IsStateThere x = (x ≡ (ledger, last ledger_ends)) ⊎ (x ≡ (channel, last channel_ends))

record Known (e : Entry) : Type 0 where
  fixed : (f : FixedParts) → fixed_of e.op ≡ Some f → IsFixedThere f
  states : (f : FixedParts) (s : StateParts) → fixed_of e.op ≡ Some f → In s (states_in e.op) → IsStateThere (rules.named f, s)
  outcomes : (o : List AssetOutcome) → In o (outcomes_in e.op) → IsEndThere o

deposits : (number : ℕ) (reply : Reply) → Known (entry number (make_deposit ledger 0 0 10) reply)
deposits number reply = record { fixed = λ f e. absurd (none-eq f e); states = λ f s e i. absurd i; outcomes = λ o i. absurd i }

transfers : (number index : ℕ) (c : List ℕ) (o : List AssetOutcome) (reply : Reply) → IsEndThere o → Known (entry number (make_transfer c o 0 index) reply)
transfers number index c o reply is = record { fixed = λ f e. absurd (none-eq f e); states = λ f s e i. absurd i; outcomes = one }
  where
    one : (p : List AssetOutcome) → In p (o ∷ []) → IsEndThere p
    one p (inl e) = subst IsEndThere (sym e) is
    one p (inr i) = absurd i

concludes : (number : ℕ) (f : FixedParts) (o : List AssetOutcome) (reply : Reply) → IsFixedThere f → IsEndThere o → IsStateThere (rules.named f, last o) →
    Known (entry number (Conclude (chain f o)) reply)
concludes number f o reply fixed ends is = record {
  fixed = λ g e. subst IsFixedThere (some-eq f g e) fixed;
  states = λ g s e i. state g s (some-eq f g e) i;
  outcomes = one;
}
  where
    state : (g : FixedParts) (s : StateParts) → f ≡ g → In s (last o ∷ []) → IsStateThere (rules.named g, s)
    state g s e (inl i) = subst (λ (t : StateParts). IsStateThere (rules.named g, t)) (sym i) (subst (λ (k : FixedParts). IsStateThere (rules.named k, last o)) e is)
    state g s e (inr i) = absurd i

    one : (p : List AssetOutcome) → In p (o ∷ []) → IsEndThere p
    one p (inl e) = subst IsEndThere (sym e) ends
    one p (inr i) = absurd i

all-known : AllByRecursion Known history
all-known = (
  transfers 7 0 channel channel_ends (Paid 5) (inr refl),
  (
    transfers 6 1 ledger ledger_ends (Paid 4) (inl refl),
    (
      transfers 5 1 channel channel_ends (Paid 1) (inr refl),
      (
        transfers 4 0 ledger ledger_ends (Paid 6) (inl refl),
        (
          concludes 3 of_channel channel_ends (Concluded 3) (inr refl) (inr refl) (inr refl),
          (concludes 2 of_ledger ledger_ends (Concluded 3) (inl refl) (inl refl) (inl refl), (deposits 1 (Held 10), tt)),
        ),
      ),
    ),
  ),
)

-- what a line opens and signs
record KnownLine (x : Line) : Type 0 where
  opens : (f : FixedParts) → In f (opened x) → IsFixedThere f
  signs : (p : List ℕ × StateParts) → signed_of x.deed ≡ Some p → IsStateThere p

signing : (c : List ℕ) (s : StateParts) → IsStateThere (c, s) → KnownLine (line (deeds.Signed c s []) [])
signing c s is = record { opens = λ f i. absurd i; signs = λ p e. subst IsStateThere (some-eq (c, s) p e) is }

commanding : (step : ℕ) (f : FixedParts) → IsFixedThere f → KnownLine (line (deeds.Commanded step None) (f ∷ []))
commanding step f is = record { opens = one; signs = λ p e. absurd (none-eq p e) }
  where
    one : (g : FixedParts) → In g (f ∷ []) → IsFixedThere g
    one g (inl e) = subst IsFixedThere (sym e) is
    one g (inr i) = absurd i

all-lines : AllByRecursion KnownLine journal
all-lines =
    (signing channel (last channel_ends) (inr refl), (signing ledger (last ledger_ends) (inl refl), (commanding 1 of_channel (inr refl), (commanding 0 of_ledger (inl refl), tt))))

known : (e : Entry) → In e history → Known e
known e i = all-in Known e history all-known i

fixed-there : (f : FixedParts) → OccursFixed history journal f → IsFixedThere f
fixed-there f (inl o) = (known o.0 o.1).fixed f o.2
fixed-there f (inr o) = (all-in KnownLine o.0 journal all-lines o.1).opens f o.2

state-there : (c : List ℕ) (s : StateParts) → OccursState rules history journal c s → IsStateThere (c, s)
state-there c s (in_call e f i has named j) = subst (λ (n : List ℕ). IsStateThere (n, s)) named ((known e i).states f s has j)
state-there c s (in_line x i is) = (all-in KnownLine x journal all-lines i).signs (c, s) is

outcome-there : (o : List AssetOutcome) → OccursOutcome history o → IsEndThere o
outcome-there o i = (known i.0 i.1).outcomes o i.2

distinct : NoCollision rules history journal
distinct = record {
  names = λ f g i j e. two of_ledger of_channel (λ (k : FixedParts). rules.named k) names-differ f g (fixed-there f i) (fixed-there g j) e;
  states = λ c d s t i j e. (
      let p : List ℕ × StateParts = (c, s) in
      let q : List ℕ × StateParts = (d, t) in
      let same : p ≡ q = two (ledger, last ledger_ends) (channel, last channel_ends) (λ (x : List ℕ × StateParts). x.0) names-differ p q (state-there c s i) (state-there d t j) e in
      (ap (λ (x : List ℕ × StateParts). x.0) same, ap (λ (x : List ℕ × StateParts). x.1) same)
      );
  outcomes = λ o p i j e. two ledger_ends channel_ends first_amount ends-differ o p (outcome-there o i) (outcome-there p j) e;
}
  where
    ends-differ : first_amount ledger_ends ≡ first_amount channel_ends → ⊥
    ends-differ e = two-numbers (head (first_amount ledger_ends)) (head (first_amount channel_ends)) 6 5 refl refl (λ n. absurd (omega arith)) (ap head e)

-- ---- and its exit pays its share

share-is : share rules a orders past journal 0 ≡ 9
unfolding supports last_turn
share-is = refl

pub leaves : LeavesWithItsShare
unfolding supports last_turn
leaves = record {
  rules = rules;
  me = a;
  orders = orders;
  past = past;
  later = later;
  journal = journal;
  asset = 0;
  legal = legal;
  distinct = distinct;
  place = place;
  can = can;
  stood = inl (refl, inl (refl, inr (inl (refl, tt))));
  unpaid = refl;
  some = subst (λ (n : ℕ). 0 < n) (sym share-is) (omega arith);
  all = refl;
}
