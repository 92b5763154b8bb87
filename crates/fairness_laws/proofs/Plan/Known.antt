-- What is known of a part and its goal by the command that opened them, whatever is held.
use Rattle.std.proofs.Common.{◌≡◌, ℕ, suc, ◌+◌, ◌*◌, ◌-◌, ◌<◌, ◌≤◌, Bool, true, false, cond, not, List, [], ◌∷◌, ◌++◌, inl, inr, length, sym, ◌∙◌, ap, subst, arith}
use Rattle.std.specs.Prelude.{◌^◌, ◌==◌, nat_lt, map, Some, None, position, find, if◌then◌else◌}
use Rattle.std.specs.List.{position_or_len}
use Rattle.std.specs.Str.{bytes_eq}
use Rattle.std.proofs.lemmas.Bool.{eq-eqb}
use Rattle.channel_values.specs.Parts.{FixedParts}
use Rattle.channel_values.specs.declared.value.AssetOutcome.{AssetOutcome}
use Rattle.channel_values.specs.Digests.{name_of_person}
use Rattle.call_history.proofs.Names.{bytes_eq_self}
use Rattle.channel_safety.proofs.Tests.{cond-true, cond-false, lt-true, eqb-false}
use Rattle.funding_plans.specs.Parts.{own_ledger, own_guarantor, own_channel, channels_of, channels}
use Rattle.funding_plans.specs.declared.plan.Goal.{Goal}
use Rattle.funding_plans.specs.declared.plan.Part.{Part}
use Rattle.funding_plans.specs.declared.plan.Part.TheVariants.{Root, OnLedger, End, Middle}
use Rattle.funding_plans.specs.declared.plan.Virtual.{Virtual}
use Rattle.channel_safety.specs.Journals.{In}
use Rattle.channel_safety.proofs.Members.{In-flat_map}
use Rattle.channel_node.specs.Minds.{close_if}
use Rattle.channel_node.specs.Openings.{shared}
use Rattle.node_guarantees.proofs.Apart.{Apart}
use Rattle.stage_tables.specs.Fitting.{are_shared}
use Rattle.funding_plans.specs.Gathered.{goal_at}
use Rattle.support_rules.specs.Real.{real}
use Rattle.support_rules.specs.Steps.{persons}
use Rattle.fairness_laws.proofs.Carrying.{low}
use Rattle.fairness_laws.proofs.Plan.Bearers.{Bearer, bearer-within}
use Rattle.fairness_laws.proofs.Plan.Names.{own-in, apart-cross, apart-rest}

-- ---- a part, by the channels that were opened and the plan

pub record OfRoot (fs : List FixedParts) (name : List ℕ) (opening : List AssetOutcome) : Type 0 where
  pub fixed : FixedParts
  pub there : In fixed fs
  pub named : real.named fixed ≡ name
  pub app : fixed.app ≤ 1
  pub outcome : are_shared (persons fixed) opening ≡ true

-- a consensus channel of two people that is the own channel of a part on which others may stand
pub record OfLedger (fs : List FixedParts) (parts : List Part) (first second name : List ℕ) : Type 0 where
  pub fixed : FixedParts
  pub there : In fixed fs
  pub named : real.named fixed ≡ name
  pub app : fixed.app ≡ 0
  pub people : persons fixed ≡ first ∷ second ∷ []
  pub bearer : Bearer parts name

pub record OfOnLedger (fs : List FixedParts) (parts : List Part) (ledger name : List ℕ) (opening : List AssetOutcome) (amounts : ℕ × ℕ) : Type 0 where
  pub first : List ℕ
  pub second : List ℕ
  pub asset : ℕ
  pub fixed : FixedParts
  pub there : In fixed fs
  pub named : real.named fixed ≡ name
  pub app : fixed.app ≡ 1
  pub people : persons fixed ≡ first ∷ second ∷ []
  pub differ : bytes_eq first second ≡ false
  pub sum : amounts.0 + amounts.1 ≤ 2 ^ 64 - 1
  pub opens : opening ≡ shared fixed asset amounts
  pub on : OfLedger fs parts first second ledger

pub record OfJoint (fs : List FixedParts) (v : Virtual) (amounts : ℕ × ℕ) (first middle second : List ℕ) : Type 0 where
  pub fixed : FixedParts
  pub there : In fixed fs
  pub named : real.named fixed ≡ v.joint
  pub app : fixed.app ≡ 0
  pub people : persons fixed ≡ first ∷ middle ∷ second ∷ []
  pub ends : bytes_eq first second ≡ false
  pub apart_a : bytes_eq first middle ≡ false
  pub apart_b : bytes_eq second middle ≡ false
  pub sum : amounts.0 + amounts.1 ≡ v.total
  pub small : 2 * v.total ≤ 2 ^ 64 - 1

pub record OfGuarantor (fs : List FixedParts) (name : List ℕ) : Type 0 where
  pub fixed : FixedParts
  pub there : In fixed fs
  pub named : real.named fixed ≡ name
  pub app : fixed.app ≡ 2

pub record OfEnd (key : List ℕ) (fs : List FixedParts) (parts : List Part) (v : Virtual) (opening : List AssetOutcome) (amounts : ℕ × ℕ) : Type 0 where
  pub first : List ℕ
  pub middle : List ℕ
  pub second : List ℕ
  pub joint : OfJoint fs v amounts first middle second
  pub me : (if v.side_b then second else first) ≡ name_of_person key
  pub guarantor : OfGuarantor fs (own_guarantor v)
  pub fixed : FixedParts
  pub there : In fixed fs
  pub named : real.named fixed ≡ v.channel
  pub app : fixed.app ≤ 1
  pub people : persons fixed ≡ first ∷ second ∷ []
  pub opens : opening ≡ shared fixed v.asset amounts
  pub on : OfLedger fs parts (if v.side_b then middle else first) (if v.side_b then second else middle) (own_ledger v)

pub record OfMiddle (key : List ℕ) (fs : List FixedParts) (parts : List Part) (v : Virtual) (amounts : ℕ × ℕ) : Type 0 where
  pub first : List ℕ
  pub middle : List ℕ
  pub second : List ℕ
  pub joint : OfJoint fs v amounts first middle second
  pub me : middle ≡ name_of_person key
  pub guarantor_a : OfGuarantor fs v.guarantor_a
  pub guarantor_b : OfGuarantor fs v.guarantor_b
  pub on_a : OfLedger fs parts first middle v.ledger_a
  pub on_b : OfLedger fs parts middle second v.ledger_b

abbrev pub Of : List ℕ → List FixedParts → List Part → Part → List AssetOutcome → ℕ × ℕ → Type 0
Of key fs parts (Root name) opening amounts = OfRoot fs name opening
Of key fs parts (OnLedger ledger name) opening amounts = OfOnLedger fs parts ledger name opening amounts
Of key fs parts (End v) opening amounts = OfEnd key fs parts v opening amounts
Of key fs parts (Middle v) opening amounts = OfMiddle key fs parts v amounts

-- the part at a place of the plan, and its goal
pub record Pair (key : List ℕ) (fs : List FixedParts) (parts : List Part) (n : ℕ) (p : Part) (g : Goal) : Type 0 where
  pub place : g.part ≡ n
  pub known : Of key fs parts p g.opening g.amounts

-- each part has its goal, in the plan's order
abbrev pub Paired : List ℕ → List FixedParts → List Part → ℕ → List Part → List Goal → Type 0
Paired key fs parts n [] [] = Unit {0}
Paired key fs parts n (p ∷ ps) (g ∷ gs) = Pair key fs parts n p g × Paired key fs parts (suc n) ps gs
Paired key fs parts n _ _ = ⊥

-- ---- with more channels and parts

module _ (key : List ℕ) (fs hs : List FixedParts) (parts more : List Part) (channels-stay : (f : FixedParts) → In f fs → In f hs) (parts-stay : (p : Part) → In p parts → In p more) where
  ledger-stays : (first second name : List ℕ) → OfLedger fs parts first second name → OfLedger hs more first second name
  ledger-stays first second name o = record { fixed = o.fixed; there = channels-stay o.fixed o.there; named = o.named; app = o.app; people = o.people; bearer = bearer-within parts more name parts-stay o.bearer }

  joint-stays : (v : Virtual) (amounts : ℕ × ℕ) (first middle second : List ℕ) → OfJoint fs v amounts first middle second → OfJoint hs v amounts first middle second
  joint-stays v amounts first middle second o = record {
    fixed = o.fixed;
    there = channels-stay o.fixed o.there;
    named = o.named;
    app = o.app;
    people = o.people;
    ends = o.ends;
    apart_a = o.apart_a;
    apart_b = o.apart_b;
    sum = o.sum;
    small = o.small;
  }

  guarantor-stays : (name : List ℕ) → OfGuarantor fs name → OfGuarantor hs name
  guarantor-stays name o = record { fixed = o.fixed; there = channels-stay o.fixed o.there; named = o.named; app = o.app }

  pub stays-known : (p : Part) (opening : List AssetOutcome) (amounts : ℕ × ℕ) → Of key fs parts p opening amounts → Of key hs more p opening amounts
  stays-known (Root name) opening amounts o = record { fixed = o.fixed; there = channels-stay o.fixed o.there; named = o.named; app = o.app; outcome = o.outcome }
  stays-known (OnLedger ledger name) opening amounts o = record {
    first = o.first;
    second = o.second;
    asset = o.asset;
    fixed = o.fixed;
    there = channels-stay o.fixed o.there;
    named = o.named;
    app = o.app;
    people = o.people;
    differ = o.differ;
    sum = o.sum;
    opens = o.opens;
    on = ledger-stays o.first o.second ledger o.on;
  }
  stays-known (End v) opening amounts o = record {
    first = o.first;
    middle = o.middle;
    second = o.second;
    joint = joint-stays v amounts o.first o.middle o.second o.joint;
    me = o.me;
    guarantor = guarantor-stays (own_guarantor v) o.guarantor;
    fixed = o.fixed;
    there = channels-stay o.fixed o.there;
    named = o.named;
    app = o.app;
    people = o.people;
    opens = o.opens;
    on = ledger-stays (cond v.side_b o.middle o.first) (cond v.side_b o.second o.middle) (own_ledger v) o.on;
  }
  stays-known (Middle v) opening amounts o = record {
    first = o.first;
    middle = o.middle;
    second = o.second;
    joint = joint-stays v amounts o.first o.middle o.second o.joint;
    me = o.me;
    guarantor_a = guarantor-stays v.guarantor_a o.guarantor_a;
    guarantor_b = guarantor-stays v.guarantor_b o.guarantor_b;
    on_a = ledger-stays o.first o.middle v.ledger_a o.on_a;
    on_b = ledger-stays o.middle o.second v.ledger_b o.on_b;
  }

  pub stays-paired : (n : ℕ) (ps : List Part) (gs : List Goal) → Paired key fs parts n ps gs → Paired key hs more n ps gs
  stays-paired n [] [] paired = tt
  stays-paired n [] (g ∷ gs) paired = absurd paired
  stays-paired n (p ∷ ps) [] paired = absurd paired
  stays-paired n (p ∷ ps) (g ∷ gs) paired = (
    record { place = paired.0.place; known = stays-known p g.opening g.amounts paired.0.known },
    stays-paired (suc n) ps gs paired.1,
  )

module _ (key : List ℕ) (fs : List FixedParts) (parts : List Part) where
  closed-pair : (lets : Bool) (n : ℕ) (p : Part) (g : Goal) (b : Bool) → Pair key fs parts n p g → Pair key fs parts n p (close_if lets b g)
  closed-pair lets n p g true o = record { place = o.place; known = o.known }
  closed-pair lets n p g false o = o

  -- where one closes
  pub closes-paired : (lets : Bool) (k n : ℕ) (ps : List Part) (gs : List Goal) → Paired key fs parts n ps gs → Paired key fs parts n ps (map (λ goal. close_if lets (goal.part == k) goal) gs)
  closes-paired lets k n [] [] paired = tt
  closes-paired lets k n [] (g ∷ gs) paired = absurd paired
  closes-paired lets k n (p ∷ ps) [] paired = absurd paired
  closes-paired lets k n (p ∷ ps) (g ∷ gs) paired = (closed-pair lets n p g (g.part == k) paired.0, closes-paired lets k (suc n) ps gs paired.1)

  -- with one more
  pub opens-paired : (n : ℕ) (ps : List Part) (gs : List Goal) (p : Part) (g : Goal) → Paired key fs parts n ps gs → g.part ≡ n + length ps → Of key fs parts p g.opening g.amounts
      → Paired key fs parts n (ps ++ p ∷ []) (gs ++ g ∷ [])
  opens-paired n [] [] p g paired place known = (record { place = place ∙ (let e : n + 0 ≡ n = omega arith in e); known = known }, tt)
  opens-paired n [] (x ∷ gs) p g paired place known = absurd paired
  opens-paired n (q ∷ ps) [] p g paired place known = absurd paired
  opens-paired n (q ∷ ps) (x ∷ gs) p g paired place known =
      (paired.0, opens-paired (suc n) ps gs p g paired.1 (place ∙ (let e : n + length (q ∷ ps) ≡ suc n + length ps = omega arith in e)) known)

-- ---- the goal of a part is found

abbrev own-place : Part → List Part → ℕ
own-place p ps = position_or_len (λ q. bytes_eq (own_channel q) (own_channel p)) ps

record Found (key : List ℕ) (fs : List FixedParts) (parts ps : List Part) (gs : List Goal) (n : ℕ) (p : Part) : Type 0 where
  goal : Goal
  known : Of key fs parts p goal.opening goal.amounts
  within : nat_lt (own-place p ps) (length ps) ≡ true
  found : (k : ℕ) → k ≡ n + own-place p ps → find (λ g. g.part == k) gs ≡ Some goal

first-place : (a k n r : ℕ) → a ≡ n → k ≡ n + r → r ≡ 0 → a ≡ k
first-place a k n r e f z = omega arith

next-place : (k n q r : ℕ) → k ≡ n + r → r ≡ suc q → k ≡ suc n + q
next-place k n q r f s = omega arith

other-place : (a k n q r : ℕ) → a ≡ n → k ≡ n + r → r ≡ suc q → a ≡ k → ⊥
other-place a k n q r e f s same = omega arith

plus-one : (n : ℕ) → 1 + n ≡ suc n
plus-one n = omega arith

up : (q r n : ℕ) → r ≡ suc q → nat_lt q n ≡ true → nat_lt r (suc n) ≡ true
up q r n s e = low r (suc n) (let l : q < n = lt-true q n e in omega arith)

module _ (key : List ℕ) (fs : List FixedParts) (parts : List Part) where
  found-at : (n : ℕ) (ps : List Part) (gs : List Goal) (p : Part) → Paired key fs parts n ps gs → Apart (channels ps) → In p ps → Found key fs parts ps gs n p
  found-at n [] gs p paired apart i = absurd i
  found-at n (x ∷ xs) [] p paired apart i = absurd paired
  found-at n (x ∷ xs) (g ∷ gs) p paired apart (inl e) = record {
    goal = g;
    known = subst (λ (q : Part). Of key fs parts q g.opening g.amounts) (sym e) paired.0.known;
    within = subst (λ (k : ℕ). nat_lt k (length (x ∷ xs)) ≡ true) (sym zero-place) (low 0 (length (x ∷ xs)) (omega arith));
    found = λ k is. cond-true (g.part == k) (Some g) (find (λ (y : Goal). y.part == k) gs) (eq-eqb g.part k (first-place g.part k n (own-place p (x ∷ xs)) paired.0.place is zero-place));
  }
    where
      zero-place : own-place p (x ∷ xs) ≡ 0
      zero-place = ap (λ (b : Bool). cond (not b) (1 + own-place p xs) 0) (ap (λ (q : Part). bytes_eq (own_channel x) (own_channel q)) e ∙ bytes_eq_self (own_channel x))
  found-at n (x ∷ xs) (g ∷ gs) p paired apart (inr i) = go (found-at (suc n) xs gs p paired.1 (apart-rest (channels_of x) (channels xs) apart) i)
    where
      next : own-place p (x ∷ xs) ≡ suc (own-place p xs)
      next =
          ap (λ (b : Bool). cond (not b) (1 + own-place p xs) 0)
          (apart-cross (channels_of x) (channels xs) apart (own_channel x) (own_channel p) (own-in x) (In-flat_map channels_of (own_channel p) p xs i (own-in p)))
          ∙ plus-one (own-place p xs)

      go : Found key fs parts xs gs (suc n) p → Found key fs parts (x ∷ xs) (g ∷ gs) n p
      go f = record {
        goal = f.goal;
        known = f.known;
        within = up (own-place p xs) (own-place p (x ∷ xs)) (length xs) next f.within;
        found = λ k is.
            cond-false (g.part == k) (Some g) (find (λ (y : Goal). y.part == k) gs)
            (eqb-false g.part k (other-place g.part k n (own-place p xs) (own-place p (x ∷ xs)) paired.0.place is next))
            ∙ f.found k (next-place k n (own-place p xs) (own-place p (x ∷ xs)) is next);
      }

-- the goal of a part, and what is known of both
pub record GoalOf (key : List ℕ) (fs : List FixedParts) (parts : List Part) (goals : List Goal) (p : Part) : Type 0 where
  pub goal : Goal
  pub known : Of key fs parts p goal.opening goal.amounts
  pub is : goal_at (position (λ q. bytes_eq (own_channel q) (own_channel p)) parts) goals ≡ Some goal

pub goal-of : (key : List ℕ) (fs : List FixedParts) (parts : List Part) (goals : List Goal) (p : Part) → Paired key fs parts 0 parts goals → Apart (channels parts) → In p parts
    → GoalOf key fs parts goals p
goal-of key fs parts goals p paired apart i =
    let f = found-at key fs parts 0 parts goals p paired apart i in
    record {
      goal = f.goal;
      known = f.known;
      is = ap (λ (b : Bool). goal_at (cond b (Some (own-place p parts)) None) goals) f.within ∙ f.found (own-place p parts) (plus-zero (own-place p parts));
    }
  where
    plus-zero : (n : ℕ) → n ≡ 0 + n
    plus-zero n = omega arith
