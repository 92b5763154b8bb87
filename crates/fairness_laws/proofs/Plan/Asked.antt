-- Which part of a node's plan is asked about a channel, at a place.
use Rattle.std.proofs.Common.{◌≡◌, ℕ, Bool, true, false, ◌||◌, List, [], ◌∷◌, ◌⊎◌, inl, inr, refl, sym, ◌∙◌, ap, subst}
use Rattle.std.specs.Prelude.{Option, Some, None}
use Rattle.std.specs.Option.{option_or}
use Rattle.std.specs.Str.{bytes_eq}
use Rattle.channel_values.specs.Parts.{FixedParts}
use Rattle.channel_safety.proofs.Tests.{some-eq, clash}
use Rattle.call_history.proofs.Names.{same_bytes}
use Rattle.call_history.specs.Flows.{is_among}
use Rattle.call_history.specs.declared.entry.Entry.{Entry}
use Rattle.funding_plans.specs.Parts.{own_ledger, channels_of, channels as channels-of-parts, ledgers_of}
use Rattle.funding_plans.specs.declared.plan.Part.{Part}
use Rattle.funding_plans.specs.declared.plan.Part.TheVariants as kinds
use Rattle.channel_safety.specs.Journals.{In, Line}
use Rattle.channel_node.specs.Minds.{Mind, facts_of}
use Rattle.channel_node.specs.Places.{Told, lines_of, mind_at}
use Rattle.channel_node.specs.Playing.{Signing, Plays}
use Rattle.channel_node.specs.Refusing.{other}
use Rattle.stage_tables.specs.Stages.{stages}
use Rattle.fairness_laws.proofs.Plan.Bearers.{Bearer, bearer-of}
use Rattle.fairness_laws.proofs.Plan.Names.{all-apart}
use Rattle.fairness_laws.proofs.Plan.Places.{plays-there, knows-there, apart-there}
use Rattle.fairness_laws.specs.PaymentLaws.{At}
use Rattle.fairness_laws.specs.PlanLaws.{PartAt}
use Rattle.fairness_laws.specs.PlanParts.{LedgerIs}
use Rattle.fairness_laws.specs.PlanSettings.{IsFair}
use Rattle.fairness_laws.proofs.Plan.Parts.{parts_are_known}
use Rattle.stage_tables.specs.Asked as asked
use Rattle.share_laws.specs.Places.{channels}
use Rattle.share_laws.specs.Plans.{IsPlan}
use Rattle.funding_plans.specs.Seats.{Seat}
use Rattle.support_rules.specs.Real.{real}
use Rattle.support_rules.specs.Steps.{persons}
use Rattle.fairness_laws.proofs.Finding.{on-in, with-in}
use Rattle.fairness_laws.proofs.FirstRounds.{joined-among}
use Rattle.fairness_laws.proofs.Planned.{Planned, is-planned, one-part}

-- ---- a ledger of two people

pub record OnLedger (front : List Line) (name : List ℕ) : Type 0 where
  pub fixed : FixedParts
  pub there : In fixed (channels front)
  pub named : real.named fixed ≡ name
  pub app : fixed.app ≡ 0
  pub first : List ℕ
  pub second : List ℕ
  pub people : persons fixed ≡ first ∷ second ∷ []

of-ledger : (key : List ℕ) (past : List Entry) (front : List Line) (first second name : List ℕ) (c : Seat) → LedgerIs key past front first second name c → OnLedger front name
of-ledger key past front first second name c l = record { fixed = l.fixed; there = l.seat.own.there; named = l.named; app = l.app; first = first; second = second; people = l.people }

pub ledger-named : (key : List ℕ) (past : List Entry) (front : List Line) (first second name : List ℕ) (c : Seat) → LedgerIs key past front first second name c → (n : List ℕ) → bytes_eq c.name n ≡ true
    → OnLedger front n
ledger-named key past front first second name c l n e =
    subst (OnLedger front) (sym l.named ∙ (sym (ap (λ (z : Seat). z.name) l.seat.is) ∙ same_bytes c.name n e)) (of-ledger key past front first second name c l)

-- ---- at a place

module _ (s : Signing) (h : List Entry) (journal : List Told) (fair : IsFair s h journal) (past : List Entry) (front : List Told) (at : At s h journal past front) where
  abbrev m : Mind
  m = mind_at real s.key past front

  abbrev L : List Line
  L = lines_of s.key front

  plays : Plays stages real s h front
  plays = plays-there s h journal fair.nodes past front at.front_is

  pub planned : Planned m
  planned = is-planned stages real s h front plays at.front_is.later past at.front_is.entries at.front_is.before

  -- a channel is of one part
  pub one-of-parts : (c : List ℕ) (p q : Part) → In p m.parts → In q m.parts → is_among c (channels_of p) ≡ true → is_among c (channels_of q) ≡ true → p ≡ q
  one-of-parts c p q i j e f = one-part c m.parts p q planned.apart i j e f

  pub part-at : (p : Part) → In p m.parts → PartAt s past front p
  part-at p i = parts_are_known s h journal past front fair.nodes at.front_is p i

  -- the ledgers of parts
  ledger-of : (name : List ℕ) (q : Part) → In q m.parts → is_among name (ledgers_of q) ≡ true → OnLedger L name
  ledger-of name (kinds.Root c) i e = absurd (clash false e refl)
  ledger-of name (kinds.OnLedger l c) i e = go (bytes_eq name l) refl e
    where
      go : (b : Bool) → bytes_eq name l ≡ b → (b || false) ≡ true → OnLedger L name
      go true same e =
          let k = (part-at (kinds.OnLedger l c) i).is in
          subst (OnLedger L) (sym (same_bytes name l same)) (of-ledger s.key past L k.funded.child.first k.funded.child.second l k.funded.ledger k.on)
      go false same e = absurd (clash false e refl)
  ledger-of name (kinds.End v) i e = go (bytes_eq name (own_ledger v)) refl e
    where
      go : (b : Bool) → bytes_eq name (own_ledger v) ≡ b → (b || false) ≡ true → OnLedger L name
      go true same e =
          let k = (part-at (kinds.End v) i).is in
          subst (OnLedger L) (sym (same_bytes name (own_ledger v) same)) (of-ledger s.key past L k.end.child.first k.end.child.second (own_ledger v) k.end.ledger k.on)
      go false same e = absurd (clash false e refl)
  ledger-of name (kinds.Middle v) i e = go (bytes_eq name v.ledger_a) (bytes_eq name v.ledger_b) refl refl e
    where
      go : (a b : Bool) → bytes_eq name v.ledger_a ≡ a → bytes_eq name v.ledger_b ≡ b → (a || (b || false)) ≡ true → OnLedger L name
      go true b same other e =
          let k = (part-at (kinds.Middle v) i).is in
          subst (OnLedger L) (sym (same_bytes name v.ledger_a same)) (of-ledger s.key past L k.middle.child_a.first k.middle.child_a.second v.ledger_a k.middle.ledger_a k.on_a)
      go false true same other e =
          let k = (part-at (kinds.Middle v) i).is in
          subst (OnLedger L) (sym (same_bytes name v.ledger_b other)) (of-ledger s.key past L k.middle.child_b.first k.middle.child_b.second v.ledger_b k.middle.ledger_b k.on_b)
      go false false same other e = absurd (clash false e refl)

  -- the part that has a channel which is no ledger is asked about it
  pub asked-is : (name : List ℕ) (p q : Part) → In p m.parts → is_among name (channels_of p) ≡ true → (OnLedger L name → ⊥) → stages.asked (facts_of m) name ≡ Some q → q ≡ p
  asked-is name p q i has none e = go (asked.unfinished_on (facts_of m) name m.parts) refl e
    where
      go : (o : Option Part) → asked.unfinished_on (facts_of m) name m.parts ≡ o → option_or o (asked.part_with name m.parts) ≡ Some q → q ≡ p
      go None is e = let w = with-in name m.parts q e in one-of-parts name q p w.0 i (joined-among name q w.1) has
      go (Some z) is e = let w = on-in (facts_of m) name m.parts z is in absurd (none (ledger-of name z w.0 w.1))

  -- or another that stands on it
  pub asked-or : (name : List ℕ) (p q : Part) → In p m.parts → is_among name (channels_of p) ≡ true → stages.asked (facts_of m) name ≡ Some q → (q ≡ p) ⊎ (In q m.parts × (is_among name (ledgers_of q) ≡ true))
  asked-or name p q i has e = go (asked.unfinished_on (facts_of m) name m.parts) refl e
    where
      go : (o : Option Part) → asked.unfinished_on (facts_of m) name m.parts ≡ o → option_or o (asked.part_with name m.parts) ≡ Some q → (q ≡ p) ⊎ (In q m.parts × (is_among name (ledgers_of q) ≡ true))
      go None is e = let w = with-in name m.parts q e in inl (one-of-parts name q p w.0 i (joined-among name q w.1) has)
      go (Some z) is e =
          let w = on-in (facts_of m) name m.parts z is in
          let same = some-eq z q e in
          inr (subst (λ (y : Part). In y m.parts) same w.0, subst (λ (y : Part). is_among name (ledgers_of y) ≡ true) same w.1)

  -- ---- on whose channel a part stands

  pub plan-is : IsPlan m.parts
  plan-is = record {
    apart = all-apart (channels-of-parts m.parts) (apart-there s h journal fair.nodes past front at.front_is);
    on_ledgers = (knows-there s h journal fair.nodes past front at.front_is).stands;
  }

  pub bearer-at : (name : List ℕ) (p : Part) → In p m.parts → is_among name (ledgers_of p) ≡ true → Bearer m.parts name
  bearer-at name p i e = bearer-of m.parts plan-is p i name e
