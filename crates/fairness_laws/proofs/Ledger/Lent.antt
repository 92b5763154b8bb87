-- What a ledger sets aside for a part at a place, whatever its kind. For which channel and how much, by which ledger,
-- and which channel shows whether the ledger has gone up.
use Rattle.std.proofs.Common.{◌≡◌, ℕ, ◌+◌, ◌*◌, ◌-◌, ◌^◌, ◌≤◌, Bool, true, false, cond, List, [], ◌∷◌, inl, inr, refl, sym, ◌∙◌, ap, subst, arith}
use Rattle.std.specs.Prelude.{Option, Some, None}
use Rattle.std.specs.Option.{option_map}
use Rattle.std.specs.Str.{bytes_eq}
use Rattle.channel_values.specs.Outcomes.{IsName}
use Rattle.channel_values.specs.Parts.{FixedParts}
use Rattle.channel_values.specs.declared.value.AssetOutcome.{AssetOutcome}
use Rattle.channel_safety.proofs.Tests.{some-eq, none-eq}
use Rattle.call_history.proofs.Names.{same_bytes, bytes_eq_self}
use Rattle.call_history.specs.declared.entry.Entry.{Entry}
use Rattle.funding_plans.specs.Known.{FactsOf}
use Rattle.funding_plans.specs.Parts.{own_channel, channels_of, own_ledger, own_guarantor}
use Rattle.funding_plans.specs.declared.plan.Goal.{Goal}
use Rattle.funding_plans.specs.declared.plan.Part.{Part}
use Rattle.funding_plans.specs.declared.plan.Part.TheVariants as kinds
use Rattle.funding_plans.specs.declared.plan.Virtual.{Virtual}
use Rattle.ledger_channel.specs.OnLedgers.{Funded}
use Rattle.channel_safety.specs.Journals.{Line, In}
use Rattle.channel_node.specs.Minds.{facts_of}
use Rattle.channel_node.specs.Places.{Told, lines_of, mind_at}
use Rattle.channel_node.specs.Playing.{Signing}
use Rattle.funding_plans.specs.Targets.{apart}
use Rattle.funding_plans.specs.declared.child.Child.{Child}
use Rattle.funding_plans.specs.declared.terms.Terms.{Terms}
use Rattle.funding_plans.specs.Gathered.{goal_in}
use Rattle.funding_plans.specs.Seats.{Seat, has_signed_past}
use Rattle.support_rules.specs.Real.{real}
use Rattle.virtual_channel.specs.Ends.{End}
use Rattle.virtual_channel.specs.Middles.{Middle}
use Rattle.fairness_laws.proofs.Finding.{flips}
use Rattle.fairness_laws.specs.LedgerLending.{Lent, of_funded, of_end, of_middle}
use Rattle.fairness_laws.specs.LedgerPlaces.{lends_at}
use Rattle.fairness_laws.specs.LedgerWanting.{IsChild}
use Rattle.fairness_laws.specs.PlanLaws.{PartAt}
use Rattle.fairness_laws.specs.PlanParts.{LedgerIs, OnLedgerIs, EndIs, MiddleIs}
use Rattle.fairness_laws.specs.PlanSeats.{SeatIs}
use Rattle.fairness_laws.proofs.NamesAreNames.{names_are_names}

-- ---- by the part alone

-- the channel by whose set-up it is told whether the ledger has gone up
abbrev pub gate-of : Part → List ℕ
gate-of (kinds.Root c) = c
gate-of (kinds.OnLedger l c) = c
gate-of (kinds.End v) = v.joint
gate-of (kinds.Middle v) = v.joint

-- for which channel a ledger sets something aside
abbrev pub named-for : List ℕ → Part → List ℕ
named-for l (kinds.Root c) = c
named-for l (kinds.OnLedger m c) = c
named-for l (kinds.End v) = own_guarantor v
named-for l (kinds.Middle v) = cond (bytes_eq v.ledger_a l) v.guarantor_a v.guarantor_b

-- both are channels of the part
pub gate-in : (p : Part) → In (gate-of p) (channels_of p)
gate-in (kinds.Root c) = inl refl
gate-in (kinds.OnLedger l c) = inl refl
gate-in (kinds.End v) = inr (inr (inl refl))
gate-in (kinds.Middle v) = inr (inr (inl refl))

pub named-in : (l : List ℕ) (p : Part) → In (named-for l p) (channels_of p)
named-in l (kinds.Root c) = inl refl
named-in l (kinds.OnLedger m c) = inl refl
named-in l (kinds.End v) = go v.side_b
  where
    go : (b : Bool) → In (cond b v.guarantor_b v.guarantor_a) (v.guarantor_a ∷ v.guarantor_b ∷ v.joint ∷ v.channel ∷ [])
    go true = inr (inl refl)
    go false = inl refl
named-in l (kinds.Middle v) = go (bytes_eq v.ledger_a l)
  where
    go : (b : Bool) → In (cond b v.guarantor_a v.guarantor_b) (v.guarantor_a ∷ v.guarantor_b ∷ v.joint ∷ v.channel ∷ [])
    go true = inl refl
    go false = inr (inl refl)

abbrev pub asset-of : List AssetOutcome → ℕ
asset-of [] = 0
asset-of (o ∷ os) = o.asset

-- and of which asset
abbrev pub asset-for : Part → Goal → ℕ
asset-for (kinds.Root c) g = asset-of g.opening
asset-for (kinds.OnLedger l c) g = asset-of g.opening
asset-for (kinds.End v) g = v.asset
asset-for (kinds.Middle v) g = v.asset

abbrev pub of-a : Middle → Lent
of-a = of_middle (λ p. p.child_a) (λ p. p.ledger_a)

abbrev pub of-b : Middle → Lent
of-b = of_middle (λ p. p.child_b) (λ p. p.ledger_b)

-- ---- what is set aside

pub record LendsAt (s : Signing) (past : List Entry) (front : List Told) (l : List ℕ) (p : Part) (k : Lent) : Type 0 where
  pub goal : Goal
  pub found : goal_in (facts_of (mind_at real s.key past front)) (own_channel p) ≡ Some goal
  pub closing : k.closing ≡ goal.closing
  pub asset : k.child.asset ≡ asset-for p goal
  pub named : k.child.name ≡ named-for l p
  pub amounts : goal.amounts ≡ (k.child.a, k.child.b)
  pub child : IsChild k.child
  pub on : LedgerIs s.key past (lines_of s.key front) k.child.first k.child.second l k.ledger
  -- the channel by whose set-up it is told whether the ledger has gone up
  pub gate : Seat
  pub fixed : FixedParts
  pub opening : List AssetOutcome
  pub gate_named : real.named fixed ≡ gate-of p
  pub seat : SeatIs s.key past (lines_of s.key front) fixed opening gate
  pub is_up : k.is_up ≡ has_signed_past gate

pub same-name : (l m : List ℕ) (k j : Lent) → cond (bytes_eq l m) (Some k) None ≡ Some j → (bytes_eq l m ≡ true) × (k ≡ j)
same-name l m k j e = go (bytes_eq l m) e
  where
    go : (b : Bool) → cond b (Some k) None ≡ Some j → (b ≡ true) × (k ≡ j)
    go true e = (refl, some-eq k j e)
    go false e = absurd (none-eq j e)

-- amounts that make up the total
small-sum : (xy : ℕ × ℕ) (a b n : ℕ) → xy ≡ (a, b) → xy.0 + xy.1 ≡ n → 2 * n ≤ 2 ^ 64 - 1 → a + b ≤ 2 ^ 64 - 1
small-sum xy a b n e sum small = less (a + b) n (sym (ap (λ (x : ℕ × ℕ). x.0 + x.1) e) ∙ sum) small
  where
    less : (m n : ℕ) → m ≡ n → 2 * n ≤ 2 ^ 64 - 1 → m ≤ 2 ^ 64 - 1
    less m n q p = omega arith

module _ (s : Signing) (past : List Entry) (front : List Told) where
  abbrev F : FactsOf
  F = facts_of (mind_at real s.key past front)

  abbrev L : List Line
  L = lines_of s.key front

  -- ---- by kind

  pub of-child : (l c : List ℕ) (g : Goal) → goal_in F c ≡ Some g → (o : OnLedgerIs s.key past L F l c g) → LendsAt s past front l (kinds.OnLedger l c) (of_funded o.funded)
  of-child l c g found o = record {
    goal = g;
    found = found;
    closing = o.closing;
    asset = ap asset-of (sym o.opening);
    named = o.child;
    amounts = o.amounts;
    child = record { named = subst IsName (o.named ∙ sym o.child) (names_are_names o.fixed); people = o.differ; sum = o.sum };
    on = o.on;
    gate = o.funded.channel;
    fixed = o.fixed;
    opening = g.opening;
    gate_named = o.named;
    seat = o.seat;
    is_up = refl;
  }

  pub of-an-end : (v : Virtual) (g : Goal) → goal_in F v.channel ≡ Some g → (e : EndIs s.key past L F v g) → LendsAt s past front (own_ledger v) (kinds.End v) (of_end e.end)
  of-an-end v g found e = record {
    goal = g;
    found = found;
    closing = e.closing;
    asset = e.child.asset;
    named = e.child.named;
    amounts = e.child.amounts;
    child = record {
      named = subst IsName (e.guarantor.named ∙ sym e.child.named) (names_are_names e.guarantor.fixed);
      people = differ v.side_b e.child.one e.child.other;
      sum = small-sum g.amounts e.end.child.a e.end.child.b v.total e.child.amounts e.joint.sum e.joint.small;
    };
    on = e.on;
    gate = e.end.joint;
    fixed = e.joint.fixed;
    opening = apart e.end.terms g.amounts;
    gate_named = e.joint.named;
    seat = e.joint.seat;
    is_up = refl;
  }
    where
      t : Terms
      t = e.end.terms

      k : Child
      k = e.end.child

      differ : (b : Bool) → k.first ≡ cond b t.middle t.first → k.second ≡ cond b t.second t.middle → bytes_eq k.first k.second ≡ false
      differ false one other = ap (λ (n : List ℕ). bytes_eq n k.second) one ∙ (ap (bytes_eq t.first) other ∙ e.joint.first)
      differ true one other = ap (λ (n : List ℕ). bytes_eq n k.second) one ∙ (ap (bytes_eq t.middle) other ∙ flips t.second t.middle e.joint.second)

  module _ (v : Virtual) (g : Goal) (found : goal_in F v.channel ≡ Some g) (m : MiddleIs s.key past L F v g) where
    abbrev t : Terms
    t = m.middle.terms

    pub of-first : LendsAt s past front v.ledger_a (kinds.Middle v) (of-a m.middle)
    of-first = record {
      goal = g;
      found = found;
      closing = m.closing;
      asset = m.child_a.asset;
      named = m.child_a.named ∙ ap (λ (b : Bool). cond b v.guarantor_a v.guarantor_b) (sym (bytes_eq_self v.ledger_a));
      amounts = m.child_a.amounts;
      child = record {
        named = subst IsName (m.guarantor_a.named ∙ sym m.child_a.named) (names_are_names m.guarantor_a.fixed);
        people = ap (λ (n : List ℕ). bytes_eq n m.middle.child_a.second) m.child_a.one ∙ (ap (bytes_eq t.first) m.child_a.other ∙ m.joint.first);
        sum = small-sum g.amounts m.middle.child_a.a m.middle.child_a.b v.total m.child_a.amounts m.joint.sum m.joint.small;
      };
      on = m.on_a;
      gate = m.middle.joint;
      fixed = m.joint.fixed;
      opening = apart t g.amounts;
      gate_named = m.joint.named;
      seat = m.joint.seat;
      is_up = refl;
    }

    pub of-second : bytes_eq v.ledger_a v.ledger_b ≡ false → LendsAt s past front v.ledger_b (kinds.Middle v) (of-b m.middle)
    of-second differ = record {
      goal = g;
      found = found;
      closing = m.closing;
      asset = m.child_b.asset;
      named = m.child_b.named ∙ ap (λ (b : Bool). cond b v.guarantor_a v.guarantor_b) (sym differ);
      amounts = m.child_b.amounts;
      child = record {
        named = subst IsName (m.guarantor_b.named ∙ sym m.child_b.named) (names_are_names m.guarantor_b.fixed);
        people =
            ap (λ (n : List ℕ). bytes_eq n m.middle.child_b.second) m.child_b.one
            ∙ (ap (bytes_eq t.middle) m.child_b.other ∙ flips t.second t.middle m.joint.second);
        sum = small-sum g.amounts m.middle.child_b.a m.middle.child_b.b v.total m.child_b.amounts m.joint.sum m.joint.small;
      };
      on = m.on_b;
      gate = m.middle.joint;
      fixed = m.joint.fixed;
      opening = apart t g.amounts;
      gate_named = m.joint.named;
      seat = m.joint.seat;
      is_up = refl;
    }

  -- ---- what is set aside there

  pub lent-child : (n l c : List ℕ) (g : Goal) (o : OnLedgerIs s.key past L F l c g) → lends_at s past front n (kinds.OnLedger l c) ≡ cond (bytes_eq l n) (Some (of_funded o.funded)) None
  lent-child n l c g o = ap (λ (z : Option Funded). cond (bytes_eq l n) (option_map of_funded z) None) o.is

  pub lent-end : (n : List ℕ) (v : Virtual) (g : Goal) (e : EndIs s.key past L F v g) → lends_at s past front n (kinds.End v) ≡ cond (bytes_eq (own_ledger v) n) (Some (of_end e.end)) None
  lent-end n v g e = ap (λ (z : Option End). cond (bytes_eq (own_ledger v) n) (option_map of_end z) None) e.is

  pub lent-middle : (n : List ℕ) (v : Virtual) (g : Goal) (m : MiddleIs s.key past L F v g)
      → lends_at s past front n (kinds.Middle v) ≡ cond (bytes_eq v.ledger_a n) (Some (of-a m.middle)) (cond (bytes_eq v.ledger_b n) (Some (of-b m.middle)) None)
  lent-middle n v g m = ap (λ (z : Option Middle). cond (bytes_eq v.ledger_a n) (option_map of-a z) (cond (bytes_eq v.ledger_b n) (option_map of-b z) None)) m.is

  pub child-there : (l c : List ℕ) (g : Goal) (o : OnLedgerIs s.key past L F l c g) → lends_at s past front l (kinds.OnLedger l c) ≡ Some (of_funded o.funded)
  child-there l c g o = lent-child l l c g o ∙ ap (λ (b : Bool). cond b (Some (of_funded o.funded)) None) (bytes_eq_self l)

  pub end-there : (v : Virtual) (g : Goal) (e : EndIs s.key past L F v g) → lends_at s past front (own_ledger v) (kinds.End v) ≡ Some (of_end e.end)
  end-there v g e = lent-end (own_ledger v) v g e ∙ ap (λ (b : Bool). cond b (Some (of_end e.end)) None) (bytes_eq_self (own_ledger v))

  pub first-there : (v : Virtual) (g : Goal) (m : MiddleIs s.key past L F v g) → lends_at s past front v.ledger_a (kinds.Middle v) ≡ Some (of-a m.middle)
  first-there v g m =
      lent-middle v.ledger_a v g m
      ∙ ap (λ (b : Bool). cond b (Some (of-a m.middle)) (cond (bytes_eq v.ledger_b v.ledger_a) (Some (of-b m.middle)) None)) (bytes_eq_self v.ledger_a)

  pub second-there : (v : Virtual) (g : Goal) (m : MiddleIs s.key past L F v g) → bytes_eq v.ledger_a v.ledger_b ≡ false
      → lends_at s past front v.ledger_b (kinds.Middle v) ≡ Some (of-b m.middle)
  second-there v g m differ =
      lent-middle v.ledger_b v g m
      ∙ (ap (λ (b : Bool). cond b (Some (of-a m.middle)) (cond (bytes_eq v.ledger_b v.ledger_b) (Some (of-b m.middle)) None)) differ
      ∙ ap (λ (b : Bool). cond b (Some (of-b m.middle)) None) (bytes_eq_self v.ledger_b))

  -- So what holds of what is set aside for each kind holds of all that is.
  pub by-kind : (P : List ℕ → Part → Lent → Type 0) (p : Part) (at : PartAt s past front p)
      → ((l c : List ℕ) (g : Goal) (o : OnLedgerIs s.key past L F l c g) → kinds.OnLedger l c ≡ p → goal_in F c ≡ Some g → P l (kinds.OnLedger l c) (of_funded o.funded))
      → ((v : Virtual) (g : Goal) (e : EndIs s.key past L F v g) → kinds.End v ≡ p → goal_in F v.channel ≡ Some g → P (own_ledger v) (kinds.End v) (of_end e.end))
      → ((v : Virtual) (g : Goal) (m : MiddleIs s.key past L F v g) → kinds.Middle v ≡ p → goal_in F v.channel ≡ Some g → P v.ledger_a (kinds.Middle v) (of-a m.middle))
      → ((v : Virtual) (g : Goal) (m : MiddleIs s.key past L F v g) → kinds.Middle v ≡ p → goal_in F v.channel ≡ Some g → bytes_eq v.ledger_a v.ledger_b ≡ false
      → P v.ledger_b (kinds.Middle v) (of-b m.middle))
      → (n : List ℕ) (k : Lent) → lends_at s past front n p ≡ Some k → P n p k
  by-kind P (kinds.Root c) at child end first second n k e = absurd (none-eq k e)
  by-kind P (kinds.OnLedger l c) at child end first second n k e =
      let x = same-name l n (of_funded at.is.funded) k (sym (lent-child n l c at.goal at.is) ∙ e) in
      subst (λ (z : Lent). P n (kinds.OnLedger l c) z) x.1
      (subst (λ (z : List ℕ). P z (kinds.OnLedger l c) (of_funded at.is.funded)) (same_bytes l n x.0) (child l c at.goal at.is refl at.found))
  by-kind P (kinds.End v) at child end first second n k e =
      let x = same-name (own_ledger v) n (of_end at.is.end) k (sym (lent-end n v at.goal at.is) ∙ e) in
      subst (λ (z : Lent). P n (kinds.End v) z) x.1
      (subst (λ (z : List ℕ). P z (kinds.End v) (of_end at.is.end)) (same_bytes (own_ledger v) n x.0) (end v at.goal at.is refl at.found))
  by-kind P (kinds.Middle v) at child end first second n k e = go (bytes_eq v.ledger_a n) refl (sym (lent-middle n v at.goal at.is) ∙ e)
    where
      go : (b : Bool) → bytes_eq v.ledger_a n ≡ b → cond b (Some (of-a at.is.middle)) (cond (bytes_eq v.ledger_b n) (Some (of-b at.is.middle)) None) ≡ Some k → P n (kinds.Middle v) k
      go true is h =
          subst (λ (z : Lent). P n (kinds.Middle v) z) (some-eq (of-a at.is.middle) k h)
          (subst (λ (z : List ℕ). P z (kinds.Middle v) (of-a at.is.middle)) (same_bytes v.ledger_a n is) (first v at.goal at.is refl at.found))
      go false is h =
          let x = same-name v.ledger_b n (of-b at.is.middle) k h in
          let same : v.ledger_b ≡ n = same_bytes v.ledger_b n x.0 in
          subst (λ (z : Lent). P n (kinds.Middle v) z) x.1
          (subst (λ (z : List ℕ). P z (kinds.Middle v) (of-b at.is.middle)) same
          (second v at.goal at.is refl at.found (subst (λ (z : List ℕ). bytes_eq v.ledger_a z ≡ false) (sym same) is)))

  pub lends-is : (p : Part) (at : PartAt s past front p) (l : List ℕ) (k : Lent) → lends_at s past front l p ≡ Some k → LendsAt s past front l p k
  lends-is p at l k e =
      by-kind (LendsAt s past front) p at (λ l c g o same found. of-child l c g found o) (λ v g e same found. of-an-end v g found e)
      (λ v g m same found. of-first v g found m) (λ v g m same found differ. of-second v g found m differ) l k e

-- what stands there at one place stands there at another
pub lent-again : (s : Signing) (past : List Entry) (front : List Told) (after : List Entry) (longer : List Told) (p : Part) → PartAt s past front p → PartAt s after longer p
    → (n : List ℕ) (k : Lent) → lends_at s past front n p ≡ Some k → (j : Lent) × (lends_at s after longer n p ≡ Some j)
lent-again s past front after longer p at then n k is =
    by-kind s past front (λ (n : List ℕ) (p : Part) (k : Lent). (j : Lent) × (lends_at s after longer n p ≡ Some j)) p at
    (λ l c g x same found. let y = now (kinds.OnLedger l c) same in (of_funded y.is.funded, child-there s after longer l c y.goal y.is))
    (λ v g x same found. let y = now (kinds.End v) same in (of_end y.is.end, end-there s after longer v y.goal y.is))
    (λ v g x same found. let y = now (kinds.Middle v) same in (of-a y.is.middle, first-there s after longer v y.goal y.is))
    (λ v g x same found differ. let y = now (kinds.Middle v) same in (of-b y.is.middle, second-there s after longer v y.goal y.is differ)) n k is
  where
    now : (q : Part) → q ≡ p → PartAt s after longer q
    now q same = subst (PartAt s after longer) (sym same) then
