-- The first round of a channel on a ledger.
use Rattle.std.proofs.Common.{◌≡◌, ℕ, ◌+◌, ◌-◌, ◌<◌, ◌≤◌, Bool, true, false, ◌||◌, ◌⊎◌, List, inl, inr, refl, sym, ◌∙◌, ap, subst, arith}
use Rattle.std.specs.Prelude.{◌==◌, nat_lt, Option, Some, None}
use Rattle.std.specs.Str.{bytes_eq}
use Rattle.channel_values.specs.Parts.{FixedParts, StateParts}
use Rattle.channel_values.specs.Rules.{people}
use Rattle.call_history.proofs.Names.{same_bytes, bytes_eq_self}
use Rattle.channel_store.specs.Keeping.{next_of}
use Rattle.channel_store.specs.Storing.{kept_of}
use Rattle.channel_store.specs.declared.kept.Kept.{Kept}
use Rattle.funding_plans.specs.declared.plan.Goal.{Goal}
use Rattle.funding_plans.specs.declared.plan.Part.TheVariants.{OnLedger}
use Rattle.funding_plans.specs.declared.child.Child.{Child}
use Rattle.support_rules.specs.Real.{real}
use Rattle.fairness_laws.specs.Openings.{open_on}
use Rattle.funding_plans.specs.Gathered as gathered
use Rattle.funding_plans.specs.Seats.{Seat, repeats, takes_payment}
use Rattle.ledger_channel.specs.OnLedgers.{Funded, on_ledger_rows}
use Rattle.ledger_channel.specs.Stages.{child_of, funded_with, funded_of, funded_in, stage_on_ledger, wanted_on_ledger, taken_on_ledger}
use Rattle.stage_tables.specs.Asked.{is_closing, wanted_of, takes_of}
use Rattle.channel_node.specs.Minds.{Mind, facts_of}
use Rattle.channel_node.specs.Openings.{are_apart, shared, goal_with}
use Rattle.stage_tables.specs.Stages.{stages}
use Rattle.channel_safety.proofs.Tests.{some-eq, none-eq, lt-false, eqb-true, clash}
use Rattle.fairness_laws.specs.Roots.{is_repeated}
use Rattle.fairness_laws.proofs.Finding.{names}
use Rattle.fairness_laws.proofs.Closing.{RunsAt}
use Rattle.fairness_laws.proofs.Commanded.{IsGoalOf}
use Rattle.fairness_laws.proofs.FirstRounds.{IsPlace, Starts, opens-with}
use Rattle.fairness_laws.specs.OpeningChannels.{ChildrenOpenWith}
use Rattle.fairness_laws.proofs.Rows.{ChildWants, opens, ups, posts, finals, downs, child-wants, stage-is}
use Rattle.fairness_laws.proofs.Ledger.Wanting.{funded_runs}
use Rattle.fairness_laws.proofs.Opening.Seated.{seated, named-seat, in-first, held-runs, repeats-opening, takes-opening, cond-yes}

-- ---- what the facts say of it

pub record FundedAt (m : Mind) (ledger name : List ℕ) (p : Funded) : Type 0 where
  pub g : Goal
  pub goal : gathered.goal_in (facts_of m) name ≡ Some g
  pub channel : gathered.seat_with (facts_of m) name g.opening ≡ Some p.channel
  pub on : gathered.seat_in (facts_of m) ledger ≡ Some p.ledger
  pub ledger_name : p.ledger.name ≡ ledger
  pub closing : p.closing ≡ g.closing

pub funded-at : (m : Mind) (ledger name : List ℕ) (p : Funded) → funded_in (facts_of m) ledger name ≡ Some p → FundedAt m ledger name p
funded-at m ledger name p e = go (gathered.seat_in (facts_of m) name) refl (gathered.seat_in (facts_of m) ledger) refl (gathered.goal_in (facts_of m) name) refl e
  where
    go : (o : Option Seat) → gathered.seat_in (facts_of m) name ≡ o → (l : Option Seat) → gathered.seat_in (facts_of m) ledger ≡ l → (q : Option Goal) → gathered.goal_in (facts_of m) name ≡ q → funded_of name o l q ≡ Some p
        → FundedAt m ledger name p
    go None a l b q d e = absurd (none-eq p e)
    go (Some c) a None b q d e = absurd (none-eq p e)
    go (Some c) a (Some l) b None d e = absurd (none-eq p e)
    go (Some c) a (Some l) b (Some g) d e = child (child_of name l.people g g.opening) e
      where
        child : (o : Option Child) → funded_with c l g o ≡ Some p → FundedAt m ledger name p
        child None e = absurd (none-eq p e)
        child (Some x) e =
            subst (FundedAt m ledger name) (some-eq (record { channel = c; ledger = l; child = x; closing = g.closing }) p e)
            (record { g = g; goal = d; channel = sym (ap (gathered.seat_for (facts_of m) name) d) ∙ a; on = b; ledger_name = named-seat m ledger l b; closing = refl })

-- ---- its stage

module _ (m : Mind) (ledger : List ℕ) (f : FixedParts) where
  abbrev c : List ℕ
  c = real.named f

  no-stage : (n : ℕ) → n ≡ 3 → n ≡ 0 → ⊥
  no-stage n a b = absurd (omega arith)

  not-low : nat_lt 0 3 ≡ false → ⊥
  not-low e = let h : 3 ≤ 0 = lt-false 0 3 e in absurd (omega arith)

  child-done : is_closing (gathered.goal_in (facts_of m) c) ≡ false → nat_lt (stage_on_ledger (funded_in (facts_of m) ledger c)) 3 ≡ false → (stage_on_ledger (funded_in (facts_of m) ledger c) == 3) ≡ true
  child-done open-yet e = by (funded_in (facts_of m) ledger c) refl e
    where
      by : (o : Option Funded) → funded_in (facts_of m) ledger c ≡ o → nat_lt (stage_on_ledger o) 3 ≡ false → (stage_on_ledger o == 3) ≡ true
      by None is low = absurd (not-low low)
      by (Some p) is low =
          let at = funded-at m ledger c p is in
          stage-is (on_ledger_rows p) 3 (at.closing ∙ (sym (ap is_closing at.goal) ∙ open-yet)) low

  child-runs : are_apart (names m.kept) ≡ true → (stage_on_ledger (funded_in (facts_of m) ledger c) == 3) ≡ true → RunsAt m f (people f - 1)
  child-runs apart e = by (funded_in (facts_of m) ledger c) refl (eqb-true (stage_on_ledger (funded_in (facts_of m) ledger c)) 3 e)
    where
      by : (o : Option Funded) → funded_in (facts_of m) ledger c ≡ o → stage_on_ledger o ≡ 3 → RunsAt m f (people f - 1)
      by None is three = absurd (no-stage 0 three refl)
      by (Some p) is three =
          let at = funded-at m ledger c p is in
          held-runs m f at.g.opening p.channel apart (seated m c at.g.opening p.channel at.channel)
          (funded_runs p three).1

-- ---- its first round

pub goal-opening : (ledger : List ℕ) (f : FixedParts) (asset : ℕ) (amounts : ℕ × ℕ) (g : Goal) → IsGoalOf (open_on ledger f asset amounts) g → g.opening ≡ shared f asset amounts
goal-opening ledger f asset amounts g o = o.opening ∙ only o.n o.first o.there
  where
    only : (n : ℕ) (first : Goal) → (first ≡ goal_with n (shared f asset amounts) amounts) ⊎ ⊥ → first.opening ≡ shared f asset amounts
    only n first (inl e) = ap (λ (x : Goal). x.opening) e
    only n first (inr i) = absurd i

not-ledger : (ledger : List ℕ) (f : FixedParts) (asset : ℕ) (amounts : ℕ × ℕ) (m : Mind) → IsPlace m (open_on ledger f asset amounts) (OnLedger ledger (real.named f)) f
    → (p : Funded) → FundedAt m ledger (real.named f) p → bytes_eq p.ledger.name (real.named f) ≡ true → ⊥
not-ledger ledger f asset amounts m place p at same =
    place.apart (ap (λ (b : Bool). b || false)
    (subst (λ (x : List ℕ). bytes_eq x ledger ≡ true) (sym at.ledger_name ∙ same_bytes p.ledger.name (real.named f) same) (bytes_eq_self ledger)))

-- until Close what is wanted there repeats its opening outcome
pub wants-opening : (ledger : List ℕ) (f : FixedParts) (asset : ℕ) (amounts : ℕ × ℕ) (m : Mind) (s : StateParts) (Q : Type 0)
    → IsPlace m (open_on ledger f asset amounts) (OnLedger ledger (real.named f)) f → stages.asked (facts_of m) (real.named f) ≡ Some (OnLedger ledger (real.named f))
    → ((g : Goal) → gathered.goal_in (facts_of m) (real.named f) ≡ Some g → g.closing ≡ false) → stages.wanted (facts_of m) (real.named f) ≡ Some s
    → ((c : Seat) (from until : ℕ) → c.opening ≡ shared f asset amounts → repeats from until c ≡ Some s → Q) → Q
wants-opening ledger f asset amounts m s Q place asked going wants told = by (funded_in (facts_of m) ledger c) refl
  where
    c : List ℕ
    c = real.named f

    with-part : (p : Funded) → funded_in (facts_of m) ledger c ≡ Some p → Q
    with-part p is = by (child-wants p c s (sym (ap (wanted_on_ledger c) is) ∙ (sym (ap (wanted_of (facts_of m) c) asked) ∙ wants)))
      where
        at : FundedAt m ledger c p
        at = funded-at m ledger c p is

        opening-is : p.channel.opening ≡ shared f asset amounts
        opening-is = (seated m c at.g.opening p.channel at.channel).opening_is ∙ goal-opening ledger f asset amounts at.g (place.goal at.g at.goal)

        late : p.closing ≡ true → Q
        late closing = absurd (clash p.closing closing (at.closing ∙ going at.g at.goal))

        by : ChildWants p c s → Q
        by (opens going same w) = told p.channel 0 2 opening-is w
        by (ups going one unsettled same w) = absurd (not-ledger ledger f asset amounts m place p at same)
        by (posts going settled same w) = told p.channel 2 4 opening-is w
        by (finals closing unended same w) = late closing
        by (downs closing final yet same w) = late closing

    by : (o : Option Funded) → funded_in (facts_of m) ledger c ≡ o → Q
    by None is = absurd (none-eq s (sym (ap (wanted_on_ledger c) is) ∙ (sym (ap (wanted_of (facts_of m) c) asked) ∙ wants)))
    by (Some p) is = with-part p is

pub child-starts : (ledger : List ℕ) (f : FixedParts) (asset : ℕ) (amounts : ℕ × ℕ) → Starts (open_on ledger f asset amounts) (OnLedger ledger (real.named f)) f (shared f asset amounts) (people f - 1)
child-starts ledger f asset amounts = record {
  own = ap (λ (b : Bool). b || false) (bytes_eq_self (real.named f));
  enough = once (people f);
  runs = λ m. child-runs m ledger f;
  done = λ m. child-done m ledger f;
  starts = first;
}
  where
    c : List ℕ
    c = real.named f

    once : (n : ℕ) → n ≤ n - 1 + 1
    once n = omega arith

    first : (m : Mind) (k : Kept) (s : StateParts) → IsPlace m (open_on ledger f asset amounts) (OnLedger ledger (real.named f)) f → stages.asked (facts_of m) (real.named f) ≡ Some (OnLedger ledger (real.named f))
        → kept_of (real.named f) m.kept ≡ Some k → s.turn ≡ next_of k → s.turn < people f
        → (stages.accepts (facts_of m) (real.named f) s ≡ true)
        ⊎ (((g : Goal) → gathered.goal_in (facts_of m) (real.named f) ≡ Some g → g.closing ≡ false) × (stages.wanted (facts_of m) (real.named f) ≡ Some s))
        → is_repeated (shared f asset amounts) s ≡ true
    first m k s place asked keeps next small (inr e) =
        wants-opening ledger f asset amounts m s (is_repeated (shared f asset amounts) s ≡ true) place asked e.0 e.1 (λ x from until is w. repeats-opening x (shared f asset amounts) from until s is w)
    first m k s place asked keeps next small (inl e) = by (funded_in (facts_of m) ledger c) refl
      where
        by : (o : Option Funded) → funded_in (facts_of m) ledger c ≡ o → is_repeated (shared f asset amounts) s ≡ true
        by None is = absurd (clash false (sym (ap (taken_on_ledger c s) is) ∙ (sym (ap (takes_of (facts_of m) c s) asked) ∙ e)) refl)
        by (Some p) is =
            let at = funded-at m ledger c p is in
            let sits = seated m c at.g.opening p.channel at.channel in
            takes-opening p.channel (shared f asset amounts) s true (sits.opening_is ∙ goal-opening ledger f asset amounts at.g (place.goal at.g at.goal))
            (in-first m c at.g.opening p.channel sits f k keeps (place.fixed f (inl refl) k keeps) s.turn small)
            (cond-yes (bytes_eq p.channel.name c) (takes_payment p.channel s) _ (subst (λ (x : List ℕ). bytes_eq x c ≡ true) (sym sits.name_is) (bytes_eq_self c))
            (sym (ap (taken_on_ledger c s) is) ∙ (sym (ap (takes_of (facts_of m) c s) asked) ∙ e)))

pub children_open : ChildrenOpenWith
children_open s h journal legal plays ledger f asset amounts took =
    opens-with s h journal legal plays (open_on ledger f asset amounts) (OnLedger ledger (real.named f)) f (shared f asset amounts) (people f - 1) took (inl refl) (inl refl) (child-starts ledger f asset amounts)
