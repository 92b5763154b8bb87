-- What a channel that a ledger funds wants keeps the share.
use Rattle.std.proofs.Common.{◌≡◌, ℕ, ◌+◌, ◌≤◌, Bool, true, false, ◌||◌, List, ◌∷◌, ◌⊎◌, inl, inr, refl, sym, ◌∙◌, ap, subst, arith}
use Rattle.std.specs.Prelude.{◌==◌, Option, Some, None}
use Rattle.std.specs.Str.{bytes_eq}
use Rattle.channel_values.specs.Outcomes.{IsOutcome}
use Rattle.channel_values.specs.Parts.{FixedParts, StateParts, IsState}
use Rattle.channel_values.specs.declared.value.AssetOutcome.{AssetOutcome}
use Rattle.channel_values.specs.declared.value.Dest.TheVariants.{Person}
use Rattle.channel_values.specs.declared.value.Item.{Item}
use Rattle.channel_safety.proofs.Tests.{none-eq}
use Rattle.call_history.proofs.Names.{bytes_eq_self}
use Rattle.call_history.specs.History.{mode}
use Rattle.call_history.specs.declared.entry.Entry.{Entry}
use Rattle.channel_values.specs.Amounts.{amt}
use Rattle.channel_values.specs.Rules.{people}
use Rattle.channel_values.specs.Digests.{name_of_person}
use Rattle.call_history.specs.Mode.{is_final}
use Rattle.funding_plans.specs.Known.{FactsOf}
use Rattle.funding_plans.specs.Parts.{closed}
use Rattle.funding_plans.specs.Shapes.{items_in}
use Rattle.funding_plans.specs.declared.plan.Goal.{Goal}
use Rattle.funding_plans.specs.declared.plan.Part.TheVariants.{OnLedger}
use Rattle.ledger_channel.specs.OnLedgers as children
use Rattle.ledger_channel.specs.OnLedgers.{Funded, on_ledger_rows}
use Rattle.ledger_channel.specs.Stages.{stage_on_ledger, wanted_on_ledger}
use Rattle.channel_safety.specs.Journals.{In, Line}
use Rattle.channel_node.specs.Minds.{Mind, facts_of}
use Rattle.channel_node.specs.Openings.{shared}
use Rattle.channel_node.specs.Places.{Told, lines_of, mind_at}
use Rattle.channel_node.specs.Playing.{Signing}
use Rattle.channel_node.specs.Refusing.{is_open, stands_in, not_open}
use Rattle.node_guarantees.specs.Orders.{orders_of}
use Rattle.stage_tables.specs.Stages.{stages}
use Rattle.funding_plans.specs.Limits.{is_valid}
use Rattle.funding_plans.specs.Outcomes.{amounts_in}
use Rattle.funding_plans.specs.declared.child.Child.{Child}
use Rattle.stage_tables.specs.Asked.{wanted_of}
use Rattle.share_laws.specs.Funded.{up_to}
use Rattle.share_laws.specs.Places.{Order, listed, proposed}
use Rattle.share_laws.specs.Fairly.{Wants}
use Rattle.share_laws.specs.Moves.{SetsAside}
use Rattle.share_laws.specs.Settled.{EndsWith, Has}
use Rattle.share_laws.specs.Signatures.{IsOwn}
use Rattle.share_laws.specs.Wanted.{IsTarget}
use Rattle.funding_plans.specs.Gathered.{goal_in}
use Rattle.funding_plans.specs.Rows as rows
use Rattle.funding_plans.specs.Seats.{holds, has_signed_past, settled_on, amounts_after, down_after}
use Rattle.support_rules.specs.Real.{real}
use Rattle.fairness_laws.proofs.Finding.{asked-there, or-left}
use Rattle.fairness_laws.specs.Carried.{OpensWith}
use Rattle.fairness_laws.proofs.Apps.{no-payments}
use Rattle.fairness_laws.proofs.Seat.Past.{two-people}
use Rattle.fairness_laws.specs.FairLaws.{ChildrenWantFairly}
use Rattle.fairness_laws.specs.LedgerLaws.{LedgersKeep}
use Rattle.fairness_laws.specs.LedgerLending.{of_funded, lent}
use Rattle.fairness_laws.specs.LedgerWanting.{IsChild}
use Rattle.fairness_laws.specs.PaymentLaws.{At, IsShared, Shares}
use Rattle.fairness_laws.specs.PlanParts.{OnLedgerIs}
use Rattle.fairness_laws.specs.PlanSettings.{IsFair}
use Rattle.fairness_laws.specs.SeatSitting.{Sits}
use Rattle.fairness_laws.proofs.Ledger.Fits.{Sets, up-fits, down-fits}
use Rattle.fairness_laws.proofs.Ledger.Lent.{of-child, child-there}
use Rattle.fairness_laws.proofs.Ledger.Standing.{known_ledgers_keep}
use Rattle.fairness_laws.proofs.Live.{wants-early, below-not, live-open}
use Rattle.fairness_laws.proofs.Opening.Children.{children_open}
use Rattle.fairness_laws.proofs.OpenedParts.{SignsFirst, child-first, child-of}
use Rattle.fairness_laws.proofs.Payment.Shares.{children_share}
use Rattle.fairness_laws.proofs.Plan.Parts.{parts_are_known}
use Rattle.fairness_laws.proofs.Rows.{ChildWants, opens, ups, posts, finals, downs, child-wants}
use Rattle.fairness_laws.proofs.Seat.Based.{young-turn}
use Rattle.fairness_laws.proofs.Seat.Wants.{going-there, wants-repeated, wants-final, wants-move}
use Rattle.fairness_laws.proofs.Seat.Ends.{ends-top, ends-holds, ends-with, first-round}
use Rattle.fairness_laws.proofs.Shared.{two, amt-first, amt-second, up-first, up-second, shared-items, shared-amounts, which}
use Rattle.fairness_laws.proofs.Signing.{sits, opens-not_final}

-- ---- which part of what is set aside is the person's

record Mine (me : List ℕ) (k : Child) : Type 0 where
  mine : ℕ
  sets : Sets me k mine
  own : amt (two k.first k.second k.a k.b) (Person me) ≡ mine
  within : up_to (two k.first k.second k.a k.b) (Person me) ≤ k.a + k.b

mine-of : (me : List ℕ) (k : Child) → bytes_eq k.first k.second ≡ false → (me ≡ k.first) ⊎ (me ≡ k.second) → Mine me k
mine-of me k differ (inl e) = record {
  mine = k.a;
  sets = λ from to u. subst (λ (n : List ℕ). SetsAside n k.name k.a (k.a + k.b) (items_in k.asset from) (items_in k.asset to)) (sym e) u.one;
  own = subst (λ (n : List ℕ). amt (two k.first k.second k.a k.b) (Person n) ≡ k.a) (sym e) (amt-first k.first k.second k.a k.b);
  within = subst (λ (n : List ℕ). up_to (two k.first k.second k.a k.b) (Person n) ≤ k.a + k.b) (sym e)
      (let z : up_to (two k.first k.second k.a k.b) (Person k.first) ≡ k.a = up-first k.first k.second k.a k.b in omega arith);
}
mine-of me k differ (inr e) = record {
  mine = k.b;
  sets = λ from to u. subst (λ (n : List ℕ). SetsAside n k.name k.b (k.a + k.b) (items_in k.asset from) (items_in k.asset to)) (sym e) u.other;
  own = subst (λ (n : List ℕ). amt (two k.first k.second k.a k.b) (Person n) ≡ k.b) (sym e) (amt-second k.first k.second k.a k.b differ);
  within = subst (λ (n : List ℕ). up_to (two k.first k.second k.a k.b) (Person n) ≤ k.a + k.b) (sym e)
      (let z : up_to (two k.first k.second k.a k.b) (Person k.second) ≡ k.a + k.b = up-second k.first k.second k.a k.b differ in omega arith);
}

-- ---- a place

module _ (s : Signing) (h : List Entry) (journal : List Told) (fair : IsFair s h journal) (past : List Entry) (front : List Told) (at : At s h journal past front)
    (ledger name : List ℕ) (g : Goal) (found : goal_in (facts_of (mind_at real s.key past front)) name ≡ Some g)
    (o : OnLedgerIs s.key past (lines_of s.key front) (facts_of (mind_at real s.key past front)) ledger name g) (there : In (OnLedger ledger name) (mind_at real s.key past front).parts)
    (ledgers : LedgersKeep (facts_of (mind_at real s.key past front))) (live : not_open stages (facts_of (mind_at real s.key past front)) ≡ None) where
  abbrev facts : FactsOf
  facts = facts_of (mind_at real s.key past front)

  abbrev lines : List Line
  lines = lines_of s.key front

  abbrev orders : ℕ → Order
  orders = orders_of real s.key journal

  abbrev me : List ℕ
  me = name_of_person s.key

  abbrev p : Funded
  p = o.funded

  abbrev k : Child
  k = p.child

  shares : Shares o.fixed k.asset (k.a + k.b) p.channel
  shares = children_share s h journal past front fair at ledger name g there o

  pub first-states : OpensWith o.fixed g.opening (lines_of s.key journal)
  first-states =
      let c = child-of s h journal fair past front at ledger name g there o in
      subst (λ (x : List AssetOutcome). OpensWith o.fixed x (lines_of s.key journal)) (sym c.is)
      (children_open s h journal fair.nodes.legal fair.nodes.plays c.ledger o.fixed c.asset c.amounts c.took)

  sit : is_final (mode real (real.named o.fixed) past) ≡ false → Sits s.key orders past lines o.fixed g.opening p.channel
  sit going = sits s h journal fair past front at o.fixed g.opening p.channel o.seat going

  -- the channel is open where the part wants something
  pub stands-open : (c : List ℕ) (state : StateParts) → rows.wanted_in c (on_ledger_rows p) ≡ Some state → is_open (stands_in facts (real.named o.fixed)) ≡ true
  stands-open c state e =
      live-open facts (OnLedger ledger name) (real.named o.fixed) live there early (ap (λ (n : List ℕ). bytes_eq n name || false) o.named ∙ ap (λ (b : Bool). b || false) (bytes_eq_self name))
    where
      early : (stages.stage facts (OnLedger ledger name) == closed (OnLedger ledger name)) ≡ false
      early = ap (λ (x : Option Funded). stage_on_ledger x == 6) o.is ∙ below-not (rows.stage_in (on_ledger_rows p)) 6 (wants-early c (on_ledger_rows p) state e)

  pub channel-open : (c : List ℕ) (state : StateParts) → rows.wanted_in c (on_ledger_rows p) ≡ Some state → is_final (mode real (real.named o.fixed) past) ≡ false
  channel-open c state e =
      opens-not_final s h journal fair past front at (real.named o.fixed) (stands-open c state e)

  pub many : people o.fixed ≡ 2
  many = two-people o.fixed k.first k.second o.people

  ours : lent facts ledger (OnLedger ledger name) ≡ Some (of_funded p)
  ours = child-there s past front ledger name g o

  is-child : IsChild k
  is-child = (of-child s past front ledger name g found o).child

  -- what it has with these amounts
  mine : (ab : ℕ × ℕ) → Mine me (record k { a = ab.0; b = ab.1 })
  mine ab = mine-of me (record k { a = ab.0; b = ab.1 }) o.differ (which o.on.fixed k.first k.second o.on.seat.kept.me s.key o.on.people o.on.seat.mine)

  -- ---- what the channel ends with

  record ChannelEnds (ab : ℕ × ℕ) : Type 0 where
    outcome : List AssetOutcome
    ending : EndsWith real past lines name outcome
    is : outcome ≡ shared o.fixed k.asset ab

  has-of : (ab : ℕ × ℕ) → ChannelEnds ab → Has real me past lines (OnLedger ledger name) (real.named o.on.fixed) k.name k.asset (mine ab).mine (ab.0 + ab.1)
  has-of ab c = (
    sym o.on.named,
    sym o.child,
    record {
      outcome = c.outcome;
      ends = c.ending;
      own = ap (λ (xs : List Item). amt xs (Person me)) items ∙ (mine ab).own;
      within = subst (λ (xs : List Item). up_to xs (Person me) ≤ ab.0 + ab.1) (sym items) (mine ab).within;
    },
  )
    where
      items : items_in k.asset c.outcome ≡ two k.first k.second ab.0 ab.1
      items = ap (items_in k.asset) c.is ∙ shared-items o.fixed k.asset k.first k.second o.people ab

  module _ (going : is_final (mode real (real.named o.fixed) past) ≡ false) where
    -- its opening outcome, in the first round
    opened-so : holds 1 p.channel ≡ true → has_signed_past p.channel ≡ false → ChannelEnds (k.a, k.b)
    opened-so one young =
        let e = ends-holds s.key orders past lines o.fixed g.opening p.channel (sit going) 1 one in
        record {
          outcome = g.opening;
          ending = subst (λ (n : List ℕ). EndsWith real past lines n g.opening) o.named
              (ends-with s.key orders past lines o.fixed g.opening p.channel (sit going) e g.opening
              (first-round o.fixed g.opening at.place.newer lines (subst (SignsFirst o.fixed g.opening) at.place.lines (child-first s h journal fair past front at ledger name g there o)) e.last e.last_is
              (young-turn s.key orders past lines o.fixed g.opening p.channel (sit going) e young)));
          is = o.opening ∙ ap (shared o.fixed k.asset) o.amounts;
        }

    -- what all its final states have
    ended-so : p.channel.all_final ≡ true → (top : StateParts) → p.channel.top ≡ Some top → (sh : IsShared o.fixed k.asset (k.a + k.b) top.outcome) → ChannelEnds sh.amounts
    ended-so ended top top-is sh =
        let e = ends-top s.key orders past lines o.fixed g.opening p.channel (sit going) top top-is in
        record {
          outcome = e.last.state.outcome;
          ending = subst (λ (n : List ℕ). EndsWith real past lines n e.last.state.outcome) o.named
              (ends-with s.key orders past lines o.fixed g.opening p.channel (sit going) e e.last.state.outcome
              (ap (λ (bytes : List ℕ). e.last.state.outcome ∷ listed (proposed bytes)) (shares.own e.last.state e.own_is).1));
          is = (shares.ended ended top e.last.state top-is e.own_is).1 ∙ sh.is;
        }

    -- ---- on the ledger

    module _ (going-l : is_final (mode real (real.named o.on.fixed) past) ≡ false) where
      abbrev Fits : Option (List AssetOutcome) → Type 0
      Fits target =
          (top : StateParts) (t : List AssetOutcome) → p.ledger.top ≡ Some top → target ≡ Some t → is_valid t ≡ true
          → IsOutcome t × ((t ≡ top.outcome) ⊎ IsTarget real me orders past lines o.on.fixed top.outcome t)

      pub up : p.closing ≡ false → holds 1 p.channel ≡ true → children.is_settled_up p ≡ false → Fits (children.target_up p)
      up stays one unsettled top t is aim valid =
          let young : has_signed_past p.channel ≡ false = or-left (has_signed_past p.channel) (settled_on (children.target_up p) p.ledger) unsettled in
          up-fits s h journal fair past front at (OnLedger ledger name) there ledger (of_funded p) ours is-child o.on ledgers going-l top is stays young (mine (k.a, k.b)).mine
          (has-of (k.a, k.b) (opened-so one young)) (mine (k.a, k.b)).sets t aim valid

      pub down : p.channel.all_final ≡ true → Fits (children.target_down p)
      down ended top t is aim valid = by p.channel.top refl
        where
          by : (c : Option StateParts) → p.channel.top ≡ c → IsOutcome t × ((t ≡ top.outcome) ⊎ IsTarget real me orders past lines o.on.fixed top.outcome t)
          by None c-is = absurd (nothing p.ledger.top (ap (amounts_after k.asset k.first k.second) c-is) aim)
            where
              nothing : (x : Option StateParts) → children.ends_now p ≡ None → down_after k x (children.ends_now p) ≡ Some t → ⊥
              nothing None e a = none-eq t a
              nothing (Some y) e a = none-eq t (sym (ap (down_after k (Some y)) e) ∙ a)
          by (Some c) c-is = with-shares (shares.top c c-is).0
            where
              with-shares : IsShared o.fixed k.asset (k.a + k.b) c.outcome → IsOutcome t × ((t ≡ top.outcome) ⊎ IsTarget real me orders past lines o.on.fixed top.outcome t)
              with-shares sh =
                  down-fits s h journal fair past front at (OnLedger ledger name) there ledger (of_funded p) ours is-child o.on ledgers going-l top is sh.amounts
                  (ap (amounts_after k.asset k.first k.second) c-is
                  ∙ ap (λ (x : ℕ × ℕ). Some x) (ap (amounts_in k.asset k.first k.second) sh.is ∙ shared-amounts o.fixed k.asset k.first k.second o.people sh.amounts o.differ)) sh.sum
                  (mine sh.amounts).mine (has-of sh.amounts (ended-so ended c c-is sh)) (mine sh.amounts).sets t aim valid

  -- ---- what it wants

  module _ (f : FixedParts) (state : StateParts) (own : IsOwn real lines f) (valid : IsState state) (going : is_final (mode real (real.named f) past) ≡ false)
      (asked : rows.wanted_in (real.named f) (on_ledger_rows p) ≡ Some state) where
    going-c : is_final (mode real (real.named o.fixed) past) ≡ false
    going-c = channel-open (real.named f) state asked

    wants-well : Wants real me orders past lines f state
    wants-well = by (child-wants p (real.named f) state asked)
      where
        by : ChildWants p (real.named f) state → Wants real me orders past lines f state
        by (opens running same e) =
            wants-repeated s h journal fair past front at f state own valid going o.fixed g.opening p.channel o.seat same first-states 0 2 (let n : people o.fixed ≡ 2 = many in omega arith) e
        by (posts running settled same e) =
            wants-repeated s h journal fair past front at f state own valid going o.fixed g.opening p.channel o.seat same first-states 2 4 (let n : people o.fixed ≡ 2 = many in omega arith) e
        by (finals closing unended same e) = wants-final s h journal fair past front at f state own valid going o.fixed g.opening p.channel o.seat same e
        by (ups stays one unsettled same e) =
            wants-move s h journal fair past front at f state own valid going o.on.fixed p.ledger.opening p.ledger o.on.seat same (no-payments o.on.fixed o.on.app) (children.target_up p) e
            (up going-c (going-there s h journal fair past front at f state own valid going o.on.fixed p.ledger.opening p.ledger o.on.seat same) stays one unsettled)
        by (downs closing ended not-down same e) =
            wants-move s h journal fair past front at f state own valid going o.on.fixed p.ledger.opening p.ledger o.on.seat same (no-payments o.on.fixed o.on.app) (children.target_down p) e
            (down going-c (going-there s h journal fair past front at f state own valid going o.on.fixed p.ledger.opening p.ledger o.on.seat same) ended)

-- ---- the law

pub children_want_fairly : ChildrenWantFairly
children_want_fairly s h journal ledger name fair past front at f state own valid going live asked wanted =
    let p = parts_are_known s h journal past front fair.nodes at.front_is (OnLedger ledger name) there in
    known-as p.goal p.found p.is
  where
    m : Mind
    m = mind_at real s.key past front

    there : In (OnLedger ledger name) m.parts
    there = asked-there (facts_of m) (real.named f) (OnLedger ledger name) asked

    known-as : (g : Goal) → goal_in (facts_of m) name ≡ Some g → OnLedgerIs s.key past (lines_of s.key front) (facts_of m) ledger name g
        → Wants real (name_of_person s.key) (orders_of real s.key journal) past (lines_of s.key front) f state
    known-as g found o =
        wants-well s h journal fair past front at ledger name g found o there (known_ledgers_keep s h journal fair past front at) live f state own valid going
        (sym (ap (wanted_on_ledger (real.named f)) o.is) ∙ (sym (ap (wanted_of (facts_of m) (real.named f)) asked) ∙ wanted))
