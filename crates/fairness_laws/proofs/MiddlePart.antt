-- What the intermediary of a virtual channel wants keeps the share.
use Rattle.std.proofs.Common.{◌≡◌, ℕ, ◌+◌, ◌-◌, ◌*◌, ◌<◌, ◌≤◌, ◌^◌, Bool, true, false, ◌&&◌, List, [], ◌∷◌, ◌⊎◌, inl, inr, length, refl, sym, ◌∙◌, ap, subst, arith}
use Rattle.std.specs.Prelude.{◌==◌, Option, Some, None}
use Rattle.std.specs.Str.{bytes_eq}
use Rattle.channel_values.specs.Outcomes.{IsName, IsOutcome}
use Rattle.channel_values.specs.Parts.{FixedParts, StateParts, IsState}
use Rattle.channel_values.specs.declared.value.AssetOutcome.{AssetOutcome}
use Rattle.channel_safety.proofs.Tests.{some-eq, and-left, and-right}
use Rattle.call_history.specs.Flows.{is_among}
use Rattle.call_history.specs.History.{mode}
use Rattle.call_history.specs.declared.entry.Entry.{Entry}
use Rattle.channel_values.specs.Rules.{people}
use Rattle.channel_values.specs.Digests.{name_of_person}
use Rattle.call_history.specs.Mode.{is_final}
use Rattle.funding_plans.specs.Known.{FactsOf}
use Rattle.funding_plans.specs.Parts.{joined_of, ledgers_of, closed}
use Rattle.funding_plans.specs.Shapes.{items_in, list_in}
use Rattle.funding_plans.specs.declared.plan.Goal.{Goal}
use Rattle.funding_plans.specs.declared.plan.Part.TheVariants as parts
use Rattle.funding_plans.specs.declared.plan.Virtual.{Virtual}
use Rattle.channel_safety.specs.Journals.{In, Line}
use Rattle.channel_node.specs.Minds.{Mind, facts_of}
use Rattle.channel_node.specs.Places.{Told, lines_of, mind_at}
use Rattle.channel_node.specs.Playing.{Signing}
use Rattle.channel_node.specs.Refusing.{is_open, stands_in, not_open}
use Rattle.node_guarantees.specs.Orders.{orders_of}
use Rattle.stage_tables.specs.Stages.{stages}
use Rattle.funding_plans.specs.Limits.{is_valid}
use Rattle.funding_plans.specs.Targets.{apart, together, guarantee}
use Rattle.funding_plans.specs.declared.child.Child.{Child}
use Rattle.funding_plans.specs.declared.terms.Terms.{Terms}
use Rattle.stage_tables.specs.Asked.{wanted_of}
use Rattle.share_laws.specs.Books.{outcome_in}
use Rattle.share_laws.specs.Places.{Order, plan, counting, outcomes_of}
use Rattle.share_laws.specs.Fairly.{Wants}
use Rattle.share_laws.specs.Moves.{SetsAside, PaysApart, PaysTogether}
use Rattle.share_laws.specs.Settled.{EndsWith, Between, InFull, Has, MayJoin}
use Rattle.share_laws.specs.Signatures.{IsOwn}
use Rattle.share_laws.specs.Wanted.{IsTarget, LendsNothing}
use Rattle.share_laws.specs.Wanted as wanted
use Rattle.funding_plans.specs.Gathered.{goal_in}
use Rattle.funding_plans.specs.Rows as rows
use Rattle.funding_plans.specs.Seats.{Seat, holds, is_set_up, has_signed_past, settled_on, repeats, toward, up_in, down_in}
use Rattle.support_rules.specs.Real.{real}
use Rattle.virtual_channel.specs.Apart.{apart_at}
use Rattle.virtual_channel.specs.Middles as middles
use Rattle.virtual_channel.specs.Middles.{Middle, middle_rows, back_to}
use Rattle.virtual_channel.specs.Stages.{stage_of_middle, wanted_of_middle}
use Rattle.fairness_laws.proofs.Finding.{asked-there, or-left}
use Rattle.fairness_laws.specs.Carried.{OpensWith}
use Rattle.fairness_laws.proofs.Plan.Plans.{plans_are_whole}
use Rattle.fairness_laws.proofs.Plan.Bearers.{middle-bare}
use Rattle.fairness_laws.proofs.Plan.Names.{in-among}
use Rattle.fairness_laws.proofs.Seat.Past.{several}
use Rattle.fairness_laws.proofs.Apps.{no-payments}
use Rattle.fairness_laws.proofs.Seat.Held.{held-past}
use Rattle.fairness_laws.proofs.Joint.Terms.{ledgers-differ as other-ledgers, three-people}
use Rattle.fairness_laws.specs.JointKeeping.{MiddleKeeps, IsSplit}
use Rattle.fairness_laws.specs.FairLaws.{MiddlesWantFairly}
use Rattle.fairness_laws.specs.LedgerLaws.{LedgersKeep, LedgersStand}
use Rattle.fairness_laws.specs.LedgerLending.{of_middle, lent}
use Rattle.fairness_laws.specs.LedgerWanting.{IsChild}
use Rattle.fairness_laws.specs.OpeningChannels.{SignsOnly}
use Rattle.fairness_laws.specs.PaymentLaws.{At}
use Rattle.fairness_laws.specs.PlanParts.{LedgerIs, GuarantorIs, ChildIs, MiddleIs}
use Rattle.fairness_laws.specs.PlanSeats.{SeatIs}
use Rattle.fairness_laws.specs.PlanSettings.{IsFair}
use Rattle.fairness_laws.specs.SeatSitting.{Sits}
use Rattle.fairness_laws.proofs.Joint.MiddlesKeep.{middles_keep}
use Rattle.fairness_laws.proofs.Joint.Found.{found-sum}
use Rattle.fairness_laws.proofs.Joint.Outcomes.{terms-of, together-asset, apart-asset, found-apart}
use Rattle.fairness_laws.proofs.Joint.Rows.{MiddleWants, guarantees_a, guarantees_b, splits, ups_a, ups_b, joins, parts as parts_back, downs_a, downs_b, middle-wants}
use Rattle.fairness_laws.proofs.Joint.Pays.{apart-list, together-list, same-others, guarantee-list, AreTerms, apart-outcome, together-outcome, between-fits}
use Rattle.fairness_laws.proofs.Ledger.Fits.{Sets, up-fits, down-fits}
use Rattle.fairness_laws.proofs.Ledger.Lent.{of-first, of-second, first-there, second-there}
use Rattle.fairness_laws.proofs.Ledger.Full.{in-full}
use Rattle.fairness_laws.proofs.Ledger.Standing.{known_ledgers_keep}
use Rattle.fairness_laws.proofs.Ledger.Upright.{ledgers_stand_at_places}
use Rattle.fairness_laws.proofs.Live.{wants-early, below-not, live-open}
use Rattle.fairness_laws.proofs.Plan.Parts.{parts_are_known}
use Rattle.fairness_laws.proofs.Seat.Wants.{going-there, wants-repeated, wants-pass, wants-move}
use Rattle.fairness_laws.proofs.Seat.Ends.{Ends, ends-holds, ends-with}
use Rattle.fairness_laws.proofs.Signing.{sits, opens-not_final, planned-there}
use Rattle.fairness_laws.proofs.OpenedVirtuals.{MiddleOpened, middle-opened}
use Rattle.fairness_laws.proofs.Seat.Based.{Based, based, promised}

module _ (s : Signing) (h : List Entry) (journal : List Told) (fair : IsFair s h journal) (past : List Entry) (front : List Told) (at : At s h journal past front)
    (v : Virtual) (g : Goal) (found : goal_in (facts_of (mind_at real s.key past front)) v.channel ≡ Some g) (e : MiddleIs s.key past (lines_of s.key front) (facts_of (mind_at real s.key past front)) v g)
    (there : In (parts.Middle v) (mind_at real s.key past front).parts)
    (keeps : MiddleKeeps g e.middle) (ledgers : LedgersKeep (facts_of (mind_at real s.key past front))) (stands : LedgersStand (facts_of (mind_at real s.key past front)))
    (live : not_open stages (facts_of (mind_at real s.key past front)) ≡ None) where
  abbrev facts : FactsOf
  facts = facts_of (mind_at real s.key past front)

  abbrev lines : List Line
  lines = lines_of s.key front

  abbrev orders : ℕ → Order
  orders = orders_of real s.key journal

  abbrev me : List ℕ
  me = name_of_person s.key

  abbrev p : Middle
  p = e.middle

  abbrev t : Terms
  t = p.terms

  in-plan : In (parts.Middle v) (plan orders lines)
  in-plan = planned-there s h journal fair past front at (parts.Middle v) there

  pub opened : MiddleOpened s h journal fair past front at v g e
  opened = middle-opened s h journal fair past front at v g there e

  sit : (f : FixedParts) (opening : List AssetOutcome) (c : Seat) → SeatIs s.key past lines f opening c → is_final (mode real (real.named f) past) ≡ false → Sits s.key orders past lines f opening c
  sit f opening c seat going = sits s h journal fair past front at f opening c seat going

  -- its channels are open where it wants something
  pub stands-open : (c : List ℕ) (state : StateParts) → rows.wanted_in c (middle_rows p) ≡ Some state → (n : List ℕ) → is_among n (joined_of (parts.Middle v)) ≡ true → is_open (stands_in facts n) ≡ true
  stands-open c state w n among = live-open facts (parts.Middle v) n live there early among
    where
      early : (stages.stage facts (parts.Middle v) == closed (parts.Middle v)) ≡ false
      early = ap (λ (x : Option Middle). stage_of_middle x == 9) e.is ∙ below-not (rows.stage_in (middle_rows p)) 9 (wants-early c (middle_rows p) state w)

  channel-open : (c : List ℕ) (state : StateParts) → rows.wanted_in c (middle_rows p) ≡ Some state → (n : List ℕ) → is_among n (joined_of (parts.Middle v)) ≡ true → is_final (mode real n past) ≡ false
  channel-open c state w n among =
      opens-not_final s h journal fair past front at n (stands-open c state w n among)

  pub a-among : is_among v.guarantor_a (joined_of (parts.Middle v)) ≡ true
  a-among = in-among v.guarantor_a (joined_of (parts.Middle v)) (inl refl)

  pub b-among : is_among v.guarantor_b (joined_of (parts.Middle v)) ≡ true
  b-among = in-among v.guarantor_b (joined_of (parts.Middle v)) (inr (inl refl))

  pub joint-among : is_among v.joint (joined_of (parts.Middle v)) ≡ true
  joint-among = in-among v.joint (joined_of (parts.Middle v)) (inr (inr (inl refl)))

  -- its ledgers, of which no other person but its own is in both
  pub on-a : is_among v.ledger_a (ledgers_of (parts.Middle v)) ≡ true
  on-a = in-among v.ledger_a (ledgers_of (parts.Middle v)) (inl refl)

  pub on-b : is_among v.ledger_b (ledgers_of (parts.Middle v)) ≡ true
  on-b = in-among v.ledger_b (ledgers_of (parts.Middle v)) (inr (inl refl))

  ledgers-differ : bytes_eq v.ledger_a v.ledger_b ≡ false
  ledgers-differ = other-ledgers s h journal fair past front at.front_is facts v g e

  pub three : people e.joint.fixed ≡ 3
  three = three-people s.key past lines v g t p.joint e.joint

  are-terms : t.asset < 2 ^ 32 → AreTerms t
  are-terms asset = terms-of e.joint.fixed t e.joint.people (subst IsName (sym e.joint.channel) opened.named) (subst (λ (n : ℕ). n < 2 ^ 64) (sym e.joint.total) (small v.total e.joint.small)) asset
    where
      small : (m : ℕ) → 2 * m ≤ 2 ^ 64 - 1 → m < 2 ^ 64
      small m l = omega arith

  -- what the joint channel pays by the promises of both guarantors
  pays : (ab : ℕ × ℕ) → ab.0 + ab.1 ≡ v.total
      → PaysApart me v ab.0 ab.1 (list_in t.asset (guarantee t v.joint t.first)) (list_in t.asset (guarantee t v.joint t.second)) (items_in t.asset (apart t ab))
      × PaysTogether me v (list_in t.asset (guarantee t v.joint t.first)) (list_in t.asset (guarantee t v.joint t.second)) (items_in t.asset (together t))
  pays ab sum =
      subst (λ (n : List ℕ). PaysApart n v ab.0 ab.1 (list_in t.asset (guarantee t v.joint t.first)) (list_in t.asset (guarantee t v.joint t.second)) (items_in t.asset (apart t ab))
      × PaysTogether n v (list_in t.asset (guarantee t v.joint t.first)) (list_in t.asset (guarantee t v.joint t.second)) (items_in t.asset (together t))) e.me
      (between-fits v t ab (list_in t.asset (guarantee t v.joint t.first)) (list_in t.asset (guarantee t v.joint t.second)) sum e.joint.channel e.joint.total e.joint.ends e.joint.first e.joint.second
      (guarantee-list t v.joint t.first) (guarantee-list t v.joint t.second))

  -- ---- which of the people of a ledger it is

  abbrev Side : List ℕ → List ℕ → Child → Type 0
  Side l x k = ((v.ledger_a ≡ l) × (v.guarantor_a ≡ x) × (me ≡ k.second)) ⊎ ((v.ledger_b ≡ l) × (v.guarantor_b ≡ x) × (me ≡ k.first))

  -- with these amounts for the ends: what the other end is paid there is its own
  record Own (l x : List ℕ) (k : Child) (ab : ℕ × ℕ) : Type 0 where
    mine : ℕ
    side : ((v.ledger_a ≡ l) × (v.guarantor_a ≡ x) × (mine ≡ ab.1)) ⊎ ((v.ledger_b ≡ l) × (v.guarantor_b ≡ x) × (mine ≡ ab.0))
    sets : (j : Child) → j.first ≡ k.first → j.second ≡ k.second → j.a ≡ ab.0 → j.b ≡ ab.1 → Sets me j mine

  own : (l x : List ℕ) (k : Child) → Side l x k → (ab : ℕ × ℕ) → Own l x k ab
  own l x k (inl z) ab = record {
    mine = ab.1;
    side = inl (z.0, z.1, refl);
    sets = λ j first second a b from to u.
        subst (λ (n : ℕ). SetsAside me j.name n (j.a + j.b) (items_in j.asset from) (items_in j.asset to)) b
        (subst (λ (n : List ℕ). SetsAside n j.name j.b (j.a + j.b) (items_in j.asset from) (items_in j.asset to)) (second ∙ sym z.2) u.other);
  }
  own l x k (inr z) ab = record {
    mine = ab.0;
    side = inr (z.0, z.1, refl);
    sets = λ j first second a b from to u.
        subst (λ (n : ℕ). SetsAside me j.name n (j.a + j.b) (items_in j.asset from) (items_in j.asset to)) a
        (subst (λ (n : List ℕ). SetsAside n j.name j.a (j.a + j.b) (items_in j.asset from) (items_in j.asset to)) (first ∙ sym z.2) u.one);
  }

  -- ---- both ledgers

  abbrev in-a : Middle → Child
  in-a = λ (q : Middle). q.child_a

  abbrev in-b : Middle → Child
  in-b = λ (q : Middle). q.child_b

  abbrev at-a : Middle → Seat
  at-a = λ (q : Middle). q.ledger_a

  abbrev at-b : Middle → Seat
  at-b = λ (q : Middle). q.ledger_b

  pub lends-a : lent facts v.ledger_a (parts.Middle v) ≡ Some (of_middle in-a at-a p)
  lends-a = first-there s past front v g e

  pub lends-b : lent facts v.ledger_b (parts.Middle v) ≡ Some (of_middle in-b at-b p)
  lends-b = second-there s past front v g e ledgers-differ

  pub child-a : IsChild p.child_a
  child-a = (of-first s past front v g found e).child

  pub child-b : IsChild p.child_b
  child-b = (of-second s past front v g found e ledgers-differ).child

  pub side-a : Side v.ledger_a v.guarantor_a p.child_a
  side-a = inl (refl, refl, sym e.me ∙ sym e.child_a.other)

  pub side-b : Side v.ledger_b v.guarantor_b p.child_b
  side-b = inr (refl, refl, sym e.me ∙ sym e.child_b.one)

  -- ---- where it wants a state

  module _ (c : List ℕ) (state : StateParts) (w : rows.wanted_in c (middle_rows p) ≡ Some state) where
    -- a guarantor ends with its promise
    guarantor-ends : (end n : List ℕ) (x : Seat) (is : GuarantorIs s.key past lines v t end n x) → is_among n (joined_of (parts.Middle v)) ≡ true → SignsOnly is.fixed (guarantee t v.joint end) (lines_of s.key journal)
        → is_set_up x ≡ true → EndsWith real past lines n (guarantee t v.joint end)
    guarantor-ends end n x is among signs set =
        subst (λ (m : List ℕ). EndsWith real past lines m (guarantee t v.joint end)) is.named
        (ends-with s.key orders past lines is.fixed (guarantee t v.joint end) x x-sits held (guarantee t v.joint end)
        (promised s.key orders past lines is.fixed (guarantee t v.joint end) x x-sits held (guarantee t v.joint end) at.place.newer
        (subst (SignsOnly is.fixed (guarantee t v.joint end)) at.place.lines signs)))
      where
        x-sits : Sits s.key orders past lines is.fixed (guarantee t v.joint end) x
        x-sits = sit is.fixed (guarantee t v.joint end) x is.seat (subst (λ (m : List ℕ). is_final (mode real m past) ≡ false) (sym is.named) (channel-open c state w n among))

        held : Ends s.key orders past lines is.fixed x
        held = ends-holds s.key orders past lines is.fixed (guarantee t v.joint end) x x-sits (length x.people - 1) set

    a-ends : middles.are_set_up p ≡ true → EndsWith real past lines v.guarantor_a (guarantee t v.joint t.first)
    a-ends set =
        guarantor-ends t.first v.guarantor_a p.guarantor_a e.guarantor_a a-among opened.signs_a
        (and-left (is_set_up p.guarantor_a) (is_set_up p.guarantor_b) (and-left (is_set_up p.guarantor_a && is_set_up p.guarantor_b) (is_set_up p.joint) set))

    b-ends : middles.are_set_up p ≡ true → EndsWith real past lines v.guarantor_b (guarantee t v.joint t.second)
    b-ends set =
        guarantor-ends t.second v.guarantor_b p.guarantor_b e.guarantor_b b-among opened.signs_b
        (and-right (is_set_up p.guarantor_a) (is_set_up p.guarantor_b) (and-left (is_set_up p.guarantor_a && is_set_up p.guarantor_b) (is_set_up p.joint) set))

    abbrev between : middles.are_set_up p ≡ true → Between real past lines v
    between set = record { promise_a = guarantee t v.joint t.first; promise_b = guarantee t v.joint t.second; guarantor_a = a-ends set; guarantor_b = b-ends set }

    j-sits : Sits s.key orders past lines e.joint.fixed (apart t g.amounts) p.joint
    j-sits = sit e.joint.fixed (apart t g.amounts) p.joint e.joint.seat (subst (λ (n : List ℕ). is_final (mode real n past) ≡ false) (sym e.joint.named) (channel-open c state w v.joint joint-among))

    joint-ends : middles.are_set_up p ≡ true → Ends s.key orders past lines e.joint.fixed p.joint
    joint-ends set =
        ends-holds s.key orders past lines e.joint.fixed (apart t g.amounts) p.joint j-sits (length p.joint.people - 1)
        (and-right (is_set_up p.guarantor_a && is_set_up p.guarantor_b) (is_set_up p.joint) set)

    -- ---- one of its ledgers

    module _ (child : Middle → Child) (ledger : Middle → Seat) (l x first second : List ℕ) (lends : lent facts l (parts.Middle v) ≡ Some (of_middle child ledger p)) (is-child : IsChild (child p))
        (child-is : ChildIs v g first second x (child p)) (on : LedgerIs s.key past lines (child p).first (child p).second l (ledger p)) (side : Side l x (child p)) where
      abbrev k : Child
      k = child p

      total-is : k.a + k.b ≡ v.total
      total-is = sym (ap (λ (y : ℕ × ℕ). y.0 + y.1) child-is.amounts) ∙ e.joint.sum

      asset-is : k.asset ≡ t.asset
      asset-is = child-is.asset ∙ sym e.joint.asset

      -- what it has of what the ledger sets aside, where the joint channel ends with these amounts
      has-of : middles.are_set_up p ≡ true → (ab : ℕ × ℕ) (all : ℕ) → ab.0 + ab.1 ≡ v.total → v.total ≡ all → (y : Ends s.key orders past lines e.joint.fixed p.joint) → outcomes_of y.last.state ≡ apart t ab ∷ []
          → Has real me past lines (parts.Middle v) (real.named on.fixed) k.name k.asset (own l x k side ab).mine all
      has-of set ab all sum whole y alone =
          subst (λ (n : List ℕ). Has real me past lines (parts.Middle v) n k.name k.asset (own l x k side ab).mine all) (sym on.named)
          (subst (λ (n : List ℕ). Has real me past lines (parts.Middle v) l n k.asset (own l x k side ab).mine all) (sym child-is.named)
          (subst (λ (n : ℕ). Has real me past lines (parts.Middle v) l x n (own l x k side ab).mine all) (sym asset-is) (
            whole,
            record {
              between = between set;
              outcome = apart t ab;
              joint = subst (λ (n : List ℕ). EndsWith real past lines n (apart t ab)) e.joint.named (ends-with s.key orders past lines e.joint.fixed (apart t g.amounts) p.joint j-sits y (apart t ab) alone);
              a = ab.0;
              c = ab.1;
              apart = (pays ab sum).0;
              side = (own l x k side ab).side;
            },
          )))

      abbrev LedgerFits : Option (List AssetOutcome) → Type 0
      LedgerFits target =
          (top : StateParts) (o : List AssetOutcome) → (ledger p).top ≡ Some top → target ≡ Some o → is_valid o ≡ true
          → IsOutcome o × ((o ≡ top.outcome) ⊎ IsTarget real me orders past lines on.fixed top.outcome o)

      pub up : is_final (mode real (real.named on.fixed) past) ≡ false → p.closing ≡ false → middles.are_set_up p ≡ true → middles.is_settled_up p ≡ false → LedgerFits (up_in k (ledger p))
      up going stays set unsettled top o is aim valid =
          up-fits s h journal fair past front at (parts.Middle v) there l (of_middle child ledger p) lends is-child on ledgers going top is stays young (own l x k side g.amounts).mine
          (has-of set g.amounts (k.a + k.b) e.joint.sum (sym total-is) y (keeps.opens y.last.state y.own_is young))
          ((own l x k side g.amounts).sets k refl refl (sym (ap (λ (z : ℕ × ℕ). z.0) child-is.amounts)) (sym (ap (λ (z : ℕ × ℕ). z.1) child-is.amounts))) o aim valid
        where
          young : has_signed_past p.joint ≡ false
          young =
              or-left (has_signed_past p.joint) (settled_on (up_in p.child_a p.ledger_a) p.ledger_a && settled_on (up_in p.child_b p.ledger_b) p.ledger_b) unsettled

          y : Ends s.key orders past lines e.joint.fixed p.joint
          y = joint-ends set

      pub down : is_final (mode real (real.named on.fixed) past) ≡ false → p.closing ≡ true → middles.is_settled_back p ≡ true → LedgerFits (down_in k (ledger p) (middles.found p))
      down going closing settled top o is aim valid =
          down-fits s h journal fair past front at (parts.Middle v) there l (of_middle child ledger p) lends is-child on ledgers going top is ab parted.2 (sum ∙ sym total-is) (own l x k side ab).mine
          (has-of set ab (ab.0 + ab.1) sum (sym sum) y parted.1) ((own l x k side ab).sets (record k { a = ab.0; b = ab.1 }) refl refl refl refl) o aim valid
        where
          set : middles.are_set_up p ≡ true
          set = keeps.set_up (inl closing)

          y : Ends s.key orders past lines e.joint.fixed p.joint
          y = joint-ends set

          parted : (split : IsSplit t y.last.state.outcome) × (outcomes_of y.last.state ≡ apart t split.amounts ∷ []) × (middles.found p ≡ Some split.amounts)
          parted = keeps.parted closing settled y.last.state y.own_is

          ab : ℕ × ℕ
          ab = parted.0.amounts

          sum : ab.0 + ab.1 ≡ v.total
          sum = parted.0.sum ∙ e.joint.total

      -- the guarantor there reaches the total
      full : is_among l (ledgers_of (parts.Middle v)) ≡ true → has_signed_past p.joint ≡ true
          → ((p.closing ≡ false) × (settled_on (middles.target_together p) p.joint ≡ false)) ⊎ ((p.closing ≡ true) × ((p.closing && middles.is_settled_back p) ≡ false))
          → (promise : List AssetOutcome) → EndsWith real past lines x promise → InFull real past lines l x t.asset v.total
      full on-it late why promise ending =
          subst (λ (n : List ℕ). InFull real past lines l n t.asset v.total) child-is.named
          (subst (λ (n : ℕ). InFull real past lines l k.name n v.total) asset-is
          (subst (λ (n : ℕ). InFull real past lines l k.name k.asset n) total-is
          (in-full s h journal fair past front at (parts.Middle v) there l on-it live ledgers stands (of_middle child ledger p) lends k.first k.second on late why promise
          (subst (λ (n : List ℕ). EndsWith real past lines n promise) (sym child-is.named) ending))))

    -- ---- the joint channel

    -- no part stands on its channel
    lends-nothing : LendsNothing real orders past lines t.asset v.channel
    lends-nothing taken =
        let w = plans_are_whole s h journal past front fair.nodes at.front_is in
        middle-bare (plan orders lines) w.whole v in-plan (items_in t.asset (outcome_in (counting real past lines) taken v.channel))

    j-base : (top : StateParts) → p.joint.top ≡ Some top → Based s.key orders past lines e.joint.fixed (apart t g.amounts) p.joint j-sits top
    j-base top is = based s.key orders past lines e.joint.fixed (apart t g.amounts) p.joint j-sits (no-payments e.joint.fixed e.joint.app) top is

    may : middles.are_set_up p ≡ true → has_signed_past p.joint ≡ true
        → ((p.closing ≡ false) × (settled_on (middles.target_together p) p.joint ≡ false)) ⊎ ((p.closing ≡ true) × ((p.closing && middles.is_settled_back p) ≡ false))
        → (ab : ℕ × ℕ) → ab.0 + ab.1 ≡ v.total → MayJoin real me past lines (parts.Middle v) (real.named e.joint.fixed) t.asset (items_in t.asset (apart t ab)) (items_in t.asset (together t))
    may set late why ab sum = (
      sym e.joint.named,
      record {
        between = between set;
        a = ab.0;
        c = ab.1;
        apart = (pays ab sum).0;
        together = (pays ab sum).1;
        full_a = full in-a at-a v.ledger_a v.guarantor_a t.first t.middle lends-a child-a e.child_a e.on_a side-a on-a late why (guarantee t v.joint t.first) (a-ends set);
        full_b = full in-b at-b v.ledger_b v.guarantor_b t.middle t.second lends-b child-b e.child_b e.on_b side-b on-b late why (guarantee t v.joint t.second) (b-ends set);
      },
    )

    abbrev JointFits : Option (List AssetOutcome) → Type 0
    JointFits target =
        (top : StateParts) (o : List AssetOutcome) → p.joint.top ≡ Some top → target ≡ Some o → is_valid o ≡ true
        → IsOutcome o × ((o ≡ top.outcome) ⊎ IsTarget real me orders past lines e.joint.fixed top.outcome o)

    pub join-fits : p.closing ≡ false → middles.are_set_up p ≡ true → holds 5 p.joint ≡ true → settled_on (middles.target_together p) p.joint ≡ false → JointFits (middles.target_together p)
    join-fits stays set five unsettled top o is aim valid =
        subst (λ (y : List AssetOutcome). IsOutcome y × ((y ≡ top.outcome) ⊎ IsTarget real me orders past lines e.joint.fixed top.outcome y)) o-is
        (by (keeps.joins stays b.last top.outcome b.own_is b.among))
      where
        o-is : together t ≡ o
        o-is = some-eq (together t) o aim

        b : Based s.key orders past lines e.joint.fixed (apart t g.amounts) p.joint j-sits top
        b = j-base top is

        late : has_signed_past p.joint ≡ true
        late = held-past s h journal fair past front at e.joint.fixed (apart t g.amounts) p.joint e.joint.seat 5 (let n : people e.joint.fixed ≡ 3 = three in omega arith) five

        target : IsTarget real me orders past lines e.joint.fixed (apart t g.amounts) (together t)
        target = record {
          asset = t.asset;
          moves = wanted.together (parts.Middle v) in-plan lends-nothing (may set late (inl (stays, unsettled)) g.amounts e.joint.sum);
          list = together-list t ∙ sym (apart-list t g.amounts);
          others = λ a other. same-others t g.amounts a other;
        }

        by : (top.outcome ≡ apart t g.amounts) ⊎ (top.outcome ≡ together t) → IsOutcome (together t) × ((together t ≡ top.outcome) ⊎ IsTarget real me orders past lines e.joint.fixed top.outcome (together t))
        by (inl same) = (
          together-outcome t (are-terms (apart-asset t g.amounts (subst IsOutcome same b.valid))) (subst (λ (y : List AssetOutcome). is_valid y ≡ true) (sym o-is) valid),
          inr (subst (λ (y : List AssetOutcome). IsTarget real me orders past lines e.joint.fixed y (together t)) (sym same) target),
        )
        by (inr same) = (subst IsOutcome same b.valid, inl (sym same))

    pub part-fits : p.closing ≡ true → middles.is_settled_back p ≡ false → (ab : ℕ × ℕ) → middles.found p ≡ Some ab → JointFits (Some (apart t ab))
    part-fits closing unsettled ab now top o is aim valid =
        subst (λ (y : List AssetOutcome). IsOutcome y × ((y ≡ top.outcome) ⊎ IsTarget real me orders past lines e.joint.fixed top.outcome y)) o-is
        (by (keeps.parts closing b.last top.outcome b.own_is b.among))
      where
        o-is : apart t ab ≡ o
        o-is = some-eq (apart t ab) o aim

        b : Based s.key orders past lines e.joint.fixed (apart t g.amounts) p.joint j-sits top
        b = j-base top is

        sum : ab.0 + ab.1 ≡ t.total
        sum = found-sum t p.joint.top ab now

        target : IsTarget real me orders past lines e.joint.fixed (together t) (apart t ab)
        target = record {
          asset = t.asset;
          moves = wanted.apart (parts.Middle v) in-plan lends-nothing
              (may (keeps.set_up (inl closing)) (keeps.past (inl closing)) (inr (closing, ap (λ (z : Bool). p.closing && z) unsettled ∙ ap (λ (z : Bool). z && false) closing)) ab (sum ∙ e.joint.total));
          list = apart-list t ab ∙ sym (together-list t);
          others = λ a other. sym (same-others t ab a other);
        }

        by : (top.outcome ≡ together t) ⊎ IsSplit t top.outcome → IsOutcome (apart t ab) × ((apart t ab ≡ top.outcome) ⊎ IsTarget real me orders past lines e.joint.fixed top.outcome (apart t ab))
        by (inl same) = (
          apart-outcome t (are-terms (together-asset t (subst IsOutcome same b.valid))) ab sum (subst (λ (y : List AssetOutcome). is_valid y ≡ true) (sym o-is) valid),
          inr (subst (λ (y : List AssetOutcome). IsTarget real me orders past lines e.joint.fixed y (apart t ab)) (sym same) target),
        )
        by (inr split) =
            let same : apart t ab ≡ top.outcome =
            ap (apart t) (some-eq ab split.amounts (sym now ∙ (ap (apart_at t) is ∙ found-apart t top split.amounts b.valid split.is split.sum))) ∙ sym split.is in
            (subst IsOutcome (sym same) b.valid, inl same)

  -- ---- what it wants

  module _ (f : FixedParts) (state : StateParts) (own-f : IsOwn real lines f) (valid : IsState state) (going : is_final (mode real (real.named f) past) ≡ false)
      (row : rows.wanted_in (real.named f) (middle_rows p) ≡ Some state) where
    abbrev c : List ℕ
    c = real.named f

    -- in a guarantor
    guarantor-wants : (end n : List ℕ) (x : Seat) (is : GuarantorIs s.key past lines v t end n x) → is_among n (joined_of (parts.Middle v)) ≡ true → OpensWith is.fixed (guarantee t v.joint end) (lines_of s.key journal)
        → bytes_eq x.name c ≡ true → repeats 0 2 x ≡ Some state → Wants real me orders past lines f state
    guarantor-wants end n x is among opens same w =
        wants-repeated s h journal fair past front at f state own-f valid going is.fixed (guarantee t v.joint end) x is.seat same opens 0 2
        (let n : 1 ≤ people is.fixed = several s.key past lines is.fixed (guarantee t v.joint end) x is.seat in omega arith) w

    -- on a ledger
    ledger-wants : (l first second : List ℕ) (x : Seat) (on : LedgerIs s.key past lines first second l x) → bytes_eq x.name c ≡ true → (target : Option (List AssetOutcome)) → toward target x ≡ Some state
        → (is_final (mode real (real.named on.fixed) past) ≡ false → (top : StateParts) (o : List AssetOutcome) → x.top ≡ Some top → target ≡ Some o → is_valid o ≡ true
        → IsOutcome o × ((o ≡ top.outcome) ⊎ IsTarget real me orders past lines on.fixed top.outcome o))
        → Wants real me orders past lines f state
    ledger-wants l first second x on same target is fits =
        wants-move s h journal fair past front at f state own-f valid going on.fixed x.opening x on.seat same (no-payments on.fixed on.app) target is
        (fits (going-there s h journal fair past front at f state own-f valid going on.fixed x.opening x on.seat same))

    wants-well : Wants real me orders past lines f state
    wants-well = by (middle-wants p c state row)
      where
        back : p.closing ≡ true → middles.is_settled_back p ≡ false → bytes_eq p.joint.name c ≡ true → (o : Option (ℕ × ℕ)) → middles.found p ≡ o → back_to p o ≡ Some state
            → Wants real me orders past lines f state
        back closing unsettled same None now is =
            wants-pass s h journal fair past front at f state own-f valid going e.joint.fixed (apart t g.amounts) p.joint e.joint.seat same (together t) is
        back closing unsettled same (Some ab) now is =
            wants-move s h journal fair past front at f state own-f valid going e.joint.fixed (apart t g.amounts) p.joint e.joint.seat same (no-payments e.joint.fixed e.joint.app) (Some (apart t ab)) is
            (part-fits c state row closing unsettled ab now)

        by : MiddleWants p c state → Wants real me orders past lines f state
        by (guarantees_a running unset same is) = guarantor-wants t.first v.guarantor_a p.guarantor_a e.guarantor_a a-among opened.guarantees_a same is
        by (guarantees_b running unset same is) = guarantor-wants t.second v.guarantor_b p.guarantor_b e.guarantor_b b-among opened.guarantees_b same is
        by (splits from until few stays early risen same is) =
            wants-repeated s h journal fair past front at f state own-f valid going e.joint.fixed (apart t g.amounts) p.joint e.joint.seat same opened.splits from until
            (let n : people e.joint.fixed ≡ 3 = three in omega arith) is
        by (ups_a stays set unsettled same is) =
            ledger-wants v.ledger_a p.child_a.first p.child_a.second p.ledger_a e.on_a same (up_in p.child_a p.ledger_a) is
            (λ open-l. up c state row in-a at-a v.ledger_a v.guarantor_a t.first t.middle lends-a child-a e.child_a e.on_a side-a open-l stays set unsettled)
        by (ups_b stays set unsettled same is) =
            ledger-wants v.ledger_b p.child_b.first p.child_b.second p.ledger_b e.on_b same (up_in p.child_b p.ledger_b) is
            (λ open-l. up c state row in-b at-b v.ledger_b v.guarantor_b t.middle t.second lends-b child-b e.child_b e.on_b side-b open-l stays set unsettled)
        by (joins stays set settled five unsettled same is) =
            wants-move s h journal fair past front at f state own-f valid going e.joint.fixed (apart t g.amounts) p.joint e.joint.seat same (no-payments e.joint.fixed e.joint.app) (middles.target_together p) is
            (join-fits c state row stays set five unsettled)
        by (parts_back closing unsettled same is) = back closing unsettled same (middles.found p) refl is
        by (downs_a closing settled not-down same is) =
            ledger-wants v.ledger_a p.child_a.first p.child_a.second p.ledger_a e.on_a same (down_in p.child_a p.ledger_a (middles.found p)) is
            (λ open-l. down c state row in-a at-a v.ledger_a v.guarantor_a t.first t.middle lends-a child-a e.child_a e.on_a side-a open-l closing settled)
        by (downs_b closing settled not-down same is) =
            ledger-wants v.ledger_b p.child_b.first p.child_b.second p.ledger_b e.on_b same (down_in p.child_b p.ledger_b (middles.found p)) is
            (λ open-l. down c state row in-b at-b v.ledger_b v.guarantor_b t.middle t.second lends-b child-b e.child_b e.on_b side-b open-l closing settled)

-- ---- the law

pub middles_want_fairly : MiddlesWantFairly
middles_want_fairly s h journal v fair past front at f state own valid going live asked wanted =
    let p = parts_are_known s h journal past front fair.nodes at.front_is (parts.Middle v) there in
    known-as p.goal p.found p.is
  where
    m : Mind
    m = mind_at real s.key past front

    there : In (parts.Middle v) m.parts
    there = asked-there (facts_of m) (real.named f) (parts.Middle v) asked

    known-as : (g : Goal) → goal_in (facts_of m) v.channel ≡ Some g → MiddleIs s.key past (lines_of s.key front) (facts_of m) v g
        → Wants real (name_of_person s.key) (orders_of real s.key journal) past (lines_of s.key front) f state
    known-as g found e =
        wants-well s h journal fair past front at v g found e there (middles_keep s h journal past front fair at v g there e) (known_ledgers_keep s h journal fair past front at)
        (ledgers_stand_at_places s h journal fair past front at) live f state own valid going
        (sym (ap (wanted_of_middle (real.named f)) e.is) ∙ (sym (ap (wanted_of (facts_of m) (real.named f)) asked) ∙ wanted))
