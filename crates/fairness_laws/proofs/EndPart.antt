-- What the end of a virtual channel wants keeps the share.
use Rattle.std.proofs.Common.{◌≡◌, ℕ, ◌+◌, ◌-◌, ◌*◌, ◌<◌, ◌≤◌, ◌^◌, Bool, true, false, cond, ◌&&◌, List, [], ◌∷◌, ◌⊎◌, inl, inr, length, refl, sym, ◌∙◌, ap, subst, arith}
use Rattle.std.specs.Prelude.{◌==◌, Option, Some, None}
use Rattle.std.specs.Option.{option_map}
use Rattle.std.specs.Str.{bytes_eq}
use Rattle.channel_values.specs.Outcomes.{IsName, IsOutcome}
use Rattle.channel_values.specs.Parts.{FixedParts, StateParts, IsState}
use Rattle.channel_values.specs.declared.value.AssetOutcome.{AssetOutcome}
use Rattle.channel_values.specs.declared.value.Dest.TheVariants.{Person, Channel}
use Rattle.channel_values.specs.declared.value.Item.{Item}
use Rattle.channel_safety.proofs.Tests.{some-eq, none-eq, and-left, and-right, clash}
use Rattle.call_history.specs.Flows.{is_among}
use Rattle.call_history.specs.History.{mode}
use Rattle.call_history.specs.declared.entry.Entry.{Entry}
use Rattle.channel_values.specs.Amounts.{amt, has}
use Rattle.channel_values.specs.Rules.{people}
use Rattle.channel_values.specs.Digests.{name_of_person}
use Rattle.call_history.specs.Mode.{is_final}
use Rattle.funding_plans.specs.Known.{FactsOf}
use Rattle.funding_plans.specs.Parts.{own_ledger, own_guarantor, joined_of, ledgers_of, closed}
use Rattle.funding_plans.specs.Shapes.{items_in}
use Rattle.funding_plans.specs.declared.plan.Goal.{Goal}
use Rattle.funding_plans.specs.declared.plan.Part.TheVariants as parts
use Rattle.funding_plans.specs.declared.plan.Virtual.{Virtual}
use Rattle.channel_safety.specs.Journals.{In, Line}
use Rattle.channel_node.specs.Minds.{Mind, facts_of}
use Rattle.channel_node.specs.Openings.{shared}
use Rattle.channel_node.specs.Places.{Told, lines_of, mind_at}
use Rattle.channel_node.specs.Playing.{Signing}
use Rattle.channel_node.specs.Refusing.{is_open, stands_in, not_open}
use Rattle.node_guarantees.specs.Orders.{orders_of}
use Rattle.stage_tables.specs.Stages.{stages}
use Rattle.funding_plans.specs.Limits.{is_valid}
use Rattle.funding_plans.specs.Outcomes.{amounts_in}
use Rattle.funding_plans.specs.Targets.{apart, together, guarantee}
use Rattle.funding_plans.specs.declared.child.Child.{Child}
use Rattle.funding_plans.specs.declared.terms.Terms.{Terms}
use Rattle.stage_tables.specs.Asked.{wanted_of}
use Rattle.share_laws.specs.Funded.{up_to}
use Rattle.share_laws.specs.Places.{Order, plan, outcomes_of}
use Rattle.share_laws.proofs.Fits.{together_fits}
use Rattle.share_laws.specs.Fairly.{Wants}
use Rattle.share_laws.specs.Moves.{IsApart, IsTogether}
use Rattle.share_laws.specs.Settled.{EndsWith, ChildHas, InFull, Has, MayJoin}
use Rattle.share_laws.specs.Signatures.{IsOwn}
use Rattle.share_laws.specs.Wanted.{IsTarget, LendsNothing}
use Rattle.share_laws.specs.Wanted as wanted
use Rattle.funding_plans.specs.Gathered.{goal_in}
use Rattle.funding_plans.specs.Rows as rows
use Rattle.funding_plans.specs.Seats.{Seat, holds, is_set_up, has_signed_past, settled_on, amounts_after}
use Rattle.support_rules.specs.Real.{real}
use Rattle.virtual_channel.specs.Ends as ends
use Rattle.virtual_channel.specs.Ends.{End, end_rows}
use Rattle.virtual_channel.specs.Stages.{stage_of_end, wanted_of_end}
use Rattle.fairness_laws.proofs.Finding.{asked-there, flips, or-left}
use Rattle.share_laws.proofs.Alone.{ends_as_it_can}
use Rattle.fairness_laws.proofs.Plan.Names.{in-among}
use Rattle.fairness_laws.proofs.Seat.Past.{several, two-people}
use Rattle.fairness_laws.proofs.Apps.{no-payments}
use Rattle.fairness_laws.proofs.Seat.Held.{held-past}
use Rattle.fairness_laws.specs.JointKeeping.{EndKeeps, IsOver}
use Rattle.fairness_laws.specs.LedgerLaws.{LedgersKeep, LedgersStand}
use Rattle.fairness_laws.specs.LedgerLending.{of_end, lent}
use Rattle.fairness_laws.specs.OpeningChannels.{SignsOnly}
use Rattle.fairness_laws.specs.PaymentLaws.{At, IsShared, SharesOver}
use Rattle.fairness_laws.specs.PlanParts.{EndIs}
use Rattle.fairness_laws.specs.PlanSeats.{SeatIs}
use Rattle.fairness_laws.specs.PlanSettings.{IsFair}
use Rattle.fairness_laws.specs.SeatSitting.{Sits}
use Rattle.fairness_laws.specs.FairLaws.{EndsWantFairly}
use Rattle.fairness_laws.proofs.Joint.EndsKeep.{ends_keep}
use Rattle.fairness_laws.proofs.Joint.Outcomes.{terms-of, together-asset, apart-asset}
use Rattle.fairness_laws.proofs.Joint.Rows.{EndWants, guarantees, splits, opens, ups, joins, finals, parts as parts_back, downs, end-wants}
use Rattle.fairness_laws.proofs.Joint.Terms.{three-people}
use Rattle.fairness_laws.proofs.Joint.Pays.{apart-items, together-items, apart-list, together-list, same-others, AreTerms, apart-outcome, together-outcome, Own, own-of}
use Rattle.fairness_laws.proofs.NamesAreNames.{names_are_names}
use Rattle.fairness_laws.proofs.Ledger.Fits.{up-fits, down-fits}
use Rattle.fairness_laws.proofs.Ledger.Lent.{LendsAt, of-an-end, end-there}
use Rattle.fairness_laws.proofs.Ledger.Full.{in-full}
use Rattle.fairness_laws.proofs.Ledger.Standing.{known_ledgers_keep}
use Rattle.fairness_laws.proofs.Ledger.Upright.{ledgers_stand_at_places}
use Rattle.fairness_laws.proofs.Live.{wants-early, below-not, live-open}
use Rattle.fairness_laws.proofs.OpenedParts.{SignsFirst}
use Rattle.fairness_laws.proofs.Ledger.Ended.{ends_share_over}
use Rattle.fairness_laws.proofs.Plan.Parts.{parts_are_known}
use Rattle.fairness_laws.proofs.Seat.Wants.{going-there, wants-repeated, wants-final, wants-move}
use Rattle.fairness_laws.proofs.Seat.Ends.{Ends, ends-top, ends-holds, ends-with, first-round}
use Rattle.fairness_laws.proofs.Shared.{two, shared-items, shared-amounts}
use Rattle.fairness_laws.proofs.Signing.{sits, opens-not_final, planned-there}
use Rattle.fairness_laws.proofs.OpenedVirtuals.{EndOpened, end-opened}
use Rattle.fairness_laws.proofs.Seat.Based.{Based, based, young-turn, promised}

module _ (s : Signing) (h : List Entry) (journal : List Told) (fair : IsFair s h journal) (past : List Entry) (front : List Told) (at : At s h journal past front)
    (v : Virtual) (g : Goal) (found : goal_in (facts_of (mind_at real s.key past front)) v.channel ≡ Some g) (e : EndIs s.key past (lines_of s.key front) (facts_of (mind_at real s.key past front)) v g) (there : In (parts.End v) (mind_at real s.key past front).parts)
    (keeps : EndKeeps g e.end) (ledgers : LedgersKeep (facts_of (mind_at real s.key past front))) (stands : LedgersStand (facts_of (mind_at real s.key past front)))
    (live : not_open stages (facts_of (mind_at real s.key past front)) ≡ None) where
  abbrev facts : FactsOf
  facts = facts_of (mind_at real s.key past front)

  abbrev lines : List Line
  lines = lines_of s.key front

  abbrev orders : ℕ → Order
  orders = orders_of real s.key journal

  abbrev me : List ℕ
  me = name_of_person s.key

  abbrev p : End
  p = e.end

  abbrev t : Terms
  t = p.terms

  abbrev k : Child
  k = p.child

  in-plan : In (parts.End v) (plan orders lines)
  in-plan = planned-there s h journal fair past front at (parts.End v) there

  pub opened : EndOpened s h journal fair past front at v g e
  opened = end-opened s h journal fair past front at v g there e

  shares : p.closing ≡ true → p.channel.all_final ≡ true → SharesOver e.fixed v.asset v.total p.channel
  shares closing ended = ends_share_over s h journal past front fair at v g there found e closing ended

  sit : (f : FixedParts) (opening : List AssetOutcome) (c : Seat) → SeatIs s.key past lines f opening c → is_final (mode real (real.named f) past) ≡ false → Sits s.key orders past lines f opening c
  sit f opening c seat going = sits s h journal fair past front at f opening c seat going

  -- its channels are open where it wants something
  pub stands-open : (c : List ℕ) (state : StateParts) → rows.wanted_in c (end_rows p) ≡ Some state → (n : List ℕ) → is_among n (joined_of (parts.End v)) ≡ true → is_open (stands_in facts n) ≡ true
  stands-open c state w n among = live-open facts (parts.End v) n live there early among
    where
      early : (stages.stage facts (parts.End v) == closed (parts.End v)) ≡ false
      early = ap (λ (x : Option End). stage_of_end x == 9) e.is ∙ below-not (rows.stage_in (end_rows p)) 9 (wants-early c (end_rows p) state w)

  channel-open : (c : List ℕ) (state : StateParts) → rows.wanted_in c (end_rows p) ≡ Some state → (n : List ℕ) → is_among n (joined_of (parts.End v)) ≡ true → is_final (mode real n past) ≡ false
  channel-open c state w n among =
      opens-not_final s h journal fair past front at n (stands-open c state w n among)

  pub guarantor-among : is_among (own_guarantor v) (joined_of (parts.End v)) ≡ true
  guarantor-among = in-among (own_guarantor v) (joined_of (parts.End v)) (inl refl)

  pub joint-among : is_among v.joint (joined_of (parts.End v)) ≡ true
  joint-among = in-among v.joint (joined_of (parts.End v)) (inr (inl refl))

  pub channel-among : is_among v.channel (joined_of (parts.End v)) ≡ true
  channel-among = in-among v.channel (joined_of (parts.End v)) (inr (inr (inl refl)))

  pub ours : lent facts (own_ledger v) (parts.End v) ≡ Some (of_end p)
  ours = end-there s past front v g e

  lends-there : LendsAt s past front (own_ledger v) (parts.End v) (of_end p)
  lends-there = of-an-end s past front v g found e

  pub on-ledger : is_among (own_ledger v) (ledgers_of (parts.End v)) ≡ true
  on-ledger = in-among (own_ledger v) (ledgers_of (parts.End v)) (inl refl)

  -- ---- which end it is

  -- on its ledger and in the joint channel
  side : ((me ≡ k.first) × (me ≡ t.first)) ⊎ ((me ≡ k.second) × (me ≡ t.second))
  side = by v.side_b e.me e.child.one e.child.other
    where
      by : (b : Bool) → cond b t.second t.first ≡ me → k.first ≡ cond b t.middle t.first → k.second ≡ cond b t.second t.middle → ((me ≡ k.first) × (me ≡ t.first)) ⊎ ((me ≡ k.second) × (me ≡ t.second))
      by false m first second = inl (sym m ∙ sym first, sym m)
      by true m first second = inr (sym m ∙ sym second, sym m)

  end-is : (me ≡ t.first) ⊎ (me ≡ t.second)
  end-is = by side
    where
      by : (((me ≡ k.first) × (me ≡ t.first)) ⊎ ((me ≡ k.second) × (me ≡ t.second))) → (me ≡ t.first) ⊎ (me ≡ t.second)
      by (inl z) = inl z.1
      by (inr z) = inr z.1

  own : (ab : ℕ × ℕ) → Own me t ab
  own ab = own-of me t ab e.joint.ends end-is

  not-middle : bytes_eq t.middle me ≡ false
  not-middle = by end-is
    where
      by : (me ≡ t.first) ⊎ (me ≡ t.second) → bytes_eq t.middle me ≡ false
      by (inl z) = flips me t.middle (subst (λ (n : List ℕ). bytes_eq n t.middle ≡ false) (sym z) e.joint.first)
      by (inr z) = flips me t.middle (subst (λ (n : List ℕ). bytes_eq n t.middle ≡ false) (sym z) e.joint.second)

  total-is : k.a + k.b ≡ v.total
  total-is = sym (ap (λ (x : ℕ × ℕ). x.0 + x.1) e.child.amounts) ∙ e.joint.sum

  asset-is : k.asset ≡ t.asset
  asset-is = e.child.asset ∙ sym e.joint.asset

  are-terms : t.asset < 2 ^ 32 → AreTerms t
  are-terms asset = terms-of e.joint.fixed t e.joint.people (subst IsName (e.named ∙ sym e.joint.channel) (names_are_names e.fixed)) (subst (λ (n : ℕ). n < 2 ^ 64) (sym e.joint.total) (small v.total e.joint.small)) asset
    where
      small : (m : ℕ) → 2 * m ≤ 2 ^ 64 - 1 → m < 2 ^ 64
      small m l = omega arith

  pub three : people e.joint.fixed ≡ 3
  three = three-people s.key past lines v g t p.joint e.joint

  pub many : people e.fixed ≡ 2
  many = two-people e.fixed t.first t.second e.people

  -- ---- what the payment channel ends with

  -- the joint channel's target once Close was commanded
  record Back (o : List AssetOutcome) : Type 0 where
    amounts : ℕ × ℕ
    now : ends.ends_now p ≡ Some amounts
    is : apart t amounts ≡ o

  back : (o : List AssetOutcome) → ends.target_back p ≡ Some o → Back o
  back o aim = by (ends.ends_now p) refl aim
    where
      by : (x : Option (ℕ × ℕ)) → ends.ends_now p ≡ x → option_map (apart t) x ≡ Some o → Back o
      by None is a = absurd (none-eq o a)
      by (Some ab) is a = record { amounts = ab; now = is; is = some-eq (apart t ab) o a }

  -- what the channel shares between the ends
  items-shared : (ab : ℕ × ℕ) → items_in t.asset (shared e.fixed v.asset ab) ≡ two t.first t.second ab.0 ab.1
  items-shared ab = ap (λ (n : ℕ). items_in n (shared e.fixed v.asset ab)) e.joint.asset ∙ shared-items e.fixed v.asset t.first t.second e.people ab

  -- the amounts for the ends in its latest state make up the total
  record Shared (ab : ℕ × ℕ) : Type 0 where
    top : StateParts
    top_is : p.channel.top ≡ Some top
    is : top.outcome ≡ shared e.fixed v.asset ab
    sum : ab.0 + ab.1 ≡ v.total

  shared-now : p.closing ≡ true → p.channel.all_final ≡ true → (ab : ℕ × ℕ) → ends.ends_now p ≡ Some ab → Shared ab
  shared-now closing ended ab now = by p.channel.top refl now
    where
      by : (c : Option StateParts) → p.channel.top ≡ c → amounts_after t.asset t.first t.second c ≡ Some ab → Shared ab
      by None is a = absurd (none-eq ab a)
      by (Some top) is a = at-top ((shares closing ended).top top is)
        where
          at-top : IsShared e.fixed v.asset v.total top.outcome → Shared ab
          at-top sh =
              let same : sh.amounts ≡ ab =
              sym (ap (amounts_in t.asset t.first t.second) sh.is
              ∙ (ap (λ (n : ℕ). amounts_in n t.first t.second (shared e.fixed v.asset sh.amounts)) e.joint.asset ∙ shared-amounts e.fixed v.asset t.first t.second e.people sh.amounts e.joint.ends))
              ∙ some-eq (amounts_in t.asset t.first t.second top.outcome) ab a in
              record { top = top; top_is = is; is = sh.is ∙ ap (shared e.fixed v.asset) same; sum = subst (λ (x : ℕ × ℕ). x.0 + x.1 ≡ v.total) same sh.sum }

  -- what it ends with alone
  record ChannelEnds (ab : ℕ × ℕ) : Type 0 where
    outcome : List AssetOutcome
    ending : EndsWith real past lines v.channel outcome
    is : outcome ≡ shared e.fixed v.asset ab

  apart-fits : (ab : ℕ × ℕ) → ab.0 + ab.1 ≡ v.total → IsApart me v.channel (own ab).mine (items_in t.asset (apart t ab))
  apart-fits ab sum =
      subst (λ (n : List ℕ). IsApart me n (own ab).mine (items_in t.asset (apart t ab))) e.joint.channel
      (subst (IsApart me t.channel (own ab).mine) (sym (apart-items t ab (sum ∙ sym e.joint.total))) (own ab).apart)

  channel-has : (ab : ℕ × ℕ) → ab.0 + ab.1 ≡ v.total → ChannelEnds ab → ChildHas real me past lines v.channel t.asset (own ab).mine v.total
  channel-has ab sum c = record {
    outcome = c.outcome;
    ends = c.ending;
    own = ap (λ (xs : List Item). amt xs (Person me)) items ∙ (own ab).have;
    within = subst (λ (xs : List Item). up_to xs (Person me) ≤ v.total) (sym items) (subst (λ (n : ℕ). up_to (two t.first t.second ab.0 ab.1) (Person me) ≤ n) sum (own ab).within);
  }
    where
      items : items_in t.asset c.outcome ≡ two t.first t.second ab.0 ab.1
      items = ap (items_in t.asset) c.is ∙ items-shared ab

  -- ---- where it wants a state

  module _ (c : List ℕ) (state : StateParts) (w : rows.wanted_in c (end_rows p) ≡ Some state) where
    g-sits : Sits s.key orders past lines e.guarantor.fixed (guarantee t v.joint me) p.guarantor
    g-sits =
        sit e.guarantor.fixed (guarantee t v.joint me) p.guarantor e.guarantor.seat
        (subst (λ (n : List ℕ). is_final (mode real n past) ≡ false) (sym e.guarantor.named) (channel-open c state w (own_guarantor v) guarantor-among))

    j-sits : Sits s.key orders past lines e.joint.fixed (apart t g.amounts) p.joint
    j-sits = sit e.joint.fixed (apart t g.amounts) p.joint e.joint.seat (subst (λ (n : List ℕ). is_final (mode real n past) ≡ false) (sym e.joint.named) (channel-open c state w v.joint joint-among))

    x-sits : Sits s.key orders past lines e.fixed g.opening p.channel
    x-sits = sit e.fixed g.opening p.channel e.seat (subst (λ (n : List ℕ). is_final (mode real n past) ≡ false) (sym e.named) (channel-open c state w v.channel channel-among))

    -- the guarantor ends with its promise
    promise : ends.are_set_up p ≡ true → EndsWith real past lines (own_guarantor v) (guarantee t v.joint me)
    promise set =
        let x = ends-holds s.key orders past lines e.guarantor.fixed (guarantee t v.joint me) p.guarantor g-sits (length p.guarantor.people - 1)
        (and-left (is_set_up p.guarantor) (is_set_up p.joint) (and-left (is_set_up p.guarantor && is_set_up p.joint) (is_set_up p.channel) set)) in
        subst (λ (n : List ℕ). EndsWith real past lines n (guarantee t v.joint me)) e.guarantor.named
        (ends-with s.key orders past lines e.guarantor.fixed (guarantee t v.joint me) p.guarantor g-sits x (guarantee t v.joint me)
        (promised s.key orders past lines e.guarantor.fixed (guarantee t v.joint me) p.guarantor g-sits x (guarantee t v.joint me) at.place.newer
        (subst (SignsOnly e.guarantor.fixed (guarantee t v.joint me)) at.place.lines opened.signs)))

    joint-ends : ends.are_set_up p ≡ true → Ends s.key orders past lines e.joint.fixed p.joint
    joint-ends set =
        ends-holds s.key orders past lines e.joint.fixed (apart t g.amounts) p.joint j-sits (length p.joint.people - 1)
        (and-right (is_set_up p.guarantor) (is_set_up p.joint) (and-left (is_set_up p.guarantor && is_set_up p.joint) (is_set_up p.channel) set))

    -- what it has of what its ledger sets aside, where the joint channel ends with these amounts
    has-of : ends.are_set_up p ≡ true → (ab : ℕ × ℕ) (all : ℕ) → ab.0 + ab.1 ≡ v.total → v.total ≡ all → (x : Ends s.key orders past lines e.joint.fixed p.joint) → outcomes_of x.last.state ≡ apart t ab ∷ []
        → Has real me past lines (parts.End v) (real.named e.on.fixed) k.name k.asset (own ab).mine all
    has-of set ab all sum whole x alone = (
      sym e.on.named,
      sym e.child.named,
      whole,
      record {
        promise = guarantee t v.joint me;
        guarantor = promise set;
        outcome = apart t ab;
        joint = subst (λ (n : List ℕ). EndsWith real past lines n (apart t ab)) e.joint.named (ends-with s.key orders past lines e.joint.fixed (apart t g.amounts) p.joint j-sits x (apart t ab) alone);
        apart = subst (λ (n : ℕ). IsApart me v.channel (own ab).mine (items_in n (apart t ab))) (sym asset-is) (apart-fits ab sum);
        within = subst (λ (n : ℕ). (own ab).mine ≤ n) sum (own ab).small;
      },
    )

    -- ---- the ledger

    abbrev LedgerFits : Option (List AssetOutcome) → Type 0
    LedgerFits target =
        (top : StateParts) (o : List AssetOutcome) → p.ledger.top ≡ Some top → target ≡ Some o → is_valid o ≡ true
        → IsOutcome o × ((o ≡ top.outcome) ⊎ IsTarget real me orders past lines e.on.fixed top.outcome o)

    pub up : is_final (mode real (real.named e.on.fixed) past) ≡ false → p.closing ≡ false → ends.are_set_up p ≡ true → ends.is_settled_up p ≡ false → LedgerFits (ends.target_up p)
    up going stays set unsettled top o is aim valid =
        up-fits s h journal fair past front at (parts.End v) there (own_ledger v) (of_end p) ours lends-there.child e.on ledgers going top is stays young (own g.amounts).mine
        (has-of set g.amounts (k.a + k.b) e.joint.sum (sym total-is) x (keeps.opens x.last.state x.own_is young))
        (λ from to u. (own g.amounts).sets k from to side (sym (ap (λ (y : ℕ × ℕ). y.0) e.child.amounts)) (sym (ap (λ (y : ℕ × ℕ). y.1) e.child.amounts)) u) o aim valid
      where
        young : has_signed_past p.joint ≡ false
        young = or-left (has_signed_past p.joint) (settled_on (ends.target_up p) p.ledger) unsettled

        x : Ends s.key orders past lines e.joint.fixed p.joint
        x = joint-ends set

    pub down : is_final (mode real (real.named e.on.fixed) past) ≡ false → p.closing ≡ true → settled_on (ends.target_back p) p.joint ≡ true → LedgerFits (ends.target_down p)
    down going closing settled top o is aim valid =
        down-fits s h journal fair past front at (parts.End v) there (own_ledger v) (of_end p) ours lends-there.child e.on ledgers going top is ab parted.0.now (sum ∙ sym total-is) (own ab).mine
        (has-of set ab (ab.0 + ab.1) sum (sym sum) x parted.1) (λ from to u. (own ab).sets (record k { a = ab.0; b = ab.1 }) from to side refl refl u) o aim valid
      where
        set : ends.are_set_up p ≡ true
        set = keeps.set_up (inl closing)

        x : Ends s.key orders past lines e.joint.fixed p.joint
        x = joint-ends set

        parted : (over : IsOver p x.last.state.outcome) × (outcomes_of x.last.state ≡ apart t over.amounts ∷ [])
        parted = keeps.parted closing settled x.last.state x.own_is

        ab : ℕ × ℕ
        ab = parted.0.amounts

        sum : ab.0 + ab.1 ≡ v.total
        sum = (shared-now closing parted.0.all_final ab parted.0.now).sum

    -- ---- the joint channel

    -- its guarantor reaches the total
    full : has_signed_past p.joint ≡ true → ((p.closing ≡ false) × (has_signed_past p.channel ≡ false)) ⊎ ((p.closing ≡ true) × ((of_end p).falls ≡ false)) → ends.are_set_up p ≡ true
        → InFull real past lines (own_ledger v) (own_guarantor v) t.asset v.total
    full up why set =
        subst (λ (n : List ℕ). InFull real past lines (own_ledger v) n t.asset v.total) e.child.named
        (subst (λ (n : ℕ). InFull real past lines (own_ledger v) k.name n v.total) asset-is
        (subst (λ (n : ℕ). InFull real past lines (own_ledger v) k.name k.asset n) total-is
        (in-full s h journal fair past front at (parts.End v) there (own_ledger v) on-ledger live ledgers stands (of_end p) ours k.first k.second e.on up why (guarantee t v.joint me)
        (subst (λ (n : List ℕ). EndsWith real past lines n (guarantee t v.joint me)) (sym e.child.named) (promise set)))))

    may : (ab : ℕ × ℕ) → ab.0 + ab.1 ≡ v.total → ChannelEnds ab → InFull real past lines (own_ledger v) (own_guarantor v) t.asset v.total
        → MayJoin real me past lines (parts.End v) (real.named e.joint.fixed) t.asset (items_in t.asset (apart t ab)) (items_in t.asset (together t))
    may ab sum has reaches = (
      sym e.joint.named,
      record {
        mine = (own ab).mine;
        apart = apart-fits ab sum;
        together = subst (λ (n : ℕ). IsTogether me v.channel n (items_in t.asset (together t))) e.joint.total
            (subst (λ (n : List ℕ). IsTogether me n t.total (items_in t.asset (together t))) e.joint.channel
            (subst (IsTogether me t.channel t.total) (sym (together-items t)) (together_fits me t.middle t.channel t.total not-middle)));
        channel = channel-has ab sum has;
        full = reaches;
      },
    )

    -- what the channel ends with sets nothing aside
    lends-nothing : (ab : ℕ × ℕ) → ChannelEnds ab → LendsNothing real orders past lines t.asset v.channel
    lends-nothing ab c taken q x i w =
        subst (λ (o : List AssetOutcome). has (items_in t.asset o) (Channel x) ≡ false) (sym (ends_as_it_can real past lines v.channel c.outcome c.ending taken).0)
        (subst (λ (xs : List Item). has xs (Channel x) ≡ false) (sym (ap (items_in t.asset) c.is ∙ items-shared ab)) refl)

    j-base : (top : StateParts) → p.joint.top ≡ Some top → Based s.key orders past lines e.joint.fixed (apart t g.amounts) p.joint j-sits top
    j-base top is = based s.key orders past lines e.joint.fixed (apart t g.amounts) p.joint j-sits (no-payments e.joint.fixed e.joint.app) top is

    -- the payment channel ends with its opening outcome
    opened-so : ends.are_set_up p ≡ true → has_signed_past p.channel ≡ false → ChannelEnds g.amounts
    opened-so set young =
        let x = ends-holds s.key orders past lines e.fixed g.opening p.channel x-sits (length p.channel.people - 1) (and-right (is_set_up p.guarantor && is_set_up p.joint) (is_set_up p.channel) set) in
        record {
          outcome = g.opening;
          ending = subst (λ (n : List ℕ). EndsWith real past lines n g.opening) e.named
              (ends-with s.key orders past lines e.fixed g.opening p.channel x-sits x g.opening
              (first-round e.fixed g.opening at.place.newer lines
              (subst (SignsFirst e.fixed g.opening) at.place.lines (end-opened s h journal fair past front at v g there e).first) x.last x.last_is
              (young-turn s.key orders past lines e.fixed g.opening p.channel x-sits x young)));
          is = e.opening;
        }

    pub join-fits : p.closing ≡ false → ends.are_set_up p ≡ true → holds 5 p.joint ≡ true → settled_on (ends.target_together p) p.joint ≡ false
        → (top : StateParts) (o : List AssetOutcome) → p.joint.top ≡ Some top → ends.target_together p ≡ Some o → is_valid o ≡ true
        → IsOutcome o × ((o ≡ top.outcome) ⊎ IsTarget real me orders past lines e.joint.fixed top.outcome o)
    join-fits stays set five unsettled top o is aim valid =
        subst (λ (y : List AssetOutcome). IsOutcome y × ((y ≡ top.outcome) ⊎ IsTarget real me orders past lines e.joint.fixed top.outcome y)) o-is
        (by (keeps.joins stays b.last top.outcome b.own_is b.among))
      where
        o-is : together t ≡ o
        o-is = some-eq (together t) o aim

        b : Based s.key orders past lines e.joint.fixed (apart t g.amounts) p.joint j-sits top
        b = j-base top is

        reads : is_valid (together t) ≡ true
        reads = subst (λ (y : List AssetOutcome). is_valid y ≡ true) (sym o-is) valid

        up : has_signed_past p.joint ≡ true
        up = held-past s h journal fair past front at e.joint.fixed (apart t g.amounts) p.joint e.joint.seat 5 (let n : people e.joint.fixed ≡ 3 = three in omega arith) five

        young : has_signed_past p.channel ≡ false
        young = go (has_signed_past p.channel) refl
          where
            go : (z : Bool) → has_signed_past p.channel ≡ z → z ≡ false
            go true signed = absurd (clash (settled_on (ends.target_together p) p.joint) (keeps.opened stays signed) unsettled)
            go false signed = refl

        target : IsTarget real me orders past lines e.joint.fixed (apart t g.amounts) (together t)
        target = record {
          asset = t.asset;
          moves = wanted.together (parts.End v) in-plan (lends-nothing g.amounts (opened-so set young)) (may g.amounts e.joint.sum (opened-so set young) (full up (inl (stays, young)) set));
          list = together-list t ∙ sym (apart-list t g.amounts);
          others = λ a other. same-others t g.amounts a other;
        }

        by : (top.outcome ≡ apart t g.amounts) ⊎ (top.outcome ≡ together t) → IsOutcome (together t) × ((together t ≡ top.outcome) ⊎ IsTarget real me orders past lines e.joint.fixed top.outcome (together t))
        by (inl same) = (
          together-outcome t (are-terms (apart-asset t g.amounts (subst IsOutcome same b.valid))) reads,
          inr (subst (λ (y : List AssetOutcome). IsTarget real me orders past lines e.joint.fixed y (together t)) (sym same) target),
        )
        by (inr same) = (subst IsOutcome same b.valid, inl (sym same))

    pub part-fits : p.closing ≡ true → p.channel.all_final ≡ true → settled_on (ends.target_back p) p.joint ≡ false
        → (top : StateParts) (o : List AssetOutcome) → p.joint.top ≡ Some top → ends.target_back p ≡ Some o → is_valid o ≡ true
        → IsOutcome o × ((o ≡ top.outcome) ⊎ IsTarget real me orders past lines e.joint.fixed top.outcome o)
    part-fits closing ended unsettled top o is aim valid =
        subst (λ (y : List AssetOutcome). IsOutcome y × ((y ≡ top.outcome) ⊎ IsTarget real me orders past lines e.joint.fixed top.outcome y)) now.is
        (by (keeps.parts closing b.last top.outcome b.own_is b.among))
      where
        now : Back o
        now = back o aim

        ab : ℕ × ℕ
        ab = now.amounts

        b : Based s.key orders past lines e.joint.fixed (apart t g.amounts) p.joint j-sits top
        b = j-base top is

        set : ends.are_set_up p ≡ true
        set = keeps.set_up (inl closing)

        sh : Shared ab
        sh = shared-now closing ended ab now.now

        has : ChannelEnds ab
        has =
            let x = ends-top s.key orders past lines e.fixed g.opening p.channel x-sits sh.top sh.top_is in
            let plain = (shares closing ended).own sh.top x.last.state sh.top_is x.own_is in
            record {
              outcome = x.last.state.outcome;
              ending = subst (λ (n : List ℕ). EndsWith real past lines n x.last.state.outcome) e.named
                  (ends-with s.key orders past lines e.fixed g.opening p.channel x-sits x x.last.state.outcome plain.1);
              is = plain.0 ∙ sh.is;
            }

        falls : (of_end p).falls ≡ false
        falls = ap (λ (z : Bool). p.closing && z) (keeps.without closing ∙ unsettled) ∙ ap (λ (z : Bool). z && false) closing

        target : IsTarget real me orders past lines e.joint.fixed (together t) (apart t ab)
        target = record {
          asset = t.asset;
          moves = wanted.apart (parts.End v) in-plan (lends-nothing ab has) (may ab sh.sum has (full (keeps.past (inl closing)) (inr (closing, falls)) set));
          list = apart-list t ab ∙ sym (together-list t);
          others = λ a other. sym (same-others t ab a other);
        }

        by : (top.outcome ≡ together t) ⊎ IsOver p top.outcome → IsOutcome (apart t ab) × ((apart t ab ≡ top.outcome) ⊎ IsTarget real me orders past lines e.joint.fixed top.outcome (apart t ab))
        by (inl same) = (
          apart-outcome t (are-terms (together-asset t (subst IsOutcome same b.valid))) ab (sh.sum ∙ sym e.joint.total) (subst (λ (y : List AssetOutcome). is_valid y ≡ true) (sym now.is) valid),
          inr (subst (λ (y : List AssetOutcome). IsTarget real me orders past lines e.joint.fixed y (apart t ab)) (sym same) target),
        )
        by (inr over) =
            let same : apart t ab ≡ top.outcome = ap (apart t) (some-eq ab over.amounts (sym now.now ∙ over.now)) ∙ sym over.is in
            (subst IsOutcome (sym same) b.valid, inl same)

  -- ---- what it wants

  module _ (f : FixedParts) (state : StateParts) (own-f : IsOwn real lines f) (valid : IsState state) (going : is_final (mode real (real.named f) past) ≡ false)
      (row : rows.wanted_in (real.named f) (end_rows p) ≡ Some state) where
    abbrev c : List ℕ
    c = real.named f

    wants-well : Wants real me orders past lines f state
    wants-well = by (end-wants p c state row)
      where
        by : EndWants p c state → Wants real me orders past lines f state
        by (guarantees running unset same is) =
            wants-repeated s h journal fair past front at f state own-f valid going e.guarantor.fixed (guarantee t v.joint me) p.guarantor e.guarantor.seat same opened.guarantees 0 2
            (let n : 1 ≤ people e.guarantor.fixed = several s.key past lines e.guarantor.fixed (guarantee t v.joint me) p.guarantor e.guarantor.seat in omega arith) is
        by (splits from until few stays early risen same is) =
            wants-repeated s h journal fair past front at f state own-f valid going e.joint.fixed (apart t g.amounts) p.joint e.joint.seat same opened.splits from until
            (let n : people e.joint.fixed ≡ 3 = three in omega arith) is
        by (opens from until few early same is) =
            wants-repeated s h journal fair past front at f state own-f valid going e.fixed g.opening p.channel e.seat same opened.opens from until (let n : people e.fixed ≡ 2 = many in omega arith) is
        by (finals closing unended same is) = wants-final s h journal fair past front at f state own-f valid going e.fixed g.opening p.channel e.seat same is
        by (ups stays set unsettled same is) =
            wants-move s h journal fair past front at f state own-f valid going e.on.fixed p.ledger.opening p.ledger e.on.seat same (no-payments e.on.fixed e.on.app) (ends.target_up p) is
            (up c state row (going-there s h journal fair past front at f state own-f valid going e.on.fixed p.ledger.opening p.ledger e.on.seat same) stays set unsettled)
        by (joins stays set settled five unsettled same is) =
            wants-move s h journal fair past front at f state own-f valid going e.joint.fixed (apart t g.amounts) p.joint e.joint.seat same (no-payments e.joint.fixed e.joint.app) (ends.target_together p) is
            (join-fits c state row stays set five unsettled)
        by (parts_back closing ended unsettled same is) =
            wants-move s h journal fair past front at f state own-f valid going e.joint.fixed (apart t g.amounts) p.joint e.joint.seat same (no-payments e.joint.fixed e.joint.app) (ends.target_back p) is
            (part-fits c state row closing ended unsettled)
        by (downs closing ended settled not-down same is) =
            wants-move s h journal fair past front at f state own-f valid going e.on.fixed p.ledger.opening p.ledger e.on.seat same (no-payments e.on.fixed e.on.app) (ends.target_down p) is
            (down c state row (going-there s h journal fair past front at f state own-f valid going e.on.fixed p.ledger.opening p.ledger e.on.seat same) closing settled)

-- ---- the law

pub ends_want_fairly : EndsWantFairly
ends_want_fairly s h journal v fair past front at f state own valid going live asked wanted =
    let p = parts_are_known s h journal past front fair.nodes at.front_is (parts.End v) there in
    known-as p.goal p.found p.is
  where
    m : Mind
    m = mind_at real s.key past front

    there : In (parts.End v) m.parts
    there = asked-there (facts_of m) (real.named f) (parts.End v) asked

    known-as : (g : Goal) → goal_in (facts_of m) v.channel ≡ Some g → EndIs s.key past (lines_of s.key front) (facts_of m) v g → Wants real (name_of_person s.key) (orders_of real s.key journal) past (lines_of s.key front) f state
    known-as g found e =
        wants-well s h journal fair past front at v g found e there (ends_keep s h journal past front fair at v g there e) (known_ledgers_keep s h journal fair past front at)
        (ledgers_stand_at_places s h journal fair past front at) live f state own valid going
        (sym (ap (wanted_of_end (real.named f)) e.is) ∙ (sym (ap (wanted_of (facts_of m) (real.named f)) asked) ∙ wanted))
