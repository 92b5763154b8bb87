-- A node signs a state: of a ledger, which moves, or of another channel, by which a part goes past its set-up only
-- once its ledgers have gone up.
use Rattle.std.proofs.Common.{◌≡◌, ◌≢◌, ℕ, ◌*◌, ◌^◌, ◌<◌, ◌≤◌, Bool, true, false, cond, ◌&&◌, ◌||◌, List, [], ◌∷◌, ◌⊎◌, inl, inr, length, refl, sym, ◌∙◌, ap, subst, arith}
use Rattle.std.specs.Prelude.{◌==◌, nat_le, nat_lt, slice_index_or, Option, Some, None}
use Rattle.std.specs.List.{list_all}
use Rattle.std.specs.Option.{option_map, option_or}
use Rattle.std.specs.Str.{bytes_eq}
use Rattle.channel_values.specs.Outcomes.{is_same, IsOutcome}
use Rattle.channel_values.specs.Parts.{FixedParts, StateParts, state_with, IsState}
use Rattle.channel_values.specs.declared.chain.Signed.{Signed}
use Rattle.channel_values.specs.declared.value.AssetOutcome.{AssetOutcome}
use Rattle.channel_values.specs.declared.value.Dest.{Dest}
use Rattle.channel_values.specs.declared.value.Dest.TheVariants.{Person, Channel}
use Rattle.channel_values.specs.declared.value.Item.{Item}
use Rattle.channel_values.specs.declared.value.Shape.{Shape}
use Rattle.channel_values.specs.declared.value.Shape.TheVariants.{Allocation, Guarantee}
use Rattle.support_rules.specs.Rules.{is_one_of}
use Rattle.channel_safety.proofs.Tests.{some-eq, none-eq, clash, and-left, and-right, cond-true, cond-false}
use Rattle.call_history.proofs.Names.{same_bytes, bytes_eq_self}
use Rattle.call_history.specs.Dues.{shape_in}
use Rattle.call_history.specs.Flows.{is_among}
use Rattle.call_history.specs.declared.entry.Entry.{Entry}
use Rattle.call_history.specs.declared.event.Deed.{Deed}
use Rattle.call_history.specs.declared.event.Deed.TheVariants as deeds
use Rattle.channel_values.specs.Amounts.{has}
use Rattle.channel_values.specs.Rules.{people}
use Rattle.funding_plans.specs.Parts.{channels_of, joined_of, ledgers_of, own_ledger, own_guarantor, own_channel}
use Rattle.funding_plans.specs.Shapes.{items_of, items_in}
use Rattle.funding_plans.specs.declared.plan.Goal.{Goal}
use Rattle.funding_plans.specs.declared.plan.Part.{Part}
use Rattle.funding_plans.specs.declared.plan.Part.TheVariants as kinds
use Rattle.funding_plans.specs.declared.plan.Virtual.{Virtual}
use Rattle.ledger_channel.specs.Roots.{Direct}
use Rattle.ledger_channel.specs.Stages.{wanted_of_root}
use Rattle.channel_safety.proofs.Members.{In-append_right}
use Rattle.channel_safety.specs.Strings.{signed_of}
use Rattle.channel_safety.specs.Journals.{In, made_in, some_if}
use Rattle.network.specs.declared.command.Command.TheVariants as commands
use Rattle.channel_node.proofs.Bridging.{plays-at, lines-append}
use Rattle.channel_node.specs.Minds.{Mind, facts_of, did}
use Rattle.channel_node.specs.Places.{Told, line_of, lines_of, mind_at}
use Rattle.channel_node.specs.Playing.{Signing, Plays, pending, signings, Allowed}
use Rattle.stage_tables.specs.Fitting.{is_shared, are_shared}
use Rattle.stage_tables.specs.Stages.{stages}
use Rattle.funding_plans.specs.Limits.{is_valid}
use Rattle.funding_plans.specs.declared.terms.Terms.{Terms}
use Rattle.stage_tables.specs.Asked.{asked_in, wanted_of}
use Rattle.share_laws.specs.Places.{last_made, outcomes_of}
use Rattle.funding_plans.specs.Gathered.{goal_in}
use Rattle.funding_plans.specs.Seats.{Seat, has_signed_past, repeats, final_state, final_after, has_no_data, toward_after, settled_on, up_in, up_after, down_after, is_turn}
use Rattle.support_rules.specs.Real.{real}
use Rattle.support_rules.specs.Steps.{persons}
use Rattle.virtual_channel.specs.Ends.{End}
use Rattle.virtual_channel.specs.Stages.{wanted_of_end}
use Rattle.fairness_laws.proofs.Finding.{asked-there, flips}
use Rattle.fairness_laws.proofs.FirstRounds.{joined-among}
use Rattle.fairness_laws.proofs.Picking.{IsWanted}
use Rattle.fairness_laws.proofs.Picking as picking
use Rattle.fairness_laws.proofs.RootWishes.{when-some}
use Rattle.fairness_laws.specs.JointKeeping.{EndsKeep, MiddlesKeep}
use Rattle.fairness_laws.proofs.Truths.{either}
use Rattle.fairness_laws.proofs.Apps.{no-payments}
use Rattle.fairness_laws.specs.PaymentLaws.{At, ActsNext}
use Rattle.fairness_laws.specs.LedgerKeeping.{HasGoneUp, Drifts, ChildrenApart, Moves}
use Rattle.fairness_laws.specs.LedgerKeeping as keeping
use Rattle.fairness_laws.specs.LedgerLending.{Lent, of_funded}
use Rattle.fairness_laws.specs.LedgerPlaces.{is_ledger, own_at, lends_at, KeepAt, drifts, moves, starts, StepAt}
use Rattle.fairness_laws.specs.LedgerEvents.{PaymentsRun, SetUpsStart}
use Rattle.fairness_laws.specs.LedgerLaws.{GivesBack}
use Rattle.fairness_laws.specs.LedgerWanting.{WantsOn}
use Rattle.fairness_laws.specs.LedgerWanting as wanting
use Rattle.fairness_laws.specs.PlanLaws.{PartAt, PartsAreKnown, PlansAreWhole}
use Rattle.fairness_laws.specs.PlanParts.{RootIs, OnLedgerIs, EndIs, JointIs}
use Rattle.fairness_laws.specs.PlanSeats.{SeatIs}
use Rattle.fairness_laws.specs.PlanSettings.{IsFair}
use Rattle.fairness_laws.proofs.Ledger.Aiming.{wants_move}
use Rattle.fairness_laws.proofs.Ledger.Asking.{Signs, pays, wants, signs-what, asked-about}
use Rattle.fairness_laws.proofs.Plan.Asked.{one-of-parts}
use Rattle.fairness_laws.proofs.Ledger.Drifting.{is-up, drifts-so}
use Rattle.fairness_laws.proofs.Plan.Goals.{goal-stays}
use Rattle.fairness_laws.proofs.EventPlaces.{at-before, at-after}
use Rattle.fairness_laws.proofs.Seat.Held.{Tops, tops, top-could, top-valid}
use Rattle.fairness_laws.proofs.Ledger.Lent.{LendsAt, gate-of, named-for, by-kind, child-there}
use Rattle.fairness_laws.proofs.Seat.Past.{Past, own-is, past-before}
use Rattle.fairness_laws.proofs.Ledger.Plans.{ledger-app, ledger-part}
use Rattle.fairness_laws.proofs.Ledger.Quiet.{grows-by, happens}
use Rattle.fairness_laws.proofs.Ledger.Ready.{Rests, part-at}
use Rattle.fairness_laws.proofs.Ledger.Rising.{went-up}
use Rattle.fairness_laws.proofs.Plan.Names.{among-in}
use Rattle.fairness_laws.proofs.Ledger.Wishes.{GateWants, gate-size, gate-among, gate-off, named-among, lent-is, ledger-is, stands-lent, no-ledger, gate-people, gate-wants, wants-on, end-differs}
use Rattle.fairness_laws.proofs.Joint.Rows.{EndWants, end-wants}
use Rattle.fairness_laws.proofs.Joint.Terms.{channel-no_ledger}
use Rattle.fairness_laws.proofs.Joint.Rows as ending
use Rattle.fairness_laws.specs.PlanBearers.{bears}

-- people alone have items in an outcome that is shared among people
one-person : (people : List (List ℕ)) (y : List ℕ) → is_one_of people (Channel y) ≡ false
one-person [] y = refl
one-person (p ∷ people) y = one-person people y

no-channel : (people : List (List ℕ)) (y : List ℕ) (items : List Item) → list_all (λ i. is_one_of people i.to) items ≡ true → has items (Channel y) ≡ false
no-channel people y [] e = refl
no-channel people y (i ∷ items) e = go i.to (and-left (is_one_of people i.to) (list_all (λ i. is_one_of people i.to) items) e) (no-channel people y items (and-right (is_one_of people i.to) (list_all (λ i. is_one_of people i.to) items) e))
  where
    go : (d : Dest) → is_one_of people d ≡ true → has items (Channel y) ≡ false → (is_same d (Channel y) || has items (Channel y)) ≡ false
    go (Person n) e rest = rest
    go (Channel n) e rest = absurd (clash (is_one_of people (Channel n)) e (one-person people n))

shared-none : (people : List (List ℕ)) (asset : ℕ) (y : List ℕ) (os : List AssetOutcome) → are_shared people os ≡ true → has (items_in asset os) (Channel y) ≡ false
shared-none people asset y [] e = refl
shared-none people asset y (o ∷ os) e = go (o.asset == asset) (and-left (is_shared people o.shape) (are_shared people os) e) (shared-none people asset y os (and-right (is_shared people o.shape) (are_shared people os) e))
  where
    shape : (z : Shape) → is_shared people z ≡ true → has (items_of (Some z)) (Channel y) ≡ false
    shape (Allocation items) e = no-channel people y items e
    shape (Guarantee target list) e = refl

    go : (b : Bool) → is_shared people o.shape ≡ true → has (items_in asset os) (Channel y) ≡ false → has (items_of (cond b (Some o.shape) (shape_in os asset))) (Channel y) ≡ false
    go true e rest = shape o.shape e
    go false e rest = rest

-- a first state of a ledger repeats the opening outcome of the part whose channel that is
pub record FirstBy (s : Signing) (past : List Entry) (front : List Told) (l : List ℕ) (first : StateParts) : Type 0 where
  pub part : Part
  pub there : In part (mind_at real s.key past front).parts
  pub bearing : bears l part ≡ true
  pub goal : Goal
  pub found : goal_in (facts_of (mind_at real s.key past front)) l ≡ Some goal
  pub is : first.outcome ≡ goal.opening

module _ (s : Signing) (h : List Entry) (journal : List Told) (fair : IsFair s h journal) (known : PartsAreKnown) (whole : PlansAreWhole) (ends : EndsKeep) (middles : MiddlesKeep)
    (paying : PaymentsRun s h journal) (starting : SetUpsStart s h journal) (past : List Entry) (x : Told) (front : List Told) (next : ActsNext s h journal past x front)
    (gives : GivesBack (facts_of (mind_at real s.key past front)))
    (channel : List ℕ) (state : StateParts) (signature : List ℕ) (deed : x.deed ≡ deeds.Signed channel state signature) (keeps : KeepAt s journal past front) where
  abbrev m : Mind
  m = mind_at real s.key past front

  abbrev new : Mind
  new = mind_at real s.key past (x ∷ front)

  standing : At s h journal past front
  standing = at-before s h journal fair past x front next

  signs : Signs (pending front) m channel state
  signs =
      let allowed = (plays-at stages real s h next.then.newer x front (subst (Plays stages real s h) next.then.events fair.nodes.plays)).place next.place.later past next.place.entries next.len in
      let a : Allowed stages real s past m (signings front) (pending front) (deeds.Signed channel state signature) x.command =
      subst (λ (d : Deed). Allowed stages real s past m (signings front) (pending front) d x.command) deed allowed.1 in
      signs-what m channel state (pending front) a.0

  signed-valid : IsState state
  signed-valid = (fair.nodes.valid.signed (line_of s.key x) channel state there-now (ap signed_of deed)).1
    where
      there-now : In (line_of s.key x) (lines_of s.key journal)
      there-now =
          subst (In (line_of s.key x)) (sym (ap (lines_of s.key) next.then.events ∙ lines-append s.key next.then.newer (x ∷ front)))
          (In-append_right (line_of s.key x) (lines_of s.key next.then.newer) (lines_of s.key (x ∷ front)) (inl refl))

  parts-stay : new.parts ≡ m.parts
  parts-stay = ap (λ (z : Mind). z.parts) (happens s h journal fair known ends middles past x front next) ∙ ap (λ (d : Deed). (did real d x.command m).parts) deed

  goals-stay : new.goals ≡ m.goals
  goals-stay = ap (λ (z : Mind). z.goals) (happens s h journal fair known ends middles past x front next) ∙ ap (λ (d : Deed). (did real d x.command m).goals) deed

  abbrev newest : Signed
  newest = record { state = state; signature = signature }

  made-is : (c : List ℕ) → made_in c x.deed ≡ some_if (bytes_eq channel c) newest
  made-is c = ap (made_in c) deed

  not-made : (c : List ℕ) → bytes_eq channel c ≡ false → made_in c x.deed ≡ None
  not-made c other = made-is c ∙ ap (λ (t : Bool). some_if t newest) other

  -- ---- a part on ledgers

  module _ (l : List ℕ) (p : Part) (k : Lent) (i : In p m.parts) (is : lends_at s past front l p ≡ Some k) where
    a : LendsAt s past front l p k
    a = lent-is s h journal fair known whole ends middles past x front next p i l k is

    -- what its ledger ends with
    abbrev LTops : StateParts → Type 0
    LTops top = Tops s h journal fair past front standing a.on.fixed k.ledger.opening k.ledger a.on.seat top

    ltops : (top : StateParts) → k.ledger.top ≡ Some top → LTops top
    ltops top e = tops s h journal fair past front standing a.on.fixed k.ledger.opening k.ledger a.on.seat top e

    other-app : a.on.fixed.app ≢ 1
    other-app = no-payments a.on.fixed a.on.app

    could-end : (top : StateParts) (w : LTops top) → In top.outcome (outcomes_of w.last.state)
    could-end top w = top-could s h journal fair past front standing a.on.fixed k.ledger.opening k.ledger a.on.seat other-app top w

    ends-valid : (top : StateParts) (w : LTops top) → IsOutcome top.outcome
    ends-valid top w = (top-valid s h journal fair past front standing a.on.fixed k.ledger.opening k.ledger a.on.seat top w).outcome

    last-is : (top : StateParts) (w : LTops top) → last_made l (lines_of s.key front) ≡ Some w.last
    last-is top w = subst (λ (n : List ℕ). last_made n (lines_of s.key front) ≡ Some w.last) a.on.named w.is

    signed-is : (top : StateParts) (w : LTops top) (last : StateParts) → own_at s.key journal front l ≡ Some last → w.last.state ≡ last
    signed-is top w last e = go (is_ledger s.key journal l) e
      where
        go : (b : Bool) → cond b (option_map (λ s. s.state) (last_made l (lines_of s.key front))) None ≡ Some last → w.last.state ≡ last
        go true e = some-eq w.last.state last (sym (ap (option_map (λ s. s.state)) (last-is top w)) ∙ e)
        go false e = absurd (none-eq last e)

    known-last : (top : StateParts) (w : LTops top) → k.ledger.own ≡ Some w.last.state
    known-last top w =
        own-is s h journal fair.nodes past front next.place a.on.fixed k.ledger.opening k.ledger a.on.seat
        ∙ (ap (λ (b : Bool). cond b (option_map (λ s. s.state) (last_made (real.named a.on.fixed) (lines_of s.key front))) None) w.held
        ∙ ap (option_map (λ s. s.state)) w.is)

    -- it has gone up
    gone-up : k.closing ≡ false → k.is_up ≡ false → settled_on (up_in k.child k.ledger) k.ledger ≡ true → (last : StateParts) → own_at s.key journal front l ≡ Some last → HasGoneUp k last
    gone-up running early settled last signed = go k.ledger.top refl
      where
        go : (o : Option StateParts) → k.ledger.top ≡ o → HasGoneUp k last
        go None e = absurd (clash false (subst (λ (o : Option StateParts). settled_on (up_after k.child o) k.ledger ≡ true) e settled) refl)
        go (Some top) e =
            let w = ltops top e in
            let same = signed-is top w last signed in
            went-up k last top e (known-last top w ∙ ap (λ (z : StateParts). Some z) same)
            (subst (λ (z : StateParts). IsOutcome z.outcome) same w.ends.valid.outcome) (ends-valid top w) a.child
            ((keeps.ledgers l last signed).backs p k top.outcome i is (subst (λ (z : StateParts). In top.outcome (outcomes_of z)) same (could-end top w)))
            running early settled

  -- ---- the part that is asked

  record Asked : Type 0 where
    part : Part
    there : In part m.parts
    about : (is_among channel (ledgers_of part) ≡ true) ⊎ (is_among channel (joined_of part) ≡ true)
    wanted : wanted_of (facts_of m) channel (Some part) ≡ Some state

  asks : stages.wanted (facts_of m) channel ≡ Some state → Asked
  asks w = go (asked_in (facts_of m) channel) refl w
    where
      go : (o : Option Part) → asked_in (facts_of m) channel ≡ o → wanted_of (facts_of m) channel o ≡ Some state → Asked
      go None is e = absurd (none-eq state e)
      go (Some q) is e = record { part = q; there = asked-there (facts_of m) channel q is; about = asked-about (facts_of m) channel q is; wanted = e }

  -- the part of a channel that isn't a ledger is asked about it
  asked-own : (p : Part) → In p m.parts → is_among channel (channels_of p) ≡ true → is_ledger s.key journal channel ≡ false → Asked → wanted_of (facts_of m) channel (Some p) ≡ Some state
  asked-own p i among off y = go y.about
    where
      go : (is_among channel (ledgers_of y.part) ≡ true) ⊎ (is_among channel (joined_of y.part) ≡ true) → wanted_of (facts_of m) channel (Some p) ≡ Some state
      go (inl on) =
          let w = stands-lent s h journal fair known whole ends middles past x front next y.part y.there channel (among-in channel (ledgers_of y.part) on) in
          absurd (clash (is_ledger s.key journal channel) (ledger-is s h journal fair known whole ends middles past x front next y.part y.there channel w.0 w.1) off)
      go (inr joined) =
          subst (λ (q : Part). wanted_of (facts_of m) channel (Some q) ≡ Some state)
          (one-of-parts s h journal fair past front standing channel y.part p y.there i (joined-among channel y.part joined) among) y.wanted

  -- ---- drift

  -- what is signed in the channel that says whether the ledger has gone up
  module _ (l : List ℕ) (p : Part) (k : Lent) (i : In p m.parts) (is : lends_at s past front l p ≡ Some k) (same : channel ≡ gate-of p) where
    off-ledger : is_ledger s.key journal channel ≡ false
    off-ledger =
        ap (is_ledger s.key journal) same
        ∙ no-ledger s h journal fair known whole ends middles past x front next p i (gate-of p)
        (gate-off s h journal fair known whole ends middles past x front next p i l k is) (gate-among p)

    wanted-there : Asked → GateWants p k state
    wanted-there y =
        gate-wants s h journal fair known whole ends middles past x front next state p i l k is
        (subst (λ (c : List ℕ). wanted_of (facts_of m) c (Some p) ≡ Some state) same
        (asked-own p i (ap (λ (c : List ℕ). is_among c (channels_of p)) same ∙ gate-among p) off-ledger y))

    -- no payment is made in a joint channel, and one in a payment channel only once the ledger has gone up
    paid-up : (paid : List ℕ) (asset amount : ℕ) → pending front ≡ Some (commands.Pay paid asset amount) → bytes_eq paid channel ≡ true → (k.is_up ≡ true) × (Rests p k → ⊥)
    paid-up paid asset amount waits here =
        by-kind s past front (λ (l : List ℕ) (p : Part) (k : Lent). paid ≡ gate-of p → (k.is_up ≡ true) × (Rests p k → ⊥)) p (part-at s h journal fair known ends middles past front standing p i)
        (λ l c g o of found e. (ran l c g o (subst (λ (z : Part). In z m.parts) (sym of) i) e, λ r. r))
        (λ v g y of found e. absurd (no-joint v g y.end.terms y.end.joint y.joint e)) (λ v g y of found e. absurd (no-joint v g y.middle.terms y.middle.joint y.joint e))
        (λ v g y of found differ e. absurd (no-joint v g y.middle.terms y.middle.joint y.joint e)) l k is (same_bytes paid channel here ∙ same)
      where
        All : List ℕ → Type 0
        All n = (l : List ℕ) (k : Lent) → In (kinds.OnLedger l n) m.parts → lends_at s past front l (kinds.OnLedger l n) ≡ Some k → k.is_up ≡ true

        ran : (l c : List ℕ) (g : Goal) (o : OnLedgerIs s.key past (lines_of s.key front) (facts_of m) l c g) → In (kinds.OnLedger l c) m.parts → paid ≡ c → has_signed_past o.funded.channel ≡ true
        ran l c g o j e = (subst All e (paying past front next.place paid asset amount waits).2) l (of_funded o.funded) j (child-there s past front l c g o)

        no-joint : (v : Virtual) (g : Goal) (t : Terms) (c : Seat) (y : JointIs s.key past (lines_of s.key front) v g t c) → paid ≡ v.joint → ⊥
        no-joint v g t c y e = no-payments y.fixed y.app ((paying past front next.place paid asset amount waits).1 y.fixed y.seat.own.there (y.named ∙ sym e))

    rests-not : Rests p k → ⊥
    rests-not r = go signs
      where
        go : Signs (pending front) m channel state → ⊥
        go (wants w) = (wanted-there (asks w)).going r
        go (pays paid asset amount waits here) = (paid-up paid asset amount waits here).1 r

    rises-so : k.is_up ≡ false → gate-size p ≤ state.turn → (last : StateParts) → own_at s.key journal front l ≡ Some last → HasGoneUp k last
    rises-so early far last signed = go signs
      where
        low : (t n : ℕ) → t < n → n ≤ t → ⊥
        low t n p q = absurd (omega (arith, p, q))

        by : (state.turn < gate-size p) ⊎ (((k.closing ≡ false) × ((k.is_up ≡ true) ⊎ (settled_on (up_in k.child k.ledger) k.ledger ≡ true))) ⊎ (k.closing ≡ true)) → HasGoneUp k last
        by (inl young) = absurd (low state.turn (gate-size p) young far)
        by (inr (inl (running, inl up))) = absurd (clash k.is_up up early)
        by (inr (inl (running, inr settled))) = gone-up l p k i is running early settled last signed
        by (inr (inr closing)) = absurd (clash k.is_up (keeps.late l p k i is closing) early)

        go : Signs (pending front) m channel state → HasGoneUp k last
        go (wants w) = by (wanted-there (asks w)).why
        go (pays paid asset amount waits here) = absurd (clash k.is_up (paid-up paid asset amount waits here).0 early)

  drift-with : (own : List ℕ → Option StateParts)
      → ((l : List ℕ) (p : Part) (k : Lent) (i : In p m.parts) → lends_at s past front l p ≡ Some k → channel ≡ gate-of p → (last : StateParts) → own l ≡ Some last → own_at s.key journal front l ≡ Some last)
      → Drifts m.parts (lends_at s past front) (lends_at s past (x ∷ front)) own
  drift-with own owned =
      drifts-so s h journal fair known ends middles past front standing past (x ∷ front) (at-after s h journal fair past x front next) own
      (λ p i. subst (In p) (sym parts-stay) i) (λ l p k i is g found. goal-stays m new (own_channel p) parts-stay goals-stay ∙ found)
      (grows-by s h journal fair known ends middles past x front next) rises stays
    where
      rises : (l : List ℕ) (p : Part) (k : Lent) (a : LendsAt s past front l p k) → In p m.parts → lends_at s past front l p ≡ Some k → k.is_up ≡ false → Past a.fixed (lines_of s.key (x ∷ front))
          → (last : StateParts) → own l ≡ Some last → HasGoneUp k last
      rises l p k a i is early q last signed = by (either (bytes_eq channel (real.named a.fixed)))
        where
          by : (bytes_eq channel (real.named a.fixed) ≡ true) ⊎ (bytes_eq channel (real.named a.fixed) ≡ false) → HasGoneUp k last
          by (inr other) =
              absurd (clash k.is_up (is-up s h journal fair past front next.place l p k a (past-before (line_of s.key x) (lines_of s.key front) a.fixed (not-made (real.named a.fixed) other) q)) early)
          by (inl here) =
              let same : channel ≡ gate-of p = same_bytes channel (real.named a.fixed) here ∙ a.gate_named in
              let now : last_made (real.named a.fixed) (lines_of s.key (x ∷ front)) ≡ Some newest =
              ap (λ (o : Option Signed). option_or o (last_made (real.named a.fixed) (lines_of s.key front))) (made-is (real.named a.fixed) ∙ ap (λ (t : Bool). some_if t newest) here) in
              let signed-now : q.signed ≡ newest = some-eq q.signed newest (sym q.is ∙ now) in
              rises-so l p k i is same early
              (subst (λ (n : ℕ). n ≤ state.turn) (gate-people s h journal fair known whole ends middles past x front next p i l k is a.fixed a.seat.own.there a.gate_named)
              (subst (λ (t : Signed). people a.fixed ≤ t.state.turn) signed-now q.far)) last (owned l p k i is same last signed)

      stays : (l : List ℕ) (p : Part) (k : Lent) → In p m.parts → lends_at s past front l p ≡ Some k → Rests p k
          → last_made (gate-of p) (lines_of s.key (x ∷ front)) ≡ last_made (gate-of p) (lines_of s.key front)
      stays l p k i is r = by (either (bytes_eq channel (gate-of p)))
        where
          by : (bytes_eq channel (gate-of p) ≡ true) ⊎ (bytes_eq channel (gate-of p) ≡ false)
              → last_made (gate-of p) (lines_of s.key (x ∷ front)) ≡ last_made (gate-of p) (lines_of s.key front)
          by (inl here) = absurd (rests-not l p k i is (same_bytes channel (gate-of p) here) r)
          by (inr other) = ap (λ (o : Option Signed). option_or o (last_made (gate-of p) (lines_of s.key front))) (not-made (gate-of p) other)

  -- ---- another channel than a ledger

  own-other : (l : List ℕ) → bytes_eq l channel ≡ false → own_at s.key journal (x ∷ front) l ≡ own_at s.key journal front l
  own-other l differ =
      ap (λ (o : Option Signed). cond (is_ledger s.key journal l) (option_map (λ s. s.state) (option_or o (last_made l (lines_of s.key front)))) None) (not-made l (flips l channel differ))

  elsewhere-step : is_ledger s.key journal channel ≡ false → StepAt s journal past past front (x ∷ front)
  elsewhere-step off = drifts parts-stay (drift-with (own_at s.key journal front) (λ l p k i is same last signed. signed)) own-same
    where
      own-same : (l : List ℕ) → own_at s.key journal (x ∷ front) l ≡ own_at s.key journal front l
      own-same l = by (either (bytes_eq l channel))
        where
          by : (bytes_eq l channel ≡ true) ⊎ (bytes_eq l channel ≡ false) → own_at s.key journal (x ∷ front) l ≡ own_at s.key journal front l
          by (inr differ) = own-other l differ
          by (inl same) =
              let none : is_ledger s.key journal l ≡ false = ap (is_ledger s.key journal) (same_bytes l channel same) ∙ off in
              cond-false (is_ledger s.key journal l) (option_map (λ s. s.state) (last_made l (lines_of s.key (x ∷ front)))) None none
              ∙ sym (cond-false (is_ledger s.key journal l) (option_map (λ s. s.state) (last_made l (lines_of s.key front))) None none)

  -- ---- a ledger

  abbrev Signing-step : Type 0
  Signing-step = StepAt s journal past past front (x ∷ front) × (own_at s.key journal front channel ≡ None → FirstBy s past front channel state)

  module _ (on : is_ledger s.key journal channel ≡ true) where
    drift : Drifts m.parts (lends_at s past front) (lends_at s past (x ∷ front)) (own_at s.key journal (x ∷ front))
    drift = drift-with (own_at s.key journal (x ∷ front)) (λ l p k i is same last signed. absurd (clash (is_ledger s.key journal channel) on (off-ledger l p k i is same)))

    own-now : own_at s.key journal (x ∷ front) channel ≡ Some state
    own-now =
        cond-true (is_ledger s.key journal channel) (option_map (λ s. s.state) (last_made channel (lines_of s.key (x ∷ front)))) None on
        ∙ ap (λ (o : Option Signed). option_map (λ s. s.state) (option_or o (last_made channel (lines_of s.key front)))) (made-is channel ∙ ap (λ (t : Bool). some_if t newest) (bytes_eq_self channel))

    own-was : (last : Signed) → last_made channel (lines_of s.key front) ≡ Some last → own_at s.key journal front channel ≡ Some last.state
    own-was last e =
        cond-true (is_ledger s.key journal channel) (option_map (λ s. s.state) (last_made channel (lines_of s.key front))) None on ∙ ap (option_map (λ s. s.state)) e

    children-apart : ChildrenApart m.parts (lends_at s past front) channel
    children-apart p q j k i o isj isk same =
        let b = lent-is s h journal fair known whole ends middles past x front next p i channel j isj in
        let c = lent-is s h journal fair known whole ends middles past x front next q o channel k isk in
        let name : named-for channel p ≡ named-for channel q = sym b.named ∙ (same_bytes j.child.name k.child.name same ∙ c.named) in
        one-of-parts s h journal fair past front standing (named-for channel p) p q i o (named-among channel p)
        (subst (λ (n : List ℕ). is_among n (channels_of q) ≡ true) (sym name) (named-among channel q))

    moves-so : (last : StateParts) (now : List AssetOutcome) → own_at s.key journal front channel ≡ Some last → In now (outcomes_of last) → IsOutcome now
        → Moves m.parts (lends_at s past front) channel now state → Signing-step
    moves-so last now signed could valid move =
        (moves channel last state now parts-stay drift signed could valid children-apart move own-now own-other, λ none. absurd (none-eq last (sym none ∙ signed)))

    -- ---- for a part on it

    by-lent : (p : Part) (i : In p m.parts) (k : Lent) (is : lends_at s past front channel p ≡ Some k) → wanted_of (facts_of m) channel (Some p) ≡ Some state → Signing-step
    by-lent p i k is w = go k.ledger.top refl (wants-on s h journal fair known whole ends middles past x front next state p i channel k is w)
      where
        y : LendsAt s past front channel p k
        y = a channel p k i is

        nothing : k.ledger.top ≡ None → WantsOn k state → ⊥
        nothing e (wanting.up closing early f) = none-eq state (subst (λ (o : Option StateParts). toward_after k.ledger o (up_after k.child o) ≡ Some state) e f)
        nothing e (wanting.down closing falls f) = none-eq state (subst (λ (o : Option StateParts). toward_after k.ledger o (down_after k.child o k.back) ≡ Some state) e f)

        go : (o : Option StateParts) → k.ledger.top ≡ o → WantsOn k state → Signing-step
        go None e f = absurd (nothing e f)
        go (Some top) e f =
            let w = ltops channel p k i is top e in
            moves-so w.last.state top.outcome (own-was w.last (last-is channel p k i is top w)) (could-end channel p k i is top w) (ends-valid channel p k i is top w)
            (wants_move m.parts (lends_at s past front) channel p k state top i is e
            (ap (λ (z : Seat). length z.people) y.on.seat.is ∙ ap length y.on.people) (ends-valid channel p k i is top w) y.child
            (λ ab back aims falls. gives p channel k ab state i is back aims falls) f)

    -- ---- for the part whose channel it is

    module _ (b : Part) (i : In b m.parts) (bearing : bears channel b ≡ true) (g : Goal) (found : goal_in (facts_of m) channel ≡ Some g) (f : FixedParts) (c : Seat)
        (seat : SeatIs s.key past (lines_of s.key front) f g.opening c) (named : real.named f ≡ channel) (bare : (asset : ℕ) (y : List ℕ) → has (items_in asset g.opening) (Channel y) ≡ false) where
      final : (top : StateParts) → c.top ≡ Some top → state_with c.next true top.outcome [] ≡ state → Signing-step
      final top e made =
          let w = tops s h journal fair past front standing f g.opening c seat top e in
          moves-so w.last.state top.outcome
          (own-was w.last (subst (λ (n : List ℕ). last_made n (lines_of s.key front) ≡ Some w.last) named w.is))
          (top-could s h journal fair past front standing f g.opening c seat (no-payments f (ledger-app s h journal fair whole past front next.place channel on f seat.own.there named)) top w)
          (top-valid s h journal fair past front standing f g.opening c seat top w).outcome
          (keeping.repeats (sym (ap (λ (z : StateParts). z.outcome) made)) (subst (λ (z : StateParts). outcomes_of z ≡ z.outcome ∷ []) made refl))

      by-top : (o : Option StateParts) → c.top ≡ o → final_after c o ≡ Some state → Signing-step
      by-top None e f = absurd (none-eq state f)
      by-top (Some top) e f =
          final top e (when-some (has_no_data top && nat_lt c.next (2 ^ 48) && is_turn c) (state_with c.next true top.outcome []) state f).is

      finishes-so : final_state c ≡ Some state → Signing-step
      finishes-so f = by-top c.top refl f

      opens-so : (from until : ℕ) → until ≤ 2 * length c.people → repeats from until c ≡ Some state → Signing-step
      opens-so from until few w = by (starting past x front next b channel g i bearing found on f c seat named from until state signed-valid few w)
        where
          made : state_with c.next false c.opening [] ≡ state
          made = (when-some (nat_le from c.next && nat_lt c.next until && is_turn c && is_valid c.opening) (state_with c.next false c.opening []) state w).is

          alone : outcomes_of state ≡ state.outcome ∷ []
          alone = subst (λ (z : StateParts). outcomes_of z ≡ z.outcome ∷ []) made refl

          opening-is : g.opening ≡ state.outcome
          opening-is = sym (ap (λ (z : Seat). z.opening) seat.is) ∙ ap (λ (z : StateParts). z.outcome) made

          by : ((last : StateParts) × (own_at s.key journal front channel ≡ Some last) × In state.outcome (outcomes_of last))
              ⊎ ((own_at s.key journal front channel ≡ None) × ((p : Part) (k : Lent) → In p m.parts → lends_at s past front channel p ≡ Some k → ⊥)) → Signing-step
          by (inl (last, signed, could)) = moves-so last state.outcome signed could signed-valid.outcome (keeping.repeats refl alone)
          by (inr (unsigned, none)) = (
            starts channel state parts-stay drift none alone (λ asset y. subst (λ (o : List AssetOutcome). has (items_in asset o) (Channel y) ≡ false) opening-is (bare asset y)) unsigned own-now own-other,
            λ unsigned-yet. record { part = b; there = i; bearing = bearing; goal = g; found = found; is = sym opening-is },
          )

    -- a root
    by-root : (r : List ℕ) → In (kinds.Root r) m.parts → bears channel (kinds.Root r) ≡ true → wanted_of (facts_of m) channel (Some (kinds.Root r)) ≡ Some state → Signing-step
    by-root r i bearing w = go (picking.wants root.direct channel state (subst (λ (o : Option Direct). wanted_of_root channel o ≡ Some state) root.is w)).1
      where
        same : r ≡ channel
        same = same_bytes r channel bearing

        at : PartAt s past front (kinds.Root r)
        at = known s h journal past front fair.nodes next.place (kinds.Root r) i

        root : RootIs s.key past (lines_of s.key front) (facts_of m) r at.goal
        root = at.is

        c : Seat
        c = root.direct.channel

        found : goal_in (facts_of m) channel ≡ Some at.goal
        found = subst (λ (n : List ℕ). goal_in (facts_of m) n ≡ Some at.goal) same at.found

        bare : (asset : ℕ) (y : List ℕ) → has (items_in asset at.goal.opening) (Channel y) ≡ false
        bare asset y = shared-none (persons root.fixed) asset y at.goal.opening root.outcome

        opens : (from until : ℕ) → until ≤ 2 * length c.people → repeats from until c ≡ Some state → Signing-step
        opens from until few f = opens-so (kinds.Root r) i bearing at.goal found root.fixed c root.seat (root.named ∙ same) bare from until few f

        go : IsWanted root.direct state → Signing-step
        go (picking.opens from until which f) = opens from until (few-of which) f
          where
            few-of : (until ≡ length c.people) ⊎ (until ≡ 2 * length c.people) → until ≤ 2 * length c.people
            few-of (inl e) = low until (length c.people) e
              where
                low : (a n : ℕ) → a ≡ n → a ≤ 2 * n
                low a n p = omega arith
            few-of (inr e) = low until (length c.people) e
              where
                low : (a n : ℕ) → a ≡ 2 * n → a ≤ 2 * n
                low a n p = omega arith
        go (picking.closes closing held-on going f) = finishes-so (kinds.Root r) i bearing at.goal found root.fixed c root.seat (root.named ∙ same) bare f

    -- an end of a virtual ledger
    by-end : (v : Virtual) → In (kinds.End v) m.parts → bears channel (kinds.End v) ≡ true → wanted_of (facts_of m) channel (Some (kinds.End v)) ≡ Some state → Signing-step
    by-end v i bearing w = go (end-wants y.end channel state (subst (λ (o : Option End). wanted_of_end channel o ≡ Some state) y.is w))
      where
        same : v.channel ≡ channel
        same = same_bytes v.channel channel bearing

        at : PartAt s past front (kinds.End v)
        at = known s h journal past front fair.nodes next.place (kinds.End v) i

        y : EndIs s.key past (lines_of s.key front) (facts_of m) v at.goal
        y = at.is

        c : Seat
        c = y.end.channel

        found : goal_in (facts_of m) channel ≡ Some at.goal
        found = subst (λ (n : List ℕ). goal_in (facts_of m) n ≡ Some at.goal) same at.found

        bare : (asset : ℕ) (z : List ℕ) → has (items_in asset at.goal.opening) (Channel z) ≡ false
        bare asset z =
            subst (λ (o : List AssetOutcome). has (items_in asset o) (Channel z) ≡ false) (sym y.opening)
            (people-alone (v.asset == asset) (slice_index_or (persons y.fixed) 0 []) (slice_index_or (persons y.fixed) 1 []) at.goal.amounts.0 at.goal.amounts.1)
          where
            people-alone : (b : Bool) (p q : List ℕ) (n k : ℕ)
                → has (items_of (cond b (Some (Allocation (record { to = Person p; amount = n } ∷ record { to = Person q; amount = k } ∷ []))) None)) (Channel z) ≡ false
            people-alone true p q n k = refl
            people-alone false p q n k = refl

        two : length c.people ≡ 2
        two = ap (λ (z : Seat). length z.people) y.seat.is ∙ ap (λ (ns : List (List ℕ)). length ns) y.people

        differs : (bytes_eq v.channel v.joint ≡ false) × (bytes_eq v.channel (own_guarantor v) ≡ false)
        differs = end-differs s h journal fair known whole ends middles past x front next v i

        -- a seat of another name
        other : (n name : List ℕ) → n ≡ name → bytes_eq v.channel name ≡ false → bytes_eq n channel ≡ true → ⊥
        other n name is differ e =
            clash (bytes_eq v.channel name) (subst (λ (z : List ℕ). bytes_eq v.channel z ≡ true) (same ∙ sym (sym is ∙ same_bytes n channel e)) (bytes_eq_self v.channel)) differ

        no-guarantor : bytes_eq y.end.guarantor.name channel ≡ true → ⊥
        no-guarantor = other y.end.guarantor.name (own_guarantor v) (ap (λ (z : Seat). z.name) y.guarantor.seat.is ∙ y.guarantor.named) differs.1

        no-joint : bytes_eq y.end.joint.name channel ≡ true → ⊥
        no-joint = other y.end.joint.name v.joint (ap (λ (z : Seat). z.name) y.joint.seat.is ∙ y.joint.named) differs.0

        no-lender : bytes_eq y.end.ledger.name channel ≡ true → ⊥
        no-lender =
            other y.end.ledger.name (own_ledger v) (ap (λ (z : Seat). z.name) y.on.seat.is ∙ y.on.named)
            (channel-no_ledger s h journal fair past front next.place (facts_of m) v at.goal y)

        low : (a n : ℕ) → n ≡ 2 → a ≤ 4 → a ≤ 2 * n
        low a n e few = omega arith

        go : EndWants y.end channel state → Signing-step
        go (ending.opens from until small early n f) =
            opens-so (kinds.End v) i bearing at.goal found y.fixed c y.seat (y.named ∙ same) bare from until (low until (length c.people) two small) f
        go (ending.finals closing unended n f) = finishes-so (kinds.End v) i bearing at.goal found y.fixed c y.seat (y.named ∙ same) bare f
        go (ending.guarantees running unset n f) = absurd (no-guarantor n)
        go (ending.splits from until small running soon early n f) = absurd (no-joint n)
        go (ending.joins running set up five together n f) = absurd (no-joint n)
        go (ending.parts closing final back n f) = absurd (no-joint n)
        go (ending.ups running set settled n f) = absurd (no-lender n)
        go (ending.downs closing final settled yet n f) = absurd (no-lender n)

    by-bearer : (p : Part) → In p m.parts → bears channel p ≡ true → wanted_of (facts_of m) channel (Some p) ≡ Some state → Signing-step
    by-bearer (kinds.Root r) i e w = by-root r i e w
    by-bearer (kinds.OnLedger l c) i e w = absurd (clash false e refl)
    by-bearer (kinds.Middle v) i e w = absurd (clash false e refl)
    by-bearer (kinds.End v) i e w = by-end v i e w

    ledger-step : Signing-step
    ledger-step = go signs
      where
        by : Asked → Signing-step
        by y = asked-so y.about
          where
            asked-so : (is_among channel (ledgers_of y.part) ≡ true) ⊎ (is_among channel (joined_of y.part) ≡ true) → Signing-step
            asked-so (inl stands) =
                let w = stands-lent s h journal fair known whole ends middles past x front next y.part y.there channel (among-in channel (ledgers_of y.part) stands) in
                by-lent y.part y.there w.0 w.1 y.wanted
            asked-so (inr joined) =
                by-bearer y.part y.there (ledger-part s h journal fair whole past front next.place y.part y.there channel (joined-among channel y.part joined) on) y.wanted

        go : Signs (pending front) m channel state → Signing-step
        go (pays paid asset amount waits is) =
            absurd (clash (is_ledger s.key journal channel) on (subst (λ (n : List ℕ). is_ledger s.key journal n ≡ false) (same_bytes paid channel is) (paying past front next.place paid asset amount waits).0))
        go (wants w) = by (asks w)

  pub signing-step : StepAt s journal past past front (x ∷ front)
  signing-step = go (either (is_ledger s.key journal channel))
    where
      go : (is_ledger s.key journal channel ≡ true) ⊎ (is_ledger s.key journal channel ≡ false) → StepAt s journal past past front (x ∷ front)
      go (inl on) = (ledger-step on).0
      go (inr off) = elsewhere-step off

  -- so it is of each ledger
  pub signing-first : (l : List ℕ) → is_ledger s.key journal l ≡ true → own_at s.key journal front l ≡ None → (first : StateParts) → own_at s.key journal (x ∷ front) l ≡ Some first → FirstBy s past front l first
  signing-first l on none first signed = by (either (bytes_eq l channel))
    where
      here : l ≡ channel → FirstBy s past front l first
      here it =
          let there = subst (λ (n : List ℕ). is_ledger s.key journal n ≡ true) it on in
          let f = (ledger-step there).1 (subst (λ (n : List ℕ). own_at s.key journal front n ≡ None) it none) in
          let same = some-eq state first (sym (own-now there) ∙ subst (λ (n : List ℕ). own_at s.key journal (x ∷ front) n ≡ Some first) it signed) in
          record {
            part = f.part;
            there = f.there;
            bearing = subst (λ (n : List ℕ). bears n f.part ≡ true) (sym it) f.bearing;
            goal = f.goal;
            found = subst (λ (n : List ℕ). goal_in (facts_of m) n ≡ Some f.goal) (sym it) f.found;
            is = ap (λ (z : StateParts). z.outcome) (sym same) ∙ f.is;
          }

      by : (bytes_eq l channel ≡ true) ⊎ (bytes_eq l channel ≡ false) → FirstBy s past front l first
      by (inl same) = here (same_bytes l channel same)
      by (inr differ) = absurd (none-eq first (sym none ∙ (sym (own-other l differ) ∙ signed)))
