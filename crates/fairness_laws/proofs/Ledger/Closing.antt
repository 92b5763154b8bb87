-- A part that begins to close: none is pending then, and it has gone up.
use Rattle.std.proofs.Common.{◌≡◌, ℕ, ◌*◌, ◌<◌, ◌≤◌, Bool, true, false, cond, ◌&&◌, not, List, [], ◌∷◌, inl, inr, length, refl, sym, ◌∙◌, ap, subst, arith}
use Rattle.std.proofs.lemmas.Bool.Decides.{nat_tests}
use Rattle.std.specs.Prelude.{◌==◌, nat_lt, Option, Some, None, map}
use Rattle.std.specs.List.{find, position_or_len, slice_get}
use Rattle.std.specs.Option.{option_map}
use Rattle.channel_values.specs.Parts.{FixedParts, StateParts}
use Rattle.channel_values.specs.declared.value.AssetOutcome.{AssetOutcome}
use Rattle.channel_safety.proofs.Tests.{some-eq, none-eq, clash, eqb-true}
use Rattle.call_history.proofs.Names.{same_bytes}
use Rattle.call_history.specs.Flows.{is_among}
use Rattle.call_history.specs.declared.entry.Entry.{Entry}
use Rattle.call_history.specs.declared.event.NodeRefusal.TheVariants.{NotWanted}
use Rattle.channel_store.specs.Keeping.{is_held}
use Rattle.funding_plans.specs.Parts.{own_channel, channels_of, own_ledger, running}
use Rattle.funding_plans.specs.declared.plan.Goal.{Goal}
use Rattle.funding_plans.specs.declared.plan.Part.{Part}
use Rattle.funding_plans.specs.declared.plan.Part.TheVariants as kinds
use Rattle.funding_plans.specs.declared.plan.Virtual.{Virtual}
use Rattle.ledger_channel.specs.OnLedgers.{Funded, on_ledger_rows}
use Rattle.ledger_channel.specs.Stages.{stage_on_ledger, funded_in}
use Rattle.channel_safety.specs.Journals.{In, made_in}
use Rattle.channel_node.proofs.Allowing.{holds_not}
use Rattle.channel_node.specs.Minds.{Mind, facts_of, place_with, close_if}
use Rattle.channel_node.specs.Places.{Told, line_of, lines_of, mind_at}
use Rattle.channel_node.specs.Playing.{Signing}
use Rattle.channel_node.specs.Refusing.{unfinished, unfinished_part, part_with, close_part, release_part}
use Rattle.stage_tables.specs.Stages.{stages}
use Rattle.funding_plans.specs.Outcomes.{names}
use Rattle.funding_plans.specs.declared.child.Child.{Child}
use Rattle.stage_tables.specs.Asked.{is_unfinished, is_unfinished_at, is_closing}
use Rattle.share_laws.specs.Places.{last_made}
use Rattle.funding_plans.specs.Gathered.{goal_at, goal_in}
use Rattle.funding_plans.specs.Rows.{stage_in}
use Rattle.funding_plans.specs.Seats.{Seat, state_is, holds, has_signed_past, is_down}
use Rattle.channel_store.proofs.Places.{found_at_place, found_passes}
use Rattle.support_rules.specs.Real.{real}
use Rattle.support_rules.specs.Steps.{persons}
use Rattle.virtual_channel.specs.Ends.{End, end_rows}
use Rattle.virtual_channel.specs.Middles.{Middle, middle_rows}
use Rattle.virtual_channel.specs.Stages.{stage_of_end, stage_of_middle, end_in, middle_in}
use Rattle.fairness_laws.proofs.Planned.{own-among}
use Rattle.fairness_laws.specs.JointKeeping.{EndsKeep, MiddlesKeep}
use Rattle.fairness_laws.proofs.Truths.{both-ways, untrue}
use Rattle.fairness_laws.proofs.Seat.Past.{two-people, own-is, past-before}
use Rattle.fairness_laws.specs.LedgerKeeping.{IsPending, PendingOn, Closing, other, this}
use Rattle.fairness_laws.specs.LedgerLending.{Lent, of_funded, of_end}
use Rattle.fairness_laws.specs.LedgerPlaces.{is_ledger, own_at, lends_at, closes, drifts, StepAt}
use Rattle.fairness_laws.specs.PaymentLaws.{At, ActsNext}
use Rattle.fairness_laws.specs.PlanLaws.{PartAt, PartsAreKnown}
use Rattle.fairness_laws.specs.PlanParts.{LedgerIs, OnLedgerIs, EndIs, MiddleIs}
use Rattle.fairness_laws.specs.PlanSeats.{SeatIs}
use Rattle.fairness_laws.specs.PlanSettings.{IsFair}
use Rattle.fairness_laws.proofs.Ledger.Drifting.{child-same, up-stays, up-before, done-same, falls-same}
use Rattle.fairness_laws.proofs.Plan.Goals.{about, goal-closes}
use Rattle.fairness_laws.proofs.Closing.{find-in, goal-found}
use Rattle.fairness_laws.proofs.Accepted.{Closed, closed, LetGo, let-go, IsKept, kept-on-ledger, kept-end, kept-middle}
use Rattle.fairness_laws.proofs.Plan.Asked.{one-of-parts}
use Rattle.fairness_laws.proofs.Live.{each-none}
use Rattle.fairness_laws.proofs.EventPlaces.{at-before, at-after}
use Rattle.fairness_laws.proofs.Seat.Held.{held-past}
use Rattle.fairness_laws.proofs.Ledger.Lent.{LendsAt, by-kind, lends-is, lent-again, of-a, of-b}
use Rattle.fairness_laws.proofs.Ledger.Quiet.{grows-by, made-same, own-quiet, quiet-drift}
use Rattle.fairness_laws.proofs.Ledger.Ready.{falls-closes, part-at, end-keeps, middle-keeps}
use Rattle.fairness_laws.proofs.Stages.{end-opening, end-closing, end-runs, middle-opening, middle-closing, middle-runs}
use Rattle.fairness_laws.proofs.Ledger.Wanting.{funded_unfinished, funded_runs}
use Rattle.channel_safety.proofs.Lists.{In-get}
use Rattle.network.specs.declared.command.Release.{Release}

-- ---- tests

-- ---- at an event

module _ (s : Signing) (h : List Entry) (journal : List Told) (fair : IsFair s h journal) (known : PartsAreKnown) (ends : EndsKeep) (middles : MiddlesKeep)
    (past : List Entry) (x : Told) (front : List Told) (next : ActsNext s h journal past x front) where
  abbrev m : Mind
  m = mind_at real s.key past front

  abbrev new : Mind
  new = mind_at real s.key past (x ∷ front)

  at : At s h journal past front
  at = at-before s h journal fair past x front next

  then : At s h journal past (x ∷ front)
  then = at-after s h journal fair past x front next

  -- ---- payment channels of two people

  module _ (f : FixedParts) (opening : List AssetOutcome) (c : Seat) (seat : SeatIs s.key past (lines_of s.key front) f opening c) (first second : List ℕ)
      (are : persons f ≡ first ∷ second ∷ []) where
    pub third-past : holds 3 c ≡ true → has_signed_past c ≡ true
    third-past = held-past s h journal fair past front at f opening c seat 3 (subst (λ (n : ℕ). 2 * n ≤ 4) (sym (two-people f first second are)) (omega arith))

  -- ---- what is pending

  -- what a ledger is known to end with
  names-yet : (l one both : List ℕ) (k : Child) (c : Seat) → LedgerIs s.key past (lines_of s.key front) one both l c → (last : StateParts) → own_at s.key journal front l ≡ Some last
      → names k last.outcome ≡ true → is_down k c ≡ false
  names-yet l one both k c on last e named = go (is_held on.seat.kept) (is_ledger s.key journal l) (option_map (λ s. s.state) (last_made l (lines_of s.key front))) e known-own
    where
      known-own : c.own ≡ cond (is_held on.seat.kept) (option_map (λ s. s.state) (last_made l (lines_of s.key front))) None
      known-own =
          own-is s h journal fair.nodes past front next.place on.fixed c.opening c on.seat
          ∙ ap (λ (n : List ℕ). cond (is_held on.seat.kept) (option_map (λ s. s.state) (last_made n (lines_of s.key front))) None) on.named

      go : (b t : Bool) (o : Option StateParts) → cond t o None ≡ Some last → c.own ≡ cond b o None → is_down k c ≡ false
      go false t o e is = ap (state_is (λ s. not (names k s.outcome))) is
      go true false o e is = absurd (none-eq last e)
      go true true o e is = ap (state_is (λ s. not (names k s.outcome))) (is ∙ e) ∙ ap not named

  child-unfinished : (l c : List ℕ) (g : Goal) (o : OnLedgerIs s.key past (lines_of s.key front) (facts_of m) l c g) (last : StateParts)
      → own_at s.key journal front l ≡ Some last → IsPending (of_funded o.funded) last → is_unfinished_at (kinds.OnLedger l c) o.funded.closing (stage_in (on_ledger_rows o.funded)) ≡ true
  child-unfinished l c g o last e (inl early) =
      low o.funded.closing (stage_in (on_ledger_rows o.funded)) early.0
      ((funded_unfinished o.funded).0 early.0 early.1 (third-past o.fixed g.opening o.funded.channel o.seat o.funded.child.first o.funded.child.second o.people))
    where
      low : (b : Bool) (n : ℕ) → b ≡ false → n < 3 → cond b (not (n == 6)) (nat_lt n 3) ≡ true
      low true n f q = absurd (clash true refl f)
      low false n f q = grind (arith, nat_tests)
  child-unfinished l c g o last e (inr late) =
      high o.funded.closing (stage_in (on_ledger_rows o.funded)) late.0
      ((funded_unfinished o.funded).1 late.0 (names-yet l o.funded.child.first o.funded.child.second o.funded.child o.funded.ledger o.on last e late.1))
    where
      high : (b : Bool) (n : ℕ) → b ≡ true → n < 6 → cond b (not (n == 6)) (nat_lt n 3) ≡ true
      high true n f q = ap not (six n q)
        where
          six : (n : ℕ) → n < 6 → (n == 6) ≡ false
          six n q = grind (arith, nat_tests)
      high false n f q = absurd (clash false f refl)

  opening-yet : (b : Bool) (n : ℕ) → b ≡ false → n < 5 → cond b (not (n == 9)) (nat_lt n 5) ≡ true
  opening-yet true n f q = absurd (clash true refl f)
  opening-yet false n f q = grind (arith, nat_tests)

  closing-yet : (b : Bool) (n : ℕ) → b ≡ true → n < 9 → cond b (not (n == 9)) (nat_lt n 5) ≡ true
  closing-yet true n f q = ap not (nine n q)
    where
      nine : (n : ℕ) → n < 9 → (n == 9) ≡ false
      nine n q = grind (arith, nat_tests)
  closing-yet false n f q = absurd (clash false f refl)

  -- a part that is pending is unfinished
  pub pending-unfinished : (p : Part) (i : In p m.parts) (l : List ℕ) (k : Lent) → lends_at s past front l p ≡ Some k → (last : StateParts) → own_at s.key journal front l ≡ Some last
      → IsPending k last → is_unfinished (facts_of m) p ≡ true
  pending-unfinished p i l k is =
      by-kind s past front (λ (l : List ℕ) (p : Part) (k : Lent). (last : StateParts) → own_at s.key journal front l ≡ Some last → IsPending k last → is_unfinished (facts_of m) p ≡ true) p
      (part-at s h journal fair known ends middles past front at p i)
      (λ l c g o same found last e pending.
      ap (λ (z : Option Goal). is_unfinished_at (kinds.OnLedger l c) (is_closing z) (stage_on_ledger (funded_in (facts_of m) l c))) found
      ∙ (ap (λ (z : Option Funded). is_unfinished_at (kinds.OnLedger l c) g.closing (stage_on_ledger z)) o.is
      ∙ (ap (λ (b : Bool). is_unfinished_at (kinds.OnLedger l c) b (stage_in (on_ledger_rows o.funded))) (sym o.closing) ∙ child-unfinished l c g o last e pending)))
      (λ v g y same found last e pending.
      ap (λ (z : Option Goal). is_unfinished_at (kinds.End v) (is_closing z) (stage_of_end (end_in (facts_of m) v))) found
      ∙ (ap (λ (z : Option End). is_unfinished_at (kinds.End v) g.closing (stage_of_end z)) y.is
      ∙ (ap (λ (b : Bool). is_unfinished_at (kinds.End v) b (stage_in (end_rows y.end))) (sym y.closing) ∙ of-end v g y last e pending)))
      (λ v g y same found last e pending. middle-is v g y found ∙ of-first v g y last e pending)
      (λ v g y same found differ last e pending. middle-is v g y found ∙ of-second v g y last e pending)
      l k is
    where
      of-end : (v : Virtual) (g : Goal) (y : EndIs s.key past (lines_of s.key front) (facts_of m) v g) (last : StateParts) → own_at s.key journal front (own_ledger v) ≡ Some last
          → IsPending (of_end y.end) last → is_unfinished_at (kinds.End v) y.end.closing (stage_in (end_rows y.end)) ≡ true
      of-end v g y last e (inl early) =
          opening-yet y.end.closing (stage_in (end_rows y.end)) early.0
          (end-opening y.end early.0
          (untrue (holds 3 y.end.channel) (has_signed_past y.end.channel) (third-past y.fixed g.opening y.end.channel y.seat y.end.terms.first y.end.terms.second y.people) early.1))
      of-end v g y last e (inr late) =
          closing-yet y.end.closing (stage_in (end_rows y.end)) late.0
          (end-closing y.end (names-yet (own_ledger v) y.end.child.first y.end.child.second y.end.child y.end.ledger y.on last e late.1))

      middle-is : (v : Virtual) (g : Goal) (y : MiddleIs s.key past (lines_of s.key front) (facts_of m) v g) → goal_in (facts_of m) v.channel ≡ Some g
          → is_unfinished (facts_of m) (kinds.Middle v) ≡ is_unfinished_at (kinds.Middle v) y.middle.closing (stage_in (middle_rows y.middle))
      middle-is v g y found =
          ap (λ (z : Option Goal). is_unfinished_at (kinds.Middle v) (is_closing z) (stage_of_middle (middle_in (facts_of m) v))) found
          ∙ (ap (λ (z : Option Middle). is_unfinished_at (kinds.Middle v) g.closing (stage_of_middle z)) y.is
          ∙ ap (λ (b : Bool). is_unfinished_at (kinds.Middle v) b (stage_in (middle_rows y.middle))) (sym y.closing))

      down-first : (a b : Bool) → a ≡ false → (a && b) ≡ false
      down-first a b e = ap (λ (t : Bool). t && b) e

      down-second : (a b : Bool) → b ≡ false → (a && b) ≡ false
      down-second true b e = e
      down-second false b e = refl

      of-first : (v : Virtual) (g : Goal) (y : MiddleIs s.key past (lines_of s.key front) (facts_of m) v g) (last : StateParts) → own_at s.key journal front v.ledger_a ≡ Some last
          → IsPending (of-a y.middle) last → is_unfinished_at (kinds.Middle v) y.middle.closing (stage_in (middle_rows y.middle)) ≡ true
      of-first v g y last e (inl early) = opening-yet y.middle.closing (stage_in (middle_rows y.middle)) early.0 (middle-opening y.middle early.0 early.1)
      of-first v g y last e (inr late) =
          closing-yet y.middle.closing (stage_in (middle_rows y.middle)) late.0
          (middle-closing y.middle (down-first (is_down y.middle.child_a y.middle.ledger_a) (is_down y.middle.child_b y.middle.ledger_b)
          (names-yet v.ledger_a y.middle.child_a.first y.middle.child_a.second y.middle.child_a y.middle.ledger_a y.on_a last e late.1)))

      of-second : (v : Virtual) (g : Goal) (y : MiddleIs s.key past (lines_of s.key front) (facts_of m) v g) (last : StateParts) → own_at s.key journal front v.ledger_b ≡ Some last
          → IsPending (of-b y.middle) last → is_unfinished_at (kinds.Middle v) y.middle.closing (stage_in (middle_rows y.middle)) ≡ true
      of-second v g y last e (inl early) = opening-yet y.middle.closing (stage_in (middle_rows y.middle)) early.0 (middle-opening y.middle early.0 early.1)
      of-second v g y last e (inr late) =
          closing-yet y.middle.closing (stage_in (middle_rows y.middle)) late.0
          (middle-closing y.middle (down-second (is_down y.middle.child_a y.middle.ledger_a) (is_down y.middle.child_b y.middle.ledger_b)
          (names-yet v.ledger_b y.middle.child_b.first y.middle.child_b.second y.middle.child_b y.middle.ledger_b y.on_b last e late.1)))

  -- where a part isn't unfinished nothing is pending on it
  pub not-pending : (q : Part) → In q m.parts → is_unfinished (facts_of m) q ≡ false → PendingOn (lends_at s past front) (own_at s.key journal front) q → ⊥
  not-pending q i e w = clash (is_unfinished (facts_of m) q) (pending-unfinished q i w.ledger w.lent w.is w.last w.signed w.pending) e

  -- where nothing is unfinished nothing is pending
  pub none-pending : unfinished stages (facts_of m) ≡ None → (q : Part) → In q m.parts → PendingOn (lends_at s past front) (own_at s.key journal front) q → ⊥
  none-pending e q i w =
      clash (is_unfinished (facts_of m) q) (pending-unfinished q i w.ledger w.lent w.is w.last w.signed w.pending)
      (holds_not (is_unfinished (facts_of m) q) (NotWanted (stages.stage (facts_of m) q)) (each-none (unfinished_part stages (facts_of m)) m.parts e q i))

  -- ---- a part that runs

  -- it isn't closing, and has gone up
  pub runs-up : (p : Part) (i : In p m.parts) (l : List ℕ) (k : Lent) → lends_at s past front l p ≡ Some k → (stages.stage (facts_of m) p == running p) ≡ true → (k.closing ≡ false) × (k.is_up ≡ true)
  runs-up p i l k is =
      by-kind s past front (λ (l : List ℕ) (p : Part) (k : Lent). (stages.stage (facts_of m) p == running p) ≡ true → (k.closing ≡ false) × (k.is_up ≡ true)) p
      (part-at s h journal fair known ends middles past front at p i)
      (λ l c g o same found e.
      let r = funded_runs o.funded (eqb-true (stage_in (on_ledger_rows o.funded)) 3 (ap (λ (z : Option Funded). stage_on_ledger z == 3) (sym o.is) ∙ e)) in
      (r.0, third-past o.fixed g.opening o.funded.channel o.seat o.funded.child.first o.funded.child.second o.people r.1))
      (λ v g y same found e.
      let r = end-runs y.end (eqb-true (stage_in (end_rows y.end)) 5 (ap (λ (z : Option End). stage_of_end z == 5) (sym y.is) ∙ e)) in (
        r.going,
        (end-keeps s h journal fair known ends middles past front at v g (subst (λ (z : Part). In z m.parts) (sym same) i) y).past
            (inr (third-past y.fixed g.opening y.end.channel y.seat y.end.terms.first y.end.terms.second y.people r.posted)),
      ))
      (λ v g y same found e. middle v g y same e)
      (λ v g y same found differ e. middle v g y same e) l k is
    where
      middle : (v : Virtual) (g : Goal) (y : MiddleIs s.key past (lines_of s.key front) (facts_of m) v g) → kinds.Middle v ≡ p
          → (stages.stage (facts_of m) (kinds.Middle v) == running (kinds.Middle v)) ≡ true → (y.middle.closing ≡ false) × (has_signed_past y.middle.joint ≡ true)
      middle v g y same e =
          let r = middle-runs y.middle (eqb-true (stage_in (middle_rows y.middle)) 5 (ap (λ (z : Option Middle). stage_of_middle z == 5) (sym y.is) ∙ e)) in
          (r.going, (middle-keeps s h journal fair known ends middles past front at v g (subst (λ (z : Part). In z m.parts) (sym same) i) y).past (inr r.joined))

  -- ---- an accepted Close

  module _ (channel : List ℕ) (taken : None ≡ close_part stages m (part_with channel m.parts)) (parts : new.parts ≡ m.parts)
      (goals : new.goals ≡ map (λ goal. close_if false (goal.part == place_with channel m.parts) goal) m.goals) (unsigned : (c : List ℕ) → made_in c x.deed ≡ None) where
    of : Closed m channel
    of = closed m channel taken

    new-there : (p : Part) → In p m.parts → In p new.parts
    new-there p i = subst (In p) (sym parts) i

    module _ (l : List ℕ) (p : Part) (k j : Lent) (i : In p m.parts) (isk : lends_at s past front l p ≡ Some k) (isj : lends_at s past (x ∷ front) l p ≡ Some j) where
      a : LendsAt s past front l p k
      a = lends-is s past front p (part-at s h journal fair known ends middles past front at p i) l k isk

      b : LendsAt s past (x ∷ front) l p j
      b = lends-is s past (x ∷ front) p (part-at s h journal fair known ends middles past (x ∷ front) then p (new-there p i)) l j isj

      abbrev test : Bool
      test = a.goal.part == place_with channel m.parts

      goal-is : b.goal ≡ close_if false test a.goal
      goal-is = some-eq b.goal (close_if false test a.goal) (sym b.found ∙ goal-closes false m new (own_channel p) (place_with channel m.parts) parts goals a.goal a.found)

      same-opening : (t : Bool) (g : Goal) → (close_if false t g).opening ≡ g.opening
      same-opening true g = refl
      same-opening false g = refl

      same-amounts : (t : Bool) (g : Goal) → (close_if false t g).amounts ≡ g.amounts
      same-amounts true g = refl
      same-amounts false g = refl

      changes : j.child ≡ k.child
      changes =
          child-same s h journal fair known ends middles past front at past (x ∷ front) then l p k j a b (ap (λ (g : Goal). g.opening) goal-is ∙ same-opening test a.goal)
          (ap (λ (g : Goal). g.amounts) goal-is ∙ same-amounts test a.goal)

      up-same : j.is_up ≡ k.is_up
      up-same =
          both-ways k.is_up j.is_up
          (up-stays s h journal fair known ends middles past front at past (x ∷ front) then l p k j a b (grows-by s h journal fair known ends middles past x front next a.fixed a.seat.own.there))
          (up-before s h journal fair known ends middles past front at past (x ∷ front) then l p k j a b
          (past-before (line_of s.key x) (lines_of s.key front) a.fixed (unsigned (real.named a.fixed))))

      made-stays : (c : List ℕ) → last_made c (lines_of s.key (x ∷ front)) ≡ last_made c (lines_of s.key front)
      made-stays = made-same s h journal fair known ends middles past x front next unsigned

      -- its place is the part's
      it-is : test ≡ true → p ≡ of.part
      it-is e = go (nat_lt n (length m.parts)) refl a.found
        where
          n : ℕ
          n = position_or_len (about (own_channel p)) m.parts

          there : a.goal.part ≡ n → find (about (own_channel p)) m.parts ≡ Some of.part
          there at =
              sym (found_at_place (about (own_channel p)) m.parts)
              ∙ (ap (slice_get m.parts) (sym at ∙ eqb-true a.goal.part (place_with channel m.parts) e)
              ∙ (found_at_place (λ (part : Part). is_among channel (channels_of part)) m.parts ∙ of.found))

          go : (t : Bool) → nat_lt n (length m.parts) ≡ t → goal_at (cond t (Some n) None) m.goals ≡ Some a.goal → p ≡ of.part
          go false is e = absurd (none-eq a.goal e)
          go true is e =
              let f = there (eqb-true a.goal.part n (found_passes (λ (g : Goal). g.part == n) m.goals a.goal e)) in
              let q = of.part in
              one-of-parts s h journal fair past front at (own_channel p) p q i (find-in (about (own_channel p)) m.parts q f) (own-among p)
              (subst (λ (c : List ℕ). is_among c (channels_of q) ≡ true) (same_bytes (own_channel q) (own_channel p) (found_passes (about (own_channel p)) m.parts q f)) (own-among q))

      -- so it runs
      ran : test ≡ true → (k.closing ≡ false) × (k.is_up ≡ true)
      ran e = runs-up p i l k isk (subst (λ (q : Part). (stages.stage (facts_of m) q == running q) ≡ true) (sym (it-is e)) of.runs)

      closing-of : (t : Bool) → test ≡ t → Closing of.part p k j
      closing-of true e =
          let r = ran e in
          this (it-is e) (b.closing ∙ (ap (λ (g : Goal). g.closing) goal-is ∙ ap (λ (t : Bool). (close_if false t a.goal).closing) e)) r.0 r.1 (untrue k.falls k.closing (falls-closes s h journal fair known ends middles past front at p i l k isk) r.0)
      closing-of false e =
          let same : j.closing ≡ k.closing = b.closing ∙ (ap (λ (g : Goal). g.closing) goal-is ∙ (ap (λ (t : Bool). (close_if false t a.goal).closing) e ∙ sym a.closing)) in
          other same (falls-same s h journal fair known ends middles past front at past (x ∷ front) then made-stays p i (new-there p i) l k j isk isj same)

      done-stays : j.done ≡ k.done
      done-stays = done-same s h journal fair known ends middles past front at past (x ∷ front) then made-stays p i (new-there p i) l k j isk isj

    was : (p : Part) → In p m.parts → PartAt s past front p
    was p i = part-at s h journal fair known ends middles past front at p i

    now : (p : Part) → In p m.parts → PartAt s past (x ∷ front) p
    now p i = part-at s h journal fair known ends middles past (x ∷ front) then p (new-there p i)

    before : (l : List ℕ) (p : Part) (j : Lent) → In p m.parts → lends_at s past (x ∷ front) l p ≡ Some j
        → (k : Lent) × (lends_at s past front l p ≡ Some k) × (j.child ≡ k.child) × (j.is_up ≡ k.is_up) × (j.done ≡ k.done) × Closing of.part p k j
    before l p j i isj =
        let w = lent-again s past (x ∷ front) past front p (now p i) (was p i) l j isj in
        (w.0, w.1, changes l p w.0 j i w.1 isj, up-same l p w.0 j i w.1 isj, done-stays l p w.0 j i w.1 isj, closing-of l p w.0 j i w.1 isj (test l p w.0 j i w.1 isj) refl)

    after : (l : List ℕ) (p : Part) (k : Lent) → In p m.parts → lends_at s past front l p ≡ Some k → (j : Lent) × (lends_at s past (x ∷ front) l p ≡ Some j)
    after l p k i isk = lent-again s past front past (x ∷ front) p (was p i) (now p i) l k isk

    pub close-step : StepAt s journal past past front (x ∷ front)
    close-step =
        closes of.part parts (record { idle = none-pending of.idle; before = before; after = after }) (own-quiet s h journal fair known ends middles past x front next unsigned)

  -- ---- an accepted Release: of a root, which sets nothing aside

  module _ (channel : List ℕ) (how : Release) (taken : None ≡ release_part stages m how (part_with channel m.parts)) (parts : new.parts ≡ m.parts)
      (goals : new.goals ≡ map (λ goal. close_if true (goal.part == place_with channel m.parts) goal) m.goals) (unsigned : (c : List ℕ) → made_in c x.deed ≡ None) where
    gone : LetGo m channel
    gone = let-go m channel how taken

    -- what sets something aside is no root
    no-root : (l : List ℕ) (p : Part) (k : Lent) → lends_at s past front l p ≡ Some k → IsKept (facts_of m) p
    no-root l (kinds.Root c) k is = absurd (none-eq k is)
    no-root l (kinds.OnLedger n c) k is = kept-on-ledger (facts_of m) n c
    no-root l (kinds.End v) k is = kept-end (facts_of m) v
    no-root l (kinds.Middle v) k is = kept-middle (facts_of m) v

    goal-kept : (l : List ℕ) (p : Part) (k : Lent) → In p m.parts → lends_at s past front l p ≡ Some k
        → (g : Goal) → goal_in (facts_of m) (own_channel p) ≡ Some g → goal_in (facts_of new) (own_channel p) ≡ Some g
    goal-kept l p k i is g found =
        goal-closes true m new (own_channel p) (place_with channel m.parts) parts goals g found ∙ go (g.part == place_with channel m.parts) refl
      where
        go : (t : Bool) → (g.part == place_with channel m.parts) ≡ t → Some (close_if true t g) ≡ Some g
        go false e = refl
        go true e =
            let f = goal-found m.parts m.goals (own_channel p) g found in
            let q = some-eq f.q gone.part (sym f.at ∙ (ap (slice_get m.parts) (eqb-true g.part (place_with channel m.parts) e)
            ∙ (found_at_place (λ (part : Part). is_among channel (channels_of part)) m.parts ∙ gone.found))) in
            let same : f.q ≡ p =
            one-of-parts s h journal fair past front at (own_channel p) f.q p (In-get m.parts g.part f.q f.at) i
            (subst (λ (z : List ℕ). is_among z (channels_of f.q) ≡ true) (same_bytes (own_channel f.q) (own_channel p) f.about) (own-among f.q)) (own-among p) in
            absurd (no-root l p k is gone.how (subst (λ (z : Part). stages.releases (facts_of m) gone.how z ≡ true) (sym q ∙ same) gone.may))

    pub release-step : StepAt s journal past past front (x ∷ front)
    release-step =
        drifts parts
        (quiet-drift s h journal fair known ends middles past x front next unsigned (λ p i. subst (In p) (sym parts) i) goal-kept (own_at s.key journal front))
        (own-quiet s h journal fair known ends middles past x front next unsigned)
