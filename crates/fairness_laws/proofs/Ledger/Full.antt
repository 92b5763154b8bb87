-- The ledgers on which a part stands. They are held, they are open while they weren't commanded to close, and what
-- they set aside with no votes is there in full.
use Rattle.std.proofs.Common.{◌≡◌, ℕ, ◌+◌, ◌*◌, ◌-◌, ◌<◌, ◌≤◌, true, false, ◌==◌, List, ◌⊎◌, inl, refl, sym, ◌∙◌, ap, subst, arith}
use Rattle.std.specs.Prelude.{Option, Some, None}
use Rattle.std.specs.Option.{option_map}
use Rattle.channel_values.specs.Parts.{FixedParts, StateParts}
use Rattle.channel_values.specs.declared.chain.Signed.{Signed}
use Rattle.channel_values.specs.declared.value.AssetOutcome.{AssetOutcome}
use Rattle.channel_safety.proofs.Tests.{cond-true, clash}
use Rattle.call_history.proofs.Names.{same_bytes}
use Rattle.call_history.specs.Flows.{is_among}
use Rattle.call_history.specs.History.{mode}
use Rattle.call_history.specs.Marked.{marked_of}
use Rattle.call_history.specs.declared.entry.Entry.{Entry}
use Rattle.channel_values.specs.Rules.{people}
use Rattle.channel_store.specs.Keeping.{is_held}
use Rattle.channel_store.specs.declared.kept.Kept.{Kept}
use Rattle.call_history.specs.Mode.{is_final}
use Rattle.funding_plans.specs.Parts.{ledgers_of, closed}
use Rattle.funding_plans.specs.declared.plan.Goal.{Goal}
use Rattle.funding_plans.specs.declared.plan.Part.{Part}
use Rattle.funding_plans.specs.declared.plan.Part.TheVariants.{Root, OnLedger, End, Middle}
use Rattle.funding_plans.specs.declared.plan.Virtual.{Virtual}
use Rattle.ledger_channel.specs.Roots.{Direct, root_rows}
use Rattle.ledger_channel.specs.Stages.{stage_of_root}
use Rattle.channel_safety.specs.Held.{held}
use Rattle.channel_safety.specs.Journals.{In, Line}
use Rattle.network.specs.declared.command.Command.TheVariants as commands
use Rattle.channel_node.proofs.Reaching.{Reaches}
use Rattle.channel_node.specs.Minds.{Mind, facts_of}
use Rattle.channel_node.specs.Places.{Told, lines_of, mind_at}
use Rattle.channel_node.specs.Playing.{Signing}
use Rattle.channel_node.specs.Refusing.{is_open, stands_in, not_open}
use Rattle.node_guarantees.specs.Orders.{orders_of}
use Rattle.stage_tables.specs.Stages.{stages}
use Rattle.fairness_laws.proofs.Seat.Past.{several, two-people, one-fixed}
use Rattle.fairness_laws.proofs.Live.{below-not, live-open}
use Rattle.fairness_laws.proofs.Rows.{at-most}
use Rattle.fairness_laws.proofs.Paying.{reaches-held}
use Rattle.fairness_laws.proofs.Plan.Places.{plays-there}
use Rattle.fairness_laws.proofs.OpenedParts.{later-took, root-opened}
use Rattle.fairness_laws.proofs.Plan.Parts.{parts_are_known}
use Rattle.fairness_laws.proofs.Seat.Sitting.{could}
use Rattle.fairness_laws.proofs.Payment.Made.{held-ends}
use Rattle.fairness_laws.proofs.Signing.{sits, opens-not_final}
use Rattle.fairness_laws.specs.LedgerLaws.{LedgersKeep, LedgersStand, StandsOn}
use Rattle.fairness_laws.specs.LedgerLending.{Lent, lent}
use Rattle.fairness_laws.specs.PaymentLaws.{At}
use Rattle.fairness_laws.specs.PlanLaws.{PartAt}
use Rattle.fairness_laws.specs.PlanParts.{LedgerIs}
use Rattle.fairness_laws.specs.PlanSeats.{SeatIs}
use Rattle.fairness_laws.specs.PlanSettings.{IsFair}
use Rattle.fairness_laws.specs.SeatSitting.{HeldEnds, Sits}
use Rattle.share_laws.specs.Places.{Order}
use Rattle.fairness_laws.proofs.OpenedVirtuals.{end-opened}
use Rattle.fairness_laws.proofs.Plan.Asked.{bearer-at}
use Rattle.fairness_laws.proofs.Plan.Bearers.{Bearer, bears-joined}
use Rattle.fairness_laws.specs.PlanBearers.{bears}
use Rattle.share_laws.specs.Settled.{EndsWith, InFull}
use Rattle.funding_plans.specs.Gathered.{goal_in}
use Rattle.funding_plans.specs.Rows.{stage_in}
use Rattle.funding_plans.specs.Seats.{Seat}
use Rattle.support_rules.specs.Real.{real}
use Rattle.virtual_channel.specs.Ends.{End as Ending, end_rows}
use Rattle.virtual_channel.specs.Stages.{stage_of_end}
use Rattle.fairness_laws.proofs.FirstRounds as firsts
use Rattle.fairness_laws.proofs.RootOpening.{root-starts}

-- a root that wasn't commanded to close isn't closed
early-root : (d : Direct) → d.closing ≡ false → stage_in (root_rows d) < 6
early-root d stays = let l : stage_in (root_rows d) ≤ 3 = at-most (root_rows d) 3 stays in omega (arith, l)

-- nor is an end
early-end : (d : Ending) → d.closing ≡ false → stage_in (end_rows d) < 9
early-end d stays = let l : stage_in (end_rows d) ≤ 5 = at-most (end_rows d) 5 stays in omega (arith, l)

module _ (s : Signing) (h : List Entry) (journal : List Told) (fair : IsFair s h journal) (past : List Entry) (front : List Told) (at : At s h journal past front)
    (p : Part) (planned : In p (mind_at real s.key past front).parts) (l : List ℕ) (on : is_among l (ledgers_of p) ≡ true) where
  abbrev m : Mind
  m = mind_at real s.key past front

  abbrev lines : List Line
  lines = lines_of s.key front

  abbrev orders : ℕ → Order
  orders = orders_of real s.key journal

  -- the part whose channel it is
  bearer : Bearer m.parts l
  bearer = bearer-at s h journal fair past front at l p planned on

  known : (q : Part) → In q m.parts → PartAt s past front q
  known q i = parts_are_known s h journal past front fair.nodes at.front_is q i

  -- that isn't closed where it doesn't close
  early : ((g : Goal) → goal_in (facts_of m) l ≡ Some g → g.closing ≡ false) → (q : Part) → bears l q ≡ true → PartAt s past front q → (stages.stage (facts_of m) q == closed q) ≡ false
  early stays (Root c) e y =
      ap (λ (d : Option Direct). stage_of_root d == 6) y.is.is
      ∙ below-not (stage_in (root_rows y.is.direct)) 6
      (early-root y.is.direct (y.is.closing ∙ stays y.goal (subst (λ (n : List ℕ). goal_in (facts_of m) n ≡ Some y.goal) (same_bytes c l e) y.found)))
  early stays (OnLedger n c) e y = absurd (clash false e refl)
  early stays (End v) e y =
      ap (λ (d : Option Ending). stage_of_end d == 9) y.is.is
      ∙ below-not (stage_in (end_rows y.is.end)) 9
      (early-end y.is.end (y.is.closing ∙ stays y.goal (subst (λ (n : List ℕ). goal_in (facts_of m) n ≡ Some y.goal) (same_bytes v.channel l e) y.found)))
  early stays (Middle v) e y = absurd (clash false e refl)

  -- open
  pub ledger-open : not_open stages (facts_of m) ≡ None → ((g : Goal) → goal_in (facts_of m) l ≡ Some g → g.closing ≡ false) → is_open (stands_in (facts_of m) l) ≡ true
  ledger-open live stays =
      live-open (facts_of m) bearer.part l live bearer.there (early stays bearer.part bearer.is (known bearer.part bearer.there)) (bears-joined l bearer.part bearer.is)

  pub ledger-going : not_open stages (facts_of m) ≡ None → ((g : Goal) → goal_in (facts_of m) l ≡ Some g → g.closing ≡ false) → is_final (mode real l past) ≡ false
  ledger-going live stays =
      opens-not_final s h journal fair past front at l (ledger-open live stays)

  -- held past its set-up
  pub ledger-reaches : (f : FixedParts) (opening : List AssetOutcome) (c : Seat) → SeatIs s.key past lines f opening c → real.named f ≡ l → Reaches real f (2 * people f - 1) (held real f past lines)
  ledger-reaches f opening c seat named = by bearer.part bearer.there bearer.is
    where
      of-root : (n : List ℕ) → In (Root n) m.parts → n ≡ l → PartAt s past front (Root n) → Reaches real f (2 * people f - 1) (held real f past lines)
      of-root n i same y =
          let ro = root-opened s h journal fair past front at n y.goal i y.found f seat.own.there (named ∙ sym same) in
          (firsts.lent s h journal fair.nodes.legal fair.nodes.plays (commands.Open f ro.outcome) (Root (real.named f)) f ro.outcome (2 * people f - 1)
          (later-took s h journal fair past front at (commands.Open f ro.outcome) ro.took) (inl refl) (inl refl) (root-starts f ro.outcome) (several s.key past lines f opening c seat)
          at.front_is.newer front at.front_is.events (plays-there s h journal fair.nodes past front at.front_is) at.front_is.later past at.front_is.entries at.front_is.before p planned
          (subst (λ (n : List ℕ). is_among n (ledgers_of p) ≡ true) (sym named) on)).1 (subst (λ (z : List ℕ). In (Root z) m.parts) (same ∙ sym named) i)

      of-end : (v : Virtual) → In (End v) m.parts → v.channel ≡ l → PartAt s past front (End v) → Reaches real f (2 * people f - 1) (held real f past lines)
      of-end v i same y =
          let one = one-fixed s h journal fair past front at.front_is past front at.front_is y.is.fixed f y.is.seat.own.there seat.own.there (y.is.named ∙ (same ∙ sym named)) in
          subst (λ (n : ℕ). Reaches real f n (held real f past lines))
          (third (people f) (ap people (sym one) ∙ two-people y.is.fixed y.is.end.terms.first y.is.end.terms.second y.is.people))
          (subst (λ (x : FixedParts). Reaches real x 3 (held real x past lines)) one
          ((end-opened s h journal fair past front at v y.goal i y.is).borne p planned (subst (λ (n : List ℕ). is_among n (ledgers_of p) ≡ true) (sym same) on)))
        where
          third : (n : ℕ) → n ≡ 2 → 3 ≡ 2 * n - 1
          third n e = omega arith

      by : (q : Part) → In q m.parts → bears l q ≡ true → Reaches real f (2 * people f - 1) (held real f past lines)
      by (Root n) i e = of-root n i (same_bytes n l e) (known (Root n) i)
      by (OnLedger n c) i e = absurd (clash false e refl)
      by (End v) i e = of-end v i (same_bytes v.channel l e) (known (End v) i)
      by (Middle v) i e = absurd (clash false e refl)

  pub ledger-held : (f : FixedParts) (opening : List AssetOutcome) (c : Seat) (seat : SeatIs s.key past lines f opening c) → real.named f ≡ l → is_held seat.kept ≡ true
  ledger-held f opening c seat named =
      reaches-held s h journal fair past front at f seat.kept seat.at (2 * people f - 1) (root-starts f opening).enough (ledger-reaches f opening c seat named)

  -- and signed last
  pub record SignedLast (f : FixedParts) (c : Seat) (k : Kept) : Type 0 where
    pub ends : HeldEnds s.key lines f (marked_of k.chain)
    pub own_is : c.own ≡ Some ends.last.state

  pub signed-last : (first second : List ℕ) (c : Seat) (is : LedgerIs s.key past lines first second l c) → SignedLast is.fixed c is.seat.kept
  signed-last first second c is = record {
    ends = ends;
    own_is =
        ap (λ (y : Seat). y.own) is.seat.is
        ∙ (cond-true (is_held is.seat.kept) is.seat.kept.last None held-there ∙ (is.seat.at.last ∙ ap (λ (o : Option Signed). option_map (λ (x : Signed). x.state) o) ends.is));
  }
    where
      held-there : is_held is.seat.kept ≡ true
      held-there = ledger-held is.fixed c.opening c is.seat is.named

      ends : HeldEnds s.key lines is.fixed (marked_of is.seat.kept.chain)
      ends = held-ends s h journal fair is.fixed past lines at.place is.seat.own.there is.seat.kept is.seat.at held-there

  -- where it sets something aside with no votes, and wasn't commanded to close
  pub in-full : not_open stages (facts_of m) ≡ None → LedgersKeep (facts_of m) → LedgersStand (facts_of m) → (k : Lent) → lent (facts_of m) l p ≡ Some k → (first second : List ℕ)
      → LedgerIs s.key past lines first second l k.ledger → k.is_up ≡ true → ((k.closing ≡ false) × (k.done ≡ false)) ⊎ ((k.closing ≡ true) × (k.falls ≡ false))
      → (promise : List AssetOutcome) → EndsWith real past lines k.child.name promise → InFull real past lines l k.child.name k.child.asset (k.child.a + k.child.b)
  in-full live keep stand k lends first second is up why promise guarantor = record {
    promise = promise;
    guarantor = guarantor;
    outcome = last.outcome;
    ledger = record { fixed = is.fixed; own = is.seat.own; is = is.named; alone = could s.key orders past lines is.fixed k.ledger.opening k.ledger sit (ledger-held is.fixed k.ledger.opening k.ledger sit.seat is.named) ends.last ends.is ∙ on-it.up.alone };
    named = on-it.up.named;
    amount = ((keep p l k last planned lends own-is).backs p k last.outcome planned lends (inl refl)).amount on-it.up.named;
  }
    where
      signed : SignedLast is.fixed k.ledger is.seat.kept
      signed = signed-last first second k.ledger is

      ends : HeldEnds s.key lines is.fixed (marked_of is.seat.kept.chain)
      ends = signed.ends

      last : StateParts
      last = ends.last.state

      own-is : k.ledger.own ≡ Some last
      own-is = signed.own_is

      on-it : StandsOn (facts_of m) l k last
      on-it = stand p l k last planned lends own-is up why

      sit : Sits s.key orders past lines is.fixed k.ledger.opening k.ledger
      sit =
          sits s h journal fair past front at is.fixed k.ledger.opening k.ledger is.seat
          (subst (λ (n : List ℕ). is_final (mode real n past) ≡ false) (sym is.named) (ledger-going live on-it.stays_open))
