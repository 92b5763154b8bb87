-- Where a payment waits a chain is held of its channel, which is a payment channel.
use Rattle.std.proofs.Common.{◌≡◌, ℕ, ◌+◌, ◌<◌, ◌≤◌, Bool, true, false, List, [], ◌∷◌, inl, inr, length, refl, sym, ◌∙◌, ap, subst, arith}
use Rattle.std.specs.Prelude.{nat_le, Some, None}
use Rattle.channel_safety.proofs.Lists.{In-get, get-within}
use Rattle.funding_plans.specs.declared.plan.Part.TheVariants.{Root, OnLedger, End}
use Rattle.share_laws.proofs.Finality.{opened-there}
use Rattle.fairness_laws.proofs.Apps.{no-payments, no-payments-either}
use Rattle.fairness_laws.proofs.Ledger.Payments.{app-of}
use Rattle.fairness_laws.proofs.Seat.Past.{occurs}
use Rattle.fairness_laws.proofs.Opening.Children.{child-starts}
use Rattle.fairness_laws.proofs.Opening.Ends.{end-starts, payment-channel-of}
use Rattle.fairness_laws.proofs.Opening.Guarantors.{AreFixed, are-fixed}
use Rattle.fairness_laws.proofs.Opening.Virtuals.{Differ, names-differ, at-end}
use Rattle.fairness_laws.proofs.Plan.Names.{place-within}
use Rattle.fairness_laws.proofs.Plan.Places.{plays-there}
use Rattle.fairness_laws.specs.Wanting.{PaysInHeld}
use Rattle.channel_node.specs.Minds.{facts_of}
use Rattle.channel_node.specs.Openings.{shared, virtual, takes_part, place_among, opened_by, parts_of}
use Rattle.share_laws.specs.Places.{channels}
use Rattle.virtual_channel.specs.Stages.{terms_for}
use Rattle.fairness_laws.proofs.Commanded.{fitted, stand, took-later}
use Rattle.fairness_laws.proofs.RootOpening.{root-starts}
use Rattle.std.proofs.lemmas.Bool.Decides.{nat_tests}
use Rattle.std.specs.Str.{bytes_eq}
use Rattle.channel_safety.proofs.Tests.{none-eq, some-eq, cond-true}
use Rattle.channel_values.specs.Parts.{FixedParts}
use Rattle.channel_values.specs.declared.value.AssetOutcome.{AssetOutcome}
use Rattle.call_history.proofs.Names.{bytes_eq_self}
use Rattle.call_history.specs.Marked.{Marked, marked_of, next_after}
use Rattle.call_history.specs.declared.entry.Entry.{Entry}
use Rattle.channel_values.specs.Rules.{people, newest}
use Rattle.channel_store.specs.Keeping.{is_held, next_of}
use Rattle.channel_store.specs.declared.kept.Kept.{Kept}
use Rattle.funding_plans.specs.declared.plan.Part.{Part}
use Rattle.channel_safety.specs.Held.{held}
use Rattle.channel_safety.specs.Journals.{In}
use Rattle.network.specs.declared.command.Command.{Command}
use Rattle.network.specs.declared.command.Command.TheVariants as commands
use Rattle.channel_node.proofs.Reaching.{Reaches}
use Rattle.channel_node.specs.Places.{Told, lines_of, mind_at}
use Rattle.channel_node.specs.Playing.{Signing, pending}
use Rattle.stage_tables.specs.Stages.{stages}
use Rattle.fairness_laws.proofs.Payment.Made.{young-next}
use Rattle.fairness_laws.specs.PaymentLaws.{At}
use Rattle.fairness_laws.specs.PlanSeats.{SeatIs}
use Rattle.fairness_laws.proofs.Plan.Holding.{Holds}
use Rattle.fairness_laws.specs.PlanSettings.{IsFair}
use Rattle.share_laws.specs.Signatures.{IsOwn}
use Rattle.funding_plans.specs.Seats.{Seat, state_is, holds}
use Rattle.support_rules.specs.Real.{real}
use Rattle.node_guarantees.specs.ViewLaws.{IsKeptAt}
use Rattle.fairness_laws.proofs.FirstRounds.{Starts, Opener, opener, waits, paid-app}
use Rattle.fairness_laws.specs.Opens.{Took}
use Rattle.fairness_laws.proofs.Signing.{kept-of}

-- how the command of a channel opens it
pub record Started (key : List ℕ) (command : Command) (f : FixedParts) : Type 0 where
  pub p : Part
  pub of : In p (parts_of real key command)
  pub opening : List AssetOutcome
  pub turn : ℕ
  pub starts : Starts command p f opening turn

-- ---- a payment is accepted in payment channels alone

paid-in : (s : Signing) (h : List Entry) (journal : List Told) → IsFair s h journal → (past : List Entry) (front : List Told) → At s h journal past front → (f : FixedParts) → In f (channels (lines_of s.key front))
    → (asset amount : ℕ) → pending front ≡ Some (commands.Pay (real.named f) asset amount) → f.app ≡ 1
paid-in s h journal fair past [] at f i asset amount e = absurd (none-eq (commands.Pay (real.named f) asset amount) e)
paid-in s h journal fair past (y ∷ rest) at f i asset amount e =
    app-of s h journal fair past y rest at.front_is (real.named f) asset amount e f (occurs s h journal fair.nodes past (y ∷ rest) at.front_is f i) refl

module _ (s : Signing) (h : List Entry) (journal : List Told) (fair : IsFair s h journal) (past : List Entry) (front : List Told) (at : At s h journal past front) where
  -- what is held past the first round is a chain
  pub reaches-held : (f : FixedParts) (k : Kept) → IsKeptAt real past (lines_of s.key front) f k → (turn : ℕ) → people f ≤ turn + 1 → Reaches real f turn (held real f past (lines_of s.key front)) → is_held k ≡ true
  reaches-held f k kept turn enough full = go (is_held k) refl
    where
      next-is : next_of k ≡ full.top.turn + 1
      next-is = ap next_after (ap (λ (w : Marked). newest w.states) (some-eq (marked_of k.chain) full.w (sym kept.chain ∙ full.is)) ∙ full.ends)

      go : (b : Bool) → is_held k ≡ b → b ≡ true
      go true e = refl
      go false e =
          let low : next_of k < people k.chain.fixed = young-next k kept.good e in
          let low-here : next_of k < people f = subst (λ (x : FixedParts). next_of k < people x) kept.fixed low in
          let up : turn ≤ full.top.turn = full.up in
          let next : next_of k ≡ full.top.turn + 1 = next-is in
          absurd (omega (arith, enough))

  -- so is its seat
  pub reaches-holds : (f : FixedParts) (opening : List AssetOutcome) (c : Seat) → SeatIs s.key past (lines_of s.key front) f opening c → (turn : ℕ) → people f ≤ turn + 1
      → Reaches real f turn (held real f past (lines_of s.key front)) → holds turn c ≡ true
  reaches-holds f opening c seat turn enough full =
      ap (state_is (λ s. nat_le turn s.turn)) top-is ∙ low-le turn full.top.turn full.up
    where
      top-is : c.top ≡ Some full.top
      top-is =
          ap (λ (z : Seat). z.top) seat.is
          ∙ (cond-true (is_held seat.kept) (newest seat.kept.chain.states) None (reaches-held f seat.kept seat.at turn enough full)
          ∙ (ap (λ (w : Marked). newest w.states) (some-eq (marked_of seat.kept.chain) full.w (sym seat.at.chain ∙ full.is)) ∙ full.ends))

      low-le : (a b : ℕ) → a ≤ b → nat_le a b ≡ true
      low-le a b h = grind (arith, nat_tests)

  module _ (f : FixedParts) (k : Kept) (own : IsOwn real (lines_of s.key front) f) (kept : IsKeptAt real past (lines_of s.key front) f k) (command : Command) (took : Took command front)
      (inside : In f (opened_by command)) (by : Started s.key command f) (asset amount : ℕ) (paying : pending front ≡ Some (commands.Pay (real.named f) asset amount)) where
    several : 1 ≤ people f
    several =
        let o : Holds s.key past (lines_of s.key front) (mind_at real s.key past front) f = kept-of s h journal fair past front at f own.there in
        let within : o.kept.me < people f = get-within f.keys o.kept.me s.key o.mine in
        omega arith

    took-in : Took command journal
    took-in = subst (Took command) (sym at.front_is.events) (took-later command at.front_is.newer front took)

    full : Reaches real f by.turn (held real f past (lines_of s.key front))
    full =
        waits s h journal fair.nodes.legal fair.nodes.plays command by.p f by.opening by.turn took-in inside by.of by.starts several at.front_is.newer front at.front_is.events (plays-there s h journal fair.nodes past front at.front_is) at.front_is.later past
        at.front_is.entries at.front_is.before (real.named f) asset amount paying (bytes_eq_self (real.named f))
        (stand stages real s h fair.nodes.legal f front (plays-there s h journal fair.nodes past front at.front_is) at.front_is.later past at.front_is.entries at.front_is.before command by.p took by.of)

    is-held : is_held k ≡ true
    is-held = reaches-held f k kept by.turn by.starts.enough full

    pub pays : (is_held k ≡ true) × (f.app ≡ 1)
    pays = (
      is-held,
      paid-app s h journal fair.nodes.legal fair.nodes.plays command by.p f by.opening by.turn took-in inside by.of by.starts front at.front_is.newer at.front_is.events
          (record { paid = real.named f; asset = asset; amount = amount; is = paying; here = bytes_eq_self (real.named f) }),
    )

  -- the command of an own channel
  pub opener-of : (f : FixedParts) → IsOwn real (lines_of s.key front) f → Opener s.key front f
  opener-of f own = let o = opened-there (lines_of s.key front) f own.there in opener s.key front o.0 f o.1 o.2

  -- ---- every command

  -- the participant is one of an own channel
  own-takes : (f : FixedParts) → In f (channels (lines_of s.key front)) → takes_part s.key f ≡ true
  own-takes f i = within (place-within (bytes_eq s.key) f.keys s.key (In-get f.keys o.kept.me s.key o.mine) (bytes_eq_self s.key))
    where
      o : Holds s.key past (lines_of s.key front) (mind_at real s.key past front) f
      o = kept-of s h journal fair past front at f i

      within : place_among s.key f < length f.keys → takes_part s.key f ≡ true
      within small = grind (arith, nat_tests)

  -- how its command opened the channel of a payment
  starts-so : (f : FixedParts) → In f (channels (lines_of s.key front)) → (command : Command) → Took command front → In f (opened_by command) → f.app ≡ 1 → Started s.key command f
  starts-so f own (commands.Open g outcome) took (inl e) app =
      subst (Started s.key (commands.Open g outcome)) (sym e) (record { p = Root (real.named g); of = inl refl; opening = outcome; turn = _; starts = root-starts g outcome })
  starts-so f own (commands.Open g outcome) took (inr i) app = absurd i
  starts-so f own (commands.OpenOn o) took (inl e) app =
      subst (Started s.key (commands.OpenOn o)) (sym e)
      (record { p = OnLedger o.ledger (real.named o.fixed); of = inl refl; opening = shared o.fixed o.asset o.amounts; turn = _; starts = child-starts o.ledger o.fixed o.asset o.amounts })
  starts-so f own (commands.OpenOn o) took (inr i) app = absurd i
  starts-so f own (commands.OpenVirtual v) took i app = by i
    where
      took-here : Took (commands.OpenVirtual v) journal
      took-here =
          subst (Took (commands.OpenVirtual v)) (sym at.front_is.events)
          (took-later (commands.OpenVirtual v) at.front_is.newer front took)

      fixed : AreFixed v.guarantors v.joint
      fixed = let a = fitted stages real s h fair.nodes.legal v.joint journal fair.nodes.plays (commands.OpenVirtual v) v.joint took-here (inr (inr (inl refl))) in
          are-fixed (facts_of a.0) v.route v.ledgers v.guarantors v.joint v.channel v.asset v.amounts a.1

      paid : v.channel ≡ f → takes_part s.key v.channel ≡ true → Started s.key (commands.OpenVirtual v) f
      paid same takes =
          subst (Started s.key (commands.OpenVirtual v)) same (record {
            p = End (virtual real s.key v.ledgers v.guarantors v.joint v.channel v.asset v.amounts);
            of = at-end s.key v.route v.ledgers v.guarantors v.joint v.channel v.asset v.amounts takes;
            opening = shared v.channel v.asset v.amounts;
            turn = _;
            starts = end-starts s.key v.route v.ledgers v.guarantors v.joint v.channel v.asset v.amounts _ (ap (terms_for (virtual real s.key v.ledgers v.guarantors v.joint v.channel v.asset v.amounts)) fixed.people) names
                v.channel (shared v.channel v.asset v.amounts)
                (payment-channel-of s.key v.route v.ledgers v.guarantors v.joint v.channel v.asset v.amounts _ (ap (terms_for (virtual real s.key v.ledgers v.guarantors v.joint v.channel v.asset v.amounts)) fixed.people) names);
          })
        where
          names : Differ (real.named v.guarantors.0) (real.named v.guarantors.1) (real.named v.joint) (real.named v.channel)
          names = names-differ s h journal fair.nodes.legal fair.nodes.plays v.route v.ledgers v.guarantors v.joint v.channel v.asset v.amounts took-here

      by : In f (opened_by (commands.OpenVirtual v)) → Started s.key (commands.OpenVirtual v) f
      by (inl e) = absurd (no-payments-either f (ap (λ (x : FixedParts). x.app) e ∙ fixed.first) app)
      by (inr (inl e)) = absurd (no-payments-either f (ap (λ (x : FixedParts). x.app) e ∙ fixed.second) app)
      by (inr (inr (inl e))) = absurd (no-payments f (ap (λ (x : FixedParts). x.app) e ∙ fixed.joint_app) app)
      by (inr (inr (inr (inl e)))) = paid (sym e) (subst (λ (x : FixedParts). takes_part s.key x ≡ true) e (own-takes f own))
      by (inr (inr (inr (inr i)))) = absurd i
  starts-so f own (commands.Pay channel asset amount) took i app = absurd i
  starts-so f own (commands.Close channel) took i app = absurd i
  starts-so f own (commands.Release how channel) took i app = absurd i
  starts-so f own (commands.Resend channel) took i app = absurd i
  starts-so f own commands.Exit took i app = absurd i

-- where a payment waits a chain is held
pub pays_in_held : (s : Signing) (h : List Entry) (journal : List Told) → IsFair s h journal → PaysInHeld s h journal
pays_in_held s h journal fair past front at f k asset amount own kept paying =
    let app = paid-in s h journal fair past front at f own.there asset amount paying in
    let o = opener-of s h journal fair past front at f own in
    pays s h journal fair past front at f k own kept o.command o.took o.inside (starts-so s h journal fair past front at f own.there o.command o.took o.inside app) asset amount paying
