-- A payment that waits was accepted while its part ran.
use Rattle.std.proofs.Common.{◌≡◌, ℕ, ◌≤◌, true, false, ◌&&◌, List, [], ◌∷◌, ◌++◌, ◌⊎◌, inl, inr, length, refl, sym, ◌∙◌, ap, subst, arith}
use Rattle.std.specs.Prelude.{◌==◌, Option, Some, None}
use Rattle.std.specs.List.{list_any}
use Rattle.std.specs.Str.{bytes_eq}
use Rattle.channel_values.specs.Parts.{FixedParts}
use Rattle.channel_safety.proofs.Lists.{Suffix, suffix_of, append_assoc', In-append_right}
use Rattle.channel_safety.proofs.Tests.{none-eq, and-left, and-right, eqb-true}
use Rattle.call_history.proofs.Names.{same_bytes}
use Rattle.call_history.specs.History.{Legal}
use Rattle.call_history.specs.Marked.{Marked}
use Rattle.call_history.specs.declared.entry.Entry.{Entry}
use Rattle.call_history.specs.declared.event.Deed.{Deed}
use Rattle.call_history.specs.declared.event.Deed.TheVariants as deeds
use Rattle.channel_store.specs.Storing.{kept_of}
use Rattle.channel_store.specs.declared.kept.Kept.{Kept}
use Rattle.funding_plans.specs.Parts.{running}
use Rattle.funding_plans.specs.declared.plan.Part.{Part}
use Rattle.funding_plans.specs.declared.plan.Part.TheVariants as kinds
use Rattle.channel_safety.proofs.Rowing.{legal-suffix}
use Rattle.channel_safety.specs.Held.{held}
use Rattle.channel_safety.specs.Journals.{In, is_watched}
use Rattle.network.specs.declared.command.Command.{Command}
use Rattle.network.specs.declared.command.Command.TheVariants as commands
use Rattle.channel_safety.specs.Occurring.{OccursFixed}
use Rattle.channel_node.proofs.Agreeing.{Agree}
use Rattle.channel_node.proofs.Bridging.{plays-at, lines-append}
use Rattle.channel_node.proofs.Places.{mind-event}
use Rattle.channel_node.proofs.Standing.{known}
use Rattle.channel_node.specs.Minds.{Mind, facts_of, did}
use Rattle.channel_node.specs.Places.{Told, lines_of, mind_at}
use Rattle.channel_node.specs.Playing.{Signing, Plays, PlaysEvent, pending, signings}
use Rattle.node_guarantees.proofs.Telling.{places_tell_shares}
use Rattle.node_guarantees.specs.NodeShareLaws.{IsFront}
use Rattle.stage_tables.specs.Stages.{stages}
use Rattle.fairness_laws.specs.JointKeeping.{EndsKeep, MiddlesKeep}
use Rattle.fairness_laws.proofs.Truths.{either}
use Rattle.fairness_laws.proofs.Apps.{no-payments}
use Rattle.fairness_laws.specs.PaymentLaws.{ActsNext}
use Rattle.fairness_laws.specs.PlanLaws.{PartsAreKnown}
use Rattle.fairness_laws.specs.PlanSettings.{IsFair}
use Rattle.node_guarantees.specs.Orders.{orders_of}
use Rattle.fairness_laws.specs.PlanBearers.{bears}
use Rattle.share_laws.proofs.Finality.{opened-there}
use Rattle.share_laws.specs.Places.{channels, plan}
use Rattle.support_rules.specs.Real.{real}
use Rattle.fairness_laws.proofs.FirstRounds.{joined-among}
use Rattle.fairness_laws.specs.LedgerPlaces.{is_ledger, parts_at, lends_at}
use Rattle.fairness_laws.specs.LedgerLending.{Lent}
use Rattle.fairness_laws.specs.LedgerEvents.{PaymentsRun}
use Rattle.fairness_laws.proofs.Ledger.Closing.{runs-up}
use Rattle.fairness_laws.proofs.Accepted.{PaidBy, paid-by, Paid, paid-so}
use Rattle.fairness_laws.proofs.EventPlaces.{at-before}
use Rattle.fairness_laws.proofs.Plan.Asked.{one-of-parts}
use Rattle.fairness_laws.proofs.Ledger.Drifting.{is-past, is-up}
use Rattle.fairness_laws.proofs.Seat.Past.{one-fixed, Past, occurs}
use Rattle.fairness_laws.proofs.Ledger.Lent.{LendsAt, lends-is, lent-again}
use Rattle.fairness_laws.proofs.Plan.Names.{Passing, any-in, in-among}
use Rattle.fairness_laws.proofs.Ledger.Quiet.{grows-by}

module _ (s : Signing) (h : List Entry) (journal : List Told) (fair : IsFair s h journal)
    (past : List Entry) (x : Told) (front : List Told) (then : IsFront h journal past (x ∷ front)) (paid : List ℕ) (asset amount : ℕ) (waits : pending (x ∷ front) ≡ Some (commands.Pay paid asset amount)) where
  by : PaidBy x.deed x.command (commands.Pay paid asset amount)
  by = paid-by x.deed x.command paid asset amount waits

  acts : is_watched x.deed ≡ false
  acts = ap is_watched by.deed

  event : PlaysEvent stages real s h x front
  event = plays-at stages real s h then.newer x front (subst (Plays stages real s h) then.events fair.nodes.plays)

  cut : Suffix past x.seen
  cut = suffix_of past x.seen (then.before x (inl refl) acts)

  abbrev past0 : List Entry
  past0 = cut.past

  entries0 : h ≡ (then.later ++ cut.later) ++ past0
  entries0 = then.entries ∙ (ap (λ (z : List Entry). then.later ++ z) cut.is ∙ append_assoc' then.later cut.later past0)

  place0 : IsFront h journal past0 front
  place0 = record {
    later = then.later ++ cut.later;
    newer = then.newer ++ x ∷ [];
    entries = entries0;
    events = then.events ∙ append_assoc' then.newer (x ∷ []) front;
    few = (event.place (then.later ++ cut.later) past0 entries0 cut.len).0;
    before = λ y i w. subst (λ (n : ℕ). y.seen ≤ n) (sym cut.len) (event.rising y i w);
  }

  then0 : IsFront h journal past0 (x ∷ front)
  then0 = record {
    later = then.later ++ cut.later;
    newer = then.newer;
    entries = entries0;
    events = then.events;
    few = (event.place (then.later ++ cut.later) past0 entries0 cut.len).0;
    before = seen;
  }
    where
      least : (n : ℕ) → n ≤ n
      least n = omega arith

      seen : (y : Told) → In y (x ∷ front) → is_watched y.deed ≡ false → y.seen ≤ length past0
      seen y (inl same) w = subst (λ (z : Told). z.seen ≤ length past0) (sym same) (subst (λ (n : ℕ). x.seen ≤ n) (sym cut.len) (least x.seen))
      seen y (inr i) w = subst (λ (n : ℕ). y.seen ≤ n) (sym cut.len) (event.rising y i w)

  next0 : ActsNext s h journal past0 x front
  next0 = record { place = place0; then = then0; acts = acts; len = cut.len }

  abbrev m0 : Mind
  m0 = mind_at real s.key past0 front

  -- what was accepted
  accepted : Paid m0 paid
  accepted =
      paid-so s past0 m0 (signings front) (pending front) x.deed x.command (event.place (then.later ++ cut.later) past0 entries0 cut.len).1 paid asset amount waits

  -- ---- it is of a payment channel

  pub app-of : (f : FixedParts) → OccursFixed h (lines_of s.key journal) f → real.named f ≡ paid → f.app ≡ 1
  app-of f occurs-there named = go (held real f past0 (lines_of s.key front)) agree
    where
      agree : Agree real s.key f (lines_of s.key front) (Some accepted.kept) (held real f past0 (lines_of s.key front))
      agree =
          subst (λ (o : Option Kept). Agree real s.key f (lines_of s.key front) o (held real f past0 (lines_of s.key front)))
          (ap (λ (n : List ℕ). kept_of n m0.kept) named ∙ accepted.keeps)
          (known real s.key f past0 front (legal-suffix real (then.later ++ cut.later) past0 (subst (Legal real) entries0 fair.nodes.legal)) place0.few).agree

      go : (o : Option Marked) → Agree real s.key f (lines_of s.key front) (Some accepted.kept) o → f.app ≡ 1
      go None a = absurd a
      go (Some w) a =
          let one : accepted.kept.chain.fixed ≡ f =
          fair.nodes.distinct.names accepted.kept.chain.fixed f
          (inr (a.0.line, subst (In a.0.line) (sym (ap (lines_of s.key) place0.events ∙ lines-append s.key place0.newer front)) (In-append_right a.0.line (lines_of s.key place0.newer) (lines_of s.key front) a.0.there), a.0.opens))
          occurs-there (same_bytes (real.named accepted.kept.chain.fixed) (real.named f) a.0.named) in
          ap (λ (g : FixedParts). g.app) (sym one) ∙ accepted.app

  pub no-ledger : is_ledger s.key journal paid ≡ false
  no-ledger = go (either (is_ledger s.key journal paid))
    where
      never : Passing (λ f. bytes_eq (real.named f) paid && (f.app == 0)) (channels (lines_of s.key journal)) → ⊥
      never g =
          let y = opened-there (lines_of s.key journal) g.item g.there in
          no-payments g.item (eqb-true g.item.app 0 (and-right (bytes_eq (real.named g.item) paid) (g.item.app == 0) g.passes))
          (app-of g.item (inr (y.0, y.1, y.2)) (same_bytes (real.named g.item) paid (and-left (bytes_eq (real.named g.item) paid) (g.item.app == 0) g.passes)))

      go : (is_ledger s.key journal paid ≡ true) ⊎ (is_ledger s.key journal paid ≡ false) → is_ledger s.key journal paid ≡ false
      go (inr off) = off
      go (inl on) =
          absurd (never (any-in (λ f. bytes_eq (real.named f) paid && (f.app == 0)) (channels (lines_of s.key journal))
          (and-left (list_any (λ f. bytes_eq (real.named f) paid && (f.app == 0)) (channels (lines_of s.key journal))) (list_any (bears paid) (plan (orders_of real s.key journal) (lines_of s.key journal))) on)))

  -- ---- it went up

  parts-same : parts_at s past (x ∷ front) ≡ m0.parts
  parts-same =
      (places_tell_shares stages real s h journal past (x ∷ front) fair.nodes.legal fair.nodes.plays then).parts
      ∙ (sym (places_tell_shares stages real s h journal past0 (x ∷ front) fair.nodes.legal fair.nodes.plays then0).parts
      ∙ (ap (λ (z : Mind). z.parts) (mind-event real s.key past0 x front cut.len)
      ∙ (ap (λ (d : Deed). (did real d x.command m0).parts) by.deed ∙ ap (λ (o : Option Command). (did real (deeds.Commanded by.step None) o m0).parts) by.command)))

  module _ (knows : PartsAreKnown) (ends : EndsKeep) (middles : MiddlesKeep) where
    pub went-up-then : (l : List ℕ) (k : Lent) → In (kinds.OnLedger l paid) (parts_at s past (x ∷ front)) → lends_at s past (x ∷ front) l (kinds.OnLedger l paid) ≡ Some k → k.is_up ≡ true
    went-up-then l k i is =
        is-up s h journal fair past (x ∷ front) then l p k b
        (subst (λ (f : FixedParts). Past f (lines_of s.key (x ∷ front))) fixed-same
        (grows-by s h journal fair knows ends middles past0 x front next0 a.fixed a.seat.own.there
        (is-past s h journal fair past0 front place0 l p was.0 a (runs-up s h journal fair knows ends middles past0 x front next0 p there l was.0 was.1 ran).1)))
      where
        p : Part
        p = kinds.OnLedger l paid

        there : In p m0.parts
        there = subst (In p) parts-same i

        was : (j : Lent) × (lends_at s past0 front l p ≡ Some j)
        was = lent-again s past (x ∷ front) past0 front p (knows s h journal past (x ∷ front) fair.nodes then p i) (knows s h journal past0 front fair.nodes place0 p there) l k is

        a : LendsAt s past0 front l p was.0
        a = lends-is s past0 front p (knows s h journal past0 front fair.nodes place0 p there) l was.0 was.1

        b : LendsAt s past (x ∷ front) l p k
        b = lends-is s past (x ∷ front) p (knows s h journal past (x ∷ front) fair.nodes then p i) l k is

        fixed-same : a.fixed ≡ b.fixed
        fixed-same = one-fixed s h journal fair past0 front place0 past (x ∷ front) then a.fixed b.fixed a.seat.own.there b.seat.own.there (a.gate_named ∙ sym b.gate_named)

        same : accepted.part ≡ p
        same =
            one-of-parts s h journal fair past0 front (at-before s h journal fair past0 x front next0) paid accepted.part p accepted.there there (joined-among paid accepted.part accepted.joined)
            (in-among paid (paid ∷ []) (inl refl))

        ran : (stages.stage (facts_of m0) p == running p) ≡ true
        ran = subst (λ (q : Part). (stages.stage (facts_of m0) q == running q) ≡ true) same accepted.runs

pub payments_run : (s : Signing) (h : List Entry) (journal : List Told) → IsFair s h journal → PartsAreKnown → EndsKeep → MiddlesKeep → PaymentsRun s h journal
payments_run s h journal fair knows ends middles past [] place paid asset amount e = absurd (none-eq (commands.Pay paid asset amount) e)
payments_run s h journal fair knows ends middles past (x ∷ front) place paid asset amount e = (
  no-ledger s h journal fair past x front place paid asset amount e,
  λ f i named. app-of s h journal fair past x front place paid asset amount e f (occurs s h journal fair.nodes past (x ∷ front) place f i) named,
  λ l k i is. went-up-then s h journal fair past x front place paid asset amount e knows ends middles l k i is,
)
