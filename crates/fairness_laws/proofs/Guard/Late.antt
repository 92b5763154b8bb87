-- The set-up of a channel is over where Close was commanded of its part, and of a ledger on which a part stands.
use Rattle.std.proofs.Common.{◌≡◌, ℕ, ◌+◌, ◌*◌, ◌-◌, ◌≤◌, ◌<◌, Bool, true, false, cond, List, refl, sym, ◌∙◌, ap, subst, arith}
use Rattle.std.specs.Prelude.{Option, Some, None, nat_le}
use Rattle.channel_values.specs.Parts.{FixedParts, StateParts}
use Rattle.channel_values.specs.declared.value.AssetOutcome.{AssetOutcome}
use Rattle.channel_safety.proofs.Lists.{In-get, get-within}
use Rattle.channel_safety.proofs.Tests.{some-eq, none-eq, le-true, eqb-true}
use Rattle.call_history.proofs.Names.{same_bytes}
use Rattle.call_history.specs.Flows.{is_among}
use Rattle.call_history.specs.Marked.{Marked, marked_of, next_after}
use Rattle.call_history.specs.declared.entry.Entry.{Entry}
use Rattle.channel_values.specs.Rules.{people, newest}
use Rattle.channel_store.specs.Keeping.{is_held, next_of}
use Rattle.channel_store.specs.Storing.{kept_of}
use Rattle.funding_plans.specs.Parts.{own_channel, channels_of, ledgers_of}
use Rattle.funding_plans.specs.declared.plan.Goal.{Goal}
use Rattle.funding_plans.specs.declared.plan.Part.{Part}
use Rattle.funding_plans.specs.declared.plan.Part.TheVariants as parts
use Rattle.funding_plans.specs.declared.plan.Virtual.{Virtual}
use Rattle.ledger_channel.specs.OnLedgers.{Funded}
use Rattle.ledger_channel.specs.Stages.{funded_in, stage_on_ledger}
use Rattle.channel_safety.specs.Held.{held}
use Rattle.channel_safety.specs.Journals.{In, Line}
use Rattle.channel_node.proofs.Reaching.{Reaches}
use Rattle.channel_node.specs.Minds.{Mind, facts_of}
use Rattle.channel_node.specs.Openings.{are_apart}
use Rattle.channel_node.specs.Places.{Told, lines_of, mind_at}
use Rattle.channel_node.specs.Playing.{Signing, Plays}
use Rattle.stage_tables.specs.Stages.{stages}
use Rattle.fairness_laws.proofs.Stages.{end-runs, middle-runs}
use Rattle.fairness_laws.proofs.Ledger.Wanting.{funded_runs}
use Rattle.fairness_laws.proofs.Ledger.Full.{ledger-reaches}
use Rattle.fairness_laws.proofs.Opening.Children.{funded-at}
use Rattle.fairness_laws.proofs.Opening.Ends.{end-at}
use Rattle.fairness_laws.proofs.Opening.Middles.{middle-at}
use Rattle.fairness_laws.proofs.Opening.Seated.{Seated, seated, holds-kept}
use Rattle.fairness_laws.proofs.Plan.Places.{plays-there}
use Rattle.fairness_laws.proofs.Seat.Past.{occurs}
use Rattle.fairness_laws.proofs.Plan.Holding.{Holds}
use Rattle.fairness_laws.proofs.Signing.{kept-of}
use Rattle.fairness_laws.specs.PaymentLaws.{At}
use Rattle.fairness_laws.specs.PlanParts.{LedgerIs}
use Rattle.fairness_laws.specs.PlanSeats.{SeatIs}
use Rattle.fairness_laws.specs.PlanSettings.{IsFair}
use Rattle.funding_plans.specs.Targets as targets
use Rattle.share_laws.specs.Places.{channels}
use Rattle.funding_plans.specs.Gathered.{goal_in}
use Rattle.funding_plans.specs.Seats.{Seat, state_is, holds}
use Rattle.support_rules.specs.Real.{real}
use Rattle.virtual_channel.specs.Ends.{End}
use Rattle.virtual_channel.specs.Middles.{Middle}
use Rattle.virtual_channel.specs.Stages.{end_in, stage_of_end, middle_in, stage_of_middle}
use Rattle.fairness_laws.proofs.Closing.{RunsAt, RunsTo, fixed-is, goal-found, late, lets_go}
use Rattle.fairness_laws.proofs.Finding.{names}
use Rattle.fairness_laws.proofs.Planned.{is-planned, own-among, one-part}

-- ---- what is held where a part runs

-- of a channel of which a seat holds a turn
runs-at : (m : Mind) (f : FixedParts) (name : List ℕ) → real.named f ≡ name → (opening : List AssetOutcome) (c : Seat) → Seated m name opening c → are_apart (names m.kept) ≡ true → (turn : ℕ) → holds turn c ≡ true → RunsAt m f turn
runs-at m f name named opening c at apart turn e = record {
  k = at.k;
  keeps = subst (λ (n : List ℕ). kept_of n m.kept ≡ Some at.k) (sym named) at.keeps;
  topped = λ same. holds-kept m name opening c at apart turn e;
}

pub child-far : (ledger name : List ℕ) (f : FixedParts) → real.named f ≡ name → RunsTo (parts.OnLedger ledger name) f 3
child-far ledger name f named m apart e = by (funded_in (facts_of m) ledger name) refl (eqb-true (stage_on_ledger (funded_in (facts_of m) ledger name)) 3 e)
  where
    by : (o : Option Funded) → funded_in (facts_of m) ledger name ≡ o → stage_on_ledger o ≡ 3 → RunsAt m f 3
    by None is three = absurd (omega (arith, three))
    by (Some p) is three =
        let at = funded-at m ledger name p is in
        runs-at m f name named at.g.opening p.channel (seated m name at.g.opening p.channel at.channel) apart 3 (funded_runs p three).1

pub end-joint-far : (v : Virtual) (f : FixedParts) → real.named f ≡ v.joint → RunsTo (parts.End v) f 5
end-joint-far v f named m apart e = by (end_in (facts_of m) v) refl (eqb-true (stage_of_end (end_in (facts_of m) v)) 5 e)
  where
    by : (o : Option End) → end_in (facts_of m) v ≡ o → stage_of_end o ≡ 5 → RunsAt m f 5
    by None is five = absurd (omega (arith, five))
    by (Some p) is five =
        let at = end-at m v p is in
        runs-at m f v.joint named (targets.apart p.terms at.g.amounts) p.joint (seated m v.joint (targets.apart p.terms at.g.amounts) p.joint at.middle) apart 5 (end-runs p five).five

pub end-channel-far : (v : Virtual) (f : FixedParts) → real.named f ≡ v.channel → RunsTo (parts.End v) f 3
end-channel-far v f named m apart e = by (end_in (facts_of m) v) refl (eqb-true (stage_of_end (end_in (facts_of m) v)) 5 e)
  where
    by : (o : Option End) → end_in (facts_of m) v ≡ o → stage_of_end o ≡ 5 → RunsAt m f 3
    by None is five = absurd (omega (arith, five))
    by (Some p) is five =
        let at = end-at m v p is in
        runs-at m f v.channel named at.g.opening p.channel (seated m v.channel at.g.opening p.channel at.last) apart 3 (end-runs p five).posted

pub middle-joint-far : (v : Virtual) (f : FixedParts) → real.named f ≡ v.joint → RunsTo (parts.Middle v) f 5
middle-joint-far v f named m apart e = by (middle_in (facts_of m) v) refl (eqb-true (stage_of_middle (middle_in (facts_of m) v)) 5 e)
  where
    by : (o : Option Middle) → middle_in (facts_of m) v ≡ o → stage_of_middle o ≡ 5 → RunsAt m f 5
    by None is five = absurd (omega (arith, five))
    by (Some p) is five =
        let at = middle-at m v p is in
        runs-at m f v.joint named (targets.apart p.terms at.g.amounts) p.joint (seated m v.joint (targets.apart p.terms at.g.amounts) p.joint at.middle) apart 5 (middle-runs p five).five

-- ---- at a place

module _ (s : Signing) (h : List Entry) (journal : List Told) (fair : IsFair s h journal) (past : List Entry) (front : List Told) (at : At s h journal past front) where
  abbrev m : Mind
  m = mind_at real s.key past front

  abbrev lines : List Line
  lines = lines_of s.key front

  -- where Close was commanded of a part, its channel is held as it was where the part ran
  pub closing-reaches : (p : Part) → In p m.parts → (g : Goal) → goal_in (facts_of m) (own_channel p) ≡ Some g → g.closing ≡ true → lets_go p g ≡ false → (f : FixedParts) → In f (channels lines) → (turn : ℕ) → RunsTo p f turn
      → Reaches real f turn (held real f past lines)
  closing-reaches p i g is closing held-on f there turn runs =
      let apart = (is-planned stages real s h front plays at.front_is.later past at.front_is.entries at.front_is.before).apart in
      let found = goal-found m.parts m.goals (own_channel p) g is in
      let q-is : found.q ≡ p =
      one-part (own_channel p) m.parts found.q p apart (In-get m.parts g.part found.q found.at) i
      (subst (λ (n : List ℕ). is_among n (channels_of found.q) ≡ true) (same_bytes (own_channel found.q) (own_channel p) found.about) (own-among found.q)) (own-among p) in
      late s h journal fair.nodes.legal f several (fixed-is s h journal fair.nodes.distinct f (occurs s h journal fair.nodes past front at.front_is f there)) p turn runs at.front_is.newer front
      at.front_is.events plays at.front_is.later past at.front_is.entries at.front_is.before g found.there closing held-on (found.at ∙ ap (λ (q : Part). Some q) q-is)
    where
      plays : Plays stages real s h front
      plays = plays-there s h journal fair.nodes past front at.front_is

      several : 1 ≤ people f
      several =
          let o : Holds s.key past lines m f = kept-of s h journal fair past front at f there in
          let within : o.kept.me < people f = get-within f.keys o.kept.me s.key o.mine in
          omega arith

  module _ (x : FixedParts) (opening : List AssetOutcome) (c : Seat) (seat : SeatIs s.key past lines x opening c) (turn : ℕ) where
    beyond : (n next top : ℕ) → n ≤ turn + 1 → next ≡ top + 1 → turn ≤ top → n ≤ next
    beyond n next top a b d = omega arith

    next-is : c.next ≡ next_of seat.kept
    next-is = ap (λ (y : Seat). y.next) seat.is

    -- its set-up is over where it is held so far
    pub reaches-over : 2 * people x ≤ turn + 1 → Reaches real x turn (held real x past lines) → 2 * people x ≤ c.next
    reaches-over far full =
        beyond (2 * people x) c.next full.top.turn far
        (next-is ∙ ap next_after (ap (λ (w : Marked). newest w.states) (some-eq (marked_of seat.kept.chain) full.w (sym seat.at.chain ∙ full.is)) ∙ full.ends)) full.up

    pub holds-over : 2 * people x ≤ turn + 1 → holds turn c ≡ true → 2 * people x ≤ c.next
    holds-over far e = by c.top refl e
      where
        top-of : (t : StateParts) (b : Bool) → cond b (newest seat.kept.chain.states) None ≡ Some t → newest seat.kept.chain.states ≡ Some t
        top-of t false e = absurd (none-eq t e)
        top-of t true e = e

        by : (o : Option StateParts) → c.top ≡ o → state_is (λ t. nat_le turn t.turn) o ≡ true → 2 * people x ≤ c.next
        by None is e = absurd cc
        by (Some t) is e =
            beyond (2 * people x) c.next t.turn far
            (next-is ∙ ap next_after (top-of t (is_held seat.kept) (sym (ap (λ (y : Seat). y.top) seat.is) ∙ is))) (le-true turn t.turn e)

  -- so it is where Close was commanded of its part
  pub closing-over : (p : Part) → In p m.parts → (g : Goal) → goal_in (facts_of m) (own_channel p) ≡ Some g → g.closing ≡ true → lets_go p g ≡ false
      → (x : FixedParts) (opening : List AssetOutcome) (c : Seat) → SeatIs s.key past lines x opening c → (turn : ℕ) → 2 * people x ≤ turn + 1 → RunsTo p x turn → 2 * people x ≤ c.next
  closing-over p i g is closing held-on x opening c seat turn far runs = reaches-over x opening c seat turn far (closing-reaches p i g is closing held-on x seat.own.there turn runs)

  -- and of a ledger
  pub ledger-over : (p : Part) → In p m.parts → (l : List ℕ) → is_among l (ledgers_of p) ≡ true → (first second : List ℕ) (c : Seat) (is : LedgerIs s.key past lines first second l c) → 2 * people is.fixed ≤ c.next
  ledger-over p i l on first second c is =
      reaches-over is.fixed c.opening c is.seat (2 * people is.fixed - 1) (last (people is.fixed)) (ledger-reaches s h journal fair past front at p i l on is.fixed c.opening c is.seat is.named)
    where
      last : (n : ℕ) → 2 * n ≤ 2 * n - 1 + 1
      last n = omega arith
