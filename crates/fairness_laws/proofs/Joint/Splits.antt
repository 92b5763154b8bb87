-- Each state that a node signed in a joint channel pays all to the payment channel, or the ends amounts that make up
-- the total.
use Rattle.std.proofs.Common.{◌≡◌, ℕ, ◌+◌, Bool, true, false, List, [], ◌∷◌, ◌⊎◌, inl, inr, refl, sym, ◌∙◌, ap, subst}
use Rattle.std.specs.Prelude.{Option, Some, None}
use Rattle.std.specs.Option.{option_map, option_or}
use Rattle.channel_values.specs.Parts.{FixedParts, StateParts}
use Rattle.channel_values.specs.declared.chain.Signed.{Signed}
use Rattle.channel_values.specs.declared.value.AssetOutcome.{AssetOutcome}
use Rattle.channel_safety.proofs.Tests.{some-eq, none-eq}
use Rattle.call_history.specs.Flows.{is_among}
use Rattle.call_history.specs.declared.entry.Entry.{Entry}
use Rattle.funding_plans.specs.Parts.{channels_of}
use Rattle.funding_plans.specs.declared.plan.Goal.{Goal}
use Rattle.funding_plans.specs.declared.plan.Part.{Part}
use Rattle.funding_plans.specs.declared.plan.Part.TheVariants as kinds
use Rattle.funding_plans.specs.declared.plan.Virtual.{Virtual}
use Rattle.channel_safety.specs.Journals.{In, Line, made_in}
use Rattle.fairness_laws.proofs.Plan.Places.{kept-there}
use Rattle.fairness_laws.proofs.Plan.Asked.{part-at}
use Rattle.fairness_laws.proofs.Joint.EndKept.{ends-core}
use Rattle.fairness_laws.proofs.Joint.Ends.{EndCore}
use Rattle.fairness_laws.proofs.Joint.Events.{NewPart, part-next}
use Rattle.fairness_laws.proofs.Seat.Held.{last-of}
use Rattle.fairness_laws.proofs.Joint.MiddleKept.{middles-core}
use Rattle.fairness_laws.proofs.Joint.Middles.{MiddleCore}
use Rattle.fairness_laws.proofs.EventPlaces.{before-event, before-entry}
use Rattle.fairness_laws.proofs.Joint.Terms.{joint-among, terms-one}
use Rattle.fairness_laws.proofs.Ledger.Ended.{ends_share_over}
use Rattle.fairness_laws.proofs.Plans.{whole-place}
use Rattle.fairness_laws.proofs.Shared.{shared-amounts}
use Rattle.fairness_laws.specs.JointKeeping.{IsSplit, IsOver, SignsSplits, EndsSplit, MiddlesSplit}
use Rattle.fairness_laws.specs.PaymentLaws.{At, IsShared, SharesOver}
use Rattle.fairness_laws.specs.PlanLaws.{PartAt}
use Rattle.fairness_laws.specs.PlanParts.{JointIs, EndIs}
use Rattle.fairness_laws.specs.PlanSettings.{IsFair}
use Rattle.channel_node.proofs.Places.{mind-watched, mind-entry}
use Rattle.channel_node.specs.Minds.{Mind, facts_of}
use Rattle.channel_node.specs.Openings.{shared}
use Rattle.channel_node.specs.Places.{Told, lines_of, mind_at}
use Rattle.channel_node.specs.Playing.{Signing, pending}
use Rattle.stage_tables.specs.Stages.{stages}
use Rattle.funding_plans.specs.Outcomes.{amounts_in}
use Rattle.funding_plans.specs.Targets.{apart, together}
use Rattle.funding_plans.specs.declared.terms.Terms.{Terms}
use Rattle.share_laws.specs.Places.{channels, last_made, outcomes_of}
use Rattle.funding_plans.specs.Seats.{Seat, holds, amounts_after}
use Rattle.funding_plans.specs.Gathered.{goal_in}
use Rattle.support_rules.specs.Real.{real}
use Rattle.fairness_laws.proofs.Over.{AtEvent, IsKept, looked}

-- where no state was signed last, none was signed
none-made : (c : List ℕ) (lines : List Line) (x : Line) (n : Signed) → last_made c lines ≡ None → In x lines → made_in c x.deed ≡ Some n → ⊥
none-made c [] x n none i made = i
none-made c (y ∷ lines) x n none i made = go (made_in c y.deed) refl i none (λ last j. none-made c lines x n last j made)
  where
    go : (o : Option Signed) → made_in c y.deed ≡ o → (x ≡ y) ⊎ In x lines → option_or o (last_made c lines) ≡ None → (last_made c lines ≡ None → In x lines → ⊥) → ⊥
    go (Some m) e j last rest = none-eq m (sym last)
    go None e (inl same) last rest = none-eq n (sym e ∙ (ap (λ (z : Line). made_in c z.deed) (sym same) ∙ made))
    go None e (inr j) last rest = rest last j

-- ---- of a part with a joint channel, whose last own state is split at each place

module _ (s : Signing) (h : List Entry) (journal : List Told) (fair : IsFair s h journal) (p : Part) (t : Terms) (joint : List ℕ) (has : is_among joint (channels_of p) ≡ true)
    (there : (past : List Entry) (front : List Told) → At s h journal past front → In p (mind_at real s.key past front).parts → (f : FixedParts) × In f (channels (lines_of s.key front)) × (real.named f ≡ joint))
    (lasts : (past : List Entry) (front : List Told) → At s h journal past front → In p (mind_at real s.key past front).parts → (last : StateParts) (o : List AssetOutcome)
    → last-of joint (lines_of s.key front) ≡ Some last → In o (outcomes_of last) → (o ≡ together t) ⊎ IsSplit t o) where
  abbrev SplitAt : List Entry → List Told → Type 0
  SplitAt past front = At s h journal past front → In p (mind_at real s.key past front).parts → SignsSplits t joint (lines_of s.key front)

  -- one more line
  longer : (past : List Entry) (x : Told) (front : List Told) → At s h journal past (x ∷ front) → In p (mind_at real s.key past (x ∷ front)).parts
      → SignsSplits t joint (lines_of s.key front) → SignsSplits t joint (lines_of s.key (x ∷ front))
  longer past x front then i before y n o (inl e) made j =
      lasts past (x ∷ front) then i n.state o
      (ap (λ (r : Option Signed). option_map (λ (z : Signed). z.state) (option_or r (last_made joint (lines_of s.key front)))) (ap (λ (z : Line). made_in joint z.deed) (sym e) ∙ made)) j
  longer past x front then i before y n o (inr k) made j = before y n o k made j

  of-event : (past : List Entry) (x : Told) (front : List Told) → AtEvent stages real s h journal past x front → SplitAt past front → SplitAt past (x ∷ front)
  of-event past x front ev was then i = by (part-next s h journal fair past x front at then ev.len p i)
    where
      at : At s h journal past front
      at = before-event s h journal past x front (inr ev.len) then

      by : In p (mind_at real s.key past front).parts ⊎ NewPart s h journal fair past x front at then ev.len p → SignsSplits t joint (lines_of s.key (x ∷ front))
      by (inl j) = longer past x front then i (was at j)
      by (inr fresh) = new (there past (x ∷ front) then i)
        where
          new : (f : FixedParts) × In f (channels (lines_of s.key (x ∷ front))) × (real.named f ≡ joint) → SignsSplits t joint (lines_of s.key (x ∷ front))
          new (f, k, named) y n o l made j =
              absurd (none-made joint (lines_of s.key (x ∷ front)) y n
              (subst (λ (c : List ℕ). last_made c (lines_of s.key (x ∷ front)) ≡ None) named (fresh.unsigned f k (subst (λ (c : List ℕ). is_among c (channels_of p) ≡ true) (sym named) has))) l made)

  split-kept : IsKept stages real s h journal SplitAt
  split-kept = record {
    first = λ past at i y n o j. absurd j;
    event = of-event;
    look = λ past x front w was then i.
        longer past x front then i
        (was (before-event s h journal past x front (inl w) then) (subst (λ (m : Mind). In p m.parts) (mind-watched real s.key past x front (looked real x.deed x.command w)) i));
    entry = λ past e front seen was then i.
        was (before-entry s h journal past e front seen then) (subst (λ (m : Mind). In p m.parts) (mind-entry real s.key past e front seen) i);
  }

  all-split : (past : List Entry) (front : List Told) → SplitAt past front
  all-split past front at = kept-there s h journal fair.nodes past front at.front_is SplitAt split-kept at

-- ---- terms at two places

module _ (s : Signing) (h : List Entry) (journal : List Told) (fair : IsFair s h journal) (past now : List Entry) (front late : List Told) (at : At s h journal past front) (end : At s h journal now late) (v : Virtual) (g k : Goal)
    (t u : Terms) (c d : Seat) (a : JointIs s.key past (lines_of s.key front) v g t c) (b : JointIs s.key now (lines_of s.key late) v k u d) where
  pub same-terms : t ≡ u
  same-terms = terms-one s h journal fair past front at.front_is now late end.front_is v g k t u c d a b

  -- with the amounts of its command
  opens-split : (o : List AssetOutcome) → o ≡ apart t g.amounts → IsSplit t o
  opens-split o e = record { amounts = g.amounts; is = e; sum = a.sum ∙ sym a.total }

-- ---- at an end

over-split : (s : Signing) (h : List Entry) (journal : List Told) (fair : IsFair s h journal) (past : List Entry) (front : List Told) (at : At s h journal past front) (v : Virtual) (g : Goal)
    → In (kinds.End v) (mind_at real s.key past front).parts → goal_in (facts_of (mind_at real s.key past front)) v.channel ≡ Some g
    → (e : EndIs s.key past (lines_of s.key front) (facts_of (mind_at real s.key past front)) v g) → e.end.closing ≡ true → (o : List AssetOutcome) → IsOver e.end o → IsSplit e.end.terms o
over-split s h journal fair past front at v g i found e closing o is-over = by e.end.channel.top refl
  where
    shares : SharesOver e.fixed v.asset v.total e.end.channel
    shares = ends_share_over s h journal past front fair at v g i found e closing is-over.all_final

    by : (top : Option StateParts) → e.end.channel.top ≡ top → IsSplit e.end.terms o
    by None is = absurd (none-eq is-over.amounts (sym (ap (amounts_after e.end.terms.asset e.end.terms.first e.end.terms.second) is) ∙ is-over.now))
    by (Some top) is =
        let sh : IsShared e.fixed v.asset v.total top.outcome = shares.top top is in
        let same : sh.amounts ≡ is-over.amounts =
        some-eq sh.amounts is-over.amounts
        (sym (ap (λ (y : ℕ × ℕ). Some y)
        (ap (amounts_in e.end.terms.asset e.end.terms.first e.end.terms.second) sh.is
        ∙ (ap (λ (n : ℕ). amounts_in n e.end.terms.first e.end.terms.second (shared e.fixed v.asset sh.amounts)) e.joint.asset
        ∙ shared-amounts e.fixed v.asset e.end.terms.first e.end.terms.second e.people sh.amounts e.joint.ends)))
        ∙ (sym (ap (amounts_after e.end.terms.asset e.end.terms.first e.end.terms.second) is) ∙ is-over.now)) in
        record { amounts = is-over.amounts; is = is-over.is; sum = subst (λ (y : ℕ × ℕ). y.0 + y.1 ≡ v.total) same sh.sum ∙ sym e.joint.total }

pub ends_split : EndsSplit
ends_split s h journal fair v g i e x n o j made k =
    all-split s h journal fair (kinds.End v) e.end.terms v.joint (joint-among v) there lasts h journal end i x n o j made k
  where
    end : At s h journal h journal
    end = whole-place s h journal fair

    there : (past : List Entry) (front : List Told) → At s h journal past front → In (kinds.End v) (mind_at real s.key past front).parts
        → (f : FixedParts) × In f (channels (lines_of s.key front)) × (real.named f ≡ v.joint)
    there past front at l = let a = part-at s h journal fair past front at (kinds.End v) l in (a.is.joint.fixed, a.is.joint.seat.own.there, a.is.joint.named)

    lasts : (past : List Entry) (front : List Told) → At s h journal past front → In (kinds.End v) (mind_at real s.key past front).parts → (last : StateParts) (o : List AssetOutcome)
        → last-of v.joint (lines_of s.key front) ≡ Some last → In o (outcomes_of last) → (o ≡ together e.end.terms) ⊎ IsSplit e.end.terms o
    lasts past front at l last o is m = go a.is.end.closing refl
      where
        a : PartAt s past front (kinds.End v)
        a = part-at s h journal fair past front at (kinds.End v) l

        known : EndCore v a.is.end (lines_of s.key front) (pending front)
        known = ends-core s h journal fair past front at v a.goal l a.is

        same : a.is.end.terms ≡ e.end.terms
        same = same-terms s h journal fair past h front journal at end v a.goal g a.is.end.terms e.end.terms a.is.end.joint e.end.joint a.is.joint e.joint

        back : (o ≡ together a.is.end.terms) ⊎ IsSplit a.is.end.terms o → (o ≡ together e.end.terms) ⊎ IsSplit e.end.terms o
        back z = subst (λ (t : Terms). (o ≡ together t) ⊎ IsSplit t o) same z

        before : (o ≡ a.is.end.joint.opening) ⊎ ((o ≡ together a.is.end.terms) × (holds 5 a.is.end.joint ≡ true)) → (o ≡ together a.is.end.terms) ⊎ IsSplit a.is.end.terms o
        before (inl q) =
            inr (opens-split s h journal fair past h front journal at end v a.goal g a.is.end.terms e.end.terms a.is.end.joint e.end.joint a.is.joint e.joint o
            (q ∙ ap (λ (z : Seat). z.opening) a.is.joint.seat.is))
        before (inr q) = inl q.0

        after : a.is.end.closing ≡ true → (o ≡ together a.is.end.terms) ⊎ IsOver a.is.end o → (o ≡ together a.is.end.terms) ⊎ IsSplit a.is.end.terms o
        after closed (inl q) = inl q
        after closed (inr q) = inr (over-split s h journal fair past front at v a.goal l a.found a.is closed o q)

        go : (b : Bool) → a.is.end.closing ≡ b → (o ≡ together e.end.terms) ⊎ IsSplit e.end.terms o
        go false stays = back (before (known.core.joins stays last o is m))
        go true closed = back (after closed (known.core.parts closed last o is m))

-- ---- at the intermediary

pub middles_split : MiddlesSplit
middles_split s h journal fair v g i e x n o j made k =
    all-split s h journal fair (kinds.Middle v) e.middle.terms v.joint (joint-among v) there lasts h journal end i x n o j made k
  where
    end : At s h journal h journal
    end = whole-place s h journal fair

    there : (past : List Entry) (front : List Told) → At s h journal past front → In (kinds.Middle v) (mind_at real s.key past front).parts
        → (f : FixedParts) × In f (channels (lines_of s.key front)) × (real.named f ≡ v.joint)
    there past front at l = let a = part-at s h journal fair past front at (kinds.Middle v) l in (a.is.joint.fixed, a.is.joint.seat.own.there, a.is.joint.named)

    lasts : (past : List Entry) (front : List Told) → At s h journal past front → In (kinds.Middle v) (mind_at real s.key past front).parts → (last : StateParts) (o : List AssetOutcome)
        → last-of v.joint (lines_of s.key front) ≡ Some last → In o (outcomes_of last) → (o ≡ together e.middle.terms) ⊎ IsSplit e.middle.terms o
    lasts past front at l last o is m = go a.is.middle.closing refl
      where
        a : PartAt s past front (kinds.Middle v)
        a = part-at s h journal fair past front at (kinds.Middle v) l

        known : MiddleCore v a.is.middle (lines_of s.key front) (pending front)
        known = middles-core s h journal fair past front at v a.goal l a.is

        same : a.is.middle.terms ≡ e.middle.terms
        same = same-terms s h journal fair past h front journal at end v a.goal g a.is.middle.terms e.middle.terms a.is.middle.joint e.middle.joint a.is.joint e.joint

        back : (o ≡ together a.is.middle.terms) ⊎ IsSplit a.is.middle.terms o → (o ≡ together e.middle.terms) ⊎ IsSplit e.middle.terms o
        back z = subst (λ (t : Terms). (o ≡ together t) ⊎ IsSplit t o) same z

        before : (o ≡ a.is.middle.joint.opening) ⊎ ((o ≡ together a.is.middle.terms) × (holds 5 a.is.middle.joint ≡ true)) → (o ≡ together a.is.middle.terms) ⊎ IsSplit a.is.middle.terms o
        before (inl q) =
            inr (opens-split s h journal fair past h front journal at end v a.goal g a.is.middle.terms e.middle.terms a.is.middle.joint e.middle.joint a.is.joint e.joint o
            (q ∙ ap (λ (z : Seat). z.opening) a.is.joint.seat.is))
        before (inr q) = inl q.0

        go : (b : Bool) → a.is.middle.closing ≡ b → (o ≡ together e.middle.terms) ⊎ IsSplit e.middle.terms o
        go false stays = back (before (known.core.joins stays last o is m))
        go true closed = back (known.core.parts closed last o is m)
