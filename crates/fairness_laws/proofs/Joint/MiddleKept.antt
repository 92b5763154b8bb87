-- The joint channel at the intermediary, at each place of a node's journal.
use Rattle.std.proofs.Common.{◌≡◌, ℕ, true, ◌⊎◌, inl, inr, List, [], ◌∷◌, ◌++◌, length, refl, sym, ◌∙◌, ap, subst}
use Rattle.std.specs.Prelude.{◌==◌, Option, Some, None}
use Rattle.std.specs.Option.{option_map}
use Rattle.channel_values.specs.declared.chain.Signed.{Signed}
use Rattle.channel_safety.proofs.Tests.{some-eq, none-eq}
use Rattle.call_history.specs.Flows.{is_among}
use Rattle.call_history.specs.declared.entry.Entry.{Entry}
use Rattle.funding_plans.specs.Parts.{channels_of_virtual, running}
use Rattle.funding_plans.specs.declared.plan.Goal.{Goal}
use Rattle.funding_plans.specs.declared.plan.Part.TheVariants as kinds
use Rattle.funding_plans.specs.declared.plan.Virtual.{Virtual}
use Rattle.channel_safety.specs.Journals.{In, Line, made_in}
use Rattle.network.specs.declared.command.Command.{Command}
use Rattle.network.specs.declared.command.Command.TheVariants as commands
use Rattle.channel_node.proofs.Places.{mind-watched, mind-entry}
use Rattle.channel_node.specs.Minds.{Mind, facts_of}
use Rattle.channel_node.specs.Places.{Told, lines_of, mind_at}
use Rattle.channel_node.specs.Playing.{Signing, pending}
use Rattle.node_guarantees.proofs.Telling.{places_tell_shares}
use Rattle.stage_tables.specs.Stages.{stages}
use Rattle.fairness_laws.proofs.Plan.Places.{kept-there}
use Rattle.fairness_laws.specs.JointKeeping.{IsSplit}
use Rattle.fairness_laws.specs.PaymentLaws.{At}
use Rattle.fairness_laws.specs.PlanLaws.{PartAt}
use Rattle.fairness_laws.specs.PlanParts.{MiddleIs}
use Rattle.fairness_laws.specs.PlanSettings.{IsFair}
use Rattle.fairness_laws.proofs.Plan.Asked.{part-at}
use Rattle.fairness_laws.proofs.Accepted.{kept-middle}
use Rattle.fairness_laws.proofs.Joint.Core.{Core, core-signs, core-closes, core-new}
use Rattle.fairness_laws.proofs.Joint.Middles.{MiddleCore, core-carries, middle-carries}
use Rattle.fairness_laws.proofs.Joint.MiddleSteps.{wants-in, signing-joint, runs-here}
use Rattle.fairness_laws.proofs.Joint.Events.{watched-pays, last-next, last-now, GoalNext, goal-next, goal-same, none-waits, why-signed, paid-is, no-joint-pays as no-payments-there, NewPart, part-next}
use Rattle.fairness_laws.proofs.Seat.Held.{last-of}
use Rattle.fairness_laws.proofs.EventPlaces.{before-event, before-entry, watched-made}
use Rattle.fairness_laws.proofs.Joint.Rows.{MiddleWants}
use Rattle.fairness_laws.proofs.Joint.Seats.{opens}
use Rattle.fairness_laws.proofs.Joint.Terms.{joint-among}
use Rattle.fairness_laws.proofs.Plan.Goals.{goal-stays}
use Rattle.fairness_laws.proofs.Opening.Middles.{MiddleAt, middle-at}
use Rattle.share_laws.specs.Places.{last_made}
use Rattle.funding_plans.specs.Seats.{holds}
use Rattle.support_rules.specs.Real.{real}
use Rattle.virtual_channel.specs.Middles as middles
use Rattle.fairness_laws.proofs.Noting.{IsWished}
use Rattle.fairness_laws.proofs.Over.{AtEvent, IsKept, looked}

module _ (s : Signing) (h : List Entry) (journal : List Told) (fair : IsFair s h journal) where
  abbrev MiddlesAt : List Entry → List Told → Type 0
  MiddlesAt past front =
      At s h journal past front → (v : Virtual) (g : Goal) → In (kinds.Middle v) (mind_at real s.key past front).parts
      → (e : MiddleIs s.key past (lines_of s.key front) (facts_of (mind_at real s.key past front)) v g) → MiddleCore v e.middle (lines_of s.key front) (pending front)

  -- ---- nothing happens to its channels

  still : (later past : List Entry) (newer front : List Told) → At s h journal past front → MiddlesAt past front
      → (mind_at real s.key (later ++ past) (newer ++ front)).parts ≡ (mind_at real s.key past front).parts
      → (mind_at real s.key (later ++ past) (newer ++ front)).goals ≡ (mind_at real s.key past front).goals
      → ((c : List ℕ) → last-of c (lines_of s.key (newer ++ front)) ≡ last-of c (lines_of s.key front))
      → ((c : Command) → pending (newer ++ front) ≡ Some c → pending front ≡ Some c) → MiddlesAt (later ++ past) (newer ++ front)
  still later past newer front at was parts goals last waits then v g i e =
      middle-carries s h journal fair later past newer front at then v a.goal g a.is e (ap (λ (z : Goal). z.amounts) same) (pending front) (pending (newer ++ front))
      (y.closes ∙ (ap (λ (z : Goal). z.closing) same ∙ sym x.closes)) (last v.joint) (λ asset amount w. core.unpaid asset amount (waits (commands.Pay v.joint asset amount) w)) core
    where
      before : In (kinds.Middle v) (mind_at real s.key past front).parts
      before = subst (In (kinds.Middle v)) parts i

      a : PartAt s past front (kinds.Middle v)
      a = part-at s h journal fair past front at (kinds.Middle v) before

      core : MiddleCore v a.is.middle (lines_of s.key front) (pending front)
      core = was at v a.goal before a.is

      x : MiddleAt (mind_at real s.key past front) v a.is.middle
      x = middle-at (mind_at real s.key past front) v a.is.middle a.is.is

      y : MiddleAt (mind_at real s.key (later ++ past) (newer ++ front)) v e.middle
      y = middle-at (mind_at real s.key (later ++ past) (newer ++ front)) v e.middle e.is

      same : y.g ≡ x.g
      same = some-eq y.g x.g (sym y.goal ∙ (goal-stays (mind_at real s.key past front) (mind_at real s.key (later ++ past) (newer ++ front)) v.channel parts goals ∙ x.goal))

  -- ---- an event, of a part that was there

  module _ (past : List Entry) (x : Told) (front : List Told) (at : At s h journal past front) (then : At s h journal past (x ∷ front)) (len : length past ≡ x.seen) (v : Virtual) where
    abbrev m : Mind
    m = mind_at real s.key past front

    abbrev new : Mind
    new = mind_at real s.key past (x ∷ front)

    abbrev L : List Line
    L = lines_of s.key front

    abbrev M : List Line
    M = lines_of s.key (x ∷ front)

    module _ (i : In (kinds.Middle v) m.parts) (g k : Goal) (a : MiddleIs s.key past L (facts_of m) v g) (b : MiddleIs s.key past M (facts_of new) v k) (was : MiddleCore v a.middle L (pending front)) where
      goals : GoalNext s h journal fair past x front at then len (kinds.Middle v) (middle-at m v a.middle a.is).g (middle-at new v b.middle b.is).g
      goals =
          goal-next s h journal fair past x front at then len (kinds.Middle v) i (kept-middle (facts_of m) v) (middle-at m v a.middle a.is).g (middle-at new v b.middle b.is).g
          (middle-at m v a.middle a.is).goal (middle-at new v b.middle b.is).goal

      -- no payment is in the joint channel
      no-joint-pays : (asset amount : ℕ) → pending (x ∷ front) ≡ Some (commands.Pay v.joint asset amount) → ⊥
      no-joint-pays = no-payments-there s h journal fair past x front at then len v g a.middle.terms a.middle.joint a.joint

      -- ---- nothing is signed there

      quiet : made_in v.joint x.deed ≡ None → MiddleCore v b.middle M (pending (x ∷ front))
      quiet joint = by goals.closing
        where
          joint-last : last-of v.joint M ≡ last-of v.joint L
          joint-last = last-next s.key x front v.joint joint

          closes-now : b.middle.closing ≡ true → (stages.stage (facts_of m) (kinds.Middle v) == running (kinds.Middle v)) ≡ true → MiddleCore v b.middle M (pending (x ∷ front))
          closes-now closed ran =
              let r = runs-here s h journal fair past front at v i g a (pending front) was ran in
              record {
                core = subst (Core b.middle.terms b.middle.joint.opening b.middle.closing (middles.are_set_up b.middle) (holds 5 b.middle.joint) (IsSplit b.middle.terms)) (sym joint-last)
                    (core-carries s h journal fair [] past (x ∷ []) front at then v g k a b goals.amounts true (last-of v.joint L) (sym closed)
                    (core-closes a.middle.terms a.middle.joint.opening a.middle.closing (middles.are_set_up a.middle) (holds 5 a.middle.joint) (IsSplit a.middle.terms) (last-of v.joint L) was.core g.amounts
                    (opens s h journal fair past front at v g a.middle.terms a.middle.joint a.joint) r.0.set r.1));
                unpaid = no-joint-pays;
              }

          by : ((middle-at new v b.middle b.is).g.closing ≡ (middle-at m v a.middle a.is).g.closing)
              ⊎ (((middle-at new v b.middle b.is).g.closing ≡ true) × ((stages.stage (facts_of m) (kinds.Middle v) == running (kinds.Middle v)) ≡ true)) → MiddleCore v b.middle M (pending (x ∷ front))
          by (inl same) =
              middle-carries s h journal fair [] past (x ∷ []) front at then v g k a b goals.amounts (pending front) (pending (x ∷ front))
              ((middle-at new v b.middle b.is).closes ∙ (same ∙ sym (middle-at m v a.middle a.is).closes)) joint-last no-joint-pays was
          by (inr now) = closes-now ((middle-at new v b.middle b.is).closes ∙ now.0) now.1

      -- ---- a state is signed

      joint-signed : (n : Signed) → made_in v.joint x.deed ≡ Some n → MiddleCore v b.middle M (pending (x ∷ front))
      joint-signed n made = record {
        core = core-carries s h journal fair [] past (x ∷ []) front at then v g k a b goals.amounts a.middle.closing (last-of v.joint M) closing-same
            (core-signs a.middle.terms a.middle.joint.opening a.middle.closing (middles.are_set_up a.middle) (holds 5 a.middle.joint) (IsSplit a.middle.terms) n.state (last-of v.joint M)
            (last-now s.key x front v.joint n made) (signing-joint s h journal fair past front at v i g a (pending front) was n.state wants));
        unpaid = λ asset amount e. none-waits s h journal fair past x front at then len v.joint n made (commands.Pay v.joint asset amount) e;
      }
        where
          closing-same : a.middle.closing ≡ b.middle.closing
          closing-same =
              let same =
              goal-same s h journal fair past x front at then len v.joint n made (kinds.Middle v) (middle-at m v a.middle a.is).g (middle-at new v b.middle b.is).g
              (middle-at m v a.middle a.is).goal (middle-at new v b.middle b.is).goal in
              (middle-at m v a.middle a.is).closes ∙ (ap (λ (z : Goal). z.closing) (sym same) ∙ sym (middle-at new v b.middle b.is).closes)

          wants : MiddleWants a.middle v.joint n.state
          wants = by (why-signed s h journal fair past x front at then len v.joint n made).why
            where
              by : IsWished stages (pending front) m v.joint n.state → MiddleWants a.middle v.joint n.state
              by (inl paid) = absurd (was.unpaid paid.asset paid.amount (paid-is s h journal fair past x front at then len v.joint paid))
              by (inr e) = wants-in s h journal fair past front at v i g a n.state e

      middle-next : MiddleCore v b.middle M (pending (x ∷ front))
      middle-next = go (made_in v.joint x.deed) refl
        where
          go : (j : Option Signed) → made_in v.joint x.deed ≡ j → MiddleCore v b.middle M (pending (x ∷ front))
          go (Some n) e = joint-signed n e
          go None e = quiet e

    -- ---- a new part

    module _ (k : Goal) (b : MiddleIs s.key past M (facts_of new) v k) (fresh : NewPart s h journal fair past x front at then len (kinds.Middle v)) where
      unsigned : last-of v.joint M ≡ None
      unsigned =
          ap (option_map (λ (z : Signed). z.state)) (subst (λ (n : List ℕ). last_made n M ≡ None) b.joint.named
          (fresh.unsigned b.joint.fixed b.joint.seat.own.there (subst (λ (n : List ℕ). is_among n (channels_of_virtual v) ≡ true) (sym b.joint.named) (joint-among v))))

      middle-new : MiddleCore v b.middle M (pending (x ∷ front))
      middle-new = record {
        core = core-new b.middle.terms b.middle.joint.opening b.middle.closing (middles.are_set_up b.middle) (holds 5 b.middle.joint) (IsSplit b.middle.terms) (last-of v.joint M)
            ((middle-at new v b.middle b.is).closes ∙ fresh.going (middle-at new v b.middle b.is).g (middle-at new v b.middle b.is).goal) unsigned;
        unpaid = λ asset amount e. fresh.unpaid v.joint asset amount e;
      }

  -- ---- at each place

  middles-first : (past : List Entry) → MiddlesAt past []
  middles-first past at v g i e =
      absurd (subst (In (kinds.Middle v)) (places_tell_shares stages real s h journal past [] fair.nodes.legal fair.nodes.plays at.front_is).parts i)

  middles-event : (past : List Entry) (x : Told) (front : List Told) → AtEvent stages real s h journal past x front → MiddlesAt past front → MiddlesAt past (x ∷ front)
  middles-event past x front ev was then v g i e = by (part-next s h journal fair past x front at then ev.len (kinds.Middle v) i)
    where
      at : At s h journal past front
      at = before-event s h journal past x front (inr ev.len) then

      by : In (kinds.Middle v) (mind_at real s.key past front).parts ⊎ NewPart s h journal fair past x front at then ev.len (kinds.Middle v)
          → MiddleCore v e.middle (lines_of s.key (x ∷ front)) (pending (x ∷ front))
      by (inr fresh) = middle-new past x front at then ev.len v g e fresh
      by (inl j) =
          let a = part-at s h journal fair past front at (kinds.Middle v) j in
          middle-next past x front at then ev.len v j a.goal g a.is e (was at v a.goal j a.is)

  middles-kept : IsKept stages real s h journal MiddlesAt
  middles-kept = record {
    first = middles-first;
    event = middles-event;
    look = λ past x front w was then.
        let same = mind-watched real s.key past x front (looked real x.deed x.command w) in
        still [] past (x ∷ []) front (before-event s h journal past x front (inl w) then) was (ap (λ (z : Mind). z.parts) same) (ap (λ (z : Mind). z.goals) same)
        (λ c. last-next s.key x front c (watched-made x.deed w c)) (λ c e. absurd (none-eq c (sym (watched-pays x.deed x.command w) ∙ e))) then;
    entry = λ past e front seen was then.
        let same = mind-entry real s.key past e front seen in
        still (e ∷ []) past [] front (before-entry s h journal past e front seen then) was (ap (λ (z : Mind). z.parts) same) (ap (λ (z : Mind). z.goals) same) (λ c. refl) (λ c w. w) then;
  }

  pub middles-core : (past : List Entry) (front : List Told) → MiddlesAt past front
  middles-core past front at = kept-there s h journal fair.nodes past front at.front_is MiddlesAt middles-kept at
