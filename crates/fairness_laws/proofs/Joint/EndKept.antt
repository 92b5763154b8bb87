-- The joint channel at an end, at each place of a node's journal.
use Rattle.std.proofs.Common.{◌≡◌, ℕ, ◌≤◌, true, false, ◌⊎◌, inl, inr, List, [], ◌∷◌, ◌++◌, length, refl, sym, ◌∙◌, ap, subst}
use Rattle.std.specs.Prelude.{◌==◌, Option, Some, None}
use Rattle.std.specs.Option.{option_map}
use Rattle.channel_values.specs.Parts.{FixedParts, StateParts}
use Rattle.channel_values.specs.declared.chain.Signed.{Signed}
use Rattle.channel_safety.proofs.Tests.{some-eq, none-eq, clash}
use Rattle.call_history.specs.Flows.{is_among}
use Rattle.call_history.specs.declared.entry.Entry.{Entry}
use Rattle.funding_plans.specs.Parts.{channels_of_virtual, ledgers_of, running}
use Rattle.funding_plans.specs.declared.plan.Goal.{Goal}
use Rattle.funding_plans.specs.declared.plan.Part.{Part}
use Rattle.funding_plans.specs.declared.plan.Part.TheVariants as kinds
use Rattle.funding_plans.specs.declared.plan.Virtual.{Virtual}
use Rattle.channel_safety.specs.Journals.{In, Line, made_in}
use Rattle.network.specs.declared.command.Command.{Command}
use Rattle.network.specs.declared.command.Command.TheVariants as commands
use Rattle.channel_node.proofs.Places.{mind-watched, mind-entry}
use Rattle.channel_node.specs.Minds.{Mind, facts_of}
use Rattle.channel_node.specs.Places.{Told, lines_of, mind_at}
use Rattle.channel_node.specs.Playing.{Signing, pending}
use Rattle.node_guarantees.proofs.Telling.{places_tell_shares}
use Rattle.stage_tables.specs.Stages.{stages}
use Rattle.fairness_laws.proofs.Plan.Places.{kept-there}
use Rattle.fairness_laws.specs.JointKeeping.{IsOver}
use Rattle.fairness_laws.specs.PaymentLaws.{At}
use Rattle.fairness_laws.specs.PlanLaws.{PartAt}
use Rattle.fairness_laws.specs.PlanParts.{EndIs}
use Rattle.fairness_laws.specs.PlanSettings.{IsFair}
use Rattle.fairness_laws.proofs.Plan.Asked.{one-of-parts, part-at}
use Rattle.fairness_laws.proofs.Accepted.{kept-end}
use Rattle.fairness_laws.proofs.Joint.Core.{Late, Settled, Core, core-signs, core-closes, core-new}
use Rattle.fairness_laws.proofs.Joint.Ends.{EndCore, core-carries, settled-carries, end-carries}
use Rattle.fairness_laws.proofs.Joint.EndSteps.{joint-no-ledger, joint-not-channel, wants-channel, borne-late, wants-in, settled-quiet, signing-joint, signing-channel, runs-here}
use Rattle.fairness_laws.proofs.Joint.Events.{watched-pays, last-next, last-now, GoalNext, goal-next, goal-same, paid-here, none-waits, why-signed, made-other, paid-is, no-joint-pays as no-payments-there, NewPart, part-next}
use Rattle.fairness_laws.proofs.Seat.Held.{last-of}
use Rattle.fairness_laws.proofs.EventPlaces.{before-event, before-entry, watched-made}
use Rattle.fairness_laws.proofs.Joint.Rows.{EndWants}
use Rattle.fairness_laws.proofs.Joint.Seats.{opens}
use Rattle.fairness_laws.proofs.Joint.Terms.{joint-among, channel-among}
use Rattle.fairness_laws.proofs.Plan.Goals.{goal-stays}
use Rattle.fairness_laws.proofs.Opening.Ends.{EndAt, end-at}
use Rattle.share_laws.specs.Places.{channels, last_made}
use Rattle.funding_plans.specs.Seats.{holds}
use Rattle.support_rules.specs.Real.{real}
use Rattle.virtual_channel.specs.Ends as ends
use Rattle.fairness_laws.proofs.FirstRounds.{joined-among}
use Rattle.fairness_laws.proofs.Noting.{IsWished}
use Rattle.fairness_laws.proofs.Over.{AtEvent, IsKept, looked}

module _ (s : Signing) (h : List Entry) (journal : List Told) (fair : IsFair s h journal) where
  abbrev EndsAt : List Entry → List Told → Type 0
  EndsAt past front =
      At s h journal past front → (v : Virtual) (g : Goal) → In (kinds.End v) (mind_at real s.key past front).parts
      → (e : EndIs s.key past (lines_of s.key front) (facts_of (mind_at real s.key past front)) v g) → EndCore v e.end (lines_of s.key front) (pending front)

  -- ---- nothing happens to its channels

  still : (later past : List Entry) (newer front : List Told) → At s h journal past front → EndsAt past front
      → (mind_at real s.key (later ++ past) (newer ++ front)).parts ≡ (mind_at real s.key past front).parts
      → (mind_at real s.key (later ++ past) (newer ++ front)).goals ≡ (mind_at real s.key past front).goals
      → ((c : List ℕ) → last-of c (lines_of s.key (newer ++ front)) ≡ last-of c (lines_of s.key front))
      → ((c : Command) → pending (newer ++ front) ≡ Some c → pending front ≡ Some c) → EndsAt (later ++ past) (newer ++ front)
  still later past newer front at was parts goals last waits then v g i e =
      end-carries s h journal fair later past newer front at then v a.goal g a.is e (ap (λ (z : Goal). z.opening) same) (ap (λ (z : Goal). z.amounts) same) (pending front) (pending (newer ++ front))
      (y.closes ∙ (ap (λ (z : Goal). z.closing) same ∙ sym x.closes)) (last v.joint) (last v.channel)
      (λ asset amount w. core.waits asset amount (waits (commands.Pay v.channel asset amount) w)) (λ asset amount w. core.unpaid asset amount (waits (commands.Pay v.joint asset amount) w)) core
    where
      before : In (kinds.End v) (mind_at real s.key past front).parts
      before = subst (In (kinds.End v)) parts i

      a : PartAt s past front (kinds.End v)
      a = part-at s h journal fair past front at (kinds.End v) before

      core : EndCore v a.is.end (lines_of s.key front) (pending front)
      core = was at v a.goal before a.is

      x : EndAt (mind_at real s.key past front) v a.is.end
      x = end-at (mind_at real s.key past front) v a.is.end a.is.is

      y : EndAt (mind_at real s.key (later ++ past) (newer ++ front)) v e.end
      y = end-at (mind_at real s.key (later ++ past) (newer ++ front)) v e.end e.is

      same : y.g ≡ x.g
      same = some-eq y.g x.g (sym y.goal ∙ (goal-stays (mind_at real s.key past front) (mind_at real s.key (later ++ past) (newer ++ front)) v.channel parts goals ∙ x.goal))

  -- ---- an event, of a part that was there

  module _ (past : List Entry) (x : Told) (front : List Told) (at : At s h journal past front) (then : At s h journal past (x ∷ front)) (len : length past ≡ x.seen) (v : Virtual) where
    abbrev m : Mind
    m = mind_at real s.key past front

    abbrev new : Mind
    new = mind_at real s.key past (x ∷ front)

    abbrev L : List Line
    L = lines_of s.key front

    abbrev M : List Line
    M = lines_of s.key (x ∷ front)

    module _ (i : In (kinds.End v) m.parts) (g k : Goal) (a : EndIs s.key past L (facts_of m) v g) (b : EndIs s.key past M (facts_of new) v k) (was : EndCore v a.end L (pending front)) where
      goals : GoalNext s h journal fair past x front at then len (kinds.End v) (end-at m v a.end a.is).g (end-at new v b.end b.is).g
      goals =
          goal-next s h journal fair past x front at then len (kinds.End v) i (kept-end (facts_of m) v) (end-at m v a.end a.is).g (end-at new v b.end b.is).g (end-at m v a.end a.is).goal (end-at new v b.end b.is).goal

      -- an accepted payment
      pays : (asset amount : ℕ) → pending (x ∷ front) ≡ Some (commands.Pay v.channel asset amount) → Settled a.end.terms (last-of v.joint L)
      pays asset amount e =
          let q = paid-here s h journal fair past x front at then len v.channel asset amount e in
          let it-is = one-of-parts s h journal fair past front at v.channel q.part (kinds.End v) q.there i (joined-among v.channel q.part q.joined) (channel-among v) in
          (runs-here s h journal fair past front at v i g a (pending front) was (subst (λ (p : Part). (stages.stage (facts_of m) p == running p) ≡ true) it-is q.runs)).1

      -- is none in the joint channel
      no-joint-pays : (asset amount : ℕ) → pending (x ∷ front) ≡ Some (commands.Pay v.joint asset amount) → ⊥
      no-joint-pays = no-payments-there s h journal fair past x front at then len v g a.end.terms a.end.joint a.joint

      -- ---- nothing is signed of both channels

      quiet : made_in v.joint x.deed ≡ None → made_in v.channel x.deed ≡ None → EndCore v b.end M (pending (x ∷ front))
      quiet joint channel = by goals.closing
        where
          joint-last : last-of v.joint M ≡ last-of v.joint L
          joint-last = last-next s.key x front v.joint joint

          channel-last : last-of v.channel M ≡ last-of v.channel L
          channel-last = last-next s.key x front v.channel channel

          closes-now : b.end.closing ≡ true → (stages.stage (facts_of m) (kinds.End v) == running (kinds.End v)) ≡ true → EndCore v b.end M (pending (x ∷ front))
          closes-now closed ran =
              let r = runs-here s h journal fair past front at v i g a (pending front) was ran in
              record {
                core = subst (Core b.end.terms b.end.joint.opening b.end.closing (ends.are_set_up b.end) (holds 5 b.end.joint) (IsOver b.end)) (sym joint-last)
                    (core-carries s h journal fair [] past (x ∷ []) front at then v g k a b goals.opening goals.amounts true (last-of v.joint L) (sym closed)
                    (core-closes a.end.terms a.end.joint.opening a.end.closing (ends.are_set_up a.end) (holds 5 a.end.joint) (IsOver a.end) (last-of v.joint L) was.core g.amounts
                    (opens s h journal fair past front at v g a.end.terms a.end.joint a.joint) r.0.set r.1));
                opened = λ stays. absurd (clash b.end.closing closed stays);
                waits = λ asset amount e. subst (Settled b.end.terms) (sym joint-last)
                    (settled-carries s h journal fair [] past (x ∷ []) front at then v g k a b goals.opening goals.amounts (last-of v.joint L) (pays asset amount e));
                unpaid = no-joint-pays;
              }

          by : ((end-at new v b.end b.is).g.closing ≡ (end-at m v a.end a.is).g.closing)
              ⊎ (((end-at new v b.end b.is).g.closing ≡ true) × ((stages.stage (facts_of m) (kinds.End v) == running (kinds.End v)) ≡ true)) → EndCore v b.end M (pending (x ∷ front))
          by (inl same) =
              end-carries s h journal fair [] past (x ∷ []) front at then v g k a b goals.opening goals.amounts (pending front) (pending (x ∷ front))
              ((end-at new v b.end b.is).closes ∙ (same ∙ sym (end-at m v a.end a.is).closes)) joint-last channel-last pays no-joint-pays was
          by (inr now) = closes-now ((end-at new v b.end b.is).closes ∙ now.0) now.1

      -- ---- a state is signed

      closing-same : (channel : List ℕ) (n : Signed) → made_in channel x.deed ≡ Some n → a.end.closing ≡ b.end.closing
      closing-same channel n made =
          let same =
          goal-same s h journal fair past x front at then len channel n made (kinds.End v) (end-at m v a.end a.is).g (end-at new v b.end b.is).g (end-at m v a.end a.is).goal (end-at new v b.end b.is).goal in
          (end-at m v a.end a.is).closes ∙ (ap (λ (z : Goal). z.closing) (sym same) ∙ sym (end-at new v b.end b.is).closes)

      none-pays : (channel : List ℕ) (n : Signed) → made_in channel x.deed ≡ Some n → (c : Command) → pending (x ∷ front) ≡ Some c → ⊥
      none-pays channel n made c e = none-waits s h journal fair past x front at then len channel n made c e

      joint-signed : (n : Signed) → made_in v.joint x.deed ≡ Some n → EndCore v b.end M (pending (x ∷ front))
      joint-signed n made = record {
        core = core-carries s h journal fair [] past (x ∷ []) front at then v g k a b goals.opening goals.amounts a.end.closing (last-of v.joint M) (closing-same v.joint n made)
            (core-signs a.end.terms a.end.joint.opening a.end.closing (ends.are_set_up a.end) (holds 5 a.end.joint) (IsOver a.end) n.state (last-of v.joint M) (last-now s.key x front v.joint n made)
            (signing-joint s h journal fair past front at v i g a (pending front) was n.state wants));
        opened = λ stays late. absurd (settled-quiet s h journal fair past front at v i g a (pending front) was (closing-same v.joint n made ∙ stays)
            (was.opened (closing-same v.joint n made ∙ stays) (subst (Late 2) channel-last late)) n.state wants);
        waits = λ asset amount e. absurd (none-pays v.joint n made (commands.Pay v.channel asset amount) e);
        unpaid = λ asset amount e. none-pays v.joint n made (commands.Pay v.joint asset amount) e;
      }
        where
          channel-last : last-of v.channel M ≡ last-of v.channel L
          channel-last = last-next s.key x front v.channel (made-other s h journal fair past x front at then len v.joint n made v.channel (joint-not-channel s h journal fair past front at v i g a))

          wants : EndWants a.end v.joint n.state
          wants = by (why-signed s h journal fair past x front at then len v.joint n made).why
            where
              by : IsWished stages (pending front) m v.joint n.state → EndWants a.end v.joint n.state
              by (inl paid) = absurd (was.unpaid paid.asset paid.amount (paid-is s h journal fair past x front at then len v.joint paid))
              by (inr e) = wants-in s h journal fair past front at v i g a v.joint (joint-among v) (joint-no-ledger s h journal fair past front at v i g a) n.state e

      channel-signed : (n : Signed) → made_in v.channel x.deed ≡ Some n → made_in v.joint x.deed ≡ None → EndCore v b.end M (pending (x ∷ front))
      channel-signed n made joint = record {
        core = subst (Core b.end.terms b.end.joint.opening b.end.closing (ends.are_set_up b.end) (holds 5 b.end.joint) (IsOver b.end)) (sym joint-last)
            (core-carries s h journal fair [] past (x ∷ []) front at then v g k a b goals.opening goals.amounts a.end.closing (last-of v.joint L) (closing-same v.channel n made) was.core);
        opened = λ stays late. carried (settled (closing-same v.channel n made ∙ stays) (far late) (why-signed s h journal fair past x front at then len v.channel n made).why);
        waits = λ asset amount e. absurd (none-pays v.channel n made (commands.Pay v.channel asset amount) e);
        unpaid = λ asset amount e. none-pays v.channel n made (commands.Pay v.joint asset amount) e;
      }
        where
          joint-last : last-of v.joint M ≡ last-of v.joint L
          joint-last = last-next s.key x front v.joint joint

          carried : Settled a.end.terms (last-of v.joint L) → Settled b.end.terms (last-of v.joint M)
          carried z =
              subst (Settled b.end.terms) (sym joint-last) (settled-carries s h journal fair [] past (x ∷ []) front at then v g k a b goals.opening goals.amounts (last-of v.joint L) z)

          far : Late 2 (last-of v.channel M) → 2 ≤ n.state.turn
          far late = subst (λ (z : StateParts). 2 ≤ z.turn) (some-eq late.state n.state (sym late.is ∙ last-now s.key x front v.channel n made)) late.far

          settled : a.end.closing ≡ false → 2 ≤ n.state.turn → IsWished stages (pending front) m v.channel n.state → Settled a.end.terms (last-of v.joint L)
          settled stays high (inl paid) = was.waits paid.asset paid.amount (paid-is s h journal fair past x front at then len v.channel paid)
          settled stays high (inr e) = by (wants-channel s h journal fair past front at v i g a n.state e)
            where
              by : EndWants a.end v.channel n.state ⊎ ((q : Part) × In q m.parts × (is_among v.channel (ledgers_of q) ≡ true)) → Settled a.end.terms (last-of v.joint L)
              by (inl w) = signing-channel s h journal fair past front at v i g a (pending front) was stays n.state high w
              by (inr (q, j, on)) = was.opened stays (borne-late s h journal fair past front at v i g a q j on)

      end-next : EndCore v b.end M (pending (x ∷ front))
      end-next = go (made_in v.joint x.deed) (made_in v.channel x.deed) refl refl
        where
          go : (j c : Option Signed) → made_in v.joint x.deed ≡ j → made_in v.channel x.deed ≡ c → EndCore v b.end M (pending (x ∷ front))
          go (Some n) c e f = joint-signed n e
          go None (Some n) e f = channel-signed n f e
          go None None e f = quiet e f

    -- ---- a new part

    module _ (k : Goal) (b : EndIs s.key past M (facts_of new) v k) (fresh : NewPart s h journal fair past x front at then len (kinds.End v)) where
      unsigned : (f : FixedParts) (c : List ℕ) → In f (channels M) → real.named f ≡ c → is_among c (channels_of_virtual v) ≡ true → last-of c M ≡ None
      unsigned f c there named has =
          ap (option_map (λ (z : Signed). z.state)) (subst (λ (n : List ℕ). last_made n M ≡ None) named (fresh.unsigned f there (subst (λ (n : List ℕ). is_among n (channels_of_virtual v) ≡ true) (sym named) has)))

      end-new : EndCore v b.end M (pending (x ∷ front))
      end-new = record {
        core = core-new b.end.terms b.end.joint.opening b.end.closing (ends.are_set_up b.end) (holds 5 b.end.joint) (IsOver b.end) (last-of v.joint M)
            ((end-at new v b.end b.is).closes ∙ fresh.going (end-at new v b.end b.is).g (end-at new v b.end b.is).goal) (unsigned b.joint.fixed v.joint b.joint.seat.own.there b.joint.named (joint-among v));
        opened = λ stays late. absurd (none-eq late.state (sym (unsigned b.fixed v.channel b.seat.own.there b.named (channel-among v)) ∙ late.is));
        waits = λ asset amount e. absurd (fresh.unpaid v.channel asset amount e);
        unpaid = λ asset amount e. fresh.unpaid v.joint asset amount e;
      }

  -- ---- at each place

  ends-first : (past : List Entry) → EndsAt past []
  ends-first past at v g i e =
      absurd (subst (In (kinds.End v)) (places_tell_shares stages real s h journal past [] fair.nodes.legal fair.nodes.plays at.front_is).parts i)

  ends-event : (past : List Entry) (x : Told) (front : List Told) → AtEvent stages real s h journal past x front → EndsAt past front → EndsAt past (x ∷ front)
  ends-event past x front ev was then v g i e = by (part-next s h journal fair past x front at then ev.len (kinds.End v) i)
    where
      at : At s h journal past front
      at = before-event s h journal past x front (inr ev.len) then

      by : In (kinds.End v) (mind_at real s.key past front).parts ⊎ NewPart s h journal fair past x front at then ev.len (kinds.End v) → EndCore v e.end (lines_of s.key (x ∷ front)) (pending (x ∷ front))
      by (inr fresh) = end-new past x front at then ev.len v g e fresh
      by (inl j) =
          let a = part-at s h journal fair past front at (kinds.End v) j in
          end-next past x front at then ev.len v j a.goal g a.is e (was at v a.goal j a.is)

  ends-kept : IsKept stages real s h journal EndsAt
  ends-kept = record {
    first = ends-first;
    event = ends-event;
    look = λ past x front w was then.
        let same = mind-watched real s.key past x front (looked real x.deed x.command w) in
        still [] past (x ∷ []) front (before-event s h journal past x front (inl w) then) was (ap (λ (z : Mind). z.parts) same) (ap (λ (z : Mind). z.goals) same)
        (λ c. last-next s.key x front c (watched-made x.deed w c)) (λ c e. absurd (none-eq c (sym (watched-pays x.deed x.command w) ∙ e))) then;
    entry = λ past e front seen was then.
        let same = mind-entry real s.key past e front seen in
        still (e ∷ []) past [] front (before-entry s h journal past e front seen then) was (ap (λ (z : Mind). z.parts) same) (ap (λ (z : Mind). z.goals) same) (λ c. refl) (λ c w. w) then;
  }

  pub ends-core : (past : List Entry) (front : List Told) → EndsAt past front
  ends-core past front at = kept-there s h journal fair.nodes past front at.front_is EndsAt ends-kept at
