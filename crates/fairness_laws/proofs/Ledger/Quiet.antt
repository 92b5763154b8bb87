-- Entries and events by which nothing is signed, opened or closed.
use Rattle.std.proofs.Common.{◌≡◌, ℕ, cond, List, ◌∷◌, refl, sym, ◌∙◌, ap, subst}
use Rattle.std.specs.Prelude.{Option, Some, None}
use Rattle.std.specs.Option.{option_map, option_or}
use Rattle.channel_values.specs.Parts.{FixedParts, StateParts}
use Rattle.channel_values.specs.declared.chain.Signed.{Signed}
use Rattle.channel_safety.proofs.Lists.{In-append_left}
use Rattle.channel_safety.proofs.Tests.{clash}
use Rattle.call_history.specs.declared.entry.Entry.{Entry}
use Rattle.funding_plans.specs.declared.plan.Goal.{Goal}
use Rattle.funding_plans.specs.declared.plan.Part.{Part}
use Rattle.channel_safety.specs.Journals.{In, made_in, opened}
use Rattle.channel_node.proofs.Places.{mind-entry, mind-event}
use Rattle.channel_node.specs.Minds.{Mind, facts_of, saw, did}
use Rattle.channel_node.specs.Places.{Told, line_of, lines_of, mind_at}
use Rattle.channel_node.specs.Playing.{Signing}
use Rattle.share_laws.specs.Places.{channels, last_made}
use Rattle.funding_plans.specs.Gathered.{goal_in}
use Rattle.support_rules.specs.Real.{real}
use Rattle.fairness_laws.specs.JointKeeping.{EndsKeep, MiddlesKeep}
use Rattle.fairness_laws.specs.LedgerKeeping.{Drifts}
use Rattle.fairness_laws.specs.LedgerPlaces.{is_ledger, own_at, parts_at, lends_at, drifts, StepAt}
use Rattle.fairness_laws.specs.PaymentLaws.{At, ActsNext}
use Rattle.fairness_laws.specs.PlanLaws.{PartsAreKnown}
use Rattle.fairness_laws.specs.PlanSettings.{IsFair}
use Rattle.fairness_laws.proofs.Ledger.Drifting.{is-up, drifts-so}
use Rattle.fairness_laws.proofs.Plan.Goals.{goal-stays}
use Rattle.fairness_laws.proofs.EventPlaces.{at-before, at-after}
use Rattle.fairness_laws.proofs.Ledger.Lent.{gate-of}
use Rattle.fairness_laws.proofs.Seat.Past.{Past, honest, past-grows, past-before}
use Rattle.funding_plans.specs.Parts.{own_channel}
use Rattle.fairness_laws.specs.LedgerLending.{Lent}

module _ (s : Signing) (h : List Entry) (journal : List Told) (fair : IsFair s h journal) (known : PartsAreKnown) (ends : EndsKeep) (middles : MiddlesKeep) where
  -- ---- entries

  module _ (past : List Entry) (e : Entry) (front : List Told) (at : At s h journal past front) (then : At s h journal (e ∷ past) front) where
    sees : mind_at real s.key (e ∷ past) front ≡ saw real e (mind_at real s.key past front)
    sees = mind-entry real s.key past e front at.front_is.before

    parts-seen : parts_at s (e ∷ past) front ≡ parts_at s past front
    parts-seen = ap (λ (m : Mind). m.parts) sees

    pub entry-step : StepAt s journal past (e ∷ past) front front
    entry-step = drifts parts-seen
        (drifts-so s h journal fair known ends middles past front at (e ∷ past) front then (own_at s.key journal front)
        (λ p i. subst (In p) (sym parts-seen) i)
        (λ l p k i is g found. goal-stays (mind_at real s.key past front) (mind_at real s.key (e ∷ past) front) (own_channel p) parts-seen (ap (λ (m : Mind). m.goals) sees) ∙ found)
        (λ f i p. p)
        (λ l p k a i is early q last signed. absurd (clash k.is_up (is-up s h journal fair past front at.front_is l p k a q) early))
        (λ l p k i is r. refl))
        (λ l. refl)

  -- ---- events

  module _ (past : List Entry) (x : Told) (front : List Told) (next : ActsNext s h journal past x front) where
    abbrev m : Mind
    m = mind_at real s.key past front

    abbrev new : Mind
    new = mind_at real s.key past (x ∷ front)

    pub happens : new ≡ did real x.deed x.command m
    happens = mind-event real s.key past x front next.len

    pub later-channels : (f : FixedParts) → In f (channels (lines_of s.key front)) → In f (channels (lines_of s.key (x ∷ front)))
    later-channels f i = In-append_left f (channels (lines_of s.key front)) (opened (line_of s.key x)) i

    pub grows-by : (f : FixedParts) → In f (channels (lines_of s.key front)) → Past f (lines_of s.key front) → Past f (lines_of s.key (x ∷ front))
    grows-by f i p =
        past-grows s.key h (line_of s.key x) (lines_of s.key front) f (honest s h journal fair.nodes past (x ∷ front) next.then f (later-channels f i))
        (honest s h journal fair.nodes past front next.place f i) p

    -- where nothing is signed the state that was signed last stays
    pub made-same : ((c : List ℕ) → made_in c x.deed ≡ None) → (c : List ℕ) → last_made c (lines_of s.key (x ∷ front)) ≡ last_made c (lines_of s.key front)
    made-same unsigned c = ap (λ (o : Option Signed). option_or o (last_made c (lines_of s.key front))) (unsigned c)

    -- what is set aside drifts, where nothing is signed
    module _ (unsigned : (c : List ℕ) → made_in c x.deed ≡ None) (same : (p : Part) → In p m.parts → In p new.parts)
        (goals : (l : List ℕ) (p : Part) (k : Lent) → In p m.parts → lends_at s past front l p ≡ Some k
        → (g : Goal) → goal_in (facts_of m) (own_channel p) ≡ Some g → goal_in (facts_of new) (own_channel p) ≡ Some g) where
      pub quiet-drift : (own : List ℕ → Option StateParts) → Drifts m.parts (lends_at s past front) (lends_at s past (x ∷ front)) own
      quiet-drift own =
          drifts-so s h journal fair known ends middles past front (at-before s h journal fair past x front next) past (x ∷ front) (at-after s h journal fair past x front next) own same goals
          grows-by
          (λ l p k a i is early q last signed.
          absurd (clash k.is_up (is-up s h journal fair past front next.place l p k a (past-before (line_of s.key x) (lines_of s.key front) a.fixed (unsigned (real.named a.fixed)) q)) early))
          (λ l p k i is r. made-same unsigned (gate-of p))

    -- and nothing that was signed last changes
    pub own-quiet : ((c : List ℕ) → made_in c x.deed ≡ None) → (l : List ℕ) → own_at s.key journal (x ∷ front) l ≡ own_at s.key journal front l
    own-quiet unsigned l = ap (λ (o : Option Signed). cond (is_ledger s.key journal l) (option_map (λ s. s.state) o) None) (made-same unsigned l)

    pub quiet-step : ((c : List ℕ) → made_in c x.deed ≡ None) → new.parts ≡ m.parts → new.goals ≡ m.goals → StepAt s journal past past front (x ∷ front)
    quiet-step unsigned parts goals =
        drifts parts
        (quiet-drift unsigned (λ p i. subst (In p) (sym parts) i) (λ l p k i is g found. goal-stays m new (own_channel p) parts goals ∙ found) (own_at s.key journal front))
        (own-quiet unsigned)
