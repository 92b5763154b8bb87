-- What a node's ledgers can end with, at each place of its journal.
use Rattle.std.proofs.Common.{◌≡◌, ℕ, Bool, true, false, cond, ◌⊎◌, inl, inr, List, [], ◌∷◌, ◌++◌, refl, sym, ◌∙◌, ap, subst}
use Rattle.std.specs.Prelude.{Option, Some, None}
use Rattle.std.specs.Option.{option_map, option_or}
use Rattle.std.specs.Str.{bytes_eq}
use Rattle.channel_values.specs.Parts.{StateParts}
use Rattle.channel_values.specs.declared.chain.Signed.{Signed}
use Rattle.channel_values.specs.declared.value.AssetOutcome.{AssetOutcome}
use Rattle.channel_values.specs.declared.value.Dest.TheVariants.{Channel}
use Rattle.channel_safety.proofs.Tests.{some-eq, none-eq, clash}
use Rattle.call_history.proofs.Names.{same_bytes}
use Rattle.call_history.specs.declared.entry.Entry.{Entry}
use Rattle.channel_values.specs.Amounts.{has}
use Rattle.funding_plans.specs.Shapes.{items_in}
use Rattle.funding_plans.specs.declared.plan.Part.{Part}
use Rattle.channel_safety.specs.Journals.{In, is_watched}
use Rattle.channel_node.proofs.Places.{mind-watched}
use Rattle.channel_node.specs.Minds.{Mind, facts_of}
use Rattle.channel_node.specs.Places.{Told, lines_of, mind_at}
use Rattle.channel_node.specs.Playing.{Signing}
use Rattle.node_guarantees.proofs.Telling.{places_tell_shares}
use Rattle.stage_tables.specs.Stages.{stages}
use Rattle.fairness_laws.proofs.Truths.{either}
use Rattle.fairness_laws.proofs.Outcomes.{only}
use Rattle.fairness_laws.proofs.Plan.Places.{kept-there}
use Rattle.fairness_laws.proofs.EventPlaces.{before-event, before-entry, watched-made}
use Rattle.fairness_laws.specs.PaymentLaws.{At}
use Rattle.fairness_laws.specs.PlanSettings.{IsFair}
use Rattle.share_laws.specs.Places.{outcomes_of, last_made}
use Rattle.support_rules.specs.Real.{real}
use Rattle.fairness_laws.proofs.Over.{AtEvent, IsKept, looked}
use Rattle.fairness_laws.specs.LedgerKeeping.{Lends, LedgerKeeps, PendingOn, AllKeep}
use Rattle.fairness_laws.specs.LedgerLending.{Lent, lent}
use Rattle.fairness_laws.specs.LedgerPlaces.{is_ledger, own_at, parts_at, lends_at, KeepAt, drifts, opens, closes, moves, starts, StepsKeep, StepsAtPlaces, LedgersKeepAtPlaces}
use Rattle.fairness_laws.proofs.Ledger.Whole.{drifts_keep, openings_keep, closings_keep, moves_keep}

-- ---- steps

-- the same states were signed last
own-as : (parts : List Part) (lends : Lends) (own next : List ℕ → Option StateParts) → ((l : List ℕ) → next l ≡ own l) → AllKeep parts lends own → AllKeep parts lends next
own-as parts lends own next same keeps = record {
  ledgers = λ l last e. keeps.ledgers l last (sym (same l) ∙ e);
  one = λ p q i m v w. keeps.one p q i m (before p v) (before q w);
  late = keeps.late;
  ready = keeps.ready;
}
  where
    before : (p : Part) → PendingOn lends next p → PendingOn lends own p
    before p w = record { ledger = w.ledger; lent = w.lent; is = w.is; last = w.last; signed = sym (same w.ledger) ∙ w.signed; pending = w.pending }

parts-as : (parts new : List Part) (lends : Lends) (own : List ℕ → Option StateParts) → new ≡ parts → AllKeep parts lends own → AllKeep new lends own
parts-as parts new lends own same keeps = subst (λ (x : List Part). AllKeep x lends own) (sym same) keeps

module _ (parts : List Part) (lends : Lends) (own next : List ℕ → Option StateParts) (l : List ℕ) (state : StateParts) (keeps : AllKeep parts lends own)
    (none : (p : Part) (k : Lent) → In p parts → lends l p ≡ Some k → ⊥) (alone : outcomes_of state ≡ state.outcome ∷ [])
    (after : next l ≡ Some state) (rest : (m : List ℕ) → bytes_eq m l ≡ false → next m ≡ own m) where
  first-at : ((o : List AssetOutcome) → In o (outcomes_of state) → o ≡ state.outcome) → LedgerKeeps parts lends l state → (m : List ℕ) (s : StateParts) → next m ≡ Some s → LedgerKeeps parts lends m s
  first-at only new m s e = by (either (bytes_eq m l))
    where
      by : (bytes_eq m l ≡ true) ⊎ (bytes_eq m l ≡ false) → LedgerKeeps parts lends m s
      by (inl same) =
          let it : m ≡ l = same_bytes m l same in
          let is : state ≡ s = some-eq state s (sym after ∙ subst (λ (z : List ℕ). next z ≡ Some s) it e) in
          subst (λ (z : List ℕ). LedgerKeeps parts lends z s) (sym it) (subst (LedgerKeeps parts lends l) is new)
      by (inr differ) = keeps.ledgers m s (sym (rest m differ) ∙ e)

  first-pending : (p : Part) → In p parts → PendingOn lends next p → PendingOn lends own p
  first-pending p i w = by (either (bytes_eq w.ledger l))
    where
      by : (bytes_eq w.ledger l ≡ true) ⊎ (bytes_eq w.ledger l ≡ false) → PendingOn lends own p
      by (inl same) = absurd (none p w.lent i (subst (λ (z : List ℕ). lends z p ≡ Some w.lent) (same_bytes w.ledger l same) w.is))
      by (inr differ) = record { ledger = w.ledger; lent = w.lent; is = w.is; last = w.last; signed = sym (rest w.ledger differ) ∙ w.signed; pending = w.pending }

pub steps_keep : StepsKeep
steps_keep parts lends own new now next keeps (drifts same d own-same) =
    parts-as parts new now next same (own-as parts now own next own-same (drifts_keep parts lends now own keeps d))
steps_keep parts lends own new now next keeps (opens p more d o own-same) =
    parts-as (parts ++ p ∷ []) new now next more (own-as (parts ++ p ∷ []) now own next own-same (openings_keep parts p now own (drifts_keep parts lends now own keeps d) o))
steps_keep parts lends own new now next keeps (closes p same c own-same) =
    parts-as parts new now next same (own-as parts now own next own-same (closings_keep parts p lends now own keeps c))
steps_keep parts lends own new now next keeps (moves l last state o same d signed could valid apart m after rest) =
    parts-as parts new now next same (drifts_keep parts lends now next (moves_keep parts lends l last state o own next keeps signed could valid apart m after rest) d)
steps_keep parts lends own new now next keeps (starts l state same d none alone bare unsigned after rest) =
    parts-as parts new now next same (drifts_keep parts lends now next (record {
      ledgers = first-at parts lends own next l state keeps none alone after rest (only state state.outcome alone) (record {
        backs = λ p k o i is m. absurd (none p k i is);
        known = λ asset x o m named. absurd (clash _ named (subst (λ (o : List AssetOutcome). has (items_in asset o) (Channel x) ≡ false) (sym (only state state.outcome alone o m)) (bare asset x)));
        quiet = inl alone;
      });
      one = λ p q i m v w. keeps.one p q i m (first-pending parts lends own next l state keeps none alone after rest p i v) (first-pending parts lends own next l state keeps none alone after rest q m w);
      late = keeps.late;
      ready = keeps.ready;
    }) d)

-- ---- places

-- a look signs nothing
pub own-looked : (s : Signing) (journal : List Told) (x : Told) (front : List Told) → is_watched x.deed ≡ true → (l : List ℕ) → own_at s.key journal (x ∷ front) l ≡ own_at s.key journal front l
own-looked s journal x front w l =
    ap (λ (o : Option Signed). cond (is_ledger s.key journal l) (option_map (λ s. s.state) (option_or o (last_made l (lines_of s.key front)))) None) (watched-made x.deed w l)

-- by the steps of its events and entries
module _ (s : Signing) (h : List Entry) (journal : List Told) (fair : IsFair s h journal) where
  pub none-signed : (front : List Told) (l : List ℕ) → front ≡ [] → own_at s.key journal front l ≡ None
  none-signed front l e = go (is_ledger s.key journal l)
    where
      go : (b : Bool) → cond b (option_map (λ s. s.state) (last_made l (lines_of s.key front))) None ≡ None
      go true = subst (λ (z : List Told). option_map (λ s. s.state) (last_made l (lines_of s.key z)) ≡ None) (sym e) refl
      go false = refl

  pub begins : (past : List Entry) → At s h journal past [] → KeepAt s journal past []
  begins past at = record {
    ledgers = λ l last e. absurd (none-eq last (sym (none-signed [] l refl) ∙ e));
    one = λ p q i m v w. absurd (nothing p i);
    late = λ l p k i e c. absurd (nothing p i);
    ready = λ l p k i e c d. absurd (nothing p i);
  }
    where
      nothing : (p : Part) → In p (parts_at s past []) → ⊥
      nothing p i = subst (In p) (places_tell_shares stages real s h journal past [] fair.nodes.legal fair.nodes.plays at.front_is).parts i

  pub looks : (past : List Entry) (x : Told) (front : List Told) → is_watched x.deed ≡ true → KeepAt s journal past front → KeepAt s journal past (x ∷ front)
  looks past x front w was =
      subst (λ (m : Mind). AllKeep m.parts (lent (facts_of m)) (own_at s.key journal (x ∷ front))) (sym same)
      (own-as (parts_at s past front) (lends_at s past front) (own_at s.key journal front) (own_at s.key journal (x ∷ front)) (own-looked s journal x front w) was)
    where
      same : mind_at real s.key past (x ∷ front) ≡ mind_at real s.key past front
      same = mind-watched real s.key past x front (looked real x.deed x.command w)

module _ (s : Signing) (h : List Entry) (journal : List Told) (fair : IsFair s h journal) (steps : StepsAtPlaces s h journal) where
  -- where it is a place
  abbrev AtPlace : List Entry → List Told → Type 0
  AtPlace past front = At s h journal past front → KeepAt s journal past front

  acts : (past : List Entry) (x : Told) (front : List Told) → AtEvent stages real s h journal past x front → AtPlace past front → At s h journal past (x ∷ front)
      → (is_watched x.deed ≡ true) ⊎ (is_watched x.deed ≡ false) → KeepAt s journal past (x ∷ front)
  acts past x front event was at (inl w) = looks s h journal fair past x front w (was (before-event s h journal past x front (inl w) at))
  acts past x front event was at (inr w) =
      let before = before-event s h journal past x front (inr event.len) at in
      steps_keep (parts_at s past front) (lends_at s past front) (own_at s.key journal front) (parts_at s past (x ∷ front)) (lends_at s past (x ∷ front)) (own_at s.key journal (x ∷ front))
      (was before) (steps.events past x front (record { place = before.front_is; then = at.front_is; acts = w; len = event.len }) (was before))

  at-places : IsKept stages real s h journal AtPlace
  at-places = record {
    first = begins s h journal fair;
    event = λ past x front event was at. acts past x front event was at (either (is_watched x.deed));
    look = λ past x front w was at. looks s h journal fair past x front w (was (before-event s h journal past x front (inl w) at));
    entry = λ past e front seen was at.
        let before = before-entry s h journal past e front seen at in
        steps_keep (parts_at s past front) (lends_at s past front) (own_at s.key journal front) (parts_at s (e ∷ past) front) (lends_at s (e ∷ past) front) (own_at s.key journal front)
        (was before) (steps.entries past e front before at (was before));
  }

pub ledgers_keep_at_places : LedgersKeepAtPlaces
ledgers_keep_at_places s h journal fair steps past front at =
    kept-there s h journal fair.nodes past front at.front_is (AtPlace s h journal fair steps) (at-places s h journal fair steps) at
