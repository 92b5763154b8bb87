-- Each event and each entry of a node is a step of its ledgers, so they back what stands on them at each place.
use Rattle.std.proofs.Common.{◌≡◌, ℕ, true, List, ◌∷◌, refl, sym, ◌∙◌, ap, subst}
use Rattle.std.specs.Prelude.{Option, Some, None, Result, Ok, Err}
use Rattle.channel_values.specs.declared.fault.ByteFault.{ByteFault}
use Rattle.channel_safety.proofs.Tests.{clash, none-eq}
use Rattle.call_history.specs.Reading.{message_of}
use Rattle.call_history.specs.Spelling.{Message}
use Rattle.call_history.specs.declared.entry.Entry.{Entry}
use Rattle.call_history.specs.declared.event.Deed.{Deed}
use Rattle.call_history.specs.declared.event.Deed.TheVariants as deeds
use Rattle.call_history.specs.declared.event.NodeRefusal.{NodeRefusal}
use Rattle.channel_safety.specs.Journals.{made_in, is_watched}
use Rattle.network.specs.declared.command.Command.{Command}
use Rattle.network.specs.declared.command.Command.TheVariants as commands
use Rattle.channel_node.proofs.Bridging.{plays-at}
use Rattle.channel_values.specs.Parts.{StateParts}
use Rattle.channel_node.specs.Minds.{Mind, facts_of, did, noted_message}
use Rattle.channel_node.specs.Places.{Told, mind_at}
use Rattle.channel_node.specs.Playing.{Signing, Plays, pending, signings, Allowed}
use Rattle.stage_tables.specs.Stages.{stages}
use Rattle.fairness_laws.specs.JointKeeping.{EndsKeep, MiddlesKeep}
use Rattle.fairness_laws.specs.PaymentLaws.{ActsNext}
use Rattle.fairness_laws.specs.PlanLaws.{PartsAreKnown, PlansAreWhole}
use Rattle.fairness_laws.specs.PlanSettings.{IsFair}
use Rattle.support_rules.specs.Real.{real}
use Rattle.fairness_laws.specs.LedgerEvents.{SetUpsStart}
use Rattle.fairness_laws.specs.LedgerLaws.{GivesBack}
use Rattle.fairness_laws.specs.LedgerPlaces.{is_ledger, own_at, KeepAt, StepAt}
use Rattle.fairness_laws.proofs.Ledger.Opening.{open-step, on-step, virtual-step}
use Rattle.fairness_laws.proofs.Ledger.Closing.{close-step, release-step}
use Rattle.fairness_laws.proofs.Ledger.Payments.{payments_run}
use Rattle.fairness_laws.proofs.Ledger.Quiet.{happens, quiet-step, own-quiet}
use Rattle.fairness_laws.proofs.Ledger.Signing.{FirstBy, signing-step, signing-first}

module _ (s : Signing) (h : List Entry) (journal : List Told) (fair : IsFair s h journal) (known : PartsAreKnown) (whole : PlansAreWhole) (ends : EndsKeep) (middles : MiddlesKeep)
    (starting : SetUpsStart s h journal) where
  module _ (past : List Entry) (x : Told) (front : List Told) (next : ActsNext s h journal past x front) (keeps : KeepAt s journal past front)
      (gives : GivesBack (facts_of (mind_at real s.key past front))) where
    abbrev m : Mind
    m = mind_at real s.key past front

    abbrev new : Mind
    new = mind_at real s.key past (x ∷ front)

    allowed : Allowed stages real s past m (signings front) (pending front) x.deed x.command
    allowed = ((plays-at stages real s h next.then.newer x front (subst (Plays stages real s h) next.then.events fair.nodes.plays)).place next.place.later past next.place.entries next.len).1

    happened : (d : Deed) (o : Option Command) → x.deed ≡ d → x.command ≡ o → new ≡ did real d o m
    happened d o e f =
        happens s h journal fair known ends middles past x front next ∙ (ap (λ (z : Deed). did real z x.command m) e ∙ ap (λ (z : Option Command). did real d z m) f)

    -- an event that changes no plan and signs nothing
    quiet : (d : Deed) (o : Option Command) → x.deed ≡ d → x.command ≡ o → ((c : List ℕ) → made_in c d ≡ None) → (did real d o m).parts ≡ m.parts → (did real d o m).goals ≡ m.goals
        → StepAt s journal past past front (x ∷ front)
    quiet d o e f unsigned parts goals =
        quiet-step s h journal fair known ends middles past x front next (λ c. ap (made_in c) e ∙ unsigned c)
        (ap (λ (z : Mind). z.parts) (happened d o e f) ∙ parts) (ap (λ (z : Mind). z.goals) (happened d o e f) ∙ goals)

    commanded : (step : ℕ) (o : Option Command) → x.deed ≡ deeds.Commanded step None → x.command ≡ o
        → Allowed stages real s past m (signings front) (pending front) (deeds.Commanded step None) o → StepAt s journal past past front (x ∷ front)
    commanded step None e f a = quiet (deeds.Commanded step None) None e f (λ c. refl) refl refl
    commanded step (Some (commands.Pay c asset amount)) e f a = quiet (deeds.Commanded step None) (Some (commands.Pay c asset amount)) e f (λ c. refl) refl refl
    commanded step (Some (commands.Resend c)) e f a = quiet (deeds.Commanded step None) (Some (commands.Resend c)) e f (λ c. refl) refl refl
    commanded step (Some commands.Exit) e f a = quiet (deeds.Commanded step None) (Some commands.Exit) e f (λ c. refl) refl refl
    commanded step (Some (commands.Close c)) e f a =
        close-step s h journal fair known ends middles past x front next c a.1
        (ap (λ (z : Mind). z.parts) (happened (deeds.Commanded step None) (Some (commands.Close c)) e f)) (ap (λ (z : Mind). z.goals) (happened (deeds.Commanded step None) (Some (commands.Close c)) e f))
        (λ c. ap (made_in c) e)
    commanded step (Some (commands.Release how c)) e f a =
        release-step s h journal fair known ends middles past x front next c how a.1
        (ap (λ (z : Mind). z.parts) (happened (deeds.Commanded step None) (Some (commands.Release how c)) e f)) (ap (λ (z : Mind). z.goals) (happened (deeds.Commanded step None) (Some (commands.Release how c)) e f))
        (λ c. ap (made_in c) e)
    commanded step (Some (commands.Open fixed outcome)) e f a = open-step s h journal fair known ends middles past x front next keeps step e fixed outcome f a.1
    commanded step (Some (commands.OpenOn o)) e f a = on-step s h journal fair known ends middles past x front next keeps step e o.ledger o.fixed o.asset o.amounts f a.1
    commanded step (Some (commands.OpenVirtual v)) e f a =
        virtual-step s h journal fair known ends middles past x front next keeps step e v.route v.ledgers v.guarantors v.joint v.channel v.asset v.amounts f a.1

    same-parts : (o : Result Message ByteFault) → ((noted_message real o m).parts ≡ m.parts) × ((noted_message real o m).goals ≡ m.goals)
    same-parts (Ok message) = (refl, refl)
    same-parts (Err fault) = (refl, refl)

    pub event-step : StepAt s journal past past front (x ∷ front)
    event-step = go x.deed refl
      where
        refused : (step : ℕ) (refusal : NodeRefusal) → x.deed ≡ deeds.Commanded step (Some refusal) → (o : Option Command) → x.command ≡ o → StepAt s journal past past front (x ∷ front)
        refused step refusal e None f = quiet (deeds.Commanded step (Some refusal)) None e f (λ c. refl) refl refl
        refused step refusal e (Some command) f = quiet (deeds.Commanded step (Some refusal)) (Some command) e f (λ c. refl) refl refl

        go : (d : Deed) → x.deed ≡ d → StepAt s journal past past front (x ∷ front)
        go (deeds.Signed channel state signature) e =
            signing-step s h journal fair known whole ends middles (payments_run s h journal fair known ends middles) starting past x front next gives channel state signature e keeps
        go (deeds.Commanded step None) e = commanded step x.command e refl (subst (λ (d : Deed). Allowed stages real s past m (signings front) (pending front) d x.command) e allowed)
        go (deeds.Commanded step (Some refusal)) e = refused step refusal e x.command refl
        go (deeds.Handled bytes None) e = let z = same-parts (message_of bytes) in quiet (deeds.Handled bytes None) x.command e refl (λ c. refl) z.0 z.1
        go (deeds.Handled bytes (Some refusal)) e = quiet (deeds.Handled bytes (Some refusal)) x.command e refl (λ c. refl) refl refl
        go (deeds.SignedChallenge channel state who signature) e = quiet (deeds.SignedChallenge channel state who signature) x.command e refl (λ c. refl) refl refl
        go (deeds.Called call) e = quiet (deeds.Called call) x.command e refl (λ c. refl) refl refl
        go (deeds.Watched watcher calls) e = absurd (clash (is_watched x.deed) (ap is_watched e) next.acts)

    -- the first state of a ledger repeats the opening outcome of the part whose channel it is
    pub event-first : (l : List ℕ) → is_ledger s.key journal l ≡ true → own_at s.key journal front l ≡ None → (first : StateParts) → own_at s.key journal (x ∷ front) l ≡ Some first → FirstBy s past front l first
    event-first l on none first signed = go x.deed refl
      where
        never : (d : Deed) → x.deed ≡ d → ((c : List ℕ) → made_in c d ≡ None) → FirstBy s past front l first
        never d e unsigned =
            absurd (none-eq first (sym none ∙ (sym (own-quiet s h journal fair known ends middles past x front next (λ c. ap (made_in c) e ∙ unsigned c) l) ∙ signed)))

        go : (d : Deed) → x.deed ≡ d → FirstBy s past front l first
        go (deeds.Signed channel state signature) e =
            signing-first s h journal fair known whole ends middles (payments_run s h journal fair known ends middles) starting past x front next gives channel state signature e keeps l on none first signed
        go (deeds.Commanded step refusal) e = never (deeds.Commanded step refusal) e (λ c. refl)
        go (deeds.Handled bytes refusal) e = never (deeds.Handled bytes refusal) e (λ c. refl)
        go (deeds.SignedChallenge channel state who signature) e = never (deeds.SignedChallenge channel state who signature) e (λ c. refl)
        go (deeds.Called call) e = never (deeds.Called call) e (λ c. refl)
        go (deeds.Watched watcher calls) e = never (deeds.Watched watcher calls) e (λ c. refl)
