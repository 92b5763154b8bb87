-- What a node signs in a payment channel that holds its own funds has no data.
use Rattle.std.proofs.Common.{◌≡◌, ℕ, ◌<◌, Bool, not, ◌&&◌, ◌||◌, List, [], length, ◌⊎◌, inl, inr, sym, ◌∙◌, subst}
use Rattle.std.specs.Prelude.{◌==◌, Some, None}
use Rattle.channel_values.specs.Parts.{FixedParts, StateParts, IsState}
use Rattle.channel_values.specs.declared.chain.Signed.{Signed}
use Rattle.channel_values.specs.declared.fault.StepFault.TheVariants as faults
use Rattle.support_rules.specs.Rules.{is_same_outcome, payment_fault, app_fault}
use Rattle.channel_safety.proofs.Tests.{and-right}
use Rattle.call_history.specs.declared.entry.Entry.{Entry}
use Rattle.channel_values.proofs.Lines.{unbroken, not_not, or_false}
use Rattle.channel_values.specs.Rows.{mover}
use Rattle.channel_values.specs.Rules.{people}
use Rattle.channel_values.specs.Words.{fault_if}
use Rattle.fairness_laws.proofs.OpenedParts.{later-took, root-opened}
use Rattle.fairness_laws.proofs.Payment.Made.{all-made}
use Rattle.fairness_laws.proofs.Payment.Sharing.{no-bytes}
use Rattle.fairness_laws.proofs.Seat.Past.{occurs}
use Rattle.fairness_laws.specs.PaymentLaws.{At}
use Rattle.fairness_laws.specs.PlanSettings.{IsFair}
use Rattle.funding_plans.specs.declared.plan.Goal.{Goal}
use Rattle.funding_plans.specs.declared.plan.Part.TheVariants as parts
use Rattle.channel_safety.proofs.Places.{made-noted}
use Rattle.channel_safety.specs.Journals.{In, Line, made_in}
use Rattle.network.specs.declared.command.Command.TheVariants as commands
use Rattle.channel_node.proofs.Allowing.{first_none}
use Rattle.channel_node.specs.Minds.{facts_of}
use Rattle.channel_node.specs.Places.{Told, lines_of, mind_at}
use Rattle.channel_node.specs.Playing.{Signing}
use Rattle.share_laws.specs.Places.{channels}
use Rattle.funding_plans.specs.Gathered.{goal_in}
use Rattle.funding_plans.specs.Seats.{has_no_data}
use Rattle.support_rules.specs.Real.{real}
use Rattle.support_rules.specs.Steps.{persons, step_fault}
use Rattle.support_rules.proofs.Kept.{Repeats, step_means}
use Rattle.fairness_laws.proofs.RootOpening.{roots_open_with}

-- a payment has none
bare-payment : (names : List (List ℕ)) (n : ℕ) (s t : StateParts) → payment_fault names n s t ≡ None → t.app_bytes ≡ []
bare-payment names n s t e =
    let some : Bool = not (length s.app_bytes == 0) || not (length t.app_bytes == 0) in
    no-bytes t.app_bytes
    (not_not (length t.app_bytes == 0)
    (or_false (not (length s.app_bytes == 0)) (not (length t.app_bytes == 0)) (unbroken some faults.Data (first_none (fault_if some faults.Data) _ e))).1)

-- nor has a step after one without
bare-step : (f : FixedParts) → f.app ≡ 1 → (s t : StateParts) → IsState s → IsState t → step_fault f s t ≡ None → s.app_bytes ≡ [] → t.app_bytes ≡ []
unfolding app_fault
bare-step f app s t vs vt e bare = go (step_means f s t vs vt e)
  where
    go : Repeats s t ⊎ (app_fault f.app (persons f) (mover (length f.keys) t.turn) s t ≡ None) → t.app_bytes ≡ []
    go (inl r) = sym r.app_bytes ∙ bare
    go (inr h) = bare-payment (persons f) (mover (length f.keys) t.turn) s t (subst (λ (a : ℕ). app_fault a (persons f) (mover (length f.keys) t.turn) s t ≡ None) app h)

module _ (s : Signing) (h : List Entry) (journal : List Told) (fair : IsFair s h journal) (past : List Entry) (front : List Told) (at : At s h journal past front)
    (name : List ℕ) (g : Goal) (i : In (parts.Root name) (mind_at real s.key past front).parts) (found : goal_in (facts_of (mind_at real s.key past front)) name ≡ Some g)
    (f : FixedParts) (own : In f (channels (lines_of s.key front))) (is : real.named f ≡ name) (app : f.app ≡ 1) where
  first-bare : (x : Line) (n : Signed) → In x (lines_of s.key journal) → made_in (real.named f) x.deed ≡ Some n → n.state.turn < people f → n.state.app_bytes ≡ []
  first-bare x n j made small =
      let o = root-opened s h journal fair past front at name g i found f own is in
      no-bytes n.state.app_bytes
      (and-right (not n.state.is_final && is_same_outcome n.state.outcome o.outcome) (has_no_data n.state)
      (roots_open_with s h journal fair.nodes.legal fair.nodes.plays f o.outcome (later-took s h journal fair past front at (commands.Open f o.outcome) o.took)
      x n j (made-noted (real.named f) x.deed n made) small))

  pub root-bare : (x : Line) (n : Signed) → In x (lines_of s.key front) → made_in (real.named f) x.deed ≡ Some n → n.state.app_bytes ≡ []
  root-bare x n j made =
      all-made s h journal fair f (occurs s h journal fair.nodes past front at.front_is f own) (λ t. t.app_bytes ≡ []) (λ a b va vb e p. bare-step f app a b va vb e p) first-bare
      at.front_is.newer front at.front_is.events x n j made
