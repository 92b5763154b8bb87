-- Where one state of a chain repeats the opening outcome, each later one of the set-up does.
use Rattle.std.proofs.Common.{◌≡◌, ℕ, ◌+◌, ◌*◌, ◌<◌, Bool, true, false, cond, ◌&&◌, ◌||◌, not, List, [], ◌∷◌, inl, inr, length, refl, sym, ap, subst, arith}
use Rattle.std.specs.Prelude.{◌==◌, nat_lt, Option, Some, None}
use Rattle.std.specs.Str.{bytes_eq}
use Rattle.std.proofs.lemmas.Bool.Decides.{nat_tests}
use Rattle.channel_values.specs.Parts.{FixedParts, StateParts}
use Rattle.channel_values.specs.Spelling.{outcome}
use Rattle.channel_values.specs.declared.fault.StepFault.{StepFault}
use Rattle.channel_values.specs.declared.fault.StepFault.TheVariants as faults
use Rattle.channel_values.specs.declared.value.AssetOutcome.{AssetOutcome}
use Rattle.support_rules.specs.Rules.{is_same_outcome, app_fault}
use Rattle.channel_values.specs.Rows.{mover, last_of}
use Rattle.channel_values.specs.Rules.{people, newest}
use Rattle.channel_values.specs.Supported.{Rises, AreSteps}
use Rattle.channel_values.specs.Words.{fault_if, ◌⊳◌}
use Rattle.call_history.specs.Marked.{marked_of}
use Rattle.call_history.proofs.Names.{same_bytes}
use Rattle.channel_safety.specs.Good.{InTurn, InSteps}
use Rattle.channel_safety.specs.Journals.{In}
use Rattle.support_rules.specs.Real.{real}
use Rattle.support_rules.specs.Steps.{persons, step_fault}
use Rattle.channel_store.specs.Good.{IsGoodKept}
use Rattle.channel_store.specs.declared.kept.Kept.{Kept}
use Rattle.funding_plans.specs.declared.plan.Goal.{Goal}
use Rattle.funding_plans.specs.Seats.{has_no_data}
use Rattle.channel_safety.proofs.Tests.{some-eq, none-eq, and-left, and-right, and-both, clash}
use Rattle.channel_safety.proofs.Chains.{top_at, parts}
use Rattle.fairness_laws.specs.Roots.{is_repeated, SetsUp}

-- the lines of a step within the set-up that isn't refused
record Repeats (final bytes same : Bool) : Type 0 where
  running : final ≡ false
  data_is : bytes ≡ true
  outcome_is : same ≡ true

lines-hold : (before final bytes same up : Bool) (rest : Option StepFault)
    → (fault_if (before && not final) faults.AfterFinal ⊳ fault_if (final && up) faults.EarlyFinal ⊳ cond (up || final) (fault_if (not bytes) faults.Data ⊳ fault_if (not same) faults.Outcome) rest) ≡ None
    → up ≡ true → Repeats final bytes same
lines-hold before final bytes same false rest e u = absurd (clash false u refl)
lines-hold true true bytes same true rest e u = absurd (none-eq faults.EarlyFinal (sym e))
lines-hold false true bytes same true rest e u = absurd (none-eq faults.EarlyFinal (sym e))
lines-hold true false bytes same true rest e u = absurd (none-eq faults.AfterFinal (sym e))
lines-hold false false false same true rest e u = absurd (none-eq faults.Data (sym e))
lines-hold false false true false true rest e u = absurd (none-eq faults.Outcome (sym e))
lines-hold false false true true true rest e u = record { running = refl; data_is = refl; outcome_is = refl }

pub low : (a b : ℕ) → a < b → nat_lt a b ≡ true
low a b h = grind (arith, nat_tests)

pub once : (f : FixedParts) (opening : List AssetOutcome) (s t : StateParts) → step_fault f s t ≡ None → t.turn < 2 * people f → is_repeated opening s ≡ true → is_repeated opening t ≡ true
unfolding step_fault
once f opening s t step up rep =
    let l = lines-hold s.is_final t.is_final (bytes_eq s.app_bytes t.app_bytes) (is_same_outcome s.outcome t.outcome) (nat_lt t.turn (2 * length f.keys))
    (app_fault f.app (persons f) (mover (length f.keys) t.turn) s t) step (low t.turn (2 * length f.keys) up) in
    let same = and-right (not s.is_final) (is_same_outcome s.outcome opening) (and-left (not s.is_final && is_same_outcome s.outcome opening) (has_no_data s) rep) in
    let bare = and-right (not s.is_final && is_same_outcome s.outcome opening) (has_no_data s) rep in
    and-both (not t.is_final && is_same_outcome t.outcome opening) (has_no_data t)
    (and-both (not t.is_final) (is_same_outcome t.outcome opening) (ap not l.running)
    (subst (λ (x : List ℕ). bytes_eq x (outcome opening) ≡ true) (same_bytes (outcome s.outcome) (outcome t.outcome) l.outcome_is) same))
    (subst (λ (x : List ℕ). (length x == 0) ≡ true) (same_bytes s.app_bytes t.app_bytes l.data_is) bare)

pub from-first : (f : FixedParts) (opening : List AssetOutcome) (s : StateParts) (rest : List StateParts) → Rises s rest → AreSteps real f s rest → (last_of s rest).turn < 2 * people f
    → is_repeated opening s ≡ true → is_repeated opening (last_of s rest) ≡ true
from-first f opening s [] turns steps up rep = rep
from-first f opening s (t ∷ rest) turns steps up rep =
    let top : (last_of t rest).turn ≡ t.turn + length rest = top_at t rest turns.1 in
    from-first f opening t rest turns.1 steps.1 up (once f opening s t steps.0 (omega arith) rep)

from-any : (f : FixedParts) (opening : List AssetOutcome) (s : StateParts) (rest : List StateParts) (u : StateParts) → Rises s rest → AreSteps real f s rest → (last_of s rest).turn < 2 * people f
    → In u (s ∷ rest) → is_repeated opening u ≡ true → is_repeated opening (last_of s rest) ≡ true
from-any f opening s rest u turns steps up (inl e) rep = from-first f opening s rest turns steps up (subst (λ (x : StateParts). is_repeated opening x ≡ true) e rep)
from-any f opening s [] u turns steps up (inr i) rep = absurd i
from-any f opening s (t ∷ rest) u turns steps up (inr i) rep = from-any f opening t rest u turns.1 steps.1 up i rep

newest-one : (f : FixedParts) (opening : List AssetOutcome) (states : List StateParts) (t u : StateParts) → newest states ≡ Some t → InTurn states → InSteps real f states → t.turn < 2 * people f
    → In u states → is_repeated opening u ≡ true → is_repeated opening t ≡ true
newest-one f opening [] t u e turns steps up i rep = absurd i
newest-one f opening (s ∷ rest) t u e turns steps up i rep =
    let is : last_of s rest ≡ t = some-eq (last_of s rest) t e in
    subst (λ (x : StateParts). is_repeated opening x ≡ true) is
    (from-any f opening s rest u turns steps (subst (λ (x : StateParts). x.turn < 2 * people f) (sym is) up) i rep)

pub newest-repeats : (g : Goal) (k : Kept) → SetsUp g k → (t : StateParts) → newest k.chain.states ≡ Some t → t.turn + 1 < 2 * people k.chain.fixed → is_repeated g.opening t ≡ true
newest-repeats g k su t e up = go su.good
  where
    less : (a b : ℕ) → a + 1 < b → a < b
    less a b h = omega arith

    go : IsGoodKept real k → is_repeated g.opening t ≡ true
    go (inl young) =
        let r = su.repeats t e up in
        newest-one k.chain.fixed g.opening k.chain.states t r.state e young.turns young.steps (less t.turn (2 * people k.chain.fixed) up) r.there r.repeated
    go (inr held) =
        let r = su.repeats t e up in
        let p = parts real k.chain.fixed (marked_of k.chain) held in
        newest-one k.chain.fixed g.opening k.chain.states t r.state e p.turns p.steps (less t.turn (2 * people k.chain.fixed) up) r.there r.repeated
