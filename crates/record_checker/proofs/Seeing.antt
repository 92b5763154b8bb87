-- What shows the conditions of plans.
use Rattle.std.proofs.Common.{◌≡◌, Bool, true, false, not, ◌&&◌, leb, List, [], ◌∷◌, refl, sym, ◌∙◌, ap}
use Rattle.std.specs.Prelude.{Option, Some, None, count_by}
use Rattle.std.proofs.lemmas.Bool.{leb-true, le-leb}
use Rattle.channel_values.specs.Parts.{StateParts}
use Rattle.channel_values.specs.declared.value.AssetOutcome.{AssetOutcome}
use Rattle.call_history.specs.Mode.{is_final}
use Rattle.call_history.specs.History.{mode, rest_of_channel, newest_first}
use Rattle.call_history.specs.declared.entry.Entry.{Entry}
use Rattle.call_history.specs.declared.held_chain.Known.{Known}
use Rattle.funding_plans.specs.Parts.{channels}
use Rattle.funding_plans.specs.declared.plan.Plan.{Plan}
use Rattle.share_laws.specs.Places.{possible_if, proposed, listed}
use Rattle.support_rules.specs.Real.{real}
use Rattle.run_record.specs.declared.run_record.Ending.{Ending}
use Rattle.run_record.specs.Plans.{joined, firsts, other_than, are_two, has_two, are_distinct, stand_on}
use Rattle.record_checker.specs.Seen.{two_seen, few_seen, HasPlanSeen}
use Rattle.run_record.specs.Sound.{HasPlan}
use mathlib.Core.Path.{fun_ext}

-- ---- channels that can end with two outcomes

two_listed : (o : List AssetOutcome) (p : Option (List AssetOutcome)) → other_than o p ≡ are_two (o ∷ listed p)
two_listed o None = refl
two_listed o (Some p) = refl

two_if : (final : Bool) (rest : Option (List AssetOutcome)) (last : StateParts) → (not final && other_than last.outcome (proposed last.app_bytes)) ≡ are_two (possible_if final rest last)
two_if true None last = refl
two_if true (Some o) last = refl
two_if false rest last = two_listed last.outcome (proposed last.app_bytes)

-- ---- conditions of plans

both_true : (a b : Bool) → (a && b) ≡ true → (a ≡ true) × (b ≡ true)
both_true true b e = (refl, e)
both_true false b e = absurd cc

and_true : (a b : Bool) → a ≡ true → b ≡ true → (a && b) ≡ true
and_true true b e f = f
and_true false b e f = absurd cc

module _ (h : List Entry) where
  two_is : (k : Known) → two_seen h k ≡ has_two real h k
  two_is k = two_if (is_final (mode real k.channel h)) (rest_of_channel real k.channel h) k.last

  few_is : (own : Plan) (known : List Known) → few_seen h own known ≡ leb (count_by (has_two real h) (firsts (joined own.parts) known)) 2
  few_is own known = ap (λ (test : Known → Bool). leb (count_by test (firsts (joined own.parts) known)) 2) (fun_ext two_is)

pub plan_told : (h : List Entry) (e : Ending) → HasPlanSeen (newest_first h) e → HasPlan h e
plan_told h e holds =
    let a = both_true (are_distinct (channels e.plan.parts)) _ holds in
    let b = both_true (stand_on [] e.plan.parts) _ a.1 in
    record { once = a.0; grounded = b.0; few = leb-true _ _ (sym (few_is (newest_first h) e.plan e.known) ∙ b.1) }

pub plan_tells : (h : List Entry) (e : Ending) → HasPlan h e → HasPlanSeen (newest_first h) e
plan_tells h e holds =
    and_true (are_distinct (channels e.plan.parts)) _ holds.once
    (and_true (stand_on [] e.plan.parts) _ holds.grounded (few_is (newest_first h) e.plan e.known ∙ le-leb _ _ holds.few))
