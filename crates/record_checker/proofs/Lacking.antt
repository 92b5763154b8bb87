-- What shows the first faults of endings is so of the history.
use Rattle.std.proofs.Common.{◌≡◌, ℕ, List, subst, ◌↔◌}
use Rattle.std.specs.Prelude.{Option, Result, Ok, Err, IfOk}
use Rattle.channel_values.specs.declared.fault.NoMemory.{NoMemory}
use Rattle.call_history.specs.History.{newest_first, flows_of}
use Rattle.call_history.specs.declared.entry.Entry.{Entry}
use Rattle.asset_holder.specs.Receipts.{assets_of}
use Rattle.run_record.specs.declared.run_record.Ending.{Ending}
use Rattle.record_checker.specs.Seen.{HasPlanSeen, HasSharesBy}
use Rattle.run_record.specs.declared.run_record.Record.{Record}
use Rattle.run_record.specs.Sound.{HasPlan, HasShares}
use Rattle.record_checker.specs.Faults.{Lacks, Says}
use Rattle.record_checker.specs.declared.checking.Verdict.{Verdict}
use Rattle.record_checker.proofs.Faults.{lacks_so, one_verdict}
use Rattle.record_checker.proofs.Seeing as seeing

plans_so : (h : List Entry) (ends : List Ending) (o : Option ℕ) → Lacks (HasPlanSeen (newest_first h)) ends o → Lacks (HasPlan h) ends o
plans_so h ends o lacks = lacks_so (HasPlanSeen (newest_first h)) (HasPlan h) ends o (seeing.plan_told h) (seeing.plan_tells h) lacks

pub plans_told : (r : Result (Option ℕ) NoMemory) (h past : List Entry) (ends : List Ending) → past ≡ newest_first h → IfOk r (Lacks (HasPlanSeen past) ends) → IfOk r (Lacks (HasPlan h) ends)
plans_told (Ok o) h past ends is lacks = plans_so h ends o (subst (λ (g : List Entry). Lacks (HasPlanSeen g) ends o) is lacks)
plans_told (Err e) h past ends is lacks = tt

pub shares_by : (r : Result (Option ℕ) NoMemory) (h past : List Entry) (assets : List ℕ) (ends : List Ending) → past ≡ newest_first h → assets ≡ assets_of (flows_of h)
    → IfOk r (Lacks (HasSharesBy past assets) ends) → IfOk r (Lacks (HasShares h) ends)
shares_by (Ok o) h past assets ends is are lacks =
    subst (λ (those : List ℕ). Lacks (HasSharesBy (newest_first h) those) ends o) are (subst (λ (g : List Entry). Lacks (HasSharesBy g assets) ends o) is lacks)
shares_by (Err e) h past assets ends is are lacks = tt

-- a verdict that holds is the one
pub one_told : (r : Result Verdict NoMemory) (value : Record) → IfOk r (λ a. Says a value) → IfOk r (λ a. (v : Verdict) → (a ≡ v) ↔ Says v value)
one_told (Ok a) value holds = one_verdict value a holds
one_told (Err e) value holds = tt
