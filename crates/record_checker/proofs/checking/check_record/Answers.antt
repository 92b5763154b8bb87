use Rattle.std.proofs.Common.{List, sym, subst}
use Rattle.call_history.specs.Flows.{AreWithinAmounts}
use Rattle.call_history.specs.declared.entry.Entry.{Entry}
use Rattle.call_history.specs.declared.funds.Flow.{Flow}
use Rattle.call_history.proofs.Conservation.{within_in_time}
use Rattle.support_rules.specs.Real.{real}
use Rattle.record_checker.specs.Faults.{IsFirstWrong}
use Rattle.record_checker.specs.Walking.{Ends}
use Rattle.record_checker.specs.declared.checking.Verdict.TheVariants.{Reply}
use Rattle.record_checker.proofs.Faults.{one_verdict}
use Rattle.record_checker.proofs.Lacking.{one_told}
use Rattle.record_checker.proofs.checking.check_record.Goals as goal

pub check_sums-requires-clause-within : goal.check_sums-requires-clause-within
check_sums-requires-clause-within c =
    let told = subst (Ends c.as_slice.result.now) c.in-Whole.is c.in_ok-number.ensures in
    subst (λ (flows : List Flow). AreWithinAmounts flows) (sym told.2) (within_in_time real c.as_slice.result.now told.0)

pub returns-in-Whole-clause-exact : goal.returns-in-Whole-clause-exact
returns-in-Whole-clause-exact c = one_told c.check_sums.result c.args.value.now c.check_sums.ensures

pub returns-in-Wrong-clause-exact : goal.returns-in-Wrong-clause-exact
returns-in-Wrong-clause-exact c =
    one_verdict c.args.value.now (Reply c.in-Wrong.number)
    (subst (λ (h : List Entry). IsFirstWrong h c.in-Wrong.number) c.as_slice.ensures (subst (Ends c.as_slice.result.now) c.in-Wrong.is c.in_ok-number.ensures))
