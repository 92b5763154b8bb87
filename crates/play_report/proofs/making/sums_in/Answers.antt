use Rattle.std.proofs.Common.{◌≡◌, List, subst}
use Rattle.std.specs.Prelude.{IfOk}
use Rattle.call_history.specs.declared.funds.Flow.{Flow}
use Rattle.run_record.specs.Sums.{sums_of}
use Rattle.play_report.proofs.making.sums_in.Goals as goal

pub returns : goal.returns
returns c = subst (λ (flows : List Flow). IfOk c.sums_of-sums.result (λ sums. sums.items ≡ sums_of flows)) c.in_ok-balances.ensures.flows c.sums_of-sums.ensures
