-- The printed numbers: the flows in the order of time are conserved.
use Rattle.std.proofs.Common.{◌≡◌, List, sym, ◌∙◌, subst}
use Rattle.std.specs.Prelude.{IfOk, Result, Ok, Err}
use Rattle.call_history.specs.Flows.{AreConserved, AreWithinAmounts}
use Rattle.call_history.specs.History.{Legal, newest_first, flows_of}
use Rattle.call_history.specs.declared.entry.Entry.{Entry}
use Rattle.call_history.specs.declared.funds.Flow.{Flow}
use Rattle.call_history.proofs.Conservation.{flows_conserved, within_in_time}
use Rattle.support_rules.specs.Real.{real}

pub conserved_in_time : (h : List Entry) → Legal real (newest_first h) → AreConserved (flows_of h)
conserved_in_time h legal = flows_conserved (flows_of h) (within_in_time real h legal).covered

-- the balances that are made of a legal history are within amounts
pub within_made : {E : Type 0} (result : Result (List Flow) E) (flows : List Flow) (h : List Entry) → IfOk result (λ b. b ≡ flows) → flows ≡ flows_of h
    → Legal real (newest_first h) → IfOk result (λ b. AreWithinAmounts b)
within_made (Ok b) flows h made is legal = subst AreWithinAmounts (sym (made ∙ is)) (within_in_time real h legal)
within_made (Err e) flows h made is legal = tt
