use Rattle.support_rules.specs.Real.{real}
use Rattle.adjudicator.proofs.Tables.{due_finals}
use Rattle.adjudicator.proofs.adjudicator.Adjudicator.finals.Goals as goal

pub returns : goal.returns
returns c = λ h st.
    let here = rw (← c.self.view_is) at st in
    due_finals real h _ c.due.result.now c.due.ensures.ordered c.due.ensures.deadlines here
