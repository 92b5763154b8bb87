use Rattle.std.proofs.Common.{List, ◌∙◌, ap}
use Rattle.call_history.specs.History.{paid_to}
use Rattle.call_history.specs.declared.entry.Entry.{Entry}
use Rattle.record_checker.proofs.past.Past.paid.Goals as goal

pub returns : goal.returns
returns c =
    c.paid.ensures ∙ (c.holdings.ensures _ c.self.invariant.stands).paid c.args.person.now c.args.asset
    ∙ ap (λ (h : List Entry). paid_to h c.args.person.now c.args.asset) c.self.view_is
