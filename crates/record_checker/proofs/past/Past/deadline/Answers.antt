use Rattle.std.proofs.Common.{List, ◌∙◌, ap}
use Rattle.call_history.specs.History.{row}
use Rattle.call_history.specs.declared.entry.Entry.{Entry}
use Rattle.call_history.specs.declared.row.Row.{Row}
use Rattle.support_rules.specs.Real.{real}
use Rattle.record_checker.proofs.Leaving.{row_told}
use Rattle.record_checker.proofs.past.Past.deadline.Goals as goal

pub returns : goal.returns
returns c =
    ap (λ (r : Row). r.deadline) (c.row_or_blank.ensures ∙ row_told _ _ c.args.channel.now _ c.self.invariant.stands (c.row.ensures _ c.self.invariant.stands))
    ∙ ap (λ (h : List Entry). (row real c.args.channel.now h).deadline) c.self.view_is
