use Rattle.std.proofs.Common.{List, ◌∙◌, ap}
use Rattle.call_history.specs.History.{rest_of_channel}
use Rattle.call_history.specs.declared.entry.Entry.{Entry}
use Rattle.support_rules.specs.Real.{real}
use Rattle.record_checker.proofs.past.Past.rest.Goals as goal

pub returns : goal.returns
returns c = c.rest_in.ensures ∙ c.self.invariant.left c.args.channel.now ∙ ap (λ (h : List Entry). rest_of_channel real c.args.channel.now h) c.self.view_is
