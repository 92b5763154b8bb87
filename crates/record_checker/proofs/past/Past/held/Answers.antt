use Rattle.std.proofs.Common.{List, ◌∙◌, ap}
use Rattle.call_history.specs.History.{held_of}
use Rattle.call_history.specs.declared.entry.Entry.{Entry}
use Rattle.record_checker.proofs.past.Past.held.Goals as goal

pub returns : goal.returns
returns c =
    c.held.ensures ∙ (c.holdings.ensures _ c.self.invariant.stands).held c.args.channel.now c.args.asset
    ∙ ap (λ (h : List Entry). held_of h c.args.channel.now c.args.asset) c.self.view_is
