-- Where no chain is held with that turn, support alone decides.
use Rattle.std.proofs.Common.{sym, ◌∙◌}
use Rattle.call_history.specs.Marked.{marked_of}
use Rattle.support_rules.specs.Real.{real}
use Rattle.channel_store.proofs.Good.{newer}
use Rattle.channel_store.proofs.kept.Kept.is_newer.Goals as goal

pub returns-clause-value : goal.returns-clause-value
returns-clause-value c =
    c.supports.ensures.value
    ∙ sym (newer real c.args.self.now (marked_of c.args.shown.now) c.requires (sym c.is_as_new.ensures ∙ c.if-is_as_new.false))
