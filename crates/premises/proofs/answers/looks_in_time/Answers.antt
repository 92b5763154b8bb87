use Rattle.support_rules.specs.Real.{real}
use Rattle.premises.proofs.Orders.{timing-answered}
use Rattle.premises.proofs.answers.looks_in_time.Goals as goal

pub returns : goal.returns
returns c = timing-answered real c.args.history.now c.args.journal.now c.are_answered-answered.result c.entries_are_valid.ensures c.events_are_valid.ensures c.are_answered-answered.ensures
