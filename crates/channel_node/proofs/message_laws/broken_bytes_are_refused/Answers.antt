use Rattle.channel_node.proofs.Refused.{fronts_are_refused, trailing_is_refused}
use Rattle.channel_node.proofs.message_laws.broken_bytes_are_refused.Goals as goal

pub returns-clause-fronts : goal.returns-clause-fronts
returns-clause-fronts c = fronts_are_refused

pub returns-clause-trailing : goal.returns-clause-trailing
returns-clause-trailing c = trailing_is_refused
