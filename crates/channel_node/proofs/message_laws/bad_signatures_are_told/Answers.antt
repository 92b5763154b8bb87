use Rattle.channel_node.proofs.Refused.{bad_signatures_are_told as told, taken_ones_are_signed}
use Rattle.channel_node.proofs.message_laws.bad_signatures_are_told.Goals as goal

pub returns-clause-next : goal.returns-clause-next
returns-clause-next c = told

pub returns-clause-taken : goal.returns-clause-taken
returns-clause-taken c = taken_ones_are_signed
