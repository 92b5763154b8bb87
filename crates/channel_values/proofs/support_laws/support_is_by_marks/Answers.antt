use Rattle.channel_values.proofs.Exact.{support_is_by_marks}
use Rattle.channel_values.proofs.support_laws.support_is_by_marks.Goals as goal

pub returns : goal.returns
returns c = support_is_by_marks
