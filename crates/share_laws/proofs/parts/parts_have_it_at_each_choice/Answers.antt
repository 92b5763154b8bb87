use Rattle.share_laws.proofs.Alone.{has_backs, may_joins}
use Rattle.share_laws.proofs.parts.parts_have_it_at_each_choice.Goals as goal

pub returns : goal.returns
returns c = record { backs = has_backs; joins = may_joins }
