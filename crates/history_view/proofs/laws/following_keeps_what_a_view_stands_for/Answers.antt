use Rattle.history_view.proofs.Stands.{following_keeps_standing}
use Rattle.history_view.proofs.laws.following_keeps_what_a_view_stands_for.Goals as goal

pub returns : goal.returns
returns c = following_keeps_standing
