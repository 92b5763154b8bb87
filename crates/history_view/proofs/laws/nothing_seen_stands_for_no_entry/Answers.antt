use Rattle.history_view.proofs.Stands.{unseen_stands}
use Rattle.history_view.proofs.laws.nothing_seen_stands_for_no_entry.Goals as goal

pub returns : goal.returns
returns c = unseen_stands
