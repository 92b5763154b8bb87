use Rattle.network.proofs.Valid.{events-valid}
use Rattle.network.proofs.validity.values_are_valid.Goals as goal

pub returns : goal.returns
returns c adds fixed = events-valid c.args.history.now c.args.journal.now adds c.entries_are_valid.ensures c.events_are_valid.ensures fixed
