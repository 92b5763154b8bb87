-- What the view stands for is the history's law of following.
use Rattle.history_view.proofs.Named.{stands_followed}
use Rattle.history_view.proofs.following.follow.Goals as goal

pub returns-clause-stands : goal.returns-clause-stands
returns-clause-stands c r h names st legal =
    stands_followed c.follow_entry.result r h c.args.entry.now c.args.view.now c.follow_entry.new.view names st legal c.of_few.ensures c.follow_entry.ensures
