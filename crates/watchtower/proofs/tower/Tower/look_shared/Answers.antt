-- What was followed is the history's, and so is what is answered.
use Rattle.watchtower.proofs.Looked.{stands_on, told_well}
use Rattle.watchtower.proofs.tower.Tower.look_shared.Goals as goal

pub returns-clause-answer : goal.returns-clause-answer
returns-clause-answer g c r h names st legal = told_well r h c.args.entries.now c.args.self.now c.look_now_shared.new.self c.args.self.now.clients _ names st legal c.in_ok-told.ensures.seen c.in_ok-told.ensures.calls

pub returns-clause-stands : goal.returns-clause-stands
returns-clause-stands g c r h names st legal = stands_on r h c.args.entries.now c.args.self.now c.look_now_shared.new.self names st legal c.in_ok-told.ensures.seen
