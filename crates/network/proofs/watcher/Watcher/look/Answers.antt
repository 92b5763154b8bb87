-- What was followed is the history's, and so is what is answered.
use Rattle.std.proofs.Common.{sym, ◌∙◌, subst}
use Rattle.network.specs.Watching.{Watching, StandsFor, history_after}
use Rattle.network.proofs.Watching.{saw_all_stands, checkpoints_are}
use Rattle.network.proofs.watcher.Watcher.look.Goals as goal

pub returns-in-Ok-clause-stands : goal.returns-in-Ok-clause-stands
returns-in-Ok-clause-stands c r h names st legal =
    subst (λ (w : Watching). StandsFor r (history_after h c.args.entries.now) w) (sym c.in-Ok.ensures.seen)
    (saw_all_stands r c.args.entries.now h c.args.self.now names st legal)

pub returns-in-Ok-clause-answer : goal.returns-in-Ok-clause-answer
returns-in-Ok-clause-answer c r h names st legal =
    c.in-Ok.ensures.calls
    ∙ checkpoints_are r (history_after h c.args.entries.now) c.look_now.new.self c.args.chains.now (returns-in-Ok-clause-stands c r h names st legal)
