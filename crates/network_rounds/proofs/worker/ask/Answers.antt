use Rattle.std.proofs.Common.{[], sym, append-nil}
use Rattle.network_rounds.proofs.Steps.{rests_done, asks_if}
use Rattle.network_rounds.proofs.worker.ask.Goals as goal

pub returns-then-cast-clause-asks : goal.returns-then-cast-clause-asks
returns-then-cast-clause-asks g c = ([], sym (append-nil _), rests_done _ _ c.if-cast.true)

pub returns-clause-asks : goal.returns-clause-asks
returns-clause-asks g c = (_, c.in_ok-add.ensures, asks_if _ _ _ _ _ c.if-cast.false c.in_ok-cast.ensures.plays)
