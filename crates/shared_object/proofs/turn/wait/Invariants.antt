use Rattle.shared_object.specs.Turn.{Waits}
use Rattle.shared_object.proofs.turn.wait.Given as goal

abbrev pub invariant-loop : goal.invariant-loop
invariant-loop g l = Waits l.words.table_id l.ticket l.fn.token.me.0 l.token
