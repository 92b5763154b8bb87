use Rattle.crossbeam_queue.specs.Passes.{IsPassOf}
use Rattle.watchtower.specs.Sharing.{AreFor}
use Rattle.watchtower.proofs.beside.work.Given as goal

abbrev pub invariant-loop : goal.invariant-loop
invariant-loop g l = IsPassOf l.queue l.pass × AreFor l.watcher l.clients l.found.items
