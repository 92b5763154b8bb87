use Rattle.crossbeam_queue.specs.Passes.{IsPassOf}
use Rattle.watchtower.proofs.beside.fill.Given as goal

abbrev pub invariant-loop-place : goal.invariant-loop-place
invariant-loop-place g l = IsPassOf l.queue l.pass
