use Rattle.std.proofs.Common.{◌≡◌, drop}
use Rattle.watchtower.specs.Towers.{is_rising}
use Rattle.watchtower.proofs.looking.is_rising.Given as goal

abbrev pub invariant-loop-entry : goal.invariant-loop-entry
invariant-loop-entry l = is_rising l.fn.now l.entries ≡ is_rising l.time (drop l.entry-index l.entries)
