use Rattle.std.proofs.Common.{◌≡◌, [], drop}
use Rattle.script_reader.specs.Resolved.{each, item_of}
use Rattle.script_reader.proofs.resolve.items_in.Given as goal

abbrev pub invariant-loop-holding : goal.invariant-loop-holding
invariant-loop-holding l = each (item_of l.context) l.items (drop l.holding-index l.holdings) ≡ each (item_of l.context) [] l.holdings
