use Rattle.std.proofs.Common.{◌≡◌, [], drop}
use Rattle.script_reader.specs.Resolved.{each, dest_of}
use Rattle.script_reader.proofs.resolve.dests_in.Given as goal

abbrev pub invariant-loop-name : goal.invariant-loop-name
invariant-loop-name l = each (dest_of l.context) l.dests (drop l.name-index l.names) ≡ each (dest_of l.context) [] l.names
