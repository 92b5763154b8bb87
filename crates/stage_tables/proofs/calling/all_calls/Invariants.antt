use Rattle.std.proofs.Common.{◌≡◌, ◌≤◌, ◌*◌, length, take}
use Rattle.std.specs.List.{flat_map}
use Rattle.ledger_channel.specs.Stages.{called_of}
use Rattle.stage_tables.proofs.calling.all_calls.Given as goal

abbrev pub invariant-loop-part : goal.invariant-loop-part
invariant-loop-part l =
    (l.all.items ≡ flat_map (called_of l.facts) (take l.part-index l.parts)) × (length l.all.items ≤ 4 * l.part-index)
