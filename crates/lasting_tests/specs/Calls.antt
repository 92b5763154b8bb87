-- The calls that an outside in memory keeps.
use Rattle.std.specs.Prelude.{List, map, reverse}
use Rattle.lasting_lines.specs.Files.{Op, Appended, Synced, Written, Aside}
use Rattle.lasting_tests.specs.declared.memory.Call.{Call}
use Rattle.lasting_tests.specs.declared.memory.Call.TheVariants as call

abbrev pub op_of : Call → Op
op_of (call.Append bytes) = Appended bytes.items
op_of call.Sync = Synced
op_of (call.Write text) = Written text.items
op_of (call.WriteAside message) = Aside message.items

-- the newest first
abbrev pub ops_of : List Call → List Op
ops_of list = reverse (map op_of list)
