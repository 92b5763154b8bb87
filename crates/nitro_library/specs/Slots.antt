-- What slots own.
use base.Fml.{Fml, ftrue}
use base.Stored.{Coded}
use denote.RawPtr.{Ptr}
use Rattle.std.specs.Prelude.{Option, None, Some}
use Rattle.std.specs.Box.Ownership.{box_owns}
use Rattle.std.specs.Coded.{coded_option}
use Rattle.std.specs.Global.{Global}
use Rattle.std_heap.specs.contracts.GlobalAllocator.TheImpl.{ghosts}
use Rattle.nitro_library.specs.contracts.ledger.LedgerCore as ledger
use Rattle.nitro_library.specs.contracts.node.NodeCore as node

-- a box at the pointer, if there is a core
abbrev pub ledger_owns : Global → Ptr → Option ledger.the_row.Denot → Fml
ledger_owns alloc at None = ftrue
ledger_owns alloc at (Some core) = box_owns (ghosts.dealloc_token alloc) ledger.the_row at core

abbrev pub ledger_coded : Coded (Option ledger.the_row.Denot)
ledger_coded = coded_option ledger.the_row.coded

abbrev pub node_owns : Global → Ptr → Option node.the_row.Denot → Fml
node_owns alloc at None = ftrue
node_owns alloc at (Some core) = box_owns (ghosts.dealloc_token alloc) node.the_row at core

abbrev pub node_coded : Coded (Option node.the_row.Denot)
node_coded = coded_option node.the_row.coded
