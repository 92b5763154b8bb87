-- A slot may go from one thread to another: what it points to may.
use mir.Raw.{raw}
use base.Shift.{Keyless}
use denote.Memory.{lone}
use denote.RawPtr.{Ptr}
use denote.Struct.Struct.{exits_of}
use denote.Struct.Owning.{shape, fields, to}
use denote.Param.Send.{IsSend, AllSend, owning_send, struct_send, sendable}
use Rattle.std.specs.Prelude.{Option, Some, None}
use Rattle.std.specs.Global.{Global}
use Rattle.std.proofs.Crossing as heap
use Rattle.std_alloc.proofs.SendSync.{quiet, lies}
use Rattle.std_heap.proofs.Global.TheSendSync as handle
use Rattle.nitro_library.specs.Slots.{ledger_owns}
use Rattle.nitro_library.specs.contracts.ledger.LedgerCore as ledger
use Rattle.nitro_library.proofs.ledger.LedgerCore.TheSendSync.{the_send as ledger_send}
use Rattle.nitro_library.specs.contracts.slots.ledger_slot.LedgerSlot.{the_row, the_type}

keyless : (alloc : Global) (at : Ptr) (core : Option ledger.the_row.Denot) → Keyless (ledger_owns alloc at core)
keyless alloc at None = tt
keyless alloc at (Some core) = (lies ledger.the_row ledger_send at core, heap.frees.frees alloc (raw (lone ledger.the_row.mir)) at)

pub send : IsSend the_row
send =
    let all : AllSend (fields the_type) = (search sendable, (handle.the_field_send, tt)) in
    owning_send the_type all (λ d. keyless d.alloc d.at d.core)
    (λ k. quiet (to the_type) (exits_of k (fields the_type)) ((struct_send (shape the_type) all).leaving k))
