-- A slot may go from one thread to another: what it points to may.
use mir.Raw.{raw}
use base.Shift.{Keyless}
use denote.Memory.{lone}
use denote.RawPtr.{Ptr}
use denote.Struct.Struct.{exits_of}
use denote.Struct.Owning.{shape, fields, to}
use denote.Param.Send.{IsSend, AllSend, owning_send, struct_send, sendable}
use Rattle.std.specs.Prelude.{Option, Some, None}
use Rattle.std.specs.Global.{Global}
use Rattle.std.proofs.Crossing as heap
use Rattle.std_alloc.proofs.SendSync.{quiet, lies}
use Rattle.std_heap.proofs.Global.TheSendSync as handle
use Rattle.nitro_library.specs.Slots.{node_owns}
use Rattle.nitro_library.specs.contracts.node.NodeCore as node
use Rattle.nitro_library.proofs.node.NodeCore.TheSendSync.{the_send as node_send}
use Rattle.nitro_library.specs.contracts.slots.node_slot.NodeSlot.{the_row, the_type}

keyless : (alloc : Global) (at : Ptr) (core : Option node.the_row.Denot) → Keyless (node_owns alloc at core)
keyless alloc at None = tt
keyless alloc at (Some core) = (lies node.the_row node_send at core, heap.frees.frees alloc (raw (lone node.the_row.mir)) at)

pub send : IsSend the_row
send =
    let all : AllSend (fields the_type) = (search sendable, (handle.the_field_send, tt)) in
    owning_send the_type all (λ d. keyless d.alloc d.at d.core)
    (λ k. quiet (to the_type) (exits_of k (fields the_type)) ((struct_send (shape the_type) all).leaving k))
