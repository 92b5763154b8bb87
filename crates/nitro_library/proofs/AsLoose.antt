-- The boxes behind slots, and cases of what a slot has.
use Rattle.std.proofs.Common.{◌≡◌, true, Option, Some, None, refl, sym}
use Rattle.std.proofs.lemmas.Bool.{true≢false}
use Rattle.std.specs.Prelude.{is_some}
use mir.Syntax.{impl, tnil, dnil}
use mathlib.Core.List.{[]}
use denote.Signature.{Slot, plain}
use Rattle.std.proofs.alloc.Calls.{Al}
use Rattle.std_alloc.proofs.BoxSteps.Form.{Bx}
use Rattle.std_heap.specs.contracts.Global as Heap
use Rattle.std_heap.specs.contracts.GlobalAllocator.TheImpl.{ghosts, dict}
use Rattle.std_heap.proofs.Global.TheLaws as heap
use Rattle.nitro_library.specs.contracts.loose.Loose as Loose
use Rattle.nitro_library.specs.contracts.ledger.LedgerCore as ledger
use Rattle.nitro_library.proofs.ledger.LedgerCore.TheLaws as ledger_laws
use Rattle.nitro_library.specs.contracts.node.NodeCore as node
use Rattle.nitro_library.proofs.node.NodeCore.TheLaws as node_laws
use Rattle.nitro_library.specs.contracts.slots.ledger_slot.LedgerSlot as LedgerSlot
use Rattle.nitro_library.specs.contracts.slots.node_slot.NodeSlot as NodeSlot

abbrev pub AL : Al
AL = record { row = Heap.the_row; laws = heap.the_row_laws; g = ghosts; d = dict; drops = impl [] tnil dnil }

abbrev pub Ledger : Bx
Ledger = record { row = ledger.the_row; laws = ledger_laws.the_row_laws; al = AL }

abbrev pub Node : Bx
Node = record { row = node.the_row; laws = node_laws.the_row_laws; al = AL }

abbrev pub FromLedger : Slot 0
FromLedger = plain (λ _. Loose.the_row ledger.the_row Heap.the_row ghosts)

abbrev pub FromNode : Slot 0
FromNode = plain (λ _. Loose.the_row node.the_row Heap.the_row ghosts)

abbrev pub FromLedgerSlot : Slot 0
FromLedgerSlot = plain (λ _. LedgerSlot.the_row)

abbrev pub FromNodeSlot : Slot 0
FromNodeSlot = plain (λ _. NodeSlot.the_row)

abbrev pub FromHeap : Slot 0
FromHeap = plain (λ _. Heap.the_row)

-- what a slot has that has something
pub some_of : {A : Type 0} {R : Type 1} (o : Option A) → is_some o ≡ true → ((x : A) → o ≡ Some x → R) → R
some_of None e k = absurd (true≢false (sym e))
some_of (Some x) e k = k x refl
