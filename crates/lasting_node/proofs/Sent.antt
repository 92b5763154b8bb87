-- What a node signed stays in its journal, whatever comes to it.
use Rattle.std.proofs.Common.{ℕ, List, refl}
use Rattle.call_history.specs.declared.call.Call.{Call}
use Rattle.call_history.specs.declared.entry.Entry.{Entry}
use Rattle.channel_safety.specs.Journals.{In}
use Rattle.network.specs.declared.command.Command.{Command}
use Rattle.node_guarantees.proofs.Sending.{signatures_stay}
use Rattle.node_guarantees.specs.Once.{Signature}
use Rattle.node_guarantees.specs.Ways.{Numbered, ways}
use Rattle.lasting_node.specs.Laws.{made_by}

-- what the one node's journal signed stands in the other's
abbrev pub Stays : Numbered → Numbered → Type 0
Stays p q = (made : Signature) → In made (made_by p) → In made (made_by q)

pub same : (p : Numbered) → Stays p p
same p made i = i

pub then : (p q o : Numbered) → Stays p q → Stays q o → Stays p o
then p q o first second made i = second made (first made i)

pub saw-stays : (entries : List Entry) (p : Numbered) → Stays p (ways.saw entries p)
saw-stays entries p made i = ((signatures_stay (ways.key p) made).saw entries p (record { own = refl; there = i })).there

pub commanded-stays : (step : ℕ) (command : Command) (p : Numbered) → Stays p (ways.commanded step command p)
commanded-stays step command p made i = ((signatures_stay (ways.key p) made).commanded step command p (record { own = refl; there = i })).there

pub handled-stays : (bytes : List ℕ) (p : Numbered) → Stays p (ways.handled bytes p)
handled-stays bytes p made i = ((signatures_stay (ways.key p) made).handled bytes p (record { own = refl; there = i })).there

pub ticked-stays : (p : Numbered) → Stays p (ways.ticked p)
ticked-stays p made i = ((signatures_stay (ways.key p) made).ticked p (record { own = refl; there = i })).there

pub watched-stays : (seen place : ℕ) (calls : List Call) (p : Numbered) → Stays p (ways.watched seen place calls p)
watched-stays seen place calls p made i = ((signatures_stay (ways.key p) made).watched seen place calls p (record { own = refl; there = i })).there
