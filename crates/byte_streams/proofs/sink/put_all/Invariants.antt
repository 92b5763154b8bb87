use Rattle.std.proofs.Common.{◌≡◌, ◌≤◌, List, ℕ, ◌++◌, length}
use Rattle.std.specs.Io.KnownBytes.{Appends}
use Rattle.byte_streams.proofs.sink.put_all.Given as goal

abbrev pub invariant-loop-rest : goal.invariant-loop-rest
invariant-loop-rest g l = (g.K.Sink.faults l.fn.sink ≤ g.K.Sink.faults l.sink) × ((part : List ℕ) × (part ++ l.rest ≡ l.text) × Appends (g.K.Sink.held l.fn.sink) (g.K.Sink.held l.sink) part)

abbrev pub decreases-loop-rest : goal.decreases-loop-rest
decreases-loop-rest g l = length l.rest
