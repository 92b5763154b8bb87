use Rattle.std.proofs.Common.{◌≡◌, ◌≤◌, ◌-◌, length}
use Rattle.std.specs.Io.KnownBytes.{Consumes}
use Rattle.byte_streams.proofs.source.read_all.Given as goal

abbrev pub invariant-loop-buffer : goal.invariant-loop-buffer
invariant-loop-buffer g l = record {
  later : g.S.Source.faults l.fn.source ≤ g.S.Source.faults l.source;
  taken : Consumes (g.S.Source.remaining l.fn.source) (g.S.Source.remaining l.source) l.bytes.items;
  room : length l.buffer ≡ 4096;
}

abbrev pub decreases-loop-buffer : goal.decreases-loop-buffer
decreases-loop-buffer g l = 4194305 - length l.bytes.items
