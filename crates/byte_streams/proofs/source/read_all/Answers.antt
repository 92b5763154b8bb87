use Rattle.std.proofs.Common.{◌++◌, take}
use Rattle.byte_streams.proofs.Known.{Consumes-more}
use Rattle.byte_streams.proofs.source.read_all.Goals as goal

pub returns-in_err-extend_from_slice-in-Got-clause-no_memory : goal.returns-in_err-extend_from_slice-in-Got-clause-no_memory
returns-in_err-extend_from_slice-in-Got-clause-no_memory g c = λ _. (
  c.loop-buffer.bytes.items ++ take c.in-Got.count c.take.new.into,
  Consumes-more (g.S.Source.remaining c.args.source.now) (g.S.Source.remaining c.loop-buffer.source) (g.S.Source.remaining c.take.new.self) _ _ c.loop-buffer.invariant.taken c.in-Got.ensures.gives.1,
)
