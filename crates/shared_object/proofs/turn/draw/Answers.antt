use Rattle.std.proofs.Common.{arith, ◌∙◌}
use Rattle.shared_object.proofs.Steps.{draws}
use Rattle.shared_object.proofs.turn.draw.Goals as goal

pub fetch_add-requires : goal.fetch_add-requires
fetch_add-requires g c = let i = c.requires.idle in (
  c.requires.table.1,
  omega arith,
  draws g.O.OneThread.stands g.O.OneThread.gives _ _ c.args.token.now.me i.0 i.1 i.2,
)

pub returns : goal.returns
returns g c = let e = c.fetch_add.ensures in record {
  table = e.0 ∙ c.requires.table.1;
  empty = e.2.1 ∙ c.requires.idle.3;
  one = e.2.2;
  free = e.2.3;
  ticket_is = e.2.4;
  keeps = e.2.0;
  none_told = e.2.0.3 ∙ c.requires.idle.4;
}
