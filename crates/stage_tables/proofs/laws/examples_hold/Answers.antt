use Rattle.std.proofs.Common.{refl}
use Rattle.stage_tables.proofs.laws.examples_hold.Goals as goal

pub returns : goal.returns
returns c = record {
  shared = refl;
  of_another = refl;
  guaranteed = refl;
  lent = refl;
  turned = refl;
  too_much = refl;
  in_another_asset = refl;
  without_room = refl;
  of_payments = refl;
  closing = refl;
  not_there = refl;
  at_an_end = refl;
  at_the_middle = refl;
  small = refl;
  large = refl;
}
