use Rattle.network.proofs.Valid.{adds-valid}
use Rattle.network.proofs.validity.additions_are_fixed.Goals as goal

pub returns : goal.returns
returns c = adds-valid c.args.adds.now c.adds_are_valid.ensures
