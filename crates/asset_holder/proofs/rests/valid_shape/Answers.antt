use Rattle.asset_holder.proofs.Shapes.{shape_valid, found_shape, found_valid}
use Rattle.asset_holder.proofs.rests.valid_shape.Goals as goal

pub returns-clause-found : goal.returns-clause-found
returns-clause-found c = found_shape (λ s. s.now) c.shape_in.result _ c.shape_in.ensures

pub returns-clause-valid : goal.returns-clause-valid
returns-clause-valid c = found_valid (λ s. s.now) c.shape_in.result _ c.shape_in.ensures (shape_valid c.args.outcome.now c.args.asset c.assets-assets.ensures.valid.1.each)
