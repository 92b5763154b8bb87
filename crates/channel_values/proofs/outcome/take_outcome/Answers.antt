use Rattle.std.proofs.Common.{◌≡◌, arith, ◌∙◌, ap}
use Rattle.channel_values.specs.Flat.{assets_of}
use Rattle.channel_values.specs.Spelling.{outcome}
use Rattle.channel_values.proofs.Takes.{outcome_takes, front_is}
use Rattle.channel_values.proofs.outcome.take_outcome.Goals as goal

pub slice_bounds-from_slice-count : goal.slice_bounds-from_slice-count
slice_bounds-from_slice-count c =
    let os = assets_of c.in_ok-flat.flat.items in
    let t = outcome_takes c.args.whole c.args.bytes.now (os, c.in_ok-flat.rest.now) (λ i. omega (arith, c.type_inv.bytes i)) c.in_ok-flat.ensures in
    (front_is c.args.bytes.now (outcome os) c.in_ok-flat.rest.now t.0.parts).0

pub invariant_of-result : goal.invariant_of-result
invariant_of-result c =
    let os = assets_of c.in_ok-flat.flat.items in
    let t = outcome_takes c.args.whole c.args.bytes.now (os, c.in_ok-flat.rest.now) (λ i. omega (arith, c.type_inv.bytes i)) c.in_ok-flat.ensures in
    let f = front_is c.args.bytes.now (outcome os) c.in_ok-flat.rest.now t.0.parts in
    let same : c.in_ok-assets.assets.items ≡ os = c.in_ok-assets.ensures ∙ ap assets_of c.as_slice.ensures.value in
    rw same (t.1, c.in_ok-kept.ensures.items ∙ f.1)
