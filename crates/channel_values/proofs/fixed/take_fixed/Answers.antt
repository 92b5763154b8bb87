use Rattle.std.proofs.Common.{arith, ◌∙◌}
use Rattle.channel_values.specs.Parts.{FixedParts, fixed_with}
use Rattle.channel_values.specs.Spelling.{fixed}
use Rattle.channel_values.proofs.Takes.{front_is}
use Rattle.channel_values.proofs.Fixeds.{fixed_takes}
use Rattle.channel_values.proofs.fixed.take_fixed.Goals as goal

pub slice_bounds-from_slice-count : goal.slice_bounds-from_slice-count
slice_bounds-from_slice-count c =
    let p = c.in_ok-parts.parts in
    let made : FixedParts = fixed_with p.keys.items p.nonce p.app p.duration in
    let t = fixed_takes c.args.whole c.args.bytes.now (made, c.in_ok-parts.rest.now) (λ i. omega (arith, c.type_inv.bytes i)) c.in_ok-parts.ensures in
    (front_is c.args.bytes.now (fixed made) c.in_ok-parts.rest.now t.0.parts).0

pub invariant_of-fixed : goal.invariant_of-fixed
invariant_of-fixed c =
    let p = c.in_ok-parts.parts in
    let made : FixedParts = fixed_with p.keys.items p.nonce p.app p.duration in
    let t = fixed_takes c.args.whole c.args.bytes.now (made, c.in_ok-parts.rest.now) (λ i. omega (arith, c.type_inv.bytes i)) c.in_ok-parts.ensures in
    let f = front_is c.args.bytes.now (fixed made) c.in_ok-parts.rest.now t.0.parts in
    (t.1, c.in_ok-kept.ensures.items ∙ f.1)
