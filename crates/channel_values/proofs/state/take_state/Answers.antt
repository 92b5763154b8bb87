use Rattle.std.proofs.Common.{arith, ◌∙◌}
use Rattle.channel_values.specs.Parts.{StateParts, state_with}
use Rattle.channel_values.specs.Spelling.{state}
use Rattle.channel_values.proofs.Takes.{front_is}
use Rattle.channel_values.proofs.States.{state_takes}
use Rattle.channel_values.proofs.state.take_state.Goals as goal

pub slice_bounds-from_slice-count : goal.slice_bounds-from_slice-count
slice_bounds-from_slice-count c =
    let p = c.in_ok-parts.parts in
    let made : StateParts = state_with p.turn p.is_final p.outcome p.app_bytes.items in
    let t = state_takes c.args.whole c.args.bytes.now (made, c.in_ok-parts.rest.now) (λ i. omega (arith, c.type_inv.bytes i)) c.in_ok-parts.ensures in
    (front_is c.args.bytes.now (state made) c.in_ok-parts.rest.now t.0.parts).0

pub invariant_of-state : goal.invariant_of-state
invariant_of-state c =
    let p = c.in_ok-parts.parts in
    let made : StateParts = state_with p.turn p.is_final p.outcome p.app_bytes.items in
    let t = state_takes c.args.whole c.args.bytes.now (made, c.in_ok-parts.rest.now) (λ i. omega (arith, c.type_inv.bytes i)) c.in_ok-parts.ensures in
    let f = front_is c.args.bytes.now (state made) c.in_ok-parts.rest.now t.0.parts in
    (t.1, c.in_ok-kept.ensures.items ∙ f.1)
