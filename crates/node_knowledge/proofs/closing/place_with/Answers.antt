use Rattle.std.proofs.Common.{ℕ, ◌<◌, [], length, arith, sym, ◌∙◌}
use Rattle.std.proofs.lemmas.List.Sums.{position_or_len_is}
use Rattle.call_history.specs.Flows.{is_among}
use Rattle.funding_plans.specs.Parts.{channels_of}
use Rattle.funding_plans.specs.declared.plan.Part.{Part}
use Rattle.funding_plans.specs.declared.plan.Part.TheVariants.{Root}
use Rattle.node_knowledge.proofs.closing.place_with.Goals as goal

pub returns-then-has_channel : goal.returns-then-has_channel
returns-then-has_channel c =
    sym (position_or_len_is (λ (part : Part). is_among c.args.channel.now (channels_of part)) c.args.parts.now c.loop-place.place (Root [])
    c.loop-place.invariant.0 c.loop-place.invariant.1
    (λ (h : c.loop-place.place < length c.args.parts.now). sym c.has_channel.ensures ∙ c.if-has_channel.true))

pub returns : goal.returns
returns c =
    sym (position_or_len_is (λ (part : Part). is_among c.args.channel.now (channels_of part)) c.args.parts.now (length c.args.parts.now) (Root [])
    (omega arith)
    (λ (k : ℕ) (h : k < length c.args.parts.now). let within : k < c.loop-place.place = omega arith in c.loop-place.invariant.1 k within)
    (λ (h : length c.args.parts.now < length c.args.parts.now). absurd (omega arith)))
