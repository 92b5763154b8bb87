use Rattle.std.proofs.Common.{◌≡◌, List, ◌∙◌, ap, arith}
use Rattle.channel_values.specs.declared.value.Dest.TheVariants.{Channel}
use Rattle.call_history.specs.Flows.{into, out_of}
use Rattle.call_history.specs.declared.funds.Flow.{Flow}
use Rattle.call_history.proofs.Conservation.{held_fits}
use Rattle.asset_holder.proofs.balances.Balances.held.Goals as goal

spent : (c : goal.After-sum) → c.sum.result ≡ out_of c.args.self.now c.args.channel.now c.args.asset
spent c =
    c.sum.ensures ∙ c.self.invariant.sources.of_channels (c.args.channel.now, c.args.asset)
    ∙ ap (λ (flows : List Flow). out_of flows c.args.channel.now c.args.asset) c.self.view_is

received : (c : goal.After-sum) → c.sum-received.result ≡ into c.args.self.now (Channel c.args.channel.now) c.args.asset
received c =
    c.sum-received.ensures ∙ c.self.invariant.receipts.to_channels (c.args.channel.now, c.args.asset)
    ∙ ap (λ (flows : List Flow). into flows (Channel c.args.channel.now) c.args.asset) c.self.view_is

pub overflow_sub-result : goal.overflow_sub-result
overflow_sub-result c = omega (arith, spent c, received c, c.requires.covered c.args.channel.now c.args.asset)

pub overflow_cast-result : goal.overflow_cast-result
overflow_cast-result c = omega (arith, spent c, received c, held_fits c.args.self.now c.args.channel.now c.args.asset c.requires)

pub returns : goal.returns
returns c = omega (arith, spent c, received c)
