use Rattle.std.proofs.Common.{ap}
use Rattle.call_history.specs.declared.view.ChannelView.{ChannelView}
use Rattle.history_view.specs.Views.{channel_got}
use Rattle.history_view.proofs.Known.{put_changed}
use Rattle.history_view.proofs.flows.receive.Goals as goal

pub returns : goal.returns
returns c =
    put_changed c.put.result (channel_got c.args.asset c.args.amount) c.args.channel.now c.args.views.now c.take.new.self c.put.new.self c.in_ok-view.view c.raise_view.new.view
    c.in_ok-view.ensures.known c.in_ok-view.ensures.rest c.in_ok-raise_view.ensures (ap (λ (v : ChannelView). v.channel) c.in_ok-raise_view.ensures) c.put.ensures
