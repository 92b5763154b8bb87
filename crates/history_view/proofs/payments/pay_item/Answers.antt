use Rattle.std.proofs.Common.{ap}
use Rattle.call_history.specs.declared.view.ChannelView.{ChannelView}
use Rattle.history_view.specs.Views.{channel_paid}
use Rattle.history_view.proofs.Known.{put_changed}
use Rattle.history_view.proofs.payments.pay_item.Goals as goal

pub returns : goal.returns
returns c =
    put_changed c.put.result (channel_paid c.args.payment) c.args.payment.channel c.args.views.now c.take.new.self c.put.new.self c.in_ok-view.view c.lower_rest.new.view
    c.in_ok-view.ensures.known c.in_ok-view.ensures.rest c.in_ok-lower_rest.ensures (ap (λ (v : ChannelView). v.channel) c.in_ok-lower_rest.ensures) c.put.ensures
