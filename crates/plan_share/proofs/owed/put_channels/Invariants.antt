use Rattle.std.proofs.Common.{◌≡◌, drop}
use Rattle.plan_share.specs.Owed.{with_channels}
use Rattle.plan_share.proofs.owed.put_channels.Given as goal

abbrev pub invariant-loop-view : goal.invariant-loop-view
invariant-loop-view l = with_channels (drop l.view-index l.views) l.assets.items ≡ with_channels l.views l.initial.assets.items
