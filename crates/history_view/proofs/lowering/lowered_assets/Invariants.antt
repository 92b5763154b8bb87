use Rattle.std.proofs.Common.{◌≡◌, take}
use Rattle.call_history.specs.Rest.{lower_outcome}
use Rattle.history_view.proofs.lowering.lowered_assets.Given as goal

abbrev pub invariant-loop-o : goal.invariant-loop-o
invariant-loop-o l = l.lowered.items ≡ lower_outcome (take l.o-index l.assets) l.asset l.place l.amount
