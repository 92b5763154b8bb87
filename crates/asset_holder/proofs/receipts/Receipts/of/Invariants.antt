use Rattle.std.proofs.Common.{take}
use Rattle.asset_holder.specs.Sums.{AreReceipts}
use Rattle.asset_holder.proofs.receipts.Receipts.of.Given as goal

abbrev pub invariant-loop-place : goal.invariant-loop-place
invariant-loop-place l = AreReceipts (take l.place l.flows) l.receipts.pairs.items l.receipts.channels.entries l.receipts.persons.entries l.receipts.paid.entries
