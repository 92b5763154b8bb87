use Rattle.std.proofs.Common.{◌≡◌, take}
use Rattle.record_checker.specs.Walking.{WalksTo}
use Rattle.record_checker.proofs.walking.walk_on.Given as goal

abbrev pub invariant-loop-entry : goal.invariant-loop-entry
invariant-loop-entry l = record {
  counted : l.count ≡ l.entry-index;
  walked : WalksTo (take l.entry-index l.history) l.adjudicator l.rests.entries l.flows.items;
}
