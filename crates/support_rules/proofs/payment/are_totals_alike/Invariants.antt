use Rattle.std.proofs.Common.{◌≡◌, length, drop}
use Rattle.std.specs.List.{AllByRecursion}
use Rattle.channel_values.specs.Outcomes.{IsAssetOutcome}
use Rattle.channel_values.specs.Words.{all_along}
use Rattle.support_rules.specs.Rules as rules
use Rattle.support_rules.proofs.payment.are_totals_alike.Given as goal

abbrev pub invariant-loop-a : goal.invariant-loop-a
invariant-loop-a l =
    (all_along rules.have_one_total (drop (length l.yielded) l.from) (drop (length l.yielded) l.to) ≡ all_along rules.have_one_total l.from l.to)
    × AllByRecursion IsAssetOutcome (drop (length l.yielded) l.from)
    × AllByRecursion IsAssetOutcome (drop (length l.yielded) l.to)
