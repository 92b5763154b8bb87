use Rattle.std.proofs.Common.{ℕ, List, ◌∙◌, ap}
use Rattle.call_history.specs.Viewed.{paid_rows, paid_with}
use Rattle.call_history.proofs.Viewed.{paid_set}
use Rattle.call_history.proofs.paid_amounts.PaidAmounts.set.Goals as goal

pub returns : goal.returns
returns c =
    ap paid_rows c.in_ok-insert.ensures.entries
    ∙ paid_set c.self.inside.amounts.entries c.args.person.now c.args.asset c.args.amount
    ∙ ap (λ (paid : List (List ℕ × ℕ × ℕ)). paid_with (λ before. c.args.amount) c.args.person.now c.args.asset paid) c.self.view_is
