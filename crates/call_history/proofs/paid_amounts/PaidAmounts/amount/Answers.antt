use Rattle.std.proofs.Common.{ℕ, List, ◌∙◌, ap}
use Rattle.call_history.specs.Viewed.{paid_amount}
use Rattle.call_history.proofs.Viewed.{paid_there}
use Rattle.call_history.proofs.paid_amounts.PaidAmounts.amount.Goals as goal

pub returns : goal.returns
returns c =
    c.amount_in.ensures
    ∙ paid_there c.self.inside.amounts.entries c.args.person.now c.args.asset
    ∙ ap (λ (paid : List (List ℕ × ℕ × ℕ)). paid_amount paid c.args.person.now c.args.asset) c.self.view_is
