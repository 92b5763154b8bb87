use Rattle.std.proofs.Common.{◌≡◌, ◌+◌, ℕ, List, OnOk, ap, subst}
use Rattle.history_view.proofs.Amounts.{paid_changed}
use Rattle.history_view.proofs.balances.raise_paid.Goals as goal

pub returns : goal.returns
returns c =
    subst (λ (paid : List (List ℕ × ℕ × ℕ)). OnOk c.set.result (c.set.new.self ≡ paid))
    (paid_changed (λ n. n + c.args.amount) c.args.paid.now c.args.person.now c.args.asset (c.amount.result + c.args.amount)
    (ap (λ n. n + c.args.amount) c.amount.ensures))
    c.set.ensures
