use Rattle.std.proofs.Common.{◌≡◌, ◌+◌, ℕ, List, OnOk, ◌∙◌, ap, subst}
use Rattle.history_view.specs.Views.{held_amount}
use Rattle.history_view.proofs.Amounts.{held_changed}
use Rattle.history_view.proofs.balances.raise_held.Goals as goal

pub returns : goal.returns
returns c =
    subst (λ (held : List (ℕ × ℕ)). OnOk c.set_held.result (c.set_held.new.held ≡ held))
    (held_changed (λ n. n + c.args.amount) c.args.held.now c.args.asset (c.amount_held.result + c.args.amount)
    (ap (λ n. n + c.args.amount) (c.amount_held.ensures ∙ ap (λ held. held_amount held c.args.asset) c.as_slice.ensures)))
    c.set_held.ensures
