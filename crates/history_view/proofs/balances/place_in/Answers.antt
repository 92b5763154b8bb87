use Rattle.std.proofs.Common.{ℕ, ◌<◌, length, arith, sym, ◌∙◌}
use Rattle.std.proofs.lemmas.List.Sums.{position_or_len_is}
use Rattle.history_view.specs.Views.{is_in}
use Rattle.history_view.proofs.Amounts.{no_balance}
use Rattle.history_view.proofs.balances.place_in.Goals as goal

pub returns-then-is_in : goal.returns-then-is_in
returns-then-is_in c =
    sym (position_or_len_is (is_in c.args.asset) c.args.held.now c.loop-place.place no_balance
    c.loop-place.invariant.0 c.loop-place.invariant.1 (λ h. sym c.is_in.ensures ∙ c.if-is_in.true))

pub returns : goal.returns
returns c =
    sym (position_or_len_is (is_in c.args.asset) c.args.held.now (length c.args.held.now) no_balance
    (omega arith)
    (λ (k : ℕ) (h : k < length c.args.held.now). let within : k < c.loop-place.place = omega arith in c.loop-place.invariant.1 k within)
    (λ (h : length c.args.held.now < length c.args.held.now). absurd (omega arith)))
