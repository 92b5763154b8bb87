use Rattle.std.proofs.Common.{ℕ, ◌<◌, length, arith, sym, ◌∙◌}
use Rattle.std.proofs.lemmas.List.Sums.{position_or_len_is}
use Rattle.channel_values.specs.Outcomes.{is_same}
use Rattle.channel_values.specs.declared.value.Item.{Item}
use Rattle.call_history.specs.Dues.{no_item}
use Rattle.call_history.proofs.items.place_of.Goals as goal

pub returns-then-is_for-clause-value : goal.returns-then-is_for-clause-value
returns-then-is_for-clause-value c =
    sym (position_or_len_is (λ (item : Item). is_same item.to c.args.to.now) c.args.items.now c.loop-place.place no_item
    c.loop-place.invariant.0 c.loop-place.invariant.1 (λ h. sym c.is_for.ensures ∙ c.if-is_for.true))

pub returns-clause-value : goal.returns-clause-value
returns-clause-value c =
    sym (position_or_len_is (λ (item : Item). is_same item.to c.args.to.now) c.args.items.now (length c.args.items.now) no_item
    (omega arith)
    (λ (k : ℕ) (h : k < length c.args.items.now). let within : k < c.loop-place.place = omega arith in c.loop-place.invariant.1 k within)
    (λ (h : length c.args.items.now < length c.args.items.now). absurd (omega arith)))
