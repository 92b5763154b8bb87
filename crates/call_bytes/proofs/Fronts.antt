-- A front of a call's bytes, or of a message's, is read as the bytes themselves are, or its fault is that it ends.
use Rattle.std.proofs.Common.{ℕ, ◌-◌, ◌++◌, eqb, length, List, refl, inr}
use Rattle.std.specs.Int.{w32, w64}
use Rattle.channel_values.specs.declared.fault.ByteFault.TheVariants as faults
use Rattle.channel_values.proofs.Fronts.{GoesOn, IsSteady, then_on, if_on, byte_on, front_on, number_on, sized_on, outcome_on, state_on, fixed_on, signed_on, chain_on}
use Rattle.call_history.specs.Reading.{deposit_at, challenge_at, respond_at, refute_at, checkpoint_at, conclude_at, transfer_at, claim_at, fields_at, call_at, message_at}

deposit_on : IsSteady deposit_at
unfolding deposit_at
deposit_on whole more bytes =
    then_on whole more _ _ _ _ (front_on 32 whole more bytes) (λ channel.
    then_on whole more _ _ _ _ (number_on w32 whole more channel.1) (λ asset.
    then_on whole more _ _ _ _ (number_on w64 whole more asset.1) (λ expected.
    then_on whole more _ _ _ _ (number_on w64 whole more expected.1) (λ amount. refl))))

challenge_on : IsSteady challenge_at
unfolding challenge_at
challenge_on whole more bytes =
    then_on whole more _ _ _ _ (chain_on whole more bytes) (λ chain.
    then_on whole more _ _ _ _ (byte_on whole more chain.1) (λ challenger.
    then_on whole more _ _ _ _ (sized_on 9004 whole more challenger.1) (λ signature. refl)))

respond_on : IsSteady respond_at
unfolding respond_at
respond_on whole more bytes =
    then_on whole more _ _ _ _ (fixed_on whole more bytes) (λ fixed.
    then_on whole more _ _ _ _ (state_on whole more fixed.1) (λ from.
    then_on whole more _ _ _ _ (signed_on whole more from.1) (λ next. refl)))

refute_on : IsSteady refute_at
unfolding refute_at
refute_on whole more bytes =
    then_on whole more _ _ _ _ (fixed_on whole more bytes) (λ fixed.
    then_on whole more _ _ _ _ (signed_on whole more fixed.1) (λ next. refl))

checkpoint_on : IsSteady checkpoint_at
unfolding checkpoint_at
checkpoint_on whole more bytes = then_on whole more _ _ _ _ (chain_on whole more bytes) (λ chain. refl)

conclude_on : IsSteady conclude_at
unfolding conclude_at
conclude_on whole more bytes = then_on whole more _ _ _ _ (chain_on whole more bytes) (λ chain. refl)

transfer_on : IsSteady transfer_at
unfolding transfer_at
transfer_on whole more bytes =
    then_on whole more _ _ _ _ (front_on 32 whole more bytes) (λ channel.
    then_on whole more _ _ _ _ (outcome_on whole more channel.1) (λ outcome.
    then_on whole more _ _ _ _ (number_on w32 whole more outcome.1) (λ asset.
    then_on whole more _ _ _ _ (byte_on whole more asset.1) (λ index. refl))))

claim_on : IsSteady claim_at
unfolding claim_at
claim_on whole more bytes =
    then_on whole more _ _ _ _ (front_on 32 whole more bytes) (λ guarantor.
    then_on whole more _ _ _ _ (outcome_on whole more guarantor.1) (λ promise.
    then_on whole more _ _ _ _ (front_on 32 whole more promise.1) (λ target.
    then_on whole more _ _ _ _ (outcome_on whole more target.1) (λ outcome.
    then_on whole more _ _ _ _ (number_on w32 whole more outcome.1) (λ asset.
    then_on whole more _ _ _ _ (byte_on whole more asset.1) (λ position. refl))))))

fields_on : (place after whole tag : ℕ) (more bytes : List ℕ) → GoesOn whole more (fields_at whole place tag bytes) (fields_at whole after tag (bytes ++ more))
fields_on place after whole tag more bytes =
    if_on whole more (eqb tag 1) _ _ _ _ (deposit_on whole more bytes)
    (if_on whole more (eqb tag 2) _ _ _ _ (challenge_on whole more bytes)
    (if_on whole more (eqb tag 3) _ _ _ _ (respond_on whole more bytes)
    (if_on whole more (eqb tag 4) _ _ _ _ (refute_on whole more bytes)
    (if_on whole more (eqb tag 5) _ _ _ _ (checkpoint_on whole more bytes)
    (if_on whole more (eqb tag 6) _ _ _ _ (conclude_on whole more bytes)
    (if_on whole more (eqb tag 7) _ _ _ _ (transfer_on whole more bytes)
    (if_on whole more (eqb tag 8) _ _ _ _ (claim_on whole more bytes) (inr (faults.BadTag after, refl)))))))))

pub call_on : IsSteady call_at
unfolding call_at
call_on whole more bytes =
    then_on whole more _ _ _ _ (byte_on whole more bytes) (λ tag.
    fields_on (whole - length bytes) (whole - length (bytes ++ more)) whole tag.0 more tag.1)

pub message_on : IsSteady message_at
unfolding message_at
message_on whole more bytes =
    then_on whole more _ _ _ _ (front_on 32 whole more bytes) (λ channel.
    then_on whole more _ _ _ _ (signed_on whole more channel.1) (λ signed. refl))
