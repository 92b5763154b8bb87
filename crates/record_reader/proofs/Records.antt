-- A front of a record's bytes is read as the bytes themselves are, or its fault is that it ends.
use Rattle.std.proofs.Common.{ℕ, zero, suc, ◌-◌, ◌∷◌, ◌++◌, eqb, ltb, length, List, [], Result, refl, inr}
use Rattle.std.specs.Int.{w32, w64}
use Rattle.channel_values.specs.declared.fault.ByteFault.{ByteFault}
use Rattle.channel_values.specs.declared.fault.ByteFault.TheVariants as faults
use Rattle.channel_values.specs.Reading.{count_at, flag_at, many_at}
use Rattle.channel_values.proofs.Fronts.{GoesOn, IsSteady, then_on, if_on, byte_on, front_on, number_on, state_on, chain_on}
use Rattle.call_bytes.proofs.Fronts.{call_on}
use Rattle.run_record.specs.Numbers.{sum_of}
use Rattle.run_record.specs.Reading.{called_at, time_at, op_at, entry_at, sum_at, pair_at, virtual_at, root_at, on_ledger_at, end_at, middle_at, part_at, known_at, held_chain_at, wide_at, share_at, next_at, few_at, list_at, ending_at, record_at}
use Rattle.call_bytes.proofs.ReplyFronts.{test_on, or_bad_on, reply_on}

-- ---- lists

many_on : {X : Type 0} (whole : ℕ) (more : List ℕ) (read : List X → List ℕ → Result (X × List ℕ) ByteFault)
    → ((seen : List X) (bytes : List ℕ) → GoesOn whole more (read seen bytes) (read seen (bytes ++ more)))
    → (n : ℕ) (seen : List X) (bytes : List ℕ) → GoesOn whole more (many_at read seen n bytes) (many_at read seen n (bytes ++ more))
unfolding many_at
many_on whole more read on zero seen bytes = refl
many_on whole more read on (suc n) seen bytes =
    then_on whole more _ _ _ _ (on seen bytes) (λ next. many_on whole more read on n (seen ++ next.0 ∷ []) next.1)

count_on : (limit whole : ℕ) (more bytes : List ℕ) → GoesOn whole more (count_at whole limit bytes) (count_at whole limit (bytes ++ more))
unfolding count_at
count_on limit whole more bytes =
    then_on whole more _ _ _ _ (byte_on whole more bytes) (λ n.
    test_on whole more (ltb limit n.0) _ _ _ _ refl)

few_on : {X : Type 0} (at : ℕ → List ℕ → Result (X × List ℕ) ByteFault) → IsSteady at → (limit : ℕ) → IsSteady (few_at limit at)
unfolding few_at
few_on at on limit whole more bytes =
    then_on whole more _ _ _ _ (count_on limit whole more bytes) (λ n.
    many_on whole more (next_at at whole) (λ seen. on whole more) n.0 [] n.1)

list_on : {X : Type 0} (at : ℕ → List ℕ → Result (X × List ℕ) ByteFault) → IsSteady at → IsSteady (list_at at)
unfolding list_at
list_on at on whole more bytes =
    then_on whole more _ _ _ _ (number_on w32 whole more bytes) (λ n.
    many_on whole more (next_at at whole) (λ seen. on whole more) n.0 [] n.1)

-- ---- entries and sums

called_on : IsSteady called_at
unfolding called_at
called_on whole more bytes = then_on whole more _ _ _ _ (call_on whole more bytes) (λ call. refl)

time_on : IsSteady time_at
unfolding time_at
time_on whole more bytes = then_on whole more _ _ _ _ (number_on w64 whole more bytes) (λ time. refl)

op_on : IsSteady op_at
unfolding op_at
op_on whole more bytes =
    then_on whole more _ _ _ _ (byte_on whole more bytes) (λ tag.
    if_on whole more (eqb tag.0 1) _ _ _ _ (called_on whole more tag.1)
    (if_on whole more (eqb tag.0 2) _ _ _ _ (time_on whole more tag.1) (inr (faults.BadTag (whole - length (bytes ++ more)), refl))))

entry_on : IsSteady entry_at
unfolding entry_at
entry_on whole more bytes =
    then_on whole more _ _ _ _ (number_on w32 whole more bytes) (λ number.
    then_on whole more _ _ _ _ (number_on w32 whole more number.1) (λ by.
    then_on whole more _ _ _ _ (op_on whole more by.1) (λ op.
    then_on whole more _ _ _ _ (reply_on whole more op.1) (λ reply. refl))))

sum_on : IsSteady sum_at
unfolding sum_at
sum_on whole more bytes =
    then_on whole more _ _ _ _ (byte_on whole more bytes) (λ tag.
    then_on whole more _ _ _ _ (or_bad_on whole more (whole - length bytes) (whole - length (bytes ++ more)) (sum_of tag.0) tag.1) (λ kind.
    then_on whole more _ _ _ _ (front_on 32 whole more kind.1) (λ name.
    then_on whole more _ _ _ _ (number_on w32 whole more name.1) (λ asset.
    then_on whole more _ _ _ _ (number_on w64 whole more asset.1) (λ amount. refl)))))

-- ---- plans

flag_on : IsSteady flag_at
unfolding flag_at
flag_on whole more bytes =
    then_on whole more _ _ _ _ (byte_on whole more bytes) (λ flag.
    if_on whole more (eqb flag.0 0) _ _ _ _ refl
    (if_on whole more (eqb flag.0 1) _ _ _ _ refl (inr (faults.BadTag (whole - length (bytes ++ more)), refl))))

pair_on : IsSteady pair_at
unfolding pair_at
pair_on whole more bytes =
    then_on whole more _ _ _ _ (front_on 32 whole more bytes) (λ first.
    then_on whole more _ _ _ _ (front_on 32 whole more first.1) (λ second. refl))

virtual_on : IsSteady virtual_at
unfolding virtual_at
virtual_on whole more bytes =
    then_on whole more _ _ _ _ (pair_on whole more bytes) (λ ledgers.
    then_on whole more _ _ _ _ (pair_on whole more ledgers.1) (λ guarantors.
    then_on whole more _ _ _ _ (pair_on whole more guarantors.1) (λ channels.
    then_on whole more _ _ _ _ (number_on w32 whole more channels.1) (λ asset.
    then_on whole more _ _ _ _ (number_on w64 whole more asset.1) (λ total.
    then_on whole more _ _ _ _ (flag_on whole more total.1) (λ side_b. refl))))))

root_on : IsSteady root_at
unfolding root_at
root_on whole more bytes = then_on whole more _ _ _ _ (front_on 32 whole more bytes) (λ channel. refl)

on_ledger_on : IsSteady on_ledger_at
unfolding on_ledger_at
on_ledger_on whole more bytes =
    then_on whole more _ _ _ _ (front_on 32 whole more bytes) (λ ledger.
    then_on whole more _ _ _ _ (front_on 32 whole more ledger.1) (λ channel. refl))

end_on : IsSteady end_at
unfolding end_at
end_on whole more bytes = then_on whole more _ _ _ _ (virtual_on whole more bytes) (λ v. refl)

middle_on : IsSteady middle_at
unfolding middle_at
middle_on whole more bytes = then_on whole more _ _ _ _ (virtual_on whole more bytes) (λ v. refl)

part_on : IsSteady part_at
unfolding part_at
part_on whole more bytes =
    then_on whole more _ _ _ _ (byte_on whole more bytes) (λ tag.
    if_on whole more (eqb tag.0 1) _ _ _ _ (root_on whole more tag.1)
    (if_on whole more (eqb tag.0 2) _ _ _ _ (on_ledger_on whole more tag.1)
    (if_on whole more (eqb tag.0 3) _ _ _ _ (end_on whole more tag.1)
    (if_on whole more (eqb tag.0 4) _ _ _ _ (middle_on whole more tag.1) (inr (faults.BadTag (whole - length (bytes ++ more)), refl))))))

-- ---- endings

known_on : IsSteady known_at
unfolding known_at
known_on whole more bytes =
    then_on whole more _ _ _ _ (front_on 32 whole more bytes) (λ channel.
    then_on whole more _ _ _ _ (state_on whole more channel.1) (λ last. refl))

held_chain_on : IsSteady held_chain_at
unfolding held_chain_at
held_chain_on whole more bytes =
    then_on whole more _ _ _ _ (front_on 32 whole more bytes) (λ channel.
    then_on whole more _ _ _ _ (chain_on whole more channel.1) (λ chain. refl))

wide_on : IsSteady wide_at
unfolding wide_at
wide_on whole more bytes =
    then_on whole more _ _ _ _ (number_on w64 whole more bytes) (λ upper.
    then_on whole more _ _ _ _ (number_on w64 whole more upper.1) (λ lower. refl))

share_on : IsSteady share_at
unfolding share_at
share_on whole more bytes =
    then_on whole more _ _ _ _ (number_on w32 whole more bytes) (λ asset.
    then_on whole more _ _ _ _ (wide_on whole more asset.1) (λ amount. refl))

ending_on : IsSteady ending_at
unfolding ending_at
ending_on whole more bytes =
    then_on whole more _ _ _ _ (front_on 32 whole more bytes) (λ person.
    then_on whole more _ _ _ _ (few_on part_at part_on 64 whole more person.1) (λ parts.
    then_on whole more _ _ _ _ (few_on known_at known_on 64 whole more parts.1) (λ known.
    then_on whole more _ _ _ _ (few_on held_chain_at held_chain_on 64 whole more known.1) (λ chains.
    then_on whole more _ _ _ _ (list_on share_at share_on whole more chains.1) (λ shares. refl)))))

pub record_on : IsSteady record_at
unfolding record_at
record_on whole more bytes =
    then_on whole more _ _ _ _ (list_on entry_at entry_on whole more bytes) (λ history.
    then_on whole more _ _ _ _ (list_on sum_at sum_on whole more history.1) (λ sums.
    then_on whole more _ _ _ _ (few_on ending_at ending_on 16 whole more sums.1) (λ ends. refl)))
