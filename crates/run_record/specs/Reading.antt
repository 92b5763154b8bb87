-- Reading records from bytes: each field is read whole, then checked, before the next one.
use Rattle.std.specs.Prelude.{ℕ, ◌+◌, ◌*◌, ◌-◌, ◌^◌, List, [], length, Result, Ok, Err, ◌==◌, if◌then◌else◌}
use Rattle.std.specs.Int.{w32, w64}
use Rattle.channel_values.specs.declared.fault.ByteFault.{ByteFault}
use Rattle.channel_values.specs.declared.fault.ByteFault.TheVariants as faults
use Rattle.channel_values.specs.Reading.{◌>>=◌, byte_at, number_at, name_at, flag_at, count_at, many_at, state_at, chain_at, all_of}
use Rattle.call_history.specs.Reading.{call_at}
use Rattle.call_history.specs.declared.call.Op.{Op}
use Rattle.call_history.specs.declared.call.Op.TheVariants as ops
use Rattle.call_history.specs.declared.entry.Entry.{Entry}
use Rattle.call_history.specs.declared.held_chain.HeldChain.{HeldChain}
use Rattle.call_history.specs.declared.held_chain.Known.{Known}
use Rattle.funding_plans.specs.declared.plan.Part.{Part}
use Rattle.funding_plans.specs.declared.plan.Part.TheVariants.{Root, OnLedger, End, Middle}
use Rattle.funding_plans.specs.declared.plan.Virtual.{Virtual}
use Rattle.call_bytes.specs.Reading.{or_bad, reply_at}
use Rattle.run_record.specs.Numbers.{sum_of}
use Rattle.run_record.specs.Spelling.{Amount, Pair}
use Rattle.run_record.specs.declared.run_record.Sum.{Sum}
use Rattle.run_record.specs.declared.run_record.Ending.{Ending}
use Rattle.run_record.specs.declared.run_record.Record.{Record}

-- ---- entries

unfoldable pub called_at : ℕ → List ℕ → Result (Op × List ℕ) ByteFault
called_at whole bytes = do
  call ← call_at whole bytes
  Ok (ops.Call call.0, call.1)

unfoldable pub time_at : ℕ → List ℕ → Result (Op × List ℕ) ByteFault
time_at whole bytes = do
  time ← number_at whole w64 bytes
  Ok (ops.Time time.0, time.1)

unfoldable pub op_at : ℕ → List ℕ → Result (Op × List ℕ) ByteFault
op_at whole bytes = do
  tag ← byte_at whole bytes
  if tag.0 == 1 then called_at whole tag.1
      else (if tag.0 == 2 then time_at whole tag.1
      else Err (faults.BadTag (whole - length bytes)))

unfoldable pub entry_at : ℕ → List ℕ → Result (Entry × List ℕ) ByteFault
entry_at whole bytes = do
  number ← number_at whole w32 bytes
  by ← number_at whole w32 number.1
  op ← op_at whole by.1
  reply ← reply_at whole op.1
  Ok (record { number = number.0; by = by.0; op = op.0; reply = reply.0 }, reply.1)

-- ---- sums

unfoldable pub sum_at : ℕ → List ℕ → Result (Sum × List ℕ) ByteFault
sum_at whole bytes = do
  tag ← byte_at whole bytes
  kind ← or_bad (whole - length bytes) (sum_of tag.0) tag.1
  name ← name_at whole kind.1
  asset ← number_at whole w32 name.1
  amount ← number_at whole w64 asset.1
  Ok (record { kind = kind.0; name = name.0; asset = asset.0; amount = amount.0 }, amount.1)

-- ---- endings

unfoldable pub pair_at : ℕ → List ℕ → Result (Pair × List ℕ) ByteFault
pair_at whole bytes = do
  first ← name_at whole bytes
  second ← name_at whole first.1
  Ok ((first.0, second.0), second.1)

unfoldable pub virtual_at : ℕ → List ℕ → Result (Virtual × List ℕ) ByteFault
virtual_at whole bytes = do
  ledgers ← pair_at whole bytes
  guarantors ← pair_at whole ledgers.1
  channels ← pair_at whole guarantors.1
  asset ← number_at whole w32 channels.1
  total ← number_at whole w64 asset.1
  side_b ← flag_at whole total.1
  Ok (record { ledger_a = ledgers.0.0; ledger_b = ledgers.0.1; guarantor_a = guarantors.0.0; guarantor_b = guarantors.0.1; joint = channels.0.0; channel = channels.0.1; asset = asset.0; total = total.0; side_b = side_b.0 }, side_b.1)

unfoldable pub root_at : ℕ → List ℕ → Result (Part × List ℕ) ByteFault
root_at whole bytes = do
  channel ← name_at whole bytes
  Ok (Root channel.0, channel.1)

unfoldable pub on_ledger_at : ℕ → List ℕ → Result (Part × List ℕ) ByteFault
on_ledger_at whole bytes = do
  ledger ← name_at whole bytes
  channel ← name_at whole ledger.1
  Ok (OnLedger ledger.0 channel.0, channel.1)

unfoldable pub end_at : ℕ → List ℕ → Result (Part × List ℕ) ByteFault
end_at whole bytes = do
  v ← virtual_at whole bytes
  Ok (End v.0, v.1)

unfoldable pub middle_at : ℕ → List ℕ → Result (Part × List ℕ) ByteFault
middle_at whole bytes = do
  v ← virtual_at whole bytes
  Ok (Middle v.0, v.1)

unfoldable pub part_at : ℕ → List ℕ → Result (Part × List ℕ) ByteFault
part_at whole bytes = do
  tag ← byte_at whole bytes
  if tag.0 == 1 then root_at whole tag.1
      else (if tag.0 == 2 then on_ledger_at whole tag.1
      else (if tag.0 == 3 then end_at whole tag.1
      else (if tag.0 == 4 then middle_at whole tag.1
      else Err (faults.BadTag (whole - length bytes)))))

unfoldable pub known_at : ℕ → List ℕ → Result (Known × List ℕ) ByteFault
known_at whole bytes = do
  channel ← name_at whole bytes
  last ← state_at whole channel.1
  Ok (record { channel = channel.0; last = last.0 }, last.1)

unfoldable pub held_chain_at : ℕ → List ℕ → Result (HeldChain × List ℕ) ByteFault
held_chain_at whole bytes = do
  channel ← name_at whole bytes
  chain ← chain_at whole channel.1
  Ok (record { channel = channel.0; chain = chain.0 }, chain.1)

-- two halves
unfoldable pub wide_at : ℕ → List ℕ → Result (ℕ × List ℕ) ByteFault
wide_at whole bytes = do
  upper ← number_at whole w64 bytes
  lower ← number_at whole w64 upper.1
  Ok (upper.0 * 2 ^ 64 + lower.0, lower.1)

unfoldable pub share_at : ℕ → List ℕ → Result (Amount × List ℕ) ByteFault
share_at whole bytes = do
  asset ← number_at whole w32 bytes
  amount ← wide_at whole asset.1
  Ok ((asset.0, amount.0), amount.1)

-- one after the other, whatever was seen before
abbrev pub next_at : {X : Type 0} → (ℕ → List ℕ → Result (X × List ℕ) ByteFault) → ℕ → List X → List ℕ → Result (X × List ℕ) ByteFault
next_at one whole seen bytes = one whole bytes

-- a list after a count of one byte, at most a limit, and after one of four bytes
unfoldable pub few_at : {X : Type 0} → (limit : ℕ) → (ℕ → List ℕ → Result (X × List ℕ) ByteFault) → ℕ → List ℕ → Result (List X × List ℕ) ByteFault
few_at limit one whole bytes = do
  count ← count_at whole limit bytes
  many_at (next_at one whole) [] count.0 count.1

unfoldable pub list_at : {X : Type 0} → (ℕ → List ℕ → Result (X × List ℕ) ByteFault) → ℕ → List ℕ → Result (List X × List ℕ) ByteFault
list_at one whole bytes = do
  count ← number_at whole w32 bytes
  many_at (next_at one whole) [] count.0 count.1

unfoldable pub ending_at : ℕ → List ℕ → Result (Ending × List ℕ) ByteFault
ending_at whole bytes = do
  person ← name_at whole bytes
  parts ← few_at 64 part_at whole person.1
  known ← few_at 64 known_at whole parts.1
  chains ← few_at 64 held_chain_at whole known.1
  shares ← list_at share_at whole chains.1
  Ok (record { person = person.0; plan = record { me = person.0; parts = parts.0 }; known = known.0; chains = chains.0; shares = shares.0 }, shares.1)

unfoldable pub record_at : ℕ → List ℕ → Result (Record × List ℕ) ByteFault
record_at whole bytes = do
  history ← list_at entry_at whole bytes
  sums ← list_at sum_at whole history.1
  ends ← few_at 16 ending_at whole sums.1
  Ok (record { history = history.0; sums = sums.0; ends = ends.0 }, ends.1)

-- the record that the bytes spell, all of the bytes, or the first fault
abbrev pub record_of : List ℕ → Result Record ByteFault
record_of bytes = all_of record_at bytes
