-- The forms of steps: their words, and their keys in order with the kinds of their values. `do` is one of the keys that are counted.
use Rattle.std.specs.Prelude.{ℕ, List, [], ◌∷◌, Bool, Result, Ok, Err, codes, if◌then◌else◌}
use Rattle.std.specs.List.{list_any}
use Rattle.std.specs.Str.{bytes_eq}
use Rattle.serde_json.specs.Data.{Data}
use Rattle.script_steps.specs.Rules.{◌>>=◌}
use Rattle.script_reader.specs.Kinds.{keys, number_at, flag_at, name_at, place_at, names_at, numbers_at, seed_at, app_at}
use Rattle.script_reader.specs.Written.{outcome_at}
use Rattle.network.specs.declared.command.Release.{Release}
use Rattle.network.specs.declared.command.Release.TheVariants as releases
use Rattle.script_steps.specs.declared.step.Rule.{Rule}
use Rattle.script_steps.specs.declared.step.Rule.TheVariants as rules
use Rattle.script_steps.specs.declared.step.Step.{Step}
use Rattle.script_steps.specs.declared.step.Step.TheVariants as steps
use Rattle.script_steps.specs.declared.step.Step.TheVariants.{Deposit, Time, Person, Channel, Catch, Send, Drop, Challenge, Respond, Refute, Checkpoint, Conclude, Transfer, Claim, Pay, Close, Resend, Exit, Rounds}
use Rattle.script_reader.specs.declared.written.Written.{Written}
use Rattle.script_reader.specs.declared.written.Written.TheVariants as written

-- the words of all forms
abbrev pub words : List (List ℕ)
words =
    codes "deposit" ∷ codes "time" ∷ codes "person" ∷ codes "channel" ∷ codes "sign" ∷ codes "catch"
    ∷ codes "send" ∷ codes "drop" ∷ codes "challenge" ∷ codes "respond" ∷ codes "refute"
    ∷ codes "checkpoint" ∷ codes "conclude" ∷ codes "transfer" ∷ codes "claim" ∷ codes "open"
    ∷ codes "open_on" ∷ codes "open_virtual" ∷ codes "pay" ∷ codes "close" ∷ codes "settle"
    ∷ codes "abandon" ∷ codes "resend" ∷ codes "exit" ∷ codes "rounds" ∷ []

abbrev pub is_word : List ℕ → Bool
is_word word = list_any (bytes_eq word) words

abbrev pub deposit_of : Data → Result Step Rule
deposit_of d = do
  no_more ← keys 5 d
  channel ← place_at (codes "channel") d
  asset ← number_at (codes "asset") d
  expected ← number_at (codes "expected") d
  amount ← number_at (codes "amount") d
  Ok (Deposit (record { channel = channel; asset = asset; expected = expected; amount = amount }))

abbrev pub time_of : Data → Result Step Rule
time_of d = do
  no_more ← keys 2 d
  to ← number_at (codes "to") d
  Ok (Time to)

abbrev pub person_of : Data → Result Step Rule
person_of d = do
  no_more ← keys 6 d
  name ← name_at (codes "name") d
  seed ← seed_at (codes "seed") d
  h ← number_at (codes "h") d
  node ← flag_at (codes "node") d
  watchers ← number_at (codes "watchers") d
  Ok (Person (record { name = name; seed = seed; h = h; node = node; watchers = watchers }))

abbrev pub channel_of : Data → Result Step Rule
channel_of d = do
  no_more ← keys 6 d
  name ← name_at (codes "name") d
  people ← names_at (codes "people") d
  nonce ← number_at (codes "nonce") d
  app ← app_at (codes "app") d
  duration ← number_at (codes "duration") d
  Ok (Channel (record { name = name; people = people; nonce = nonce; app = app; duration = duration }))

abbrev pub sign_of : Data → Result Written Rule
sign_of d = do
  no_more ← keys 9 d
  name ← name_at (codes "name") d
  channel ← name_at (codes "channel") d
  by ← name_at (codes "by") d
  turn ← number_at (codes "turn") d
  is_final ← flag_at (codes "final") d
  outcome ← outcome_at (codes "outcome") d
  votes ← number_at (codes "votes") d
  proposal ← outcome_at (codes "proposal") d
  Ok (written.Sign (record { name = name; channel = channel; by = by; turn = turn; is_final = is_final; outcome = outcome; votes = votes; proposal = proposal }))

abbrev pub challenge_of : Data → Result Step Rule
challenge_of d = do
  no_more ← keys 4 d
  channel ← name_at (codes "channel") d
  chain ← names_at (codes "chain") d
  by ← name_at (codes "by") d
  Ok (Challenge (record { channel = channel; chain = chain; by = by }))

abbrev pub respond_of : Data → Result Step Rule
respond_of d = do
  no_more ← keys 4 d
  channel ← name_at (codes "channel") d
  from ← name_at (codes "from") d
  state ← name_at (codes "state") d
  Ok (Respond (record { channel = channel; from = from; state = state }))

abbrev pub refute_of : Data → Result Step Rule
refute_of d = do
  no_more ← keys 3 d
  channel ← name_at (codes "channel") d
  state ← name_at (codes "state") d
  Ok (Refute channel state)

abbrev pub checkpoint_of : Data → Result Step Rule
checkpoint_of d = do
  no_more ← keys 3 d
  channel ← name_at (codes "channel") d
  chain ← names_at (codes "chain") d
  Ok (Checkpoint channel chain)

abbrev pub conclude_of : Data → Result Step Rule
conclude_of d = do
  no_more ← keys 3 d
  channel ← name_at (codes "channel") d
  chain ← names_at (codes "chain") d
  Ok (Conclude channel chain)

abbrev pub transfer_of : Data → Result Step Rule
transfer_of d = do
  no_more ← keys 5 d
  channel ← name_at (codes "channel") d
  state ← name_at (codes "state") d
  asset ← number_at (codes "asset") d
  index ← number_at (codes "index") d
  Ok (Transfer (record { channel = channel; state = state; asset = asset; index = index }))

abbrev pub claim_of : Data → Result Step Rule
claim_of d = do
  no_more ← keys 7 d
  guarantor ← name_at (codes "guarantor") d
  state ← name_at (codes "state") d
  target ← name_at (codes "target") d
  target_state ← name_at (codes "target_state") d
  asset ← number_at (codes "asset") d
  position ← number_at (codes "position") d
  Ok (Claim (record { guarantor = guarantor; state = state; target = target; target_state = target_state; asset = asset; position = position }))

abbrev pub catch_of : Data → Result Step Rule
catch_of d = do
  no_more ← keys 5 d
  name ← name_at (codes "name") d
  from ← name_at (codes "from") d
  channel ← name_at (codes "channel") d
  turn ← number_at (codes "turn") d
  Ok (Catch (record { name = name; from = from; channel = channel; turn = turn }))

abbrev pub send_of : Data → Result Step Rule
send_of d = do
  no_more ← keys 3 d
  to ← name_at (codes "to") d
  state ← name_at (codes "state") d
  Ok (Send to state)

abbrev pub drop_of : Data → Result Step Rule
drop_of d = do
  no_more ← keys 2 d
  to ← name_at (codes "to") d
  Ok (Drop to)

abbrev pub pay_of : Data → Result Step Rule
pay_of d = do
  no_more ← keys 5 d
  who ← name_at (codes "who") d
  channel ← name_at (codes "channel") d
  asset ← number_at (codes "asset") d
  amount ← number_at (codes "amount") d
  Ok (Pay (record { who = who; channel = channel; asset = asset; amount = amount }))

abbrev pub close_of : Data → Result Step Rule
close_of d = do
  no_more ← keys 3 d
  who ← names_at (codes "who") d
  channel ← name_at (codes "channel") d
  Ok (Close who channel)

abbrev pub release_of : Release → Data → Result Step Rule
release_of how d = do
  no_more ← keys 3 d
  who ← names_at (codes "who") d
  channel ← name_at (codes "channel") d
  Ok (steps.Release how who channel)

abbrev pub resend_of : Data → Result Step Rule
resend_of d = do
  no_more ← keys 3 d
  who ← names_at (codes "who") d
  channel ← name_at (codes "channel") d
  Ok (Resend who channel)

abbrev pub exit_of : Data → Result Step Rule
exit_of d = do
  no_more ← keys 2 d
  who ← names_at (codes "who") d
  Ok (Exit who)

abbrev pub rounds_of : Data → Result Step Rule
rounds_of d = do
  no_more ← keys 2 d
  count ← number_at (codes "count") d
  Ok (Rounds count)

abbrev pub open_of : Data → Result Written Rule
open_of d = do
  no_more ← keys 4 d
  who ← names_at (codes "who") d
  channel ← name_at (codes "channel") d
  outcome ← outcome_at (codes "outcome") d
  Ok (written.Open (record { who = who; channel = channel; outcome = outcome }))

abbrev pub open_on_of : Data → Result Written Rule
open_on_of d = do
  no_more ← keys 6 d
  who ← names_at (codes "who") d
  ledger ← name_at (codes "ledger") d
  channel ← name_at (codes "channel") d
  asset ← number_at (codes "asset") d
  amounts ← numbers_at (codes "amounts") d
  Ok (written.OpenOn (record { who = who; ledger = ledger; channel = channel; asset = asset; amounts = amounts }))

abbrev pub open_virtual_of : Data → Result Written Rule
open_virtual_of d = do
  no_more ← keys 8 d
  who ← names_at (codes "who") d
  ledgers ← names_at (codes "ledgers") d
  guarantors ← names_at (codes "guarantors") d
  joint ← name_at (codes "joint") d
  channel ← name_at (codes "channel") d
  asset ← number_at (codes "asset") d
  amounts ← numbers_at (codes "amounts") d
  Ok (written.OpenVirtual (record { who = who; ledgers = ledgers; guarantors = guarantors; joint = joint; channel = channel; asset = asset; amounts = amounts }))

-- the step that a value is by its word, where it has neither outcomes nor amounts
abbrev pub plain_by : List ℕ → Data → Result Step Rule
plain_by word d =
    if bytes_eq word (codes "deposit") then deposit_of d else (
    if bytes_eq word (codes "time") then time_of d else (
    if bytes_eq word (codes "person") then person_of d else (
    if bytes_eq word (codes "channel") then channel_of d else (
    if bytes_eq word (codes "catch") then catch_of d else (
    if bytes_eq word (codes "send") then send_of d else (
    if bytes_eq word (codes "drop") then drop_of d else (
    if bytes_eq word (codes "challenge") then challenge_of d else (
    if bytes_eq word (codes "respond") then respond_of d else (
    if bytes_eq word (codes "refute") then refute_of d else (
    if bytes_eq word (codes "checkpoint") then checkpoint_of d else (
    if bytes_eq word (codes "conclude") then conclude_of d else (
    if bytes_eq word (codes "transfer") then transfer_of d else (
    if bytes_eq word (codes "claim") then claim_of d else (
    if bytes_eq word (codes "pay") then pay_of d else (
    if bytes_eq word (codes "close") then close_of d else (
    if bytes_eq word (codes "settle") then release_of releases.Settle d else (
    if bytes_eq word (codes "abandon") then release_of releases.Abandon d else (
    if bytes_eq word (codes "resend") then resend_of d else (
    if bytes_eq word (codes "exit") then exit_of d else (
    if bytes_eq word (codes "rounds") then rounds_of d else (
    Err rules.Shape)))))))))))))))))))))

abbrev pub plain_written : List ℕ → Data → Result Written Rule
plain_written word d = plain_by word d >>= λ s. Ok (written.Plain s)

-- outcomes or amounts are written otherwise than they stand in a step
abbrev pub is_indirect : List ℕ → Bool
is_indirect word = list_any (bytes_eq word) (codes "sign" ∷ codes "open" ∷ codes "open_on" ∷ codes "open_virtual" ∷ [])

abbrev pub indirect_by : List ℕ → Data → Result Written Rule
indirect_by word d =
    if bytes_eq word (codes "sign") then sign_of d else (
    if bytes_eq word (codes "open") then open_of d else (
    if bytes_eq word (codes "open_on") then open_on_of d else (
    if bytes_eq word (codes "open_virtual") then open_virtual_of d else Err rules.Shape)))

-- the step that a value is by its word, as it is written
abbrev pub written_by : List ℕ → Data → Result Written Rule
written_by word d = if is_indirect word then indirect_by word d else plain_written word d
