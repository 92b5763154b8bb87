-- What each step of a script means: what its names stand for then, and what is to be done, which a run and a race
-- share.
use Rattle.std.specs.Prelude.{ℕ, ◌+◌, Bool, true, false, List, [], ◌∷◌, ◌++◌, length, nat_le, Option, Some, None, unwrap_or, if◌then◌else◌}
use Rattle.std.specs.Option.{option_map}
use Rattle.std.specs.Result.{result_ok}
use Rattle.channel_values.specs.Parts.{FixedParts, StateParts, fixed_with, state_with}
use Rattle.channel_values.specs.Spelling.{fixed, state, outcome}
use Rattle.channel_values.specs.Reading.{fixed_of, state_of}
use Rattle.channel_values.specs.declared.value.Dest.TheVariants as dests
use Rattle.support_rules.specs.Ballots.{data_of}
use Rattle.lms_signatures.specs.Signing.{Signing}
use Rattle.call_history.specs.Calls.{make_deposit, make_challenge, make_respond, make_transfer, make_claim}
use Rattle.call_history.specs.Spelling.{message}
use Rattle.call_history.specs.declared.call.Call.{Call}
use Rattle.call_history.specs.declared.call.Call.TheVariants as calls
use Rattle.call_history.specs.declared.call.Op.TheVariants as ops
use Rattle.network.specs.declared.command.Command.{Command}
use Rattle.network.specs.declared.command.Command.TheVariants as commands
use Rattle.network.specs.declared.command.LedgerFunding.{LedgerFunding}
use Rattle.network.specs.declared.command.VirtualFunding.{VirtualFunding}
use Rattle.step_meanings.specs.Chains.{state_by, listed, chain_of}
use Rattle.step_meanings.specs.declared.chains.NamedState.{NamedState}
use Rattle.script_steps.specs.Digests.{key_of, fresh, person_name}
use Rattle.script_steps.specs.declared.step.OpenOnStep.{OpenOnStep}
use Rattle.script_steps.specs.declared.step.OpenVirtualStep.{OpenVirtualStep}
use Rattle.script_steps.specs.declared.step.Step.{Step}
use Rattle.script_steps.specs.declared.step.Step.TheVariants as steps
use Rattle.step_meanings.specs.People.{◌>>=◌, person_by, key_by, keys_by, numbers_by, who_of}
use Rattle.step_meanings.specs.Names.{fixed_by, name_of, digest_or_digits, position_of, sign_state, sign_challenge}
use Rattle.step_meanings.specs.declared.effect.Effect.{Effect}
use Rattle.step_meanings.specs.declared.effect.Effect.TheVariants.{Nothing, Enter, Join, Tell, Post, Lose, Catch, Rounds}
use Rattle.step_meanings.specs.declared.names.NamedChannel.{NamedChannel}
use Rattle.step_meanings.specs.declared.names.Names.{Names}

-- what a step means: what names stand for after it, and what is to be done
pub record Meaning : Type 0 where
  pub names : Names
  pub effect : Effect

-- only what names stand for is changed
abbrev pub learning : Names → Meaning
learning n = record { names = n; effect = Nothing }

-- only something is to be done
abbrev pub doing : Names → Effect → Meaning
doing n effect = record { names = n; effect = effect }

abbrev pub calling : Names → Call → Meaning
calling n call = doing n (Enter (ops.Call call))

-- the nodes of the people of these names are given a command
abbrev pub telling : Names → List (List ℕ) → Command → Meaning
telling n who command = doing n (Tell (numbers_by n.people who) command)

-- ---- what is declared and signed

-- a fixed part or a state of these parts, where they are one
abbrev pub valid_fixed : FixedParts → Option FixedParts
valid_fixed f = result_ok (fixed_of (fixed f))

abbrev pub valid_state : StateParts → Option StateParts
valid_state s = result_ok (state_of (state s))

-- the hand of a person without a node
abbrev pub hand_of : Bool → List ℕ → ℕ → Option Signing
hand_of true seed h = None
hand_of false seed h = Some (fresh seed h)

-- one more person, whose number is the next one
abbrev pub with_person : Names → List ℕ → List ℕ → ℕ → Bool → Names
with_person n name seed h node =
    record n {
      people = n.people ++ record { number = length n.people + 1; name = name; key = key_of seed h; hand = hand_of node seed h } ∷ [];
      labels = n.labels ++ (dests.Person (person_name seed h), name) ∷ [];
    }

-- a node joins for the person, with the person's signer
abbrev pub joins_if : Bool → ℕ → Signing → ℕ → Effect
joins_if true number signer watchers = Join number signer watchers
joins_if false number signer watchers = Nothing

-- one more channel
abbrev pub with_channel : Names → List ℕ → FixedParts → Names
with_channel n name f =
    record n {
      channels = n.channels ++ record { name = name; fixed = f } ∷ [];
      labels = n.labels ++ (dests.Channel (name_of f), name) ∷ [];
    }

-- a name for a state of a channel that the owner of a key signed
abbrev pub with_state : Names → NamedState → Names
with_state n s = record n { states = n.states ++ s ∷ [] }

-- the person `by` signs a state of a channel, to which the script gives a name
abbrev pub signing : Names → List ℕ → List ℕ → List ℕ → StateParts → Option Meaning
signing n name channel by made = do
  f ← fixed_by n.channels channel
  key ← key_by n.people by
  signed ← sign_state n.people by f made
  Some (learning (with_state (record n { people = signed.people }) (record { name = name; key = key; channel = name_of f; signed = record { state = made; signature = signed.signature } })))

-- ---- what commands and messages name

-- the digests of the channels of two names
abbrev pub names_by : List NamedChannel → List (List ℕ) → Option (List ℕ × List ℕ)
names_by channels (a ∷ b ∷ []) = do
  first ← option_map name_of (fixed_by channels a)
  second ← option_map name_of (fixed_by channels b)
  Some (first, second)
names_by channels _ = None

-- the fixed parts of the channels of two names
abbrev pub both_by : List NamedChannel → List (List ℕ) → Option (FixedParts × FixedParts)
both_by channels (a ∷ b ∷ []) = do
  first ← fixed_by channels a
  second ← fixed_by channels b
  Some (first, second)
both_by channels _ = None

-- the message of the state of this name
abbrev pub message_by : List NamedState → List ℕ → Option (List ℕ)
message_by states name = do
  x ← state_by states name
  if nat_le (length x.signed.signature) 9004 then Some (message (x.channel, x.signed)) else None

abbrev pub ledger_funding : OpenOnStep → (ledger channel : FixedParts) → LedgerFunding
ledger_funding k ledger channel = record { ledger = name_of ledger; fixed = channel; asset = k.asset; amounts = k.amounts }

abbrev pub virtual_funding : OpenVirtualStep → List ℕ × List ℕ → FixedParts × FixedParts → (joint channel : FixedParts) → VirtualFunding
virtual_funding k ledgers guarantors joint channel =
    record {
      route = k.route;
      ledgers = ledgers;
      guarantors = guarantors;
      joint = joint;
      channel = channel;
      asset = k.asset;
      amounts = k.amounts;
    }

-- ---- steps

-- what a step means, unless one of its names stands for nothing, or what it makes isn't valid, or a key is spent
abbrev pub meant : Names → Step → Option Meaning
meant n (steps.Deposit k) = do
  to ← digest_or_digits (fixed_by n.channels k.channel) k.channel
  Some (calling n (make_deposit to k.asset k.expected k.amount))
meant n (steps.Time to) = Some (doing n (Enter (ops.Time to)))
meant n (steps.Person k) =
    Some (doing (with_person n k.name k.seed k.h k.node) (joins_if k.node (length n.people + 1) (fresh k.seed k.h) k.watchers))
meant n (steps.Channel k) = do
  f ← valid_fixed (fixed_with (keys_by n.people k.people) k.nonce k.app k.duration)
  Some (learning (with_channel n k.name f))
meant n (steps.Sign k) = do
  made ← valid_state (state_with k.turn k.is_final k.outcome (data_of (record { votes = k.votes; proposal = outcome k.proposal })))
  signing n k.name k.channel k.by made
meant n (steps.Catch k) = do
  p ← person_by n.people k.from
  f ← fixed_by n.channels k.channel
  Some (doing n (Catch k.name p.number p.key (name_of f) k.turn))
meant n (steps.Send to state) = do
  p ← person_by n.people to
  bytes ← message_by n.states state
  Some (doing n (Post (who_of p) bytes))
meant n (steps.Drop to) = do
  p ← person_by n.people to
  Some (doing n (Lose (who_of p)))
meant n (steps.Challenge k) = do
  f ← fixed_by n.channels k.channel
  key ← key_by n.people k.by
  signed ← sign_challenge n.people k.by f (listed n.states k.chain) (position_of f.keys key)
  Some (
      calling (record n { people = signed.people })
      (make_challenge (chain_of f (listed n.states k.chain)) (position_of f.keys key) signed.signature))
meant n (steps.Respond k) = do
  f ← fixed_by n.channels k.channel
  before ← state_by n.states k.from
  answer ← state_by n.states k.state
  Some (calling n (make_respond f before.signed.state answer.signed))
meant n (steps.Refute channel next) = do
  f ← fixed_by n.channels channel
  answer ← state_by n.states next
  Some (calling n (calls.Refute f answer.signed))
meant n (steps.Checkpoint channel chain) = do
  f ← fixed_by n.channels channel
  Some (calling n (calls.Checkpoint (chain_of f (listed n.states chain))))
meant n (steps.Conclude channel chain) = do
  f ← fixed_by n.channels channel
  Some (calling n (calls.Conclude (chain_of f (listed n.states chain))))
meant n (steps.Transfer k) = do
  f ← fixed_by n.channels k.channel
  ending ← state_by n.states k.state
  Some (calling n (make_transfer (name_of f) ending.signed.state.outcome k.asset k.index))
meant n (steps.Claim k) = do
  payer ← fixed_by n.channels k.guarantor
  promised ← state_by n.states k.state
  f ← fixed_by n.channels k.target
  ended ← state_by n.states k.target_state
  Some (
      calling n
      (make_claim (name_of payer) promised.signed.state.outcome (name_of f) ended.signed.state.outcome
      k.asset k.position))
meant n (steps.Open k) = do
  f ← fixed_by n.channels k.channel
  Some (telling n k.who (commands.Open f k.outcome))
meant n (steps.OpenOn k) = do
  on ← fixed_by n.channels k.ledger
  f ← fixed_by n.channels k.channel
  Some (telling n k.who (commands.OpenOn (ledger_funding k on f)))
meant n (steps.OpenVirtual k) = do
  on ← names_by n.channels k.ledgers
  by ← both_by n.channels k.guarantors
  j ← fixed_by n.channels k.joint
  f ← fixed_by n.channels k.channel
  Some (telling n k.who (commands.OpenVirtual (virtual_funding k on by j f)))
meant n (steps.Pay k) = do
  f ← fixed_by n.channels k.channel
  Some (telling n (k.who ∷ []) (commands.Pay (name_of f) k.asset k.amount))
meant n (steps.Close who channel) = do
  f ← fixed_by n.channels channel
  Some (telling n who (commands.Close (name_of f)))
meant n (steps.Release how who channel) = do
  f ← fixed_by n.channels channel
  Some (telling n who (commands.Release how (name_of f)))
meant n (steps.Resend who channel) = do
  f ← fixed_by n.channels channel
  Some (telling n who (commands.Resend (name_of f)))
meant n (steps.Exit who) = Some (telling n who commands.Exit)
meant n (steps.Rounds count) = Some (doing n (Rounds count))

-- a step that means nothing changes nothing
abbrev pub meaning : Names → Step → Meaning
meaning n step = unwrap_or (meant n step) (learning n)

-- no name stands for anything
abbrev pub nameless : Names
nameless = record { people = []; channels = []; states = []; labels = [] }
