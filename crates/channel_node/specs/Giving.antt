-- What a node gives: the order of its channels, the messages of the states that it signs, and its calls.
use Rattle.std.specs.Prelude.{ℕ, ◌+◌, Bool, true, false, nat_lt, List, [], ◌∷◌, ◌++◌, map, take, drop, fold, Option, Some, None, Result, Ok, Err, if◌then◌else◌}
use Rattle.std.specs.List.{flat_map}
use Rattle.std.specs.Option.{option_or}
use Rattle.std.specs.Str.{bytes_eq}
use Rattle.channel_values.specs.Parts.{StateParts}
use Rattle.channel_values.specs.declared.chain.Signed.{Signed}
use Rattle.channel_values.specs.Messages.{message_of_state, message_of_challenge}
use Rattle.channel_values.specs.Rules.{Rules}
use Rattle.call_history.specs.Spelling.{message}
use Rattle.call_history.specs.declared.call.Call.{Call}
use Rattle.call_history.specs.Calls.{make_challenge}
use Rattle.call_history.specs.declared.event.Deed.{Deed}
use Rattle.call_history.specs.declared.event.Deed.TheVariants as deeds
use Rattle.call_history.specs.declared.event.Event.{Event}
use Rattle.call_history.specs.declared.event.NodeRefusal.{NodeRefusal}
use Rattle.support_rules.specs.Steps.{persons}
use Rattle.channel_store.specs.Storing.{kept_of}
use Rattle.channel_store.specs.declared.kept.Kept.{Kept}
use Rattle.funding_plans.specs.Parts.{joined_of}
use Rattle.funding_plans.specs.declared.plan.Part.{Part}
use Rattle.funding_plans.specs.declared.plan.Part.TheVariants.{Root}
use Rattle.network.specs.declared.command.Command.{Command}
use Rattle.network.specs.declared.command.Command.TheVariants.{Pay, Resend}
use Rattle.network.specs.declared.outs.NodeFault.{NodeFault}
use Rattle.network.specs.declared.outs.NodeFault.TheVariants.{Refused}
use Rattle.network.specs.declared.outs.Outs.{Outs}
use Rattle.channel_node.specs.Tables.{Tables}
use Rattle.channel_node.specs.Minds.{Mind}
use Rattle.channel_node.specs.Refusing.{command_refusal, signs_in}
use Rattle.channel_node.specs.Leaving.{OwnChallenge, challenge_in, calls_of}
use Rattle.channel_node.specs.Playing.{Signing}
use Rattle.channel_node.specs.Nodes.{NodeOf, signed, signed_if, ticked, challenged_if, challenged_all, gave, exited, asked}

-- ---- the order of a tick

abbrev pub is_root : Part → Bool
is_root (Root channel) = true
is_root _ = false

abbrev pub of_root : Part → List (List ℕ)
of_root part = if is_root part then joined_of part else []

abbrev pub of_other : Part → List (List ℕ)
of_other part = if is_root part then [] else joined_of part

-- the roots as they were opened, then each further part's guarantors, joint channel and payment channel
abbrev pub in_order : List Part → List (List ℕ)
in_order parts = flat_map of_root parts ++ flat_map of_other parts

-- ---- messages

-- the channel's other people, in their order
abbrev pub others : Kept → List (List ℕ)
others k = take k.me (persons k.chain.fixed) ++ drop (k.me + 1) (persons k.chain.fixed)

-- a signed state for each of them
abbrev pub sends_to : List ℕ → StateParts → List ℕ → Option Kept → List (List ℕ × List ℕ)
sends_to channel state signature None = []
sends_to channel state signature (Some k) = map (λ person. (person, message (channel, record { state = state; signature = signature }))) (others k)

abbrev pub sends_of : Mind → List ℕ → StateParts → List ℕ → List (List ℕ × List ℕ)
sends_of m channel state signature = sends_to channel state signature (kept_of channel m.kept)

-- those of a state that it signs, if it is given one and the key isn't spent
abbrev pub sent_if : Rules → Signing → List ℕ → Option StateParts → NodeOf → List (List ℕ × List ℕ)
sent_if r s channel None n = []
sent_if r s channel (Some state) n =
    if nat_lt n.used s.limit then sends_of (signed r s channel state n).mind channel state (s.made n.used (message_of_state (r.digest channel state))) else []

-- how often the key has signed, where it is to sign once more and can't
abbrev pub spent_if : {A : Type 0} → Signing → Option A → NodeOf → Option ℕ
spent_if s None n = None
spent_if s (Some wanted) n = if nat_lt n.used s.limit then None else Some n.used

-- ---- challenges

-- the call of a challenge, if it is given one and the key isn't spent
abbrev pub challenge_call : Rules → Signing → List ℕ → Option OwnChallenge → NodeOf → List Call
challenge_call r s channel None n = []
challenge_call r s channel (Some c) n =
    if nat_lt n.used s.limit then make_challenge c.chain c.who (s.made n.used (message_of_challenge (r.digest channel c.state) c.who)) ∷ [] else []

abbrev pub challenge_calls : Rules → Signing → List (List ℕ) → NodeOf → List Call
challenge_calls r s [] n = []
challenge_calls r s (channel ∷ channels) n =
    challenge_call r s channel (challenge_in n.mind channel) n ++ challenge_calls r s channels (challenged_if r s channel (challenge_in n.mind channel) n)

abbrev pub spent_challenging : Rules → Signing → List (List ℕ) → NodeOf → Option ℕ
spent_challenging r s [] n = None
spent_challenging r s (channel ∷ channels) n =
    option_or (spent_if s (challenge_in n.mind channel) n) (spent_challenging r s channels (challenged_if r s channel (challenge_in n.mind channel) n))

-- ---- a tick

abbrev pub sent : Tables → Rules → Signing → List (List ℕ) → NodeOf → List (List ℕ × List ℕ)
sent t r s [] n = []
sent t r s (channel ∷ channels) n =
    sent_if r s channel (signs_in t r None n.mind channel) n ++ sent t r s channels (signed_if r s channel (signs_in t r None n.mind channel) n)

abbrev pub spent : Tables → Rules → Signing → List (List ℕ) → NodeOf → Option ℕ
spent t r s [] n = None
spent t r s (channel ∷ channels) n =
    option_or (spent_if s (signs_in t r None n.mind channel) n) (spent t r s channels (signed_if r s channel (signs_in t r None n.mind channel) n))

-- after the states that it signs, in each channel, in order, at most one
abbrev pub after_signing : Tables → Rules → Signing → NodeOf → NodeOf
after_signing t r s n = ticked t r s (in_order n.mind.parts) n

-- and after its challenges: it signs states until it left, and challenges from then on
abbrev pub after_challenging : Tables → Rules → Signing → NodeOf → NodeOf
after_challenging t r s n = challenged_all r s (in_order n.mind.parts) (after_signing t r s n)

-- its challenges, and then the other calls
abbrev pub tick_calls : Tables → Rules → Signing → NodeOf → List Call
tick_calls t r s n =
    challenge_calls r s (in_order n.mind.parts) (after_signing t r s n) ++ calls_of t (after_challenging t r s n).has_exited (after_challenging t r s n).mind

abbrev pub after_tick : Tables → Rules → Signing → NodeOf → NodeOf
after_tick t r s n = exited (gave (tick_calls t r s n) (after_challenging t r s n))

abbrev pub tick_gives : Tables → Rules → Signing → NodeOf → Outs
tick_gives t r s n =
    record {
      sends = sent t r s (in_order n.mind.parts) n;
      calls = tick_calls t r s n;
      spent = option_or (spent t r s (in_order n.mind.parts) n) (spent_challenging r s (in_order n.mind.parts) (after_signing t r s n));
    }

-- ---- a command

-- what an event signed in a channel
abbrev pub signed_here : List ℕ → Deed → Option Signed
signed_here channel (deeds.Signed own state signature) = if bytes_eq own channel then Some (record { state = state; signature = signature }) else None
signed_here channel deed = None

-- the last state that a journal, in the order of time, signed in a channel
abbrev pub last_signed : List ℕ → List Event → Option Signed
last_signed channel events = fold (λ before e. option_or (signed_here channel e.deed) before) None events

-- its messages
abbrev pub sends_again : Mind → List ℕ → Option Signed → List (List ℕ × List ℕ)
sends_again m channel None = []
sends_again m channel (Some s) = sends_of m channel s.state s.signature

abbrev pub resent : List ℕ → NodeOf → List (List ℕ × List ℕ)
resent channel n = sends_again n.mind channel (last_signed channel n.journal)

-- an accepted payment sends its state, and Resend the newest state that was signed; no command calls anything
abbrev pub command_sends : Tables → Rules → Signing → Command → NodeOf → List (List ℕ × List ℕ)
command_sends t r s (Pay channel asset amount) n = sent_if r s channel (signs_in t r (Some (Pay channel asset amount)) n.mind channel) n
command_sends t r s (Resend channel) n = resent channel n
command_sends t r s command n = []

abbrev pub command_gives : Tables → Rules → Signing → ℕ → Command → NodeOf → Option NodeRefusal → Result Outs NodeFault
command_gives t r s step command n (Some refusal) = Err (Refused refusal)
command_gives t r s step command n None = Ok (record { sends = command_sends t r s command (asked r s step command None n); calls = []; spent = None })

abbrev pub command_answers : Tables → Rules → Signing → ℕ → Command → NodeOf → Result Outs NodeFault
command_answers t r s step command n = command_gives t r s step command n (command_refusal t r s.limit n.used n.mind command)
