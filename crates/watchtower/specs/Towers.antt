-- A tower as a value: its clients with the chains that they handed it, and what it has followed. What its calls answer,
-- and what they make of it.
use Rattle.std.specs.Prelude.{ℕ, Bool, true, false, ◌&&◌, nat_le, List, [], ◌∷◌, ◌++◌, length, fold, find, position, slice_set, Option, Some, None, Result, Ok, Err, if◌then◌else◌}
use Rattle.std.specs.List.{flat_map, list_any}
use Rattle.std.specs.Option.{option_map}
use Rattle.std.specs.Result.{result_err}
use Rattle.std.specs.Str.{bytes_eq}
use Rattle.channel_values.specs.Spelling.{fixed}
use Rattle.channel_values.specs.declared.chain.Chain.{Chain}
use Rattle.channel_values.specs.Digests.{name_of_channel}
use Rattle.channel_values.specs.Words.{fault_if, ◌⊳◌}
use Rattle.channel_values.specs.Rules.{Rules, top_turn}
use Rattle.channel_values.specs.Support.{supports}
use Rattle.call_history.specs.History.{time_set, or_before}
use Rattle.call_history.specs.declared.call.Call.{Call}
use Rattle.call_history.specs.declared.entry.Entry.{Entry}
use Rattle.call_history.specs.declared.held_chain.HeldChain.{HeldChain}
use Rattle.network.specs.Watching.{Watching, unseeing, saw, is_stale, checkpoints}
use Rattle.watchtower.specs.declared.client.Client.{Client}
use Rattle.watchtower.specs.declared.fault.HandFault.{HandFault}
use Rattle.watchtower.specs.declared.fault.HandFault.TheVariants as faults

-- `watching` is what a watcher that followed the same entries knows
pub record Towering : Type 0 where
  pub clients : List Client
  pub watching : Watching
  pub is_lost : Bool

abbrev pub unmanned : Towering
unmanned = record { clients = []; watching = unseeing; is_lost = false }

-- ---- clients

-- the chains of a client, if it was admitted
abbrev pub chains_of : List ℕ → List Client → Option (List HeldChain)
chains_of name [] = None
chains_of name (c ∷ cs) = if bytes_eq name c.name then Some c.chains else chains_of name cs

abbrev pub is_admitted : List ℕ → List Client → Bool
is_admitted name clients = list_any (λ c. bytes_eq name c.name) clients

-- with the chains of one client changed
abbrev pub with_chains : List ℕ → (List HeldChain → List HeldChain) → List Client → List Client
with_chains name change [] = []
with_chains name change (c ∷ cs) =
    if bytes_eq name c.name then record c { chains = change c.chains } ∷ cs else c ∷ with_chains name change cs

abbrev pub newcomer : List ℕ → Client
newcomer name = record { name = name; chains = [] }

-- a new client comes last
abbrev pub admitted : List ℕ → List Client → List Client
admitted name clients = if is_admitted name clients then clients else clients ++ newcomer name ∷ []

-- ---- hands

abbrev pub is_of : List ℕ → HeldChain → Bool
is_of channel held = bytes_eq held.channel channel

-- a chain under its channel's name
abbrev pub named : Chain → HeldChain
named chain = record { channel = name_of_channel (fixed chain.fixed); chain = chain }

abbrev pub replaced : HeldChain → List HeldChain → Option ℕ → List HeldChain
replaced new chains None = chains ++ new ∷ []
replaced new chains (Some place) = slice_set chains place new

-- the chains with one more: it replaces that of its channel, or comes after the others
abbrev pub handed : HeldChain → List HeldChain → List HeldChain
handed new chains = replaced new chains (position (is_of new.channel) chains)

-- the newest turn that is held of the channel
abbrev pub turn_held : List ℕ → List HeldChain → Option ℕ
turn_held channel chains = option_map (λ held. top_turn held.chain.states) (find (is_of channel) chains)

-- no client has chains of more channels
abbrev pub most_chains : ℕ
most_chains = 64

-- of the newest turn that is held of the channel, if one is, the new turn, and how many channels there are chains of
abbrev pub place_fault : Option ℕ → ℕ → ℕ → Option HandFault
place_fault None turn count = fault_if (nat_le most_chains count) (faults.TooMany most_chains)
place_fault (Some held) turn count = fault_if (nat_le turn held) (faults.NotNewer held)

-- why a client's chain isn't taken: the first line that holds
abbrev pub chain_fault : Rules → HeldChain → List HeldChain → Option HandFault
chain_fault r new chains =
    option_map faults.NotSupported (result_err (supports r new.chain))
    ⊳ place_fault (turn_held new.channel chains) (top_turn new.chain.states) (length chains)

abbrev pub fault_among : Rules → HeldChain → Option (List HeldChain) → Option HandFault
fault_among r new None = Some faults.UnknownClient
fault_among r new (Some chains) = chain_fault r new chains

abbrev pub hand_fault : Rules → List ℕ → HeldChain → List Client → Option HandFault
hand_fault r name new clients = fault_among r new (chains_of name clients)

-- the fault that an answer gives; running out of memory is none of the table
abbrev pub fault_told : Result (Unit {0}) HandFault → Option HandFault
fault_told (Ok done) = None
fault_told (Err faults.NoMemory) = None
fault_told (Err fault) = Some fault

-- ---- looks

-- a client that has calls, with them
abbrev pub entitled : List ℕ → List Call → List (List ℕ × List Call)
entitled name [] = []
entitled name (call ∷ calls) = (name, call ∷ calls) ∷ []

-- what is answered: the clients that have calls, in the order of admission, each with those for its own chains
abbrev pub answers : (List HeldChain → List Call) → List Client → List (List ℕ × List Call)
answers calls clients = flat_map (λ c. entitled c.name (calls c.chains)) clients

-- the checkpoints for chains, by what was followed
abbrev pub calls_of : Watching → List HeldChain → List Call
calls_of w chains = checkpoints (is_stale w) chains

-- with more entries followed
abbrev pub watched : List Entry → Towering → Towering
watched entries t = record t { watching = fold saw t.watching entries }

-- the entries set no time before the one before it, as those of a legal history don't
abbrev pub is_rising : ℕ → List Entry → Bool
is_rising now [] = true
is_rising now (e ∷ es) =
    nat_le now (or_before (time_set e.op e.reply) now) && is_rising (or_before (time_set e.op e.reply) now) es
