-- What a store keeps of its channels, what it notes and adopts, and the lists that it lends out.
use Rattle.std.specs.Prelude.{ℕ, Bool, ◌&&◌, nat_le, List, [], ◌∷◌, length, Option, Some, None, if◌then◌else◌}
use Rattle.std.specs.List.{list_all}
use Rattle.channel_values.specs.Parts.{StateParts}
use Rattle.channel_values.specs.declared.chain.Signed.{Signed}
use Rattle.channel_values.specs.declared.fault.StepFault.{StepFault}
use Rattle.channel_values.specs.Rules.{Rules, people, newest}
use Rattle.call_history.specs.Marked.{Marked, marked_of, chain_of, next_after, extended, adopted}
use Rattle.call_history.specs.declared.held_chain.HeldChain.{HeldChain}
use Rattle.call_history.specs.declared.held_chain.Known.{Known}
use Rattle.call_history.specs.declared.held_chain.Place.{Place}
use Rattle.support_rules.specs.Steps.{persons}
use Rattle.channel_store.specs.declared.kept.Kept.{Kept}

-- ---- one channel

-- a chain is held: each participant has a mark
abbrev pub is_held : Kept → Bool
is_held k = nat_le (people k.chain.fixed) (length k.chain.marks)

-- the states of the held chain are all final
abbrev pub is_ended : Kept → Bool
is_ended k = is_held k && list_all (λ s. s.is_final) k.chain.states

abbrev pub next_of : Kept → ℕ
next_of k = next_after (newest k.chain.states)

-- the fault of a step from the newest state, if there is one
abbrev pub step_after : Rules → Kept → StateParts → Option StateParts → Option StepFault
step_after r k s None = None
step_after r k s (Some latest) = r.step k.chain.fixed latest s

abbrev pub step_of : Rules → Kept → StateParts → Option StepFault
step_of r k s = step_after r k s (newest k.chain.states)

-- the state that the participant signed last: this one where it signed it itself, else the one before
abbrev pub last_after : Bool → Kept → StateParts → Option StateParts
last_after own k s = if own then Some s else k.last

-- with other states and marks, of the same channel
abbrev pub with_chain : Marked → Kept → Kept
with_chain w k = record k { chain = chain_of k.chain.fixed w }

-- with a state, where it passes the tests; `own` says that the participant signed it itself
abbrev pub noting : Rules → Bool → Signed → Kept → Kept
noting r own next k =
    record (with_chain (extended r k.chain.fixed (Some next) (marked_of k.chain)) k) { last = last_after own k next.state }

-- with a shown chain, where it is newer by the channel's own fixed part
abbrev pub adopting : Rules → Marked → Kept → Kept
adopting r shown k = with_chain (adopted r k.chain.fixed shown (marked_of k.chain)) k

-- ---- the lists

abbrev pub held_chain : Kept → List HeldChain
held_chain k = if is_held k then record { channel = k.channel; chain = k.chain } ∷ [] else []

-- the last state that the participant signed, where a chain is held
abbrev pub known_last : Kept → Option StateParts
known_last k = if is_held k then k.last else None

abbrev pub named : List ℕ → Option StateParts → List Known
named channel None = []
named channel (Some last) = record { channel = channel; last = last } ∷ []

abbrev pub known_state : Kept → List Known
known_state k = named k.channel (known_last k)

abbrev pub place_in : Kept → Place
place_in k = record { channel = k.channel; people = persons k.chain.fixed; me = k.me; next = next_of k }
