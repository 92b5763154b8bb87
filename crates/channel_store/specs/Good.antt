-- What a store keeps of channels.
use Rattle.std.specs.Prelude.{◌≡◌, ℕ, ◌==◌, Bool, true, not, ◌&&◌, nat_le, List, length, map, is_ok, Option}
use Rattle.std.specs.List.{All, flat_map}
use Rattle.std.specs.Option.{option_map}
use Rattle.channel_values.specs.declared.chain.Signed.{Signed}
use Rattle.channel_values.specs.Words.{fault_if, ◌⊳◌}
use Rattle.channel_values.specs.Rules.{Rules, top_turn, is_signed_well}
use Rattle.channel_values.specs.Support.{supports}
use Rattle.call_history.specs.Marked.{Marked, marked_of}
use Rattle.call_history.specs.declared.held_chain.HeldChain.{HeldChain}
use Rattle.call_history.specs.declared.held_chain.Known.{Known}
use Rattle.call_history.specs.declared.held_chain.Place.{Place}
use Rattle.channel_safety.specs.Good.{IsGood}
use Rattle.channel_store.specs.declared.fault.NoteFault.{NoteFault}
use Rattle.channel_store.specs.declared.fault.NoteFault.TheVariants as faults
use Rattle.channel_store.specs.declared.kept.Kept.{Kept}
use Rattle.channel_store.specs.Storing.{ArePlaced}
use Rattle.channel_store.specs.Keeping.{is_held, is_ended, next_of, step_of, held_chain, known_state, place_in}

-- why a state isn't noted: the first line that holds
abbrev pub note_fault : Rules → Kept → Signed → Option NoteFault
note_fault r k next =
    fault_if (is_ended k) (faults.NotNext 0)
    ⊳ fault_if (not (next.state.turn == next_of k)) (faults.NotNext (next_of k))
    ⊳ fault_if (not (is_signed_well r k.chain.fixed next)) faults.BadSignature
    ⊳ option_map faults.BadStep (step_of r k next.state)

-- a chain is held with at least the turn of the shown one
abbrev pub is_as_new : Kept → Marked → Bool
is_as_new k shown = is_held k && nat_le (top_turn shown.states) (top_turn k.chain.states)

-- what is kept of a channel is its first round so far, each state with its mover's mark, or a supported chain
abbrev pub IsGoodKept : Rules → Kept → Type 0
IsGoodKept r k = IsGood r k.chain.fixed (marked_of k.chain)

abbrev pub AreGood : Rules → List Kept → Type 0
AreGood r kept = All (IsGoodKept r) kept

-- the lists of what is kept, in its order
pub record IsLent (kept : List Kept) (chains : List HeldChain) (known : List Known) (places : List Place) : Type 0 where
  pub chains_are : chains ≡ flat_map held_chain kept
  pub known_are : known ≡ flat_map known_state kept
  pub places_are : places ≡ map place_in kept

-- what is lent of one channel
pub record IsLentOne (k : Kept) (chain : List HeldChain) (known : List Known) (place : Place) : Type 0 where
  pub chain_is : chain ≡ held_chain k
  pub known_is : known ≡ known_state k
  pub place_is : place ≡ place_in k

-- a chain is held of both or of neither, and a last state known of both or of neither
abbrev pub are_alike : Kept → Kept → Bool
are_alike old new =
    (length (held_chain old) == length (held_chain new)) && (length (known_state old) == length (known_state new))

-- each of these chains is supported
abbrev pub AreSupported : Rules → List HeldChain → Type 0
AreSupported r chains = All (λ held. is_ok (supports r held.chain) ≡ true) chains

-- what a store is: its table and its lists are those of what it keeps, and that is good
pub record IsStore (r : Rules) (kept : List Kept) (by_name : List (List ℕ × ℕ)) (chains : List HeldChain)
    (known : List Known) (places : List Place) : Type 0 where
  pub placed : ArePlaced by_name kept
  pub lent : IsLent kept chains known places
  pub good : AreGood r kept
