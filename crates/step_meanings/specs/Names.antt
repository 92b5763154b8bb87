-- What the names of a script stand for, its people apart: channels and signed states.
use Rattle.std.specs.Prelude.{ℕ, List, [], ◌∷◌, Option, Some, None, unwrap_or}
use Rattle.std.specs.List.{find, position}
use Rattle.std.specs.Option.{option_map}
use Rattle.std.specs.Result.{result_ok}
use Rattle.std.specs.Str.{bytes_eq}
use Rattle.hex.specs.Hex.{decode_sized}
use Rattle.channel_values.specs.Parts.{FixedParts, StateParts}
use Rattle.channel_values.specs.Spelling.{fixed, state}
use Rattle.channel_values.specs.Digests.{name_of_channel, digest_of_state}
use Rattle.channel_values.specs.Messages.{message_of_state, message_of_challenge}
use Rattle.step_meanings.specs.declared.chains.NamedState.{NamedState}
use Rattle.step_meanings.specs.People.{SignedBy, sign}
use Rattle.step_meanings.specs.declared.people.Person.{Person}
use Rattle.step_meanings.specs.declared.names.NamedChannel.{NamedChannel}

-- ---- channels

-- the fixed part of the channel of this name
abbrev pub fixed_by : List NamedChannel → List ℕ → Option FixedParts
fixed_by channels name = option_map (λ c. c.fixed) (find (λ c. bytes_eq c.name name) channels)

abbrev pub name_of : FixedParts → List ℕ
name_of f = name_of_channel (fixed f)

-- the digest of a declared channel, or else the one that 64 digits spell
abbrev pub digest_or_digits : Option FixedParts → List ℕ → Option (List ℕ)
digest_or_digits (Some f) text = Some (name_of f)
digest_or_digits None text = result_ok (decode_sized text 32)

-- the position of a key in a channel, or 255
abbrev pub position_of : List (List ℕ) → List ℕ → ℕ
position_of keys key = unwrap_or (position (λ k. bytes_eq k key) keys) 255

-- ---- signed states

-- the person of this name signs a state of a channel
abbrev pub sign_state : List Person → List ℕ → FixedParts → StateParts → Option SignedBy
sign_state people by f s = sign people by (message_of_state (digest_of_state (name_of f) (state s)))

-- the person of this name signs a challenge on the last of these states; without one the signature is empty and takes
-- no index
abbrev pub sign_challenge : List Person → List ℕ → FixedParts → List NamedState → ℕ → Option SignedBy
sign_challenge people by f [] challenger = Some (record { signature = []; people = people })
sign_challenge people by f (last ∷ earlier) challenger = sign people by (message_of_challenge (digest_of_state (name_of f) (state last.signed.state)) challenger)
