-- What a state and a fixed part keep: their parts, and the bytes that spell them.
use Rattle.std.specs.Prelude.{◌≡◌}
use Rattle.channel_values.specs.declared.state.State.TheInside as states
use Rattle.channel_values.specs.declared.fixed.Fixed.TheInside as fixeds
use Rattle.channel_values.specs.Parts.{FixedParts, StateParts, IsFixed, IsState, fixed_with, state_with}
use Rattle.channel_values.specs.Spelling.{fixed, state}

abbrev pub state_parts : states.Inside → StateParts
state_parts s = state_with s.parts.turn s.parts.is_final s.parts.outcome s.parts.app_bytes.items

-- the parts are those of a state, and the bytes are its spelling
abbrev pub KeepsState : states.Inside → Type 0
KeepsState s = IsState (state_parts s) × (s.bytes.items ≡ state (state_parts s))

abbrev pub fixed_parts : fixeds.Inside → FixedParts
fixed_parts f = fixed_with f.parts.keys.items f.parts.nonce f.parts.app f.parts.duration

-- the parts are those of a fixed part, and the bytes are its spelling
abbrev pub KeepsFixed : fixeds.Inside → Type 0
KeepsFixed f = IsFixed (fixed_parts f) × (f.bytes.items ≡ fixed (fixed_parts f))
