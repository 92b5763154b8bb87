-- Journals, the newest line first: the states that a participant signed and noted, and the channels that it opened.
use Rattle.std.specs.Prelude.{◌≡◌, ℕ, Bool, true, false, List, [], ◌∷◌, length, Option, Some, None, Result, Ok, Err, ◌⊎◌, if◌then◌else◌}
use Rattle.std.specs.List.{list_any}
use Rattle.std.specs.Str.{bytes_eq}
use Rattle.channel_values.specs.Parts.{FixedParts}
use Rattle.channel_values.specs.declared.chain.Signed.{Signed}
use Rattle.channel_values.specs.declared.fault.ByteFault.{ByteFault}
use Rattle.channel_values.specs.Rules.{Rules}
use Rattle.call_history.specs.Spelling.{Message}
use Rattle.call_history.specs.Reading.{message_of}
use Rattle.call_history.specs.declared.event.Deed.{Deed}
use Rattle.call_history.specs.declared.event.Deed.TheVariants as deeds
use Rattle.call_history.specs.declared.event.Event.{Event}

-- it is one of these
abbrev pub In : {A : Type 0} → A → List A → Type 0
In x [] = ⊥
In x (y ∷ ys) = (x ≡ y) ⊎ In x ys

-- An event, and the fixed parts of those channels that its command adds to the plan and in which the participant is
-- one.
pub record Line : Type 0 where
  pub seen : ℕ
  pub deed : Deed
  pub adds : List FixedParts

-- the lines of a journal, where `adds` says of each event, by the number of events before it, what its command adds
abbrev pub lines : (ℕ → List FixedParts) → List Event → List Line
lines adds [] = []
lines adds (x ∷ front) = record { seen = x.seen; deed = x.deed; adds = adds (length front) } ∷ lines adds front

abbrev pub is_watched : Deed → Bool
is_watched (deeds.Watched place calls) = true
is_watched _ = false

-- the participant signed a challenge
abbrev pub is_challenge : Deed → Bool
is_challenge (deeds.SignedChallenge channel state who signature) = true
is_challenge _ = false

-- a command that wasn't refused
abbrev pub is_followed : Deed → Bool
is_followed (deeds.Commanded step None) = true
is_followed _ = false

-- the fixed parts that a line writes into the plan
abbrev pub opened : Line → List FixedParts
opened x = if is_followed x.deed then x.adds else []

-- the line writes the channel into the plan
abbrev pub opens : Rules → List ℕ → Line → Bool
opens r channel x = list_any (λ f. bytes_eq (r.named f) channel) (opened x)

abbrev pub some_if : Bool → Signed → Option Signed
some_if true s = Some s
some_if false s = None

-- the state of the channel that the participant signed
abbrev pub made_in : List ℕ → Deed → Option Signed
made_in channel (deeds.Signed name state signature) =
    some_if (bytes_eq name channel) (record { state = state; signature = signature })
made_in channel _ = None

abbrev pub told_in : List ℕ → Result Message ByteFault → Option Signed
told_in channel (Ok message) = some_if (bytes_eq message.0 channel) message.1
told_in channel (Err fault) = None

-- the state of the channel that the participant signed, or took from a message
abbrev pub noted_in : List ℕ → Deed → Option Signed
noted_in channel (deeds.Signed name state signature) =
    some_if (bytes_eq name channel) (record { state = state; signature = signature })
noted_in channel (deeds.Handled bytes None) = told_in channel (message_of bytes)
noted_in channel _ = None
