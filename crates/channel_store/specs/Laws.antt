-- What a store keeps of each channel is what is held of it, at the beginning and after each of its calls.
use Rattle.std.specs.Prelude.{◌≡◌, ℕ, ◌≤◌, Bool, false, List, [], ◌∷◌, ◌++◌, map, Option, Some, None, Ok, if◌then◌else◌}
use Rattle.std.specs.List.{flat_map}
use Rattle.std.specs.Option.{option_map}
use Rattle.std.specs.Str.{bytes_eq}
use Rattle.channel_values.specs.Parts.{FixedParts}
use Rattle.channel_values.specs.declared.chain.Signed.{Signed}
use Rattle.channel_values.specs.Rules.{Rules, people}
use Rattle.call_history.specs.Marked.{Marked, marked_of}
use Rattle.call_history.specs.Naming.{NamesChannels}
use Rattle.call_history.specs.Reading.{message_of}
use Rattle.call_history.specs.declared.event.Deed.TheVariants as deeds
use Rattle.channel_safety.specs.Journals.{Line, opened, some_if, noted_in}
use Rattle.channel_safety.specs.Held.{note, show}
use Rattle.channel_store.specs.Keeping.{noting, adopting, held_chain}
use Rattle.channel_store.specs.Good.{AreGood, AreSupported}
use Rattle.channel_store.specs.Storing.{kept_of, kept_with, added}
use Rattle.channel_store.specs.declared.kept.Kept.{Kept}

-- ---- what is kept is what is held

-- something is kept of a channel where something is held, and of the same fixed part the same states and marks
abbrev pub KeepsHeld : FixedParts → Option Kept → Option Marked → Type 0
KeepsHeld f None None = Unit {0}
KeepsHeld f (Some k) (Some w) = k.chain.fixed ≡ f → marked_of k.chain ≡ w
KeepsHeld f _ _ = ⊥

-- with the channels that a command opens, each with the participant's position in it
abbrev pub with_added : List (FixedParts × ℕ) → List Kept → List Kept
with_added adds kept = kept ++ map (λ a. added a.0 a.1) adds

abbrev pub OpeningIsHeld : Type 0
OpeningIsHeld =
    (r : Rules) (f : FixedParts) (seen step : ℕ) (adds : List (FixedParts × ℕ)) (kept : List Kept)
    (st : Option Marked) → NamesChannels r → KeepsHeld f (kept_of (r.named f) kept) st
    → KeepsHeld f (kept_of (r.named f) (with_added adds kept))
    (note r f (record { seen = seen; deed = deeds.Commanded step None; adds = map (λ a. a.0) adds }) st)

-- the line opens nothing, and notes this state of this channel and none of another
pub record NotesState (x : Line) (channel : List ℕ) (next : Signed) : Type 0 where
  pub opens : opened x ≡ []
  pub notes : (c : List ℕ) → noted_in c x.deed ≡ some_if (bytes_eq channel c) next

abbrev pub NotingIsHeld : Type 0
NotingIsHeld =
    (r : Rules) (f : FixedParts) (own : Bool) (x : Line) (channel : List ℕ) (next : Signed) (kept : List Kept)
    (st : Option Marked) → NotesState x channel next → KeepsHeld f (kept_of (r.named f) kept) st
    → KeepsHeld f (kept_of (r.named f) (kept_with (noting r own next) channel kept)) (note r f x st)

-- so do the line of a state that the participant signs, and that of a message
pub record LinesNote (seen : ℕ) (adds : List FixedParts) (channel : List ℕ) (next : Signed) : Type 0 where
  pub signed :
      NotesState (record { seen = seen; deed = deeds.Signed channel next.state next.signature; adds = adds }) channel next
  pub handled :
      (bytes : List ℕ) → message_of bytes ≡ Ok (channel, next)
      → NotesState (record { seen = seen; deed = deeds.Handled bytes None; adds = adds }) channel next

abbrev pub LinesNoteStates : Type 0
LinesNoteStates =
    (seen : ℕ) (adds : List FixedParts) (channel : List ℕ) (next : Signed) → LinesNote seen adds channel next

abbrev pub AdoptingIsHeld : Type 0
AdoptingIsHeld =
    (r : Rules) (f : FixedParts) (channel : List ℕ) (shown : Marked) (kept : List Kept) (st : Option Marked)
    → KeepsHeld f (kept_of (r.named f) kept) st
    → KeepsHeld f (kept_of (r.named f) (kept_with (adopting r shown) channel kept))
    (if bytes_eq channel (r.named f) then show r f shown st else st)

-- ---- one channel alone

-- the change is made of what is kept of the channel, and of no other
pub record IsAlone (change : Kept → Kept) (channel : List ℕ) (kept : List Kept) : Type 0 where
  pub here : kept_of channel (kept_with change channel kept) ≡ option_map change (kept_of channel kept)
  pub others :
      (other : List ℕ) → bytes_eq channel other ≡ false → kept_of other (kept_with change channel kept) ≡ kept_of other kept

abbrev pub NotingIsAlone : Type 0
NotingIsAlone =
    (r : Rules) (own : Bool) (channel : List ℕ) (next : Signed) (kept : List Kept) → IsAlone (noting r own next) channel kept

abbrev pub AdoptingIsAlone : Type 0
AdoptingIsAlone =
    (r : Rules) (channel : List ℕ) (shown : Marked) (kept : List Kept) → IsAlone (adopting r shown) channel kept

-- ---- any rules

-- what is kept is good at the beginning, and after a channel is added, a state noted or a chain adopted
pub record StaysGood (r : Rules) : Type 0 where
  pub begins : AreGood r []
  pub adds :
      (f : FixedParts) (me : ℕ) (kept : List Kept) → 1 ≤ people f → AreGood r kept → AreGood r (kept ++ added f me ∷ [])
  pub notes :
      (own : Bool) (channel : List ℕ) (next : Signed) (kept : List Kept) → AreGood r kept
      → AreGood r (kept_with (noting r own next) channel kept)
  pub adopts :
      (channel : List ℕ) (shown : Marked) (kept : List Kept) → AreGood r kept
      → AreGood r (kept_with (adopting r shown) channel kept)
  -- and then each held chain is supported
  pub held : (kept : List Kept) → AreGood r kept → AreSupported r (flat_map held_chain kept)

abbrev pub KeptAreGood : Type 0
KeptAreGood = (r : Rules) → StaysGood r
