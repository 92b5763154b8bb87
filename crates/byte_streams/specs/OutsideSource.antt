-- What a source is to a reader: the bytes that are left, where it shows them, and a count of faults.
use Rattle.std.specs.Prelude.{◌≡◌, ◌≤◌, ◌<◌, ◌+◌, ◌-◌, ◌^◌, ℕ, min, List, length, take, Option}
use Rattle.std.specs.Io.KnownBytes.{Keeps, Consumes, IsAtEnd}
use Rattle.byte_streams.specs.declared.source.Took.{Took}
use Rattle.byte_streams.specs.declared.source.Took.TheVariants.{Got, End, Failed}

-- a count of faults rose, or stands at its end
abbrev pub Rose : ℕ → ℕ → Type 0
Rose before now = min (before + 1) (2 ^ 64 - 1) ≤ now

-- what a take answers, by the bytes that are left before and after it
abbrev pub TakeGives : Option (List ℕ) → Option (List ℕ) → List ℕ → Took → Type 0
TakeGives before after buffer (Got n) = (n ≤ length buffer) × Consumes before after (take n buffer) × (n ≡ 0 → 0 < length buffer → IsAtEnd after)
TakeGives before after buffer End = Keeps before after × IsAtEnd after
TakeGives before after buffer Failed = Keeps before after
