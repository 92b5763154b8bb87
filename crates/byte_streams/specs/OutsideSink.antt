-- What a sink is to a run: the bytes that it holds, where it shows them.
use Rattle.std.specs.Prelude.{◌≡◌, ◌≤◌, ◌<◌, ℕ, List, ◌++◌, length, take, Option}
use Rattle.std.specs.Io.KnownBytes.{Keeps, Appends}
use Rattle.byte_streams.specs.declared.sink.Gave.{Gave}
use Rattle.byte_streams.specs.declared.sink.Gave.TheVariants.{Took, Failed}

-- what a put answers, by the bytes that are held before and after it
abbrev pub PutGives : Option (List ℕ) → Option (List ℕ) → List ℕ → Gave → Type 0
PutGives before after piece (Took n) = (n ≤ length piece) × (0 < length piece → 0 < n) × Appends before after (take n piece)
PutGives before after piece Failed = Keeps before after

-- some of the text was appended, from its front
abbrev pub AppendsPart : Option (List ℕ) → Option (List ℕ) → List ℕ → Type 0
AppendsPart before after text = (part rest : List ℕ) × (part ++ rest ≡ text) × Appends before after part
