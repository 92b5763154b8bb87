-- The one spelling of each value: its fields in their order, numbers with their most significant byte first.
use Rattle.std.specs.Prelude.{ℕ, Bool, true, false, List, [], ◌∷◌, ◌++◌, length, min}
use Rattle.std.specs.List.{flat_map}
use Rattle.std.specs.Int.{w16, w32, w64, to_be_bytes}
use Rattle.channel_values.specs.declared.value.Dest.{Dest}
use Rattle.channel_values.specs.declared.value.Dest.TheVariants.{Person, Channel}
use Rattle.channel_values.specs.declared.value.Item.{Item}
use Rattle.channel_values.specs.declared.value.Shape.{Shape}
use Rattle.channel_values.specs.declared.value.Shape.TheVariants.{Allocation, Guarantee}
use Rattle.channel_values.specs.declared.value.AssetOutcome.{AssetOutcome}
use Rattle.channel_values.specs.declared.chain.Signed.{Signed}
use Rattle.channel_values.specs.declared.chain.Mark.{Mark}
use Rattle.channel_values.specs.declared.chain.Chain.{Chain}
use Rattle.channel_values.specs.Parts.{FixedParts, StateParts}

-- a tag, and the name
abbrev pub dest : Dest → List ℕ
dest (Person name) = 1 ∷ name
dest (Channel name) = 2 ∷ name

abbrev pub item : Item → List ℕ
item i = dest i.to ++ to_be_bytes w64 i.amount

-- A count that doesn't fit a byte is spelled as 255, which is over every limit.
abbrev pub count : ℕ → ℕ
count n = min n 255

abbrev pub shape : Shape → List ℕ
shape (Allocation items) = 1 ∷ count (length items) ∷ flat_map item items
shape (Guarantee target dests) = 2 ∷ (target ++ (count (length dests) ∷ flat_map dest dests))

abbrev pub asset_outcome : AssetOutcome → List ℕ
asset_outcome o = to_be_bytes w32 o.asset ++ shape o.shape

-- a count, and the outcome of each asset
unfoldable pub outcome : List AssetOutcome → List ℕ
outcome os = count (length os) ∷ flat_map asset_outcome os

abbrev pub flag : Bool → List ℕ
flag true = 1 ∷ []
flag false = 0 ∷ []

-- A length that doesn't fit two bytes is spelled as 65535, which is over every limit.
abbrev pub sized : List ℕ → List ℕ
sized bytes = to_be_bytes w16 (min (length bytes) 65535) ++ bytes

-- a turn, whether it is final, an outcome, and the application's data
unfoldable pub state : StateParts → List ℕ
state s = to_be_bytes w64 s.turn ++ (flag s.is_final ++ (outcome s.outcome ++ sized s.app_bytes))

-- a count, the keys, a nonce, an application and a duration
unfoldable pub fixed : FixedParts → List ℕ
fixed f =
    count (length f.keys) ∷ (flat_map (λ key. key) f.keys
    ++ (to_be_bytes w64 f.nonce ++ (f.app ∷ to_be_bytes w32 f.duration)))

-- a state, and a signature after its length
unfoldable pub signed : Signed → List ℕ
signed s = state s.state ++ sized s.signature

abbrev pub mark : Mark → List ℕ
mark m = m.place ∷ sized m.signature

-- a fixed part, the states after their count, and the marks after theirs
unfoldable pub chain : Chain → List ℕ
chain c =
    fixed c.fixed ++ (count (length c.states) ∷ (flat_map state c.states
    ++ (count (length c.marks) ∷ flat_map mark c.marks)))
