-- A participant's plan, its channels and its share at a place: after these entries, and these lines of its journal.
use Rattle.std.specs.Prelude.{◌≡◌, ℕ, ◌≤◌, nat_le, Bool, true, false, ◌&&◌, List, [], ◌∷◌, ◌++◌, length, Option, Some, None, if◌then◌else◌}
use Rattle.std.specs.Option.{option_or}
use Rattle.std.specs.Result.{result_ok}
use Rattle.channel_values.specs.Parts.{FixedParts, StateParts}
use Rattle.channel_values.specs.Reading.{outcome_of}
use Rattle.channel_values.specs.declared.chain.Signed.{Signed}
use Rattle.channel_values.specs.declared.value.AssetOutcome.{AssetOutcome}
use Rattle.call_history.specs.Mode.{is_final}
use Rattle.channel_values.specs.Rules.{Rules}
use Rattle.call_history.specs.History.{mode, held_of, paid_to, rest_of_channel}
use Rattle.call_history.specs.Marked.{Marked, is_supported}
use Rattle.call_history.specs.declared.entry.Entry.{Entry}
use Rattle.channel_safety.specs.Journals.{In, Line, opened, made_in, is_followed, is_watched}
use Rattle.channel_safety.specs.Held.{held}
use Rattle.funding_plans.specs.declared.plan.Part.{Part}
use Rattle.share_laws.specs.Books.{Counting}
use Rattle.share_laws.specs.Share.{share_of}
use Rattle.share_laws.specs.Funded.{is_funded}

-- ---- the plan

-- what a command asks for: to open a part, to pay an amount of an asset, or something else
pub data Order : Type 0 where
  opening : Part → Order
  paying : (asset amount : ℕ) → Order
  other : Order

abbrev pub part_of : Order → List Part
part_of (opening part) = part ∷ []
part_of (paying asset amount) = []
part_of other = []

-- the part that a line opens, where `orders` says of each command, by the number of lines before it, what it asks for
abbrev pub opened_part : (ℕ → Order) → Line → List Line → List Part
opened_part orders x front = if is_followed x.deed then part_of (orders (length front)) else []

-- the parts, in the order in which they were opened
abbrev pub plan : (ℕ → Order) → List Line → List Part
plan orders [] = []
plan orders (x ∷ front) = plan orders front ++ opened_part orders x front

-- and the channels of the participant
abbrev pub channels : List Line → List FixedParts
channels [] = []
channels (x ∷ front) = channels front ++ opened x

-- ---- what its channels can end with

-- the last state of a channel that the participant signed
abbrev pub last_made : List ℕ → List Line → Option Signed
last_made channel [] = None
last_made channel (x ∷ front) = option_or (made_in channel x.deed) (last_made channel front)

-- the outcome that the votes of a state's data are for, if there are votes
abbrev pub proposed : List ℕ → Option (List AssetOutcome)
proposed [] = None
proposed (votes ∷ bytes) = if nat_le 1 votes && nat_le votes 3 then result_ok (outcome_of bytes) else None

abbrev pub listed : {X : Type 0} → Option X → List X
listed None = []
listed (Some x) = x ∷ []

abbrev pub outcomes_of : StateParts → List (List AssetOutcome)
outcomes_of s = s.outcome ∷ listed (proposed s.app_bytes)

-- what is left of the outcome of a final channel alone; else the outcomes of the last state signed
abbrev pub possible_if : Bool → Option (List AssetOutcome) → StateParts → List (List AssetOutcome)
possible_if true rest last = listed rest
possible_if false rest last = outcomes_of last

-- a supported chain is held
abbrev pub is_held : Rules → FixedParts → Option Marked → Bool
is_held r f None = false
is_held r f (Some w) = is_supported r f w

-- nothing where the participant signed no state
abbrev pub possible_after : Bool → Option (List AssetOutcome) → Option Signed → List (List AssetOutcome)
possible_after final rest None = []
possible_after final rest (Some last) = possible_if final rest last.state

-- the outcomes that a channel can end with, none where it doesn't count: no chain of it is held, or no state was signed
abbrev pub possible : Rules → List Entry → List Line → FixedParts → List (List AssetOutcome)
possible r past front f =
    if is_held r f (held r f past front)
    then possible_after (is_final (mode r (r.named f) past)) (rest_of_channel r (r.named f) past)
    (last_made (r.named f) front)
    else []

abbrev pub counting_of : List ℕ → List (List AssetOutcome) → List Counting
counting_of channel [] = []
counting_of channel (o ∷ []) = record { channel = channel; outcome = o; proposal = None } ∷ []
counting_of channel (o ∷ p ∷ ps) = record { channel = channel; outcome = o; proposal = Some p } ∷ []

-- the channels that count, of these
abbrev pub counting_among : Rules → List Entry → List Line → List FixedParts → List Counting
counting_among r past front [] = []
counting_among r past front (f ∷ fs) =
    counting_of (r.named f) (possible r past front f) ++ counting_among r past front fs

abbrev pub counting : Rules → List Entry → List Line → List Counting
counting r past front = counting_among r past front (channels front)

-- ---- the share of the person me, and whether its plan is funded

abbrev pub balances : List Entry → (asset : ℕ) → List ℕ → ℕ
balances past asset channel = held_of past channel asset

abbrev pub share : Rules → List ℕ → (ℕ → Order) → List Entry → List Line → (asset : ℕ) → ℕ
share r me orders past front asset =
    share_of me (paid_to past me asset) (plan orders front) (balances past asset) (counting r past front) asset

-- for each asset
abbrev pub Funded : Rules → List ℕ → (ℕ → Order) → List Entry → List Line → Type 0
Funded r me orders past front =
    (asset : ℕ) → is_funded me (plan orders front) (balances past asset) (counting r past front) asset ≡ true

-- ---- places

-- The entries `past` of h and the lines `front` of the journal come first, where each line but a look comes after the
-- entries that it had seen.
pub record IsPlace (h : List Entry) (journal : List Line) (past : List Entry) (front : List Line) : Type 0 where
  pub later : List Entry
  pub newer : List Line
  pub entries : h ≡ later ++ past
  pub lines : journal ≡ newer ++ front
  pub before : (x : Line) → In x front → is_watched x.deed ≡ false → x.seen ≤ length past
  pub after : (x : Line) → In x newer → is_watched x.deed ≡ false → length past ≤ x.seen
