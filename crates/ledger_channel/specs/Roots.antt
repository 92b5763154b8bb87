-- The stages of a channel that holds its own funds.
use Rattle.std.specs.Prelude.{ℕ, ◌+◌, ◌-◌, ◌*◌, ◌==◌, Bool, true, false, not, ◌&&◌, ◌||◌, nat_le, nat_lt, List, [], ◌∷◌, length, Option, Some, None, if◌then◌else◌, filter_map}
use Rattle.std.specs.List.{list_all, list_any}
use Rattle.channel_values.specs.declared.value.Dest.{Dest}
use Rattle.channel_values.specs.declared.value.Dest.TheVariants.{Person}
use Rattle.channel_values.specs.declared.value.Item.{Item}
use Rattle.channel_values.specs.declared.value.AssetOutcome.{AssetOutcome}
use Rattle.channel_values.specs.declared.chain.Chain.{Chain}
use Rattle.channel_values.specs.Outcomes.{is_same, total}
use Rattle.channel_values.specs.Parts.{StateParts}
use Rattle.channel_values.specs.Amounts.{amt, aff}
use Rattle.channel_values.specs.Places.{place_of}
use Rattle.call_history.specs.declared.standing.Standing.{Standing}
use Rattle.call_history.specs.declared.standing.Standing.TheVariants.{Open, Challenged, Final}
use Rattle.call_history.specs.Mode.{is_final}
use Rattle.call_history.specs.declared.call.Call.{Call}
use Rattle.call_history.specs.Calls.{make_deposit, make_transfer}
use Rattle.call_history.specs.declared.call.Call.TheVariants.{Conclude}
use Rattle.funding_plans.specs.Shapes.{items_in}
use Rattle.funding_plans.specs.Seats.{Seat, holds, is_set_up, repeats, final_state, is_spelled, takes_payment, takes_vote}
use Rattle.funding_plans.specs.Rows.{Row, ◌⊢◌, signing, calling, waiting}

-- The channel and its participant's name. Whether Close was commanded, the participant let go of it, and it is a
-- payment channel. How it stands in the view, what it holds by asset, what it settled on, what is left of that, and
-- the held chain.
pub record Direct : Type 0 where
  pub channel : Seat
  pub who : List ℕ
  pub closing : Bool
  pub over : Bool
  pub pays : Bool
  pub standing : Standing
  pub held : List (ℕ × ℕ)
  pub settled : Option (List AssetOutcome)
  pub rest : Option (List AssetOutcome)
  pub chain : Option Chain

-- what is held of an asset
abbrev pub held_of : ℕ → List (ℕ × ℕ) → ℕ
held_of asset [] = 0
held_of asset (h ∷ hs) = if h.0 == asset then h.1 else held_of asset hs

abbrev pub is_open : Standing → Bool
is_open Open = true
is_open _ = false

-- ---- deposits

-- the sum of the items ahead of a destination's
abbrev pub ahead_of : List Item → Dest → ℕ
ahead_of [] to = 0
ahead_of (i ∷ is) to = if is_same i.to to then 0 else i.amount + ahead_of is to

abbrev pub deposit_of : List ℕ → (asset before own held : ℕ) → Option Call
deposit_of name asset before own held =
    if nat_le before held && nat_lt held (before + own) then Some (make_deposit name asset held (before + own - held)) else None

-- a deposit of an asset, where the participant's item has its turn
abbrev pub deposit : Direct → ℕ → List Item → Option Call
deposit d asset items = deposit_of d.channel.name asset (ahead_of items (Person d.who)) (amt items (Person d.who)) (held_of asset d.held)

abbrev pub deposit_in : Direct → AssetOutcome → Option Call
deposit_in d o = deposit d o.asset (items_in o.asset d.channel.opening)

abbrev pub deposits : Direct → List Call
deposits d = if is_open d.standing then filter_map (deposit_in d) d.channel.opening else []

-- the view holds the total of each asset
abbrev pub is_paid_in : Direct → AssetOutcome → Bool
is_paid_in d o = nat_le (total (items_in o.asset d.channel.opening)) (held_of o.asset d.held)

abbrev pub is_funded : Direct → Bool
is_funded d = list_all (is_paid_in d) d.channel.opening

-- ---- the end

-- something of an asset's items is due to the participant
abbrev pub is_due : Direct → ℕ → List Item → Bool
is_due d asset items = not (aff items (held_of asset d.held) (Person d.who) == 0)

abbrev pub is_due_in : Direct → List AssetOutcome → AssetOutcome → Bool
is_due_in d rest o = is_due d o.asset (items_in o.asset rest)

abbrev pub is_due_of : Direct → Option (List AssetOutcome) → Bool
is_due_of d None = false
is_due_of d (Some rest) = list_any (is_due_in d rest) rest

abbrev pub is_any_due : Direct → Bool
is_any_due d = is_due_of d d.rest

-- a transfer of the participant's own item of an asset, where something is due
abbrev pub transfer : Direct → List AssetOutcome → ℕ → List Item → Option Call
transfer d settled asset items =
    if is_due d asset items then Some (make_transfer d.channel.name settled asset (place_of items (Person d.who))) else None

abbrev pub transfer_in : Direct → List AssetOutcome → List AssetOutcome → AssetOutcome → Option Call
transfer_in d settled rest o = transfer d settled o.asset (items_in o.asset rest)

abbrev pub transfers_of : Direct → Option (List AssetOutcome) → Option (List AssetOutcome) → List Call
transfers_of d (Some settled) (Some rest) = filter_map (transfer_in d settled rest) rest
transfers_of d _ _ = []

-- what is left, asset by asset
abbrev pub left_of : Option (List AssetOutcome) → List AssetOutcome
left_of None = []
left_of (Some rest) = rest

abbrev pub transfers : Direct → List Call
transfers d = transfers_of d d.settled d.rest

abbrev pub conclude : Option Chain → List Call
conclude None = []
conclude (Some chain) = Conclude chain ∷ []

-- while open a conclude, and once final the transfers
abbrev pub concluding : Direct → Standing → List Call
concluding d Open = conclude d.chain
concluding d Challenged = []
concluding d Final = transfers d

-- ---- the table

abbrev pub people : Direct → ℕ
people d = length d.channel.people

abbrev pub root_rows : Direct → List Row
root_rows d =
    -- 0 setup
    signing (d.closing || is_set_up d.channel) ((d.channel ⊢ repeats 0 (people d) d.channel) ∷ [])
    -- 1 funding
    ∷ calling (d.closing || is_funded d || holds (people d) d.channel) (deposits d)
    -- 2 post
    ∷ signing (d.closing || holds (2 * people d - 1) d.channel) ((d.channel ⊢ repeats (people d) (2 * people d) d.channel) ∷ [])
    -- 3 running
    ∷ waiting d.closing
    -- 4 closing
    ∷ signing (d.over || d.channel.all_final) ((d.channel ⊢ final_state d.channel) ∷ [])
    -- 5 concluding
    ∷ calling (d.over || (is_final d.standing && not (is_any_due d))) (concluding d d.standing)
    -- 6 closed
    ∷ calling false (if d.over && is_final d.standing then transfers d else []) ∷ []

-- what is taken from others: there is no target, and nothing once it is let go of
abbrev pub root_takes : Direct → StateParts → Bool
root_takes d s = if d.over then false else (if d.pays then takes_payment d.channel s else takes_vote (is_spelled None) d.channel s)

-- ---- letting go of it

-- it is final
abbrev pub root_settles : Direct → Bool
root_settles d = is_final d.standing && not d.over

-- the participant's item of an asset has or had its turn
abbrev pub has_turn : Direct → AssetOutcome → Bool
has_turn d o =
    not (amt (items_in o.asset d.channel.opening) (Person d.who) == 0)
    && nat_le (ahead_of (items_in o.asset d.channel.opening) (Person d.who)) (held_of o.asset d.held)

-- it called no deposit: it isn't set up, or no item of the participant had its turn
abbrev pub has_put_nothing : Direct → Bool
has_put_nothing d = not (is_set_up d.channel) || not (list_any (has_turn d) d.channel.opening)

-- it opens, and isn't final
abbrev pub root_abandons : Direct → Bool
root_abandons d = not d.closing && (not (is_final d.standing) && (not (holds (2 * people d - 1) d.channel) && has_put_nothing d))
