-- Whether the fixed parts, the people and the amounts of a command that opens fit a node's facts. A channel of two
-- people through an intermediary fits by its route. It is a payment channel on roots, a virtual ledger on roots, or a
-- payment channel one of whose ledgers is a virtual one. That the channels are new, and that the ledgers are in the
-- plan, is asked elsewhere.
use Rattle.std.specs.Prelude.{ℕ, ◌+◌, ◌-◌, ◌*◌, ◌^◌, ◌==◌, Bool, false, not, ◌&&◌, ◌||◌, nat_le, List, [], ◌∷◌, if◌then◌else◌}
use Rattle.std.specs.List.{list_all, list_any}
use Rattle.std.specs.Str.{bytes_eq}
use Rattle.channel_values.specs.Parts.{FixedParts}
use Rattle.channel_values.specs.declared.value.AssetOutcome.{AssetOutcome}
use Rattle.channel_values.specs.declared.value.Shape.{Shape}
use Rattle.channel_values.specs.declared.value.Shape.TheVariants.{Allocation, Guarantee}
use Rattle.support_rules.specs.Rules.{is_one_of}
use Rattle.support_rules.specs.Steps.{persons}
use Rattle.call_history.specs.Flows.{is_among}
use Rattle.funding_plans.specs.Known.{FactsOf}
use Rattle.funding_plans.specs.Parts.{running}
use Rattle.funding_plans.specs.declared.plan.Part.{Part}
use Rattle.funding_plans.specs.declared.plan.Part.TheVariants.{Root, OnLedger, End, Middle}
use Rattle.network.specs.declared.command.Command.{Command}
use Rattle.network.specs.declared.command.Command.TheVariants.{Open, OpenOn, OpenVirtual}
use Rattle.network.specs.declared.command.Route.{Route}
use Rattle.network.specs.declared.command.Route.TheVariants.{Plain, Ledger, Onward}
use Rattle.funding_plans.specs.Gathered.{place_in, chain_in}
use Rattle.stage_tables.specs.Asked.{stage_of}
use Rattle.stage_tables.specs.Ledgers.{are_same, affords_in, is_between, lends}
use Rattle.stage_tables.specs.declared.stake.Stake.{Stake}

-- ---- a channel that holds its own funds

-- allocations alone, to these people alone
abbrev pub is_shared : List (List ℕ) → Shape → Bool
is_shared people (Allocation items) = list_all (λ i. is_one_of people i.to) items
is_shared people (Guarantee target list) = false

abbrev pub is_shared_in : List (List ℕ) → AssetOutcome → Bool
is_shared_in people o = is_shared people o.shape

abbrev pub are_shared : List (List ℕ) → List AssetOutcome → Bool
are_shared people outcome = list_all (is_shared_in people) outcome

-- a consensus or payment channel of the node, which shares everything among its people
abbrev pub fits_root : FactsOf → FixedParts → List AssetOutcome → Bool
fits_root f fixed outcome = (nat_le fixed.app 1 && is_among f.me (persons fixed)) && are_shared (persons fixed) outcome

-- ---- a channel on a ledger

abbrev pub stake : ℕ → (first second : List ℕ) → ℕ × ℕ → Stake
stake asset first second ab = record { asset = asset; first = first; second = second; amounts = ab }

-- two people that differ, whose amounts together are one
abbrev pub can_share : (first second : List ℕ) → ℕ × ℕ → Bool
can_share first second ab = not (bytes_eq first second) && nat_le (ab.0 + ab.1) (2 ^ 64 - 1)

-- two people whose ledger it is, in the ledger's order
abbrev pub fits_between : FactsOf → List ℕ → ℕ → ℕ × ℕ → List (List ℕ) → Bool
fits_between f ledger asset ab (first ∷ second ∷ []) = can_share first second ab && lends f ledger (stake asset first second ab)
fits_between f ledger asset ab _ = false

-- a payment channel of such people
abbrev pub fits_on_ledger : FactsOf → List ℕ → FixedParts → ℕ → ℕ × ℕ → Bool
fits_on_ledger f ledger fixed asset ab = (fixed.app == 1) && fits_between f ledger asset ab (persons fixed)

-- ---- a channel of two people through an intermediary

-- a channel of this application and of these people in this order
abbrev pub is_channel_of : ℕ → List (List ℕ) → FixedParts → Bool
is_channel_of app people fixed = (fixed.app == app) && are_same (persons fixed) people

-- a ledger in which the node isn't is passed over
abbrev pub lends_if_own : FactsOf → List ℕ → Stake → Bool
lends_if_own f name k = not (is_among f.me (k.first ∷ k.second ∷ [])) || lends f name k

-- each end's ledger with the intermediary affords the amounts, in the order of its people
abbrev pub both_lend : FactsOf → List ℕ × List ℕ → ℕ → ℕ × ℕ → (first middle second : List ℕ) → Bool
both_lend f ledgers asset ab first middle second =
    lends_if_own f ledgers.0 (stake asset first middle ab) && lends_if_own f ledgers.1 (stake asset middle second ab)

-- what both guarantors hold together is an amount
abbrev pub is_double_small : ℕ × ℕ → Bool
is_double_small ab = nat_le (2 * (ab.0 + ab.1)) (2 ^ 64 - 1)

-- ---- a virtual ledger of the node

-- the node is an end of this channel
abbrev pub is_end_of : List ℕ → Part → Bool
is_end_of name (Root channel) = false
is_end_of name (OnLedger ledger channel) = false
is_end_of name (End v) = bytes_eq v.channel name
is_end_of name (Middle v) = false

-- and it runs
abbrev pub runs_at_end : FactsOf → List ℕ → Part → Bool
runs_at_end f name part = is_end_of name part && (stage_of f part == running part)

abbrev pub is_running_end : FactsOf → List ℕ → Bool
is_running_end f name = list_any (runs_at_end f name) f.plan.parts

-- a running consensus channel of these two people in this order, who can afford it; the node is at one of its ends
abbrev pub lends_virtual : FactsOf → List ℕ → Stake → Bool
lends_virtual f name k =
    (is_running_end f name && is_between k (place_in name f.places))
    && affords_in k (chain_in name f.chains)

-- ---- by the route

abbrev pub app_of : Route → ℕ
app_of Plain = 1
app_of Ledger = 0
app_of Onward = 1

-- an intermediary has one ledger that is virtual, and one that is a root
abbrev pub one_lends : FactsOf → List ℕ × List ℕ → Stake → Stake → Bool
one_lends f ledgers j k =
    (lends_virtual f ledgers.0 j && lends f ledgers.1 k) || (lends f ledgers.0 j && lends_virtual f ledgers.1 k)

-- an end's own is either
abbrev pub either_lends : FactsOf → List ℕ → Stake → Bool
either_lends f name k = lends f name k || lends_virtual f name k

abbrev pub onward_lends : FactsOf → List ℕ × List ℕ → ℕ → ℕ × ℕ → (first middle second : List ℕ) → Bool
onward_lends f ledgers asset ab first middle second =
    if bytes_eq f.me middle then one_lends f ledgers (stake asset first middle ab) (stake asset middle second ab)
    else (if bytes_eq f.me first then either_lends f ledgers.0 (stake asset first middle ab)
    else either_lends f ledgers.1 (stake asset middle second ab))

abbrev pub route_lends : FactsOf → Route → List ℕ × List ℕ → ℕ → ℕ × ℕ → (first middle second : List ℕ) → Bool
route_lends f Plain ledgers asset ab first middle second = both_lend f ledgers asset ab first middle second
route_lends f Ledger ledgers asset ab first middle second = both_lend f ledgers asset ab first middle second
route_lends f Onward ledgers asset ab first middle second = onward_lends f ledgers asset ab first middle second

-- a guarantor of each end with the intermediary, the consensus channel of all three, and the channel of the ends
abbrev pub are_route_channels : ℕ → (guarantors : FixedParts × FixedParts) → (joint channel : FixedParts) → (first middle second : List ℕ) → Bool
are_route_channels app guarantors joint channel first middle second =
    (is_channel_of 2 (first ∷ middle ∷ []) guarantors.0 && is_channel_of 2 (middle ∷ second ∷ []) guarantors.1)
    && ((joint.app == 0) && is_channel_of app (first ∷ second ∷ []) channel)

abbrev pub fits_route_among : FactsOf → Route → (ledgers : List ℕ × List ℕ) → (guarantors : FixedParts × FixedParts) → (joint channel : FixedParts) → ℕ → ℕ × ℕ → List (List ℕ) → Bool
fits_route_among f route ledgers guarantors joint channel asset ab (first ∷ middle ∷ second ∷ []) =
    (is_among f.me (first ∷ middle ∷ second ∷ []) && (can_share first second ab && is_double_small ab))
    && (are_route_channels (app_of route) guarantors joint channel first middle second && route_lends f route ledgers asset ab first middle second)
fits_route_among f route ledgers guarantors joint channel asset ab _ = false

abbrev pub fits_route : FactsOf → Route → (ledgers : List ℕ × List ℕ) → (guarantors : FixedParts × FixedParts) → (joint channel : FixedParts) → ℕ → ℕ × ℕ → Bool
fits_route f route ledgers guarantors joint channel asset ab =
    fits_route_among f route ledgers guarantors joint channel asset ab (persons joint)

-- ---- any command

unfoldable pub fits : FactsOf → Command → Bool
fits f (Open fixed outcome) = fits_root f fixed outcome
fits f (OpenOn o) = fits_on_ledger f o.ledger o.fixed o.asset o.amounts
fits f (OpenVirtual v) = fits_route f v.route v.ledgers v.guarantors v.joint v.channel v.asset v.amounts
fits f _ = false
