-- Whether a ledger can set something aside for a channel on it.
use Rattle.std.specs.Prelude.{ℕ, ◌==◌, Bool, false, ◌&&◌, nat_le, nat_lt, List, [], ◌∷◌, length, Option, Some, None}
use Rattle.std.specs.List.{list_any}
use Rattle.std.specs.Str.{bytes_eq}
use Rattle.channel_values.specs.Parts.{StateParts}
use Rattle.channel_values.specs.declared.value.Dest.TheVariants.{Person}
use Rattle.channel_values.specs.declared.value.Item.{Item}
use Rattle.channel_values.specs.Amounts.{amt, has}
use Rattle.channel_values.specs.Rules.{newest}
use Rattle.channel_values.specs.Words.{all_along}
use Rattle.call_history.specs.declared.held_chain.HeldChain.{HeldChain}
use Rattle.call_history.specs.declared.held_chain.Place.{Place}
use Rattle.funding_plans.specs.Known.{FactsOf}
use Rattle.funding_plans.specs.Parts.{running}
use Rattle.funding_plans.specs.Shapes.{items_in}
use Rattle.funding_plans.specs.declared.plan.Part.{Part}
use Rattle.funding_plans.specs.declared.plan.Part.TheVariants.{Root, OnLedger, End, Middle}
use Rattle.funding_plans.specs.Gathered.{place_in, chain_in}
use Rattle.stage_tables.specs.Asked.{stage_of}
use Rattle.stage_tables.specs.declared.stake.Stake.{Stake}

-- the same people in the same order
abbrev pub are_same : List (List ℕ) → List (List ℕ) → Bool
are_same people others = all_along bytes_eq people others

-- ---- what it has

-- a person has an item of at least this amount: an item that isn't there can't be raised again
abbrev pub covers : List Item → List ℕ → ℕ → Bool
covers items person amount = has items (Person person) && nat_le amount (amt items (Person person))

-- both have, and there is room for one more item
abbrev pub affords : Stake → List Item → Bool
affords k items = covers items k.first k.amounts.0 && covers items k.second k.amounts.1 && nat_lt (length items) 16

abbrev pub affords_after : Stake → Option StateParts → Bool
affords_after k None = false
affords_after k (Some s) = affords k (items_in k.asset s.outcome)

-- a consensus channel, by the outcome of its latest held state
abbrev pub affords_in : Stake → Option HeldChain → Bool
affords_in k None = false
affords_in k (Some h) = (h.chain.fixed.app == 0) && affords_after k (newest h.chain.states)

-- ---- whose it is, and that it runs

abbrev pub is_between : Stake → Option Place → Bool
is_between k None = false
is_between k (Some p) = are_same p.people (k.first ∷ k.second ∷ [])

abbrev pub is_root_of : List ℕ → Part → Bool
is_root_of name (Root channel) = bytes_eq channel name
is_root_of name (OnLedger ledger channel) = false
is_root_of name (End v) = false
is_root_of name (Middle v) = false

-- a root of the plan in the stage in which roots run
abbrev pub is_running_root : FactsOf → List ℕ → Bool
is_running_root f name = list_any (is_root_of name) f.plan.parts && (stage_of f (Root name) == running (Root name))

-- a running consensus root of these two people in this order, who afford it
abbrev pub lends : FactsOf → List ℕ → Stake → Bool
lends f name k =
    (is_running_root f name && is_between k (place_in name f.places))
    && affords_in k (chain_in name f.chains)
