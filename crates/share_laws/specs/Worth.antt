-- What each channel of a plan can reach, and what the parts are worth to their person: of one asset, under one choice.
use Rattle.std.specs.Prelude.{ℕ, ◌+◌, ◌-◌, min, max, Bool, List, [], ◌∷◌, if◌then◌else◌}
use Rattle.std.specs.Str.{bytes_eq}
use Rattle.channel_values.specs.declared.value.Dest.{Dest}
use Rattle.channel_values.specs.declared.value.Dest.TheVariants.{Person, Channel}
use Rattle.channel_values.specs.declared.value.Item.{Item}
use Rattle.channel_values.specs.Amounts.{amt, has, aff}
use Rattle.funding_plans.specs.declared.plan.Part.{Part}
use Rattle.funding_plans.specs.declared.plan.Part.TheVariants.{Root, OnLedger, End, Middle}
use Rattle.funding_plans.specs.declared.plan.Virtual.{Virtual}
use Rattle.funding_plans.specs.Parts.{own_ledger, own_guarantor}
use Rattle.share_laws.specs.Books.{Books}

-- what n affords d at the reach r
abbrev pub affords : Books → List ℕ → ℕ → Dest → ℕ
affords b n r d = if b.owed n d then aff (b.items n) r d else 0

-- the reach of each channel that can be a ledger of a later part
abbrev pub Table : Type 0
Table = List ℕ → ℕ

abbrev pub no_reach : Table
no_reach n = 0

abbrev pub with_reach : Table → List ℕ → ℕ → Table
with_reach reach c r n = if bytes_eq n c then r else reach n

-- the reach of the channel c on the ledger l: what it holds and what the ledger affords it, where that has an item for
-- it
abbrev pub child : Books → Table → List ℕ → List ℕ → ℕ
child b reach l c = if has (b.items l) (Channel c) then b.held c + affords b l (reach l) (Channel c) else 0

-- the reach of the guarantor g on the ledger l: at most the part's total
abbrev pub guarantor : Books → Table → List ℕ → List ℕ → ℕ → ℕ
guarantor b reach l g total = if b.counts g then min (child b reach l g) total else 0

-- what the guarantor g, which reaches r, affords the channel x of the joint channel j
abbrev pub claim : Books → (g j x : List ℕ) → ℕ → ℕ
claim b g j x r = if b.owed g (Channel x) then min (amt (b.items j) (Channel x)) r else 0

-- and what it affords me, after x
abbrev pub own_claim : Books → (me g j x : List ℕ) → ℕ → ℕ
own_claim b me g j x r =
    if b.owed g (Person me) then min (amt (b.items j) (Person me)) (r - amt (b.items j) (Channel x)) else 0

-- the reach of an end's channel x, whose guarantor g reaches r
abbrev pub virtual : Books → (g j x : List ℕ) → ℕ → ℕ
virtual b g j x r = if has (b.items j) (Channel x) then b.held x + claim b g j x r else 0

abbrev pub end_reach : Books → Table → Virtual → ℕ
end_reach b reach v = guarantor b reach (own_ledger v) (own_guarantor v) v.total

-- the table after a part
abbrev pub reach_after : Books → Table → Part → Table
reach_after b reach (Root c) = with_reach reach c (b.held c)
reach_after b reach (OnLedger l c) = with_reach reach c (child b reach l c)
reach_after b reach (End v) =
    with_reach reach v.channel (virtual b (own_guarantor v) v.joint v.channel (end_reach b reach v))
reach_after b reach (Middle v) = reach

-- the amount of the second destination of a guarantee's list
abbrev pub second_amt : List Item → List Dest → ℕ
second_amt items [] = 0
second_amt items (d ∷ []) = 0
second_amt items (d ∷ e ∷ ds) = amt items e

-- What the joint channel leaves an intermediary of its guarantors' reaches, with the amounts x of the channel, a of A
-- and b of B. It is what is left of both together, or of each after its claim for the channel. The tests say what is
-- still owed: the channel by A's guarantor, the intermediary by A's and by B's.
abbrev pub left_between : (s t u : Bool) (x a b ra rb : ℕ) → ℕ
left_between s t u x a b ra rb =
    max (if s then (ra + rb) - (x + a + b) else 0) ((if t then ra - (x + a) else 0) + (if u then rb - (x + b) else 0))

abbrev pub middle_worth : (s t u : Bool) (own x a b ra rb : ℕ) → ℕ
middle_worth s t u own x a b ra rb = min own (left_between s t u x a b ra rb)

abbrev pub part_worth : Books → List ℕ → Table → Part → ℕ
part_worth b me reach (Root c) = affords b c (b.held c) (Person me)
part_worth b me reach (OnLedger l c) = affords b c (child b reach l c) (Person me)
part_worth b me reach (End v) =
    affords b v.channel (virtual b (own_guarantor v) v.joint v.channel (end_reach b reach v)) (Person me)
    + own_claim b me (own_guarantor v) v.joint v.channel (end_reach b reach v)
part_worth b me reach (Middle v) =
    middle_worth (b.owed v.guarantor_a (Channel v.channel)) (b.owed v.guarantor_a (Person me))
    (b.owed v.guarantor_b (Person me))
    (amt (b.items v.joint) (Person me)) (amt (b.items v.joint) (Channel v.channel))
    (second_amt (b.items v.joint) (b.list v.guarantor_a)) (second_amt (b.items v.joint) (b.list v.guarantor_b))
    (guarantor b reach v.ledger_a v.guarantor_a v.total) (guarantor b reach v.ledger_b v.guarantor_b v.total)

-- the worth of the parts, from a table of those before
abbrev pub worth : Books → List ℕ → List Part → Table → ℕ
worth b me [] reach = 0
worth b me (p ∷ ps) reach = part_worth b me reach p + worth b me ps (reach_after b reach p)
