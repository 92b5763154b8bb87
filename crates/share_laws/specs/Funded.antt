-- When a plan is funded: its ledgers and guarantors reach as far as the items that they are for.
use Rattle.std.specs.Prelude.{ℕ, ◌+◌, nat_le, Bool, true, ◌&&◌, List, [], ◌∷◌, if◌then◌else◌}
use Rattle.channel_values.specs.Outcomes.{is_same, total}
use Rattle.channel_values.specs.declared.value.Dest.{Dest}
use Rattle.channel_values.specs.declared.value.Dest.TheVariants.{Person, Channel}
use Rattle.channel_values.specs.declared.value.Item.{Item}
use Rattle.channel_values.specs.Amounts.{amt, has}
use Rattle.funding_plans.specs.declared.plan.Part.{Part}
use Rattle.funding_plans.specs.declared.plan.Part.TheVariants.{Root, OnLedger, End, Middle}
use Rattle.funding_plans.specs.Parts.{own_ledger, own_guarantor}
use Rattle.share_laws.specs.Books.{Books, Counting, varying, books_under}
use Rattle.share_laws.specs.Worth.{Table, no_reach, child, guarantor, virtual, end_reach, reach_after, second_amt, left_between}

-- the sum of the items up to d's and with it; of all where d has none
abbrev pub up_to : List Item → Dest → ℕ
up_to [] d = 0
up_to (x ∷ xs) d = if is_same x.to d then x.amount else x.amount + up_to xs d

abbrev pub if_so : Bool → Bool → Bool
if_so premise test = if premise then test else true

-- the ledger reaches as far as all of its items
abbrev pub is_covered : Books → Table → List ℕ → Bool
is_covered b reach l = nat_le (total (b.items l)) (reach l)

-- the channel c reaches r, as far as my item of it, where it counts and a channel has an item for it
abbrev pub reaches_me : Books → List ℕ → (from c : List ℕ) → ℕ → Bool
reaches_me b me from c r =
    if_so (b.counts c && has (b.items from) (Channel c)) (nat_le (up_to (b.items c) (Person me)) r)

abbrev pub is_part_funded : Books → List ℕ → Table → Part → Bool
is_part_funded b me reach (Root c) = true
is_part_funded b me reach (OnLedger l c) = is_covered b reach l && reaches_me b me l c (child b reach l c)
is_part_funded b me reach (End v) =
    is_covered b reach (own_ledger v)
    && (reaches_me b me v.joint v.channel (virtual b (own_guarantor v) v.joint v.channel (end_reach b reach v))
    && if_so (has (b.items (own_ledger v)) (Channel (own_guarantor v)))
    (nat_le (amt (b.items v.joint) (Channel v.channel) + amt (b.items v.joint) (Person me)) (end_reach b reach v)))
is_part_funded b me reach (Middle v) =
    is_covered b reach v.ledger_a
    && (is_covered b reach v.ledger_b
    && if_so (has (b.items v.ledger_a) (Channel v.guarantor_a) && has (b.items v.ledger_b) (Channel v.guarantor_b))
    (nat_le (amt (b.items v.joint) (Person me)) (left_between true true true (amt (b.items v.joint) (Channel v.channel))
    (second_amt (b.items v.joint) (b.list v.guarantor_a)) (second_amt (b.items v.joint) (b.list v.guarantor_b))
    (guarantor b reach v.ledger_a v.guarantor_a v.total) (guarantor b reach v.ledger_b v.guarantor_b v.total))))

abbrev pub are_funded : Books → List ℕ → List Part → Table → Bool
are_funded b me [] reach = true
are_funded b me (p ∷ ps) reach = is_part_funded b me reach p && are_funded b me ps (reach_after b reach p)

-- under each choice
abbrev pub at_each : List (List ℕ) → (List (List ℕ) → Bool) → List (List ℕ) → Bool
at_each [] test taken = test taken
at_each (c ∷ cs) test taken = at_each cs test taken && at_each cs test (c ∷ taken)

abbrev pub is_funded : List ℕ → List Part → (held : List ℕ → ℕ) → List Counting → (asset : ℕ) → Bool
is_funded me parts held counting asset =
    at_each (varying counting) (λ taken. are_funded (books_under held counting asset taken) me parts no_reach) []
