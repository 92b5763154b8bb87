-- What a funded part is worth: what its outcomes say.
use Rattle.std.specs.Prelude.{◌≡◌, ℕ, ◌+◌, ◌≤◌, Bool, true, List, if◌then◌else◌}
use Rattle.channel_values.specs.declared.value.Dest.{Dest}
use Rattle.channel_values.specs.declared.value.Dest.TheVariants.{Person, Channel}
use Rattle.channel_values.specs.declared.value.Item.{Item}
use Rattle.channel_values.specs.Amounts.{amt, has}
use Rattle.funding_plans.specs.declared.plan.Part.{Part}
use Rattle.funding_plans.specs.declared.plan.Part.TheVariants.{Root, OnLedger, End, Middle}
use Rattle.share_laws.specs.Books.{Books}
use Rattle.share_laws.specs.Worth.{Table, part_worth}
use Rattle.funding_plans.specs.Parts.{own_ledger, own_guarantor}
use Rattle.share_laws.specs.Funded.{up_to, is_part_funded}
use Rattle.share_laws.specs.Moves.{owing}

-- the amounts that its own outcomes pay the person
abbrev pub nominal : Books → (me : List ℕ) → Part → ℕ
nominal b me (Root c) = amt (b.items c) (Person me)
nominal b me (OnLedger l c) = amt (b.items c) (Person me)
nominal b me (End v) =
    (if has (b.items v.joint) (Channel v.channel) then amt (b.items v.channel) (Person me) else 0)
    + amt (b.items v.joint) (Person me)
nominal b me (Middle v) = amt (b.items v.joint) (Person me)

-- a root holds the items up to the person's; a ledger names what stands on it
abbrev pub IsNamed : Books → (me : List ℕ) → Part → Type 0
IsNamed b me (Root c) = up_to (b.items c) (Person me) ≤ b.held c
IsNamed b me (OnLedger l c) = (b.counts c ≡ true) × (has (b.items l) (Channel c) ≡ true)
IsNamed b me (End v) = (b.counts v.channel ≡ true) × (has (b.items (own_ledger v)) (Channel (own_guarantor v)) ≡ true)
IsNamed b me (Middle v) =
    (has (b.items v.ledger_a) (Channel v.guarantor_a) ≡ true)
    × (has (b.items v.ledger_b) (Channel v.guarantor_b) ≡ true)

-- A funded part that is named is worth what its outcomes pay.
abbrev pub FundedIsNominal : Type 0
FundedIsNominal =
    (held : List ℕ → ℕ) (counts : List ℕ → Bool) (list : List ℕ → List Dest) (items : List ℕ → List Item) (me : List ℕ)
    (reach : Table) (p : Part)
    → is_part_funded (owing held counts list items) me reach p ≡ true → IsNamed (owing held counts list items) me p
    → part_worth (owing held counts list items) me reach p ≡ nominal (owing held counts list items) me p
