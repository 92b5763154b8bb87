-- What a part wants to sign in a channel, by its rows.
use Rattle.std.specs.Prelude.{◌≡◌, ◌<◌, ◌≤◌, ℕ, ◌+◌, ◌-◌, ◌^◌, true, false, List, length, Some}
use Rattle.std.specs.Str.{bytes_eq}
use Rattle.channel_values.specs.Outcomes.{IsName, IsOutcome}
use Rattle.channel_values.specs.Parts.{StateParts}
use Rattle.funding_plans.specs.declared.plan.Part.{Part}
use Rattle.channel_safety.specs.Journals.{In}
use Rattle.funding_plans.specs.declared.child.Child.{Child}
use Rattle.ledger_channel.specs.OnLedgers.{Funded, on_ledger_rows}
use Rattle.ledger_channel.specs.OnLedgers as funded
use Rattle.funding_plans.specs.Rows.{wanted_in, stage_in}
use Rattle.funding_plans.specs.Seats.{state_is, holds, has_signed_past, repeats, final_state, toward, settled_on, up_in, down_in, is_down}
use Rattle.virtual_channel.specs.Ends.{End, end_rows}
use Rattle.virtual_channel.specs.Ends as ends
use Rattle.virtual_channel.specs.Middles.{Middle, middle_rows, is_without}
use Rattle.fairness_laws.specs.LedgerKeeping.{Lends, Moves}
use Rattle.fairness_laws.specs.LedgerLending.{Lent, of_funded, of_end, of_middle}

-- a row of a payment channel that a ledger funds
pub data FundedRow (p : Funded) (name : List ℕ) (s : StateParts) : Type 0 where
  sets_up : bytes_eq p.channel.name name ≡ true → p.closing ≡ false → repeats 0 2 p.channel ≡ Some s → FundedRow p name s
  goes_up : bytes_eq p.ledger.name name ≡ true → p.closing ≡ false → funded.is_settled_up p ≡ false
      → toward (funded.target_up p) p.ledger ≡ Some s → FundedRow p name s
  posts : bytes_eq p.channel.name name ≡ true → p.closing ≡ false → funded.is_settled_up p ≡ true → repeats 2 4 p.channel ≡ Some s → FundedRow p name s
  finishes : bytes_eq p.channel.name name ≡ true → p.closing ≡ true → final_state p.channel ≡ Some s → FundedRow p name s
  goes_down : bytes_eq p.ledger.name name ≡ true → p.closing ≡ true → p.channel.all_final ≡ true → is_down p.child p.ledger ≡ false
      → toward (funded.target_down p) p.ledger ≡ Some s → FundedRow p name s

abbrev pub FundedWants : Type 0
FundedWants = (p : Funded) (name : List ℕ) (s : StateParts) → wanted_in name (on_ledger_rows p) ≡ Some s → FundedRow p name s

-- What is wanted on a ledger: to go up, before the participant signed past the set-up, or, once it may, to go down.
pub data WantsOn (k : Lent) (s : StateParts) : Type 0 where
  up : k.closing ≡ false → k.is_up ≡ false → toward (up_in k.child k.ledger) k.ledger ≡ Some s → WantsOn k s
  down : k.closing ≡ true → k.falls ≡ true → toward (down_in k.child k.ledger k.back) k.ledger ≡ Some s → WantsOn k s

-- a payment channel that it funds
abbrev pub FundedWantsOn : Type 0
FundedWantsOn =
    (p : Funded) (s : StateParts) → bytes_eq p.channel.name p.ledger.name ≡ false → wanted_in p.ledger.name (on_ledger_rows p) ≡ Some s
    → WantsOn (of_funded p) s

-- an end, where, once it closes, a joint channel that is settled on amounts for the ends has no item for the payment
-- channel
abbrev pub EndWantsOn : Type 0
EndWantsOn =
    (p : End) (s : StateParts) → bytes_eq p.channel.name p.ledger.name ≡ false → bytes_eq p.joint.name p.ledger.name ≡ false
    → bytes_eq p.guarantor.name p.ledger.name ≡ false
    → (p.closing ≡ true → settled_on (ends.target_back p) p.joint ≡ true → state_is (is_without p.terms) p.joint.own ≡ true)
    → wanted_in p.ledger.name (end_rows p) ≡ Some s → WantsOn (of_end p) s

-- an intermediary, on either ledger
pub data MiddleWants (p : Middle) (name : List ℕ) (s : StateParts) : Type 0 where
  first : bytes_eq p.ledger_a.name name ≡ true → WantsOn (of_middle (λ p. p.child_a) (λ p. p.ledger_a) p) s → MiddleWants p name s
  second : bytes_eq p.ledger_b.name name ≡ true → WantsOn (of_middle (λ p. p.child_b) (λ p. p.ledger_b) p) s → MiddleWants p name s

abbrev pub MiddleWantsOn : Type 0
MiddleWantsOn =
    (p : Middle) (name : List ℕ) (s : StateParts) → bytes_eq p.joint.name name ≡ false → bytes_eq p.guarantor_a.name name ≡ false
    → bytes_eq p.guarantor_b.name name ≡ false → wanted_in name (middle_rows p) ≡ Some s → MiddleWants p name s

-- ---- what is still to be done

-- A payment channel that a ledger funds and that isn't up isn't finished, where what holds its third turn was signed
-- past the set-up. Nor is one that closes and isn't down.
abbrev pub FundedUnfinished : Type 0
FundedUnfinished =
    (p : Funded)
    → (p.closing ≡ false → has_signed_past p.channel ≡ false → (holds 3 p.channel ≡ true → has_signed_past p.channel ≡ true)
    → stage_in (on_ledger_rows p) < 3)
    × (p.closing ≡ true → is_down p.child p.ledger ≡ false → stage_in (on_ledger_rows p) < 6)

-- one that runs isn't closing, and holds the third turn
abbrev pub FundedRuns : Type 0
FundedRuns = (p : Funded) → stage_in (on_ledger_rows p) ≡ 3 → (p.closing ≡ false) × (holds 3 p.channel ≡ true)

-- what is set aside is of two people, whose amounts together are one
pub record IsChild (k : Child) : Type 0 where
  pub named : IsName k.name
  pub people : bytes_eq k.first k.second ≡ false
  pub sum : k.a + k.b ≤ 2 ^ 64 - 1

-- what is wanted on a ledger of two people moves it
abbrev pub WantsMove : Type 0
WantsMove =
    (parts : List Part) (lends : Lends) (l : List ℕ) (p : Part) (k : Lent) (s top : StateParts)
    → In p parts → lends l p ≡ Some k → k.ledger.top ≡ Some top → length k.ledger.people ≡ 2 → IsOutcome top.outcome → IsChild k.child
    → ((ab : ℕ × ℕ) → k.back ≡ Some ab → toward (down_in k.child k.ledger (Some ab)) k.ledger ≡ Some s → k.falls ≡ true → ab.0 + ab.1 ≡ k.child.a + k.child.b)
    → WantsOn k s → Moves parts lends l top.outcome s
