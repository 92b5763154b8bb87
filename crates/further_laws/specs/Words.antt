-- The channels of the runs, their outcomes, and what a participant knows in them.
use Rattle.std.specs.Prelude.{ℕ, Bool, true, false, List, [], ◌∷◌, Option, replicate}
use Rattle.channel_values.specs.declared.value.AssetOutcome.{AssetOutcome}
use Rattle.channel_values.specs.declared.value.Dest.TheVariants.{Person, Channel}
use Rattle.channel_values.specs.declared.value.Item.{Item}
use Rattle.channel_values.specs.declared.value.Shape.TheVariants.{Allocation, Guarantee}
use Rattle.channel_values.specs.Parts.{StateParts, state_with}
use Rattle.channel_values.specs.Spelling.{outcome}
use Rattle.ledger_channel.specs.OnLedgers.{Funded}
use Rattle.funding_plans.specs.Targets.{pays}
use Rattle.funding_plans.specs.declared.child.Child.{Child}
use Rattle.funding_plans.specs.declared.terms.Terms.{Terms}
use Rattle.funding_plans.specs.Seats.{Seat}
use Rattle.virtual_channel.specs.Ends.{End}
use Rattle.virtual_channel.specs.Middles.{Middle}

-- ---- the ends, the intermediary, and the channels

abbrev pub a : List ℕ
a = replicate 32 1

abbrev pub i : List ℕ
i = replicate 32 2

abbrev pub b : List ℕ
b = replicate 32 3

abbrev pub ledger_a : List ℕ
ledger_a = replicate 32 4

abbrev pub ledger_b : List ℕ
ledger_b = replicate 32 5

abbrev pub guarantor_a : List ℕ
guarantor_a = replicate 32 6

abbrev pub guarantor_b : List ℕ
guarantor_b = replicate 32 7

abbrev pub joint : List ℕ
joint = replicate 32 8

abbrev pub channel : List ℕ
channel = replicate 32 9

abbrev pub ledger : List ℕ
ledger = replicate 32 10

abbrev pub child : List ℕ
child = replicate 32 11

-- ---- outcomes: of one asset

abbrev pub giving : List Item → List AssetOutcome
giving items = record { asset = 0; shape = Allocation items } ∷ []

abbrev pub ledger_before : List AssetOutcome
ledger_before = giving (pays (Person a) 1000 ∷ pays (Person b) 1000 ∷ [])

abbrev pub opening : List AssetOutcome
opening = giving (pays (Person a) 400 ∷ pays (Person b) 100 ∷ [])

abbrev pub ledger_up : List AssetOutcome
ledger_up = giving (pays (Person a) 600 ∷ pays (Person b) 900 ∷ pays (Channel child) 500 ∷ [])

abbrev pub child_after : List AssetOutcome
child_after = giving (pays (Person a) 370 ∷ pays (Person b) 130 ∷ [])

abbrev pub ledger_down : List AssetOutcome
ledger_down = giving (pays (Person a) 970 ∷ pays (Person b) 1030 ∷ [])

abbrev pub ledger_a_before : List AssetOutcome
ledger_a_before = giving (pays (Person a) 1000 ∷ pays (Person i) 1000 ∷ [])

abbrev pub ledger_b_before : List AssetOutcome
ledger_b_before = giving (pays (Person i) 1000 ∷ pays (Person b) 1000 ∷ [])

abbrev pub joint_before : List AssetOutcome
joint_before = giving (pays (Person a) 400 ∷ pays (Person b) 100 ∷ pays (Person i) 500 ∷ [])

abbrev pub ledger_a_up : List AssetOutcome
ledger_a_up = giving (pays (Person a) 600 ∷ pays (Person i) 900 ∷ pays (Channel guarantor_a) 500 ∷ [])

abbrev pub ledger_b_up : List AssetOutcome
ledger_b_up = giving (pays (Person i) 600 ∷ pays (Person b) 900 ∷ pays (Channel guarantor_b) 500 ∷ [])

abbrev pub joint_together : List AssetOutcome
joint_together = giving (pays (Channel channel) 500 ∷ pays (Person i) 500 ∷ [])

abbrev pub channel_after : List AssetOutcome
channel_after = giving (pays (Person a) 390 ∷ pays (Person b) 110 ∷ [])

abbrev pub joint_after : List AssetOutcome
joint_after = giving (pays (Person a) 390 ∷ pays (Person b) 110 ∷ pays (Person i) 500 ∷ [])

abbrev pub ledger_a_down : List AssetOutcome
ledger_a_down = giving (pays (Person a) 990 ∷ pays (Person i) 1010 ∷ [])

abbrev pub ledger_b_down : List AssetOutcome
ledger_b_down = giving (pays (Person i) 990 ∷ pays (Person b) 1010 ∷ [])

abbrev pub guarantee_a : List AssetOutcome
guarantee_a = record { asset = 0; shape = Guarantee joint (Channel channel ∷ Person a ∷ Person i ∷ []) } ∷ []

abbrev pub guarantee_b : List AssetOutcome
guarantee_b = record { asset = 0; shape = Guarantee joint (Channel channel ∷ Person b ∷ Person i ∷ []) } ∷ []

-- ---- states: without votes, final, and with votes for a proposal

abbrev pub plain_at : ℕ → List AssetOutcome → StateParts
plain_at turn o = state_with turn false o []

abbrev pub final_at : ℕ → List AssetOutcome → StateParts
final_at turn o = state_with turn true o []

abbrev pub voting_at : ℕ → List AssetOutcome → (votes : ℕ) → (proposal : List AssetOutcome) → StateParts
voting_at turn o votes proposal = state_with turn false o (votes ∷ outcome proposal)

-- ---- what a participant knows: its place, the next turn, the latest state, the one that it signed last, and in a
-- payment
-- channel whether the held states are all final

abbrev pub in_ledger : (me next : ℕ) → (top own : Option StateParts) → Seat
in_ledger me next top own =
    record { name = ledger; people = a ∷ b ∷ []; me = me; next = next; opening = ledger_before; top = top; all_final = false; own = own }

abbrev pub in_child : (me next : ℕ) → (top own : Option StateParts) → Bool → Seat
in_child me next top own all_final =
    record { name = child; people = a ∷ b ∷ []; me = me; next = next; opening = opening; top = top; all_final = all_final; own = own }

abbrev pub in_ledger_a : (me next : ℕ) → (top own : Option StateParts) → Seat
in_ledger_a me next top own =
    record { name = ledger_a; people = a ∷ i ∷ []; me = me; next = next; opening = ledger_a_before; top = top; all_final = false; own = own }

abbrev pub in_ledger_b : (me next : ℕ) → (top own : Option StateParts) → Seat
in_ledger_b me next top own =
    record { name = ledger_b; people = i ∷ b ∷ []; me = me; next = next; opening = ledger_b_before; top = top; all_final = false; own = own }

abbrev pub in_guarantor_a : (me next : ℕ) → (top own : Option StateParts) → Seat
in_guarantor_a me next top own =
    record { name = guarantor_a; people = a ∷ i ∷ []; me = me; next = next; opening = guarantee_a; top = top; all_final = false; own = own }

abbrev pub in_guarantor_b : (me next : ℕ) → (top own : Option StateParts) → Seat
in_guarantor_b me next top own =
    record { name = guarantor_b; people = i ∷ b ∷ []; me = me; next = next; opening = guarantee_b; top = top; all_final = false; own = own }

abbrev pub in_joint : (me next : ℕ) → (top own : Option StateParts) → Seat
in_joint me next top own =
    record { name = joint; people = a ∷ i ∷ b ∷ []; me = me; next = next; opening = joint_before; top = top; all_final = false; own = own }

abbrev pub in_channel : (me next : ℕ) → (top own : Option StateParts) → Bool → Seat
in_channel me next top own all_final =
    record { name = channel; people = a ∷ b ∷ []; me = me; next = next; opening = opening; top = top; all_final = all_final; own = own }

-- ---- the parts

abbrev pub funded : Seat → Seat → (closing : Bool) → Funded
funded c l closing =
    record { channel = c; ledger = l; child = record { asset = 0; name = child; first = a; second = b; a = 400; b = 100 }; closing = closing }

abbrev pub terms : Terms
terms = record { asset = 0; channel = channel; first = a; middle = i; second = b; total = 500 }

abbrev pub of_a : Child
of_a = record { asset = 0; name = guarantor_a; first = a; second = i; a = 400; b = 100 }

abbrev pub of_b : Child
of_b = record { asset = 0; name = guarantor_b; first = i; second = b; a = 400; b = 100 }

abbrev pub end_a : Seat → Seat → Seat → Seat → (closing : Bool) → End
end_a l g j c closing = record { terms = terms; child = of_a; ledger = l; guarantor = g; joint = j; channel = c; votes = false; closing = closing }

abbrev pub end_b : Seat → Seat → Seat → Seat → (closing : Bool) → End
end_b l g j c closing = record { terms = terms; child = of_b; ledger = l; guarantor = g; joint = j; channel = c; votes = false; closing = closing }

abbrev pub middle : Seat → Seat → Seat → Seat → Seat → (closing : Bool) → Middle
middle la lb ga gb j closing =
    record { terms = terms; child_a = of_a; child_b = of_b; ledger_a = la; ledger_b = lb; guarantor_a = ga; guarantor_b = gb; joint = j; closing = closing }
