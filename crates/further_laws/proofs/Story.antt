-- A opens a payment channel with B: 5 of A and 3 of B. Both sign turns 0 to 3, and deposit; A pays 2 at turn 4, B
-- pays 1 back at turn 5, and A signs turn 6. B challenges with turn 4; A answers with turn 6, challenges with it, and
-- time passes.
use Rattle.std.proofs.Common.{◌≡◌, ℕ, ◌-◌, cond, List, [], ◌∷◌, ◌++◌, refl}
use Rattle.std.specs.Prelude.{None, Ok, ◌==◌, slice_index_or}
use Rattle.channel_values.specs.Parts.{FixedParts}
use Rattle.channel_values.specs.Reading.{many_at, count_at, asset_at, shape_at, allocation_at, item_at, dest_at, outcome_at, turn_at, flag_at, sized_at, state_at, signed_at, all_of}
use Rattle.channel_values.specs.Spelling.{fixed, outcome, state, signed}
use Rattle.support_rules.specs.Rules.{app_fault}
use Rattle.channel_values.specs.declared.chain.Mark.{Mark}
use Rattle.channel_values.specs.declared.chain.Signed.{Signed}
use Rattle.channel_values.specs.Messages.{message_of_state, message_of_challenge}
use Rattle.channel_values.specs.Rows.{last_turn}
use Rattle.channel_values.specs.Support.{supports}
use Rattle.call_history.specs.History.{Legal, reply_to}
use Rattle.call_history.specs.Marked.{Marked, chain_of}
use Rattle.call_history.specs.Reading.{message_at, message_of}
use Rattle.call_history.specs.Spelling.{message}
use Rattle.call_history.specs.declared.call.Call.{Call}
use Rattle.call_history.specs.Calls.{make_deposit, make_challenge, make_transfer}
use Rattle.call_history.specs.declared.call.Call.TheVariants.{Checkpoint}
use Rattle.call_history.specs.declared.call.Op.TheVariants as ops
use Rattle.call_history.specs.declared.entry.Entry.{Entry}
use Rattle.call_history.specs.declared.event.Deed.{Deed}
use Rattle.call_history.specs.declared.event.Deed.TheVariants as deeds
use Rattle.call_history.specs.declared.refusal.Reply.{Reply}
use Rattle.call_history.specs.declared.refusal.Reply.TheVariants.{Held, Until, Opened, Paid, Now}
use Rattle.channel_safety.specs.Journals.{Line}
use Rattle.funding_plans.specs.declared.plan.Part.TheVariants.{Root}
use Rattle.share_laws.specs.Places.{Order, opening, paying, other}
use Rattle.further_laws.proofs.Digests.{pair, name, pays, at_turn}
use Rattle.further_laws.proofs.Computing.{rules}
use Rattle.further_laws.proofs.KeyA as own
use Rattle.further_laws.proofs.KeyB as others

-- ---- signatures

-- of the state of each turn
abbrev pub signature : (turn : ℕ) → List ℕ
signature turn =
    slice_index_or (own.signature_0 ∷ others.signature_1 ∷ own.signature_2 ∷ others.signature_3 ∷ own.signature_4 ∷ others.signature_5 ∷ own.signature_6 ∷ []) turn []

abbrev pub mark : (place turn : ℕ) → Mark
mark place turn = record { place = place; signature = signature turn }

-- ---- what is held of the channel where A signed last, and where B did, by the turn of the last state

abbrev pub by_a : ℕ → Marked
by_a turn = record { states = at_turn (turn - 1) ∷ at_turn turn ∷ []; marks = mark 1 turn ∷ mark 0 (turn - 1) ∷ [] }

abbrev pub by_b : ℕ → Marked
by_b turn = record { states = at_turn (turn - 1) ∷ at_turn turn ∷ []; marks = mark 0 (turn - 1) ∷ mark 1 turn ∷ [] }

-- ---- the history

abbrev pub entry : ℕ → Call → Reply → Entry
entry number call reply = record { number = number; by = 2; op = ops.Call call; reply = reply }

abbrev pub deposits : List Entry
deposits = entry 2 (make_deposit name 0 5 3) (Held 8) ∷ entry 1 (make_deposit name 0 0 5) (Held 5) ∷ []

-- B challenges with the state by which A paid
abbrev pub attack : Entry
attack = entry 3 (make_challenge (chain_of pair (by_a 4)) 1 others.signature_4_1) (Until 10)

abbrev pub answer : Entry
answer = entry 4 (Checkpoint (chain_of pair (by_a 6))) (Opened 6)

abbrev pub challenge : Entry
challenge = entry 5 (make_challenge (chain_of pair (by_a 6)) 0 own.signature_6_0) (Until 10)

abbrev pub time : Entry
time = record { number = 6; by = 0; op = ops.Time 10; reply = Now 10 }

abbrev pub ending : List Entry
ending = time ∷ challenge ∷ answer ∷ attack ∷ []

abbrev pub transfers : List Entry
transfers = entry 8 (make_transfer name (pays 4 4) 0 1) (Paid 4) ∷ entry 7 (make_transfer name (pays 4 4) 0 0) (Paid 4) ∷ []

abbrev pub history : List Entry
history = transfers ++ (ending ++ deposits)

pub legal : Legal rules history
unfolding reply_to supports last_turn message_of_state message_of_challenge fixed state outcome app_fault
legal = ((((((((tt, refl, refl), refl, refl), refl, refl), refl, refl), refl, refl), refl, refl), refl, refl), refl, refl)

-- ---- A's journal

abbrev pub line : ℕ → Deed → List FixedParts → Line
line seen deed adds = record { seen = seen; deed = deed; adds = adds }

-- A signs the state of a turn, and takes B's
abbrev pub signs : (seen turn : ℕ) → Line
signs seen turn = line seen (deeds.Signed name (at_turn turn) (signature turn)) []

abbrev pub from_b : ℕ → Signed
from_b turn = record { state = at_turn turn; signature = signature turn }

abbrev pub takes : (seen turn : ℕ) → Line
takes seen turn = line seen (deeds.Handled (message (name, from_b turn)) None) []

abbrev pub opens : Line
opens = line 0 (deeds.Commanded 0 None) (pair ∷ [])

abbrev pub set_up : List Line
set_up = takes 2 3 ∷ signs 2 2 ∷ takes 0 1 ∷ signs 0 0 ∷ opens ∷ []

abbrev pub ordered : Line
ordered = line 2 (deeds.Commanded 1 None) []

abbrev pub paid : List Line
paid = signs 2 4 ∷ ordered ∷ set_up

abbrev pub back : List Line
back = signs 2 6 ∷ takes 2 5 ∷ []

-- looks, the first of which answers the attack, and the challenge between them
abbrev pub answers : Line
answers = line 3 (deeds.Watched 0 (Checkpoint (chain_of pair (by_a 6)) ∷ [])) []

abbrev pub challenges : Line
challenges = line 4 (deeds.SignedChallenge name (at_turn 6) 0 own.signature_6_0) []

abbrev pub looks : Line
looks = line 5 (deeds.Watched 0 []) []

abbrev pub closing : List Line
closing = looks ∷ challenges ∷ answers ∷ []

abbrev pub journal : List Line
journal = closing ++ (back ++ paid)

abbrev pub orders : ℕ → Order
orders place = cond (place == 0) (opening (Root name)) (cond (place == 5) (paying 0 2) other)

-- what B's messages are read as
pub reads_1 : message_of (message (name, from_b 1)) ≡ Ok (name, from_b 1)
unfolding message signed state outcome message_at signed_at state_at turn_at flag_at outcome_at asset_at shape_at allocation_at item_at dest_at count_at many_at sized_at all_of
reads_1 = refl

pub reads_3 : message_of (message (name, from_b 3)) ≡ Ok (name, from_b 3)
unfolding message signed state outcome message_at signed_at state_at turn_at flag_at outcome_at asset_at shape_at allocation_at item_at dest_at count_at many_at sized_at all_of
reads_3 = refl

pub reads_5 : message_of (message (name, from_b 5)) ≡ Ok (name, from_b 5)
unfolding message signed state outcome message_at signed_at state_at turn_at flag_at outcome_at asset_at shape_at allocation_at item_at dest_at count_at many_at sized_at all_of
reads_5 = refl
