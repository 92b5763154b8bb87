-- The words on examples worked out by hand.
use Rattle.std.proofs.Common.{◌≡◌, ℕ, zero, suc, List, [], ◌∷◌, true, false, refl}
use Rattle.std.specs.Prelude.{None, Ok, Err}
use Rattle.channel_values.specs.declared.value.Dest.{Dest}
use Rattle.channel_values.specs.declared.value.Dest.TheVariants.{Person, Channel}
use Rattle.channel_values.specs.declared.value.Item.{Item}
use Rattle.channel_values.specs.declared.chain.Mark.{Mark}
use Rattle.channel_values.specs.declared.fault.SupportFault.TheVariants as faults
use Rattle.channel_values.specs.Parts.{FixedParts, StateParts, fixed_with, state_with}
use Rattle.channel_values.specs.Amounts.{amt, has, aff, before, due}
use Rattle.channel_values.specs.Rows.{mover, last_turn}
use Rattle.channel_values.specs.Rules.{Rules, top_turn, signs}
use Rattle.channel_values.specs.Support.{support_of}

-- ---- amounts: 5 for A, 3 for B, 9 for a channel

abbrev a : Dest
a = Person (1 ∷ [])

abbrev b : Dest
b = Person (2 ∷ [])

abbrev c : Dest
c = Channel (2 ∷ [])

abbrev items : List Item
items = record { to = a; amount = 5 } ∷ record { to = b; amount = 3 } ∷ record { to = c; amount = 9 } ∷ []

amount_of_b : amt items b ≡ 3
amount_of_b = refl

amount_of_channel : amt items c ≡ 9
amount_of_channel = refl

amount_of_nobody : amt items (Person (3 ∷ [])) ≡ 0
amount_of_nobody = refl

has_channel : has items c ≡ true
has_channel = refl

has_nobody : has items (Channel (1 ∷ [])) ≡ false
has_nobody = refl

-- of 7, A gets its 5 and B the 2 that are left
afforded_in_part : aff items 7 b ≡ 2
afforded_in_part = refl

afforded_whole : aff items 100 c ≡ 9
afforded_whole = refl

afforded_none : aff items 5 b ≡ 0
afforded_none = refl

-- rests of 5, 3 and 9
abbrev rest : ℕ → ℕ
rest zero = 5
rest (suc zero) = 3
rest (suc (suc i)) = 9

before_third : before rest 2 ≡ 8
before_third = refl

due_in_part : due rest 1 7 ≡ 2
due_in_part = refl

due_whole : due rest 1 8 ≡ 3
due_whole = refl

due_first : due rest 0 4 ≡ 4
due_first = refl

-- ---- turns of three participants

second_moves : mover 3 7 ≡ 1
second_moves = refl

last_of_third : last_turn 3 2 7 ≡ 5
unfolding last_turn
last_of_third = refl

last_of_mover : last_turn 3 1 7 ≡ 7
unfolding last_turn
last_of_mover = refl

last_at_first : last_turn 3 0 2 ≡ 0
unfolding last_turn
last_at_first = refl

-- ---- chains of two participants, over rules by which every step is one

abbrev all_follow : Rules
all_follow =
    record {
      verifies = λ key message signature. true;
      named = λ f. [];
      digest = λ channel s. s.turn ∷ [];
      outcome_digest = λ o. [];
      step = λ f s t. None;
    }

abbrev two : FixedParts
two = fixed_with ((1 ∷ []) ∷ (2 ∷ []) ∷ []) 0 2 1

abbrev at_turn : ℕ → StateParts
at_turn turn = state_with turn false [] []

abbrev on : ℕ → Mark
on place = record { place = place; signature = [] }

abbrev marks : ℕ → ℕ → List Mark
marks i j = on i ∷ on j ∷ []

one_state_for_both : support_of all_follow (record { fixed = two; states = at_turn 4 ∷ []; marks = marks 0 0 }) (true ∷ true ∷ []) ≡ Ok 4
unfolding last_turn
one_state_for_both = refl

each_its_own : support_of all_follow (record { fixed = two; states = at_turn 4 ∷ at_turn 5 ∷ []; marks = marks 0 1 }) (true ∷ true ∷ []) ≡ Ok 5
unfolding last_turn
each_its_own = refl

-- turn 5 is the second participant's, whose mark stands on turn 4
too_early : support_of all_follow (record { fixed = two; states = at_turn 4 ∷ at_turn 5 ∷ []; marks = marks 0 0 }) (true ∷ true ∷ []) ≡ Err (faults.Signature 1)
unfolding last_turn
too_early = refl

not_verified : support_of all_follow (record { fixed = two; states = at_turn 4 ∷ []; marks = marks 0 0 }) (false ∷ true ∷ []) ≡ Err (faults.Signature 0)
unfolding last_turn
not_verified = refl

on_no_state : support_of all_follow (record { fixed = two; states = at_turn 4 ∷ []; marks = marks 0 1 }) (true ∷ true ∷ []) ≡ Err (faults.Signature 1)
unfolding last_turn
on_no_state = refl

no_state : support_of all_follow (record { fixed = two; states = []; marks = marks 0 0 }) (true ∷ true ∷ []) ≡ Err faults.Length
unfolding last_turn
no_state = refl

one_mark : support_of all_follow (record { fixed = two; states = at_turn 4 ∷ []; marks = on 0 ∷ [] }) (true ∷ []) ≡ Err faults.Length
unfolding last_turn
one_mark = refl

three_states : support_of all_follow (record { fixed = two; states = at_turn 3 ∷ at_turn 4 ∷ at_turn 5 ∷ []; marks = marks 1 2 }) (true ∷ true ∷ []) ≡ Err faults.Length
unfolding last_turn
three_states = refl

a_gap : support_of all_follow (record { fixed = two; states = at_turn 3 ∷ at_turn 5 ∷ []; marks = marks 1 1 }) (true ∷ true ∷ []) ≡ Err (faults.Turn 1)
unfolding last_turn
a_gap = refl

-- the second participant hasn't moved yet
too_young : support_of all_follow (record { fixed = two; states = at_turn 0 ∷ []; marks = marks 0 0 }) (true ∷ true ∷ []) ≡ Err faults.Length
unfolding last_turn
too_young = refl

youngest : support_of all_follow (record { fixed = two; states = at_turn 1 ∷ []; marks = marks 0 0 }) (true ∷ true ∷ []) ≡ Ok 1
unfolding last_turn
youngest = refl

last_turn_is_top : top_turn (at_turn 4 ∷ at_turn 5 ∷ []) ≡ 5
last_turn_is_top = refl

stranger_signs_nothing : signs all_follow None [] [] ≡ false
stranger_signs_nothing = refl
