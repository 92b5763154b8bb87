-- Chains: words for states in a row and for the marks on them, before any step is fixed.
use Rattle.std.specs.Prelude.{ℕ, zero, suc, ◌+◌, ◌%◌, Bool, false, not, ◌&&◌, List, [], ◌∷◌, Option, Some, None, Result, Ok, Err, ◌==◌, nat_le, length, if◌then◌else◌}
use Rattle.std.specs.List.{slice_get}
use Rattle.channel_values.specs.Parts.{FixedParts, StateParts}
use Rattle.channel_values.specs.declared.chain.Mark.{Mark}
use Rattle.channel_values.specs.declared.fault.SupportFault.{SupportFault}
use Rattle.channel_values.specs.declared.fault.SupportFault.TheVariants as faults
use Rattle.channel_values.specs.Words.{fault_if, ◌⊳◌}

-- the participant whose turn it is, of n
abbrev pub mover : ℕ → ℕ → ℕ
mover n turn = turn % n

-- the first fault between neighbours of a row that begins with x; the later one of the first two has place i
abbrev pub first_between : {X E : Type 0} → (ℕ → X → X → Option E) → ℕ → X → List X → Option E
first_between fault i x [] = None
first_between fault i x (y ∷ ys) = fault i x y ⊳ first_between fault (i + 1) y ys

-- the last of a row that begins with x
abbrev pub last_of : {X : Type 0} → X → List X → X
last_of x [] = x
last_of x (y ∷ ys) = last_of y ys

abbrev pub turn_fault : ℕ → StateParts → StateParts → Option SupportFault
turn_fault i s t = fault_if (not (t.turn == s.turn + 1)) (faults.Turn i)

-- the greatest turn of at most a turn whose mover is j, of n
unfoldable pub last_turn : ℕ → ℕ → ℕ → ℕ
last_turn n j zero = 0
last_turn n j (suc turn) = if mover n (suc turn) == j then suc turn else last_turn n j turn

-- a state, whose turn is at least that one
abbrev pub is_late : ℕ → ℕ → ℕ → Option StateParts → Bool
is_late n turn j None = false
is_late n turn j (Some s) = nat_le (last_turn n j turn) s.turn

-- the least participant, from j on, whose mark doesn't verify or doesn't stand on a late enough state
abbrev pub marks_fault : ℕ → ℕ → List StateParts → ℕ → List Mark → List Bool → Option SupportFault
marks_fault n turn states j [] verified = None
marks_fault n turn states j (mark ∷ marks) [] = Some (faults.Signature j)
marks_fault n turn states j (mark ∷ marks) (v ∷ verified) =
    fault_if (not (v && is_late n turn j (slice_get states mark.place))) (faults.Signature j)
    ⊳ marks_fault n turn states (j + 1) marks verified

-- the turn, unless there is a fault
abbrev pub turn_unless : ℕ → Option SupportFault → Result ℕ SupportFault
turn_unless turn None = Ok turn
turn_unless turn (Some fault) = Err fault

abbrev pub marked_row :
    FixedParts → List StateParts → List Mark → List Bool → Result ℕ SupportFault → Result ℕ SupportFault
marked_row f states marks verified (Err fault) = Err fault
marked_row f states marks verified (Ok turn) =
    turn_unless turn (marks_fault (length f.keys) turn states 0 marks verified)
