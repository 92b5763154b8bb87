-- When a chain supports the turn of its last state, over any rules.
use Rattle.std.specs.Prelude.{ℕ, ◌+◌, ◌-◌, Bool, false, not, ◌||◌, List, [], ◌∷◌, length, Option, Some, None, Result, Err, ◌==◌, nat_lt}
use Rattle.std.specs.List.{slice_get}
use Rattle.std.specs.Option.{option_map}
use Rattle.channel_values.specs.Parts.{FixedParts, StateParts}
use Rattle.channel_values.specs.declared.chain.Mark.{Mark}
use Rattle.channel_values.specs.declared.chain.Chain.{Chain}
use Rattle.channel_values.specs.declared.fault.SupportFault.{SupportFault}
use Rattle.channel_values.specs.declared.fault.SupportFault.TheVariants as faults
use Rattle.channel_values.specs.Words.{fault_if, ◌⊳◌}
use Rattle.channel_values.specs.Rows.{first_between, last_of, turn_fault, turn_unless, marked_row}
use Rattle.channel_values.specs.Rules.{Rules, people, signs_state}

abbrev pub link_fault : Rules → FixedParts → ℕ → StateParts → StateParts → Option SupportFault
link_fault r f i s t = option_map (λ fault. faults.Step i fault) (r.step f s t)

-- the faults that aren't about marks
abbrev pub row_fault : Rules → FixedParts → StateParts → List StateParts → ℕ → Option SupportFault
row_fault r f s ss marks =
    fault_if (nat_lt (people f) (length (s ∷ ss)) || not (marks == people f)) faults.Length
    ⊳ first_between turn_fault 1 s ss
    ⊳ fault_if (nat_lt (last_of s ss).turn (people f - 1)) faults.Length
    ⊳ first_between (link_fault r f) 1 s ss

-- the turn of the last state of a row with a number of marks, or the row's first fault
abbrev pub row_of : Rules → FixedParts → List StateParts → ℕ → Result ℕ SupportFault
row_of r f [] marks = Err faults.Length
row_of r f (s ∷ ss) marks = turn_unless (last_of s ss).turn (row_fault r f s ss marks)

-- the turn that the chain supports, or its first fault, where `verified` says of each mark whether it verifies
abbrev pub support_of : Rules → Chain → List Bool → Result ℕ SupportFault
support_of r chain verified =
    marked_row chain.fixed chain.states chain.marks verified (row_of r chain.fixed chain.states (length chain.marks))

-- a mark on no state verifies nothing
abbrev pub is_marked_well : Rules → FixedParts → ℕ → List ℕ → Option StateParts → Bool
is_marked_well r f j signature None = false
is_marked_well r f j signature (Some s) = signs_state r f j s signature

-- whether each mark verifies, from that of participant j on
abbrev pub verified_from : Rules → FixedParts → List StateParts → ℕ → List Mark → List Bool
verified_from r f states j [] = []
verified_from r f states j (mark ∷ marks) =
    is_marked_well r f j mark.signature (slice_get states mark.place) ∷ verified_from r f states (j + 1) marks

abbrev pub verified_marks : Rules → Chain → List Bool
verified_marks r chain = verified_from r chain.fixed chain.states 0 chain.marks

unfoldable pub supports : Rules → Chain → Result ℕ SupportFault
supports r chain = support_of r chain (verified_marks r chain)
