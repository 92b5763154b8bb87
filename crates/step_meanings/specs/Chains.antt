-- How a script's chain is made of the states that it names, the last name's first.
use Rattle.std.specs.Prelude.{ℕ, ◌-◌, Bool, false, List, [], ◌∷◌, ◌++◌, length, map, Option, Some, None, if◌then◌else◌}
use Rattle.std.specs.List.{find}
use Rattle.std.specs.Str.{bytes_eq}
use Rattle.channel_values.specs.Parts.{FixedParts, StateParts}
use Rattle.channel_values.specs.Spelling.{state}
use Rattle.channel_values.specs.declared.chain.Chain.{Chain}
use Rattle.channel_values.specs.declared.chain.Mark.{Mark}
use Rattle.step_meanings.specs.declared.chains.NamedState.{NamedState}

-- the state of this name
abbrev pub state_by : List NamedState → List ℕ → Option NamedState
state_by known name = find (λ x. bytes_eq x.name name) known

abbrev pub or_none : {A : Type 0} → Option A → List A
or_none None = []
or_none (Some x) = x ∷ []

-- the states that the names stand for, the last name's first; a name that stands for none is left out
abbrev pub listed : List NamedState → List (List ℕ) → List NamedState
listed known [] = []
listed known (name ∷ names) = listed known names ++ or_none (state_by known name)

-- the name before stands for an equal state
abbrev pub repeats : NamedState → List NamedState → Bool
repeats x [] = false
repeats x (before ∷ earlier) = bytes_eq (state x.signed.state) (state before.signed.state)

-- the states in order, where names that follow each other with equal states are one state
abbrev pub states_of : List NamedState → List StateParts
states_of [] = []
states_of (x ∷ earlier) = if repeats x earlier then states_of earlier else states_of earlier ++ x.signed.state ∷ []

-- what the key's owner signed of them: the signature of the last that it signed, with the place of that state
abbrev pub mark_of : List NamedState → List ℕ → Mark
mark_of [] key = record { place = 255; signature = [] }
mark_of (x ∷ earlier) key = if bytes_eq x.key key then record { place = length (states_of (x ∷ earlier)) - 1; signature = x.signed.signature } else mark_of earlier key

abbrev pub chain_of : FixedParts → List NamedState → Chain
chain_of fixed states = record { fixed = fixed; states = states_of states; marks = map (mark_of states) fixed.keys }
