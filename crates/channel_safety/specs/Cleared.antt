-- How many challenges of a participant are cleared: followed by another turning entry than a conclude before they run
-- out.
use Rattle.std.specs.Prelude.{ℕ, suc, ◌==◌, Bool, true, false, not, ◌&&◌, List, [], ◌∷◌, if◌then◌else◌}
use Rattle.call_history.specs.Mode.{is_challenged}
use Rattle.channel_values.specs.Rules.{Rules}
use Rattle.call_history.specs.History.{turning, row, mode}
use Rattle.call_history.specs.declared.call.Call.TheVariants.{Conclude}
use Rattle.call_history.specs.declared.call.Op.{Op}
use Rattle.call_history.specs.declared.call.Op.TheVariants as ops
use Rattle.call_history.specs.declared.entry.Entry.{Entry}

abbrev pub is_conclude : Op → Bool
is_conclude (ops.Call (Conclude chain)) = true
is_conclude _ = false

-- the entry clears a challenge of the participant at this position, which is open
abbrev pub clears : Rules → List ℕ → ℕ → List Entry → Entry → Bool
clears r channel me past e =
    (turning r channel e && not (is_conclude e.op))
    && (is_challenged (mode r channel past) && ((row r channel past).challenger == me))

abbrev pub cleared : Rules → List ℕ → ℕ → List Entry → ℕ
cleared r channel me [] = 0
cleared r channel me (e ∷ past) =
    if clears r channel me past e then suc (cleared r channel me past) else cleared r channel me past
