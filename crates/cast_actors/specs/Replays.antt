-- What an actor that plays old challenges again does.
use Rattle.std.specs.Prelude.{ℕ, Bool, false, ◌&&◌, nat_le, List, length, Option, Some, None, find}
use Rattle.std.specs.List.{list_all}
use Rattle.call_history.specs.declared.call.Call.TheVariants.{Challenge}
use Rattle.call_history.specs.declared.call.Op.{Op}
use Rattle.call_history.specs.declared.call.Op.TheVariants as ops
use Rattle.call_history.specs.declared.entry.Entry.{Entry}
use Rattle.network_rounds.specs.declared.actor.Act.{Act}
use Rattle.network_rounds.specs.declared.actor.Act.TheVariants.{Enter, Rest}

abbrev pub is_short : List ℕ → Bool
is_short signature = nat_le (length signature) 9004

-- a challenge that keeps the limits
abbrev pub is_challenge : Op → Bool
is_challenge (ops.Call (Challenge k)) =
    nat_le (length k.chain.states) 4 && (nat_le (length k.chain.marks) 4
    && (list_all (λ m. is_short m.signature) k.chain.marks && is_short k.signature))
is_challenge _ = false

abbrev pub entering : Op → Act
entering (ops.Call call) = Enter call
entering (ops.Time to) = Rest

abbrev pub entering_if : Option Entry → Act
entering_if None = Rest
entering_if (Some e) = entering e.op

-- the oldest challenge once more, if there is one
abbrev pub replayed : List Entry → Act
replayed entries = entering_if (find (λ e. is_challenge e.op) entries)
