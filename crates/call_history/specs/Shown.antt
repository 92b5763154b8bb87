-- The chain that each entry shows of a channel.
use Rattle.std.specs.Prelude.{ℕ, List, [], ◌∷◌, if◌then◌else◌}
use Rattle.channel_values.specs.Rules.{Rules}
use Rattle.call_history.specs.History.{turning}
use Rattle.call_history.specs.Marked.{Marked, nothing, marked_of, answered}
use Rattle.call_history.specs.declared.call.Call.TheVariants.{Challenge, Respond, Checkpoint, Conclude}
use Rattle.call_history.specs.declared.call.Op.{Op}
use Rattle.call_history.specs.declared.call.Op.TheVariants as ops
use Rattle.call_history.specs.declared.entry.Entry.{Entry}

-- the chain of a challenge, or what was there before
abbrev pub challenge_in : Op → Marked → Marked
challenge_in (ops.Call (Challenge k)) before = marked_of k.chain
challenge_in _ before = before

-- the chain of the channel's last accepted challenge
abbrev pub challenged : Rules → List ℕ → List Entry → Marked
challenged r channel [] = nothing
challenged r channel (e ∷ past) =
    if turning r channel e then challenge_in e.op (challenged r channel past) else challenged r channel past

-- the chain that an op shows where it turns the row: a respond the challenged one with its answer, and a refute none
abbrev pub shown_by : Rules → List ℕ → List Entry → Op → Marked
shown_by r channel past (ops.Call (Challenge k)) = marked_of k.chain
shown_by r channel past (ops.Call (Respond k)) = answered k.fixed k.next (challenged r channel past)
shown_by r channel past (ops.Call (Checkpoint chain)) = marked_of chain
shown_by r channel past (ops.Call (Conclude chain)) = marked_of chain
shown_by r channel past _ = nothing

-- the chain of the channel that the entry after these shows
abbrev pub shown : Rules → List ℕ → List Entry → Entry → Marked
shown r channel past e = if turning r channel e then shown_by r channel past e.op else nothing
