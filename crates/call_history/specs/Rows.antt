-- One channel's row, and what an accepted turning call makes of it.
use Rattle.std.specs.Prelude.{ℕ, ◌+◌, Bool, List, replicate, nat_le, nat_lt, Option, Some, None}
use Rattle.channel_values.specs.Parts.{FixedParts}
use Rattle.channel_values.specs.declared.chain.Chain.{Chain}
use Rattle.channel_values.specs.Rules.{Rules, top_turn, top_outcome, top_digest}
use Rattle.call_history.specs.declared.call.Call.TheVariants.{Challenge, Respond, Refute, Checkpoint, Conclude}
use Rattle.call_history.specs.declared.call.Op.{Op}
use Rattle.call_history.specs.declared.call.Op.TheVariants as ops
use Rattle.call_history.specs.declared.row.Row.{Row}
use Rattle.call_history.specs.declared.standing.Standing.{Standing}
use Rattle.call_history.specs.declared.standing.Standing.TheVariants.{Challenged}

-- a digest that stands for none: 32 zeros
abbrev pub no_digest : List ℕ
no_digest = replicate 32 0

-- of a channel that no turning call named
abbrev pub blank : Row
blank = record { turn = 0; deadline = None; state_digest = no_digest; outcome_digest = no_digest; challenger = 0 }

abbrev pub row_or_blank : Option Row → Row
row_or_blank None = blank
row_or_blank (Some row) = row

-- a challenge at this turn comes too late
abbrev pub is_stale : Standing → ℕ → ℕ → Bool
is_stale Challenged recorded turn = nat_le turn recorded
is_stale _ recorded turn = nat_lt turn recorded

-- the rows after accepted calls
abbrev pub after_challenge : Rules → ℕ → Chain → ℕ → Row
after_challenge r now chain who =
    record {
      turn = top_turn chain.states;
      deadline = Some (now + chain.fixed.duration);
      state_digest = top_digest r chain.fixed chain.states;
      outcome_digest = r.outcome_digest (top_outcome chain.states);
      challenger = who;
    }

-- after a respond and a checkpoint
abbrev pub after_turn : ℕ → Row → Row
after_turn turn row = record row { turn = turn; deadline = None }

abbrev pub after_refute : Row → Row
after_refute row = record row { deadline = None }

abbrev pub after_conclude : Rules → ℕ → Chain → Row → Row
after_conclude r now chain row =
    record {
      turn = top_turn chain.states;
      deadline = Some now;
      state_digest = top_digest r chain.fixed chain.states;
      outcome_digest = r.outcome_digest (top_outcome chain.states);
      challenger = row.challenger;
    }

-- the fixed part of a turning call
abbrev pub fixed_of : Op → Option FixedParts
fixed_of (ops.Call (Challenge k)) = Some k.chain.fixed
fixed_of (ops.Call (Respond k)) = Some k.fixed
fixed_of (ops.Call (Refute fixed next)) = Some fixed
fixed_of (ops.Call (Checkpoint chain)) = Some chain.fixed
fixed_of (ops.Call (Conclude chain)) = Some chain.fixed
fixed_of _ = None

-- the row after an accepted turning call, from the time and the row before it
abbrev pub turned : Rules → ℕ → Op → Row → Row
turned r now (ops.Call (Challenge k)) row = after_challenge r now k.chain k.challenger
turned r now (ops.Call (Respond k)) row = after_turn k.next.state.turn row
turned r now (ops.Call (Refute fixed next)) row = after_refute row
turned r now (ops.Call (Checkpoint chain)) row = after_turn (top_turn chain.states) row
turned r now (ops.Call (Conclude chain)) row = after_conclude r now chain row
turned r now _ row = row
