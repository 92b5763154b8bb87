-- The entries of the two deposits.
use Rattle.std.specs.Prelude.{ℕ, ◌+◌, List, [], ◌∷◌}
use Rattle.channel_values.specs.Rules.{Rules}
use Rattle.call_history.specs.Calls.{make_deposit}
use Rattle.call_history.specs.declared.call.Call.{Call}
use Rattle.call_history.specs.declared.call.Op.TheVariants as ops
use Rattle.call_history.specs.declared.entry.Entry.{Entry}
use Rattle.call_history.specs.declared.refusal.Reply.{Reply}
use Rattle.call_history.specs.declared.refusal.Reply.TheVariants.{Held}
use Rattle.script_run.specs.TwoPeople.{Pair, name}

abbrev pub entry : ℕ → ℕ → Call → Reply → Entry
entry number by call reply = record { number = number; by = by; op = ops.Call call; reply = reply }

abbrev pub first_entry : Rules → Pair → ℕ → Entry
first_entry r p by = entry 1 by (make_deposit (name r p) p.asset 0 p.a) (Held (0 + p.a))

abbrev pub second_entry : Rules → Pair → ℕ → Entry
second_entry r p by = entry 2 by (make_deposit (name r p) p.asset p.a p.b) (Held (p.a + p.b))

-- the first deposits, and then the second
abbrev pub deposits : Rules → Pair → List Entry
deposits r p = second_entry r p 2 ∷ first_entry r p 1 ∷ []
