-- A history to which ops are entered.
use Rattle.std.specs.Prelude.{ℕ, suc, List, ◌∷◌, length, reverse}
use Rattle.call_history.specs.History.{reply_to}
use Rattle.call_history.specs.declared.call.Op.{Op}
use Rattle.call_history.specs.declared.entry.Entry.{Entry}
use Rattle.support_rules.specs.Real.{real}

-- the entries in the order of time
abbrev pub oldest_first : List Entry → List Entry
oldest_first h = reverse h

-- a history to which an op is entered
abbrev pub entered : List Entry → ℕ → Op → List Entry
entered past by op = record { number = suc (length past); by = by; op = op; reply = reply_to real past op } ∷ past
