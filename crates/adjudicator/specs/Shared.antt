-- The adjudicator as an object of one thread: the entry of an op after a history in the order of time.
use Rattle.std.specs.Prelude.{ℕ, Bool, ◌&&◌, nat_le, List}
use Rattle.channel_values.specs.Rules.{Rules}
use Rattle.call_history.specs.History.{newest_first, reply_to, Legal}
use Rattle.call_history.specs.declared.call.Op.{Op}
use Rattle.call_history.specs.declared.entry.Entry.{Entry}
use Rattle.support_rules.specs.Real.{real}
use Rattle.shared_object.specs.History.{IsLegal}
use Rattle.adjudicator.specs.Standing.{Standing}

abbrev pub entry_after : Rules → List Entry → ℕ → ℕ → Op → Entry
entry_after r h number by op = record { number = number; by = by; op = op; reply = reply_to r (newest_first h) op }

-- there is room for what one op adds
abbrev pub has_room : Standing → Bool
has_room s = nat_le 1 s.room && (nat_le 1 s.funds.room && nat_le 1 s.items.room)

-- a book's histories, in the order of time, are those of the adjudicator
abbrev pub SharedHistoriesAreLegal : Type 0
SharedHistoriesAreLegal = (h : List Entry) → IsLegal (entry_after real) h → Legal real (newest_first h)
