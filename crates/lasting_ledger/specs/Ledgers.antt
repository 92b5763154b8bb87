-- The ledger as a machine, and the histories that files of its lines stand for.
use Rattle.std.specs.Prelude.{◌≡◌, ℕ, ◌+◌, ◌^◌, nat_lt, is_ok, List, [], ◌∷◌, length, replicate, Result, Ok, Err}
use Rattle.call_history.specs.History.{Legal, IsConserved}
use Rattle.call_history.specs.declared.entry.Entry.{Entry}
use Rattle.support_rules.specs.Real.{real}
use Rattle.network.specs.Entered.{entered}
use Rattle.lasting_lines.specs.Machines.{Ways}
use Rattle.lasting_lines.specs.Batches.{batched}
use Rattle.lasting_lines.specs.Lines.{recovered}
use Rattle.lasting_lines.specs.Serving.{state}
use Rattle.lasting_lines.specs.declared.played.Played.{Played}
use Rattle.lasting_ledger.specs.Events.{◌>>=◌, holds, event_of}
use Rattle.lasting_ledger.specs.Spelling.{entry_answer, error_text}
use Rattle.lasting_ledger.specs.declared.events.Event.{Event}
use Rattle.lasting_ledger.specs.declared.events.Invalid.{Invalid}
use Rattle.lasting_ledger.specs.declared.events.Invalid.TheVariants as faults
use Rattle.lasting_ledger.specs.declared.machine.LedgerMachine.{LedgerMachine}

-- the event that a line is, where the history has room for its entry
abbrev pub taken : List Entry → List ℕ → Result Event Invalid
taken h line = do
  event ← event_of line
  room ← holds faults.Full (nat_lt (length h + 1) (2 ^ 32))
  Ok event

-- the history with the event's entry
abbrev pub entering : List Entry → Result Event Invalid → List Entry
entering h (Ok event) = entered h event.by event.op
entering h (Err fault) = h

abbrev pub newest_answer : List Entry → List ℕ
newest_answer [] = []
newest_answer (e ∷ past) = entry_answer e

-- of one line
abbrev pub line_ways : Ways LedgerMachine
line_ways = record {
  takes = λ m line. is_ok (taken m.ledger line);
  next = λ m line. record { ledger = entering m.ledger (taken m.ledger line) };
  owes = λ m line. newest_answer (entering m.ledger (taken m.ledger line));
}

-- what is written for a line that isn't taken: its error
abbrev pub message_of : Result Event Invalid → List ℕ
message_of (Ok event) = []
message_of (Err fault) = error_text fault

abbrev pub Says : LedgerMachine → List ℕ → List ℕ → Type 0
Says m line text = text ≡ message_of (taken m.ledger line)

-- no line is of another story
abbrev pub Foreign : LedgerMachine → List ℕ → Type 0
Foreign m line = ⊥

-- of the lines that share a record
abbrev pub ledger_ways : Ways LedgerMachine
ledger_ways = batched line_ways

-- ---- files

-- a machine that has taken no line, with a mark of zeros
abbrev pub unplayed : Played LedgerMachine
unplayed = record { machine = record { ledger = [] }; count = 0; mark = replicate 32 0 }

-- the history that a file stands for, the newest entry first
abbrev pub history_in : List ℕ → List Entry
history_in file = (state ledger_ways unplayed (recovered ledger_ways unplayed file)).machine.ledger

-- whatever the file holds, its history is legal
abbrev pub FilesHoldLegalHistories : Type 0
FilesHoldLegalHistories = (file : List ℕ) → Legal real (history_in file)

-- and of each asset, what was deposited is what the channels hold and the persons were paid
abbrev pub FilesConserve : Type 0
FilesConserve = (file : List ℕ) → IsConserved (history_in file)
