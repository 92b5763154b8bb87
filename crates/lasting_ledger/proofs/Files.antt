-- The histories that files stand for.
use Rattle.std.proofs.Common.{ℕ, List, [], ◌∷◌, Result, Ok, Err, refl}
use Rattle.call_history.specs.History.{Legal}
use Rattle.call_history.specs.declared.entry.Entry.{Entry}
use Rattle.call_history.proofs.Conservation.{conserved}
use Rattle.support_rules.specs.Real.{real}
use Rattle.lasting_lines.specs.Batches.{parts, next_all}
use Rattle.lasting_lines.specs.Lines.{after, recovered}
use Rattle.lasting_lines.specs.Serving.{state}
use Rattle.lasting_lines.specs.declared.played.Played.{Played}
use Rattle.lasting_ledger.specs.Ledgers.{taken, entering, line_ways, ledger_ways, unplayed, history_in, FilesHoldLegalHistories, FilesConserve}
use Rattle.lasting_ledger.specs.declared.events.Event.{Event}
use Rattle.lasting_ledger.specs.declared.events.Invalid.{Invalid}
use Rattle.lasting_ledger.specs.declared.machine.LedgerMachine.{LedgerMachine}

entering_legal : (h : List Entry) (o : Result Event Invalid) → Legal real h → Legal real (entering h o)
entering_legal h (Ok event) legal = (legal, refl, refl)
entering_legal h (Err fault) legal = legal

lines_legal : (m : LedgerMachine) (lines : List (List ℕ)) → Legal real m.ledger → Legal real (next_all line_ways m lines).ledger
lines_legal m [] legal = legal
lines_legal m (line ∷ lines) legal = lines_legal (line_ways.next m line) lines (entering_legal m.ledger (taken m.ledger line) legal)

state_legal : (p : Played LedgerMachine) (batches : List (List ℕ))
    → Legal real p.machine.ledger → Legal real (state ledger_ways p batches).machine.ledger
state_legal p [] legal = legal
state_legal p (batch ∷ batches) legal =
    state_legal (after ledger_ways p batch) batches (lines_legal p.machine (parts batch) legal)

pub files_hold_legal_histories : FilesHoldLegalHistories
files_hold_legal_histories file = state_legal unplayed (recovered ledger_ways unplayed file) tt

pub files_conserve : FilesConserve
files_conserve file = conserved real (history_in file) (files_hold_legal_histories file)
