-- What is written for a line that isn't taken.
use Rattle.std.proofs.Common.{◌≡◌, ℕ, List, Err, ◌∙◌, sym, ap}
use Rattle.lasting_ledger.specs.Ledgers.{taken, message_of, Says}
use Rattle.lasting_ledger.specs.Spelling.{error_text}
use Rattle.lasting_ledger.specs.declared.events.Invalid.{Invalid}
use Rattle.lasting_ledger.specs.declared.machine.LedgerMachine.{LedgerMachine}

pub says : (m : LedgerMachine) (line text : List ℕ) (fault : Invalid) → taken m.ledger line ≡ Err fault → text ≡ error_text fault → Says m line text
says m line text fault e is = is ∙ sym (ap message_of e)
