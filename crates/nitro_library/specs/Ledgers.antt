-- A ledger that began.
use Rattle.std.specs.Prelude.{ℕ, List, codes, true}
use Rattle.lasting_lines.specs.declared.played.Played.{Played}
use Rattle.lasting_ledger.specs.Ledgers.{line_ways, ledger_ways, unplayed, Foreign}
use Rattle.lasting_ledger.specs.Runs.{ready_text}
use Rattle.lasting_ledger.specs.declared.machine.LedgerMachine.{LedgerMachine}
use Rattle.nitro_library.specs.Beginnings.{IsWhy}
use Rattle.nitro_library.specs.Files.{Begins}
use Rattle.nitro_library.specs.declared.cores.Core.{Core}
use Rattle.nitro_library.specs.declared.opened.OpenedFile.{OpenedFile}
use Rattle.nitro_library.specs.declared.status.Failure.{Failure}

-- the first words of a state file: the program, and the version of its rules
abbrev pub ledger_title : List ℕ
ledger_title = codes "nitro-ledger 1"

abbrev pub ready_of : Played LedgerMachine → List ℕ
ready_of p = ready_text p.count p.mark

-- over the records of its file
abbrev pub ledger_begins : ℕ → List ℕ → Core LedgerMachine → Type 0
ledger_begins n file core = Begins ledger_ways ready_of unplayed n file core

-- why none begins over the bytes of a file
abbrev pub IsWhyNone : OpenedFile → List ℕ → ℕ → Failure → Type 0
IsWhyNone file bytes room failure = IsWhy line_ways Foreign unplayed ledger_title file bytes room true failure
