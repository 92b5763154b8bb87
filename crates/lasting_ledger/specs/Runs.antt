-- A run of the service, over the bytes that its file held when it began.
use Rattle.std.specs.Prelude.{◌≡◌, ℕ, ◌^◌, ◌-◌, List, [], ◌++◌, codes, decimal, Option, unwrap_or}
use Rattle.hex.specs.Hex.{encode_lower}
use Rattle.lasting_lines.specs.Files.{Op}
use Rattle.lasting_lines.specs.Lines.{recovered}
use Rattle.lasting_lines.specs.Serving.{state, Always, Ready}
use Rattle.lasting_lines.specs.Opening.{owed_to, IsPlayed}
use Rattle.lasting_lines.specs.declared.played.Played.{Played}
use Rattle.lasting_ledger.specs.Ledgers.{ledger_ways, unplayed}
use Rattle.lasting_ledger.specs.declared.machine.LedgerMachine.{LedgerMachine}

-- the line that is written before the first line is read
unfoldable pub ready_text : ℕ → List ℕ → List ℕ
ready_text count mark =
    codes "{\"effect\":\"ready\",\"n\":" ++ (decimal count
    ++ (codes ",\"mark\":\"" ++ (encode_lower mark ++ codes "\"}\n")))

-- the number up to which responses are left out
abbrev pub last_left_out : Option ℕ → ℕ
last_left_out after = unwrap_or after (2 ^ 64 - 1)

-- how many records a file has
abbrev pub count_in : List ℕ → ℕ
count_in file = (state ledger_ways unplayed (recovered ledger_ways unplayed file)).count

-- the responses to the records of a file with numbers up to n
abbrev pub left_out : ℕ → List ℕ → List ℕ
left_out n file = owed_to ledger_ways n unplayed (recovered ledger_ways unplayed file)

-- At each moment, whatever a crash leaves of the file explains what was written after the responses up to n.
abbrev pub IsExplained : ℕ → List ℕ → List Op → Type 0
IsExplained n file ops = Always ledger_ways unplayed (left_out n file) file ops

-- All lines that were taken are on the disk, all responses are written, and the ledger is where the file leaves it.
abbrev pub IsAnswered : ℕ → List ℕ → List Op → Played LedgerMachine → Type 0
IsAnswered n file ops played = Ready ledger_ways unplayed (left_out n file) file ops played

-- Where a file was played, the run is ready at its end.
abbrev pub EndsReady : Played LedgerMachine → List ℕ → List Op → List Op → Played LedgerMachine → Type 0
EndsReady old again ops ops' new =
    (p : Played LedgerMachine) (start : List ℕ) (n : ℕ) → ops ≡ [] → IsPlayed ledger_ways p start n old again
    → Ready ledger_ways p (owed_to ledger_ways n p (recovered ledger_ways p start)) start ops' new
