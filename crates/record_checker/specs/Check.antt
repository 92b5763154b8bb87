-- What a check is asked by, and what it answers.
use Rattle.std.specs.Prelude.{ℕ, List, length, codes}
use Rattle.std.specs.Fmt.{decimal}
use Rattle.report_lines.specs.Text.{◌&◌, ended}
use Rattle.record_checker.specs.Answering.{Asked}

-- the line of a sound record of so many entries
abbrev pub sound_line : (entries : ℕ) → List ℕ
sound_line entries = codes "sound entries" & ended (decimal entries)

-- the one word is `check`, and that line answers a sound record
abbrev pub check_asked : Asked
check_asked =
    record {
      word = codes "check";
      text = λ r. sound_line (length r.history);
    }
