-- The lines that report a fault of bytes, and what is wrong with a record.
use Rattle.std.specs.Prelude.{ℕ, List, [], codes}
use Rattle.std.specs.Fmt.{decimal}
use Rattle.channel_values.specs.declared.fault.ByteFault.{ByteFault}
use Rattle.channel_values.specs.declared.fault.ByteFault.TheVariants as faults
use Rattle.report_lines.specs.Text.{◌&◌, ended}
use Rattle.record_checker.specs.declared.checking.Verdict.{Verdict}
use Rattle.record_checker.specs.declared.checking.Verdict.TheVariants as verdicts

-- the number of a fault of bytes, and its place
abbrev pub fault_text : ByteFault → List ℕ
fault_text (faults.Cut place) = codes "1" & decimal place
fault_text (faults.BadTag place) = codes "2" & decimal place
fault_text (faults.OverLimit place) = codes "3" & decimal place
fault_text (faults.Unordered place) = codes "4" & decimal place
fault_text (faults.Doubled place) = codes "5" & decimal place
fault_text (faults.TotalTooLarge place) = codes "6" & decimal place
fault_text (faults.Trailing place) = codes "7" & decimal place
fault_text faults.NoMemory = []

abbrev pub fault_line : ByteFault → List ℕ
fault_line fault = codes "bytes" & ended (fault_text fault)

abbrev pub verdict_text : Verdict → List ℕ
verdict_text verdicts.Sound = codes "sound"
verdict_text (verdicts.Reply k) = codes "reply" & decimal k
verdict_text (verdicts.Sums i) = codes "sums" & decimal i
verdict_text (verdicts.Plan i) = codes "plan" & decimal i
verdict_text (verdicts.Share i) = codes "share" & decimal i

abbrev pub verdict_line : Verdict → List ℕ
verdict_line verdict = ended (verdict_text verdict)
