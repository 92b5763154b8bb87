-- The whole text of a report.
use Rattle.std.specs.Prelude.{ℕ, List, ◌++◌, Option, Some, None, codes, flat_map}
use Rattle.std.specs.Fmt.{decimal}
use Rattle.call_history.specs.History.{flows_of}
use Rattle.run_record.specs.declared.run_record.Record.{Record}
use Rattle.report_text.specs.People.{all_refused, command_lines}
use Rattle.report_text.specs.Shares.{person_lines}
use Rattle.report_lines.specs.Text.{◌&◌, ended, entry_line, end_line, balance_lines}
use Rattle.report_text.specs.declared.report.Load.{Load}
use Rattle.report_text.specs.declared.report.Report.{Report}

abbrev pub load_line : Load → List ℕ
load_line load = codes "load seed" & decimal load.seed & codes "count" & ended (decimal load.count)

-- the entries and the refused commands; of a load one line in their place
abbrev pub deed_lines : Option Load → Report → List ℕ
deed_lines None r = flat_map (entry_line r.labels) r.history ++ command_lines r.labels (all_refused r.journals)
deed_lines (Some load) r = load_line load

-- what stands after those
abbrev pub tail_of : Report → List ℕ
tail_of r =
    end_line r.history
    ++ balance_lines r.labels (flows_of r.history)
    ++ flat_map (person_lines r.labels (flows_of r.history) r.shares r.exits) r.premises

abbrev pub text_of : Report → List ℕ
text_of r = deed_lines r.load r ++ tail_of r

-- the record of the run, for somebody who checks it
abbrev pub record_from : Report → Record
record_from r = record { history = r.history; sums = r.sums; ends = r.ends }
