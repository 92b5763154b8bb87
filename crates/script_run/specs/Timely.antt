-- Where two people finished, watchers were in time: nothing was ever challenged.
use Rattle.std.specs.Prelude.{List, reverse}
use Rattle.call_history.specs.declared.entry.Entry.{Entry}
use Rattle.channel_safety.specs.Journals.{Line}
use Rattle.channel_safety.specs.Premises.{InTime}
use Rattle.support_rules.specs.Real.{real}
use Rattle.script_run.specs.TwoPeople.{Pair}
use Rattle.script_run.specs.Whole.{IsWhole}

-- whatever a journal notes
abbrev pub WholesAreInTime : Type 0
WholesAreInTime = (p : Pair) (h : List Entry) (journal : List Line) → IsWhole p (reverse h) → InTime real h journal
