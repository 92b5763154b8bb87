-- What a load comes to.
use Rattle.std.proofs.Common.{◌≡◌, ℕ, List, Some, subst}
use Rattle.network.specs.Ways.{Ways}
use Rattle.play_report.specs.Reported.{IsPlayed}
use Rattle.report_text.specs.declared.report.Report.{Report}
use Rattle.script_reader.specs.step.Step.{Step}
use Rattle.command_words.specs.declared.asking.Asked.TheVariants.{Load}
use Rattle.script_run.specs.Load.{load_steps}
use Rattle.network_rounds.specs.Players.{Player}
use Rattle.script_run.specs.Run.{Given, IsUnread, EndsAs, made_from, wanted}
use Rattle.script_run.specs.declared.run.Status.TheVariants.{Done}

-- where a load is wanted and nothing was read, it comes to what its script was played to
pub loads_run : {P : Type 0} (ways : Ways P) (cast : List Player) (g : Given) (seed count : ℕ) (r : Report) (steps : List Step)
    → wanted g.words ≡ Some (Load seed count) → IsUnread g → steps ≡ load_steps seed count
    → IsPlayed ways (Some (made_from seed count)) r steps → EndsAs ways cast g Done (Some r)
loads_run ways cast g seed count r steps asks unread same played = (Load seed count, asks, (unread, subst (IsPlayed ways (Some (made_from seed count)) r) same played))
