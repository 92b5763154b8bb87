-- The ends of a script that was read, or couldn't be: as a run, and as a race.
use Rattle.std.proofs.Common.{◌≡◌, ℕ, ◌≤◌, ◌<◌, true, false, List, length, Some, None, sym, subst}
use Rattle.std.specs.Io.KnownBytes.{Consumes, IsAtEnd}
use Rattle.byte_streams.specs.OutsideSource.{Rose}
use Rattle.network.specs.Ways.{Ways}
use Rattle.play_report.specs.Reported.{IsPlayed}
use Rattle.script_race.specs.Raced.{IsOfRace}
use Rattle.report_text.specs.declared.report.Report.{Report}
use Rattle.network_rounds.specs.Players.{Player}
use Rattle.script_reader.specs.Script.{IsScript, Breaks}
use Rattle.script_reader.specs.step.Rule.{Rule}
use Rattle.script_reader.specs.step.Step.{Step}
use Rattle.script_run.specs.Run.{Given, Takes, wanted, EndsAs}
use Rattle.script_run.specs.declared.run.Ended.{Ended}
use Rattle.script_run.specs.declared.run.Status.TheVariants.{Done, Script, ReadFault, TooLong, Full}
use Rattle.command_words.specs.declared.asking.Asked.TheVariants.{Run, Race}

module _ {P : Type 0} (ways : Ways P) (cast : List Player) (g : Given) (bytes : List ℕ) (taken : Consumes g.before g.after bytes) (done : IsAtEnd g.after)
    (short : length bytes ≤ 4194304) where
  pub breaks_in_run : wanted g.words ≡ Some Run → (step : ℕ) (rule : Rule) → Breaks false step rule bytes → EndsAs ways cast g (Script step rule) None
  breaks_in_run asks step rule breaks = (false, asks, (bytes, taken, done, short, breaks))

  pub breaks_in_race : wanted g.words ≡ Some Race → (step : ℕ) (rule : Rule) → Breaks true step rule bytes → EndsAs ways cast g (Script step rule) None
  breaks_in_race asks step rule breaks = (true, asks, (bytes, taken, done, short, breaks))

  -- so of what is answered
  pub broken_race : wanted g.words ≡ Some Race → (step : ℕ) (rule : Rule) (e : Ended) → e ≡ record { status = Script step rule; report = None }
      → Breaks true step rule bytes → EndsAs ways cast g e.status e.report
  broken_race asks step rule e is breaks = subst (λ (x : Ended). EndsAs ways cast g x.status x.report) (sym is) (breaks_in_race asks step rule breaks)

  pub plays_in_run : wanted g.words ≡ Some Run → (steps : List Step) (r : Report) → IsScript false bytes steps → IsPlayed ways None r steps → EndsAs ways cast g Done (Some r)
  plays_in_run asks steps r script played = (Run, asks, (bytes, taken, done, short, (steps, script, played)))

  pub plays_in_race : wanted g.words ≡ Some Race → (steps : List Step) (r : Report) → IsScript true bytes steps → IsOfRace ways cast r steps → EndsAs ways cast g Done (Some r)
  plays_in_race asks steps r script raced = (Race, asks, (bytes, taken, done, short, (steps, script, raced)))

  pub full_in_race : wanted g.words ≡ Some Race → (steps : List Step) → IsScript true bytes steps → EndsAs ways cast g Full None
  full_in_race asks steps script = (asks, (bytes, taken, done, short, (steps, script)))

  -- so of what is answered
  pub full_race : wanted g.words ≡ Some Race → (steps : List Step) (e : Ended) → e ≡ record { status = Full; report = None } → IsScript true bytes steps
      → EndsAs ways cast g e.status e.report
  full_race asks steps e is script = subst (λ (x : Ended). EndsAs ways cast g x.status x.report) (sym is) (full_in_race asks steps script)

module _ {P : Type 0} (ways : Ways P) (cast : List Player) (g : Given) where
  pub fails_in_run : wanted g.words ≡ Some Run → Takes g (λ bytes. length bytes ≤ 4194304) → Rose g.faults_before g.faults_after → EndsAs ways cast g ReadFault None
  fails_in_run asks takes rose = (false, asks, (takes, rose))

  pub fails_in_race : wanted g.words ≡ Some Race → Takes g (λ bytes. length bytes ≤ 4194304) → Rose g.faults_before g.faults_after → EndsAs ways cast g ReadFault None
  fails_in_race asks takes rose = (true, asks, (takes, rose))

  pub long_in_run : wanted g.words ≡ Some Run → Takes g (λ bytes. 4194304 < length bytes) → EndsAs ways cast g TooLong None
  long_in_run asks takes = (false, asks, takes)

  pub long_in_race : wanted g.words ≡ Some Race → Takes g (λ bytes. 4194304 < length bytes) → EndsAs ways cast g TooLong None
  long_in_race asks takes = (true, asks, takes)
