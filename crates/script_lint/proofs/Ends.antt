-- Why a lint ends as it does.
use Rattle.std.proofs.Common.{◌≡◌, ◌≤◌, ◌<◌, ℕ, List, length, Bool, Some}
use Rattle.std.specs.Prelude.{codes}
use Rattle.std.specs.Io.KnownBytes.{Consumes, IsAtEnd}
use Rattle.byte_streams.specs.OutsideSource.{Rose}
use Rattle.report_lines.specs.Text.{ended}
use Rattle.script_reader.specs.Script.{IsScript, Breaks}
use Rattle.script_steps.specs.declared.step.Rule.{Rule}
use Rattle.script_steps.specs.declared.step.Step.{Step}
use Rattle.script_lint.specs.Linting.{EndsAs, Given, Takes, asked, broken_line, sound_line}
use Rattle.script_lint.specs.declared.lint.Status.TheVariants.{Done, Script, ReadFault, TooLong}

module _ (g : Given) (bytes : List ℕ) (race : Bool) (asks : asked g.words ≡ Some race) (taken : Consumes g.before g.after bytes) (done : IsAtEnd g.after)
    (short : length bytes ≤ 4194304) where
  pub sound_end : (steps : List Step) (text : List ℕ) → IsScript race bytes steps → text ≡ sound_line (length steps) → EndsAs g Done text
  sound_end steps text script told = (race, asks, (bytes, taken, done, short, (steps, script, told)))

  pub broken_end : (step : ℕ) (rule : Rule) (text : List ℕ) → Breaks race step rule bytes → text ≡ broken_line step rule → EndsAs g (Script step rule) text
  broken_end step rule text breaks told = ((race, asks, (bytes, taken, done, short, breaks)), told)

module _ (g : Given) (race : Bool) (asks : asked g.words ≡ Some race) where
  pub cut_end : (text : List ℕ) → Takes g (λ bytes. length bytes ≤ 4194304) → Rose g.faults_before g.faults_after → text ≡ ended (codes "read fault") → EndsAs g ReadFault text
  cut_end text takes rose told = ((race, asks, (takes, rose)), told)

  pub long_end : (text : List ℕ) → Takes g (λ bytes. 4194304 < length bytes) → text ≡ ended (codes "too long") → EndsAs g TooLong text
  long_end text takes told = ((race, asks, takes), told)
