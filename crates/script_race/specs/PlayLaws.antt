-- Races of scripts, as the laws of races have them.
use Rattle.std.specs.Prelude.{◌≡◌, ℕ, Bool, List}
use Rattle.call_history.specs.declared.entry.Entry.{Entry}
use Rattle.network.specs.Ways.{Ways}
use Rattle.network_rounds.specs.Journals.{WritesJournals}
use Rattle.network_rounds.specs.Races.{IsRacing}
use Rattle.step_meanings.specs.declared.effect.Effect.{Effect}
use Rattle.script_play.specs.Play.{at_end}
use Rattle.network.specs.Standing.{AreKept}
use Rattle.script_race.specs.Races.{RaceOf, stage_of, FitsRace, Does}

-- A race stays one, whatever the steps of a script do in it, and after its nodes have seen the end. Nodes keep what
-- they must and write their journals.
pub record StepsKeepRaces {P : Type 0} (ways : Ways P) (stands : List Entry → P → Type 0) (lost : P → Bool) : Type 0 where
  pub does : (step : ℕ) (effect : Effect) (s t : RaceOf P) → FitsRace effect → IsRacing ways stands lost (stage_of s) → Does ways step effect s t
      → IsRacing ways stands lost (stage_of t)
  pub ends : (s : RaceOf P) → IsRacing ways stands lost (stage_of s) → IsRacing ways stands lost (stage_of (record s { scene = at_end ways s.scene }))

abbrev pub RacesOfScriptsStay : {P : Type 0} → Ways P → (stands : List Entry → P → Type 0) → Type 0
RacesOfScriptsStay {P} ways stands = (lost : P → Bool) → AreKept ways stands → WritesJournals ways lost → StepsKeepRaces ways stands lost
