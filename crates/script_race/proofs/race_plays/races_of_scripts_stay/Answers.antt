-- A race of a script stays a race.
use Rattle.script_race.proofs.Staying.{does_stays, ends_stay}
use Rattle.script_race.proofs.race_plays.races_of_scripts_stay.Goals as goal

pub returns : goal.returns
returns g c = λ lost kept writes.
    record {
      does = λ step effect s t fits is e. does_stays g.P.Party.ways g.P.Party.stands lost kept writes step effect s t fits is e;
      ends = λ s is. ends_stay g.P.Party.ways g.P.Party.stands lost kept writes s is;
    }
