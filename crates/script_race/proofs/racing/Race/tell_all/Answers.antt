use Rattle.std.proofs.Common.{take, get_or, refl, sym, ◌∙◌, ap}
use Rattle.std.proofs.lemmas.List.Sums.{fold_more}
use Rattle.script_race.specs.Races.{RaceOf}
use Rattle.script_play.specs.Play.{SceneOf, told}
use Rattle.script_race.proofs.Scenes.{told_on, seen_by_all}
use Rattle.script_race.specs.Driving.{race_of}
use Rattle.script_race.proofs.racing.Race.tell_all.Goals as goal

pub loop-number-init : goal.loop-number-init
loop-number-init g c = record { turns = refl; seated = c.requires.seated }

pub tell-requires-clause-followed : goal.tell-requires-clause-followed
tell-requires-clause-followed g c = λ κs out m i.
    let before = race_of (λ b. (goal.Actor-dyn g b).tells b.1) (λ b. (goal.Actor-dyn g b).told b.1) c.args.self.now in
    let mid = race_of (λ b. (goal.Actor-dyn g b).tells b.1) (λ b. (goal.Actor-dyn g b).told b.1) c.loop-number.self in
    let racing = told_on g.P.Party.ways g.P.Party.stands g.P.Party.lost c.requires.keep c.args.step c.args.order.now (take c.loop-number.number-index c.args.numbers.now) before mid
    c.requires.racing c.loop-number.invariant.turns in
    seen_by_all g.P.Party.ways g.P.Party.stands g.P.Party.lost c.requires.keep mid c.loop-number.self.seat.seen refl racing m i

pub loop-number-preserved : goal.loop-number-preserved
loop-number-preserved g c =
    let before = race_of (λ b. (goal.Actor-dyn g b).tells b.1) (λ b. (goal.Actor-dyn g b).told b.1) c.args.self.now in
    let tell = told g.P.Party.ways c.args.step c.args.order.now in
    let numbers = c.args.numbers.now in
    let i = c.loop-number.number-index in
    record {
      turns = c.in_ok-tell.ensures.turns
          ∙ ap (λ (r : RaceOf g.row.P.Denot). record r { scene = tell r.scene (get_or numbers i 0) }) c.loop-number.invariant.turns
          ∙ ap (λ (s : SceneOf g.row.P.Denot). record before { scene = s }) (sym (fold_more tell before.scene numbers i 0 c.loop-number-test.true));
      seated = c.in_ok-tell.ensures.seated;
    }
