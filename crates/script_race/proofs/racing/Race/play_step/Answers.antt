use Rattle.std.proofs.Common.{◌≡◌, length, sym, ap, subst, arith}
use Rattle.script_race.specs.Races.{FitsRace, DoesAs}
use Rattle.step_meanings.specs.Meanings.{Meaning, meaning}
use Rattle.script_play.proofs.Meant.{meaning_grows}
use Rattle.script_race.proofs.Fitting.{meaning_fits, does_people}
use Rattle.script_race.specs.Driving.{race_of}
use Rattle.script_race.proofs.racing.Race.play_step.Goals as goal

pub do_effect-requires-clause-fits : goal.do_effect-requires-clause-fits
do_effect-requires-clause-fits g c = λ κs out.
    subst (λ (m : Meaning). FitsRace m.effect) (sym c.in_ok-effect.ensures) (meaning_fits c.args.self.now.names c.args.step.now c.requires.fits c.requires.may_race)

pub do_effect-requires-clause-racing : goal.do_effect-requires-clause-racing
do_effect-requires-clause-racing g c = λ κs out. c.requires.racing

pub returns-clause-does : goal.returns-clause-does
returns-clause-does g c =
    let before = race_of (λ b. (goal.Actor-dyn g b).tells b.1) (λ b. (goal.Actor-dyn g b).told b.1) c.args.self.now in
    let after = race_of (λ b. (goal.Actor-dyn g b).tells b.1) (λ b. (goal.Actor-dyn g b).told b.1) c.do_effect.new.self in
    subst (λ (m : Meaning). DoesAs g.P.Party.ways c.args.number m before after) c.in_ok-effect.ensures c.in_ok-do_effect.ensures.does

pub returns-clause-people : goal.returns-clause-people
returns-clause-people g c =
    let names = c.args.self.now.names in
    let before = race_of (λ b. (goal.Actor-dyn g b).tells b.1) (λ b. (goal.Actor-dyn g b).told b.1) (record c.args.self.now { names = c.meet.new.known }) in
    let after = race_of (λ b. (goal.Actor-dyn g b).tells b.1) (λ b. (goal.Actor-dyn g b).told b.1) c.do_effect.new.self in
    let kept : length c.do_effect.new.self.names.people ≡ length c.meet.new.known.people =
    does_people g.P.Party.ways c.args.number c.in_ok-effect.effect before after c.in_ok-do_effect.ensures.does in
    let met : length c.meet.new.known.people ≡ length (meaning names c.args.step.now).names.people =
    ap (λ (m : Meaning). length m.names.people) c.in_ok-effect.ensures in
    omega (arith, kept, met, (meaning_grows names c.args.step.now c.requires.fits).few)
