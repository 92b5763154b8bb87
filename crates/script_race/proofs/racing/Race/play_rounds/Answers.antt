use Rattle.std.proofs.Common.{◌≡◌, ℕ, refl, subst, arith}
use Rattle.script_race.specs.Races.{RunsRounds}
use Rattle.script_race.proofs.Scenes.{raced_on, one_round_more}
use Rattle.script_race.specs.Driving.{race_of}
use Rattle.script_race.proofs.racing.Race.play_rounds.Goals as goal

pub loop-round-init : goal.loop-round-init
loop-round-init g c = record { ran = refl; seated = c.requires.seated }

pub round-requires-clause-racing : goal.round-requires-clause-racing
round-requires-clause-racing g c = λ κs out.
    let before = race_of (λ b. (goal.Actor-dyn g b).tells b.1) (λ b. (goal.Actor-dyn g b).told b.1) c.args.self.now in
    let mid = race_of (λ b. (goal.Actor-dyn g b).tells b.1) (λ b. (goal.Actor-dyn g b).told b.1) c.loop-round.self in
    raced_on g.P.Party.ways g.P.Party.stands g.P.Party.lost c.requires.keep c.loop-round.round before mid c.requires.racing c.loop-round.invariant.ran

pub loop-round-preserved : goal.loop-round-preserved
loop-round-preserved g c =
    let before = race_of (λ b. (goal.Actor-dyn g b).tells b.1) (λ b. (goal.Actor-dyn g b).told b.1) c.args.self.now in
    let mid = race_of (λ b. (goal.Actor-dyn g b).tells b.1) (λ b. (goal.Actor-dyn g b).told b.1) c.loop-round.self in
    let after = race_of (λ b. (goal.Actor-dyn g b).tells b.1) (λ b. (goal.Actor-dyn g b).told b.1) c.round.new.self in
    record {
      ran = one_round_more g.P.Party.ways g.P.Party.stands g.P.Party.lost c.requires.keep c.loop-round.round _ before mid after refl c.loop-round.invariant.ran c.in_ok-round.ensures.ran;
      seated = c.in_ok-round.ensures.seated;
    }

pub returns-clause-ran : goal.returns-clause-ran
returns-clause-ran g c =
    let before = race_of (λ b. (goal.Actor-dyn g b).tells b.1) (λ b. (goal.Actor-dyn g b).told b.1) c.args.self.now in
    let last = race_of (λ b. (goal.Actor-dyn g b).tells b.1) (λ b. (goal.Actor-dyn g b).told b.1) c.loop-round.self in
    let all : c.loop-round.round ≡ c.args.count = omega (arith, c.loop-round.auto.round-end, c.loop-round-test.false) in
    subst (λ (n : ℕ). RunsRounds g.P.Party.ways n before last) all c.loop-round.invariant.ran
