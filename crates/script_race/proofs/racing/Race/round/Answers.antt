use Rattle.std.proofs.Common.{refl, sym, ◌∙◌, arith}
use Rattle.network_rounds.proofs.Whole.{runs_are_rounds}
use Rattle.script_race.proofs.Lasting.{early_by_now, all_followed}
use Rattle.script_race.proofs.Timing.{count_before, time_stays, time_next, round_runs}
use Rattle.script_race.specs.Driving.{race_of}
use Rattle.script_race.proofs.racing.Race.round.Goals as goal

pub race_round-requires-clause-followed : goal.race_round-requires-clause-followed
race_round-requires-clause-followed g c = λ κs out.
    let before = race_of (λ b. (goal.Actor-dyn g b).tells b.1) (λ b. (goal.Actor-dyn g b).told b.1) c.args.self.now in
    all_followed g.P.Party.ways g.P.Party.stands g.P.Party.lost c.requires.keep before c.args.self.now.seat.seen refl c.requires.racing

pub overflow_add-now : goal.overflow_add-now
overflow_add-now g c =
    let before = race_of (λ b. (goal.Actor-dyn g b).tells b.1) (λ b. (goal.Actor-dyn g b).told b.1) c.args.self.now in
    omega (arith, c.requires.seated.now, early_by_now g.P.Party.ways g.P.Party.stands g.P.Party.lost before c.args.self.now.seat.seen refl c.requires.racing, c.requires.seated.sound.few)

pub enter-requires-clause-part : goal.enter-requires-clause-part
enter-requires-clause-part g c = λ κs out.
    (runs_are_rounds g.row.P.Denot g.P.Party.ways _ _ c.args.self.now.seat c.race_round.new.seat c.requires.seated.sound c.requires.seated.part c.in_ok-race_round.ensures.runs).2

pub returns-clause-ran : goal.returns-clause-ran
returns-clause-ran g c =
    let ways = g.P.Party.ways in
    let self = c.args.self.now in
    let later = c.race_round.new.seat in
    let last = c.enter.new.seat in
    let ran = runs_are_rounds g.row.P.Denot ways _ _ self.seat later c.requires.seated.sound c.requires.seated.part c.in_ok-race_round.ensures.runs in
    let entered = c.in_ok-number.ensures.entered.seen in
    round_runs ways self.names _ _ self.rounds c.push.new.self self.seat.seen later.seen last.seen self.now _ c.requires.seated.now ran.0
    (omega (arith, ran.1.few)) entered (count_before later.seen last.seen _ _ c.in_ok-number.ensures.number entered) c.in_ok-push.ensures.ok

pub returns-clause-seated : goal.returns-clause-seated
returns-clause-seated g c =
    let ways = g.P.Party.ways in
    let self = c.args.self.now in
    let before = race_of (λ b. (goal.Actor-dyn g b).tells b.1) (λ b. (goal.Actor-dyn g b).told b.1) self in
    let later = c.race_round.new.seat in
    let last = c.enter.new.seat in
    let ran = runs_are_rounds g.row.P.Denot ways _ _ self.seat later c.requires.seated.sound c.requires.seated.part c.in_ok-race_round.ensures.runs in
    let entered = c.in_ok-number.ensures.entered in
    let low = early_by_now ways g.P.Party.stands g.P.Party.lost before self.seat.seen refl c.requires.racing in
    record {
      book = entered.book ∙ c.in_ok-race_round.ensures.book ∙ c.requires.seated.book;
      part = entered.part ∙ ran.2;
      sound = entered.sound;
      now = sym (time_next later.seen last.seen self.now (c.requires.seated.now ∙ sym (time_stays ways _ _ self.seat.seen later.seen ran.0))
          (omega (arith, c.requires.seated.now, low, c.requires.seated.sound.few)) entered.seen);
    }
