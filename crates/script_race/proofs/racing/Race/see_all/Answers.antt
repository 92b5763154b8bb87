use Rattle.std.proofs.Common.{List, take, fold, refl, sym, ◌∙◌, ap}
use Rattle.call_history.specs.History.{newest_first, now_of}
use Rattle.call_history.specs.declared.entry.Entry.{Entry}
use Rattle.network.specs.Worlds.{WorldOf}
use Rattle.step_meanings.specs.declared.people.Person.{Person}
use Rattle.script_race.proofs.Scenes.{seen_on}
use Rattle.script_race.specs.Driving.{race_of, world_of}
use Rattle.script_play.specs.Rounds.{seen_by}
use Rattle.script_race.proofs.racing.Race.see_all.Goals as goal

pub see_all-requires-clause-followed : goal.see_all-requires-clause-followed
see_all-requires-clause-followed g c = λ count m i.
    let before = race_of (λ b. (goal.Actor-dyn g b).tells b.1) (λ b. (goal.Actor-dyn g b).told b.1) c.args.self.now in
    seen_on g.P.Party.ways g.P.Party.stands g.P.Party.lost c.requires.keep (take count c.as_slice-people.result.now) before c.args.self.now.seat.seen refl c.requires.racing m i

pub returns-clause-turns : goal.returns-clause-turns
returns-clause-turns g c =
    let ways = g.P.Party.ways in
    let self = c.args.self.now in
    let before = race_of (λ b. (goal.Actor-dyn g b).tells b.1) (λ b. (goal.Actor-dyn g b).told b.1) self in
    let saw = c.in_ok-see_all.ensures in
    let world =
    ap (λ (l : List Entry). world_of l c.see_all.new.nodes.items) saw.looked.seen
    ∙ saw.seen
    ∙ ap (λ (l : List Person). fold (seen_by ways) (world_of self.seat.seen self.crew.nodes.items) l) c.as_slice-people.ensures.all in
    ap (λ (w : WorldOf g.row.P.Denot). record before { scene = record before.scene { world = w } }) world

pub returns-clause-seated : goal.returns-clause-seated
returns-clause-seated g c =
    let looked = c.in_ok-see_all.ensures.looked in
    record {
      book = looked.book ∙ c.requires.seated.book;
      part = looked.part ∙ c.requires.seated.part;
      sound = looked.sound;
      now = c.requires.seated.now ∙ sym (ap (λ (l : List Entry). now_of (newest_first l)) looked.seen);
    }
