use Rattle.std.proofs.Common.{List, ◌++◌, sym, ◌∙◌, ap}
use Rattle.call_history.specs.History.{newest_first, now_of}
use Rattle.call_history.specs.declared.entry.Entry.{Entry}
use Rattle.network_rounds.specs.Members.{Letter}
use Rattle.script_play.specs.Play.{SceneOf}
use Rattle.script_race.proofs.Scenes.{tells_one}
use Rattle.script_race.specs.Driving.{race_of}
use Rattle.script_race.proofs.racing.Race.tell.Goals as goal

pub see-requires-clause-followed : goal.see-requires-clause-followed
see-requires-clause-followed g c = c.requires.followed

pub returns-clause-turns : goal.returns-clause-turns
returns-clause-turns g c =
    let self = c.args.self.now in
    let before = race_of (λ b. (goal.Actor-dyn g b).tells b.1) (λ b. (goal.Actor-dyn g b).told b.1) self in
    let saw = c.in_ok-see.ensures in
    let sent = c.in_ok-append.ensures.items ∙ ap (λ (l : List Letter). self.crew.post.items ++ l) c.into_vec.ensures in
    ap (λ (s : SceneOf g.row.P.Denot). record before { scene = s })
    (tells_one g.P.Party.ways c.args.step c.args.order.now c.in_ok-copy_command.field-0 c.args.number.now self.names self.seat.seen c.see.new.seat.seen
    self.crew.nodes.items c.see.new.nodes.items c.command.new.nodes.items self.crew.post.items c.append.new.self.items self.rounds c.in_ok-outs.outs
    c.in_ok-copy_command.ensures saw.looked.seen saw.seen c.in_ok-outs.ensures.made c.in_ok-outs.ensures.given sent)

pub returns-clause-seated : goal.returns-clause-seated
returns-clause-seated g c =
    let looked = c.in_ok-see.ensures.looked in
    record {
      book = looked.book ∙ c.requires.seated.book;
      part = looked.part ∙ c.requires.seated.part;
      sound = looked.sound;
      now = c.requires.seated.now ∙ sym (ap (λ (l : List Entry). now_of (newest_first l)) looked.seen);
    }
