use Rattle.std.proofs.Common.{List, sym, ◌∙◌, ap}
use Rattle.std.proofs.lemmas.List.{reverse-reverse}
use Rattle.call_history.specs.declared.entry.Entry.{Entry}
use Rattle.call_history.specs.History.{newest_first}
use Rattle.network.proofs.Places.{nobody_changes}
use Rattle.network.specs.Entered.{oldest_first}
use Rattle.network.specs.Members.{sees}
use Rattle.script_race.specs.Driving.{world_of}
use Rattle.script_race.proofs.Nodes.{in_at, changes_at}
use Rattle.script_race.proofs.driver.see.Goals as goal

pub show-requires-clause-followed : goal.show-requires-clause-followed
show-requires-clause-followed g c =
    c.requires.followed c.index_mut-member.result.now (in_at c.args.nodes.now.items c.in-Some.place c.index_mut-member.result.now c.in-Some.ensures.inside c.index_mut-member.ensures.value)

pub returns-in_default-clause-seen : goal.returns-in_default-clause-seen
returns-in_default-clause-seen g c =
    nobody_changes g.P.Party.ways c.args.number (sees g.P.Party.ways (oldest_first (newest_first c.args.seat.now.seen))) (world_of c.args.seat.now.seen c.args.nodes.now.items) c.in_default.ensures.place

pub returns-clause-seen : goal.returns-clause-seen
returns-clause-seen g c =
    changes_at g.P.Party.ways c.args.number c.in-Some.place (sees g.P.Party.ways (oldest_first (newest_first c.args.seat.now.seen))) c.args.seat.now.seen c.args.nodes.now.items
    c.index_mut-member.result.now c.show.new.member c.in-Some.ensures.place c.index_mut-member.ensures.value
    (c.in_ok-show.ensures.seen ∙ ap (λ (l : List Entry). sees g.P.Party.ways l c.index_mut-member.result.now) (sym (reverse-reverse c.args.seat.now.seen)))
