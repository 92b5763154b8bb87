use Rattle.std.proofs.Common.{[], refl, ◌∙◌, ap}
use Rattle.network.proofs.Places.{nobody_tells, tells_there}
use Rattle.network.specs.Members.{MemberOf}
use Rattle.script_race.specs.Driving.{world_of}
use Rattle.script_race.proofs.driver.journal.Goals as goal

pub returns-in-None : goal.returns-in-None
returns-in-None g c = nobody_tells g.P.Party.ways c.args.number (world_of [] c.args.nodes.now.items) _ c.in-None.ensures.place refl

pub returns-in-Some : goal.returns-in-Some
returns-in-Some g c =
    tells_there g.P.Party.ways c.args.number c.in-Some.place (world_of [] c.args.nodes.now.items) c.journal.result.now c.index-member.result.now
    c.in-Some.ensures.place c.index-member.ensures (c.journal.ensures ∙ ap (λ (m : MemberOf g.row.P.Denot). g.P.Party.ways.journal m.node) c.member.view_is)
