use Rattle.network.proofs.Places.{nobody_changes, nobody_gives, gives_there}
use Rattle.network.specs.Members.{told, accepted}
use Rattle.script_race.specs.Driving.{world_of}
use Rattle.script_race.proofs.Nodes.{changes_at}
use Rattle.script_race.proofs.driver.command.Goals as goal

pub returns-in_default-clause-made : goal.returns-in_default-clause-made
returns-in_default-clause-made g c = λ seen.
    nobody_changes g.P.Party.ways c.args.number (told g.P.Party.ways c.args.step c.args.command) (world_of seen c.args.nodes.now.items) c.in_default.ensures.place

pub returns-in_default-clause-given : goal.returns-in_default-clause-given
returns-in_default-clause-given g c = λ seen.
    nobody_gives g.P.Party.ways c.args.number (λ m. accepted (g.P.Party.ways.answers c.args.command m.node)) (world_of seen c.args.nodes.now.items) _ c.in_default.ensures.place c.no_outs.ensures

pub returns-clause-made : goal.returns-clause-made
returns-clause-made g c = λ seen.
    changes_at g.P.Party.ways c.args.number c.in-Some.place (told g.P.Party.ways c.args.step c.args.command) seen c.args.nodes.now.items
    c.index_mut-member.result.now c.command.new.self c.in-Some.ensures.place c.index_mut-member.ensures.value c.in_ok-outs.ensures.told

pub returns-clause-given : goal.returns-clause-given
returns-clause-given g c = λ seen.
    gives_there g.P.Party.ways c.args.number c.in-Some.place (λ m. accepted (g.P.Party.ways.answers c.args.command m.node)) (world_of seen c.args.nodes.now.items) c.in_ok-outs.outs
    c.index_mut-member.result.now c.in-Some.ensures.place c.index_mut-member.ensures.value c.in_ok-outs.ensures.given
