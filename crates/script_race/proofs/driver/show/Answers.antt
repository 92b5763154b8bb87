use Rattle.std.proofs.Common.{◌≤◌, length, sym, subst}
use Rattle.network.specs.Members.{MemberOf}
use Rattle.script_race.proofs.Nodes.{room_after, shows}
use Rattle.script_race.proofs.driver.show.Goals as goal

pub see-requires : goal.see-requires
see-requires g c =
    room_after _ c.seen.result c.in_ok-entries.entries.items c.as_slice.result.now c.args.seat.now.seen c.as_slice.ensures.value c.in_ok-entries.ensures.entries c.seen.ensures
    (subst (λ (m : MemberOf g.row.P.Denot). g.P.Party.ways.seen m.node ≤ length c.args.seat.now.seen) (sym c.member.view_is) c.requires.followed) c.requires.sound.few

pub returns-clause-seen : goal.returns-clause-seen
returns-clause-seen g c =
    shows g.P.Party.ways c.member.inside.node c.see.new.self c.member.inside.watchers.items _ c.seen.result c.in_ok-entries.entries.items c.as_slice.result.now c.args.seat.now.seen
    c.member.view_is c.as_slice.ensures.value c.in_ok-entries.ensures.entries c.seen.ensures c.in_ok-see.ensures.saw
