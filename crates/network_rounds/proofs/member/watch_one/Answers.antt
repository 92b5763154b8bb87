use Rattle.std.proofs.Common.{refl}
use Rattle.network_rounds.proofs.Steps.{looks_from, at-place}
use Rattle.network_rounds.proofs.member.watch_one.Goals as goal

pub returns-clause-looks : goal.returns-clause-looks
returns-clause-looks g c =
    looks_from g.P.Party.ways c.args.place c.member.inside.node _ c.member.inside.watchers.items _ _ _ _ _ _ _ _ _ _ _
    c.member.view_is c.in_ok-entries.ensures.works refl c.in_ok-entries.ensures.entries
    (at-place g.P.Party.ways _ _ _ c.member.view_is c.requires.place c.index_mut-lookout.ensures.value) c.as_slice.ensures.value c.in_ok-calls.ensures.followed
    c.in_ok-calls.ensures.calls c.in_ok-calls.ensures.watched c.number-by.ensures c.in_ok-enter_all.ensures.works
