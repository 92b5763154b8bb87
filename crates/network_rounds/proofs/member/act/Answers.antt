use Rattle.std.proofs.Common.{◌∙◌, ap}
use Rattle.channel_values.specs.Digests.{name_of_person}
use Rattle.network_rounds.proofs.Steps.{acts_from}
use Rattle.network_rounds.proofs.member.act.Goals as goal

pub returns-clause-acts : goal.returns-clause-acts
returns-clause-acts g c =
    acts_from g.P.Party.ways c.args.post.now _ c.member.inside.node _ c.member-2.inside.node _ c.member.inside.watchers.items c.member-2.inside.watchers.items _ _ _ _ _ _ _ _ _ _ _ _
    c.member.view_is c.in_ok-entries.ensures.works c.seen-from.ensures c.in_ok-entries.ensures.entries (c.person_name-who.ensures ∙ ap name_of_person c.key.ensures) c.as_slice.ensures.value
    c.in_ok-see.ensures.saw c.in_ok-hear_all.ensures c.member-2.view_is c.in_ok-outs.ensures.ticked c.in_ok-outs.ensures.gives c.number-by.ensures c.into_vec.ensures c.into_vec-2.ensures
    c.in_ok-enter_all.ensures.works
