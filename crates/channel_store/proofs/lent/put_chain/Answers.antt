use Rattle.std.proofs.Common.{rules, ◌<◌, length, ◌∙◌, ap, sym}
use Rattle.std.specs.Option.{option_to_list}
use Rattle.channel_store.proofs.Lists.{chain_inside}
use Rattle.channel_store.proofs.lent.put_chain.Goals as goal

pub index_mut-requires : goal.index_mut-requires
index_mut-requires c =
    let inside : c.held_count-rank.result < length c.args.chains.now.items =
    chain_inside c.args.kept.now c.args.place c.held_count-rank.result c.args.k.now c.args.chains.now.items c.in-Some.chain c.requires.within c.requires.alike
    (ap option_to_list (sym c.in-Some.is) ∙ c.requires.is) c.requires.before c.held_count-rank.ensures.value in
    search rules
