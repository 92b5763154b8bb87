use Rattle.std.proofs.Common.{rules, ◌≡◌, [], ◌∷◌, ◌++◌, false, length}
use Rattle.std.specs.List.{list_any}
use Rattle.std.specs.Str.{bytes_eq}
use Rattle.watchtower.proofs.Kept.{inserted_kept}
use Rattle.watchtower.proofs.holders.Holders.index_for.Goals as goal

pub returns-clause-kept : goal.returns-clause-kept
returns-clause-kept c =
    let paired : length c.args.self.now.places.items ≡ length c.args.self.now.channels.keys = search rules in
    let absent : list_any (bytes_eq c.args.channel) c.args.self.now.channels.keys ≡ false = search rules in
    let items : c.push_reserved.new.self.items ≡ c.args.self.now.places.items ++ [] ∷ [] = search rules in
    inserted_kept c.args.self.now.channels.keys c.args.self.now.places.items c.insert_full.new.self.keys c.push_reserved.new.self.items c.args.channel paired absent c.in_ok-index.ensures.keys items
