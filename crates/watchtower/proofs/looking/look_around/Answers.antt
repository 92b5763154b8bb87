use Rattle.std.proofs.Common.{rules, ◌≡◌, sym, subst}
use Rattle.std.specs.Prelude.{fold}
use Rattle.network.specs.Watching.{Watching, saw}
use Rattle.watchtower.specs.Holding.{AreNoted}
use Rattle.watchtower.specs.Looking.{noted_after}
use Rattle.watchtower.proofs.Opening.{noted_well}
use Rattle.watchtower.proofs.Concerning.{all_concerned}
use Rattle.watchtower.proofs.looking.look_around.Goals as goal

pub returns-clause-all : goal.returns-clause-all
returns-clause-all c clients indexed =
    let seen : c.follow.new.watcher ≡ fold saw c.args.watcher.now c.args.entries.now = search rules in
    let keys : c.in_ok-noted.field-0.keys ≡ noted_after c.follow.new.watcher c.args.noted.now.keys c.args.entries.now = search rules in
    let noted : AreNoted c.follow.new.watcher c.in_ok-noted.field-0.keys =
    subst (λ k. AreNoted c.follow.new.watcher k) (sym keys)
    (subst (λ (w : Watching). AreNoted w (noted_after w c.args.noted.now.keys c.args.entries.now)) (sym seen) (noted_well c.args.watcher.now c.args.noted.now.keys c.args.entries.now c.requires.rising c.requires.noted)) in
    all_concerned c.follow.new.watcher clients c.args.holders.now.channels.keys c.args.holders.now.places.items c.in_ok-noted.field-0.keys c.in_ok-places.places.items indexed noted c.in_ok-places.ensures.all
