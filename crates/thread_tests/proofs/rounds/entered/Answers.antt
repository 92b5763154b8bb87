use Rattle.std.proofs.Common.{List, All, sym, ap, subst}
use Rattle.shared_object.specs.Caller.{Caller}
use Rattle.call_history.specs.declared.entry.Entry.{Entry}
use Rattle.network_rounds.specs.Members.{HasFollowed}
use Rattle.thread_tests.proofs.rounds.entered.Goals as goal

pub race_round-requires-clause-followed : goal.race_round-requires-clause-followed
race_round-requires-clause-followed g c κs within =
    let seen = ap (λ (c : Caller Entry). c.seen) c.in-Ok.ensures in
    subst (λ (h : List Entry). All (HasFollowed g.P.Party.ways h) c.args.crew.now.nodes.items) (sym seen) c.requires
