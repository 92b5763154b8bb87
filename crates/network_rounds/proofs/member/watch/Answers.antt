use Rattle.std.proofs.Common.{refl, ◌∙◌}
use Rattle.network_rounds.proofs.Steps.{none_looked, one_looked, still_followed, same_many, in-get}
use Rattle.network_rounds.proofs.member.watch.Goals as goal

pub loop-place-init : goal.loop-place-init
loop-place-init g c = record { book = refl; followed = c.requires.followed; watchers = refl; done = none_looked g.P.Party.ways _ _ }

pub watch_one-requires-clause-followed : goal.watch_one-requires-clause-followed
watch_one-requires-clause-followed g c κs within l e = c.loop-place.invariant.followed l (in-get g.P.Party.ways _ _ l e)

pub loop-place-preserved : goal.loop-place-preserved
loop-place-preserved g c =
    let i = c.loop-place.invariant in
    let looks = c.in_ok-watch_one.ensures.looks in record {
      book = c.in_ok-watch_one.ensures.book ∙ i.book;
      followed = still_followed g.P.Party.ways _ _ _ _ _ i.followed looks;
      watchers = same_many g.P.Party.ways _ _ _ _ _ looks ∙ i.watchers;
      done = one_looked g.P.Party.ways _ _ _ _ _ _ _ i.done looks;
    }
