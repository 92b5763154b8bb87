use Rattle.std.proofs.Common.{[]}
use Rattle.thread_tests.proofs.Fresh.{follows_nothing}
use Rattle.thread_tests.proofs.crews.member.Goals as goal

pub returns : goal.returns
returns g c = follows_nothing g.P.Party.ways _ (g.met.P.Party.within [] _ (c.in-Ok.ensures.stands [])) c.new-watchers.ensures.items
