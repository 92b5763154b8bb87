use Rattle.std.proofs.Common.{[], ◌∙◌}
use Rattle.network_rounds.specs.Members.{HasFollowed}
use Rattle.thread_tests.proofs.Fresh.{all_of_one}
use Rattle.thread_tests.proofs.crews.mixed.Goals as goal

pub returns : goal.returns
returns g c = all_of_one (HasFollowed g.P.Party.ways []) _ _ (c.crew.ensures ∙ c.in-Ok.ensures) c.in_ok-member.ensures
