use Rattle.std.proofs.Common.{◌∙◌, ap}
use Rattle.call_history.specs.History.{now_of}
use Rattle.record_checker.proofs.past.Past.time.Goals as goal

pub returns : goal.returns
returns c = c.now.ensures ∙ c.self.invariant.stands.now ∙ ap now_of c.self.view_is
