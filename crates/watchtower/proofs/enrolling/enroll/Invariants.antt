use Rattle.std.proofs.Common.{◌≡◌, take}
use Rattle.std.specs.Prelude.{fold}
use Rattle.support_rules.specs.Real.{real}
use Rattle.watchtower.specs.Towers.{admitted}
use Rattle.watchtower.specs.Replay.{handing}
use Rattle.watchtower.proofs.enrolling.enroll.Given as goal

abbrev pub invariant-loop-held : goal.invariant-loop-held
invariant-loop-held l =
    l.tower ≡ record l.fn.tower { clients = fold (handing real l.client) (admitted l.client l.fn.tower.clients) (take l.held-index l.chains) }
