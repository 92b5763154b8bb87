use Rattle.std.proofs.Common.{◌≡◌, take}
use Rattle.std.specs.Prelude.{fold}
use Rattle.support_rules.specs.Real.{real}
use Rattle.watchtower.specs.Replay.{enrolling}
use Rattle.tower_replay.proofs.replaying.enroll_all.Given as goal

abbrev pub invariant-loop-end : goal.invariant-loop-end
invariant-loop-end l =
    l.tower ≡ record l.fn.tower { clients = fold (λ clients e. enrolling real clients e.person e.chains) l.fn.tower.clients (take l.end-index l.ends) }
