-- The tower whose text is told has the people of the endings, and follows the record's history.
use Rattle.std.proofs.Common.{◌≡◌, ◌∙◌, ap, List, subst}
use Rattle.std.specs.Prelude.{fold, IfOk}
use Rattle.call_history.specs.declared.entry.Entry.{Entry}
use Rattle.support_rules.specs.Real.{real}
use Rattle.watchtower.specs.Replay.{enrolling, replay_text}
use Rattle.watchtower.specs.Towers.{Towering}
use Rattle.watchtower.specs.declared.client.Client.{Client}
use Rattle.tower_replay.specs.Replaying.{enrolled}
use Rattle.tower_replay.proofs.replaying.ReplayAnswering.answer.Goals as goal

pub returns : goal.returns
returns g c =
    let people : c.enroll_all.new.tower.clients ≡ enrolled c.args.value.now.ends =
    ap (λ (t : Towering). t.clients) c.in_ok-enroll_all.ensures
    ∙ (λ i. fold (λ clients e. enrolling real clients e.person e.chains) (c.make-tower.ensures i).clients (c.as_slice.ensures i)) in
    subst (λ (x : List Client × List Entry). IfOk c.replay.result (λ text. text.items ≡ replay_text real x.0 x.1))
    (λ i. (people i, c.as_slice-2.ensures i)) c.replay.ensures
