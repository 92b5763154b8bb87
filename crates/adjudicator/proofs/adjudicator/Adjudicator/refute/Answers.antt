use Rattle.std.proofs.Common.{◌≡◌, ◌∙◌, ap}
use Rattle.channel_values.specs.Digests.{name_of_channel}
use Rattle.call_history.specs.Rows.{row_or_blank}
use Rattle.call_history.specs.Replies as replies
use Rattle.support_rules.specs.Real.{real}
use Rattle.adjudicator.specs.Standing.{row_in}
use Rattle.adjudicator.proofs.Turning.{refute_turns, turn_serves, at_found, under_name}
use Rattle.adjudicator.proofs.adjudicator.Adjudicator.refute.Goals as goal
use Rattle.adjudicator.proofs.adjudicator.Adjudicator.refute.Goals.{After-opened}

named : (c : After-opened) → c.channel_name-channel.result ≡ real.named c.args.fixed.now
named c = c.channel_name-channel.ensures ∙ ap name_of_channel c.bytes.ensures.value

answered : (c : After-opened) → c.to_refute-answer.result ≡ replies.refute real (row_or_blank (row_in c.args.self.now.rows (real.named c.args.fixed.now))) c.args.self.now.now c.args.fixed.now c.args.next.now
answered c =
    at_found c.args.self.now _ _ c.channel_name-channel.result (real.named c.args.fixed.now) (λ row now. replies.refute real row now c.args.fixed.now c.args.next.now) c.to_refute-answer.result
    c.self.view_is c.to_refute-answer.ensures.answer c.get-row.ensures.row (named c)

pub returns : goal.returns
returns c =
    turn_serves real c.args.self.now _ _ c.args.fixed.now (λ row now. replies.refute real row now c.args.fixed.now c.args.next.now) _ c.to_refute-answer.result c.opened.result
    (refute_turns real c.args.fixed.now c.args.next.now) (answered c) c.opened.ensures
    (under_name _ _ c.channel_name-channel.result (real.named c.args.fixed.now) c.to_refute-answer.result (named c) c.record.ensures)
