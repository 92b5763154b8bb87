use Rattle.std.proofs.Common.{◌≡◌, ◌∙◌, ap}
use Rattle.channel_values.specs.Digests.{name_of_channel}
use Rattle.call_history.specs.Rows.{row_or_blank}
use Rattle.call_history.specs.Replies as replies
use Rattle.support_rules.specs.Real.{real}
use Rattle.adjudicator.specs.Standing.{row_in}
use Rattle.adjudicator.proofs.Turning.{respond_turns, turn_serves, at_found, under_name}
use Rattle.adjudicator.proofs.adjudicator.Adjudicator.respond.Goals as goal
use Rattle.adjudicator.proofs.adjudicator.Adjudicator.respond.Goals.{After-opened}

named : (c : After-opened) → c.channel_name-channel.result ≡ real.named c.args.call.now.fixed
named c = c.channel_name-channel.ensures ∙ ap name_of_channel c.bytes.ensures.value

answered : (c : After-opened) → c.to_respond-answer.result ≡ replies.respond real (row_or_blank (row_in c.args.self.now.rows (real.named c.args.call.now.fixed))) c.args.self.now.now c.args.call.now.fixed c.args.call.now.from c.args.call.now.next
answered c =
    at_found c.args.self.now _ _ c.channel_name-channel.result (real.named c.args.call.now.fixed) (λ row now. replies.respond real row now c.args.call.now.fixed c.args.call.now.from c.args.call.now.next) c.to_respond-answer.result
    c.self.view_is c.to_respond-answer.ensures.answer c.get-row.ensures.row (named c)

pub returns : goal.returns
returns c =
    turn_serves real c.args.self.now _ _ c.args.call.now.fixed (λ row now. replies.respond real row now c.args.call.now.fixed c.args.call.now.from c.args.call.now.next) _ c.to_respond-answer.result c.opened.result
    (respond_turns real c.args.call.now) (answered c) c.opened.ensures
    (under_name _ _ c.channel_name-channel.result (real.named c.args.call.now.fixed) c.to_respond-answer.result (named c) c.record.ensures)
