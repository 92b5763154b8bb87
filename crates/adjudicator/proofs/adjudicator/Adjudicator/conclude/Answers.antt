use Rattle.std.proofs.Common.{◌≡◌, ◌∙◌, ap}
use Rattle.channel_values.specs.Digests.{name_of_channel}
use Rattle.call_history.specs.Rows.{row_or_blank}
use Rattle.call_history.specs.Replies as replies
use Rattle.support_rules.specs.Real.{real}
use Rattle.adjudicator.specs.Standing.{row_in}
use Rattle.adjudicator.proofs.Turning.{conclude_turns, turn_serves, at_found, under_name}
use Rattle.adjudicator.proofs.adjudicator.Adjudicator.conclude.Goals as goal
use Rattle.adjudicator.proofs.adjudicator.Adjudicator.conclude.Goals.{After-concluded}

named : (c : After-concluded) → c.channel_name-channel.result ≡ real.named c.args.chain.now.fixed
named c = c.channel_name-channel.ensures ∙ ap name_of_channel c.bytes.ensures.value

answered : (c : After-concluded) → c.to_conclude-answer.result ≡ replies.conclude real (row_or_blank (row_in c.args.self.now.rows (real.named c.args.chain.now.fixed))) c.args.self.now.now c.args.chain.now
answered c =
    at_found c.args.self.now _ _ c.channel_name-channel.result (real.named c.args.chain.now.fixed) (λ row now. replies.conclude real row now c.args.chain.now) c.to_conclude-answer.result
    c.self.view_is c.to_conclude-answer.ensures.answer c.get-row.ensures.row (named c)

pub returns : goal.returns
returns c =
    turn_serves real c.args.self.now _ _ c.args.chain.now.fixed (λ row now. replies.conclude real row now c.args.chain.now) _ c.to_conclude-answer.result c.concluded.result
    (conclude_turns real c.args.chain.now) (answered c) c.concluded.ensures
    (under_name _ _ c.channel_name-channel.result (real.named c.args.chain.now.fixed) c.to_conclude-answer.result (named c) c.record.ensures)
