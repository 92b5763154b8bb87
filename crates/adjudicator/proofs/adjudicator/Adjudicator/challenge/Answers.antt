use Rattle.std.proofs.Common.{◌≡◌, ◌∙◌, ap}
use Rattle.channel_values.specs.Digests.{name_of_channel}
use Rattle.call_history.specs.Rows.{row_or_blank}
use Rattle.call_history.specs.Replies as replies
use Rattle.support_rules.specs.Real.{real}
use Rattle.adjudicator.specs.Standing.{row_in}
use Rattle.adjudicator.proofs.Turning.{challenge_turns, turn_serves, at_found, under_name}
use Rattle.adjudicator.proofs.adjudicator.Adjudicator.challenge.Goals as goal
use Rattle.adjudicator.proofs.adjudicator.Adjudicator.challenge.Goals.{After-until}

named : (c : After-until) → c.channel_name-channel.result ≡ real.named c.args.call.now.chain.fixed
named c = c.channel_name-channel.ensures ∙ ap name_of_channel c.bytes.ensures.value

answered : (c : After-until) → c.to_challenge-answer.result ≡ replies.challenge real (row_or_blank (row_in c.args.self.now.rows (real.named c.args.call.now.chain.fixed))) c.args.self.now.now c.args.call.now.chain c.args.call.now.challenger c.args.call.now.signature
answered c =
    at_found c.args.self.now _ _ c.channel_name-channel.result (real.named c.args.call.now.chain.fixed) (λ row now. replies.challenge real row now c.args.call.now.chain c.args.call.now.challenger c.args.call.now.signature) c.to_challenge-answer.result
    c.self.view_is c.to_challenge-answer.ensures.answer c.get-row.ensures.row (named c)

pub returns : goal.returns
returns c =
    turn_serves real c.args.self.now _ _ c.args.call.now.chain.fixed (λ row now. replies.challenge real row now c.args.call.now.chain c.args.call.now.challenger c.args.call.now.signature) _ c.to_challenge-answer.result c.until.result
    (challenge_turns real c.args.call.now) (answered c) c.until.ensures
    (under_name _ _ c.channel_name-channel.result (real.named c.args.call.now.chain.fixed) c.to_challenge-answer.result (named c) c.record.ensures)
