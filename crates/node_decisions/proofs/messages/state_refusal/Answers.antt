use Rattle.std.proofs.Common.{rules, ◌≡◌, Some, None}
use Rattle.std.specs.Option.{option_map}
use Rattle.channel_store.specs.Storing.{kept_of}
use Rattle.channel_store.specs.Noting.{refusal_of}
use Rattle.channel_node.specs.Minds.{facts_of}
use Rattle.channel_node.specs.Refusing.{not_open}
use Rattle.stage_tables.specs.Stages.{stages}
use Rattle.node_decisions.proofs.Told.{faulty, passes}
use Rattle.node_decisions.specs.Telling.{told}
use Rattle.support_rules.specs.Real.{real}
use Rattle.node_decisions.proofs.messages.state_refusal.Goals as goal

pub returns-in-Some-not_noted : goal.returns-in-Some-not_noted
returns-in-Some-not_noted c =
    let found : Some c.in-Some.field-0.now ≡ kept_of c.args.channel.now c.args.known.now.kept = search rules in
    let all_open : None ≡ not_open stages (facts_of c.args.known.now) = search rules in
    let is : Some c.in-Some-not_noted.refusal ≡ option_map told (refusal_of real c.args.channel.now c.args.signed.now c.args.known.now.kept) = search rules in
    faulty stages real c.args.known.now c.args.channel.now c.args.signed.now c.in-Some.field-0.now c.in-Some-not_noted.refusal found all_open is

pub returns-in-None-not_noted : goal.returns-in-None-not_noted
returns-in-None-not_noted c =
    let found : Some c.in-Some.field-0.now ≡ kept_of c.args.channel.now c.args.known.now.kept = search rules in
    let all_open : None ≡ not_open stages (facts_of c.args.known.now) = search rules in
    let is : None ≡ option_map told (refusal_of real c.args.channel.now c.args.signed.now c.args.known.now.kept) = search rules in
    passes stages real c.args.known.now c.args.channel.now c.args.signed.now c.in-Some.field-0.now c.not_taken.result found all_open is c.not_taken.ensures
