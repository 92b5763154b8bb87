use Rattle.std.proofs.Common.{rules, ◌≡◌, ◌≤◌, ◌<◌, length, get_or, sym, ◌∙◌}
use Rattle.call_history.specs.History.{time_set, or_before}
use Rattle.watchtower.proofs.Opening.{falls, goes_on, all_rose}
use Rattle.watchtower.proofs.looking.is_rising.Goals as goal

pub returns-then-to-time : goal.returns-then-to-time
returns-then-to-time c =
    let lt : c.loop-entry.entry-index < length c.args.entries.now = search rules in
    let at : c.entry-item.result ≡ get_or c.args.entries.now c.loop-entry.entry-index c.entry-item.result = search rules in
    let is : c.time_after-to.result ≡ or_before (time_set c.entry-item.result.op c.entry-item.result.reply) c.loop-entry.time = search rules in
    let below : c.time_after-to.result < c.loop-entry.time = search rules in
    sym (c.loop-entry.invariant ∙ falls c.loop-entry.time c.args.entries.now c.loop-entry.entry-index c.entry-item.result c.time_after-to.result lt at is below)

pub loop-entry-preserved : goal.loop-entry-preserved
loop-entry-preserved c =
    let lt : c.loop-entry.entry-index < length c.args.entries.now = search rules in
    let at : c.entry-item.result ≡ get_or c.args.entries.now c.loop-entry.entry-index c.entry-item.result = search rules in
    let is : c.time_after-to.result ≡ or_before (time_set c.entry-item.result.op c.entry-item.result.reply) c.loop-entry.time = search rules in
    let le : c.loop-entry.time ≤ c.time_after-to.result = search rules in
    c.loop-entry.invariant ∙ goes_on c.loop-entry.time c.args.entries.now c.loop-entry.entry-index c.entry-item.result c.time_after-to.result lt at is le

pub returns : goal.returns
returns c =
    let le : length c.args.entries.now ≤ c.loop-entry.entry-index = search rules in
    sym (c.loop-entry.invariant ∙ all_rose c.loop-entry.time c.args.entries.now c.loop-entry.entry-index le)
