-- Each turn follows one of the entries.
use Rattle.std.proofs.Common.{◌∙◌}
use Rattle.std.proofs.lemmas.List.{get_or_read}
use Rattle.std.proofs.lemmas.Result.{err_from_is_err_and}
use Rattle.call_history.specs.declared.call.Op.TheVariants.{Time}
use Rattle.call_history.specs.declared.entry.Entry.{Entry}
use Rattle.call_history.specs.declared.refusal.Reply.TheVariants.{Now}
use Rattle.network_node.proofs.Followed.{seeing_steps, same_after, seen_whole}
use Rattle.network_node.proofs.node.see_all.Goals as goal

no_entry : Entry
no_entry = record { number = 0; by = 0; op = Time 0; reply = Now 0 }

pub loop-entry-preserved : goal.loop-entry-preserved
loop-entry-preserved c =
    seeing_steps c.args.entries.now c.args.node.now c.loop-entry.entry-index c.loop-entry.node c.see.new.self no_entry c.entry-item.result
    c.loop-entry-test.true (get_or_read c.args.entries.now c.loop-entry.entry-index c.entry-item.result c.loop-entry-test.true c.entry-item.is no_entry)
    c.loop-entry.invariant c.in_ok-see.ensures.ok.1

pub returns-in_err-see-clause-same : goal.returns-in_err-see-clause-same
returns-in_err-see-clause-same c =
    let p = err_from_is_err_and c.from_residual.result c.from_residual.ensures.1 in
    rw p.1 (same_after c.args.node.now c.loop-entry.node c.see.new.self c.loop-entry.invariant.same c.in_err-see.ensures.err.1)

pub returns-in_err-see-clause-signer : goal.returns-in_err-see-clause-signer
returns-in_err-see-clause-signer c = c.see.ensures.signer ∙ c.loop-entry.invariant.signer

pub returns-clause-saw : goal.returns-clause-saw
returns-clause-saw c = seen_whole c.args.entries.now c.args.node.now c.loop-entry.entry-index c.loop-entry.node c.loop-entry.invariant c.loop-entry-test.false
