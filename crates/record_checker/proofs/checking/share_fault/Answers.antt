use Rattle.std.proofs.Common.{List, subst, ap, ◌∙◌}
use Rattle.std.specs.Prelude.{IfOk}
use Rattle.asset_holder.specs.Receipts.{assets_of}
use Rattle.run_record.specs.declared.run_record.Ending.{Ending}
use Rattle.record_checker.specs.Seen.{HasSharesBy}
use Rattle.record_checker.specs.Faults.{Lacks}
use Rattle.record_checker.proofs.Lacking.{shares_by}
use Rattle.record_checker.proofs.checking.share_fault.Goals as goal

pub returns : goal.returns
returns c =
    shares_by c.first_bad_share.result c.args.value.now.history c.args.past.now c.deref.result.now c.args.value.now.ends c.requires.past
    (c.deref.ensures.value ∙ c.in_ok-assets.ensures ∙ ap assets_of c.requires.flows)
    (subst (λ (ends : List Ending). IfOk c.first_bad_share.result (Lacks (HasSharesBy c.args.past.now c.deref.result.now) ends)) c.as_slice.ensures c.first_bad_share.ensures)
