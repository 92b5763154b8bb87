use Rattle.std.proofs.Common.{◌∙◌}
use Rattle.call_bytes.proofs.Replies.{same_where}
use Rattle.call_bytes.proofs.same_replies.same_reply.Goals as goal

pub returns : goal.returns
returns c =
    let w = same_where c.args.left.now c.args.right.now c.deref.result.now c.deref-2.result.now (c.deref.ensures.value ∙ c.in_ok-one.ensures.spelled) (c.deref-2.ensures.value ∙ c.in_ok-other.ensures.spelled) c.in_ok-one.ensures.fits c.in_ok-other.ensures.fits in
    (λ t. w.0 (c.are_same.ensures.0 t), λ e. c.are_same.ensures.1 (w.1 e))
