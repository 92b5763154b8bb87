-- A tick that memory cut off stands as far as it came.
use Rattle.std.proofs.lemmas.Result.{err_from_is_err_and}
use Rattle.channel_node.proofs.Given.{then-stands}
use Rattle.channel_node.proofs.node.Node.tick_now.Goals as goal

pub returns-in_err-give_all-clause-err : goal.returns-in_err-give_all-clause-err
returns-in_err-give_all-clause-err g c =
    let p = err_from_is_err_and c.from_residual-in_err-give_all.result c.from_residual-in_err-give_all.ensures.1 in
    rw p.1 (
      c.in_err-give_all.ensures.err.0,
      then-stands g.M.Knowing.tables g.M.Knowing.rules c.args.self.now c.signed_outs.new.self c.in_err-give_all.ensures.err.0 c.signed_outs.ensures.signer c.in_ok-outs.ensures.stands c.in_err-give_all.ensures.err.1,
      c.in_err-give_all.ensures.err.2,
    )
