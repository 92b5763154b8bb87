-- Each turn gives one of the calls.
use Rattle.std.proofs.Common.{[], take, ◌∙◌, ap}
use Rattle.std.proofs.lemmas.List.{get_or_read}
use Rattle.std.proofs.lemmas.Result.{err_from_is_err_and}
use Rattle.call_history.specs.Calls.{make_deposit}
use Rattle.channel_node.specs.Nodes.{NodeOf}
use Rattle.channel_node.specs.Playing.{signing_of}
use Rattle.channel_node.proofs.Given.{giving-steps, gave-whole, gave-stands, gave-signer}
use Rattle.channel_node.proofs.node.Node.give_all.Goals as goal

pub loop-call-preserved : goal.loop-call-preserved
loop-call-preserved g c =
    giving-steps c.args.given.now c.args.self.now c.loop-call.call-index c.loop-call.self c.give.new.self (make_deposit [] 0 0 0) c.call-item.result
    c.loop-call-test.true (get_or_read c.args.given.now c.loop-call.call-index c.call-item.result c.loop-call-test.true c.call-item.is (make_deposit [] 0 0 0))
    c.loop-call.invariant c.in_ok-give.ensures.ok

pub returns-in_err-give-clause-err : goal.returns-in_err-give-clause-err
returns-in_err-give-clause-err g c =
    let p = err_from_is_err_and c.from_residual.result c.from_residual.ensures.1 in
    rw p.1 (
      c.loop-call.self,
      λ h legal st.
          gave-stands g.M.Knowing.tables g.M.Knowing.rules (signing_of c.args.self.now.signer) h c.args.given.now c.args.self.now c.loop-call.call-index c.loop-call.self legal c.requires.kept c.requires.may c.loop-call.invariant st,
      c.in_err-give.ensures.err,
    )

pub returns-clause-ok : goal.returns-clause-ok
returns-clause-ok g c = gave-whole c.args.given.now c.args.self.now c.loop-call.call-index c.loop-call.self c.loop-call-test.false c.loop-call.invariant

pub returns-clause-signer : goal.returns-clause-signer
returns-clause-signer g c = ap (λ (n : NodeOf). n.signer) c.loop-call.invariant ∙ gave-signer (take c.loop-call.call-index c.args.given.now) c.args.self.now

pub returns-in_err-give-clause-signer : goal.returns-in_err-give-clause-signer
returns-in_err-give-clause-signer g c = c.give.ensures.signer ∙ ap (λ (n : NodeOf). n.signer) c.loop-call.invariant ∙ gave-signer (take c.loop-call.call-index c.args.given.now) c.args.self.now
