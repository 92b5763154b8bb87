-- Each turn challenges in its channel.
use Rattle.std.proofs.Common.{refl}
use Rattle.std.proofs.lemmas.Result.{err_from_is_err_and}
use Rattle.channel_node.specs.Playing.{signing_of}
use Rattle.channel_node.proofs.Challenging.{challenging-steps, calling-steps, called-whole, called-spent}
use Rattle.channel_node.proofs.node.Node.challenge_all.Goals as goal

pub loop-channel-preserved : goal.loop-channel-preserved
loop-channel-preserved g c =
    calling-steps g.M.Knowing.tables g.M.Knowing.rules c.args.channels.now c.args.self.now _ _ _ _ _ _ _ _ c.loop-channel.channel-index c.loop-channel.self c.challenge_one.new.self _
    c.loop-channel-test.true refl c.loop-channel.invariant c.in_ok-more.ensures.ok c.in_ok-more.ensures.calls c.in_ok-more.ensures.spent c.in_ok-add_challenged.ensures.calls c.in_ok-add_challenged.ensures.spent

-- where memory fails after a challenge was signed
pub returns-in_err-add_challenged-clause-err : goal.returns-in_err-add_challenged-clause-err
returns-in_err-add_challenged-clause-err g c =
    let p = err_from_is_err_and c.from_residual-in_err-add_challenged.result c.from_residual-in_err-add_challenged.ensures.1 in
    rw p.1 (
      c.challenge_one.new.self,
      (challenging-steps g.M.Knowing.tables g.M.Knowing.rules c.args.channels.now c.args.self.now c.loop-channel.channel-index c.loop-channel.self c.challenge_one.new.self _
          c.loop-channel-test.true refl c.loop-channel.invariant.challenging c.in_ok-more.ensures.ok).stands,
      record { journal = refl; commands = refl },
    )

pub returns-clause-calls : goal.returns-clause-calls
returns-clause-calls g c =
    called-whole g.M.Knowing.tables g.M.Knowing.rules (signing_of c.args.self.now.signer) c.args.channels.now c.args.self.now _ _ _ _ c.loop-channel.channel-index c.loop-channel.self c.loop-channel.invariant c.loop-channel-test.false

pub returns-clause-spent : goal.returns-clause-spent
returns-clause-spent g c =
    called-spent g.M.Knowing.tables g.M.Knowing.rules (signing_of c.args.self.now.signer) c.args.channels.now c.args.self.now _ _ _ _ c.loop-channel.channel-index c.loop-channel.self c.loop-channel.invariant c.loop-channel-test.false

pub returns-clause-stands : goal.returns-clause-stands
returns-clause-stands g c = c.loop-channel.invariant.challenging.stands

pub returns-clause-signer : goal.returns-clause-signer
returns-clause-signer g c = c.loop-channel.invariant.challenging.signer
