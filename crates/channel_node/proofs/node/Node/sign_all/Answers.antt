-- Each turn signs in its channel what is wanted there.
use Rattle.std.proofs.Common.{refl}
use Rattle.std.proofs.lemmas.Result.{err_from_is_err_and}
use Rattle.channel_node.specs.Playing.{signing_of}
use Rattle.channel_node.proofs.TickPlaces.{ticking-steps, sending-steps, sent-whole, spent-whole}
use Rattle.channel_node.proofs.node.Node.sign_all.Goals as goal

pub loop-channel-preserved : goal.loop-channel-preserved
loop-channel-preserved g c =
    sending-steps g.M.Knowing.tables g.M.Knowing.rules c.args.channels.now c.args.self.now _ _ _ _ _ _ _ _ c.loop-channel.channel-index c.loop-channel.self c.sign_one.new.self _
    c.loop-channel-test.true refl c.loop-channel.invariant c.in_ok-more.ensures.ok c.in_ok-more.ensures.sends c.in_ok-more.ensures.spent c.in_ok-add_sent.ensures.sends c.in_ok-add_sent.ensures.spent

-- where memory fails after a state was signed
pub returns-in_err-add_sent-clause-err : goal.returns-in_err-add_sent-clause-err
returns-in_err-add_sent-clause-err g c =
    let p = err_from_is_err_and c.from_residual-in_err-add_sent.result c.from_residual-in_err-add_sent.ensures.1 in
    rw p.1 (
      c.sign_one.new.self,
      (ticking-steps g.M.Knowing.tables g.M.Knowing.rules c.args.channels.now c.args.self.now c.loop-channel.channel-index c.loop-channel.self c.sign_one.new.self _
          c.loop-channel-test.true refl c.loop-channel.invariant.ticking c.in_ok-more.ensures.ok).stands,
      record { journal = refl; commands = refl },
    )

pub returns-clause-sends : goal.returns-clause-sends
returns-clause-sends g c =
    sent-whole g.M.Knowing.tables g.M.Knowing.rules (signing_of c.args.self.now.signer) c.args.channels.now c.args.self.now _ _ _ _ c.loop-channel.channel-index c.loop-channel.self c.loop-channel.invariant c.loop-channel-test.false

pub returns-clause-spent : goal.returns-clause-spent
returns-clause-spent g c =
    spent-whole g.M.Knowing.tables g.M.Knowing.rules (signing_of c.args.self.now.signer) c.args.channels.now c.args.self.now _ _ _ _ c.loop-channel.channel-index c.loop-channel.self c.loop-channel.invariant c.loop-channel-test.false

pub returns-clause-stands : goal.returns-clause-stands
returns-clause-stands g c = c.loop-channel.invariant.ticking.stands

pub returns-clause-signer : goal.returns-clause-signer
returns-clause-signer g c = c.loop-channel.invariant.ticking.signer
