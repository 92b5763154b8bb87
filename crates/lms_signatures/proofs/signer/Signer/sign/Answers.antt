use Rattle.std.proofs.Common.{◌<◌, arith}
use Rattle.lms_signatures.specs.Secret.{leaf_count}
use Rattle.lms_signatures.proofs.Signers.{signed_next, next_verifies}
use Rattle.lms_signatures.proofs.signer.Signer.sign.Goals as goal

pub returns-clause-signed : goal.returns-clause-signed
returns-clause-signed c =
    let lt : c.self.inside.used < leaf_count c.self.inside.seed = omega (arith, c.leaf_count.ensures.value, c.if-self-leaf_count.false, c.self.invariant.used) in
    signed_next c.self.inside.seed c.self.inside.used c.args.message.now c.in_ok-bytes.bytes.items c.args.self.now c.self.view_is c.self.invariant.types lt c.in_ok-bytes.ensures

pub returns-clause-verifies : goal.returns-clause-verifies
returns-clause-verifies c =
    let lt : c.self.inside.used < leaf_count c.self.inside.seed = omega (arith, c.leaf_count.ensures.value, c.if-self-leaf_count.false, c.self.invariant.used) in
    next_verifies c.self.inside.seed c.self.inside.used c.args.message.now c.in_ok-bytes.bytes.items c.args.self.now c.self.view_is
    c.self.invariant.types c.self.invariant.id lt c.in_ok-bytes.ensures
