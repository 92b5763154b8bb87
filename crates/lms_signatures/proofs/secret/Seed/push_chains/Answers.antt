use Rattle.std.proofs.Common.{◌≡◌, ◌<◌, ℕ, ap, ◌∙◌, sym, arith}
use Rattle.lms_signatures.specs.Types.{chain_count}
use Rattle.lms_signatures.specs.Ots.{digit}
use Rattle.lms_signatures.specs.Runs.{end_of}
use Rattle.lms_signatures.proofs.Steps.{joined_none, joined_written}
use Rattle.lms_signatures.specs.Secret.{along}
use Rattle.lms_signatures.specs.Made.{signed_chains}
use Rattle.lms_signatures.proofs.Filling.{private_end}
use Rattle.lms_signatures.proofs.secret.Seed.push_chains.Goals as goal

pub loop-i-init : goal.loop-i-init
loop-i-init c = sym (joined_none _ _)

pub loop-i-preserved : goal.loop-i-preserved
loop-i-preserved c =
    let s = c.args.self.now in
    let q = c.args.q in
    let i = c.loop-i.i in
    let steps : ℕ = digit s.ots c.args.hash.now i in
    let counted : c.chain_count-i-end.result ≡ chain_count s.ots = c.chain_count-i-end.ensures ∙ ap chain_count c.ots-ots.ensures in
    let lt : i < chain_count s.ots = omega (arith, counted, c.loop-i-test.true) in
    let e : c.end_of-y.result ≡ along s q steps i =
    c.end_of-y.ensures ∙ rw (c.id-in-loop-i.ensures, c.from-in-loop-i.ensures)
    (rw c.id.ensures at (c.run_chains.ensures.alike i) ∙ ap (end_of s.id q i) (c.start_signing.ensures.runs i lt) ∙ private_end s q steps i) in
    joined_written _ _ _ _ _ _ c.loop-i.invariant e c.in_ok-extend_from_slice.ensures.items

pub returns : goal.returns
unfolding signed_chains
returns c =
    let i_is : c.loop-i.i ≡ chain_count c.args.self.now.ots = rw (← c.ots-ots.ensures, ← c.chain_count-i-end.ensures) (omega arith) in
    rw (← i_is) c.loop-i.invariant
