use Rattle.std.proofs.Common.{[], length, arith, rules}
use Rattle.channel_values.specs.Parts.{FixedParts, IsFixed, fixed_with}
use Rattle.channel_values.specs.Spelling.{fixed}
use Rattle.channel_values.specs.Reading.{fixed_at}
use Rattle.channel_values.proofs.Fixeds.{fixed_again}
use Rattle.channel_values.proofs.Format.{is_made}
use Rattle.channel_values.proofs.fixed.Fixed.make.Goals as goal

pub returns-clause-made : goal.returns-clause-made
returns-clause-made c =
    let f : FixedParts = fixed_with c.args.keys.items c.args.nonce c.args.app c.args.duration in
    is_made fixed_at (fixed f) f (IsFixed f) c.read_fixed.result (fixed_again (length (fixed f)) f [] (rw (← c.deref.ensures.value) c.in_ok-put_fixed.ensures.fits, omega arith, omega arith)) (search rules)
