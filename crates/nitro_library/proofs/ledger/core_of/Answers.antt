use Rattle.std.proofs.Common.{rules, ◌≡◌, ◌++◌, false, refl}
use Rattle.lasting_ledger.specs.Ledgers.{ledger_ways, unplayed}
use Rattle.nitro_library.specs.Ledgers.{ready_of}
use Rattle.nitro_library.proofs.Recovering.{begins}
use Rattle.nitro_library.proofs.ledger.core_of.Goals as goal

pub returns-clause-begins : goal.returns-clause-begins
returns-clause-begins c = λ n file played.
    let keeps : c.extend_from_slice.new.self.items ≡ c.args.begun.again.items ++ ready_of c.args.begun.played = search rules in
    begins ledger_ways ready_of unplayed n file c.args.begun.again.items (record { played = c.args.begun.played; kept = c.extend_from_slice.new.self; is_over = false }) played keeps refl
