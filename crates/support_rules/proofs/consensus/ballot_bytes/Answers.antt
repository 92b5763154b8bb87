use Rattle.std.proofs.Common.{◌≡◌, ℕ, List, ◌∷◌, sym, subst, rules, arith}
use Rattle.channel_values.specs.Outcomes.{AreBytes}
use Rattle.support_rules.proofs.Making.{bytes_after}
use Rattle.support_rules.proofs.consensus.ballot_bytes.Goals as goal

pub returns-clause-bytes : goal.returns-clause-bytes
returns-clause-bytes c =
    let items : c.extend_from_slice.new.self.items ≡ c.args.votes ∷ c.args.spelling.now = search rules in
    subst (λ (bytes : List ℕ). AreBytes bytes) (sym items) (bytes_after c.args.votes c.args.spelling.now (search rules) (λ i. omega (arith, c.type_inv.spelling i)))
