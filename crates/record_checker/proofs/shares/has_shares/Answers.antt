use Rattle.std.proofs.Common.{◌≡◌, ℕ, true, List, sym, ◌∙◌, ap, subst, ◌↔◌}
use Rattle.std.specs.Prelude.{IsTrue}
use Rattle.call_history.specs.declared.held_chain.Known.{Known}
use Rattle.run_record.specs.Plans.{joined, firsts}
use Rattle.record_checker.specs.Seen.{are_joined}
use Rattle.record_checker.proofs.Joining.{firsts_joined, shares_wanted}
use Rattle.record_checker.proofs.shares.has_shares.Goals as goal

pub shares_of-requires : goal.shares_of-requires
shares_of-requires c =
    subst (λ (ks : List Known). are_joined c.args.ending.now.plan ks ≡ true) (sym (c.deref.ensures.value ∙ c.in_ok-known.ensures)) (firsts_joined c.args.ending.now.plan c.as_slice.result.now)

pub returns : goal.returns
returns c =
    shares_wanted c.args.past.now c.args.ending.now c.deref.result.now c.args.assets.now c.deref-2.result.now c.are_same.result
    (c.deref.ensures.value ∙ c.in_ok-known.ensures ∙ ap (firsts (joined c.args.ending.now.plan.parts)) c.as_slice.ensures)
    (c.deref-2.ensures.value ∙ c.in_ok-wanted.ensures)
    (subst (λ (shares : List (ℕ × ℕ)). IsTrue c.are_same.result ↔ (shares ≡ c.deref-2.result.now)) c.as_slice-2.ensures c.are_same.ensures)
