-- What a tick signs stands as far as it came.
use Rattle.std.proofs.Common.{◌≤◌, ℕ, List, ◌++◌, length, refl, sym, ◌∙◌, ap, subst}
use Rattle.std.proofs.lemmas.Result.{err_from_is_err_and}
use Rattle.call_history.specs.declared.call.Call.{Call}
use Rattle.channel_node.specs.Giving.{challenge_calls}
use Rattle.channel_node.specs.Playing.{signing_of}
use Rattle.channel_node.proofs.Challenging.{few-calls}
use Rattle.channel_node.proofs.Given.{then-stands}
use Rattle.channel_node.proofs.node.Node.signed_outs.Goals as goal

pub returns-in_err-channels-clause-err : goal.returns-in_err-channels-clause-err
returns-in_err-channels-clause-err g c =
    let p = err_from_is_err_and c.from_residual.result c.from_residual.ensures.1 in
    rw p.1 (c.args.self.now, λ h legal st. st, record { journal = refl; commands = refl })

pub returns-in_err-more-clause-err : goal.returns-in_err-more-clause-err
returns-in_err-more-clause-err g c =
    let p = err_from_is_err_and c.from_residual-in_err-more.result c.from_residual-in_err-more.ensures.1 in
    rw p.1 (
      c.challenge_all.new.self,
      then-stands g.M.Knowing.tables g.M.Knowing.rules c.args.self.now c.sign_all.new.self c.challenge_all.new.self c.sign_all.ensures.signer c.in_ok-sign_all.ensures.stands c.in_ok-challenge_all.ensures.stands,
      record { journal = refl; commands = refl },
    )

pub returns-in_err-append-clause-err : goal.returns-in_err-append-clause-err
returns-in_err-append-clause-err g c =
    let p = err_from_is_err_and c.from_residual-in_err-append.result c.from_residual-in_err-append.ensures.1 in
    rw p.1 (
      c.challenge_all.new.self,
      then-stands g.M.Knowing.tables g.M.Knowing.rules c.args.self.now c.sign_all.new.self c.challenge_all.new.self c.sign_all.ensures.signer c.in_ok-sign_all.ensures.stands c.in_ok-challenge_all.ensures.stands,
      record { journal = refl; commands = refl },
    )

pub returns-clause-few : goal.returns-clause-few
returns-clause-few g c =
    let own : List Call = challenge_calls g.M.Knowing.rules (signing_of c.sign_all.new.self.signer) c.as_slice-2.result.now c.sign_all.new.self in
    few-calls g.M.Knowing.rules (signing_of c.sign_all.new.self.signer) c.as_slice-2.result.now c.sign_all.new.self c.in_ok-more.more.items c.make-2.result
    (subst (λ (xs : List (List ℕ)). length xs ≤ 192) (sym c.as_slice-2.ensures.value) c.in_ok-channels.ensures.few)
    c.in_ok-more.ensures.few
    (c.make-2.ensures ∙ c.in_ok-append.ensures.items ∙ ap (λ (xs : List Call). xs ++ c.in_ok-more.more.items) (c.in_ok-challenge_all.ensures.calls ∙ ap (λ (xs : List Call). xs ++ own) c.no_challenges-given.ensures.calls))
