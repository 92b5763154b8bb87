use Rattle.std.proofs.Common.{rules, ◌≡◌, ◌++◌, ◌∙◌, List, [], ◌∷◌, ap, append_assoc, sym}
use Rattle.script_reader.specs.Bounds.{signers_of}
use Rattle.script_reader.specs.step.Step.{Step}
use Rattle.script_run.specs.Load.{beginning, payments, ending}
use Rattle.script_run.proofs.Draws.{two_signers}
use Rattle.script_run.proofs.Kept.{load_is_kept}
use Rattle.script_run.proofs.load.load_script.Goals as goal

pub returns-clause-steps : goal.returns-clause-steps
returns-clause-steps c =
    let begun : c.in_ok-steps.steps ≡ beginning c.args.seed =
    c.in_ok-steps.ensures c.args.seed c.in_ok-a.ensures.seed c.in_ok-b.ensures.seed c.in_ok-a.ensures.digest c.in_ok-b.ensures.digest in
    c.in_ok-push_ending.ensures
    ∙ ap (λ (ss : List Step). ss ++ ending) (c.in_ok-push_payments.ensures ∙ ap (λ (ss : List Step). ss ++ payments c.args.seed c.args.count) begun)
    ∙ append_assoc (beginning c.args.seed) (payments c.args.seed c.args.count) ending

pub returns-clause-signers : goal.returns-clause-signers
returns-clause-signers c =
    c.in_ok-signers.ensures.items
    ∙ (λ i. c.in_ok-a.ensures.signer i ∷ c.in_ok-b.ensures.signer i ∷ [])
    ∙ sym (two_signers c.args.seed c.args.count)
    ∙ ap signers_of (sym (returns-clause-steps c))

pub returns-clause-kept : goal.returns-clause-kept
returns-clause-kept c =
    (load_is_kept c.args.seed c.args.count c.push_ending.new.steps (returns-clause-steps c) c.requires.few c.in_ok-a.ensures.key c.in_ok-b.ensures.key (search rules)).kept

pub returns-clause-fit : goal.returns-clause-fit
returns-clause-fit c =
    (load_is_kept c.args.seed c.args.count c.push_ending.new.steps (returns-clause-steps c) c.requires.few c.in_ok-a.ensures.key c.in_ok-b.ensures.key (search rules)).fit

pub returns-clause-length : goal.returns-clause-length
returns-clause-length c =
    (load_is_kept c.args.seed c.args.count c.push_ending.new.steps (returns-clause-steps c) c.requires.few c.in_ok-a.ensures.key c.in_ok-b.ensures.key (search rules)).few

pub returns-clause-people : goal.returns-clause-people
returns-clause-people c =
    (load_is_kept c.args.seed c.args.count c.push_ending.new.steps (returns-clause-steps c) c.requires.few c.in_ok-a.ensures.key c.in_ok-b.ensures.key (search rules)).people

pub returns-clause-rounds : goal.returns-clause-rounds
returns-clause-rounds c =
    (load_is_kept c.args.seed c.args.count c.push_ending.new.steps (returns-clause-steps c) c.requires.few c.in_ok-a.ensures.key c.in_ok-b.ensures.key (search rules)).rounds
