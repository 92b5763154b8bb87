use Rattle.std.proofs.Common.{◌++◌, ◌∙◌, List, ap, append_assoc, sym}
use Rattle.script_reader.specs.Bounds.{signers_of}
use Rattle.script_reader.specs.step.Step.{Step}
use Rattle.hop_script.specs.Hop.{declared, ending_steps, openings, payments}
use Rattle.hop_script.proofs.Kept.{four-signers, hop-is-kept}
use Rattle.hop_script.proofs.hop.hop_script.Goals as goal

pub returns-clause-steps : goal.returns-clause-steps
returns-clause-steps c =
    c.in_ok-push_ending.ensures
    ∙ ap (λ (ss : List Step). ss ++ ending_steps c.args.ending) (c.in_ok-push_payments.ensures
    ∙ ap (λ (ss : List Step). ss ++ payments c.args.count) (c.in_ok-push_openings.ensures
    ∙ ap (λ (ss : List Step). ss ++ openings) c.in_ok-steps.ensures))
    ∙ append_assoc (declared ++ openings) (payments c.args.count) (ending_steps c.args.ending)

pub returns-clause-signers : goal.returns-clause-signers
returns-clause-signers c =
    c.in_ok-entered.ensures.signers ∙ four-signers c.args.ending c.args.count ∙ ap signers_of (sym (returns-clause-steps c))

pub returns-clause-kept : goal.returns-clause-kept
returns-clause-kept c =
    (hop-is-kept c.args.ending c.args.count c.push_ending.new.steps (returns-clause-steps c) c.requires c.in_ok-entered.ensures.kept).kept

pub returns-clause-fit : goal.returns-clause-fit
returns-clause-fit c =
    (hop-is-kept c.args.ending c.args.count c.push_ending.new.steps (returns-clause-steps c) c.requires c.in_ok-entered.ensures.kept).fit

pub returns-clause-length : goal.returns-clause-length
returns-clause-length c =
    (hop-is-kept c.args.ending c.args.count c.push_ending.new.steps (returns-clause-steps c) c.requires c.in_ok-entered.ensures.kept).few

pub returns-clause-people : goal.returns-clause-people
returns-clause-people c =
    (hop-is-kept c.args.ending c.args.count c.push_ending.new.steps (returns-clause-steps c) c.requires c.in_ok-entered.ensures.kept).people

pub returns-clause-rounds : goal.returns-clause-rounds
returns-clause-rounds c =
    (hop-is-kept c.args.ending c.args.count c.push_ending.new.steps (returns-clause-steps c) c.requires c.in_ok-entered.ensures.kept).rounds
