use Rattle.std.proofs.Common.{◌≡◌, List, OnOk, codes, subst}
use Rattle.script_reader.specs.step.Step.{Step}
use Rattle.hop_script.specs.Hop.{opened, settled}
use Rattle.hop_script.proofs.Lists.{three_on}
use Rattle.hop_script.proofs.opening.push_opened_ledgers.Goals as goal

pub returns : goal.returns
returns c =
    let first : List Step = settled (opened (codes "LA") c.args.a.now c.args.near.now) in
    let second : List Step = settled (opened (codes "LI") c.args.near.now c.args.far.now) in
    let third : List Step = settled (opened (codes "LB") c.args.far.now c.args.b.now) in
    subst (λ (x : List Step). OnOk c.push_opened-3.result (c.push_opened-3.new.steps ≡ x))
    (three_on c.args.steps.now c.push_opened.new.steps c.push_opened-2.new.steps first second third c.in_ok-push_opened.ensures c.in_ok-push_opened-2.ensures) c.push_opened-3.ensures
