use Rattle.std.proofs.Common.{rules, ◌≡◌, ◌∷◌, ◌++◌, true, List, ℕ, Err, sym, ◌∙◌, ap, subst}
use Rattle.std.proofs.lemmas.List.{append_assoc}
use Rattle.std.specs.Result.{IfErr}
use Rattle.std.specs.Option.{option_map}
use Rattle.lasting_lines.specs.Batches.{parts, parts_left, owes_all}
use Rattle.lasting_lines.specs.Endings.{FailsBy, HasForeign}
use Rattle.lasting_lines.proofs.Endings.{fails_so, foreign_first, foreign_later}
use Rattle.lasting_lines.proofs.batches.step_all.Goals as goal

pub returns-in_err-step-clause-fails : goal.returns-in_err-step-clause-fails
returns-in_err-step-clause-fails g c =
    let line = c.split_batch-first.result.line.now in
    let rest = parts_left (option_map (λ r. r.now) c.split_batch-first.result.rest) in
    let takes : g.M.Machine.ways.takes c.loop-left.machine line ≡ true = search rules in
    let lines : parts_left (option_map (λ r. r.now) c.loop-left.left) ≡ line ∷ rest = search rules in
    let why = fails_so (g.M.Machine.foreign c.loop-left.machine line) ⊥ (HasForeign g.M.Machine.ways g.M.Machine.foreign c.args.machine.now (parts c.args.batch.now)) ⊥ _
    (λ f. c.loop-left.invariant.foreign (subst (HasForeign g.M.Machine.ways g.M.Machine.foreign c.loop-left.machine) (sym lines)
    (foreign_first g.M.Machine.ways g.M.Machine.foreign c.loop-left.machine line rest takes f))) (λ n. n) c.in_err-step.ensures.ends in
    let is : c.from_residual-in_err-step.result ≡ Err c.in_err-step.field-0.0 = search rules in
    subst (λ r. IfErr r (FailsBy (HasForeign g.M.Machine.ways g.M.Machine.foreign c.args.machine.now (parts c.args.batch.now)) ⊥)) (sym is) why

pub loop-left-preserved : goal.loop-left-preserved
loop-left-preserved g c =
    let line = c.split_batch-first.result.line.now in
    let rest = parts_left (option_map (λ r. r.now) c.split_batch-first.result.rest) in
    let takes : g.M.Machine.ways.takes c.loop-left.machine line ≡ true = search rules in
    let lines : parts_left (option_map (λ r. r.now) c.loop-left.left) ≡ line ∷ rest = search rules in
    let next : c.step.new.self ≡ g.M.Machine.ways.next c.loop-left.machine line = search rules in
    let answer : c.extend_from_slice.new.self.items ≡ c.loop-left.answer.items ++ g.M.Machine.ways.owes c.loop-left.machine line = search rules in
    record {
      takes = search rules;
      next = search rules;
      foreign = λ h. c.loop-left.invariant.foreign (subst (HasForeign g.M.Machine.ways g.M.Machine.foreign c.loop-left.machine) (sym lines)
          (foreign_later g.M.Machine.ways g.M.Machine.foreign c.loop-left.machine line rest takes
          (subst (λ m. HasForeign g.M.Machine.ways g.M.Machine.foreign m rest) next h)));
      owes =
          c.loop-left.invariant.owes ∙ ap (λ (l : List (List ℕ)). c.loop-left.answer.items ++ owes_all g.M.Machine.ways c.loop-left.machine l) lines
          ∙ sym (append_assoc c.loop-left.answer.items (g.M.Machine.ways.owes c.loop-left.machine line) (owes_all g.M.Machine.ways (g.M.Machine.ways.next c.loop-left.machine line) rest))
          ∙ ap (λ m. (c.loop-left.answer.items ++ g.M.Machine.ways.owes c.loop-left.machine line) ++ owes_all g.M.Machine.ways m rest) (sym next)
          ∙ ap (λ (l : List ℕ). l ++ owes_all g.M.Machine.ways c.step.new.self rest) (sym answer);
    }
