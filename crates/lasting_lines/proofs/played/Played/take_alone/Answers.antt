use Rattle.std.proofs.Common.{◌≡◌, ◌∷◌, ◌++◌, [], ◌∙◌, List, ℕ, ap, subst, sym}
use Rattle.lasting_lines.specs.Batches.{batched, Holds}
use Rattle.lasting_lines.specs.Lines.{IsLine}
use Rattle.lasting_lines.specs.Serving.{IsAlone}
use Rattle.lasting_lines.proofs.Single.{alone}
use Rattle.lasting_lines.proofs.played.Played.take_alone.Goals as goal

pub returns-clause-taken : goal.returns-clause-taken
returns-clause-taken g c = λ takes.
    let same : c.deref.result.now ≡ c.args.line.now = c.deref.ensures.value ∙ c.in_ok-lines.ensures.same in
    let holds = subst (λ (l : List ℕ). Holds g.M.Machine.ways c.args.self.now c.begin.new.self l c.in_ok-lines.field-0.answer.items) (sym c.deref.ensures.value) c.in_ok-lines.ensures.holds in
    let line : IsLine c.deref.result.now = subst IsLine (sym c.deref.ensures.value) c.in_ok-lines.ensures.line in
    let row = c.in_ok-row.ensures.row c.args.self.now holds in
    subst (λ (l : List ℕ). IsAlone (batched g.M.Machine.ways) c.args.self.now l c.extend_from_slice.new.self.items c.in_ok-row.field-0.text.items c.seal.new.self) same
    (alone (batched g.M.Machine.ways) c.args.self.now c.seal.new.self c.deref.result.now c.extend_from_slice.new.self.items c.in_ok-row.field-0.text.items holds.takes
    (subst IsLine row (c.in_ok-row.ensures.one_row line)) (c.in_ok-extend_from_slice.ensures.items ∙ ap (λ (l : List ℕ). l ++ 10 ∷ []) row)
    (c.in_ok-row.ensures.text c.args.self.now holds) (c.in_ok-row.ensures.place c.args.self.now holds))
