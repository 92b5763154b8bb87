use Rattle.std.proofs.Common.{refl, rules, ◌≡◌, ◌++◌, ◌∷◌, [], ◌∙◌, sym, subst}
use Rattle.std.proofs.lemmas.List.{append_assoc}
use Rattle.lasting_lines.specs.Lines.{IsLine}
use Rattle.lasting_lines.proofs.Parts.{holds-more, line-more}
use Rattle.lasting_lines.proofs.played.Played.add.Goals as goal

pub returns-clause-holds : goal.returns-clause-holds
returns-clause-holds g c = λ p h.
    let lines : c.extend_from_slice-2.new.self.items ≡ (c.args.batch.now.lines.items ++ 30 ∷ []) ++ c.args.line.now = search rules in
    let answer : c.extend_from_slice.new.self.items ≡ c.args.batch.now.answer.items ++ g.M.Machine.ways.owes c.args.self.now.machine c.args.line.now = search rules in
    let next : c.step.new.self ≡ g.M.Machine.ways.next c.args.self.now.machine c.args.line.now = search rules in
    holds-more g.M.Machine.ways p c.args.self.now _ c.args.batch.now.lines.items c.args.batch.now.answer.items c.args.line.now
    c.extend_from_slice-2.new.self.items c.extend_from_slice.new.self.items c.requires.part c.requires.taken
    (lines ∙ append_assoc c.args.batch.now.lines.items (30 ∷ []) c.args.line.now) answer refl refl next h

pub returns-clause-line : goal.returns-clause-line
returns-clause-line g c = λ is.
    let lines : c.extend_from_slice-2.new.self.items ≡ (c.args.batch.now.lines.items ++ 30 ∷ []) ++ c.args.line.now = search rules in
    subst IsLine (sym (lines ∙ append_assoc c.args.batch.now.lines.items (30 ∷ []) c.args.line.now))
    (line-more c.args.batch.now.lines.items c.args.line.now is c.requires.part)
