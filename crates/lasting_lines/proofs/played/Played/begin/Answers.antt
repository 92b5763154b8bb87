use Rattle.std.proofs.Common.{refl, rules, subst}
use Rattle.lasting_lines.specs.Lines.{IsLine}
use Rattle.lasting_lines.proofs.Parts.{holds-one, part-line}
use Rattle.lasting_lines.proofs.played.Played.begin.Goals as goal

pub returns-clause-holds : goal.returns-clause-holds
returns-clause-holds g c =
    holds-one g.M.Machine.ways c.args.self.now _ c.args.line.now _ _ c.requires.part c.requires.taken (search rules) refl refl
    (search rules) (search rules)

pub returns-clause-line : goal.returns-clause-line
returns-clause-line g c = subst IsLine (search rules) (part-line c.args.line.now c.requires.part)
