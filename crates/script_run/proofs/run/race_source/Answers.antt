-- What was read is the script of the race.
use Rattle.std.proofs.Common.{ℕ, ◌≤◌, List, length, sym, subst, rules}
use Rattle.std.specs.Io.KnownBytes.{Consumes, IsAtEnd}
use Rattle.script_run.specs.Run.{Given, given}
use Rattle.script_run.proofs.run.race_source.Goals as goal

pub returns-in-Ok-clause-ends : goal.returns-in-Ok-clause-ends
returns-in-Ok-clause-ends g c words asks =
    let s : Given = given g.S.Source words c.args.source.now c.read_all.new.source in
    let taken : Consumes s.before s.after c.in-Ok.bytes.items = search rules in
    let done : IsAtEnd s.after = search rules in
    let short : length c.in-Ok.bytes.items ≤ 4194304 = search rules in
    c.race_script.ensures.ends s asks
    (subst (λ (b : List ℕ). Consumes s.before s.after b) (sym c.deref.ensures.value) taken)
    done
    (subst (λ (b : List ℕ). length b ≤ 4194304) (sym c.deref.ensures.value) short)
