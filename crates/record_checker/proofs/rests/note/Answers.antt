use Rattle.std.proofs.Common.{◌≡◌, sym, ◌∙◌, ℕ, List, ◌∷◌, cond}
use Rattle.std.specs.Prelude.{Some}
use Rattle.std.specs.Map.{lookup}
use Rattle.std.specs.Str.{bytes_eq}
use Rattle.record_checker.specs.Past.{AreRests}
use Rattle.record_checker.proofs.Leaving.{none_changed, one_changed, where_ok}
use Rattle.record_checker.proofs.rests.note.Goals as goal

pub returns : goal.returns
returns c h time legal are =
    where_ok c.put.result
    ((channel : List ℕ) → lookup (bytes_eq channel) c.put.new.rests.entries ≡ cond (bytes_eq c.in-Some.channel channel) (Some c.in_ok-left.left) (lookup (bytes_eq channel) c.args.rests.now.entries))
    (AreRests (c.args.entry.now ∷ h) c.put.new.rests.entries)
    (one_changed h c.args.entry.now c.args.now c.in-Some.channel c.in_ok-rest.rest c.in_ok-left.left c.args.rests.now.entries c.put.new.rests.entries time legal are
    (sym c.changed.ensures ∙ c.in-Some.is) (c.in_ok-rest.ensures ∙ c.rest_in.ensures) c.in_ok-left.ensures)
    c.put.ensures

pub returns-in_default : goal.returns-in_default
returns-in_default c h time legal are = none_changed h c.args.entry.now c.args.rests.now.entries (sym c.changed.ensures ∙ c.in_default.is) are
