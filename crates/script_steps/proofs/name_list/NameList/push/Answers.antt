use Rattle.std.proofs.Common.{◌≡◌, ◌++◌, ◌∷◌, [], ℕ, List, rules, sym, ◌∙◌, ap, subst}
use Rattle.std.specs.Prelude.{string_bytes}
use Rattle.script_steps.specs.Index.{IsIndex}
use Rattle.script_steps.proofs.Index.{index_push}
use Rattle.script_steps.proofs.name_list.NameList.push.Goals as goal

pub invariant_of-self-in-Ok : goal.invariant_of-self-in-Ok
invariant_of-self-in-Ok c =
    let names = c.self.inside.names.items in
    let same : string_bytes c.in_ok-text.text ≡ c.args.name = search rules in
    let pushed : c.push.new.self.items ≡ names ++ c.args.name ∷ [] = search rules in
    subst (λ (all : List (List ℕ)). IsIndex all c.insert.new.self) (ap (λ name. names ++ name ∷ []) same ∙ sym pushed)
    (index_push c.self.inside.index c.insert.new.self names c.in_ok-text.text c.self.invariant c.in-Ok.ensures.updates)
