use Rattle.std.proofs.Common.{◌≡◌, ◌∷◌, [], ◌++◌, ◌∙◌, ℕ, List, get_or, OnOk, ap, refl, subst}
use Rattle.script_reader.specs.context.Person.{Person}
use Rattle.script_reader.specs.step.Step.{Step}
use Rattle.hop_script.specs.Hop.{declared_people, opened_ledgers, opened_virtuals}
use Rattle.hop_script.proofs.Lists.{two_on, four_of}
use Rattle.hop_script.proofs.opening.push_openings.Goals as goal

pub returns : goal.returns
returns c =
    let four : List Person = c.a-item.result ∷ c.near-item.result ∷ c.far-item.result ∷ c.b-item.result ∷ [] in
    let at : (k : ℕ) (x : Person) → x ≡ get_or c.args.people.now k x → x ≡ get_or declared_people k x = λ k x e. e ∙ ap (λ (l : List Person). get_or l k x) c.requires.are in
    let all : four ≡ declared_people = four_of declared_people c.a-item.result c.near-item.result c.far-item.result c.b-item.result refl (at 0 _ c.a-item.is) (at 1 _ c.near-item.is) (at 2 _ c.far-item.is) (at 3 _ c.b-item.is) in
    subst (λ (x : List Step). OnOk c.push_opened_virtuals.result (c.push_opened_virtuals.new.steps ≡ x))
    (two_on c.args.steps.now c.push_opened_ledgers.new.steps (opened_ledgers declared_people) opened_virtuals (subst (λ (p : List Person). c.push_opened_ledgers.new.steps ≡ c.args.steps.now ++ opened_ledgers p) all c.in_ok-push_opened_ledgers.ensures)) c.push_opened_virtuals.ensures
