use Rattle.std.proofs.Common.{ℕ, [], ◌∷◌, length, refl, ◌∙◌, ap, subst, arith}
use Rattle.network_rounds.specs.Working.{given_at, Works}
use Rattle.shared_object.proofs.Sums.{starts_refl}
use Rattle.network_rounds.proofs.Works.{works-none}
use Rattle.network_rounds.proofs.Steps.{plays_by}
use Rattle.network_rounds.proofs.cast.play.Goals as goal

pub returns-in_ok-enter-in-Enter-clause-plays : goal.returns-in_ok-enter-in-Enter-clause-plays
returns-in_ok-enter-in-Enter-clause-plays g c =
    let n = length c.asked-cast.result.0.notes.entries.items in
    let seen = c.asked-cast.ensures.same.2 ∙ c.in_ok-cast.ensures.notes in
    let number = c.asked-cast.ensures.same.0 ∙ c.in_ok-cast.ensures.same.0 in
    let works = c.in_ok-enter-in-Enter.ensures.works n (omega (arith, ap length seen)) in
    plays_by _ _ _ _ _ _ _ _ _ _ _ c.in_ok-cast.ensures.works c.asked-cast.ensures.same.2 c.in_ok-cast.ensures.notes c.in_ok-cast.ensures.same.2 c.in_ok-cast.ensures.same.3 c.asked-cast.ensures.told c.in-Enter.is
    number (c.asked-cast.ensures.same.1 ∙ (c.in_ok-cast.ensures.same.1 ∙ c.requires.awake)) refl works.later
    (subst (λ (k : ℕ). Works (given_at k n (c.in-Enter.call ∷ [])) c.shown.new.seat c.enter.new.seat) number works)

pub returns-in-Post-clause-plays : goal.returns-in-Post-clause-plays
returns-in-Post-clause-plays g c =
    plays_by _ _ _ _ _ _ _ _ _ _ _ c.in_ok-cast.ensures.works c.asked-cast.ensures.same.2 c.in_ok-cast.ensures.notes c.in_ok-cast.ensures.same.2 c.in_ok-cast.ensures.same.3 c.asked-cast.ensures.told c.in-Post.is
    (c.asked-cast.ensures.same.0 ∙ c.in_ok-cast.ensures.same.0) (c.asked-cast.ensures.same.1 ∙ (c.in_ok-cast.ensures.same.1 ∙ c.requires.awake)) refl (starts_refl _) (works-none _)

pub returns-in-Rest-clause-plays : goal.returns-in-Rest-clause-plays
returns-in-Rest-clause-plays g c =
    plays_by _ _ _ _ _ _ _ _ _ _ _ c.in_ok-cast.ensures.works c.asked-cast.ensures.same.2 c.in_ok-cast.ensures.notes c.in_ok-cast.ensures.same.2 c.in_ok-cast.ensures.same.3 c.asked-cast.ensures.told c.in-Rest.is
    (c.asked-cast.ensures.same.0 ∙ c.in_ok-cast.ensures.same.0) (c.asked-cast.ensures.same.1 ∙ (c.in_ok-cast.ensures.same.1 ∙ c.requires.awake)) refl (starts_refl _) (works-none _)

pub returns-in-Done-clause-plays : goal.returns-in-Done-clause-plays
returns-in-Done-clause-plays g c =
    plays_by _ _ _ _ _ _ _ _ _ _ _ c.in_ok-cast.ensures.works c.asked-cast.ensures.same.2 c.in_ok-cast.ensures.notes c.in_ok-cast.ensures.same.2 c.in_ok-cast.ensures.same.3 c.asked-cast.ensures.told c.in-Done.is
    (c.asked-cast.ensures.same.0 ∙ c.in_ok-cast.ensures.same.0) refl refl (starts_refl _) (works-none _)
