-- A round makes of a world of two what the two do.
use Rattle.std.proofs.Common.{◌≡◌, ℕ, Bool, cond, List, [], ◌∷◌, ◌++◌, refl, sym, ◌∙◌, ap, subst}
use Rattle.std.specs.Prelude.{fold}
use Rattle.call_history.specs.declared.entry.Entry.{Entry}
use Rattle.channel_values.specs.Digests.{name_of_person}
use Rattle.network.specs.Worlds.{WorldOf}
use Rattle.node_guarantees.specs.Ways.{Numbered, ways}
use Rattle.script_play.specs.Rounds.{Letter, Mailed, acted, node_acted, watched, looked, second_half}
use Rattle.step_meanings.specs.declared.people.Person.{Person}
use Rattle.script_run.proofs.Acting.{the-mailed, acts_a, acts_b}
use Rattle.script_run.proofs.Looking.{look_a, look_b, stay_calm}
use Rattle.script_run.specs.Rounds.{world, enter_all, Does, AreBare, RoundsAreMade}

-- people without nodes do nothing
none_act : (post : List Letter) (others : List Person) → AreBare others → (s : Mailed Numbered) → fold (acted ways post) s others ≡ s
none_act post [] bare s = refl
none_act post (p ∷ others) bare s = ap (λ (t : Bool). fold (acted ways post) (cond t (node_acted ways post s p) s) others) bare.0 ∙ none_act post others bare.1 s

none_look : (others : List Person) → AreBare others → (w : WorldOf Numbered) → fold (watched ways) w others ≡ w
none_look [] bare w = refl
none_look (p ∷ others) bare w = ap (λ (t : Bool). fold (watched ways) (cond t (looked ways p.number 4 w) w) others) bare.0 ∙ none_look others bare.1 w

pub rounds_are_made : RoundsAreMade
rounds_are_made first second others key_a key_b h post s w one two hand_a hand_b is_a is_b bare at mind_a mind_b used_a used_b sends_a sends_b calls_a calls_b does_a does_b stays =
    let h1 : List Entry = enter_all 1 h calls_a in
    let h2 : List Entry = enter_all 2 h1 calls_b in
    let da : Does s.signer_a (name_of_person first.key) h post s.mind_a s.used_a mind_a used_a sends_a calls_a =
    subst (λ (k : List ℕ). Does s.signer_a (name_of_person k) h post s.mind_a s.used_a mind_a used_a sends_a calls_a) (sym is_a) does_a in
    let db : Does s.signer_b (name_of_person second.key) h1 post s.mind_b s.used_b mind_b used_b sends_b calls_b =
    subst (λ (k : List ℕ). Does s.signer_b (name_of_person k) h1 post s.mind_b s.used_b mind_b used_b sends_b calls_b) (sym is_b) does_b in
    let a = acts_a s.signer_a first post [] h at.a at.eye_a at.b at.eye_b s.mind_a mind_a s.used_a used_a sends_a calls_a one hand_a at.knows_a da in
    let b = acts_b s.signer_b second post sends_a h1 a.node_then at.eye_a at.b at.eye_b s.mind_b mind_b s.used_b used_b sends_b calls_b two hand_b at.knows_b db in
    let la = look_a h2 first a.node_then at.eye_a b.node_then at.eye_b s.signer_a mind_a used_a one hand_a a.knows (stay_calm h h2 at.eye_a stays at.calm_a) in
    let lb = look_b h2 second la.node_then la.eyes_then b.node_then at.eye_b s.signer_b mind_b used_b two hand_b b.knows (stay_calm h h2 at.eye_b stays at.calm_b) in
    let people : List Person = first ∷ second ∷ others in (
      world h2 la.node_then la.eyes_then lb.node_then lb.eyes_then,
      ap (λ (x : WorldOf Numbered). second_half ways people (fold (acted ways post) (acted ways post (acted ways post (the-mailed x []) first) second) others)) at.is
          ∙ ap (λ (x : Mailed Numbered). second_half ways people (fold (acted ways post) (acted ways post x second) others)) a.is
          ∙ ap (λ (x : Mailed Numbered). second_half ways people (fold (acted ways post) x others)) b.is
          ∙ ap (second_half ways people) (none_act post others bare (the-mailed (world h2 a.node_then at.eye_a b.node_then at.eye_b) (sends_a ++ sends_b)))
          ∙ ap (λ (x : WorldOf Numbered). the-mailed (fold (watched ways) (watched ways x second) others) (sends_a ++ sends_b)) la.is
          ∙ ap (λ (x : WorldOf Numbered). the-mailed (fold (watched ways) x others) (sends_a ++ sends_b)) lb.is
          ∙ ap (λ (x : WorldOf Numbered). the-mailed x (sends_a ++ sends_b)) (none_look others bare (world h2 la.node_then la.eyes_then lb.node_then lb.eyes_then)),
      record {
        a = la.node_then;
        b = lb.node_then;
        eye_a = la.eyes_then;
        eye_b = lb.eyes_then;
        is = refl;
        knows_a = la.knows;
        knows_b = lb.knows;
        calm_a = la.calm;
        calm_b = lb.calm;
      },
    )
