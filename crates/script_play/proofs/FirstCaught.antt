-- The state that is caught is that of the first event that signs one, or that of the rest.
use Rattle.std.proofs.Common.{◌≡◌, ℕ, List, [], ◌∷◌, Bool, true, false, cond, Option, Some, None, refl, sym, ◌∙◌}
use Rattle.std.specs.Prelude.{◌==◌}
use Rattle.std.specs.List.{find, filter_map, cons_option}
use Rattle.channel_values.specs.declared.chain.Signed.{Signed}
use Rattle.call_history.specs.declared.event.Event.{Event}
use Rattle.channel_safety.specs.Journals.{made_in}
use Rattle.script_play.specs.Play.{caught}

found_first : {X : Type 0} (test : X → Bool) (o : Option X) (xs : List X) (x : X) → Some x ≡ find test (cons_option o []) → Some x ≡ find test (cons_option o xs)
found_first test None xs x e = absurd (cc)
found_first test (Some y) xs x e = by (test y) e
  where
    by : (b : Bool) → Some x ≡ cond b (Some y) None → Some x ≡ cond b (Some y) (find test xs)
    by true e = e
    by false e = absurd (cc)

found_later : {X : Type 0} (test : X → Bool) (o : Option X) (xs : List X) → None ≡ find test (cons_option o []) → find test xs ≡ find test (cons_option o xs)
found_later test None xs e = refl
found_later test (Some y) xs e = by (test y) e
  where
    by : (b : Bool) → None ≡ cond b (Some y) None → find test xs ≡ cond b (Some y) (find test xs)
    by true e = absurd (cc)
    by false e = refl

pub stops : (channel : List ℕ) (turn : ℕ) (x : Event) (journal : List Event) (s : Signed) → Some s ≡ caught channel turn (x ∷ []) → Some s ≡ caught channel turn (x ∷ journal)
stops channel turn x journal s e = found_first (λ (s : Signed). s.state.turn == turn) (made_in channel x.deed) (filter_map (λ (x : Event). made_in channel x.deed) journal) s e

pub goes_on : (channel : List ℕ) (turn : ℕ) (x : Event) (journal : List Event) (o : Option Signed) → None ≡ caught channel turn (x ∷ []) → o ≡ caught channel turn journal → o ≡ caught channel turn (x ∷ journal)
goes_on channel turn x journal o e h = h ∙ found_later (λ (s : Signed). s.state.turn == turn) (made_in channel x.deed) (filter_map (λ (x : Event). made_in channel x.deed) journal) e
