-- What a command, a state and a shown chain make of what is kept and of what is held agrees.
use Rattle.std.proofs.Common.{◌≡◌, ℕ, Bool, true, false, cond, ◌||◌, List, [], ◌∷◌, Some, None, refl, sym, ◌∙◌, ap, subst}
use Rattle.std.specs.Prelude.{Option, map}
use Rattle.std.specs.List.{find, list_any}
use Rattle.std.specs.Option.{option_map}
use Rattle.std.specs.Str.{bytes_eq}
use Rattle.channel_values.specs.Parts.{FixedParts}
use Rattle.channel_values.specs.declared.chain.Signed.{Signed}
use Rattle.channel_values.specs.Rules.{Rules}
use Rattle.call_history.specs.Marked.{Marked, nothing, marked_of, extended, adopted}
use Rattle.call_history.specs.Naming.{NamesChannels}
use Rattle.call_history.specs.declared.event.Deed.TheVariants as deeds
use Rattle.channel_safety.specs.Journals.{Line, opened, some_if, noted_in, told_in}
use Rattle.channel_safety.specs.Held.{note, show}
use Rattle.channel_store.specs.Keeping.{noting, adopting}
use Rattle.channel_store.specs.Storing.{is_of, kept_of, kept_with, added}
use Rattle.channel_store.specs.declared.kept.Kept.{Kept}
use Rattle.channel_store.specs.Laws.{KeepsHeld, OpeningIsHeld, NotingIsHeld, LinesNoteStates, AdoptingIsHeld, NotingIsAlone, AdoptingIsAlone}
use Rattle.channel_store.proofs.Keeping.{kept_same, kept_here, kept_other, or_last, kept_append}

-- ---- opening

-- among the added channels
opened_holds : (r : Rules) (f : FixedParts) → NamesChannels r → (adds : List (FixedParts × ℕ))
    → KeepsHeld f (find (is_of (r.named f)) (map (λ a. added a.0 a.1) adds)) (cond (list_any (λ g. bytes_eq (r.named g) (r.named f)) (map (λ a. a.0) adds)) (Some nothing) None)
opened_holds r f names [] = tt
opened_holds r f names (a ∷ adds) =
    subst (λ (name : List ℕ). KeepsHeld f (cond (bytes_eq name (r.named f)) (Some (added a.0 a.1)) (find (is_of (r.named f)) (map (λ b. added b.0 b.1) adds))) (cond (bytes_eq (r.named a.0) (r.named f) || rest) (Some nothing) None)) (names a.0)
    (go (bytes_eq (r.named a.0) (r.named f)) (opened_holds r f names adds))
  where
    rest : Bool
    rest = list_any (λ g. bytes_eq (r.named g) (r.named f)) (map (λ b. b.0) adds)

    go : (b : Bool) → KeepsHeld f (find (is_of (r.named f)) (map (λ b. added b.0 b.1) adds)) (cond rest (Some nothing) None)
        → KeepsHeld f (cond b (Some (added a.0 a.1)) (find (is_of (r.named f)) (map (λ b. added b.0 b.1) adds))) (cond (b || rest) (Some nothing) None)
    go true later = λ same. refl
    go false later = later

pub opening_is_held : OpeningIsHeld
opening_is_held r f seen step adds kept st names holds =
    subst (λ (o : Option Kept). KeepsHeld f o (note r f line st)) (sym (kept_append (r.named f) kept (map (λ a. added a.0 a.1) adds)))
    (go (kept_of (r.named f) kept) st holds)
  where
    line : Line
    line = record { seen = seen; deed = deeds.Commanded step None; adds = map (λ a. a.0) adds }

    go : (o : Option Kept) (st : Option Marked) → KeepsHeld f o st → KeepsHeld f (or_last o (find (is_of (r.named f)) (map (λ a. added a.0 a.1) adds))) (note r f line st)
    go None None holds = opened_holds r f names adds
    go None (Some w) holds = absurd holds
    go (Some k) None holds = absurd holds
    go (Some k) (Some w) holds = holds

-- ---- noting

-- what a line that opens nothing makes of what is held
abbrev with_noted : Rules → FixedParts → Option Signed → Option Marked → Option Marked
with_noted r f o None = None
with_noted r f o (Some w) = Some (extended r f o w)

with_none : (r : Rules) (f : FixedParts) (st : Option Marked) → with_noted r f None st ≡ st
with_none r f None = refl
with_none r f (Some w) = refl

plain : (r : Rules) (f : FixedParts) (x : Line) (st : Option Marked) → opened x ≡ [] → note r f x st ≡ with_noted r f (noted_in (r.named f) x.deed) st
plain r f x None e = ap (λ (fs : List FixedParts). cond (list_any (λ g. bytes_eq (r.named g) (r.named f)) fs) (Some nothing) None) e
plain r f x (Some w) e = refl

noted_holds : (r : Rules) (f : FixedParts) (own : Bool) (next : Signed) (o : Option Kept) (st : Option Marked) → KeepsHeld f o st
    → KeepsHeld f (option_map (noting r own next) o) (with_noted r f (Some next) st)
noted_holds r f own next None None holds = tt
noted_holds r f own next None (Some w) holds = absurd holds
noted_holds r f own next (Some k) None holds = absurd holds
noted_holds r f own next (Some k) (Some w) holds = λ same. ap (λ (g : FixedParts). extended r g (Some next) (marked_of k.chain)) same ∙ ap (extended r f (Some next)) (holds same)

pub noting_is_held : NotingIsHeld
noting_is_held r f own x channel next kept st is holds =
    subst (KeepsHeld f (kept_of (r.named f) (kept_with (noting r own next) channel kept))) (sym (plain r f x st is.opens ∙ ap (λ (o : Option Signed). with_noted r f o st) (is.notes (r.named f))))
    (go (bytes_eq channel (r.named f)) refl)
  where
    go : (b : Bool) → bytes_eq channel (r.named f) ≡ b → KeepsHeld f (kept_of (r.named f) (kept_with (noting r own next) channel kept)) (with_noted r f (some_if b next) st)
    go true e =
        subst (λ (o : Option Kept). KeepsHeld f o (with_noted r f (Some next) st)) (sym (kept_here (noting r own next) (λ k. refl) channel kept (r.named f) e))
        (noted_holds r f own next (kept_of (r.named f) kept) st holds)
    go false e =
        subst (λ (o : Option Kept). KeepsHeld f o (with_noted r f None st)) (sym (kept_other (noting r own next) (λ k. refl) channel kept (r.named f) e))
        (subst (KeepsHeld f (kept_of (r.named f) kept)) (sym (with_none r f st)) holds)

pub lines_note_states : LinesNoteStates
lines_note_states seen adds channel next = record { signed = record { opens = refl; notes = λ c. refl }; handled = λ bytes e. record { opens = refl; notes = λ c. ap (told_in c) e } }

-- ---- adopting

adopted_holds : (r : Rules) (f : FixedParts) (shown : Marked) (o : Option Kept) (st : Option Marked) → KeepsHeld f o st → KeepsHeld f (option_map (adopting r shown) o) (show r f shown st)
adopted_holds r f shown None None holds = tt
adopted_holds r f shown None (Some w) holds = absurd holds
adopted_holds r f shown (Some k) None holds = absurd holds
adopted_holds r f shown (Some k) (Some w) holds = λ same. ap (λ (g : FixedParts). adopted r g shown (marked_of k.chain)) same ∙ ap (adopted r f shown) (holds same)

pub adopting_is_held : AdoptingIsHeld
adopting_is_held r f channel shown kept st holds = go (bytes_eq channel (r.named f)) refl
  where
    go : (b : Bool) → bytes_eq channel (r.named f) ≡ b → KeepsHeld f (kept_of (r.named f) (kept_with (adopting r shown) channel kept)) (cond b (show r f shown st) st)
    go true e =
        subst (λ (o : Option Kept). KeepsHeld f o (show r f shown st)) (sym (kept_here (adopting r shown) (λ k. refl) channel kept (r.named f) e))
        (adopted_holds r f shown (kept_of (r.named f) kept) st holds)
    go false e = subst (λ (o : Option Kept). KeepsHeld f o st) (sym (kept_other (adopting r shown) (λ k. refl) channel kept (r.named f) e)) holds

-- ---- one channel alone

pub noting_is_alone : NotingIsAlone
noting_is_alone r own channel next kept = record { here = kept_same (noting r own next) (λ k. refl) channel kept; others = kept_other (noting r own next) (λ k. refl) channel kept }

pub adopting_is_alone : AdoptingIsAlone
adopting_is_alone r channel shown kept = record { here = kept_same (adopting r shown) (λ k. refl) channel kept; others = kept_other (adopting r shown) (λ k. refl) channel kept }
