-- What events, looks and entries keep holds at each place of a journal that the rules give.
use Rattle.std.proofs.Common.{◌≡◌, ℕ, suc, ◌≤◌, Bool, true, false, ◌⊎◌, List, [], ◌∷◌, ◌++◌, inl, inr, length, refl, sym, ◌∙◌, subst, arith}
use Rattle.std.specs.Prelude.{Option}
use Rattle.channel_values.specs.Rules.{Rules}
use Rattle.call_history.specs.declared.entry.Entry.{Entry}
use Rattle.call_history.specs.declared.event.Deed.{Deed}
use Rattle.call_history.specs.declared.event.Deed.TheVariants as deeds
use Rattle.channel_safety.specs.Journals.{In, is_watched}
use Rattle.network.specs.declared.command.Command.{Command}
use Rattle.channel_node.specs.Minds.{Mind, did}
use Rattle.channel_node.specs.Places.{Told}
use Rattle.channel_node.specs.Playing.{Signing, PlaysEvent, Plays}
use Rattle.channel_node.specs.Tables.{Tables}
use Rattle.channel_safety.proofs.Lists.{append_assoc'}

-- no event but a look had seen more than these entries
abbrev pub Seen : List Entry → List Told → Type 0
Seen past front = (y : Told) → In y front → is_watched y.deed ≡ false → y.seen ≤ length past

-- the place of an event in a history and a journal
pub record AtEvent (t : Tables) (r : Rules) (s : Signing) (h : List Entry) (journal : List Told) (past : List Entry) (x : Told) (front : List Told) : Type 0 where
  pub later : List Entry
  pub entries : h ≡ later ++ past
  pub newer : List Told
  pub events : journal ≡ newer ++ x ∷ front
  pub event : PlaysEvent t r s h x front
  pub plays : Plays t r s h front
  pub before : Seen past front
  pub len : length past ≡ x.seen

pub record IsKept (t : Tables) (r : Rules) (s : Signing) (h : List Entry) (journal : List Told) (P : List Entry → List Told → Type 0) : Type 0 where
  pub first : (past : List Entry) → P past []
  pub event : (past : List Entry) (x : Told) (front : List Told) → AtEvent t r s h journal past x front → P past front → P past (x ∷ front)
  pub look : (past : List Entry) (x : Told) (front : List Told) → is_watched x.deed ≡ true → P past front → P past (x ∷ front)
  pub entry : (past : List Entry) (e : Entry) (front : List Told) → Seen past front → P past front → P (e ∷ past) front

-- a look changes nothing that is known
pub looked : (r : Rules) (deed : Deed) (command : Option Command) → is_watched deed ≡ true → (m : Mind) → did r deed command m ≡ m
looked r (deeds.Watched watcher calls) command w m = refl
looked r (deeds.Commanded step refusal) command w m = absurd cc
looked r (deeds.Handled bytes refusal) command w m = absurd cc
looked r (deeds.Signed channel state signature) command w m = absurd cc
looked r (deeds.SignedChallenge channel state who signature) command w m = absurd cc
looked r (deeds.Called call) command w m = absurd cc

here-or-before : (a b : ℕ) → a ≤ suc b → (suc b ≡ a) ⊎ (a ≤ b)
here-or-before a b p = grind arith

module _ (t : Tables) (r : Rules) (s : Signing) (h : List Entry) (journal : List Told) (P : List Entry → List Told → Type 0) (kept : IsKept t r s h journal P) where
  module _ (newer : List Told) (x : Told) (front : List Told) (events : journal ≡ newer ++ x ∷ front) (ev : PlaysEvent t r s h x front) (plays : Plays t r s h front)
      (old : (later past : List Entry) → h ≡ later ++ past → Seen past front → P past front) where
    with-event : (later past : List Entry) → h ≡ later ++ past → Seen past front → length past ≡ x.seen → P past (x ∷ front)
    with-event later past is seen len =
        kept.event past x front (record { later = later; entries = is; newer = newer; events = events; event = ev; plays = plays; before = seen; len = len }) (old later past is seen)

    acts : (later past : List Entry) → h ≡ later ++ past → Seen past (x ∷ front) → is_watched x.deed ≡ false → P past (x ∷ front)
    acts later [] is seen w = with-event later [] is (λ y i v. seen y (inr i) v) (let z : x.seen ≤ 0 = seen x (inl refl) w in omega arith)
    acts later (e ∷ past) is seen w = at (here-or-before x.seen (length past) (seen x (inl refl) w)) (acts (later ++ e ∷ []) past (is ∙ append_assoc' later (e ∷ []) past))
      where
        at : (suc (length past) ≡ x.seen) ⊎ (x.seen ≤ length past) → (Seen past (x ∷ front) → is_watched x.deed ≡ false → P past (x ∷ front)) → P (e ∷ past) (x ∷ front)
        at (inl here) ih = with-event later (e ∷ past) is (λ y i v. seen y (inr i) v) here
        at (inr low) ih = kept.entry past e (x ∷ front) low-all (ih low-all w)
          where
            low-all : Seen past (x ∷ front)
            low-all y (inl same) v = subst (λ (z : Told). z.seen ≤ length past) (sym same) low
            low-all y (inr i) v = let up : y.seen ≤ x.seen = ev.rising y i v in omega arith

    one-more : (later past : List Entry) → h ≡ later ++ past → Seen past (x ∷ front) → P past (x ∷ front)
    one-more later past is seen = go (is_watched x.deed) refl
      where
        go : (b : Bool) → is_watched x.deed ≡ b → P past (x ∷ front)
        go true w = kept.look past x front w (old later past is (λ y i v. seen y (inr i) v))
        go false w = acts later past is seen w

  pub over : (newer front : List Told) → journal ≡ newer ++ front → Plays t r s h front → (later past : List Entry) → h ≡ later ++ past → Seen past front → P past front
  over newer [] events plays later past is seen = kept.first past
  over newer (x ∷ front) events plays later past is seen =
      one-more newer x front events plays.0 plays.1 (over (newer ++ x ∷ []) front (events ∙ append_assoc' newer (x ∷ []) front) plays.1) later past is seen
