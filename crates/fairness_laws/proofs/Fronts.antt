-- The place at which a line of a node's journal signs a state.
use Rattle.std.proofs.Common.{◌≡◌, ℕ, ◌≤◌, false, List, [], ◌∷◌, ◌++◌, inl, inr, length, refl, sym, ◌∙◌, ap, subst, arith}
use Rattle.std.proofs.lemmas.List.{append_cancel_right, append_assoc}
use Rattle.call_history.specs.declared.entry.Entry.{Entry}
use Rattle.channel_safety.proofs.Lists.{append_assoc'}
use Rattle.channel_safety.specs.Journals.{In, Line, is_watched}
use Rattle.channel_node.proofs.Bridging.{plays-at}
use Rattle.channel_node.specs.Places.{Told, line_of, lines_of}
use Rattle.channel_node.specs.Playing.{Signing, PlaysEvent, Plays}
use Rattle.channel_node.specs.Tables.{Tables}
use Rattle.share_laws.specs.Places.{IsPlace}
use Rattle.support_rules.specs.Real.{real}
use Rattle.fairness_laws.specs.PaymentLaws.{At}

first-line : Line → List Line → Line
first-line none [] = none
first-line none (x ∷ xs) = x

rest-lines : List Line → List Line
rest-lines [] = []
rest-lines (x ∷ xs) = xs

-- the lines of a journal that end so are those of its events
pub record Split (key : List ℕ) (journal : List Told) (x : Line) (lines : List Line) : Type 0 where
  pub newer : List Told
  pub event : Told
  pub front : List Told
  pub events : journal ≡ newer ++ event ∷ front
  pub line : line_of key event ≡ x
  pub rest : lines_of key front ≡ lines

pub split : (key : List ℕ) (journal : List Told) (newer : List Line) (x : Line) (lines : List Line) → lines_of key journal ≡ newer ++ x ∷ lines → Split key journal x lines
unfolding first-line rest-lines
split key [] [] x lines e = absurd cc
split key [] (y ∷ newer) x lines e = absurd cc
split key (t ∷ journal) [] x lines e =
    record { newer = []; event = t; front = journal; events = refl; line = ap (first-line x) e; rest = ap rest-lines e }
split key (t ∷ journal) (y ∷ newer) x lines e =
    let s = split key journal newer x lines (ap rest-lines e) in
    record { newer = t ∷ s.newer; event = s.event; front = s.front; events = ap (λ (ts : List Told). t ∷ ts) s.events; line = s.line; rest = s.rest }

in-last : (x : Line) (xs : List Line) → In x (xs ++ x ∷ [])
in-last x [] = inl refl
in-last x (y ∷ ys) = inr (in-last x ys)

-- a line that acts at a place had seen the entries before it
pub seen-there : (h : List Entry) (journal : List Line) (past : List Entry) (front : List Line) (x : Line) → IsPlace h journal past front → IsPlace h journal past (x ∷ front)
    → is_watched x.deed ≡ false → x.seen ≡ length past
seen-there h journal past front x p q unwatched =
    let e : p.newer ≡ q.newer ++ x ∷ [] =
    append_cancel_right p.newer (q.newer ++ x ∷ []) front (sym p.lines ∙ q.lines ∙ sym (append_assoc q.newer (x ∷ []) front)) in
    let le : x.seen ≤ length past = q.before x (inl refl) unwatched in
    let ge : length past ≤ x.seen = p.after x (subst (λ (ys : List Line). In x ys) (sym e) (in-last x q.newer)) unwatched in
    omega (arith, le, ge)

-- an event at its place
pub record Acts (t : Tables) (s : Signing) (h : List Entry) (journal : List Told) (past : List Entry) (x : Told) (front : List Told) : Type 0 where
  pub at : At s h journal past front
  pub event : PlaysEvent t real s h x front
  pub plays : Plays t real s h front
  pub len : length past ≡ x.seen

plays-rest : (t : Tables) (s : Signing) (h : List Entry) (newer : List Told) (x : Told) (front : List Told) → Plays t real s h (newer ++ x ∷ front) → Plays t real s h front
plays-rest t s h [] x front plays = plays.1
plays-rest t s h (y ∷ newer) x front plays = plays-rest t s h newer x front plays.1

pub acts : (t : Tables) (s : Signing) (h : List Entry) (journal : List Told) → Plays t real s h journal → (past : List Entry) (newer : List Told) (x : Told) (front : List Told) → journal ≡ newer ++ x ∷ front
    → is_watched x.deed ≡ false → IsPlace h (lines_of s.key journal) past (lines_of s.key front) → IsPlace h (lines_of s.key journal) past (line_of s.key x ∷ lines_of s.key front)
    → Acts t s h journal past x front
acts t s h journal plays past newer x front events unwatched p q = record {
  at = record {
    front_is = record {
      later = p.later;
      newer = newer ++ x ∷ [];
      entries = p.entries;
      events = events ∙ append_assoc' newer (x ∷ []) front;
      few = (event.place p.later past p.entries len).0;
      before = λ y i w. p.before (line_of s.key y) (in-told y front i) w;
    };
    place = p;
  };
  event = event;
  plays = plays-rest t s h newer x front (subst (Plays t real s h) events plays);
  len = len;
}
  where
    event : PlaysEvent t real s h x front
    event = plays-at t real s h newer x front (subst (Plays t real s h) events plays)

    len : length past ≡ x.seen
    len = sym (seen-there h (lines_of s.key journal) past (lines_of s.key front) (line_of s.key x) p q unwatched)

    in-told : (y : Told) (ys : List Told) → In y ys → In (line_of s.key y) (lines_of s.key ys)
    in-told y [] i = i
    in-told y (z ∷ zs) (inl e) = inl (ap (line_of s.key) e)
    in-told y (z ∷ zs) (inr i) = inr (in-told y zs i)
