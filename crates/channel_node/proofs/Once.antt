-- A channel is opened once, so a journal that the rules give is honest in each channel that it opens.
use Rattle.std.proofs.Common.{◌≡◌, ℕ, ◌≤◌, Bool, true, false, cond, ◌||◌, not, List, [], ◌∷◌, ◌++◌, inl, inr, length, refl, sym, ◌∙◌, ap, subst}
use Rattle.std.specs.Prelude.{Option, Some, None, map}
use Rattle.std.specs.List.{list_any, list_all}
use Rattle.std.specs.Str.{bytes_eq}
use Rattle.channel_values.specs.Parts.{FixedParts}
use Rattle.channel_values.specs.Rules.{Rules}
use Rattle.call_history.proofs.Names.{same_bytes, bytes_eq_self}
use Rattle.call_history.specs.Marked.{Marked, nothing, extended}
use Rattle.call_history.specs.History.{Legal}
use Rattle.call_history.specs.declared.entry.Entry.{Entry}
use Rattle.call_history.specs.declared.event.Deed.{Deed}
use Rattle.call_history.specs.declared.event.Deed.TheVariants as deeds
use Rattle.channel_store.specs.Storing.{kept_of}
use Rattle.channel_store.specs.declared.kept.Kept.{Kept}
use Rattle.channel_safety.proofs.Lists.{Split, split_of, Suffix, suffix_of}
use Rattle.channel_safety.proofs.Places.{held-at}
use Rattle.channel_safety.proofs.Rowing.{legal-suffix}
use Rattle.channel_safety.proofs.Tests.{none-eq, some-eq, and-left}
use Rattle.channel_safety.specs.Journals.{In, Line, is_watched, is_followed, opened, opens, noted_in}
use Rattle.channel_safety.specs.Held.{note, held}
use Rattle.channel_node.specs.Tables.{Tables}
use Rattle.channel_node.specs.Openings.{opened_by, takes_part, adds, are_apart}
use Rattle.channel_node.specs.Refusing.{is_planned}
use Rattle.channel_node.specs.Minds.{Mind}
use Rattle.channel_node.specs.Places.{Told, line_of, lines_of, mind_at, AreFew}
use Rattle.channel_node.specs.Playing.{Signing, SignsWell, signings, pending, PlaysEvent, Plays}
use Rattle.network.specs.declared.command.Command.{Command}
use Rattle.channel_store.specs.Laws.{KeepsHeld}
use Rattle.channel_node.specs.NodeLaws.{KeptIsHeld, PlayedJournalsAreHonest}
use Rattle.channel_node.proofs.Agreeing.{IsOwn, Agree}
use Rattle.channel_node.proofs.Standing.{known}
use Rattle.channel_node.proofs.Reaching.{IsHeld, held-later}
use Rattle.channel_node.proofs.Allowing.{OpensNew, filter-in, apart-one, opens-new, opens-none}
use Rattle.channel_node.proofs.Bridging.{In-lines, lines-append, plays-rises, OneFixed, honest-in}

-- ---- what a line opens

in-adds : (b : Bool) (fs : List FixedParts) (f : FixedParts) → In f (cond b fs []) → (b ≡ true) × In f fs
in-adds true fs f i = (refl, i)
in-adds false fs f i = absurd i

any-in : (r : Rules) (c : List ℕ) (fs : List FixedParts) (f : FixedParts) → In f fs → bytes_eq (r.named f) c ≡ true → list_any (λ g. bytes_eq (r.named g) c) fs ≡ true
any-in r c [] f i e = absurd i
any-in r c (g ∷ fs) f (inl same) e = ap (λ b. b || list_any (λ g. bytes_eq (r.named g) c) fs) (ap (λ (z : FixedParts). bytes_eq (r.named z) c) (sym same) ∙ e)
any-in r c (g ∷ fs) f (inr i) e = or-right (bytes_eq (r.named g) c) (list_any (λ g. bytes_eq (r.named g) c) fs) (any-in r c fs f i e)
  where
    or-right : (a b : Bool) → b ≡ true → (a || b) ≡ true
    or-right true b h = refl
    or-right false b h = h

followed-not_watched : (d : Deed) → is_followed d ≡ true → is_watched d ≡ false
followed-not_watched (deeds.Watched place calls) e = absurd cc
followed-not_watched _ e = refl

-- once the channel is opened something is held
opens-held : (r : Rules) (f : FixedParts) (past : List Entry) (x : Line) (front : List Line) → length past ≡ x.seen → opens r (r.named f) x ≡ true → IsHeld (held r f past (x ∷ front))
opens-held r f past x front len e = subst IsHeld (sym (held-at r f past x front len)) (go (held r f past front))
  where
    go : (st : Option Marked) → IsHeld (note r f x st)
    go None = (nothing, ap (λ (b : Bool). cond b (Some nothing) None) e)
    go (Some w) = (extended r f (noted_in (r.named f) x.deed) w, refl)

module _ (ts : Tables) (r : Rules) (s : Signing) (signs-well : SignsWell r s) (h : List Entry) (legal : Legal r h) where
  -- what is kept at an event is the participant's own
  own-at : (c : List ℕ) (f : FixedParts) (past : List Entry) (front : List Told) → c ≡ r.named f → Legal r past → AreFew past
      → (k : Kept) → kept_of c (mind_at r s.key past front).kept ≡ Some k → IsOwn r s.key c (lines_of s.key front) k
  own-at c f past front is legal few k e =
      subst (λ (n : List ℕ). IsOwn r s.key n (lines_of s.key front) k) (sym is)
      (go (kept_of (r.named f) (mind_at r s.key past front).kept) (held r f past (lines_of s.key front))
      (subst (λ (n : List ℕ). kept_of n (mind_at r s.key past front).kept ≡ Some k) is e) (known r s.key f past front legal few).agree)
    where
      go : (o : Option Kept) (w : Option Marked) → o ≡ Some k → Agree r s.key f (lines_of s.key front) o w → IsOwn r s.key (r.named f) (lines_of s.key front) k
      go None w e a = absurd (none-eq k e)
      go (Some k') None e a = absurd a
      go (Some k') (Some w) e a = subst (IsOwn r s.key (r.named f) (lines_of s.key front)) (some-eq k' k e) a.0

  -- a channel that an earlier line opened isn't opened again
  twice : (x : Told) (front : List Told) → PlaysEvent ts r s h x front → Plays ts r s h front → (f g : FixedParts) → In f (opened (line_of s.key x))
      → (y : Told) → In y front → In g (opened (line_of s.key y)) → bytes_eq (r.named g) (r.named f) ≡ true → ⊥
  twice x front ev plays f g i y j k same = at (suffix_of h x.seen ev.within) (split_of y front j)
    where
      at : Suffix h x.seen → Split y front → ⊥
      at su sp = absurd (none-eq there.0 (sym gone ∙ there.1))
        where
          older : List Told
          older = sp.front

          plays' : Plays ts r s h (sp.newer ++ y ∷ older)
          plays' = subst (Plays ts r s h) sp.is plays

          not_watched : is_watched y.deed ≡ false
          not_watched = followed-not_watched y.deed (in-adds (is_followed y.deed) (adds s.key y.command) g k).0

          within : y.seen ≤ length su.past
          within = subst (λ (n : ℕ). y.seen ≤ n) (sym su.len) (ev.rising y j not_watched)

          deeper : Suffix su.past y.seen
          deeper = suffix_of su.past y.seen within

          whole : lines_of s.key front ≡ lines_of s.key sp.newer ++ lines_of s.key (y ∷ older)
          whole = ap (lines_of s.key) sp.is ∙ lines-append s.key sp.newer (y ∷ older)

          held-there : IsHeld (held r g su.past (lines_of s.key front))
          held-there =
              subst (λ (z : List Entry). IsHeld (held r g z (lines_of s.key front))) (sym deeper.is)
              (subst (λ (z : List Line). IsHeld (held r g (deeper.later ++ deeper.past) z)) (sym whole)
              (held-later r g (lines_of s.key sp.newer) deeper.later deeper.past (lines_of s.key (y ∷ older))
              (λ z n w. (let told = In-lines s.key z sp.newer n in
              let a : y.seen ≤ told.0.seen = plays-rises ts r s h sp.newer y older plays' not_watched told.0 told.1 in
              subst (λ (v : Line). length deeper.past ≤ v.seen) (sym told.2) (subst (λ (n : ℕ). n ≤ told.0.seen) (sym deeper.len) a)))
              (opens-held r g deeper.past (line_of s.key y) (lines_of s.key older) deeper.len (any-in r (r.named g) (opened (line_of s.key y)) g k (bytes_eq_self (r.named g))))))

          few : AreFew su.past
          few = (ev.place su.later su.past su.is su.len).0

          legal-past : Legal r su.past
          legal-past = legal-suffix r su.later su.past (subst (Legal r) su.is legal)

          kept-there : (o : Option Kept) (w : Option Marked) → IsHeld w → Agree r s.key g (lines_of s.key front) o w → (k : Kept) × (o ≡ Some k)
          kept-there (Some k) w e a = (k, refl)
          kept-there None None e a = absurd (none-eq e.0 e.1)
          kept-there None (Some w) e a = absurd a

          there : (k : Kept) × (kept_of (r.named g) (mind_at r s.key su.past front).kept ≡ Some k)
          there = kept-there (kept_of (r.named g) (mind_at r s.key su.past front).kept) (held r g su.past (lines_of s.key front)) held-there (known r s.key g su.past front legal-past few).agree

          gone : kept_of (r.named g) (mind_at r s.key su.past front).kept ≡ None
          gone = subst (λ (z : List ℕ). kept_of z (mind_at r s.key su.past front).kept ≡ None) (sym (same_bytes (r.named g) (r.named f) same))
              (opens-none ts r s signs-well su.past (mind_at r s.key su.past front) (signings front) (pending front) (r.named f) (lines_of s.key front) (own-at (r.named f) f su.past front refl legal-past few) x.seen x.deed x.command
              (ev.place su.later su.past su.is su.len).1 (any-in r (r.named f) (opened (line_of s.key x)) f i (bytes_eq_self (r.named f))))

  -- one line opens one fixed part of a name
  same-line : (z : Told) (front : List Told) → PlaysEvent ts r s h z front → Plays ts r s h front → (f g : FixedParts) → In f (opened (line_of s.key z)) → In g (opened (line_of s.key z))
      → bytes_eq (r.named g) (r.named f) ≡ true → g ≡ f
  same-line z front ev plays f g i j same = at (suffix_of h z.seen ev.within)
    where
      at : Suffix h z.seen → g ≡ f
      at su = apart-one r (opened_by o.command) (and-left (are_apart names) (list_all (λ name. not (is_planned m name)) names) o.new) f g (inside f i) (inside g j) same
        where
          m : Mind
          m = mind_at r s.key su.past front

          few : AreFew su.past
          few = (ev.place su.later su.past su.is su.len).0

          legal-past : Legal r su.past
          legal-past = legal-suffix r su.later su.past (subst (Legal r) su.is legal)

          o : OpensNew r m s.key z.command
          o = opens-new ts r s signs-well su.past m (signings front) (pending front) (r.named f) (lines_of s.key front) (own-at (r.named f) f su.past front refl legal-past few) z.seen z.deed z.command
              (ev.place su.later su.past su.is su.len).1 f i

          names : List (List ℕ)
          names = map r.named (opened_by o.command)

          inside : (x : FixedParts) → In x (opened (line_of s.key z)) → In x (opened_by o.command)
          inside x n =
              filter-in (takes_part s.key) x (opened_by o.command)
              (subst (λ (c : Option Command). In x (adds s.key c)) o.is (in-adds (is_followed z.deed) (adds s.key z.command) x n).1)

  once : (journal : List Told) → Plays ts r s h journal → (x : Line) (f : FixedParts) → In x (lines_of s.key journal) → In f (opened x) → OneFixed r f (lines_of s.key journal)
  once [] plays x f i j y g k l same = absurd i
  once (z ∷ front) plays x f (inl a) j y g (inl b) l same =
      let at-z : In f (opened (line_of s.key z)) = subst (λ (v : Line). In f (opened v)) a j in
      let at-y : In g (opened (line_of s.key z)) = subst (λ (v : Line). In g (opened v)) b l in
      same-line z front plays.0 plays.1 f g at-z at-y same
  once (z ∷ front) plays x f (inl a) j y g (inr k) l same =
      let told = In-lines s.key y front k in
      absurd (twice z front plays.0 plays.1 f g (subst (λ (v : Line). In f (opened v)) a j) told.0 told.1 (subst (λ (v : Line). In g (opened v)) told.2 l) same)
  once (z ∷ front) plays x f (inr i) j y g (inl b) l same =
      let told = In-lines s.key x front i in
      absurd (twice z front plays.0 plays.1 g f (subst (λ (v : Line). In g (opened v)) b l) told.0 told.1 (subst (λ (v : Line). In f (opened v)) told.2 j)
      (subst (λ (n : List ℕ). bytes_eq (r.named f) n ≡ true) (sym (same_bytes (r.named g) (r.named f) same)) (bytes_eq_self (r.named f))))
  once (z ∷ front) plays x f (inr i) j y g (inr k) l same = once front plays.1 x f i j y g k l same

pub played_journals_are_honest : PlayedJournalsAreHonest
played_journals_are_honest ts r s h journal signs-well legal plays f x i j = honest-in ts r s signs-well f h legal journal plays (once ts r s signs-well h legal journal plays x f i j)

pub kept_is_held : KeptIsHeld
kept_is_held r key f past journal legal few = go (kept_of (r.named f) (mind_at r key past journal).kept) (held r f past (lines_of key journal)) (known r key f past journal legal few).agree
  where
    go : (o : Option Kept) (w : Option Marked) → Agree r key f (lines_of key journal) o w → KeepsHeld f o w
    go None None a = tt
    go None (Some w) a = absurd a
    go (Some k) None a = absurd a
    go (Some k) (Some w) a = a.1
