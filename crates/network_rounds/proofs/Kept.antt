-- The nodes and watchers of a crew stand for the history after a round.
use Rattle.std.proofs.Common.{◌≡◌, ℕ, suc, ◌+◌, inl, inr, Bool, true, false, cond, List, [], ◌∷◌, ◌++◌, length, reverse, drop, fold, refl, sym, ap, ◌∙◌, subst, arith, append_assoc}
use Rattle.std.proofs.lemmas.List.{reverse-append, reverse-reverse, length-set}
use Rattle.std.specs.Prelude.{Option, Some, None, slice_get}
use Rattle.std.specs.Str.{bytes_eq}
use Rattle.call_history.specs.History.{newest_first, Legal}
use Rattle.call_history.specs.declared.entry.Entry.{Entry}
use Rattle.shared_object.specs.History.{StartsWith}
use Rattle.shared_object.proofs.Sums.{starts_trans}
use Rattle.adjudicator.proofs.SharedSteps.{shared_legal}
use Rattle.channel_safety.specs.Journals.{In}
use Rattle.network.specs.Ways.{Ways, followed}
use Rattle.network.specs.Histories.{ComeNext}
use Rattle.network.specs.declared.lookout.Lookout.{Lookout}
use Rattle.network.specs.Members.{MemberOf, sees, handed, looks, looks_with}
use Rattle.support_rules.specs.Real.{real}
use Rattle.network.specs.Standing.{AreKept, Follows}
use Rattle.network.proofs.Fronts.{rest_comes}
use Rattle.network.proofs.Standing as world
use Rattle.network_rounds.specs.Members.{Letter, Rises, heard, person, ready, acted, looked_all}
use Rattle.network_rounds.specs.Players.{Player, awake}
use Rattle.network_rounds.specs.Working.{Given}
use Rattle.network_rounds.specs.Crews.{IsMember}
use Rattle.network_rounds.specs.Laws.{RoundsKeepCrews, CrewsAreHonest}
use Rattle.network_rounds.specs.Told.{NodeRan, Answer, AreAnswers, ActorRan, Each, IsBetween}
use Rattle.network_rounds.proofs.Parts.{acted-watchers}

-- ---- longer histories

pub longer-is : (h later : List Entry) (s : StartsWith later h) → newest_first later ≡ reverse s.0 ++ newest_first h
longer-is h later s = ap reverse s.1 ∙ reverse-append h s.0

legal-end : (more g : List Entry) → Legal real (more ++ g) → Legal real g
legal-end [] g l = l
legal-end (e ∷ more) g l = legal-end more g l.0

pub legal-front : (h later : List Entry) → StartsWith later h → Legal real (newest_first later) → Legal real (newest_first h)
legal-front h later s l = legal-end (reverse s.0) (newest_first h) (subst (Legal real) (longer-is h later s) l)

pub rises-end : (h : List Entry) (xs : List (List Entry)) (later : List Entry) → Rises h xs later → StartsWith later h
rises-end h [] later r = r
rises-end h (x ∷ xs) later r = starts_trans later x h (rises-end x xs later r.1) r.0

-- ---- elements of lists that correspond

pub record Match {A B C D : Type 0} (R : A → B → C → D → Type 0) (xs : List A) (y : B) : Type 0 where
  pub x : A
  pub there : In x xs
  pub z : C
  pub w : D
  pub holds : R x y z w

pub match_of : {A B C D : Type 0} (R : A → B → C → D → Type 0) (xs : List A) (ys : List B) (zs : List C) (ws : List D) (y : B) → Each R xs ys zs ws → In y ys → Match R xs y
match_of R [] [] [] [] y e i = absurd i
match_of R (x ∷ xs) (v ∷ ys) (z ∷ zs) (w ∷ ws) y e (inl same) = record { x = x; there = inl refl; z = z; w = w; holds = subst (λ (u : _). R x u z w) (sym same) e.0 }
match_of R (x ∷ xs) (v ∷ ys) (z ∷ zs) (w ∷ ws) y e (inr i) = let m = match_of R xs ys zs ws y e.1 i in record { x = m.x; there = inr m.there; z = m.z; w = m.w; holds = m.holds }
match_of R [] [] [] (w ∷ ws) y e i = absurd e
match_of R [] [] (z ∷ zs) ws y e i = absurd e
match_of R [] (v ∷ ys) zs ws y e i = absurd e
match_of R (x ∷ xs) [] zs ws y e i = absurd e
match_of R (x ∷ xs) (v ∷ ys) [] ws y e i = absurd e
match_of R (x ∷ xs) (v ∷ ys) (z ∷ zs) [] y e i = absurd e

module _ {P : Type 0} (ways : Ways P) (stands : List Entry → P → Type 0) (kept : AreKept ways stands) where
  grown : (more g : List Entry) (p : P) → Legal real (more ++ g) → stands g p → stands (more ++ g) p
  grown [] g p l s = s
  grown (e ∷ more) g p l s = kept.grows (more ++ g) e p l (grown more g p l.0 s)

  follows-grown : (more g : List Entry) (l : Lookout) → Follows g l → Follows (more ++ g) l
  follows-grown more g l f =
      record { later = more ++ f.later; past = f.past; is = ap (λ (es : List Entry). more ++ es) f.is ∙ sym (append_assoc more f.later f.past); count = f.count; stands = f.stands }

  abbrev Standing : List Entry → MemberOf P → Type 0
  Standing h m = world.IsMember ways stands kept (newest_first h) m

  member-grown : (h later : List Entry) (m : MemberOf P) → StartsWith later h → Legal real (newest_first later) → Standing h m → Standing later m
  member-grown h later m s legal i =
      let is = longer-is h later s in
      let legal' = subst (Legal real) is legal in
      record {
        node = subst (λ (g : List Entry). stands g m.node) (sym is) (grown (reverse s.0) (newest_first h) m.node legal' i.node);
        watchers = λ l j. subst (λ (g : List Entry). Follows g l) (sym is) (follows-grown (reverse s.0) (newest_first h) l (i.watchers l j));
      }

  pub sees-kept : (seen : List Entry) (m : MemberOf P) → Legal real (newest_first seen) → Standing seen m → Standing seen (sees ways seen m)
  sees-kept seen m legal i = record {
    node = kept.saw (newest_first seen) (drop (ways.seen m.node) seen) m.node legal
        (subst (λ (es : List Entry). ComeNext (newest_first seen) (drop (ways.seen m.node) es) (ways.seen m.node)) (reverse-reverse seen)
        (rest_comes (newest_first seen) (ways.seen m.node) (kept.within (newest_first seen) m.node i.node))) i.node;
    watchers = i.watchers;
  }

  heard-kept : (h : List Entry) (who : List ℕ) (letter : Letter) (m : MemberOf P) → Legal real (newest_first h) → Standing h m → Standing h (heard ways who m letter)
  heard-kept h who letter m legal i = go (bytes_eq letter.0 who)
    where
      go : (b : Bool) → Standing h (cond b (handed ways letter.1 m) m)
      go true = record { node = kept.handled (newest_first h) letter.1 m.node legal i.node; watchers = i.watchers }
      go false = i

  hears-kept : (h : List Entry) (who : List ℕ) (post : List Letter) (m : MemberOf P) → Legal real (newest_first h) → Standing h m → Standing h (fold (heard ways who) m post)
  hears-kept h who [] m legal i = i
  hears-kept h who (x ∷ post) m legal i = hears-kept h who post (heard ways who m x) legal (heard-kept h who x m legal i)

  acted-kept : (post : List Letter) (seen : List Entry) (m : MemberOf P) → Legal real (newest_first seen) → Standing seen m → Standing seen (acted ways post seen m)
  acted-kept post seen m legal i =
      let r = hears-kept seen (person ways m) post (sees ways seen m) legal (sees-kept seen m legal i) in
      record { node = kept.ticked (newest_first seen) (ready ways post seen m).node legal r.node; watchers = r.watchers }

  looks-kept : (place : ℕ) (xs : List (List Entry)) (h later : List Entry) (m : MemberOf P) → Rises h xs later → Legal real (newest_first later) → Standing h m
      → Standing later (looked_all ways place xs m)
  looks-kept place [] h later m r legal i = member-grown h later m r legal i
  looks-kept place (x ∷ xs) h later m r legal i =
      let legal' = legal-front x later (rises-end x xs later r.1) legal in
      let one = subst (λ (es : List Entry). Standing x (looks_with ways es place m (slice_get m.watchers place))) (reverse-reverse x)
      (world.watcher_looks ways stands kept (newest_first x) place m (slice_get m.watchers place) refl legal' (member-grown h x m r.0 legal' i)) in
      looks-kept (suc place) xs x later (looks ways x place m) r.1 legal one

  looks-many : (seen : List Entry) (place : ℕ) (m : MemberOf P) → length (looks ways seen place m).watchers ≡ length m.watchers
  looks-many seen place m = go (slice_get m.watchers place)
    where
      go : (o : Option Lookout) → length (looks_with ways seen place m o).watchers ≡ length m.watchers
      go None = refl
      go (Some l) = length-set m.watchers place (followed (drop l.seen seen) l)

  pub looked-many : (place : ℕ) (xs : List (List Entry)) (m : MemberOf P) → length (looked_all ways place xs m).watchers ≡ length m.watchers
  looked-many place [] m = refl
  looked-many place (x ∷ xs) m = looked-many (suc place) xs (looks ways x place m) ∙ looks-many x place m

  -- ---- a round

  pub ran-many : (post : List Letter) (h later : List Entry) (m m' : MemberOf P) (sent : List Letter) (gave : List Given) → NodeRan ways post h later m m' sent gave
      → length m'.watchers ≡ length m.watchers
  ran-many post h later m m' sent gave n =
      ap (λ (x : MemberOf P). length x.watchers) n.is ∙ (looked-many 0 n.looks (acted ways post n.seen m) ∙ ap length (acted-watchers ways post n.seen m))

  pub node-kept : (post : List Letter) (h later : List Entry) (m m' : MemberOf P) (sent : List Letter) (gave : List Given) → Legal real (newest_first later)
      → IsMember stands (newest_first h) m → NodeRan ways post h later m m' sent gave → IsMember stands (newest_first later) m'
  node-kept post h later m m' sent gave legal i n =
      let legal' = legal-front n.seen later n.saw.1 legal in
      let ready_ = member-grown h n.seen m n.saw.0 legal' (record { node = i.node; watchers = i.watchers }) in
      let acted_ = acted-kept post n.seen m legal' ready_ in
      let looked_ = subst (λ (x : MemberOf P). Standing later x) (sym n.is) (looks-kept 0 n.looks n.seen later (acted ways post n.seen m) n.rise legal acted_) in
      record { node = looked_.node; watchers = looked_.watchers; few = (let a = i.few in omega (arith, a, ran-many post h later m m' sent gave n)) }

  pub told-kept : (h : List Entry) (m : MemberOf P) (p : P) → IsMember stands (newest_first h) m → stands (newest_first h) p → IsMember stands (newest_first h) (record { node = p; watchers = m.watchers })
  told-kept h m p i s = record { node = s; watchers = i.watchers; few = i.few }

  pub later-kept : (h later : List Entry) (m : MemberOf P) → StartsWith later h → Legal real (newest_first later) → IsMember stands (newest_first h) m → IsMember stands (newest_first later) m
  later-kept h later m s legal i =
      let g = member-grown h later m s legal (record { node = i.node; watchers = i.watchers }) in record { node = g.node; watchers = g.watchers; few = i.few }

-- the notes of an actor are those of its last answer
last-notes : (h later : List Entry) (x : Player) (answers : List Answer) → AreAnswers x answers → ((a : Answer) → In a answers → IsBetween h a.notes later) → StartsWith later x.notes
last-notes h later x [] are saw = absurd are
last-notes h later x (a ∷ []) are saw = subst (StartsWith later) (sym are.2) (saw a (inl refl)).1
last-notes h later x (a ∷ b ∷ []) are saw = subst (StartsWith later) (sym are.2) (saw b (inr (inl refl))).1
last-notes h later x (a ∷ b ∷ c ∷ more) are saw = absurd are

pub rounds_keep : {P : Type 0} (ways : Ways P) (stands : List Entry → P → Type 0) → RoundsKeepCrews ways stands
rounds_keep {P} ways stands crew after h later kept is r = record { legal = r.legal is.legal; nodes = nodes; notes = notes }
  where
    legal : Legal real (newest_first later)
    legal = shared_legal real later (r.legal is.legal)

    nodes : (m : MemberOf P) → In m after.nodes → IsMember stands (newest_first later) m
    nodes m i =
        let f = match_of (NodeRan ways crew.post h later) crew.nodes after.nodes r.sent r.gave m r.nodes i in
        node-kept ways stands kept crew.post h later f.x m f.z f.w legal (is.nodes f.x f.there) f.holds

    notes : (x : Player) → In x after.cast → StartsWith later x.notes
    notes x i =
        let f = match_of (ActorRan h later) (awake crew.cast) after.cast r.posted r.called x r.cast i in
        last-notes h later x f.holds.answers f.holds.are f.holds.saw

pub crews_are_honest : {P : Type 0} (ways : Ways P) (stands : List Entry → P → Type 0) → CrewsAreHonest ways stands
crews_are_honest ways stands crew h kept is valid m i =
    kept.honest (newest_first h) m.node (shared_legal real h is.legal) valid (is.nodes m i).node
