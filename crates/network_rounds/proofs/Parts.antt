-- A round, told for each node and each actor.
use Rattle.std.proofs.Common.{◌≡◌, ℕ, ◌+◌, inl, inr, Bool, true, false, cond, List, [], ◌∷◌, ◌++◌, length, drop, fold, refl, sym, ap, ◌∙◌, subst, append_assoc, append-nil}
use Rattle.std.specs.Str.{bytes_eq}
use Rattle.call_history.specs.declared.entry.Entry.{Entry}
use Rattle.shared_object.specs.Caller.{Caller}
use Rattle.shared_object.specs.History.{StartsWith}
use Rattle.shared_object.proofs.Sums.{starts_refl, starts_trans}
use Rattle.channel_safety.specs.Journals.{In}
use Rattle.network.specs.Ways.{Ways}
use Rattle.network.specs.Members.{MemberOf, handed}
use Rattle.network_rounds.specs.Members.{Letter, Saw, Rises, heard, person, acted, tick_gave, looked_all, looks_gave}
use Rattle.network_rounds.specs.Players.{Player, Asks, posts_of, act_gave}
use Rattle.network_rounds.specs.Workers.{WorkerOf, a_node, an_actor, Acts, Watches}
use Rattle.network_rounds.specs.Working.{Given}
use Rattle.network_rounds.specs.Told.{IsBetween, StandIn, NodeRan, Answer, ActorRan}

-- ---- lists

pub rises-wider : (h h' : List Entry) (xs : List (List Entry)) (k k' : List Entry) → StartsWith h h' → Rises h xs k → StartsWith k' k → Rises h' xs k'
rises-wider h h' [] k k' s r t = starts_trans k' k h' t (starts_trans k h h' r s)
rises-wider h h' (x ∷ xs) k k' s r t = (starts_trans x h h' r.0 s, rises-wider x x xs k k' (starts_refl x) r.1 t)

pub in-left : {A : Type 0} (x : A) (xs ys : List A) → In x xs → In x (xs ++ ys)
in-left x [] ys i = absurd i
in-left x (z ∷ xs) ys (inl e) = inl e
in-left x (z ∷ xs) ys (inr i) = inr (in-left x xs ys i)

pub in-right : {A : Type 0} (x : A) (xs ys : List A) → In x ys → In x (xs ++ ys)
in-right x [] ys i = i
in-right x (z ∷ xs) ys i = inr (in-right x xs ys i)

module _ {P : Type 0} (ways : Ways P) where
  -- ---- a node keeps its watchers while it acts

  heard-watchers : (who : List ℕ) (letter : Letter) (m : MemberOf P) → (heard ways who m letter).watchers ≡ m.watchers
  heard-watchers who letter m = go (bytes_eq letter.0 who)
    where
      go : (b : Bool) → (cond b (handed ways letter.1 m) m).watchers ≡ m.watchers
      go true = refl
      go false = refl

  all-watchers : (who : List ℕ) (post : List Letter) (m : MemberOf P) → (fold (heard ways who) m post).watchers ≡ m.watchers
  all-watchers who [] m = refl
  all-watchers who (x ∷ post) m = all-watchers who post (heard ways who m x) ∙ heard-watchers who x m

  pub acted-watchers : (post : List Letter) (seen : List Entry) (m : MemberOf P) → (acted ways post seen m).watchers ≡ m.watchers
  acted-watchers post seen m = all-watchers (person ways m) post (record { node = ways.saw (drop_seen) m.node; watchers = m.watchers })
    where
      drop_seen : List Entry
      drop_seen = drop (ways.seen m.node) seen

  -- ---- what one worker did in both phases

  pub record Both (post : List Letter) (h later : List Entry) (w w'' : WorkerOf P) (gave : List Given) : Type 0 where
    pub mid : WorkerOf P
    pub first : List Given
    pub second : List Given
    pub c : Caller Entry
    pub d : Caller Entry
    pub e : Caller Entry
    pub f : Caller Entry
    pub acts : Acts ways post w mid first c d
    pub watches : Watches ways mid w'' second e f
    pub since : StartsWith c.seen h
    pub between : StartsWith e.seen d.seen
    pub until : StartsWith later f.seen
    pub until_first : StartsWith later d.seen
    pub since_second : StartsWith e.seen h
    pub gave_is : gave ≡ first ++ second
    pub entered : StandIn h later gave

  abbrev pub Boths : List Letter → List Entry → List Entry → List (WorkerOf P) → List (WorkerOf P) → List (List Given) → Type 0
  Boths post h later [] [] [] = Unit {0}
  Boths post h later (w ∷ ws) (v ∷ vs) (g ∷ gs) = Both post h later w v g × Boths post h later ws vs gs
  Boths post h later _ _ _ = ⊥

  -- a node
  abbrev pub NodeStep : List Letter → List Entry → List Entry → MemberOf P → WorkerOf P → List Given → Type 0
  NodeStep post h later m (a_node m' sent) gave = NodeRan ways post h later m m' sent gave
  NodeStep post h later m (an_actor x sent) gave = ⊥

  pub node_step : (post : List Letter) (h later : List Entry) (m : MemberOf P) (v : WorkerOf P) (gave : List Given) → Both post h later (a_node m []) v gave → NodeStep post h later m v gave
  node_step post h later m v gave b = go b.mid v b.acts b.watches
    where
      go : (mid v : WorkerOf P) → Acts ways post (a_node m []) mid b.first b.c b.d → Watches ways mid v b.second b.e b.f → NodeStep post h later m v gave
      go (a_node m' s') (a_node m'' s) (more, sent', a) (sent'', w) = record {
        seen = a.seen;
        looks = w.looks;
        saw = (starts_trans a.seen b.c.seen h a.saw.since b.since, starts_trans later b.d.seen a.seen b.until_first a.saw.until);
        rise = rises-wider b.e.seen a.seen w.looks b.f.seen later (starts_trans b.e.seen b.d.seen a.seen b.between a.saw.until) w.rise b.until;
        many = w.many ∙ (ap (λ (x : MemberOf P). length x.watchers) a.is ∙ ap length (acted-watchers post a.seen m));
        is = w.is ∙ ap (λ (x : MemberOf P). looked_all ways 0 w.looks x) a.is;
        sent_is = sent'' ∙ (sent' ∙ a.sent_is);
        gave_is = b.gave_is ∙ (ap (λ (g : List Given). g ++ b.second) a.gave_is ∙ ap (λ (g : List Given). tick_gave ways post a.seen m ++ g) (w.gave_is ∙ ap (λ (x : MemberOf P). looks_gave ways 0 w.looks x) a.is));
        entered = b.entered;
      }
      go (a_node m' s') (an_actor y s) acts watches = absurd watches
      go (an_actor y s') v acts watches = absurd acts

  -- an actor
  abbrev pub ActorStep : List Entry → List Entry → Player → WorkerOf P → List Given → Type 0
  ActorStep h later x (a_node m sent) gave = ⊥
  ActorStep h later x (an_actor y sent) gave = ActorRan h later x y sent gave

  pub actor_step : (post : List Letter) (h later : List Entry) (x : Player) (v : WorkerOf P) (gave : List Given) → x.done ≡ false → Both post h later (an_actor x []) v gave → ActorStep h later x v gave
  actor_step post h later x v gave awake_is b = go b.mid v b.acts b.watches
    where
      seen_first : (notes : List Entry) → Saw notes b.c b.d → IsBetween h notes later
      seen_first notes s = (starts_trans notes b.c.seen h s.since b.since, starts_trans later b.d.seen notes b.until_first s.until)

      seen_second : (notes : List Entry) → Saw notes b.e b.f → IsBetween h notes later
      seen_second notes s = (starts_trans notes b.e.seen h s.since b.since_second, starts_trans later b.f.seen notes b.until s.until)

      go : (mid v : WorkerOf P) → Acts ways post (an_actor x []) mid b.first b.c b.d → Watches ways mid v b.second b.e b.f → ActorStep h later x v gave
      go (an_actor y s') (an_actor z s) (more, sent', first) (more', sent'', second) = twice y.done refl
        where
          a : Asks x y more b.first b.c b.d
          a = first.asks awake_is

          one : Answer
          one = record { act = a.act; notes = y.notes }

          twice : (k : Bool) → y.done ≡ k → ActorRan h later x z s gave
          twice true done =
              let same = second.idle done in record {
                answers = one ∷ [];
                are = (sym a.done ∙ done, ap (λ (u : Player). u.done) same.0 ∙ done, ap (λ (u : Player). u.notes) same.0);
                number = ap (λ (u : Player). u.number) same.0 ∙ a.number;
                told = λ t. let r = a.told t in (ap (λ (u : Player). u.tells) same.0 ∙ r.0, ap (λ (u : Player). u.told) same.0 ∙ r.1);
                saw = λ u i. only u i;
                sent_is = sent'' ∙ (ap (λ (l : List Letter). s' ++ l) same.1 ∙ (append-nil s' ∙ (sent' ∙ (a.sent_is ∙ sym (append-nil (posts_of a.act))))));
                gave_is = b.gave_is ∙ (ap (λ (g : List Given). b.first ++ g) same.2 ∙ (append-nil b.first ∙ (a.gave_is ∙ sym (append-nil (act_gave x.number (length y.notes) a.act)))));
                entered = b.entered;
              }
            where
              only : (u : Answer) → In u (one ∷ []) → IsBetween h u.notes later
              only u (inl e) = subst (λ (k : Answer). IsBetween h k.notes later) (sym e) (seen_first y.notes a.saw)
              only u (inr none) = absurd none
          twice false done =
              let again = second.asks done in
              let two : Answer = record { act = again.act; notes = z.notes } in record {
                answers = one ∷ two ∷ [];
                are = (sym a.done ∙ done, again.done, refl, starts_trans z.notes b.d.seen y.notes (starts_trans z.notes b.e.seen b.d.seen again.saw.since b.between) a.saw.until);
                number = again.number ∙ a.number;
                told = λ t. let r = a.told t in let q = again.told r.0 in (q.0, q.1 ∙ (ap (λ (l : List _). l ++ again.act ∷ []) r.1 ∙ append_assoc x.told (a.act ∷ []) (again.act ∷ [])));
                saw = λ u i. either u again.saw i;
                sent_is = sent'' ∙ (ap (λ (l : List Letter). l ++ more') (sent' ∙ a.sent_is) ∙ (ap (λ (l : List Letter). posts_of a.act ++ l) (again.sent_is ∙ sym (append-nil (posts_of again.act)))));
                gave_is = b.gave_is ∙ (ap (λ (g : List Given). g ++ b.second) a.gave_is ∙ ap (λ (g : List Given). act_gave x.number (length y.notes) a.act ++ g)
                    (again.gave_is ∙ (ap (λ (n : ℕ). act_gave n (length z.notes) again.act) a.number ∙ sym (append-nil (act_gave x.number (length z.notes) again.act)))));
                entered = b.entered;
              }
            where
              either : (u : Answer) {act : _} → Saw z.notes b.e b.f → In u (one ∷ record { act = act; notes = z.notes } ∷ []) → IsBetween h u.notes later
              either u s (inl e) = subst (λ (k : Answer). IsBetween h k.notes later) (sym e) (seen_first y.notes a.saw)
              either u s (inr (inl e)) = subst (λ (k : Answer). IsBetween h k.notes later) (sym e) (seen_second z.notes s)
              either u s (inr (inr none)) = absurd none
      go (an_actor y s') (a_node m s) acts watches = absurd watches
      go (a_node m s') v acts watches = absurd acts
