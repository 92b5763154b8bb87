-- What runs is a round.
use Rattle.std.proofs.Common.{◌≡◌, ℕ, ◌+◌, inl, inr, Bool, true, false, cond, List, [], ◌∷◌, ◌++◌, length, map, refl, sym, ap, ◌∙◌, subst, arith, append_assoc}
use Rattle.call_history.specs.declared.entry.Entry.{Entry}
use Rattle.shared_object.specs.Caller.{Caller}
use Rattle.shared_object.specs.History.{StartsWith, same, times}
use Rattle.shared_object.proofs.Sums.{starts_refl, starts_trans, total-append}
use Rattle.channel_safety.specs.Journals.{In}
use Rattle.network.specs.Ways.{Ways}
use Rattle.network.specs.Members.{MemberOf}
use Rattle.network_rounds.specs.Members.{Letter}
use Rattle.network_rounds.specs.Players.{Player, awake}
use Rattle.network_rounds.specs.Rounds.{CrewOf, workers_in, nodes_of, cast_of, sent_by}
use Rattle.network_rounds.specs.Seats.{Begin, times_made}
use Rattle.network_rounds.specs.Workers.{WorkerOf, a_node, an_actor, Acts, Watches, Turn, AreTurns}
use Rattle.network_rounds.specs.Working.{Given, AreEntered, RiseWithin}
use Rattle.network_rounds.proofs.Rising.{rise-wider, rise-append}
use Rattle.network_rounds.specs.Laws.{RunsAreRounds}
use Rattle.network_rounds.specs.Told.{NodeRan, ActorRan, Each, all_of, Round}
use Rattle.network_rounds.proofs.Parts.{Boths, NodeStep, ActorStep, node_step, actor_step}
use Rattle.network_rounds.proofs.Phases.{seats_after, After, after_phase, starts-length, entered-later, entered-append}

head-is : {A : Type 0} (x y : A) (xs ys : List A) → x ∷ xs ≡ y ∷ ys → x ≡ y
head-is x y xs ys e = cc

tail-is : {A : Type 0} (x y : A) (xs ys : List A) → x ∷ xs ≡ y ∷ ys → xs ≡ ys
tail-is x y xs ys e = cc

-- the calls that each worker gave in both phases
abbrev gaves : {P : Type 0} → List (Turn P) → List (Turn P) → List (List Given)
gaves [] us = []
gaves (t ∷ ts) [] = []
gaves (t ∷ ts) (u ∷ us) = (t.gave ++ u.gave) ∷ gaves ts us

abbrev workers : {P : Type 0} → List (Turn P) → List (WorkerOf P)
workers ts = map (λ t. t.worker) ts

abbrev afters : {P : Type 0} → List (Turn P) → List (WorkerOf P)
afters ts = map (λ t. t.after) ts

-- the numbers of all calls, in the order of the workers
record Numbered {P : Type 0} (h : List Entry) (ts us : List (Turn P)) : Type 0 where
  numbers : List ℕ
  are : AreEntered h numbers (all_of (gaves ts us))
  made : (k : ℕ) → times k numbers ≡ times_made k (seats_after ts) + times_made k (seats_after us)

all-awake : (xs : List Player) (x : Player) → In x (awake xs) → x.done ≡ false
all-awake [] x i = absurd i
all-awake (y ∷ xs) x i = go y.done refl (all-awake xs x) i
  where
    go : (b : Bool) → y.done ≡ b → (In x (awake xs) → x.done ≡ false) → In x (cond b (awake xs) (y ∷ awake xs)) → x.done ≡ false
    go true e rest j = rest j
    go false e rest (inl same) = ap (λ (z : Player). z.done) same ∙ e
    go false e rest (inr j) = rest j

module _ {P : Type 0} (ways : Ways P) where
  boths : (post : List Letter) (c mid d : Caller Entry) (ts us : List (Turn P)) → afters ts ≡ workers us → AreTurns (Acts ways post) c ts → AreTurns (Watches ways) mid us
      → Begin mid.seen (seats_after ts) → Begin d.seen (seats_after us) → StartsWith mid.seen c.seen → StartsWith d.seen mid.seen
      → Boths ways post c.seen d.seen (workers ts) (afters us) (gaves ts us)
  boths post c mid d [] [] e a w b b' s s' = tt
  boths post c mid d [] (u ∷ us) e a w b b' s s' = absurd (omega (arith, ap length e))
  boths post c mid d (t ∷ ts) [] e a w b b' s s' = absurd (omega (arith, ap length e))
  boths post c mid d (t ∷ ts) (u ∷ us) e a w b b' s s' = (
    record {
      mid = t.after;
      first = t.gave;
      second = u.gave;
      c = t.seat;
      d = t.seat_after;
      e = u.seat;
      f = u.seat_after;
      acts = a.0.does;
      watches = subst (λ (x : WorkerOf P). Watches ways x u.after u.gave u.seat u.seat_after) (sym (head-is t.after u.worker (afters ts) (workers us) e)) w.0.does;
      since = subst (λ (l : List Entry). StartsWith l c.seen) (sym a.0.fresh.0) (starts_refl c.seen);
      between = subst (λ (l : List Entry). StartsWith l t.seat_after.seen) (sym w.0.fresh.0) b.0;
      until = b'.0;
      until_first = starts_trans d.seen mid.seen t.seat_after.seen s' b.0;
      since_second = subst (λ (l : List Entry). StartsWith l c.seen) (sym w.0.fresh.0) s;
      gave_is = refl;
      entered = record {
        numbers = a.0.works.numbers ++ w.0.works.numbers;
        are = entered-append d.seen a.0.works.numbers w.0.works.numbers t.gave u.gave
            (entered-later t.seat_after.seen d.seen a.0.works.numbers t.gave (starts_trans d.seen mid.seen t.seat_after.seen s' b.0) a.0.works.entered)
            (entered-later u.seat_after.seen d.seen w.0.works.numbers u.gave b'.0 w.0.works.entered);
        rise = rise-append (length c.seen) (length t.seat_after.seen) (length mid.seen) (length d.seen) a.0.works.numbers w.0.works.numbers
            (starts-length mid.seen t.seat_after.seen b.0)
            (subst (λ (l : List Entry). RiseWithin (length l) (length t.seat_after.seen) a.0.works.numbers) a.0.fresh.0 a.0.works.rise)
            (rise-wider (length mid.seen) (length mid.seen) (length u.seat_after.seen) (length d.seen) w.0.works.numbers (omega arith) (starts-length d.seen u.seat_after.seen b'.0)
            (subst (λ (l : List Entry). RiseWithin (length l) (length u.seat_after.seen) w.0.works.numbers) w.0.fresh.0 w.0.works.rise));
      };
    },
    boths post c mid d ts us (tail-is t.after u.worker (afters ts) (workers us) e) a.1 w.1 b.1 b'.1 s s',
  )

  numbered : (post : List Letter) (c mid d : Caller Entry) (ts us : List (Turn P)) → afters ts ≡ workers us → AreTurns (Acts ways post) c ts → AreTurns (Watches ways) mid us
      → Begin mid.seen (seats_after ts) → Begin d.seen (seats_after us) → StartsWith d.seen mid.seen → Numbered d.seen ts us
  numbered post c mid d [] [] e a w b b' s' = record { numbers = []; are = tt; made = λ k. omega arith }
  numbered post c mid d [] (u ∷ us) e a w b b' s' = absurd (omega (arith, ap length e))
  numbered post c mid d (t ∷ ts) [] e a w b b' s' = absurd (omega (arith, ap length e))
  numbered post c mid d (t ∷ ts) (u ∷ us) e a w b b' s' =
      let n = numbered post c mid d ts us (tail-is t.after u.worker (afters ts) (workers us) e) a.1 w.1 b.1 b'.1 s' in
      let first = a.0.works in
      let second = w.0.works in
      let made_first : t.seat_after.made ≡ first.numbers = first.made ∙ ap (λ (l : List ℕ). l ++ first.numbers) a.0.fresh.1 in
      let made_second : u.seat_after.made ≡ second.numbers = second.made ∙ ap (λ (l : List ℕ). l ++ second.numbers) w.0.fresh.1 in record {
        numbers = (first.numbers ++ second.numbers) ++ n.numbers;
        are = entered-append d.seen (first.numbers ++ second.numbers) n.numbers (t.gave ++ u.gave) (all_of (gaves ts us))
            (entered-append d.seen first.numbers second.numbers t.gave u.gave
            (entered-later t.seat_after.seen d.seen first.numbers t.gave (starts_trans d.seen mid.seen t.seat_after.seen s' b.0) first.entered)
            (entered-later u.seat_after.seen d.seen second.numbers u.gave b'.0 second.entered)) n.are;
        made = λ k. omega (
          arith,
          total-append (same k) (first.numbers ++ second.numbers) n.numbers,
          total-append (same k) first.numbers second.numbers,
          n.made k,
          ap (times k) made_first,
          ap (times k) made_second,
        );
      }

  -- ---- nodes and actors apart

  record Actors (h later : List Entry) (xs : List Player) (vs : List (WorkerOf P)) (gs : List (List Given)) : Type 0 where
    posted : List (List Letter)
    called : List (List Given)
    none : nodes_of vs ≡ []
    cast : Each (ActorRan h later) xs (cast_of vs) posted called
    posts : sent_by vs ≡ all_of posted
    all : all_of gs ≡ all_of called

  actors : (post : List Letter) (h later : List Entry) (xs : List Player) (vs : List (WorkerOf P)) (gs : List (List Given)) → ((x : Player) → In x xs → x.done ≡ false)
      → Boths ways post h later (map (λ x. an_actor x []) xs) vs gs → Actors h later xs vs gs
  actors post h later [] [] [] up b = record { posted = []; called = []; none = refl; cast = tt; posts = refl; all = refl }
  actors post h later [] [] (g ∷ gs) up b = absurd b
  actors post h later [] (v ∷ vs) gs up b = absurd b
  actors post h later (x ∷ xs) [] gs up b = absurd b
  actors post h later (x ∷ xs) (v ∷ vs) [] up b = absurd b
  actors post h later (x ∷ xs) (v ∷ vs) (g ∷ gs) up b =
      go v (actor_step ways post h later x v g (up x (inl refl)) b.0) (actors post h later xs vs gs (λ y i. up y (inr i)) b.1)
    where
      go : (v : WorkerOf P) → ActorStep ways h later x v g → Actors h later xs vs gs → Actors h later (x ∷ xs) (v ∷ vs) (g ∷ gs)
      go (a_node m s) step r = absurd step
      go (an_actor y s) step r =
          record { posted = s ∷ r.posted; called = g ∷ r.called; none = r.none; cast = (step, r.cast); posts = ap (λ (l : List Letter). s ++ l) r.posts; all = ap (λ (l : List Given). g ++ l) r.all }

  record Parted (post : List Letter) (h later : List Entry) (ms : List (MemberOf P)) (xs : List Player) (vs : List (WorkerOf P)) (gs : List (List Given)) : Type 0 where
    sent : List (List Letter)
    gave : List (List Given)
    posted : List (List Letter)
    called : List (List Given)
    nodes : Each (NodeRan ways post h later) ms (nodes_of vs) sent gave
    cast : Each (ActorRan h later) xs (cast_of vs) posted called
    posts : sent_by vs ≡ all_of sent ++ all_of posted
    all : all_of gs ≡ all_of gave ++ all_of called

  parted : (post : List Letter) (h later : List Entry) (ms : List (MemberOf P)) (xs : List Player) (vs : List (WorkerOf P)) (gs : List (List Given)) → ((x : Player) → In x xs → x.done ≡ false)
      → Boths ways post h later (map (λ m. a_node m []) ms ++ map (λ x. an_actor x []) xs) vs gs → Parted post h later ms xs vs gs
  parted post h later [] xs vs gs up b =
      let a = actors post h later xs vs gs up b in
      record {
        sent = [];
        gave = [];
        posted = a.posted;
        called = a.called;
        nodes = subst (λ (l : List (MemberOf P)). Each (NodeRan ways post h later) [] l [] []) (sym a.none) tt;
        cast = a.cast;
        posts = a.posts;
        all = a.all;
      }
  parted post h later (m ∷ ms) xs [] gs up b = absurd b
  parted post h later (m ∷ ms) xs (v ∷ vs) [] up b = absurd b
  parted post h later (m ∷ ms) xs (v ∷ vs) (g ∷ gs) up b = go v (node_step ways post h later m v g b.0) (parted post h later ms xs vs gs up b.1)
    where
      go : (v : WorkerOf P) → NodeStep ways post h later m v g → Parted post h later ms xs vs gs → Parted post h later (m ∷ ms) xs (v ∷ vs) (g ∷ gs)
      go (an_actor y s) step r = absurd step
      go (a_node m' s) step r =
          record {
            sent = s ∷ r.sent;
            gave = g ∷ r.gave;
            posted = r.posted;
            called = r.called;
            nodes = (step, r.nodes);
            cast = r.cast;
            posts = ap (λ (l : List Letter). s ++ l) r.posts ∙ sym (append_assoc s (all_of r.sent) (all_of r.posted));
            all = ap (λ (l : List Given). g ++ l) r.all ∙ sym (append_assoc g (all_of r.gave) (all_of r.called));
          }

pub runs_are_rounds : (P : Type 0) → RunsAreRounds P
runs_are_rounds P ways crew after c d sound all r = (round, second.sound, second.part)
  where
    mid : Caller Entry
    mid = r.between

    ts : List (Turn P)
    ts = r.first.turns

    us : List (Turn P)
    us = r.second.turns

    first : After (Acts ways crew.post) ts c mid
    first = after_phase (Acts ways crew.post) (workers_in crew) r.acted c mid sound all r.first

    second : After (Watches ways) us mid d
    second = after_phase (Watches ways) r.acted r.looked mid d first.sound first.part r.second

    same : afters ts ≡ workers us
    same = r.first.after_are ∙ sym r.second.workers_are

    p : Parted ways crew.post c.seen d.seen crew.nodes (awake crew.cast) r.looked (gaves ts us)
    p = parted ways crew.post c.seen d.seen crew.nodes (awake crew.cast) r.looked (gaves ts us) (all-awake crew.cast)
        (subst (λ (l : List (WorkerOf P)). Boths ways crew.post c.seen d.seen l r.looked (gaves ts us)) r.first.workers_are
        (subst (λ (l : List (WorkerOf P)). Boths ways crew.post c.seen d.seen (workers ts) l (gaves ts us)) r.second.after_are
        (boths ways crew.post c mid d ts us same r.first.each r.second.each first.begins second.begins first.grows second.grows)))

    n : Numbered d.seen ts us
    n = numbered ways crew.post c mid d ts us same r.first.each r.second.each first.begins second.begins second.grows

    round : Round ways crew after c.seen d.seen
    round = record {
      sent = p.sent;
      gave = p.gave;
      posted = p.posted;
      called = p.called;
      grows = starts_trans d.seen mid.seen c.seen second.grows first.grows;
      legal = λ l. second.legal (first.legal l);
      nodes = subst (λ (l : List (MemberOf P)). Each (NodeRan ways crew.post c.seen d.seen) crew.nodes l p.sent p.gave) (sym (ap (λ (x : CrewOf P). x.nodes) r.after_is)) p.nodes;
      cast = subst (λ (l : List Player). Each (ActorRan c.seen d.seen) (awake crew.cast) l p.posted p.called) (sym (ap (λ (x : CrewOf P). x.cast) r.after_is)) p.cast;
      post = ap (λ (x : CrewOf P). x.post) r.after_is ∙ p.posts;
      entered = record {
        numbers = n.numbers;
        are = subst (λ (l : List Given). AreEntered d.seen n.numbers l) p.all n.are;
        each = λ k. omega (arith, n.made k, first.made k, second.made k);
      };
    }
