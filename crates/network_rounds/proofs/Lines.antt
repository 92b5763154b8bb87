-- What a node writes in a round, and that it is what a race asks of a round.
use Rattle.std.proofs.Common.{◌≡◌, ℕ, zero, suc, ◌+◌, ◌<◌, ◌≤◌, ◌⊎◌, inl, inr, Bool, true, false, cond, List, [], ◌∷◌, ◌++◌, length, map, reverse, drop, set, fold, refl, sym, ap, ◌∙◌, subst, arith, length-append, length-drop, append_assoc, append-nil}
use Rattle.std.proofs.lemmas.List.{reverse-append, reverse-reverse, length-reverse, length-set}
use Rattle.std.specs.Prelude.{Option, Some, slice_get}
use Rattle.std.specs.Str.{bytes_eq}
use mathlib.Core.Option.{some}
use lib.ListN.{get_elem?}
use Rattle.call_history.specs.History.{Legal, newest_first}
use Rattle.call_history.specs.declared.call.Call.{Call}
use Rattle.call_history.specs.declared.call.Op.TheVariants as ops
use Rattle.call_history.specs.declared.entry.Entry.{Entry}
use Rattle.call_history.specs.declared.event.Deed.TheVariants as deeds
use Rattle.call_history.specs.declared.event.Event.{Event}
use Rattle.shared_object.specs.History.{StartsWith}
use Rattle.channel_safety.specs.Journals.{In, Line}
use Rattle.network.specs.Ways.{Ways, followed, looked}
use Rattle.network.specs.Histories.{ComeNext}
use Rattle.network.specs.declared.lookout.Lookout.{Lookout}
use Rattle.network.specs.Members.{MemberOf, sees, handed, looks, looks_with, calls_if}
use Rattle.channel_safety.specs.Races.{IsEntered}
use Rattle.channel_safety.specs.Growing.{GainsRound}
use Rattle.network_rounds.specs.Members.{Letter, Rises, heard, person, ready, acted, looked_all, look_gave, looks_gave, tick_gave, HaveFollowed}
use Rattle.network_rounds.specs.Working as work
use Rattle.network_rounds.specs.Working.{Given, given_at, AreEntered}
use Rattle.network_rounds.specs.Journals.{event_of, event, Wrote, WritesJournals}
use Rattle.network_rounds.specs.Told.{NodeRan}
use Rattle.network_rounds.proofs.Parts.{acted-watchers, in-right}
use Rattle.network_rounds.proofs.Kept.{rises-end, legal-front}
use Rattle.support_rules.specs.Real.{real}
use Rattle.network.proofs.Fronts.{rest_comes}
use Rattle.network_rounds.proofs.Phases.{starts-length}

-- ---- lists

pub in-append : {A : Type 0} (x : A) (xs ys : List A) → In x (xs ++ ys) → In x xs ⊎ In x ys
in-append x [] ys i = inr i
in-append x (z ∷ xs) ys (inl e) = inl (inl e)
in-append {A} x (z ∷ xs) ys (inr i) = go (in-append x xs ys i)
  where
    go : In x xs ⊎ In x ys → In x (z ∷ xs) ⊎ In x ys
    go (inl j) = inl (inr j)
    go (inr j) = inr j

pub in-reverse : {A : Type 0} (x : A) (xs : List A) → In x (reverse xs) → In x xs
in-reverse x [] i = absurd i
in-reverse {A} x (y ∷ xs) i = go (in-append x (reverse xs) (y ∷ []) (subst (λ (l : List A). In x l) (reverse-append (y ∷ []) xs) i)) (λ j. in-reverse x xs j)
  where
    go : In x (reverse xs) ⊎ In x (y ∷ []) → (In x (reverse xs) → In x xs) → In x (y ∷ xs)
    go (inl j) rest = inr (rest j)
    go (inr (inl e)) rest = inl e
    go (inr (inr none)) rest = absurd none

pub in-map : {A B : Type 0} (f : A → B) (x : A) (xs : List A) → In x xs → In (f x) (map f xs)
in-map f x [] i = absurd i
in-map f x (y ∷ xs) (inl e) = inl (ap f e)
in-map f x (y ∷ xs) (inr i) = inr (in-map f x xs i)

map-append : {A B : Type 0} (f : A → B) (xs ys : List A) → map f (xs ++ ys) ≡ map f xs ++ map f ys
map-append f [] ys = refl
map-append {A} {B} f (x ∷ xs) ys = ap (λ (l : List B). f x ∷ l) (map-append f xs ys)

-- an element at a place splits the list
record Cut {A : Type 0} (xs : List A) (place : ℕ) (x : A) : Type 0 where
  front : List A
  back : List A
  is : xs ≡ front ++ x ∷ back
  many : length front ≡ place

cut_at : {A : Type 0} (xs : List A) (place : ℕ) (x : A) → get_elem? xs place ≡ some x → Cut xs place x
cut_at [] place x e = cc
cut_at {A} (y ∷ xs) zero x e = record { front = []; back = xs; is = ap (λ (z : A). z ∷ xs) (some-is y x e); many = refl }
  where
    some-is : (y x : A) → some y ≡ some x → y ≡ x
    some-is y x e = cc
cut_at {A} (y ∷ xs) (suc place) x e = let c = cut_at xs place x e in record { front = y ∷ c.front; back = c.back; is = ap (λ (l : List A). y ∷ l) c.is; many = ap suc c.many }

-- ---- calls

-- a call that was entered, in the history with the newest entry first
entered-reversed : (h : List Entry) (by number seen : ℕ) (call : Call) → work.IsEntered h number (record { by = by; seen = seen; call = call }) → IsEntered (reverse h) call seen (length h)
entered-reversed h by number seen call e =
    let c = cut_at h e.there.place e.there.entry e.there.at in record {
      later = reverse c.back;
      entry = e.there.entry;
      past = reverse c.front;
      split = ap reverse c.is ∙ (reverse-append c.front (e.there.entry ∷ c.back)
          ∙ (ap (λ (l : List Entry). l ++ reverse c.front) (reverse-append (e.there.entry ∷ []) c.back) ∙ append_assoc (reverse c.back) (e.there.entry ∷ []) (reverse c.front)));
      is = e.there.keeps;
      after = (let a = e.after in let b = e.there.number_is in omega (arith, a, b, length-reverse c.front, c.many));
      before = omega (arith, length-reverse c.front, c.many, ap length c.is, length-append c.front (e.there.entry ∷ c.back));
    }

-- what was given stands in the history
record Stands (h : List Entry) (g : Given) : Type 0 where
  number : ℕ
  entered : work.IsEntered h number g

stands_in : (h : List Entry) (numbers : List ℕ) (gave : List Given) (g : Given) → AreEntered h numbers gave → In g gave → Stands h g
stands_in h [] [] g e i = absurd i
stands_in h [] (x ∷ gave) g e i = absurd e
stands_in h (n ∷ numbers) [] g e i = absurd i
stands_in h (n ∷ numbers) (x ∷ gave) g e (inl same) = record { number = n; entered = subst (λ (y : Given). work.IsEntered h n y) (sym same) e.0 }
stands_in h (n ∷ numbers) (x ∷ gave) g e (inr i) = stands_in h numbers gave g e.1 i

-- ---- bounds on what events had seen

abbrev pub Bounded : ℕ → ℕ → List Event → Type 0
Bounded low high events = (y : Event) → In y events → (low ≤ y.seen) × (y.seen ≤ high)

bounded-none : (low high : ℕ) → Bounded low high []
bounded-none low high y i = absurd i

bounded-append : (low high : ℕ) (xs ys : List Event) → Bounded low high xs → Bounded low high ys → Bounded low high (xs ++ ys)
bounded-append low high xs ys p q y i = go (in-append y xs ys i)
  where
    go : In y xs ⊎ In y ys → (low ≤ y.seen) × (y.seen ≤ high)
    go (inl j) = p y j
    go (inr j) = q y j

bounded-one : (low high : ℕ) (x : Event) → low ≤ x.seen → x.seen ≤ high → Bounded low high (x ∷ [])
bounded-one low high x p q y (inl e) = (subst (λ (z : Event). low ≤ z.seen) (sym e) p, subst (λ (z : Event). z.seen ≤ high) (sym e) q)
bounded-one low high x p q y (inr none) = absurd none

bounded-same : (low high : ℕ) (xs : List Event) (n : ℕ) → low ≤ n → n ≤ high → ((x : Event) → In x xs → x.seen ≡ n) → Bounded low high xs
bounded-same low high xs n p q each y i = let e = each y i in (omega (arith, e, p), omega (arith, e, q))

bounded-wider : (low low' high high' : ℕ) (xs : List Event) → low' ≤ low → high ≤ high' → Bounded low high xs → Bounded low' high' xs
bounded-wider low low' high high' xs p q b y i = let c = b y i in let d = c.0 in let e = c.1 in (omega (arith, d, p), omega (arith, e, q))

-- what is left of a history comes next in it
pub comes-next : (seen : List Entry) (k : ℕ) → k ≤ length seen → ComeNext (newest_first seen) (drop k seen) k
comes-next seen k low = subst (λ (es : List Entry). ComeNext (newest_first seen) (drop k es) k) (reverse-reverse seen)
    (rest_comes (newest_first seen) k (omega (arith, low, length-reverse seen)))

module _ {P : Type 0} (ways : Ways P) (lost : P → Bool) where
  abbrev Wrote' : List Event → P → P → Type 0
  Wrote' events p q = Wrote ways lost events p q

  wrote-none : (p : P) → lost p ≡ false → Wrote' [] p p
  wrote-none p well = record { number = refl; key = refl; well = well; journal = sym (append-nil (ways.journal p)); gained = []; lines = refl; are = refl }

  wrote-then : (xs ys : List Event) (p q r : P) → Wrote' xs p q → Wrote' ys q r → Wrote' (xs ++ ys) p r
  wrote-then xs ys p q r a b = record {
    number = b.number ∙ a.number;
    key = b.key ∙ a.key;
    well = b.well;
    journal = b.journal ∙ (ap (λ (l : List Event). l ++ ys) a.journal ∙ append_assoc (ways.journal p) xs ys);
    gained = b.gained ++ a.gained;
    lines = b.lines ∙ (ap (λ (l : List Line). b.gained ++ l) a.lines ∙ sym (append_assoc b.gained a.gained (ways.lines p)));
    are = map-append event_of b.gained a.gained ∙ (ap (λ (l : List Event). l ++ map event_of a.gained) b.are ∙ (ap (λ (l : List Event). reverse ys ++ l) a.are ∙ sym (reverse-append xs ys)));
  }

  module _ (writes : WritesJournals ways lost) where
    -- ---- it acts

    -- it wrote events that had seen so many entries, and has followed as many
    record Acted (n : ℕ) (p q : P) : Type 0 where
      events : List Event
      wrote : Wrote' events p q
      each : (x : Event) → In x events → x.seen ≡ n
      seen : ways.seen q ≡ n

    acted-then : (n : ℕ) (p q r : P) → Acted n p q → Acted n q r → Acted n p r
    acted-then n p q r a b = record {
      events = a.events ++ b.events;
      wrote = wrote-then a.events b.events p q r a.wrote b.wrote;
      each = λ x i. of x (in-append x a.events b.events i);
      seen = b.seen;
    }
      where
        of : (x : Event) → In x a.events ⊎ In x b.events → x.seen ≡ n
        of x (inl j) = a.each x j
        of x (inr j) = b.each x j

    one-heard : (n : ℕ) (who : List ℕ) (letter : Letter) (m : MemberOf P) → lost m.node ≡ false → ways.seen m.node ≡ n → Acted n m.node (heard ways who m letter).node
    one-heard n who letter m well is = go (bytes_eq letter.0 who)
      where
        go : (b : Bool) → Acted n m.node (cond b (handed ways letter.1 m) m).node
        go true =
            let w = writes.handled letter.1 m.node well in
            record { events = event (ways.seen m.node) (deeds.Handled letter.1 (ways.refuses letter.1 m.node)) ∷ []; wrote = w.0; each = λ x i. only x i; seen = w.1 ∙ is }
          where
            only : (x : Event) → In x (event (ways.seen m.node) (deeds.Handled letter.1 (ways.refuses letter.1 m.node)) ∷ []) → x.seen ≡ n
            only x (inl e) = ap (λ (y : Event). y.seen) e ∙ is
            only x (inr none) = absurd none
        go false = record { events = []; wrote = wrote-none m.node well; each = λ x i. absurd i; seen = is }

    all-heard : (n : ℕ) (who : List ℕ) (post : List Letter) (m : MemberOf P) → lost m.node ≡ false → ways.seen m.node ≡ n → Acted n m.node (fold (heard ways who) m post).node
    all-heard n who [] m well is = record { events = []; wrote = wrote-none m.node well; each = λ x i. absurd i; seen = is }
    all-heard n who (x ∷ post) m well is =
        let one = one-heard n who x m well is in
        acted-then n m.node (heard ways who m x).node (fold (heard ways who) (heard ways who m x) post).node one (all-heard n who post (heard ways who m x) one.wrote.well one.seen)

    it-acted : (post : List Letter) (seen : List Entry) (m : MemberOf P) → Legal real (newest_first seen) → lost m.node ≡ false → ways.seen m.node ≤ length seen → Acted (length seen) m.node (acted ways post seen m).node
    it-acted post seen m legal well low =
        let saw = writes.saw (newest_first seen) (drop (ways.seen m.node) seen) m.node legal (comes-next seen (ways.seen m.node) low) well in
        let first : Acted (length seen) m.node (sees ways seen m).node =
        record { events = []; wrote = saw.0; each = λ x i. absurd i; seen = omega (arith, saw.1, length-drop (ways.seen m.node) seen, low) } in
        let second = all-heard (length seen) (person ways m) post (sees ways seen m) saw.0.well first.seen in
        let ready_ = acted-then (length seen) m.node (sees ways seen m).node (ready ways post seen m).node first second in
        let tick = writes.ticked (ready ways post seen m).node ready_.wrote.well in
        acted-then (length seen) m.node (ready ways post seen m).node (acted ways post seen m).node ready_
        (record { events = tick.0; wrote = tick.1; each = λ x i. tick.3 x i ∙ ready_.seen; seen = tick.2 ∙ ready_.seen })

    -- ---- its watchers look

    record Watched (low high : ℕ) (p q : P) (gave : List Given) : Type 0 where
      front : List Event
      look : Event
      watcher : ℕ
      calls : List Call
      by : ℕ
      wrote : Wrote' (front ++ look ∷ []) p q
      bounded : Bounded low high (front ++ look ∷ [])
      deed : look.deed ≡ deeds.Watched watcher calls
      gives : (call : Call) → In call calls → In (record { by = by; seen = look.seen; call = call }) gave

    in-given : (by seen : ℕ) (call : Call) (calls : List Call) → In call calls → In (record { by = by; seen = seen; call = call }) (given_at by seen calls)
    in-given by seen call calls i = in-map (λ (c : Call). record { by = by; seen = seen; call = c }) call calls i

    get-some : {A : Type 0} (xs : List A) (i : ℕ) → i < length xs → (x : A) × (slice_get xs i ≡ Some x)
    get-some [] i lt = absurd (omega arith)
    get-some (x ∷ xs) zero lt = (x, refl)
    get-some (x ∷ xs) (suc i) lt = get-some xs i (omega arith)

    in-get : {A : Type 0} (xs : List A) (i : ℕ) (x : A) → slice_get xs i ≡ Some x → In x xs
    in-get [] i x e = absurd (cc)
    in-get (a ∷ xs) zero x e = inl (cc)
    in-get (a ∷ xs) (suc i) x e = inr (in-get xs i x e)

    in-set : {A : Type 0} (xs : List A) (i : ℕ) (y x : A) → In x (set xs i y) → (x ≡ y) ⊎ In x xs
    in-set [] i y x h = inr h
    in-set (a ∷ xs) zero y x (inl e) = inl e
    in-set (a ∷ xs) zero y x (inr h) = inr (inr h)
    in-set (a ∷ xs) (suc i) y x (inl e) = inr (inl e)
    in-set (a ∷ xs) (suc i) y x (inr h) = later (in-set xs i y x h)
      where
        later : (x ≡ y) ⊎ In x xs → (x ≡ y) ⊎ In x (a ∷ xs)
        later (inl e) = inl e
        later (inr j) = inr (inr j)

    -- one watcher looks
    record One (place : ℕ) (seen : List Entry) (m : MemberOf P) : Type 0 where
      calls : List Call
      wrote : Wrote' (event (length seen) (deeds.Watched place calls) ∷ []) m.node (looks ways seen place m).node
      gives : look_gave ways place seen m ≡ given_at (ways.number (looks ways seen place m).node) (length seen) calls
      followed_still : HaveFollowed seen (looks ways seen place m).watchers
      many : length (looks ways seen place m).watchers ≡ length m.watchers

    one_looks : (place : ℕ) (seen : List Entry) (m : MemberOf P) → lost m.node ≡ false → place < length m.watchers → HaveFollowed seen m.watchers → One place seen m
    one_looks place seen m well lt have = go (get-some m.watchers place lt)
      where
        go : (l : Lookout) × (slice_get m.watchers place ≡ Some l) → One place seen m
        go (l, at) = record {
          calls = calls;
          wrote = subst (λ (x : MemberOf P). Wrote' (event (length seen) (deeds.Watched place calls) ∷ []) m.node x.node) (sym is)
              (subst (λ (n : ℕ). Wrote' (event n (deeds.Watched place calls) ∷ []) m.node (ways.watched now.seen place calls m.node)) count (writes.watched now.seen place calls m.node well).0);
          gives = ap (λ (cs : List Call). given_at (ways.number (looks ways seen place m).node) (length seen) cs) (ap (λ (o : Option Lookout). calls_if ways seen m o) at);
          followed_still = λ x i. from x (in-set m.watchers place now x (subst (λ (y : MemberOf P). In x y.watchers) is i));
          many = ap (λ (x : MemberOf P). length x.watchers) is ∙ length-set m.watchers place now;
        }
          where
            now : Lookout
            now = followed (drop l.seen seen) l

            calls : List Call
            calls = looked (ways.chains m.node) now

            low : l.seen ≤ length seen
            low = have l (in-get m.watchers place l at)

            count : now.seen ≡ length seen
            count = omega (arith, length-drop l.seen seen, low)

            is : looks ways seen place m ≡ record { node = ways.watched now.seen place calls m.node; watchers = set m.watchers place now }
            is = ap (λ (o : Option Lookout). looks_with ways seen place m o) at

            from : (x : Lookout) → (x ≡ now) ⊎ In x m.watchers → x.seen ≤ length seen
            from x (inl e) = let n = ap (λ (y : Lookout). y.seen) e in omega (arith, n, count)
            from x (inr j) = have x j

    have-longer : (h later : List Entry) (ws : List Lookout) → StartsWith later h → HaveFollowed h ws → HaveFollowed later ws
    have-longer h later ws s f l i = let a = f l i in let b = starts-length later h s in omega (arith, a, b)

    all_look : (place : ℕ) (x : List Entry) (xs : List (List Entry)) (h later : List Entry) (m : MemberOf P) → lost m.node ≡ false → place + length (x ∷ xs) ≤ length m.watchers
        → HaveFollowed h m.watchers → Rises h (x ∷ xs) later → Watched (length h) (length later) m.node (looked_all ways place (x ∷ xs) m).node (looks_gave ways place (x ∷ xs) m)
    all_look place x [] h later m well many have r =
        let o = one_looks place x m well (omega arith) (have-longer h x m.watchers r.0 have) in
        let a = starts-length x h r.0 in
        let b = starts-length later x r.1 in record {
          front = [];
          look = event (length x) (deeds.Watched place o.calls);
          watcher = place;
          calls = o.calls;
          by = ways.number (looks ways x place m).node;
          wrote = o.wrote;
          bounded = bounded-one (length h) (length later) (event (length x) (deeds.Watched place o.calls)) a b;
          deed = refl;
          gives = λ call i. subst (λ (g : List Given). In (record { by = ways.number (looks ways x place m).node; seen = length x; call = call }) g)
              (sym (append-nil (look_gave ways place x m) ∙ o.gives)) (in-given (ways.number (looks ways x place m).node) (length x) call o.calls i);
        }
    all_look place x (y ∷ xs) h later m well many have r =
        let o = one_looks place x m well (omega arith) (have-longer h x m.watchers r.0 have) in
        let w = all_look (suc place) y xs x later (looks ways x place m) o.wrote.well (omega (arith, o.many, many)) o.followed_still r.1 in
        let a = starts-length x h r.0 in
        let b = starts-length later x (rises-end x (y ∷ xs) later r.1) in
        let one = event (length x) (deeds.Watched place o.calls) in record {
          front = one ∷ w.front;
          look = w.look;
          watcher = w.watcher;
          calls = w.calls;
          by = w.by;
          wrote = wrote-then (one ∷ []) (w.front ++ w.look ∷ []) m.node (looks ways x place m).node (looked_all ways (suc place) (y ∷ xs) (looks ways x place m)).node o.wrote w.wrote;
          bounded = bounded-append (length h) (length later) (one ∷ []) (w.front ++ w.look ∷ []) (bounded-one (length h) (length later) one a b)
              (bounded-wider (length x) (length h) (length later) (length later) (w.front ++ w.look ∷ []) a (omega arith) w.bounded);
          deed = w.deed;
          gives = λ call i. in-right (record { by = w.by; seen = w.look.seen; call = call }) (look_gave ways place x m) (looks_gave ways (suc place) (y ∷ xs) (looks ways x place m)) (w.gives call i);
        }

    -- ---- a round

    -- what a node gains in a round
    pub record Gained (h later : List Entry) (p q : P) : Type 0 where
      pub number : ways.number q ≡ ways.number p
      pub key : ways.key q ≡ ways.key p
      pub well : lost q ≡ false
      pub gained : List Line
      pub lines : ways.lines q ≡ gained ++ ways.lines p
      pub round : GainsRound (length h) (reverse later) gained

    -- an event is that of a line
    record Headed (gained : List Line) (look : Event) (front : List Event) : Type 0 where
      line : Line
      rest : List Line
      split : gained ≡ line ∷ rest
      is : event_of line ≡ look

    headed : (gained : List Line) (look : Event) (front : List Event) → map event_of gained ≡ look ∷ front → Headed gained look front
    headed [] look front e = absurd (omega (arith, ap length e))
    headed (x ∷ gained) look front e = record { line = x; rest = gained; split = refl; is = cc }

    gains : (h later : List Entry) (p q : P) (front : List Event) (look : Event) (watcher : ℕ) (calls : List Call) → Wrote' (front ++ look ∷ []) p q → Bounded (length h) (length later) (front ++ look ∷ [])
        → look.deed ≡ deeds.Watched watcher calls → ((call : Call) → In call calls → IsEntered (reverse later) call look.seen (length later)) → Gained h later p q
    gains h later p q front look watcher calls w b deed entered =
        let n = length-reverse later in
        let head = headed w.gained look (reverse front) (w.are ∙ reverse-append front (look ∷ [])) in record {
          number = w.number;
          key = w.key;
          well = w.well;
          gained = w.gained;
          lines = w.lines;
          round = record {
            look = head.line;
            front = head.rest;
            split = head.split;
            looks = record {
              watcher = watcher;
              calls = calls;
              deed = ap (λ (x : Event). x.deed) head.is ∙ deed;
              entered = λ call i. subst (λ (k : ℕ). IsEntered (reverse later) call head.line.seen k) (sym n)
                  (subst (λ (x : Event). IsEntered (reverse later) call x.seen (length later)) (sym head.is) (entered call i));
            };
            begins = λ x i. (bound x i).0;
            ends = λ x i. (let k = (bound x i).1 in omega (arith, k, n));
          };
        }
      where
        bound : (x : Line) → In x w.gained → (length h ≤ x.seen) × (x.seen ≤ length later)
        bound x i = b (event_of x) (in-reverse (event_of x) (front ++ look ∷ []) (subst (λ (l : List Event). In (event_of x) l) w.are (in-map event_of x w.gained i)))

    watched-of : (h later : List Entry) (post : List Letter) (m m' : MemberOf P) (sent : List Letter) (gave : List Given) (n : NodeRan ways post h later m m' sent gave) (x : List Entry) (xs : List (List Entry))
        → n.looks ≡ x ∷ xs → Legal real (newest_first later) → lost m.node ≡ false → ways.seen m.node ≤ length h → HaveFollowed h m.watchers → Gained h later m.node m'.node
    watched-of h later post m m' sent gave n x xs is legal well low have =
        let a = starts-length n.seen h n.saw.0 in
        let t = starts-length later n.seen n.saw.1 in
        let act = it-acted post n.seen m (legal-front n.seen later n.saw.1 legal) well (omega (arith, low, a)) in
        let same = acted-watchers ways post n.seen m in
        let w = all_look 0 x xs n.seen later (acted ways post n.seen m) act.wrote.well (omega (arith, n.many, ap length is, ap length same))
        (subst (λ (l : List Lookout). HaveFollowed n.seen l) (sym same) (have-longer h n.seen m.watchers n.saw.0 have)) (subst (λ (l : List (List Entry)). Rises n.seen l later) is n.rise) in
        let node_is : m' ≡ looked_all ways 0 (x ∷ xs) (acted ways post n.seen m) = n.is ∙ ap (λ (l : List (List Entry)). looked_all ways 0 l (acted ways post n.seen m)) is in
        let gave_is : gave ≡ tick_gave ways post n.seen m ++ looks_gave ways 0 (x ∷ xs) (acted ways post n.seen m) =
        n.gave_is ∙ ap (λ (l : List (List Entry)). tick_gave ways post n.seen m ++ looks_gave ways 0 l (acted ways post n.seen m)) is in
        gains h later m.node m'.node (act.events ++ w.front) w.look w.watcher w.calls
        (subst (λ (l : List Event). Wrote' l m.node m'.node) (sym (append_assoc act.events w.front (w.look ∷ [])))
        (subst (λ (y : MemberOf P). Wrote' (act.events ++ (w.front ++ w.look ∷ [])) m.node y.node) (sym node_is)
        (wrote-then act.events (w.front ++ w.look ∷ []) m.node (acted ways post n.seen m).node (looked_all ways 0 (x ∷ xs) (acted ways post n.seen m)).node act.wrote w.wrote)))
        (subst (λ (l : List Event). Bounded (length h) (length later) l) (sym (append_assoc act.events w.front (w.look ∷ [])))
        (bounded-append (length h) (length later) act.events (w.front ++ w.look ∷ []) (bounded-same (length h) (length later) act.events (length n.seen) a t act.each)
        (bounded-wider (length n.seen) (length h) (length later) (length later) (w.front ++ w.look ∷ []) a (omega arith) w.bounded)))
        w.deed
        (λ call i. stood call (stands_in later n.entered.numbers gave (record { by = w.by; seen = w.look.seen; call = call }) n.entered.are
        (subst (λ (g : List Given). In (record { by = w.by; seen = w.look.seen; call = call }) g) (sym gave_is)
        (in-right (record { by = w.by; seen = w.look.seen; call = call }) (tick_gave ways post n.seen m) (looks_gave ways 0 (x ∷ xs) (acted ways post n.seen m)) (w.gives call i)))))
      where
        stood : {by seen : ℕ} (call : Call) → Stands later (record { by = by; seen = seen; call = call }) → IsEntered (reverse later) call seen (length later)
        stood {by} {seen} call s = entered-reversed later by s.number seen call s.entered

    -- a node with a watcher gains a round
    pub node_gains : (h later : List Entry) (post : List Letter) (m m' : MemberOf P) (sent : List Letter) (gave : List Given) → NodeRan ways post h later m m' sent gave
        → 0 < length m.watchers → Legal real (newest_first later) → lost m.node ≡ false → ways.seen m.node ≤ length h → HaveFollowed h m.watchers → Gained h later m.node m'.node
    node_gains h later post m m' sent gave n watched legal well low have = go n.looks refl
      where
        go : (l : List (List Entry)) → n.looks ≡ l → Gained h later m.node m'.node
        go [] e = absurd (omega (arith, n.many, ap length e, watched))
        go (x ∷ xs) e = watched-of h later post m m' sent gave n x xs e legal well low have
