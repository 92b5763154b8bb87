-- What a node and its watchers do together.
use Rattle.std.proofs.Common.{◌≡◌, ℕ, zero, suc, ◌+◌, ◌<◌, ◌≤◌, ◌⊎◌, inl, inr, Bool, true, false, List, [], ◌∷◌, ◌++◌, length, drop, set, get_or, fold, refl, sym, ap, ◌∙◌, subst, arith, length-append, length-drop, append_assoc, append-nil}
use Rattle.std.proofs.lemmas.List.{length-set}
use Rattle.std.specs.Prelude.{Option, Some, None, slice_get}
use Rattle.call_history.specs.declared.call.Call.{Call}
use Rattle.channel_values.specs.Digests.{name_of_person}
use Rattle.call_history.specs.declared.entry.Entry.{Entry}
use Rattle.shared_object.specs.Caller.{Caller}
use Rattle.shared_object.specs.History.{StartsWith}
use Rattle.shared_object.proofs.Sums.{starts_refl, starts_trans}
use Rattle.channel_safety.specs.Journals.{In}
use Rattle.network.specs.Ways.{Ways, followed, looked}
use Rattle.network.specs.declared.lookout.Lookout.{Lookout}
use Rattle.network.specs.declared.outs.Outs.{Outs}
use Rattle.network.specs.Members.{MemberOf, looks, looks_with, calls_if}
use Rattle.network_rounds.specs.Members.{Letter, Rises, heard, person, acted, looked_all, look_gave, looks_gave, LooksOnce, HaveFollowed}
use Rattle.network_rounds.specs.Acts.{is_done}
use Rattle.network_rounds.specs.Players.{Player, Asks, AsksIf, posts_of, act_gave}
use Rattle.network_rounds.specs.Workers.{NodeActs, NodeWatches}
use Rattle.network_rounds.specs.declared.actor.Act.{Act}
use Rattle.network_rounds.specs.Working.{Given, given_at, Works, Working}
use Rattle.network_rounds.proofs.Works.{starts-length, works-none, works-then}

module _ {P : Type 0} (ways : Ways P) where
  -- ---- a node acts

  pub acts_of : (post : List Letter) (who : List ℕ) (m m1 m2 m3 : MemberOf P) (c d e : Caller Entry) (entries : List Entry) (o : Outs) (by : ℕ)
      → Works [] c d → entries ≡ drop (ways.seen m.node) d.seen → who ≡ person ways m → m1 ≡ record { node = ways.saw entries m.node; watchers = m.watchers }
      → m2 ≡ fold (heard ways who) m1 post → m3 ≡ record { node = ways.ticked m2.node; watchers = m2.watchers } → o ≡ ways.gives m2.node → by ≡ ways.number m3.node
      → ((seen : ℕ) → seen ≤ length d.seen → Works (given_at by seen o.calls) d e) → Working (NodeActs ways post m m3 o.sends) c e
  acts_of post who m m1 m2 m3 c d e entries o by look is name saw heard_all ticks gives by_is enters =
      let ready_is = heard_all ∙ (ap (λ (w : List ℕ). fold (heard ways w) m1 post) name ∙ (ap (λ (x : MemberOf P). fold (heard ways (person ways m)) x post) saw
      ∙ ap (λ (es : List Entry). fold (heard ways (person ways m)) (record { node = ways.saw es m.node; watchers = m.watchers }) post) is)) in
      let acted_is : m3 ≡ acted ways post d.seen m = ticks ∙ ap (λ (x : MemberOf P). record { node = ways.ticked x.node; watchers = x.watchers }) ready_is in
      let outs_is = gives ∙ ap (λ (x : MemberOf P). ways.gives x.node) ready_is in
      let works = enters (length d.seen) (omega arith) in (
        given_at by (length d.seen) o.calls,
        record {
          seen = d.seen;
          saw = record { since = look.later; until = works.later };
          is = acted_is;
          sent_is = ap (λ (x : Outs). x.sends) outs_is;
          gave_is = ap (λ (n : ℕ). given_at n (length d.seen) o.calls) (by_is ∙ ap (λ (x : MemberOf P). ways.number x.node) acted_is)
              ∙ ap (λ (x : Outs). given_at (ways.number (acted ways post d.seen m).node) (length d.seen) x.calls) outs_is;
        },
        works-then [] (given_at by (length d.seen) o.calls) c d e look works,
      )

  pub acts_from : (post : List Letter) (who : List ℕ) (node node1 node2 node3 : P) (ws ws2 : List Lookout) (m m2 : MemberOf P) (c d e : Caller Entry) (from : ℕ) (entries shown : List Entry)
      (o : Outs) (by : ℕ) (calls : List Call) (sends : List Letter) → ◌≡◌ {A = MemberOf P} (record { node = node; watchers = ws }) m → Works [] c d → from ≡ ways.seen node → entries ≡ drop from d.seen
      → who ≡ name_of_person (ways.key node) → shown ≡ entries → node1 ≡ ways.saw shown node → m2 ≡ fold (heard ways who) (record { node = node1; watchers = ws }) post
      → ◌≡◌ {A = MemberOf P} (record { node = node2; watchers = ws2 }) m2 → node3 ≡ ways.ticked node2 → o ≡ ways.gives node2 → by ≡ ways.number node3 → calls ≡ o.calls → sends ≡ o.sends
      → ((seen : ℕ) → seen ≤ length d.seen → Works (given_at by seen calls) d e) → Working (NodeActs ways post m (record { node = node3; watchers = ws2 }) sends) c e
  acts_from post who node node1 node2 node3 ws ws2 m m2 c d e from entries shown o by calls sends first look from_is is name shown_is saw heard_all second ticks gives by_is calls_is sends_is enters =
      subst (λ (x : MemberOf P). Working (NodeActs ways post x (record { node = node3; watchers = ws2 }) sends) c e) first
      (subst (λ (l : List Letter). Working (NodeActs ways post (record { node = node; watchers = ws }) (record { node = node3; watchers = ws2 }) l) c e) (sym sends_is)
      (acts_of post who (record { node = node; watchers = ws }) (record { node = node1; watchers = ws }) (record { node = node2; watchers = ws2 }) (record { node = node3; watchers = ws2 }) c d e entries o by
      look (is ∙ ap (λ (n : ℕ). drop n d.seen) from_is) name
      (ap (λ (x : P). record { node = x; watchers = ws }) (saw ∙ ap (λ (l : List Entry). ways.saw l node) shown_is)) (second ∙ heard_all)
      (ap (λ (x : P). record { node = x; watchers = ws2 }) ticks) gives by_is
      (λ seen le. subst (λ (l : List Call). Works (given_at by seen l) d e) calls_is (enters seen le))))

  -- ---- a watcher looks

  pub looks_of : (place : ℕ) (m m' : MemberOf P) (l l' : Lookout) (c d e : Caller Entry) (entries : List Entry) (calls : List Call) (by : ℕ)
      → Works [] c d → entries ≡ drop l.seen d.seen → slice_get m.watchers place ≡ Some l → l' ≡ followed entries l → calls ≡ looked (ways.chains m.node) l'
      → m' ≡ record { node = ways.watched l'.seen place calls m.node; watchers = set m.watchers place l' } → by ≡ ways.number m'.node
      → ((seen : ℕ) → seen ≤ length d.seen → Works (given_at by seen calls) d e) → LooksOnce ways place m m' c e
  looks_of place m m' l l' c d e entries calls by look is at follows calls_are now by_is enters =
      let l_is : l' ≡ followed (drop l.seen d.seen) l = follows ∙ ap (λ (es : List Entry). followed es l) is in
      let calls_is : calls ≡ looked (ways.chains m.node) (followed (drop l.seen d.seen) l) = calls_are ∙ ap (λ (x : Lookout). looked (ways.chains m.node) x) l_is in
      let looks_is : m' ≡ looks ways d.seen place m =
      now ∙ (ap (λ (x : Lookout). record { node = ways.watched x.seen place calls m.node; watchers = set m.watchers place x }) l_is
      ∙ (ap (λ (cs : List Call). record { node = ways.watched (followed (drop l.seen d.seen) l).seen place cs m.node; watchers = set m.watchers place (followed (drop l.seen d.seen) l) }) calls_is
      ∙ ap (λ (o : Option Lookout). looks_with ways d.seen place m o) (sym at))) in
      let given_is : given_at by (length d.seen) calls ≡ look_gave ways place d.seen m =
      ap (λ (n : ℕ). given_at n (length d.seen) calls) (by_is ∙ ap (λ (x : MemberOf P). ways.number x.node) looks_is)
      ∙ ap (λ (cs : List Call). given_at (ways.number (looks ways d.seen place m).node) (length d.seen) cs) (calls_is ∙ ap (λ (o : Option Lookout). calls_if ways d.seen m o) (sym at)) in
      let works = enters (length d.seen) (omega arith) in
      record {
        seen = d.seen;
        saw = record { since = look.later; until = works.later };
        is = looks_is;
        works = subst (λ (g : List Given). Works g c e) given_is (works-then [] (given_at by (length d.seen) calls) c d e look works);
      }

  pub looks_from : (place : ℕ) (node node' : P) (ws : List Lookout) (m : MemberOf P) (l l' : Lookout) (c d e : Caller Entry) (from : ℕ) (entries shown : List Entry) (calls : List Call) (by : ℕ)
      → ◌≡◌ {A = MemberOf P} (record { node = node; watchers = ws }) m → Works [] c d → from ≡ l.seen → entries ≡ drop from d.seen → slice_get ws place ≡ Some l → shown ≡ entries → l' ≡ followed shown l
      → calls ≡ looked (ways.chains node) l' → node' ≡ ways.watched l'.seen place calls node → by ≡ ways.number node'
      → ((seen : ℕ) → seen ≤ length d.seen → Works (given_at by seen calls) d e) → LooksOnce ways place m (record { node = node'; watchers = set ws place l' }) c e
  looks_from place node node' ws m l l' c d e from entries shown calls by first look from_is is at shown_is follows calls_are now by_is enters =
      subst (λ (x : MemberOf P). LooksOnce ways place x (record { node = node'; watchers = set ws place l' }) c e) first
      (looks_of place (record { node = node; watchers = ws }) (record { node = node'; watchers = set ws place l' }) l l' c d e entries calls by look (is ∙ ap (λ (n : ℕ). drop n d.seen) from_is) at
      (follows ∙ ap (λ (es : List Entry). followed es l) shown_is) calls_are (ap (λ (x : P). record { node = x; watchers = set ws place l' }) now) by_is enters)

  get-some : {A : Type 0} (xs : List A) (i : ℕ) (x : A) → i < length xs → x ≡ get_or xs i x → slice_get xs i ≡ Some x
  get-some [] i x lt e = absurd (omega (arith, lt))
  get-some (y ∷ xs) zero x lt e = ap (λ (z : _). Some z) (sym e)
  get-some (y ∷ xs) (suc i) x lt e = get-some xs i x (omega (arith, lt)) e

  pub at-place : {node : P} {ws : List Lookout} (m : MemberOf P) (place : ℕ) (l : Lookout) → ◌≡◌ {A = MemberOf P} (record { node = node; watchers = ws }) m → place < length m.watchers → l ≡ get_or ws place l
      → slice_get ws place ≡ Some l
  at-place {node} {ws} m place l first lt e = get-some ws place l (omega (arith, lt, ap (λ (x : MemberOf P). length x.watchers) first)) e

  -- ---- its watchers, one after another

  looked-snoc : (place : ℕ) (xs : List (List Entry)) (seen : List Entry) (m : MemberOf P)
      → looked_all ways place (xs ++ seen ∷ []) m ≡ looks ways seen (place + length xs) (looked_all ways place xs m)
  looked-snoc place [] seen m = ap (λ (n : ℕ). looks ways seen n m) (omega arith)
  looked-snoc place (x ∷ xs) seen m =
      looked-snoc (suc place) xs seen (looks ways x place m) ∙ ap (λ (n : ℕ). looks ways seen n (looked_all ways (suc place) xs (looks ways x place m))) (omega arith)

  gave-snoc : (place : ℕ) (xs : List (List Entry)) (seen : List Entry) (m : MemberOf P)
      → looks_gave ways place (xs ++ seen ∷ []) m ≡ looks_gave ways place xs m ++ look_gave ways (place + length xs) seen (looked_all ways place xs m)
  gave-snoc place [] seen m = append-nil (look_gave ways place seen m) ∙ ap (λ (n : ℕ). look_gave ways n seen m) (omega arith)
  gave-snoc place (x ∷ xs) seen m =
      ap (λ (g : List Given). look_gave ways place x m ++ g)
      (gave-snoc (suc place) xs seen (looks ways x place m)
      ∙ ap (λ (n : ℕ). looks_gave ways (suc place) xs (looks ways x place m) ++ look_gave ways n seen (looked_all ways (suc place) xs (looks ways x place m))) (omega arith))
      ∙ sym (append_assoc (look_gave ways place x m) (looks_gave ways (suc place) xs (looks ways x place m)) (look_gave ways (place + length (x ∷ xs)) seen (looked_all ways (suc place) xs (looks ways x place m))))

  -- the first so many have looked
  pub record Looking (place : ℕ) (m m' : MemberOf P) (c d : Caller Entry) : Type 0 where
    pub seens : List (List Entry)
    pub many : length seens ≡ place
    pub rise : Rises c.seen seens d.seen
    pub is : m' ≡ looked_all ways 0 seens m
    pub works : Works (looks_gave ways 0 seens m) c d

  pub none_looked : (m : MemberOf P) (c : Caller Entry) → Looking 0 m m c c
  none_looked m c = record { seens = []; many = refl; rise = starts_refl c.seen; is = refl; works = works-none c }

  rises-snoc : (h : List Entry) (xs : List (List Entry)) (seen mid later : List Entry) → Rises h xs mid → StartsWith seen mid → StartsWith later seen → Rises h (xs ++ seen ∷ []) later
  rises-snoc h [] seen mid later r s t = (starts_trans seen mid h s r, t)
  rises-snoc h (x ∷ xs) seen mid later r s t = (r.0, rises-snoc x xs seen mid later r.1 s t)

  pub one_looked : (place : ℕ) (m mid m' : MemberOf P) (c d e : Caller Entry) → Looking place m mid c d → LooksOnce ways place mid m' d e → Looking (place + 1) m m' c e
  one_looked place m mid m' c d e before one =
      let place_is : place ≡ 0 + length before.seens = omega (arith, before.many) in
      record {
        seens = before.seens ++ one.seen ∷ [];
        many = omega (arith, length-append before.seens (one.seen ∷ []), before.many);
        rise = rises-snoc c.seen before.seens one.seen d.seen e.seen before.rise one.saw.since one.saw.until;
        is = one.is ∙ (ap (λ (x : MemberOf P). looks ways one.seen place x) before.is
            ∙ (ap (λ (n : ℕ). looks ways one.seen n (looked_all ways 0 before.seens m)) place_is ∙ sym (looked-snoc 0 before.seens one.seen m)));
        works = subst (λ (g : List Given). Works g c e)
            (ap (λ (x : MemberOf P). looks_gave ways 0 before.seens m ++ look_gave ways place one.seen x) before.is
            ∙ (ap (λ (n : ℕ). looks_gave ways 0 before.seens m ++ look_gave ways n one.seen (looked_all ways 0 before.seens m)) place_is ∙ sym (gave-snoc 0 before.seens one.seen m)))
            (works-then (looks_gave ways 0 before.seens m) (look_gave ways place one.seen mid) c d e before.works one.works);
      }

  pub all_looked : (m m' : MemberOf P) (c d : Caller Entry) (place : ℕ) → place ≡ length m.watchers → Looking place m m' c d → Working (NodeWatches ways m m') c d
  all_looked m m' c d place e l =
      (looks_gave ways 0 l.seens m, record { looks = l.seens; many = l.many ∙ e; rise = l.rise; is = l.is; gave_is = refl }, l.works)

  -- ---- what watchers have followed

  in-set : {A : Type 0} (xs : List A) (i : ℕ) (y x : A) → In x (set xs i y) → (x ≡ y) ⊎ In x xs
  in-set [] i y x h = inr h
  in-set (a ∷ xs) zero y x (inl e) = inl e
  in-set (a ∷ xs) zero y x (inr h) = inr (inr h)
  in-set (a ∷ xs) (suc i) y x (inl e) = inr (inl e)
  in-set (a ∷ xs) (suc i) y x (inr h) = later (in-set xs i y x h)
    where
      later : (x ≡ y) ⊎ In x xs → (x ≡ y) ⊎ In x (a ∷ xs)
      later (inl e) = inl e
      later (inr j) = inr (inr j)

  pub in-get : {A : Type 0} (xs : List A) (i : ℕ) (x : A) → slice_get xs i ≡ Some x → In x xs
  in-get [] i x e = absurd (cc)
  in-get (a ∷ xs) zero x e = inl (cc)
  in-get (a ∷ xs) (suc i) x e = inr (in-get xs i x e)

  pub still_followed : (place : ℕ) (m m' : MemberOf P) (c d : Caller Entry) → HaveFollowed c.seen m.watchers → LooksOnce ways place m m' c d → HaveFollowed d.seen m'.watchers
  still_followed place m m' c d f one = go (slice_get m.watchers place) refl
    where
      up : length c.seen ≤ length d.seen
      up = starts-length d.seen c.seen (starts_trans d.seen one.seen c.seen one.saw.until one.saw.since)

      top : length one.seen ≤ length d.seen
      top = starts-length d.seen one.seen one.saw.until

      old : (l : Lookout) → In l m.watchers → l.seen ≤ length d.seen
      old l i = let a = f l i in omega (arith, a, up)

      go : (o : Option Lookout) → slice_get m.watchers place ≡ o → HaveFollowed d.seen m'.watchers
      go None e =
          let same : m' ≡ m = one.is ∙ ap (λ (x : Option Lookout). looks_with ways one.seen place m x) e in
          λ l i. old l (subst (λ (x : MemberOf P). In l x.watchers) same i)
      go (Some w) e =
          let same = one.is ∙ ap (λ (x : Option Lookout). looks_with ways one.seen place m x) e in
          λ l i. from l (in-set m.watchers place (followed (drop w.seen one.seen) w) l (subst (λ (x : MemberOf P). In l x.watchers) same i))
        where
          low : w.seen ≤ length one.seen
          low = let a = f w (in-get m.watchers place w e) in let b = starts-length one.seen c.seen one.saw.since in omega (arith, a, b)

          from : (l : Lookout) → (l ≡ followed (drop w.seen one.seen) w) ⊎ In l m.watchers → l.seen ≤ length d.seen
          from l (inl is) = let n = ap (λ (x : Lookout). x.seen) is in omega (arith, n, length-drop w.seen one.seen, low, top)
          from l (inr i) = old l i

  pub same_many : (place : ℕ) (m m' : MemberOf P) (c d : Caller Entry) → LooksOnce ways place m m' c d → length m'.watchers ≡ length m.watchers
  same_many place m m' c d one = go (slice_get m.watchers place) refl
    where
      go : (o : Option Lookout) → slice_get m.watchers place ≡ o → length m'.watchers ≡ length m.watchers
      go None e = ap (λ (x : MemberOf P). length x.watchers) (one.is ∙ ap (λ (x : Option Lookout). looks_with ways one.seen place m x) e)
      go (Some w) e =
          ap (λ (x : MemberOf P). length x.watchers) (one.is ∙ ap (λ (x : Option Lookout). looks_with ways one.seen place m x) e)
          ∙ length-set m.watchers place (followed (drop w.seen one.seen) w)

-- ---- actors

pub plays_by : (x y : Player) (mid_tells : Bool) (mid_told : List Act) (act kind : Act) (notes : List Entry) (sent : List Letter) (c d e : Caller Entry)
    → Works [] c d → y.notes ≡ notes → notes ≡ d.seen → mid_tells ≡ x.tells → mid_told ≡ x.told
    → (mid_tells ≡ true → (y.tells ≡ true) × (y.told ≡ mid_told ++ act ∷ [])) → act ≡ kind → y.number ≡ x.number → y.done ≡ is_done kind → sent ≡ posts_of kind
    → StartsWith e.seen d.seen → Works (act_gave x.number (length y.notes) kind) d e → Working (Asks x y sent) c e
plays_by x y mid_tells mid_told act kind notes sent c d e look same is tells told answers is_kind number done sent_is later works = (
  act_gave x.number (length y.notes) kind,
  record {
    act = act;
    number = number;
    told = λ t. let r = answers (tells ∙ t) in (r.0, r.1 ∙ ap (λ (l : List Act). l ++ act ∷ []) told);
    done = done ∙ sym (ap is_done is_kind);
    saw = record { since = subst (λ (l : List Entry). StartsWith l c.seen) (sym (same ∙ is)) look.later; until = subst (StartsWith e.seen) (sym (same ∙ is)) later };
    sent_is = sent_is ∙ sym (ap posts_of is_kind);
    gave_is = sym (ap (act_gave x.number (length y.notes)) is_kind);
  },
  works-then [] (act_gave x.number (length y.notes) kind) c d e look works,
)

-- one that is done isn't asked
pub rests_done : (x : Player) (c : Caller Entry) → x.done ≡ true → Working (AsksIf x x []) c c
rests_done x c done = ([], record { idle = λ _. (refl, refl, refl); asks = λ e. absurd (clash (sym done ∙ e)) }, works-none c)
  where
    clash : true ≡ false → ⊥
    clash e = cc

pub asks_if : (x y : Player) (sent : List Letter) (c d : Caller Entry) → x.done ≡ false → Working (Asks x y sent) c d → Working (AsksIf x y sent) c d
asks_if x y sent c d up w = (w.0, record { idle = λ e. absurd (clash (sym e ∙ up)); asks = λ _. w.1 }, w.2)
  where
    clash : true ≡ false → ⊥
    clash e = cc
