-- Whatever happens, a world stays one.
use Rattle.std.proofs.Common.{◌≡◌, ◌≤◌, ℕ, List, [], ◌∷◌, length, reverse, drop, refl, sym, ◌∙◌, ap, subst, arith, ◌⊎◌, inl, inr, length-drop, length-append}
use Rattle.std.proofs.lemmas.List.{length-reverse}
use Rattle.std.specs.Prelude.{Option, Some, None, slice_get}
use Rattle.std.specs.List.{find}
use Rattle.std.specs.Option.{option_map}
use Rattle.call_history.specs.History.{Legal}
use Rattle.call_history.specs.declared.call.Op.{Op}
use Rattle.call_history.specs.declared.entry.Entry.{Entry}
use Rattle.network.proofs.Watching.{looks_are_kept}
use Rattle.network.specs.Watching.{StandsFor, history_after}
use Rattle.channel_safety.specs.Journals.{In}
use Rattle.support_rules.specs.Real.{real}
use Rattle.network.specs.Ways.{Ways, followed}
use Rattle.network.specs.Histories.{HasLooked}
use Rattle.network.specs.declared.lookout.Lookout.{Lookout}
use Rattle.network.specs.Entered.{entered}
use Rattle.network.specs.Members.{MemberOf, sees, told, handed, acts, looks, looks_with}
use Rattle.network.specs.Worlds.{WorldOf, has_number, replaced, changed, happened}
use Rattle.network.specs.declared.happening.Happening.{Happening}
use Rattle.network.specs.declared.happening.Happening.TheVariants.{Enter, Time, See, Command, Deliver, Tick, Watch}
use Rattle.network.specs.Standing.{AreKept, Follows, IsWorld, AreHonest}
use Rattle.network.proofs.Fronts.{front, front_length, parts, rest_after, rest_comes, same_end, in_set, in_get, in_found, in_parts}

module _ {P : Type 0} (ways : Ways P) (stands : List Entry → P → Type 0) (kept : AreKept ways stands) where
  -- a node and its watchers stand for a history
  pub record IsMember (h : List Entry) (m : MemberOf P) : Type 0 where
    pub node : stands h m.node
    pub watchers : (l : Lookout) → In l m.watchers → Follows h l

  one : (w : WorldOf P) → IsWorld stands w → (m : MemberOf P) → In m w.members → IsMember w.history m
  one w is m i = record { node = is.nodes m i; watchers = is.watchers m i }

  -- ---- a node is changed

  at_found : (w : WorldOf P) (f : MemberOf P → MemberOf P) (number : ℕ) (o : Option (MemberOf P)) → find (has_number ways number) w.members ≡ o
      → ((m : MemberOf P) → IsMember w.history m → IsMember w.history (f m)) → IsWorld stands w → IsWorld stands (replaced ways w number (option_map f o))
  at_found w f number None e keeps is = is
  at_found w f number (Some m) e keeps is =
      let new : IsMember w.history (f m) = keeps m (one w is m (in_found (has_number ways number) w.members m e)) in
      record {
        legal = is.legal;
        nodes = λ x i. node_of x new (in_parts (has_number ways number) w.members m (f m) x e i);
        watchers = λ x i. watchers_of x new (in_parts (has_number ways number) w.members m (f m) x e i);
      }
    where
      node_of : (x : MemberOf P) → IsMember w.history (f m) → (x ≡ f m) ⊎ In x w.members → stands w.history x.node
      node_of x new (inl same) = subst (λ (y : MemberOf P). stands w.history y.node) (sym same) new.node
      node_of x new (inr i) = is.nodes x i

      watchers_of : (x : MemberOf P) → IsMember w.history (f m) → (x ≡ f m) ⊎ In x w.members → (l : Lookout) → In l x.watchers → Follows w.history l
      watchers_of x new (inl same) = subst (λ (y : MemberOf P). (l : Lookout) → In l y.watchers → Follows w.history l) (sym same) new.watchers
      watchers_of x new (inr i) = is.watchers x i

  at_number : (w : WorldOf P) (f : MemberOf P → MemberOf P) (number : ℕ)
      → ((m : MemberOf P) → IsMember w.history m → IsMember w.history (f m)) → IsWorld stands w → IsWorld stands (changed ways number f w)
  at_number w f number keeps is = at_found w f number (find (has_number ways number) w.members) refl keeps is

  -- ---- an entry comes

  follows_on : (h : List Entry) (e : Entry) (l : Lookout) → Follows h l → Follows (e ∷ h) l
  follows_on h e l f = record { later = e ∷ f.later; past = f.past; is = ap (λ (es : List Entry). e ∷ es) f.is; count = f.count; stands = f.stands }

  enters : (w : WorldOf P) (by : ℕ) (op : Op) → IsWorld stands w → IsWorld stands (record w { history = entered w.history by op })
  enters w by op is =
      let legal : Legal real (entered w.history by op) = (is.legal, refl, refl) in
      record {
        legal = legal;
        nodes = λ m i. kept.grows w.history _ m.node legal (is.nodes m i);
        watchers = λ m i l j. follows_on w.history _ l (is.watchers m i l j);
      }

  -- ---- a watcher looks

  seen_within : (h : List Entry) (l : Lookout) → Follows h l → l.seen ≤ length h
  seen_within h l f = omega (arith, ap length f.is, length-append f.later f.past, f.count)

  -- a watcher that follows all that it hasn't followed stands for the whole history
  up_to : (h : List Entry) (l : Lookout) → Legal real h → Follows h l → Follows h (followed (drop l.seen (reverse h)) l)
  up_to h l legal f =
      record {
        later = [];
        past = h;
        is = refl;
        count = omega (arith, seen_within h l f, length-drop l.seen (reverse h), length-reverse h);
        stands = whole;
      }
    where
      entries : List Entry
      entries = drop l.seen (reverse h)

      -- the front that it stood for is the one of that length
      same : f.past ≡ front h l.seen
      same = same_end f.later f.past (reverse entries) (front h l.seen) (sym f.is ∙ sym (parts h l.seen)) (f.count ∙ sym (front_length h l.seen (seen_within h l f)))

      all : history_after f.past entries ≡ h
      all = ap (λ (past : List Entry). history_after past entries) same ∙ rest_after h l.seen

      whole : StandsFor real h (followed entries l).watcher
      whole = subst (λ (es : List Entry). StandsFor real es (followed entries l).watcher) all (looks_are_kept real f.past entries l.watcher (λ f. refl) f.stands (subst (Legal real) (sym all) legal))

  has_looked : (h : List Entry) (p : P) (l : Lookout) → Legal real h → stands h p → Follows h l → HasLooked real h (ways.seen p) l (drop l.seen (reverse h))
  has_looked h p l legal st f =
      record {
        later = [];
        past = front h l.seen;
        is = sym (rest_after h l.seen);
        count = front_length h l.seen (seen_within h l f);
        stands = subst (λ (past : List Entry). StandsFor real past l.watcher) same f.stands;
        after = omega (arith, kept.within h p st, seen_within h l f, length-drop l.seen (reverse h), length-reverse h);
      }
    where
      same : f.past ≡ front h l.seen
      same = same_end f.later f.past (reverse (drop l.seen (reverse h))) (front h l.seen) (sym f.is ∙ sym (parts h l.seen)) (f.count ∙ sym (front_length h l.seen (seen_within h l f)))

  pub watcher_looks : (h : List Entry) (place : ℕ) (m : MemberOf P) (o : Option Lookout) → slice_get m.watchers place ≡ o → Legal real h → IsMember h m
      → IsMember h (looks_with ways (reverse h) place m o)
  watcher_looks h place m None e legal is = is
  watcher_looks h place m (Some l) e legal is =
      let f : Follows h l = is.watchers l (in_get m.watchers place l e) in
      let now : Lookout = followed (drop l.seen (reverse h)) l in
      record {
        node = kept.watched h (drop l.seen (reverse h)) l place m.node legal (has_looked h m.node l legal is.node f) is.node;
        watchers = λ x i. of x (up_to h l legal f) (in_set m.watchers place now x i);
      }
    where
      of : (x : Lookout) → Follows h (followed (drop l.seen (reverse h)) l) → (x ≡ followed (drop l.seen (reverse h)) l) ⊎ In x m.watchers → Follows h x
      of x new (inl same) = subst (Follows h) (sym same) new
      of x new (inr i) = is.watchers x i

  -- ---- whatever happens

  pub stays : (w : WorldOf P) (event : Happening) → IsWorld stands w → IsWorld stands (happened ways event w)
  stays w (Enter by call) is = enters w by _ is
  stays w (Time to) is = enters w 0 _ is
  stays w (See number) is =
      at_number w (sees ways (reverse w.history)) number
      (λ m i. record { node = kept.saw w.history _ m.node is.legal (rest_comes w.history (ways.seen m.node) (kept.within w.history m.node i.node)) i.node; watchers = i.watchers }) is
  stays w (Command number step command) is =
      at_number w (told ways step command) number
      (λ m i. record { node = kept.commanded w.history step command m.node is.legal i.node; watchers = i.watchers }) is
  stays w (Deliver number bytes) is =
      at_number w (handed ways bytes) number
      (λ m i. record { node = kept.handled w.history bytes m.node is.legal i.node; watchers = i.watchers }) is
  stays w (Tick number) is =
      at_number w (acts ways) number
      (λ m i. record { node = kept.ticked w.history m.node is.legal i.node; watchers = i.watchers }) is
  stays w (Watch number place) is =
      at_number w (looks ways (reverse w.history) place) number
      (λ m i. watcher_looks w.history place m (slice_get m.watchers place) refl is.legal i) is

  -- and its journals are honest
  pub honest : (w : WorldOf P) → IsWorld stands w → AreHonest ways w
  honest w is valid m i = kept.honest w.history m.node is.legal valid (is.nodes m i)
