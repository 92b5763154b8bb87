-- In a world each message that is sent was signed by somebody, and what was signed stays so.
use Rattle.std.proofs.Common.{◌≡◌, ℕ, zero, suc, Bool, List, [], ◌∷◌, ◌++◌, refl, ◌∙◌, subst, ◌⊎◌, inl, inr}
use Rattle.std.specs.Prelude.{Option, Some, None, slice_get, slice_set, reverse}
use Rattle.std.specs.List.{find, position_or_len, before_first, after_first}
use Rattle.std.specs.Option.{option_map}
use Rattle.channel_safety.proofs.Lists.{In-append_right}
use Rattle.channel_safety.proofs.Members.{all-in}
use Rattle.channel_values.proofs.Found.{found_inside, put_found}
use Rattle.call_history.specs.declared.call.Call.{Call}
use Rattle.channel_safety.proofs.Tests.{some-eq}
use Rattle.channel_safety.specs.Journals.{In}
use Rattle.network.proofs.Fronts.{in_found}
use Rattle.network.specs.Ways.{Ways}
use Rattle.network.specs.declared.lookout.Lookout.{Lookout}
use Rattle.network.specs.declared.outs.Outs.{Outs}
use Rattle.network.specs.Members.{MemberOf, sees, handed, acts, looks, looks_with, calls_if, accepted}
use Rattle.network.specs.Members as members
use Rattle.network.specs.Worlds.{WorldOf, has_number, member, replaced, changed, calling, given_by, happened}
use Rattle.network.specs.Safe.{after}
use Rattle.network.specs.declared.happening.Happening.{Happening}
use Rattle.network.specs.declared.happening.Happening.TheVariants.{Enter, Time, See, Command as Told_to, Deliver, Tick, Watch}
use Rattle.channel_node.specs.Places.{Told}
use Rattle.support_rules.specs.Real.{real}
use Rattle.node_guarantees.specs.Once.{signed_by}
use Rattle.node_guarantees.specs.Sends.{IsSigned, AreSigned, SendWhatTheySigned, HasSigned, SignaturesStay, StaysSo}
use Rattle.node_guarantees.specs.Laws.{IsSignedIn, EveryMessageIsSigned, EverySignatureStays}

-- ---- a list with the first element changed that passes

-- the new one is there
new-there : {A : Type 0} (before rest : List A) (x : A) → In x (before ++ x ∷ rest)
new-there before rest x = In-append_right x before (x ∷ rest) (inl refl)

-- and each other
set-others : {A : Type 0} (xs : List A) (i : ℕ) (x y z : A) → slice_get xs i ≡ Some x → In y xs → (y ≡ x) ⊎ In y (slice_set xs i z)
set-others [] i x y z e j = absurd j
set-others (a ∷ xs) zero x y z e (inl same) = inl (same ∙ some-eq a x e)
set-others (a ∷ xs) zero x y z e (inr j) = inr (inr j)
set-others (a ∷ xs) (suc i) x y z e (inl same) = inr (inl same)
set-others (a ∷ xs) (suc i) x y z e (inr j) = later (set-others xs i x y z e j)
  where
    later : (y ≡ x) ⊎ In y (slice_set xs i z) → (y ≡ x) ⊎ In y (a ∷ slice_set xs i z)
    later (inl same) = inl same
    later (inr k) = inr (inr k)

others-there : {A : Type 0} (test : A → Bool) (xs : List A) (x y z : A) → find test xs ≡ Some x → In y xs → (y ≡ x) ⊎ In y (before_first test xs ++ z ∷ after_first test xs)
others-there {A} test xs x y z e i =
    subst (λ (ys : List A). (y ≡ x) ⊎ In y ys) (put_found test xs x z e) (set-others xs (position_or_len test xs) x y z (found_inside test xs x e).0 i)

-- ---- what is signed stays

module _ {P : Type 0} (ways : Ways P) (is : P → Type 0) (stays : StaysSo ways is) where
  -- it is so of somebody
  record Somebody (w : WorldOf P) : Type 0 where
    who : MemberOf P
    there : In who w.members
    so : is who.node

  at-found : (w : WorldOf P) (f : MemberOf P → MemberOf P) (number : ℕ) (o : Option (MemberOf P)) → find (has_number ways number) w.members ≡ o
      → ((m : MemberOf P) → is m.node → is (f m).node) → Somebody w → Somebody (replaced ways w number (option_map f o))
  at-found w f number None e keeps s = s
  at-found w f number (Some m) e keeps s = go (others-there (has_number ways number) w.members m s.who (f m) e s.there)
    where
      before : List (MemberOf P)
      before = before_first (has_number ways number) w.members

      rest : List (MemberOf P)
      rest = after_first (has_number ways number) w.members

      go : (s.who ≡ m) ⊎ In s.who (before_first (has_number ways number) w.members ++ f m ∷ after_first (has_number ways number) w.members) → Somebody (replaced ways w number (Some (f m)))
      go (inl same) = record { who = f m; there = new-there before rest (f m); so = keeps m (subst (λ (x : MemberOf P). is x.node) same s.so) }
      go (inr i) = record { who = s.who; there = i; so = s.so }

  at-number : (w : WorldOf P) (f : MemberOf P → MemberOf P) (number : ℕ) → ((m : MemberOf P) → is m.node → is (f m).node) → Somebody w → Somebody (changed ways number f w)
  at-number w f number keeps s = at-found w f number (member ways w number) refl keeps s

  looking : (w : WorldOf P) (place : ℕ) (m : MemberOf P) (o : Option Lookout) → is m.node → is (looks_with ways (reverse w.history) place m o).node
  looking w place m None i = i
  looking w place m (Some l) i = stays.watched _ place _ m.node i

  goes-on : (w : WorldOf P) (event : Happening) → Somebody w → Somebody (happened ways event w)
  goes-on w (Enter by call) s = record { who = s.who; there = s.there; so = s.so }
  goes-on w (Time to) s = record { who = s.who; there = s.there; so = s.so }
  goes-on w (See number) s = at-number w (sees ways (reverse w.history)) number (λ m i. stays.saw _ m.node i) s
  goes-on w (Told_to number step command) s = at-number w (members.told ways step command) number (λ m i. stays.commanded step command m.node i) s
  goes-on w (Deliver number bytes) s = at-number w (handed ways bytes) number (λ m i. stays.handled bytes m.node i) s
  goes-on w (Tick number) s = at-number w (acts ways) number (λ m i. stays.ticked m.node i) s
  goes-on w (Watch number place) s = at-number w (looks ways (reverse w.history) place) number (λ m i. looking w place m (slice_get m.watchers place) i) s

  somebody-after : (events : List Happening) (w : WorldOf P) → Somebody w → Somebody (after ways events w)
  somebody-after [] w s = s
  somebody-after (event ∷ events) w s = somebody-after events (happened ways event w) (goes-on w event s)

pub signed_stays : {P : Type 0} (ways : Ways P) (told : P → List Told) → SignaturesStay ways told → EverySignatureStays ways told
signed_stays ways told stays events w m i made there =
    let s =
    somebody-after ways (HasSigned ways told (ways.key m.node) made) (stays (ways.key m.node) made) events w
    (record { who = m; there = i; so = record { own = refl; there = there } }) in
    record { who = s.who; there = s.there; signed = s.so }

-- ---- what is sent was signed

module _ {P : Type 0} (ways : Ways P) (told : P → List Told) where
  sent-by : (w : WorldOf P) (number : ℕ) (f : MemberOf P → MemberOf P) (give : MemberOf P → Outs) (o : Option (MemberOf P)) → find (has_number ways number) w.members ≡ o
      → ((m : MemberOf P) → In m w.members → AreSigned (signed_by real (told (f m).node)) (give m).sends)
      → (letter : List ℕ × List ℕ) → In letter (given_by ways give o).sends → IsSignedIn ways told (replaced ways w number (option_map f o)) letter.1
  sent-by w number f give None e signs letter i = absurd i
  sent-by w number f give (Some m) e signs letter i = record {
    who = f m;
    there = new-there (before_first (has_number ways number) w.members) (after_first (has_number ways number) w.members) (f m);
    signed =
        all-in (λ (x : List ℕ × List ℕ). IsSigned (signed_by real (told (f m).node)) x.1) letter (give m).sends
        (signs m (in_found (has_number ways number) w.members m e)) i;
  }

  -- a look sends nothing
  looks-send : (calls : MemberOf P → List Call) (o : Option (MemberOf P)) (letter : List ℕ × List ℕ) → In letter (given_by ways (λ m. calling (calls m)) o).sends → ⊥
  looks-send calls None letter i = i
  looks-send calls (Some m) letter i = i

pub sent_signed : {P : Type 0} (ways : Ways P) (told : P → List Told) (lost : P → Bool) → SendWhatTheySigned ways lost told → EveryMessageIsSigned ways told lost
sent_signed ways told lost sends (Enter by call) w able letter i = absurd i
sent_signed ways told lost sends (Time to) w able letter i = absurd i
sent_signed ways told lost sends (See number) w able letter i = absurd i
sent_signed ways told lost sends (Deliver number bytes) w able letter i = absurd i
sent_signed ways told lost sends (Told_to number step command) w able letter i =
    sent-by ways told w number (members.told ways step command) (λ m. accepted (ways.answers command m.node)) (member ways w number) refl
    (λ m there. sends.commanded step command m.node (able m there)) letter i
sent_signed ways told lost sends (Tick number) w able letter i =
    sent-by ways told w number (acts ways) (λ m. ways.gives m.node) (member ways w number) refl (λ m there. sends.ticked m.node (able m there)) letter i
sent_signed ways told lost sends (Watch number place) w able letter i =
    absurd (looks-send ways told (λ m. calls_if ways (reverse w.history) m (slice_get m.watchers place)) (member ways w number) letter i)
