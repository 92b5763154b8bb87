-- The reader's people are the player's.
use Rattle.std.proofs.Common.{◌≡◌, ℕ, suc, ◌+◌, ◌≤◌, ◌^◌, List, [], ◌∷◌, ◌++◌, Bool, true, false, cond, Option, Some, None, refl, sym, ◌∙◌, ap, subst, arith}
use Rattle.std.proofs.lemmas.List.Sums.{sum_by_push}
use Rattle.std.specs.Prelude.{◌&&◌, ◌||◌, not, nat_lt, IsSome, slice_set}
use Rattle.std.specs.List.{find, list_any, position_or_len, count_by}
use Rattle.std.specs.Option.{option_map}
use Rattle.std.specs.Str.{bytes_eq}
use Rattle.channel_values.proofs.Found.{put_found}
use Rattle.channel_values.specs.Outcomes.{AreApart}
use Rattle.lms_signatures.specs.Made.{made_bytes}
use Rattle.lms_signatures.specs.Signing.{Signing}
use Rattle.script_reader.specs.Conditions as reader
use Rattle.script_reader.specs.context.Context.{Context}
use Rattle.script_reader.specs.context.Person.{Person as KnownPerson}
use Rattle.step_meanings.specs.Chains.{or_none}
use Rattle.step_meanings.specs.People.{SignedBy, has_name, keys_by, used_once, sign}
use Rattle.step_meanings.specs.declared.people.Person.{Person}
use Rattle.further_laws.proofs.Finding.{or_head, same_bytes, bytes_themselves, rest_false, head_false, any_push}

-- a person has no hand where the reader says that it has a node, and otherwise one that signed no more often than the
-- reader counts
abbrev pub IsHand : List (List ℕ) → KnownPerson → Option Signing → Type 0
IsHand signers p None = p.node ≡ true
IsHand signers p (Some hand) = (hand.h ≡ p.h) × (hand.used ≤ count_by (λ s. bytes_eq s p.name) signers)

-- a person of the reader is the player's
pub record IsSame (signers : List (List ℕ)) (p : KnownPerson) (q : Person) : Type 0 where
  pub name : p.name ≡ q.name
  pub key : p.key ≡ q.key
  pub hand : IsHand signers p q.hand

abbrev pub SamePeople : List (List ℕ) → List KnownPerson → List Person → Type 0
SamePeople signers [] [] = Unit {0}
SamePeople signers [] (q ∷ qs) = ⊥
SamePeople signers (p ∷ ps) [] = ⊥
SamePeople signers (p ∷ ps) (q ∷ qs) = IsSame signers p q × SamePeople signers ps qs

counted_more : (name by : List ℕ) (signers : List (List ℕ)) → count_by (λ s. bytes_eq s name) (signers ++ by ∷ []) ≡ count_by (λ s. bytes_eq s name) signers + cond (bytes_eq by name) 1 0
counted_more name by signers = sum_by_push (λ s. cond (bytes_eq s name) 1 0) signers by

hand_more : (by : List ℕ) (signers : List (List ℕ)) (p : KnownPerson) (o : Option Signing) → IsHand signers p o → IsHand (signers ++ by ∷ []) p o
hand_more by signers p None h = h
hand_more by signers p (Some hand) h = (h.0, omega (arith, h.1, counted_more p.name by signers))

same_more : (by : List ℕ) (signers : List (List ℕ)) (p : KnownPerson) (q : Person) → IsSame signers p q → IsSame (signers ++ by ∷ []) p q
same_more by signers p q m = record { name = m.name; key = m.key; hand = hand_more by signers p q.hand m.hand }

pub people_more : (by : List ℕ) (signers : List (List ℕ)) (ps : List KnownPerson) (qs : List Person) → SamePeople signers ps qs → SamePeople (signers ++ by ∷ []) ps qs
people_more by signers [] [] h = h
people_more by signers [] (q ∷ qs) h = h
people_more by signers (p ∷ ps) [] h = h
people_more by signers (p ∷ ps) (q ∷ qs) h = (same_more by signers p q h.0, people_more by signers ps qs h.1)

pub people_push : (signers : List (List ℕ)) (ps : List KnownPerson) (qs : List Person) (p : KnownPerson) (q : Person) → SamePeople signers ps qs → IsSame signers p q
    → SamePeople signers (ps ++ p ∷ []) (qs ++ q ∷ [])
people_push signers [] [] p q h m = (m, tt)
people_push signers [] (x ∷ qs) p q h m = absurd h
people_push signers (x ∷ ps) [] p q h m = absurd h
people_push signers (x ∷ ps) (y ∷ qs) p q h m = (h.0, people_push signers ps qs p q h.1 m)

-- the keys of names
same_key : (signers : List (List ℕ)) (ps : List KnownPerson) (qs : List Person) → SamePeople signers ps qs → (name : List ℕ)
    → or_none (option_map (λ (q : Person). q.key) (find (λ (q : Person). bytes_eq q.name name) qs)) ≡ reader.key_in (find (λ (p : KnownPerson). bytes_eq p.name name) ps)
same_key signers [] [] h name = refl
same_key signers [] (q ∷ qs) h name = absurd h
same_key signers (p ∷ ps) [] h name = absurd h
same_key signers (p ∷ ps) (q ∷ qs) h name = by (bytes_eq q.name name) (bytes_eq p.name name) (ap (λ n. bytes_eq n name) (sym h.0.name)) (same_key signers ps qs h.1 name)
  where
    by : (b a : Bool) → b ≡ a
        → or_none (option_map (λ (q : Person). q.key) (find (λ (q : Person). bytes_eq q.name name) qs)) ≡ reader.key_in (find (λ (p : KnownPerson). bytes_eq p.name name) ps)
        → or_none (option_map (λ (q : Person). q.key) (cond b (Some q) (find (λ (q : Person). bytes_eq q.name name) qs))) ≡ reader.key_in (cond a (Some p) (find (λ (p : KnownPerson). bytes_eq p.name name) ps))
    by true true e later = ap (λ k. k ∷ []) (sym h.0.key)
    by true false e later = absurd (cc)
    by false true e later = absurd (cc)
    by false false e later = later

pub same_keys : (c : Context) (qs : List Person) → SamePeople c.signers c.people qs → (names : List (List ℕ)) → keys_by qs names ≡ reader.keys_in c names
same_keys c qs h [] = refl
same_keys c qs h (name ∷ names) = λ i. same_key c.signers c.people qs h name i ++ same_keys c qs h names i

pub known_key : (signers : List (List ℕ)) (ps : List KnownPerson) (qs : List Person) → SamePeople signers ps qs → (name : List ℕ)
    → list_any (λ (p : KnownPerson). bytes_eq p.name name) ps ≡ true → IsSome (find (λ (q : Person). bytes_eq q.name name) qs)
known_key signers [] [] h name e = absurd (cc)
known_key signers [] (q ∷ qs) h name e = absurd h
known_key signers (p ∷ ps) [] h name e = absurd h
known_key signers (p ∷ ps) (q ∷ qs) h name e = by (bytes_eq q.name name) refl (λ more. known_key signers ps qs h.1 name more)
  where
    by : (b : Bool) → bytes_eq q.name name ≡ b
        → (list_any (λ (p : KnownPerson). bytes_eq p.name name) ps ≡ true → IsSome (find (λ (q : Person). bytes_eq q.name name) qs))
        → IsSome (cond b (Some q) (find (λ (q : Person). bytes_eq q.name name) qs))
    by true t later = refl
    by false t later = later (or_head (bytes_eq p.name name) (list_any (λ (p : KnownPerson). bytes_eq p.name name) ps) e (ap (λ n. bytes_eq n name) h.0.name ∙ t))

-- who is known as something is known
pub tested_is_known : (test : KnownPerson → Bool) (ps : List KnownPerson) (name : List ℕ) → list_any (λ (p : KnownPerson). bytes_eq p.name name && test p) ps ≡ true
    → list_any (λ (p : KnownPerson). bytes_eq p.name name) ps ≡ true
tested_is_known test [] name e = e
tested_is_known test (p ∷ ps) name e = by (bytes_eq p.name name) (test p) e (λ more. tested_is_known test ps name more)
  where
    by : (a b : Bool) → ((a && b) || list_any (λ (p : KnownPerson). bytes_eq p.name name && test p) ps) ≡ true
        → (list_any (λ (p : KnownPerson). bytes_eq p.name name && test p) ps ≡ true → list_any (λ (p : KnownPerson). bytes_eq p.name name) ps ≡ true)
        → (a || list_any (λ (p : KnownPerson). bytes_eq p.name name) ps) ≡ true
    by true b t later = refl
    by false b t later = later t

-- nobody else has the name
none_named : (test : KnownPerson → Bool) (p : KnownPerson) (ps : List KnownPerson) (name : List ℕ) → bytes_eq p.name name ≡ true
    → list_any (λ (r : KnownPerson). bytes_eq p.name r.name) ps ≡ false → list_any (λ (r : KnownPerson). bytes_eq r.name name && test r) ps ≡ false
none_named test p [] name e h = refl
none_named test p (r ∷ ps) name e h =
    by (bytes_eq p.name r.name) refl (bytes_eq r.name name) refl (none_named test p ps name e (rest_false (bytes_eq p.name r.name) (list_any (λ (r : KnownPerson). bytes_eq p.name r.name) ps) h))
  where
    meet : bytes_eq p.name r.name ≡ true → bytes_eq p.name r.name ≡ false → ⊥
    meet t f = absurd (cc)

    by : (a : Bool) → bytes_eq p.name r.name ≡ a → (b : Bool) → bytes_eq r.name name ≡ b
        → list_any (λ (r : KnownPerson). bytes_eq r.name name && test r) ps ≡ false
        → ((b && test r) || list_any (λ (r : KnownPerson). bytes_eq r.name name && test r) ps) ≡ false
    by a t false u later = later
    by a t true u later =
        absurd (meet (ap (bytes_eq p.name) (same_bytes r.name name u ∙ sym (same_bytes p.name name e)) ∙ bytes_themselves p.name) (head_false (bytes_eq p.name r.name) (list_any (λ (r : KnownPerson). bytes_eq p.name r.name) ps) h))

-- the person of a name, for the reader and for the player
pub record Found (signers : List (List ℕ)) (ps : List KnownPerson) (qs : List Person) (name : List ℕ) : Type 0 where
  pub person : Person
  pub known : KnownPerson
  pub there : find (λ (q : Person). bytes_eq q.name name) qs ≡ Some person
  pub same : IsSame signers known person
  pub named : known.name ≡ name
  pub passes : (test : KnownPerson → Bool) → list_any (λ (p : KnownPerson). bytes_eq p.name name && test p) ps ≡ true → test known ≡ true

pub found : (signers : List (List ℕ)) (ps : List KnownPerson) (qs : List Person) → SamePeople signers ps qs
    → AreApart (λ (p r : KnownPerson). bytes_eq p.name r.name) ps → (name : List ℕ) → list_any (λ (p : KnownPerson). bytes_eq p.name name) ps ≡ true
    → Found signers ps qs name
found signers [] [] h apart name e = absurd (cc)
found signers [] (q ∷ qs) h apart name e = absurd h
found signers (p ∷ ps) [] h apart name e = absurd h
found signers (p ∷ ps) (q ∷ qs) h apart name e = by (bytes_eq q.name name) refl (λ more. found signers ps qs h.1 apart.1 name more)
  where
    as_known : (b : Bool) → bytes_eq q.name name ≡ b → bytes_eq p.name name ≡ b
    as_known b t = ap (λ n. bytes_eq n name) h.0.name ∙ t

    fits : (a b c : Bool) → ((c && a) || b) ≡ true → b ≡ false → a ≡ true
    fits true b c t v = refl
    fits false true c t v = absurd (cc)
    fits false false true t v = absurd (cc)
    fits false false false t v = absurd (cc)

    skips : (a b c : Bool) → ((c && a) || b) ≡ true → c ≡ false → b ≡ true
    skips a true c t u = refl
    skips a false true t u = absurd (cc)
    skips a false false t u = absurd (cc)

    at : (b : Bool) → bytes_eq q.name name ≡ b
        → find (λ (x : Person). bytes_eq x.name name) (q ∷ qs) ≡ cond b (Some q) (find (λ (x : Person). bytes_eq x.name name) qs)
    at b t = ap (λ b. cond b (Some q) (find (λ (x : Person). bytes_eq x.name name) qs)) t

    by : (b : Bool) → bytes_eq q.name name ≡ b → (list_any (λ (p : KnownPerson). bytes_eq p.name name) ps ≡ true → Found signers ps qs name)
        → Found signers (p ∷ ps) (q ∷ qs) name
    by true t later =
        record {
          person = q;
          known = p;
          there = at true t;
          same = h.0;
          named = same_bytes p.name name (as_known true t);
          passes = λ test u. fits (test p) (list_any (λ (p : KnownPerson). bytes_eq p.name name && test p) ps) (bytes_eq p.name name) u (none_named test p ps name (as_known true t) apart.0);
        }
    by false t later =
        let r = later (or_head (bytes_eq p.name name) (list_any (λ (p : KnownPerson). bytes_eq p.name name) ps) e (as_known false t)) in
        record {
          person = r.person;
          known = r.known;
          there = at false t ∙ r.there;
          same = r.same;
          named = r.named;
          passes = λ test u. r.passes test (skips (test p) (list_any (λ (p : KnownPerson). bytes_eq p.name name && test p) ps) (bytes_eq p.name name) u (as_known false t));
        }

-- ---- what a hand signs

abbrev pub after_sign : List ℕ → List Person → Person → Signing → List Person
after_sign name qs q hand = slice_set qs (position_or_len (λ (x : Person). bytes_eq x.name name) qs) (used_once q hand)

pub signs : (qs : List Person) (name message : List ℕ) (q : Person) (hand : Signing) → find (λ (x : Person). bytes_eq x.name name) qs ≡ Some q → q.hand ≡ Some hand
    → nat_lt hand.used (2 ^ hand.h) ≡ true
    → sign qs name message ≡ Some (record { signature = made_bytes hand.seed hand.id hand.h hand.used message; people = after_sign name qs q hand })
signs qs name message q hand found has unspent =
    rw (found, has, unspent) (ap {B = Option SignedBy} (λ (l : List Person). Some (record { signature = made_bytes hand.seed hand.id hand.h hand.used message; people = l })) (sym (put_found (has_name name) qs q (used_once q hand) found)))

-- the people after it
pub signed_people : (by : List ℕ) (signers : List (List ℕ)) (ps : List KnownPerson) (qs : List Person) (q : Person) (hand : Signing) → SamePeople signers ps qs
    → find (λ (x : Person). bytes_eq x.name by) qs ≡ Some q → q.hand ≡ Some hand → SamePeople (signers ++ by ∷ []) ps (after_sign by qs q hand)
signed_people by signers [] [] q hand h found has = h
signed_people by signers [] (x ∷ qs) q hand h found has = absurd h
signed_people by signers (p ∷ ps) [] q hand h found has = absurd h
signed_people by signers (p ∷ ps) (x ∷ qs) q hand h found has = go (bytes_eq x.name by) refl found (λ e. signed_people by signers ps qs q hand h.1 e has)
  where
    rest : Option Person
    rest = find (λ (y : Person). bytes_eq y.name by) qs

    some_same : (a b : Person) → Some a ≡ Some b → a ≡ b
    some_same a b e = cc

    once_more : (p : KnownPerson) → p.name ≡ by → (hand.h ≡ p.h) × (hand.used ≤ count_by (λ s. bytes_eq s p.name) signers)
        → IsHand (signers ++ by ∷ []) p (Some (record hand { used = hand.used + 1 }))
    once_more p named held = (
      held.0,
      omega (arith, held.1, counted_more p.name by signers, ap {B = ℕ} (λ n. cond (bytes_eq by n) 1 0) named, ap {B = ℕ} (λ b. cond b 1 0) (bytes_themselves by)),
    )

    signer : bytes_eq x.name by ≡ true → Some x ≡ Some q → IsSame (signers ++ by ∷ []) p (used_once q hand)
    signer t e =
        let same = some_same x q e in
        let named : p.name ≡ by = h.0.name ∙ same_bytes x.name by t in
        let held : IsHand signers p (Some hand) = subst (IsHand signers p) (ap (λ (y : Person). y.hand) same ∙ has) h.0.hand in
        record {
          name = h.0.name ∙ ap (λ (y : Person). y.name) same;
          key = h.0.key ∙ ap (λ (y : Person). y.key) same;
          hand = once_more p named held;
        }

    onward : (n : ℕ) (y : Person) → slice_set (x ∷ qs) (1 + n) y ≡ x ∷ slice_set qs n y
    onward n y = let e : 1 + n ≡ suc n = omega arith in ap (λ k. slice_set (x ∷ qs) k y) e

    go : (b : Bool) → bytes_eq x.name by ≡ b → cond b (Some x) rest ≡ Some q → (rest ≡ Some q → SamePeople (signers ++ by ∷ []) ps (after_sign by qs q hand))
        → SamePeople (signers ++ by ∷ []) (p ∷ ps) (slice_set (x ∷ qs) (cond (not b) (1 + position_or_len (λ (y : Person). bytes_eq y.name by) qs) 0) (used_once q hand))
    go true t e later = (signer t e, people_more by signers ps qs h.1)
    go false t e later =
        subst (λ l. SamePeople (signers ++ by ∷ []) (p ∷ ps) l) (sym (onward _ (used_once q hand)))
        (same_more by signers p x h.0, later e)

-- ---- one more

pub apart_push : (ps : List KnownPerson) (p : KnownPerson) → AreApart (λ (p r : KnownPerson). bytes_eq p.name r.name) ps → list_any (λ (r : KnownPerson). bytes_eq r.name p.name) ps ≡ false
    → AreApart (λ (p r : KnownPerson). bytes_eq p.name r.name) (ps ++ p ∷ [])
apart_push [] p h e = (refl, tt)
apart_push (x ∷ ps) p h e = (
  any_push (λ (r : KnownPerson). bytes_eq x.name r.name) ps p h.0 (head_false (bytes_eq x.name p.name) (list_any (λ (r : KnownPerson). bytes_eq r.name p.name) ps) e),
  apart_push ps p h.1 (rest_false (bytes_eq x.name p.name) (list_any (λ (r : KnownPerson). bytes_eq r.name p.name) ps) e),
)
