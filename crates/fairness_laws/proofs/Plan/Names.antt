-- Names that stand once: of the channels of parts, and of those for which parts count something.
use Rattle.std.proofs.Common.{◌≡◌, ℕ, suc, ◌+◌, ◌<◌, Bool, true, false, cond, ◌||◌, not, List, [], ◌∷◌, ◌++◌, inl, inr, length, refl, sym, ◌∙◌, ap, subst, arith}
use Rattle.std.specs.Prelude.{map, filter}
use Rattle.std.specs.List.{list_any, position_or_len}
use Rattle.std.specs.Str.{bytes_eq}
use Rattle.channel_values.specs.Parts.{FixedParts}
use Rattle.channel_values.specs.Outcomes.{AreApart}
use Rattle.call_history.specs.Flows.{is_among}
use Rattle.call_history.proofs.Names.{same_bytes, bytes_eq_self}
use Rattle.channel_safety.proofs.Tests.{and-both}
use Rattle.funding_plans.specs.Parts.{own_channel, channels_of}
use Rattle.funding_plans.specs.declared.plan.Part.{Part}
use Rattle.funding_plans.specs.declared.plan.Part.TheVariants.{Root, OnLedger, End, Middle}
use Rattle.channel_safety.specs.Journals.{In}
use Rattle.channel_safety.proofs.Members.{In-append_left, In-append_right, In-map}
use Rattle.channel_node.specs.Openings.{are_apart}
use Rattle.node_guarantees.proofs.Apart.{Apart}
use Rattle.support_rules.specs.Real.{real}

-- ---- tests on lists

none-any : {A : Type 0} (p : A → Bool) (xs : List A) → ((x : A) → In x xs → p x ≡ false) → list_any p xs ≡ false
none-any p [] none = refl
none-any p (x ∷ xs) none = ap (λ (b : Bool). b || list_any p xs) (none x (inl refl)) ∙ none-any p xs (λ y i. none y (inr i))

-- one that passes
pub record Passing {A : Type 0} (p : A → Bool) (xs : List A) : Type 0 where
  pub item : A
  pub there : In item xs
  pub passes : p item ≡ true

pub any-in : {A : Type 0} (p : A → Bool) (xs : List A) → list_any p xs ≡ true → Passing p xs
any-in p [] e = absurd cc
any-in p (x ∷ xs) e = go (p x) refl e (any-in p xs)
  where
    go : (b : Bool) → p x ≡ b → (b || list_any p xs) ≡ true → (list_any p xs ≡ true → Passing p xs) → Passing p (x ∷ xs)
    go true t e rest = record { item = x; there = inl refl; passes = t }
    go false t e rest = let r = rest e in record { item = r.item; there = inr r.there; passes = r.passes }

pub in-among : (x : List ℕ) (xs : List (List ℕ)) → In x xs → is_among x xs ≡ true
in-among x [] i = absurd i
in-among x (y ∷ ys) (inl e) = ap (λ (z : List ℕ). bytes_eq x z || is_among x ys) (sym e) ∙ ap (λ (b : Bool). b || is_among x ys) (bytes_eq_self x)
in-among x (y ∷ ys) (inr i) = go (bytes_eq x y) (in-among x ys i)
  where
    go : (b : Bool) → is_among x ys ≡ true → (b || is_among x ys) ≡ true
    go true e = refl
    go false e = e

pub among-in : (x : List ℕ) (xs : List (List ℕ)) → is_among x xs ≡ true → In x xs
among-in x xs e = let p = any-in (bytes_eq x) xs e in subst (λ (y : List ℕ). In y xs) (sym (same_bytes x p.item p.passes)) p.there

-- where one passes the first that does stands within
pub place-within : {A : Type 0} (p : A → Bool) (xs : List A) (x : A) → In x xs → p x ≡ true → position_or_len p xs < length xs
place-within p [] x i t = absurd i
place-within p (y ∷ ys) x (inl e) t = subst (λ (b : Bool). cond (not b) (1 + position_or_len p ys) 0 < length (y ∷ ys)) (sym (ap p (sym e) ∙ t)) (omega arith)
place-within p (y ∷ ys) x (inr i) t = go (p y) (position_or_len p ys) (length ys) (place-within p ys x i t)
  where
    go : (b : Bool) (q n : ℕ) → q < n → cond (not b) (1 + q) 0 < suc n
    go true q n l = omega arith
    go false q n l = omega arith

pub in-filter : {A : Type 0} (p : A → Bool) (x : A) (xs : List A) → In x xs → p x ≡ true → In x (filter p xs)
in-filter p x [] i t = absurd i
in-filter p x (y ∷ ys) (inl e) t = subst (λ (b : Bool). In x (cond b (y ∷ filter p ys) (filter p ys))) (sym (ap p (sym e) ∙ t)) (inl e)
in-filter p x (y ∷ ys) (inr i) t = go (p y) (in-filter p x ys i t)
  where
    go : (b : Bool) → In x (filter p ys) → In x (cond b (y ∷ filter p ys) (filter p ys))
    go true j = inr j
    go false j = j

-- ---- names

pub all-apart : (ns : List (List ℕ)) → Apart ns → AreApart bytes_eq ns
all-apart [] a = tt
all-apart (n ∷ ns) a = (none-any (bytes_eq n) ns a.0, all-apart ns a.1)

pub told-apart : (ns : List (List ℕ)) → Apart ns → are_apart ns ≡ true
told-apart [] a = refl
told-apart (n ∷ ns) a = and-both (not (is_among n ns)) (are_apart ns) (ap not (none-any (bytes_eq n) ns a.0)) (told-apart ns a.1)

pub named-apart : (fs : List FixedParts) → Apart (map real.named fs) → AreApart (λ g h. bytes_eq (real.named g) (real.named h)) fs
named-apart [] a = tt
named-apart (f ∷ fs) a = (
  none-any (λ (h : FixedParts). bytes_eq (real.named f) (real.named h)) fs (λ h i. a.0 (real.named h) (In-map real.named h fs i)),
  named-apart fs a.1,
)

pub apart-cross : (xs ys : List (List ℕ)) → Apart (xs ++ ys) → (x y : List ℕ) → In x xs → In y ys → bytes_eq x y ≡ false
apart-cross [] ys a x y i j = absurd i
apart-cross (z ∷ zs) ys a x y (inl e) j = ap (λ (n : List ℕ). bytes_eq n y) e ∙ a.0 y (In-append_right y zs ys j)
apart-cross (z ∷ zs) ys a x y (inr i) j = apart-cross zs ys a.1 x y i j

pub apart-rest : (xs ys : List (List ℕ)) → Apart (xs ++ ys) → Apart ys
apart-rest [] ys a = a
apart-rest (x ∷ xs) ys a = apart-rest xs ys a.1

pub apart-front : (xs ys : List (List ℕ)) → Apart (xs ++ ys) → Apart xs
apart-front [] ys a = tt
apart-front (x ∷ xs) ys a = (λ y i. a.0 y (In-append_left y xs ys i), apart-front xs ys a.1)

-- ---- of parts

pub own-in : (p : Part) → In (own_channel p) (channels_of p)
own-in (Root channel) = inl refl
own-in (OnLedger ledger channel) = inl refl
own-in (End v) = inr (inr (inr (inl refl)))
own-in (Middle v) = inr (inr (inr (inl refl)))
