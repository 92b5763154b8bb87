-- What is kept stays the participant's own.
use Rattle.std.proofs.Common.{◌≡◌, ℕ, zero, suc, ◌+◌, ◌<◌, Bool, true, false, cond, not, List, [], ◌∷◌, ◌++◌, length, map, filter, refl, sym, ap, subst, arith}
use Rattle.std.specs.Prelude.{Option, Some, None, Result, Ok, Err, OnOk, OnErr, slice_set, nat_lt}
use Rattle.std.proofs.lemmas.Bool.Decides.{nat_tests}
use Rattle.std.specs.List.{position_or_len, slice_get}
use Rattle.std.specs.Str.{bytes_eq}
use Rattle.channel_values.specs.Parts.{FixedParts}
use Rattle.channel_values.specs.declared.chain.Chain.{Chain}
use Rattle.channel_values.specs.declared.chain.Signed.{Signed}
use Rattle.call_history.proofs.Names.{same_bytes}
use Rattle.call_history.specs.Marked.{marked_of}
use Rattle.channel_store.specs.Keeping.{noting, adopting}
use Rattle.channel_store.specs.Storing.{place_of, kept_of, kept_at, kept_with}
use Rattle.channel_store.specs.declared.kept.Kept.{Kept}
use Rattle.channel_node.specs.Openings.{place_among, takes_part, opened}
use Rattle.support_rules.specs.Real.{real}
use Rattle.node_knowledge.specs.Owned.{IsOwned, AreOwned}
use Rattle.node_knowledge.specs.Shown.{kept_shown}
use Rattle.node_knowledge.specs.Taking.{joined}

-- ---- changes

own-set : (key : List ℕ) (kept : List Kept) (i : ℕ) (k new : Kept) → slice_get kept i ≡ Some k → (IsOwned key k → IsOwned key new) → AreOwned key kept → AreOwned key (slice_set kept i new)
own-set key [] i k new e keeps all = tt
own-set key (x ∷ xs) zero k new e keeps all = let same : x ≡ k = cc in (keeps (subst (IsOwned key) same all.0), all.1)
own-set key (x ∷ xs) (suc i) k new e keeps all = (all.0, own-set key xs i k new e keeps all.1)

own-with : (key : List ℕ) (change : Kept → Kept) → ((k : Kept) → IsOwned key k → IsOwned key (change k)) → (channel : List ℕ) (kept : List Kept) → AreOwned key kept → AreOwned key (kept_with change channel kept)
own-with key change keeps channel kept all = go (kept_of channel kept) refl
  where
    go : (o : Option Kept) → kept_of channel kept ≡ o → AreOwned key (kept_at change kept (place_of channel kept) o)
    go None e = all
    go (Some k) e = own-set key kept (place_of channel kept) k (change k) e (keeps k) all

-- ---- calls of the store, whatever they answer

pub own_noted : {A E : Type 0} (key channel : List ℕ) (signed : Signed) (own : Bool) (old new : List Kept) (result : Result A E) → OnOk result (new ≡ kept_with (noting real own signed) channel old)
    → OnErr result (new ≡ old) → AreOwned key old → AreOwned key new
own_noted key channel signed own old new (Ok done) ok err all =
    subst (AreOwned key) (sym ok) (own-with key (noting real own signed) (λ k is. record { named = is.named; mine = is.mine }) channel old all)
own_noted key channel signed own old new (Err fault) ok err all = subst (AreOwned key) (sym err) all

pub own_shown : {A E : Type 0} (key : List ℕ) (shown : Option (List ℕ × Chain)) (old new : List Kept) (result : Result A E) → OnOk result (new ≡ kept_shown shown old)
    → OnErr result (new ≡ old) → AreOwned key old → AreOwned key new
own_shown key None old new (Ok done) ok err all = subst (AreOwned key) (sym ok) all
own_shown key (Some shown) old new (Ok done) ok err all =
    subst (AreOwned key) (sym ok) (own-with key (adopting real (marked_of shown.1)) (λ k is. record { named = is.named; mine = is.mine }) shown.0 old all)
own_shown key shown old new (Err fault) ok err all = subst (AreOwned key) (sym err) all

-- ---- channels that are added

found : (key : List ℕ) (keys : List (List ℕ)) → position_or_len (bytes_eq key) keys < length keys → slice_get keys (position_or_len (bytes_eq key) keys) ≡ Some key
found key [] lt = absurd (omega (arith, lt))
found key (x ∷ xs) lt = go (bytes_eq key x) refl (found key xs) lt
  where
    place : ℕ
    place = position_or_len (bytes_eq key) xs

    go : (b : Bool) → bytes_eq key x ≡ b → (place < length xs → slice_get xs place ≡ Some key) → cond (not b) (1 + place) 0 < length (x ∷ xs)
        → slice_get (x ∷ xs) (cond (not b) (1 + place) 0) ≡ Some key
    go true e there within = ap (λ (z : List ℕ). Some z) (sym (same_bytes key x e))
    go false e there within =
        let next : 1 + place ≡ suc place = omega arith in
        subst (λ (n : ℕ). slice_get (x ∷ xs) n ≡ Some key) (sym next) (there (omega (arith, within)))

own-append : (key : List ℕ) (xs ys : List Kept) → AreOwned key xs → AreOwned key ys → AreOwned key (xs ++ ys)
own-append key [] ys a b = b
own-append key (x ∷ xs) ys a b = (a.0, own-append key xs ys a.1 b)

below : (a b : ℕ) → nat_lt a b ≡ true → a < b
below a b h = grind (arith, nat_tests)

own-opened : (key : List ℕ) (f : FixedParts) → takes_part key f ≡ true → IsOwned key (opened real key f)
own-opened key f takes = record { named = refl; mine = found key f.keys (below (place_among key f) (length f.keys) takes) }

own-joined : (key : List ℕ) (fs : List FixedParts) → AreOwned key (joined key fs)
own-joined key [] = tt
own-joined key (f ∷ fs) = go (takes_part key f) refl (own-joined key fs)
  where
    go : (b : Bool) → takes_part key f ≡ b → AreOwned key (joined key fs) → AreOwned key (map (opened real key) (cond b (f ∷ filter (takes_part key) fs) (filter (takes_part key) fs)))
    go true takes rest = (own-opened key f takes, rest)
    go false takes rest = rest

pub own_added : {A E : Type 0} (key : List ℕ) (fs : List FixedParts) (old new : List Kept) (result : Result A E) → OnOk result (new ≡ old ++ joined key fs) → OnErr result (new ≡ old)
    → AreOwned key old → AreOwned key new
own_added key fs old new (Ok done) ok err all = subst (AreOwned key) (sym ok) (own-append key old (joined key fs) all (own-joined key fs))
own_added key fs old new (Err fault) ok err all = subst (AreOwned key) (sym err) all
