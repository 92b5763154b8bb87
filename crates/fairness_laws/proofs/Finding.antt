-- What is kept of a channel is found in the lists of a participant's facts, where each channel is kept once.
use Rattle.std.proofs.Common.{◌≡◌, ℕ, suc, ◌+◌, Bool, true, false, cond, ◌&&◌, ◌||◌, not, List, [], ◌∷◌, ◌++◌, inl, inr, refl, sym, ◌∙◌, ap, subst, arith}
use Rattle.std.specs.Prelude.{Option, Some, None, map}
use Rattle.std.specs.List.{slice_get, position_or_len, flat_map}
use Rattle.std.specs.Option.{option_or}
use Rattle.std.specs.Str.{bytes_eq}
use Rattle.call_history.specs.Flows.{is_among}
use Rattle.call_history.specs.declared.held_chain.HeldChain.{HeldChain}
use Rattle.call_history.proofs.Names.{same_bytes, bytes_eq_self}
use Rattle.channel_safety.specs.Journals.{In}
use Rattle.channel_store.specs.Keeping.{is_held, held_chain, place_in}
use Rattle.channel_store.specs.Storing.{is_of, kept_of}
use Rattle.channel_store.specs.declared.kept.Kept.{Kept}
use Rattle.funding_plans.specs.Known.{FactsOf}
use Rattle.funding_plans.specs.Parts.{joined_of, ledgers_of}
use Rattle.funding_plans.specs.declared.plan.Part.{Part}
use Rattle.stage_tables.specs.Asked.{is_unfinished, unfinished_on, part_with, asked_in}
use Rattle.funding_plans.specs.Gathered as gathered
use Rattle.channel_node.specs.Openings.{are_apart}
use Rattle.channel_safety.proofs.Tests.{some-eq, none-eq, and-left, and-right, clash}

-- ---- names

pub flips : (a b : List ℕ) → bytes_eq a b ≡ false → bytes_eq b a ≡ false
flips a b differ = go (bytes_eq b a) refl
  where
    go : (t : Bool) → bytes_eq b a ≡ t → t ≡ false
    go true e = absurd (clash (bytes_eq a b) (subst (λ (x : List ℕ). bytes_eq a x ≡ true) (sym (same_bytes b a e)) (bytes_eq_self a)) differ)
    go false e = refl

pub not-true : (b : Bool) → not b ≡ true → b ≡ false
not-true true e = absurd cc
not-true false e = refl

pub or-left : (a b : Bool) → (a || b) ≡ false → a ≡ false
or-left true b e = e
or-left false b e = refl

pub or-rest : (a b : Bool) → (a || b) ≡ false → b ≡ false
or-rest true b e = absurd cc
or-rest false b e = e

-- ---- what is kept

-- past a channel that is another one
pub passes : (channel : List ℕ) (x : Kept) (xs : List Kept) → bytes_eq x.channel channel ≡ false → kept_of channel xs ≡ kept_of channel (x ∷ xs)
passes channel x xs differ =
    let step : cond (not (bytes_eq x.channel channel)) (1 + position_or_len (is_of channel) xs) 0 ≡ suc (position_or_len (is_of channel) xs) =
    ap (λ (b : Bool). cond (not b) (1 + position_or_len (is_of channel) xs) 0) differ ∙ up (position_or_len (is_of channel) xs) in
    sym (ap (slice_get (x ∷ xs)) step)
  where
    up : (n : ℕ) → 1 + n ≡ suc n
    up n = omega arith

here : (channel : List ℕ) (x k : Kept) (xs : List Kept) → bytes_eq x.channel channel ≡ true → kept_of channel (x ∷ xs) ≡ Some k → x ≡ k
here channel x k xs same e =
    some-eq x k (sym (ap (λ (b : Bool). slice_get (x ∷ xs) (cond (not b) (1 + position_or_len (is_of channel) xs) 0)) same) ∙ e)

pub place-found : (channel : List ℕ) (kept : List Kept) (k : Kept) → kept_of channel kept ≡ Some k → gathered.place_in channel (map place_in kept) ≡ Some (place_in k)
place-found channel [] k e = absurd (none-eq k e)
place-found channel (x ∷ xs) k e = go (bytes_eq x.channel channel) refl (place-found channel xs k)
  where
    go : (b : Bool) → bytes_eq x.channel channel ≡ b → (kept_of channel xs ≡ Some k → gathered.place_in channel (map place_in xs) ≡ Some (place_in k))
        → cond b (Some (place_in x)) (gathered.place_in channel (map place_in xs)) ≡ Some (place_in k)
    go true is ih = ap (λ (z : Kept). Some (place_in z)) (here channel x k xs is e)
    go false is ih = ih (passes channel x xs is ∙ e)

-- the chain that is held of it, if one is
abbrev pub held_of : Kept → Option HeldChain
held_of k = cond (is_held k) (Some (record { channel = k.channel; chain = k.chain })) None

abbrev pub names : List Kept → List (List ℕ)
names kept = map (λ k. k.channel) kept

absent : (channel : List ℕ) (kept : List Kept) → is_among channel (names kept) ≡ false → gathered.chain_in channel (flat_map held_chain kept) ≡ None
absent channel [] e = refl
absent channel (x ∷ xs) e = go (is_held x) (absent channel xs (or-rest (bytes_eq channel x.channel) (is_among channel (names xs)) e))
  where
    differ : bytes_eq x.channel channel ≡ false
    differ = flips channel x.channel (or-left (bytes_eq channel x.channel) (is_among channel (names xs)) e)

    go : (h : Bool) → gathered.chain_in channel (flat_map held_chain xs) ≡ None
        → gathered.chain_in channel (cond h (record { channel = x.channel; chain = x.chain } ∷ []) [] ++ flat_map held_chain xs) ≡ None
    go true ih = ap (λ (b : Bool). cond b (Some (record { channel = x.channel; chain = x.chain })) (gathered.chain_in channel (flat_map held_chain xs))) differ ∙ ih
    go false ih = ih

pub chain-found : (channel : List ℕ) (kept : List Kept) (k : Kept) → are_apart (names kept) ≡ true → kept_of channel kept ≡ Some k → gathered.chain_in channel (flat_map held_chain kept) ≡ held_of k
chain-found channel [] k apart e = absurd (none-eq k e)
chain-found channel (x ∷ xs) k apart e =
    go (bytes_eq x.channel channel) refl (chain-found channel xs k (and-right (not (is_among x.channel (names xs))) (are_apart (names xs)) apart))
  where
    no-other : bytes_eq x.channel channel ≡ true → gathered.chain_in channel (flat_map held_chain xs) ≡ None
    no-other is =
        absent channel xs
        (subst (λ (z : List ℕ). is_among z (names xs) ≡ false) (same_bytes x.channel channel is)
        (not-true (is_among x.channel (names xs)) (and-left (not (is_among x.channel (names xs))) (are_apart (names xs)) apart)))

    one-held : (b h : Bool) → bytes_eq x.channel channel ≡ b → (b ≡ true → gathered.chain_in channel (flat_map held_chain xs) ≡ None)
        → gathered.chain_in channel (cond h (record { channel = x.channel; chain = x.chain } ∷ []) [] ++ flat_map held_chain xs)
        ≡ cond b (cond h (Some (record { channel = x.channel; chain = x.chain })) None) (gathered.chain_in channel (flat_map held_chain xs))
    one-held true true is none = ap (λ (b : Bool). cond b (Some (record { channel = x.channel; chain = x.chain })) (gathered.chain_in channel (flat_map held_chain xs))) is
    one-held false true is none = ap (λ (b : Bool). cond b (Some (record { channel = x.channel; chain = x.chain })) (gathered.chain_in channel (flat_map held_chain xs))) is
    one-held true false is none = none refl
    one-held false false is none = refl

    go : (b : Bool) → bytes_eq x.channel channel ≡ b → (kept_of channel xs ≡ Some k → gathered.chain_in channel (flat_map held_chain xs) ≡ held_of k)
        → gathered.chain_in channel (flat_map held_chain (x ∷ xs)) ≡ held_of k
    go true is ih = one-held true (is_held x) is (λ t. no-other is) ∙ ap held_of (here channel x k xs is e)
    go false is ih = one-held false (is_held x) is (λ t. absurd (clash false t refl)) ∙ ih (passes channel x xs is ∙ e)

-- ---- the part that is asked

one-of : {A : Type 0} (a b : Option A) (x : A) (P : Type 0) → (a ≡ Some x → P) → (b ≡ Some x → P) → option_or a b ≡ Some x → P
one-of None b x P f g e = g e
one-of (Some y) b x P f g e = f e

-- the part that is found on a ledger, and the one that has a channel
pub on-in : (f : FactsOf) (name : List ℕ) (parts : List Part) (p : Part) → unfinished_on f name parts ≡ Some p → In p parts × (is_among name (ledgers_of p) ≡ true)
on-in f name [] p e = absurd (none-eq p e)
on-in f name (q ∷ qs) p e = go (is_among name (ledgers_of q) && is_unfinished f q) refl (on-in f name qs p) e
  where
    go : (b : Bool) → (is_among name (ledgers_of q) && is_unfinished f q) ≡ b → (unfinished_on f name qs ≡ Some p → In p qs × (is_among name (ledgers_of p) ≡ true))
        → cond b (Some q) (unfinished_on f name qs) ≡ Some p → In p (q ∷ qs) × (is_among name (ledgers_of p) ≡ true)
    go true is ih h = (inl (sym (some-eq q p h)), subst (λ (x : Part). is_among name (ledgers_of x) ≡ true) (some-eq q p h) (and-left (is_among name (ledgers_of q)) (is_unfinished f q) is))
    go false is ih h = let found = ih h in (inr found.0, found.1)

pub with-in : (name : List ℕ) (parts : List Part) (p : Part) → part_with name parts ≡ Some p → In p parts × (is_among name (joined_of p) ≡ true)
with-in name [] p e = absurd (none-eq p e)
with-in name (q ∷ qs) p e = go (is_among name (joined_of q)) refl (with-in name qs p) e
  where
    go : (b : Bool) → is_among name (joined_of q) ≡ b → (part_with name qs ≡ Some p → In p qs × (is_among name (joined_of p) ≡ true)) → cond b (Some q) (part_with name qs) ≡ Some p
        → In p (q ∷ qs) × (is_among name (joined_of p) ≡ true)
    go true is ih h = (inl (sym (some-eq q p h)), subst (λ (x : Part). is_among name (joined_of x) ≡ true) (some-eq q p h) is)
    go false is ih h = let found = ih h in (inr found.0, found.1)

-- it is one of the plan
pub asked-there : (f : FactsOf) (name : List ℕ) (p : Part) → asked_in f name ≡ Some p → In p f.plan.parts
asked-there f name p e = one-of (unfinished_on f name f.plan.parts) (part_with name f.plan.parts) p (In p f.plan.parts) (λ h. (on-in f name f.plan.parts p h).0) (λ h. (with-in name f.plan.parts p h).0) e
