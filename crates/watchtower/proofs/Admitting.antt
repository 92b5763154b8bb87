-- Clients by name and by place, and who holds a chain once it was handed.
use Rattle.std.proofs.Common.{◌≡◌, ◌<◌, ◌+◌, ℕ, zero, suc, List, [], ◌∷◌, ◌++◌, length, get_or, set, Bool, true, false, not, ◌||◌, ◌⊎◌, inl, inr, ⊎_elim, cond, Option, Some, None, position, map, refl, sym, ◌∙◌, ap, subst, arith, true≢false, slice_get, Contains}
use Rattle.std.specs.List.{list_any, position_or_len}
use Rattle.std.specs.Str.{bytes_eq}
use Rattle.call_history.specs.declared.held_chain.HeldChain.{HeldChain}
use Rattle.watchtower.specs.declared.client.Client.{Client}
use Rattle.watchtower.specs.Towers.{chains_of, is_admitted, with_chains, newcomer, admitted, is_of, replaced, handed, hand_fault, chain_fault, fault_among}
use Rattle.watchtower.specs.declared.fault.HandFault.TheVariants as faults
use Rattle.channel_values.specs.Rules.{Rules}
use Rattle.watchtower.specs.Holders.{holders_of, KeepsHolders}
use Rattle.watchtower.specs.Holding.{AreIndexed}
use Rattle.watchtower.proofs.Opening.{same_name}
use Rattle.watchtower.proofs.Places.{found_at, not_found}

-- ---- by name and by place

pub admitted_by_name : (name : List ℕ) (clients : List Client) → list_any (bytes_eq name) (map (λ c. c.name) clients) ≡ is_admitted name clients
admitted_by_name name [] = refl
admitted_by_name name (c ∷ cs) = ap (λ b. bytes_eq name c.name || b) (admitted_by_name name cs)

pub no_chains : (name : List ℕ) (clients : List Client) → is_admitted name clients ≡ false → chains_of name clients ≡ None
no_chains name [] absent = refl
no_chains name (c ∷ cs) absent = go (bytes_eq name c.name) refl (no_chains name cs) absent
  where
    go : (b : Bool) → bytes_eq name c.name ≡ b → (is_admitted name cs ≡ false → chains_of name cs ≡ None) → (b || is_admitted name cs) ≡ false
        → cond (bytes_eq name c.name) (Some c.chains) (chains_of name cs) ≡ None
    go true q rest absent = absurd (true≢false absent)
    go false q rest absent = ap (λ b. cond b (Some c.chains) (chains_of name cs)) q ∙ rest absent

abbrev place_in : List ℕ → List Client → ℕ
place_in name clients = position_or_len (bytes_eq name) (map (λ c. c.name) clients)

chains_there : (name : List ℕ) (clients : List Client) (d : Client) → place_in name clients < length clients
    → chains_of name clients ≡ Some (get_or clients (place_in name clients) d).chains
chains_there name [] d lt = absurd (omega (arith, lt))
chains_there name (c ∷ cs) d lt = go (bytes_eq name c.name) refl (chains_there name cs d) lt
  where
    go : (b : Bool) → bytes_eq name c.name ≡ b → (place_in name cs < length cs → chains_of name cs ≡ Some (get_or cs (place_in name cs) d).chains)
        → cond (not b) (1 + place_in name cs) 0 < suc (length cs)
        → cond (bytes_eq name c.name) (Some c.chains) (chains_of name cs) ≡ Some (get_or (c ∷ cs) (cond (not (bytes_eq name c.name)) (1 + place_in name cs) 0) d).chains
    go true q rest lt =
        subst (λ b. cond b (Some c.chains) (chains_of name cs) ≡ Some (get_or (c ∷ cs) (cond (not b) (1 + place_in name cs) 0) d).chains) (sym q) refl
    go false q rest lt =
        subst (λ b. cond b (Some c.chains) (chains_of name cs) ≡ Some (get_or (c ∷ cs) (cond (not b) (1 + place_in name cs) 0) d).chains) (sym q)
        (let next : 1 + place_in name cs ≡ suc (place_in name cs) = omega arith in rest (omega (arith, lt)) ∙ ap (λ k. Some (get_or (c ∷ cs) k d).chains) (sym next))

abbrev at_place : (List HeldChain → List HeldChain) → List Client → Client → ℕ → List Client
at_place change clients d k = set clients k (record (get_or clients k d) { chains = change (get_or clients k d).chains })

changed_there : (name : List ℕ) (change : List HeldChain → List HeldChain) (clients : List Client) (d : Client) → place_in name clients < length clients
    → at_place change clients d (place_in name clients) ≡ with_chains name change clients
changed_there name change [] d lt = absurd (omega (arith, lt))
changed_there name change (c ∷ cs) d lt = go (bytes_eq name c.name) refl (changed_there name change cs d) lt
  where
    go : (b : Bool) → bytes_eq name c.name ≡ b
        → (place_in name cs < length cs → at_place change cs d (place_in name cs) ≡ with_chains name change cs)
        → cond (not b) (1 + place_in name cs) 0 < suc (length cs)
        → at_place change (c ∷ cs) d (cond (not (bytes_eq name c.name)) (1 + place_in name cs) 0) ≡ cond (bytes_eq name c.name) (record c { chains = change c.chains } ∷ cs) (c ∷ with_chains name change cs)
    go true q rest lt = subst (λ b. at_place change (c ∷ cs) d (cond (not b) (1 + place_in name cs) 0) ≡ cond b (record c { chains = change c.chains } ∷ cs) (c ∷ with_chains name change cs)) (sym q) refl
    go false q rest lt =
        subst (λ b. at_place change (c ∷ cs) d (cond (not b) (1 + place_in name cs) 0) ≡ cond b (record c { chains = change c.chains } ∷ cs) (c ∷ with_chains name change cs)) (sym q)
        (let next : 1 + place_in name cs ≡ suc (place_in name cs) = omega arith in ap (at_place change (c ∷ cs) d) next ∙ ap (λ (l : List Client). c ∷ l) (rest (omega (arith, lt))))

same_length : (clients : List Client) → length (map (λ c. c.name) clients) ≡ length clients
same_length [] = refl
same_length (c ∷ cs) = ap suc (same_length cs)

pub place_within : (name : List ℕ) (clients : List Client) (place : ℕ) → position (bytes_eq name) (map (λ c. c.name) clients) ≡ Some place → place < length clients
place_within name clients place at = let f = found_at (bytes_eq name) (map (λ c. c.name) clients) place at in let n = same_length clients in omega (arith, f.1, n)

pub chains_at : (name : List ℕ) (clients : List Client) (place : ℕ) (d : Client) → position (bytes_eq name) (map (λ c. c.name) clients) ≡ Some place
    → chains_of name clients ≡ Some (get_or clients place d).chains
chains_at name clients place d at =
    let f = found_at (bytes_eq name) (map (λ c. c.name) clients) place at in
    let lt : place_in name clients < length clients = subst (λ k. k < length clients) (sym f.0) (place_within name clients place at) in
    chains_there name clients d lt ∙ ap (λ k. Some (get_or clients k d).chains) f.0

pub no_chains_at : (name : List ℕ) (clients : List Client) → position (bytes_eq name) (map (λ c. c.name) clients) ≡ None → chains_of name clients ≡ None
no_chains_at name clients none = no_chains name clients (sym (admitted_by_name name clients) ∙ not_found (bytes_eq name) (map (λ c. c.name) clients) none)

pub changed_at : (name : List ℕ) (change : List HeldChain → List HeldChain) (clients : List Client) (place : ℕ) (d : Client) → position (bytes_eq name) (map (λ c. c.name) clients) ≡ Some place
    → set clients place (record (get_or clients place d) { chains = change (get_or clients place d).chains }) ≡ with_chains name change clients
changed_at name change clients place d at =
    let f = found_at (bytes_eq name) (map (λ c. c.name) clients) place at in
    let lt : place_in name clients < length clients = subst (λ k. k < length clients) (sym f.0) (place_within name clients place at) in
    ap (λ k. set clients k (record (get_or clients k d) { chains = change (get_or clients k d).chains })) (sym f.0) ∙ changed_there name change clients d lt

pub names_stay : (name : List ℕ) (change : List HeldChain → List HeldChain) (clients : List Client) → map (λ c. c.name) (with_chains name change clients) ≡ map (λ c. c.name) clients
names_stay name change [] = refl
names_stay name change (c ∷ cs) = go (bytes_eq name c.name) (names_stay name change cs)
  where
    go : (b : Bool) → map (λ (x : Client). x.name) (with_chains name change cs) ≡ map (λ (x : Client). x.name) cs
        → map (λ (x : Client). x.name) (cond b (record c { chains = change c.chains } ∷ cs) (c ∷ with_chains name change cs)) ≡ c.name ∷ map (λ (x : Client). x.name) cs
    go true rest = refl
    go false rest = ap (λ (l : List (List ℕ)). c.name ∷ l) rest

-- ---- holders

got_push : {X : Type 0} (xs : List X) (new x : X) (i : ℕ) → slice_get (xs ++ new ∷ []) i ≡ Some x → (slice_get xs i ≡ Some x) ⊎ (new ≡ x)
got_push [] new x zero at = inr cc
got_push [] new x (suc i) at = absurd (clash at)
  where
    clash : None ≡ Some x → ⊥
    clash e = cc
got_push (y ∷ ys) new x zero at = inl at
got_push (y ∷ ys) new x (suc i) at = got_push ys new x i at

pub newcomer_indexed : (clients : List Client) (channels places : List (List ℕ)) (name : List ℕ) → AreIndexed clients channels places → AreIndexed (clients ++ newcomer name ∷ []) channels places
newcomer_indexed clients channels places name all place c channel at there =
    ⊎_elim (λ old. all place c channel old there)
    (λ (new : newcomer name ≡ c). absurd (true≢false (sym there ∙ ap (λ (x : Client). list_any (is_of channel) x.chains) (sym new))))
    (got_push clients (newcomer name) c place at)

got_set : {X : Type 0} (xs : List X) (k : ℕ) (new x : X) (i : ℕ) → slice_get (set xs k new) i ≡ Some x → (slice_get xs i ≡ Some x) ⊎ ((i ≡ k) × (new ≡ x))
got_set [] k new x i at = inl at
got_set (y ∷ ys) zero new x zero at = inr (refl, cc)
got_set (y ∷ ys) zero new x (suc i) at = inl at
got_set (y ∷ ys) (suc k) new x zero at = inl at
got_set (y ∷ ys) (suc k) new x (suc i) at = ⊎_elim (λ old. inl old) (λ now. inr (ap suc now.0, now.1)) (got_set ys k new x i at)

any_push : {X : Type 0} (p : X → Bool) (xs : List X) (y : X) → list_any p (xs ++ y ∷ []) ≡ true → (p y ≡ true) ⊎ (list_any p xs ≡ true)
any_push p [] y has = go (p y) refl has
  where
    go : (b : Bool) → p y ≡ b → (b || false) ≡ true → (p y ≡ true) ⊎ (false ≡ true)
    go true q has = inl q
    go false q has = absurd (true≢false (sym has))
any_push p (x ∷ xs) y has = go (p x) refl (any_push p xs y) has
  where
    go : (b : Bool) → p x ≡ b → (list_any p (xs ++ y ∷ []) ≡ true → (p y ≡ true) ⊎ (list_any p xs ≡ true)) → (b || list_any p (xs ++ y ∷ [])) ≡ true
        → (p y ≡ true) ⊎ ((p x || list_any p xs) ≡ true)
    go true q rest has = inr (ap (λ b. b || list_any p xs) q)
    go false q rest has = ⊎_elim (λ new. inl new) (λ old. inr (ap (λ b. b || list_any p xs) q ∙ old)) (rest has)

any_set : {X : Type 0} (p : X → Bool) (xs : List X) (k : ℕ) (y : X) → list_any p (set xs k y) ≡ true → (p y ≡ true) ⊎ (list_any p xs ≡ true)
any_set p [] k y has = inr has
any_set p (x ∷ xs) zero y has = go (p y) refl has
  where
    more : (b : Bool) → (b || true) ≡ true
    more true = refl
    more false = refl

    go : (b : Bool) → p y ≡ b → (b || list_any p xs) ≡ true → (p y ≡ true) ⊎ ((p x || list_any p xs) ≡ true)
    go true q has = inl q
    go false q has = inr (ap (λ b. p x || b) has ∙ more (p x))
any_set p (x ∷ xs) (suc k) y has = go (p x) refl (any_set p xs k y) has
  where
    go : (b : Bool) → p x ≡ b → (list_any p (set xs k y) ≡ true → (p y ≡ true) ⊎ (list_any p xs ≡ true)) → (b || list_any p (set xs k y)) ≡ true
        → (p y ≡ true) ⊎ ((p x || list_any p xs) ≡ true)
    go true q rest has = inr (ap (λ b. b || list_any p xs) q)
    go false q rest has = ⊎_elim (λ new. inl new) (λ old. inr (ap (λ b. b || list_any p xs) q ∙ old)) (rest has)

handed_of : (new : HeldChain) (chains : List HeldChain) (channel : List ℕ) → list_any (is_of channel) (handed new chains) ≡ true → (is_of channel new ≡ true) ⊎ (list_any (is_of channel) chains ≡ true)
handed_of new chains channel has = go (position (is_of new.channel) chains) has
  where
    go : (o : Option ℕ) → list_any (is_of channel) (replaced new chains o) ≡ true → (is_of channel new ≡ true) ⊎ (list_any (is_of channel) chains ≡ true)
    go None has = any_push (is_of channel) chains new has
    go (Some place) has = any_set (is_of channel) chains place new has

-- with a chain more at a place, and its holder
pub handed_indexed : (clients : List Client) (channels places channels' places' : List (List ℕ)) (k : ℕ) (new : HeldChain) (d : Client) → k < length clients
    → AreIndexed clients channels places → KeepsHolders channels places channels' places' → Contains (holders_of channels' places' new.channel) k
    → AreIndexed (set clients k (record (get_or clients k d) { chains = handed new (get_or clients k d).chains })) channels' places'
handed_indexed clients channels places channels' places' k new d lt all keeps held place c channel at there =
    ⊎_elim (λ old. keeps channel place (all place c channel old there))
    (λ (now : (place ≡ k) × (record (get_or clients k d) { chains = handed new (get_or clients k d).chains } ≡ c)).
    ⊎_elim
    (λ (here : is_of channel new ≡ true).
    subst (λ (n : ℕ). Contains (holders_of channels' places' channel) n) (sym now.0)
    (subst (λ n. Contains (holders_of channels' places' n) k) (same_name new.channel channel here) held))
    (λ (before : list_any (is_of channel) (get_or clients k d).chains ≡ true).
    keeps channel place
    (subst (λ (n : ℕ). Contains (holders_of channels places channel) n) (sym now.0) (all k (get_or clients k d) channel (got_or clients k d lt) before)))
    (handed_of new (get_or clients k d).chains channel (ap (λ (x : Client). list_any (is_of channel) x.chains) now.1 ∙ there)))
    (got_set clients k (record (get_or clients k d) { chains = handed new (get_or clients k d).chains }) c place at)
  where
    got_or : (cs : List Client) (i : ℕ) (d : Client) → i < length cs → slice_get cs i ≡ Some (get_or cs i d)
    got_or [] i d lt = absurd (omega (arith, lt))
    got_or (c ∷ cs) zero d lt = refl
    got_or (c ∷ cs) (suc i) d lt = got_or cs i d (omega (arith, lt))

-- ---- at calls

pub was_admitted : (name : List ℕ) (names : List (List ℕ)) (clients : List Client) (b : Bool) → names ≡ map (λ c. c.name) clients → list_any (bytes_eq name) names ≡ b → is_admitted name clients ≡ b
was_admitted name names clients b same has = sym (admitted_by_name name clients) ∙ ap (list_any (bytes_eq name)) (sym same) ∙ has

pub admitted_old : (name : List ℕ) (clients : List Client) → is_admitted name clients ≡ true → admitted name clients ≡ clients
admitted_old name clients there = ap (λ b. cond b clients (clients ++ newcomer name ∷ [])) there

pub admitted_new : (name : List ℕ) (clients : List Client) → is_admitted name clients ≡ false → admitted name clients ≡ clients ++ newcomer name ∷ []
admitted_new name clients absent = ap (λ b. cond b clients (clients ++ newcomer name ∷ [])) absent

pub names_behind : (clients : List Client) (new : Client) → map (λ c. c.name) (clients ++ new ∷ []) ≡ map (λ c. c.name) clients ++ new.name ∷ []
names_behind [] new = refl
names_behind (c ∷ cs) new = ap (λ (l : List (List ℕ)). c.name ∷ l) (names_behind cs new)

pub indexed_after : (name : List ℕ) (clients : List Client) (channels places : List (List ℕ)) → AreIndexed clients channels places → AreIndexed (admitted name clients) channels places
indexed_after name clients channels places all = go (is_admitted name clients)
  where
    go : (b : Bool) → AreIndexed (cond b clients (clients ++ newcomer name ∷ [])) channels places
    go true = all
    go false = newcomer_indexed clients channels places name all

-- ---- at a hand

pub fault_at : (r : Rules) (name : List ℕ) (names : List (List ℕ)) (clients : List Client) (place : ℕ) (client : Client) (new : HeldChain) → names ≡ map (λ c. c.name) clients
    → position (bytes_eq name) names ≡ Some place → client ≡ get_or clients place client → hand_fault r name new clients ≡ chain_fault r new client.chains
fault_at r name names clients place client new same at is =
    let found : position (bytes_eq name) (map (λ c. c.name) clients) ≡ Some place = ap (position (bytes_eq name)) (sym same) ∙ at in
    ap (fault_among r new) (chains_at name clients place client found ∙ ap (λ (c : Client). Some c.chains) (sym is))

pub no_client : (r : Rules) (name : List ℕ) (names : List (List ℕ)) (clients : List Client) (new : HeldChain) → names ≡ map (λ c. c.name) clients
    → position (bytes_eq name) names ≡ None → hand_fault r name new clients ≡ Some faults.UnknownClient
no_client r name names clients new same none = ap (fault_among r new) (no_chains_at name clients (ap (position (bytes_eq name)) (sym same) ∙ none))

shape : (clients : List Client) (place : ℕ) (x : Client) (y : List HeldChain) (new : HeldChain) → x ≡ get_or clients place x → y ≡ handed new x.chains
    → set clients place (record { name = x.name; chains = y }) ≡ set clients place (record (get_or clients place x) { chains = handed new (get_or clients place x).chains })
shape clients place x y new is put =
    ap (λ (l : List HeldChain). set clients place (record { name = x.name; chains = l })) put
    ∙ ap (λ (z : Client). set clients place (record z { chains = handed new z.chains })) is

pub hand_at : (name : List ℕ) (names : List (List ℕ)) (clients : List Client) (place : ℕ) (x : Client) (y : List HeldChain) (new : HeldChain) → names ≡ map (λ c. c.name) clients
    → position (bytes_eq name) names ≡ Some place → x ≡ get_or clients place x → y ≡ handed new x.chains
    → set clients place (record { name = x.name; chains = y }) ≡ with_chains name (handed new) clients
hand_at name names clients place x y new same at is put =
    shape clients place x y new is put
    ∙ changed_at name (handed new) clients place x (ap (position (bytes_eq name)) (sym same) ∙ at)

pub hand_names : (name : List ℕ) (names : List (List ℕ)) (clients : List Client) (place : ℕ) (x : Client) (y : List HeldChain) (new : HeldChain) → names ≡ map (λ c. c.name) clients
    → position (bytes_eq name) names ≡ Some place → x ≡ get_or clients place x → y ≡ handed new x.chains
    → names ≡ map (λ c. c.name) (set clients place (record { name = x.name; chains = y }))
hand_names name names clients place x y new same at is put =
    same ∙ sym (names_stay name (handed new) clients) ∙ ap (map (λ (c : Client). c.name)) (sym (hand_at name names clients place x y new same at is put))

pub hand_indexed : (name : List ℕ) (names : List (List ℕ)) (clients : List Client) (place : ℕ) (x : Client) (y : List HeldChain) (new : HeldChain)
    (channels places channels' places' : List (List ℕ)) → names ≡ map (λ c. c.name) clients
    → position (bytes_eq name) names ≡ Some place → x ≡ get_or clients place x → y ≡ handed new x.chains
    → AreIndexed clients channels places → KeepsHolders channels places channels' places' → Contains (holders_of channels' places' new.channel) place
    → AreIndexed (set clients place (record { name = x.name; chains = y })) channels' places'
hand_indexed name names clients place x y new channels places channels' places' same at is put all keeps held =
    subst (λ cs. AreIndexed cs channels' places') (sym (shape clients place x y new is put))
    (handed_indexed clients channels places channels' places' place new x (place_within name clients place (ap (position (bytes_eq name)) (sym same) ∙ at)) all keeps held)

pub kept_indexed : (clients : List Client) (channels places channels' places' : List (List ℕ)) → AreIndexed clients channels places → KeepsHolders channels places channels' places' → AreIndexed clients channels' places'
kept_indexed clients channels places channels' places' all keeps place c channel at there = keeps channel place (all place c channel at there)

client_back : (cs : List Client) (i : ℕ) (d : Client) → set cs i (get_or cs i d) ≡ cs
client_back [] i d = refl
client_back (c ∷ cs) zero d = refl
client_back (c ∷ cs) (suc i) d = ap (λ (l : List Client). c ∷ l) (client_back cs i d)

pub back_indexed : (clients : List Client) (place : ℕ) (x : Client) (y : List HeldChain) (channels places channels' places' : List (List ℕ))
    → x ≡ get_or clients place x → y ≡ x.chains → AreIndexed clients channels places → KeepsHolders channels places channels' places'
    → AreIndexed (set clients place (record { name = x.name; chains = y })) channels' places'
back_indexed clients place x y channels places channels' places' is same all keeps =
    let back : set clients place (record { name = x.name; chains = y }) ≡ clients =
    ap (λ (l : List HeldChain). set clients place (record { name = x.name; chains = l })) same ∙ ap (set clients place) is ∙ client_back clients place x in
    subst (λ cs. AreIndexed cs channels' places') (sym back) (kept_indexed clients channels places channels' places' all keeps)
