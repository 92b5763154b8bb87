-- A client that has calls holds a chain of a challenged channel, and is found.
use Rattle.std.proofs.Common.{◌≡◌, nat_lt, ℕ, List, [], ◌∷◌, ◌++◌, Bool, true, false, ◌||◌, cond, map, filter, refl, sym, ◌∙◌, ap, subst, true≢false, Contains, ◌<◌, ◌+◌, length, take, get_or}
use Rattle.std.specs.List.{list_any, flat_map}
use Rattle.std.specs.Str.{bytes_eq}
use Rattle.std.proofs.lemmas.List.{append-nil, take_more}
use Rattle.std.proofs.lemmas.List.Concat.{flat_map-append}
use Rattle.std.proofs.lemmas.List.Elements.{Contains-append_left, Contains-append_right}
use Rattle.channel_values.specs.Rules.{top_turn}
use Rattle.call_history.specs.declared.call.Call.{Call}
use Rattle.call_history.specs.declared.call.Call.TheVariants.{Checkpoint}
use Rattle.call_history.specs.declared.held_chain.HeldChain.{HeldChain}
use Rattle.network.specs.Watching.{Watching, watched_row, is_stale, checkpoints}
use Rattle.watchtower.specs.declared.client.Client.{Client}
use Rattle.watchtower.specs.Towers.{is_of}
use Rattle.watchtower.specs.Holders.{holders_of}
use Rattle.watchtower.specs.Holding.{is_open, AreIndexed, AreNoted}
use Rattle.watchtower.specs.Looking.{HasAll, Concerned}
use Rattle.watchtower.proofs.Opening.{same_name, is_self, or-true, and_both}

-- a chain that passes a test, and that it is one of the chains
record Passes (test : HeldChain → Bool) (chains : List HeldChain) : Type 0 where
  held : HeldChain
  passes : test held ≡ true
  there : list_any (is_of held.channel) chains ≡ true

passing : (test : HeldChain → Bool) (chains : List HeldChain) (call : Call) (calls : List Call) → checkpoints test chains ≡ call ∷ calls → Passes test chains
passing test [] call calls is = absurd (clash is)
  where
    clash : [] ≡ call ∷ calls → ⊥
    clash e = cc
passing test (held ∷ chains) call calls is = go (test held) refl (passing test chains call calls) is
  where
    go : (b : Bool) → test held ≡ b → (checkpoints test chains ≡ call ∷ calls → Passes test chains)
        → map (λ (h : HeldChain). Checkpoint h.chain) (cond b (held ∷ filter test chains) (filter test chains)) ≡ call ∷ calls → Passes test (held ∷ chains)
    go true q rest is = record { held = held; passes = q; there = ap (λ b. b || list_any (is_of held.channel) chains) (is_self held.channel) }
    go false q rest is =
        let p = rest is in
        record { held = p.held; passes = p.passes; there = ap (λ b. is_of p.held.channel held || b) p.there ∙ or-true (is_of p.held.channel held) }

in_all : (f : List ℕ → List ℕ) (names : List (List ℕ)) (name : List ℕ) (place : ℕ) → list_any (bytes_eq name) names ≡ true → Contains (f name) place
    → Contains (flat_map f names) place
in_all f [] name place there has = absurd (true≢false (sym there))
in_all f (n ∷ names) name place there has = go (bytes_eq name n) refl (λ t. in_all f names name place t has) there
  where
    go : (b : Bool) → bytes_eq name n ≡ b → (list_any (bytes_eq name) names ≡ true → Contains (flat_map f names) place) → (b || list_any (bytes_eq name) names) ≡ true
        → Contains (f n ++ flat_map f names) place
    go true q rest there = Contains-append_left (f n) (flat_map f names) place (subst (λ m. Contains (f m) place) (same_name name n q) has)
    go false q rest there = Contains-append_right (f n) (flat_map f names) place (rest there)

pub all_concerned : (w : Watching) (clients : List Client) (channels places noted : List (List ℕ)) (all : List ℕ)
    → AreIndexed clients channels places → AreNoted w noted → HasAll all (flat_map (holders_of channels places) noted) → Concerned w clients all
all_concerned w clients channels places noted all indexed known has place c call calls at is =
    let p : Passes (is_stale w) c.chains = passing (is_stale w) c.chains call calls is in
    let stale = and_both (is_open w p.held.channel) (nat_lt (watched_row w.rows p.held.channel).turn (top_turn p.held.chain.states)) p.passes in
    has place
    (in_all (holders_of channels places) noted p.held.channel place (known p.held.channel stale.0) (indexed place c p.held.channel at p.there))

-- one channel more
pub gathered_more : (f : List ℕ → List ℕ) (channels : List (List ℕ)) (i : ℕ) (d : List ℕ) → i < length channels
    → flat_map f (take i channels) ++ f (get_or channels i d) ≡ flat_map f (take (i + 1) channels)
gathered_more f channels i d lt =
    ap (λ l. flat_map f (take i channels) ++ l) (sym (append-nil (f (get_or channels i d))))
    ∙ sym (flat_map-append f (take i channels) (get_or channels i d ∷ []))
    ∙ ap (flat_map f) (sym (take_more channels i d lt))
