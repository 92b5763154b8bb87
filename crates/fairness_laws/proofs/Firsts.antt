-- Of the known states of a node each is the first of its channel, which its person joined.
use Rattle.std.proofs.Common.{◌≡◌, ℕ, false, List, [], ◌∷◌, ◌++◌, inl, inr, refl, sym, ◌∙◌, ap, subst}
use Rattle.std.specs.Prelude.{Option, Some, None, map, flat_map}
use Rattle.std.specs.Str.{bytes_eq}
use Rattle.channel_values.specs.Parts.{FixedParts, StateParts}
use Rattle.channel_safety.proofs.Tests.{cond-true}
use Rattle.call_history.specs.Flows.{is_among}
use Rattle.call_history.specs.declared.entry.Entry.{Entry}
use Rattle.call_history.specs.declared.held_chain.Known.{Known}
use Rattle.channel_store.specs.Keeping.{known_last, known_state, named}
use Rattle.channel_store.specs.declared.kept.Kept.{Kept}
use Rattle.fairness_laws.proofs.Joining.{HasJoined, own-joined}
use Rattle.fairness_laws.proofs.Lists.{still-there}
use Rattle.fairness_laws.proofs.Plan.Names.{in-among}
use Rattle.fairness_laws.proofs.Plan.Places.{grown-there}
use Rattle.fairness_laws.specs.PaymentLaws.{At}
use Rattle.fairness_laws.specs.PlanSettings.{IsFair}
use Rattle.run_record.specs.Plans.{joined, without, firsts}
use Rattle.channel_safety.proofs.Members.{In-map, In-flat_map, mapped}
use Rattle.channel_safety.proofs.Members as members
use Rattle.channel_safety.specs.Journals.{In}
use Rattle.channel_node.specs.Minds.{Mind, facts_of}
use Rattle.channel_node.specs.Places.{Told, lines_of, mind_at}
use Rattle.channel_node.specs.Playing.{Signing}
use Rattle.node_guarantees.proofs.Apart.{Apart, names_of}
use Rattle.node_guarantees.proofs.Growing.{channels_told, Grows}
use Rattle.node_guarantees.proofs.Keeping.{all-names}
use Rattle.share_laws.specs.Places.{channels}
use Rattle.support_rules.specs.Real.{real}
use Rattle.funding_plans.specs.Parts.{joined_of}

-- ---- of what is kept

-- a known state is of a channel that is kept
pub record IsKnownOf (kept : List Kept) (k : Known) : Type 0 where
  pub item : Kept
  pub there : In item kept
  pub is_named : item.channel ≡ k.channel
  pub last : known_last item ≡ Some k.last

pub kept-known : (kept : List Kept) (k : Known) → In k (flat_map known_state kept) → IsKnownOf kept k
kept-known kept k i = let j = members.joined known_state k kept i in by j.from j.there (known_last j.from) refl j.is
  where
    by : (x : Kept) → In x kept → (o : Option StateParts) → known_last x ≡ o → In k (named x.channel o) → IsKnownOf kept k
    by x there None e j = absurd j
    by x there (Some last) e (inl is) = record { item = x; there = there; is_named = ap (λ (y : Known). y.channel) (sym is); last = e ∙ ap (λ (y : Known). Some y.last) (sym is) }
    by x there (Some last) e (inr j) = absurd j

-- those of channels that are apart are
pub known-apart : (kept : List Kept) → Apart (names_of kept) → Apart (map (λ (k : Known). k.channel) (flat_map known_state kept))
known-apart [] apart = tt
known-apart (x ∷ kept) apart = go (known_last x) (known-apart kept apart.1)
  where
    differ : (n : List ℕ) → In n (map (λ (k : Known). k.channel) (flat_map known_state kept)) → bytes_eq x.channel n ≡ false
    differ n i =
        let y = mapped (λ (k : Known). k.channel) n (flat_map known_state kept) i in
        let z = kept-known kept y.from y.there in
        ap (bytes_eq x.channel) (y.is ∙ sym z.is_named) ∙ apart.0 z.item.channel (In-map (λ (k : Kept). k.channel) z.item kept z.there)

    go : (o : Option StateParts) → Apart (map (λ (k : Known). k.channel) (flat_map known_state kept)) → Apart (map (λ (k : Known). k.channel) (named x.channel o ++ flat_map known_state kept))
    go None rest = rest
    go (Some last) rest = (differ, rest)

-- where each is among these names all are first
firsts-are : (kept : List Kept) (names : List (List ℕ)) → Apart (names_of kept) → ((x : Kept) → In x kept → In x.channel names)
    → firsts names (flat_map known_state kept) ≡ flat_map known_state kept
firsts-are [] names apart those = refl
firsts-are (x ∷ kept) names apart those = go (known_last x) (λ ns all. firsts-are kept ns apart.1 all)
  where
    go : (o : Option StateParts) → ((ns : List (List ℕ)) → ((y : Kept) → In y kept → In y.channel ns) → firsts ns (flat_map known_state kept) ≡ flat_map known_state kept)
        → firsts names (named x.channel o ++ flat_map known_state kept) ≡ named x.channel o ++ flat_map known_state kept
    go None rest = rest names (λ y i. those y (inr i))
    go (Some last) rest =
        let k : Known = record { channel = x.channel; last = last } in
        cond-true (is_among x.channel names) (k ∷ firsts (without x.channel names) (flat_map known_state kept)) (firsts names (flat_map known_state kept))
        (in-among x.channel names (those x (inl refl)))
        ∙ ap (λ (ks : List Known). k ∷ ks)
        (rest (without x.channel names) (λ y i. still-there x.channel y.channel names (those y (inr i)) (apart.0 y.channel (In-map (λ (z : Kept). z.channel) y kept i))))

-- ---- a place

module _ (s : Signing) (h : List Entry) (journal : List Told) (fair : IsFair s h journal) (past : List Entry) (front : List Told) (at : At s h journal past front) where
  abbrev m : Mind
  m = mind_at real s.key past front

  grown : Grows real s.key front m
  grown = grown-there s h journal fair.nodes past front at.front_is

  names-are : names_of m.kept ≡ map real.named (channels_told s.key front)
  names-are = all-names real (lines_of s.key front) (channels_told s.key front) m.kept grown.all

  pub kept-apart : Apart (names_of m.kept)
  kept-apart = subst Apart (sym names-are) grown.apart

  -- what is kept is of an own channel
  pub record IsOfOwn (x : Kept) : Type 0 where
    pub fixed : FixedParts
    pub there : In fixed (channels (lines_of s.key front))
    pub is_named : real.named fixed ≡ x.channel

  pub kept-own : (x : Kept) → In x m.kept → IsOfOwn x
  kept-own x i =
      let y = mapped real.named x.channel (channels_told s.key front) (subst (In x.channel) names-are (In-map (λ (z : Kept). z.channel) x m.kept i)) in
      record { fixed = y.from; there = y.there; is_named = sym y.is }

  pub kept-joined : (x : Kept) → In x m.kept → HasJoined m.parts x.channel
  kept-joined x i =
      let f = kept-own x i in
      subst (HasJoined m.parts) f.is_named (own-joined s h journal fair past front at f.fixed f.there)

  pub all-first : firsts (joined m.parts) (facts_of m).known ≡ (facts_of m).known
  all-first =
      firsts-are m.kept (joined m.parts) kept-apart
      (λ x i. (let j = kept-joined x i in In-flat_map joined_of x.channel j.part m.parts j.there j.joins))
