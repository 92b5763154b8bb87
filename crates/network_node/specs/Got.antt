-- What a node that lost nothing says of its exit are the shares of the definition just after the command.
use Rattle.std.proofs.Common.{◌≡◌, ℕ, ◌-◌, ◌≤◌, ◌==◌, Bool, true, false, cond, List, [], ◌∷◌, ◌++◌, ◌⊎◌, inl, inr, length, drop, map, refl, sym, ◌∙◌, ap, subst, arith}
use Rattle.std.specs.Prelude.{Option, Some, None}
use Rattle.std.specs.List.{AllByRecursion, flat_map}
use Rattle.std.proofs.Math.Seq.{drop-append_seam}
use Rattle.std.proofs.lemmas.List.{length-append}
use Rattle.channel_values.specs.Digests.{name_of_person}
use Rattle.call_history.specs.History.{Legal}
use Rattle.call_history.specs.declared.entry.Entry.{Entry}
use Rattle.call_history.specs.declared.view.ChannelView.{ChannelView}
use Rattle.channel_safety.proofs.Tests.{eqb-true}
use Rattle.channel_safety.specs.Journals.{In, is_watched}
use Rattle.channel_node.proofs.Bridging.{plays-at}
use Rattle.channel_node.proofs.Standing.{few-suffix}
use Rattle.channel_node.specs.Minds.{Mind}
use Rattle.channel_node.specs.Nodes.{told_of}
use Rattle.channel_node.specs.Places.{Told, AreFew, lines_of, mind_at}
use Rattle.channel_node.specs.Playing.{signing_of, Plays, PlaysEvent}
use Rattle.node_guarantees.proofs.Telling.{places_tell_shares}
use Rattle.node_guarantees.proofs.Unheld.{unheld_is_nothing}
use Rattle.node_guarantees.specs.Orders.{orders_of}
use Rattle.node_guarantees.specs.NodeShareLaws.{IsFront, LacksAsset, IsUnheld}
use Rattle.stage_tables.specs.Stages.{stages}
use Rattle.node_guarantees.proofs.Kept.{few-values}
use Rattle.channel_node.specs.Exiting.{until_exit}
use Rattle.node_guarantees.specs.Gains.{share_known, shares_in, shares_known}
use Rattle.node_guarantees.specs.Commanded.{told}
use Rattle.node_guarantees.specs.Ways.{Numbered, key_of, ways}
use Rattle.node_guarantees.specs.Placed.{seen_at, IsKnownAt, IsNoted, IsPlaced}
use Rattle.share_laws.specs.Places.{share}
use Rattle.support_rules.specs.Real.{real}
use Rattle.node_guarantees.specs.Promised.{past_at, share_after}
use Rattle.node_guarantees.specs.Telling.{amount_then, AreThose, ExitsAreReal}
use Rattle.network_node.specs.Leaving.{EndsWith, ends-with}
use Rattle.network_node.specs.Shares.{is_lost, exits}

-- ---- the amounts

-- of what is noted the amount of an asset is what is known, or no channel held it
module _ (m : Mind) (asset : ℕ) where
  abbrev Noted : List (ℕ × ℕ) → Type 0 → List (ℕ × ℕ) → Type 0
  Noted all Lacks rest = (amount_then all asset ≡ share_known m asset) ⊎ (Lacks × (amount_then all asset ≡ amount_then rest asset))

  noted-of : (held rest : List (ℕ × ℕ)) → Noted (map (λ (x : ℕ × ℕ). (x.0, share_known m x.0)) held ++ rest) (AllByRecursion (LacksAsset asset) held) rest
  noted-of [] rest = inr (tt, refl)
  noted-of (x ∷ held) rest = go (x.0 == asset) refl (noted-of held rest)
    where
      more : List (ℕ × ℕ)
      more = map (λ (y : ℕ × ℕ). (y.0, share_known m y.0)) held ++ rest

      lacking : (x.0 == asset) ≡ false → Noted more (AllByRecursion (LacksAsset asset) held) rest
          → (amount_then more asset ≡ share_known m asset) ⊎ (AllByRecursion (LacksAsset asset) (x ∷ held) × (amount_then more asset ≡ amount_then rest asset))
      lacking e (inl is) = inl is
      lacking e (inr none) = inr ((e, none.0), none.1)

      go : (b : Bool) → (x.0 == asset) ≡ b → Noted more (AllByRecursion (LacksAsset asset) held) rest
          → (cond b (share_known m x.0) (amount_then more asset) ≡ share_known m asset)
          ⊎ (AllByRecursion (LacksAsset asset) (x ∷ held) × (cond b (share_known m x.0) (amount_then more asset) ≡ amount_then rest asset))
      go true e rest-is = inl (ap (share_known m) (eqb-true x.0 asset e))
      go false e rest-is = lacking e rest-is

  noted-in : (views : List ChannelView) → Noted (flat_map (shares_in m) views) (IsUnheld asset views) []
  noted-in [] = inr (tt, refl)
  noted-in (v ∷ views) = first (noted-of v.held (flat_map (shares_in m) views)) (noted-in views)
    where
      all : List (ℕ × ℕ)
      all = shares_in m v ++ flat_map (shares_in m) views

      after : AllByRecursion (LacksAsset asset) v.held → amount_then all asset ≡ amount_then (flat_map (shares_in m) views) asset
          → Noted (flat_map (shares_in m) views) (IsUnheld asset views) [] → Noted all (IsUnheld asset (v ∷ views)) []
      after lacks same (inl is) = inl (same ∙ is)
      after lacks same (inr none) = inr ((lacks, none.0), same ∙ none.1)

      first : Noted all (AllByRecursion (LacksAsset asset) v.held) (flat_map (shares_in m) views)
          → Noted (flat_map (shares_in m) views) (IsUnheld asset views) [] → Noted all (IsUnheld asset (v ∷ views)) []
      first (inl is) others = inl is
      first (inr none) others = after none.0 none.1 others

-- ---- the place

module _ (h : List Entry) (p : Numbered) (legal : Legal real h) (few : AreFew h) (plays : Plays stages real (signing_of p.node.signer) h (told_of p.node)) where
  abbrev key : List ℕ
  key = key_of p.node.signer

  -- what was noted at a place is the share there
  known-there : (amounts : List (ℕ × ℕ)) (front : List Told) → until_exit (told_of p.node) ≡ Some front → IsKnownAt h key amounts front
      → (asset : ℕ) → amount_then amounts asset ≡ share_after h key (told p) front asset
  unfolding signing_of
  known-there amounts front found known asset =
      ap (λ (xs : List (ℕ × ℕ)). amount_then xs asset) known.shares ∙ either (noted-in m asset m.view.channels)
      ∙ ap (λ (past : List Entry). share real (name_of_person key) (orders_of real key (told p)) past (lines_of key front) asset) (sym past-is)
    where
      m : Mind
      m = mind_at real key known.past front

      ends : EndsWith (told_of p.node) front
      ends = ends-with (told_of p.node) front found

      seen : length known.past ≡ ends.newest.seen
      seen = known.seen ∙ ap seen_at ends.is

      event : PlaysEvent stages real (signing_of p.node.signer) h ends.newest ends.older
      event =
          plays-at stages real (signing_of p.node.signer) h ends.newer ends.newest ends.older
          (subst (Plays stages real (signing_of p.node.signer) h) (ends.whole ∙ ap (λ (xs : List Told). ends.newer ++ xs) ends.is) plays)

      was : (y : Told) → In y (ends.newest ∷ ends.older) → is_watched y.deed ≡ false → y.seen ≤ length known.past
      was y (inl same) w = let a : y.seen ≡ ends.newest.seen = ap (λ (z : Told). z.seen) same in omega (arith, seen)
      was y (inr i) w = let a : y.seen ≤ ends.newest.seen = event.rising y i w in omega (arith, seen)

      at : IsFront h (told_of p.node) known.past front
      at = record {
        later = known.later;
        newer = ends.newer;
        entries = known.split;
        events = ends.whole;
        few = few-suffix known.later known.past (subst AreFew known.split few);
        before = λ y i w. was y (subst (In y) ends.is i) w;
      }

      either : (amount_then (shares_known m) asset ≡ share_known m asset) ⊎ (IsUnheld asset m.view.channels × (amount_then (shares_known m) asset ≡ 0))
          → amount_then (shares_known m) asset ≡ share real (name_of_person key) (orders_of real key (told p)) known.past (lines_of key front) asset
      either (inl same) = same ∙ (places_tell_shares stages real (signing_of p.node.signer) h (told_of p.node) known.past front legal plays at).shares asset
      either (inr none) = none.1 ∙ sym (unheld_is_nothing stages real (signing_of p.node.signer) h (told_of p.node) known.past front legal plays at asset none.0)

      long : length h - ends.newest.seen ≡ length known.later
      long = omega (arith, ap length known.split, length-append known.later known.past, seen)

      past-is : past_at h front ≡ known.past
      past-is =
          ap (past_at h) ends.is ∙ ap (λ (n : ℕ). drop n h) long
          ∙ ap (drop (length known.later)) known.split ∙ drop-append_seam known.later known.past

  noted-there : (o : Option (List (ℕ × ℕ))) (events : Option (List Told)) → until_exit (told_of p.node) ≡ events → IsNoted h key o events
      → AreThose (share_after h key (told p)) o events
  noted-there None None e noted = tt
  noted-there (Some amounts) (Some front) e noted = known-there amounts front e noted
  noted-there None (Some front) e noted = absurd noted
  noted-there (Some amounts) None e noted = absurd noted

pub nodes_got : ExitsAreReal ways IsPlaced is_lost exits told
nodes_got h p legal valid placed kept =
    noted-there h p legal (few-values h valid) (placed.stands (few-values h valid)).plays p.exits (until_exit (told_of p.node)) refl
    (placed.noted (few-values h valid) kept)
