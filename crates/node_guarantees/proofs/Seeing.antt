-- What a view and a store say of each channel is what its place has, so they determine the share.
use Rattle.std.proofs.Common.{◌≡◌, ℕ, Bool, true, false, cond, List, [], ◌∷◌, ◌++◌, refl, sym, ◌∙◌, ap}
use Rattle.std.specs.Prelude.{Option, Some, None}
use Rattle.std.specs.List.{flat_map}
use Rattle.std.specs.Option.{option_map}
use Rattle.std.proofs.lemmas.List.{append-nil, append_assoc}
use Rattle.channel_values.specs.Parts.{FixedParts, StateParts}
use Rattle.channel_values.specs.declared.chain.Signed.{Signed}
use Rattle.channel_values.specs.declared.value.AssetOutcome.{AssetOutcome}
use Rattle.call_history.specs.Mode.{mode_at, is_final}
use Rattle.channel_values.specs.Rules.{Rules}
use Rattle.call_history.specs.History.{mode, row, rest_of_channel, paid_to}
use Rattle.call_history.specs.Marked.{Marked, marked_of, is_supported}
use Rattle.call_history.specs.declared.entry.Entry.{Entry}
use Rattle.call_history.specs.declared.held_chain.Known.{Known}
use Rattle.call_history.specs.declared.view.ChannelView.{ChannelView}
use Rattle.call_history.specs.declared.view.WorldView.{WorldView}
use Rattle.channel_safety.specs.Journals.{Line}
use Rattle.history_view.specs.Views.{view_of}
use Rattle.history_view.specs.Standing.{KnowsChannel, StandsFor}
use Rattle.channel_store.specs.Keeping.{is_held, named, known_last, known_state}
use Rattle.channel_store.specs.declared.kept.Kept.{Kept}
use Rattle.channel_store.proofs.Good.{held_is}
use Rattle.funding_plans.specs.declared.plan.Part.{Part}
use Rattle.share_laws.specs.Books.{Counting}
use Rattle.share_laws.specs.Share.{share_of}
use Rattle.share_laws.specs.Funded.{is_funded}
use Rattle.share_laws.specs.Places as places
use Rattle.share_laws.specs.Places.{Order, plan, channels, possible_if, possible_after, last_made, possible, counting_of, counting_among, counting, balances, share}
use Rattle.plan_share.specs.Seen.{held_seen, possible_seen, counting_seen, share_seen, is_funded_seen}
use Rattle.node_guarantees.specs.ViewLaws.{IsKeptAt, AreKeptAt, ViewsTellShares}
use mathlib.Core.Path.{fun_ext}

seen-append : (w : WorldView) (xs ys : List Known) → counting_seen w (xs ++ ys) ≡ counting_seen w xs ++ counting_seen w ys
seen-append w [] ys = refl
seen-append w (x ∷ xs) ys =
    ap (λ (ks : List Counting). one ++ ks) (seen-append w xs ys) ∙ sym (append_assoc one (counting_seen w xs) (counting_seen w ys))
  where
    one : List Counting
    one = counting_of x.channel (possible_seen w.now (view_of w.channels x.channel) x.last)

module _ (r : Rules) (past : List Entry) (front : List Line) (w : WorldView) (stands : StandsFor r past w) where
  -- what is known of a channel says what it can end with
  possible-is : (channel : List ℕ) (last : StateParts) →
      possible_seen w.now (view_of w.channels channel) last ≡ possible_if (is_final (mode r channel past)) (rest_of_channel r channel past) last
  possible-is channel last =
      ap (λ (d : Option ℕ). possible_if (is_final (mode_at d w.now)) v.rest last) knows.deadline
      ∙ (ap (λ (n : ℕ). possible_if (is_final (mode_at (row r channel past).deadline n)) v.rest last) stands.now
      ∙ ap (λ (o : Option (List AssetOutcome)). possible_if (is_final (mode r channel past)) o last) knows.rest)
    where
      v : ChannelView
      v = view_of w.channels channel

      knows : KnowsChannel r channel past (view_of w.channels channel)
      knows = stands.channels channel

  -- the state known of a channel gives what it can end with at its place
  known-is : (channel : List ℕ) (held : Bool) (last : Option Signed) →
      counting_seen w (named channel (cond held (option_map (λ s. s.state) last) None))
      ≡ counting_of channel (cond held (possible_after (is_final (mode r channel past)) (rest_of_channel r channel past) last) [])
  known-is channel false last = refl
  known-is channel true None = refl
  known-is channel true (Some s) =
      append-nil (counting_of channel (possible_seen w.now (view_of w.channels channel) s.state))
      ∙ ap (counting_of channel) (possible-is channel s.state)

  one-is : (f : FixedParts) (k : Kept) → IsKeptAt r past front f k → counting_seen w (known_state k) ≡ counting_of (r.named f) (possible r past front f)
  one-is f k at =
      ap (λ (n : List ℕ). counting_seen w (named n (known_last k))) at.name
      ∙ (ap (λ (b : Bool). counting_seen w (named (r.named f) (cond b k.last None))) same
      ∙ (ap (λ (o : Option StateParts). counting_seen w (named (r.named f) (cond b o None))) at.last
      ∙ (known-is (r.named f) b (last_made (r.named f) front)
      ∙ ap (λ (o : Option Marked). counting_of (r.named f) (cond (places.is_held r f o) (possible_after (is_final (mode r (r.named f) past)) (rest_of_channel r (r.named f) past) (last_made (r.named f) front)) []))
      (sym at.chain))))
    where
      b : Bool
      b = is_supported r f (marked_of k.chain)

      same : is_held k ≡ is_supported r f (marked_of k.chain)
      same = held_is r k at.good ∙ ap (λ (g : FixedParts). is_supported r g (marked_of k.chain)) at.fixed

  all-are : (fs : List FixedParts) (kept : List Kept) → AreKeptAt r past front fs kept →
      counting_seen w (flat_map known_state kept) ≡ counting_among r past front fs
  all-are [] [] at = refl
  all-are [] (k ∷ kept) at = absurd at
  all-are (f ∷ fs) [] at = absurd at
  all-are (f ∷ fs) (k ∷ kept) at =
      seen-append w (known_state k) (flat_map known_state kept)
      ∙ (ap (λ (ks : List Counting). ks ++ counting_seen w (flat_map known_state kept)) (one-is f k at.0)
      ∙ ap (λ (ks : List Counting). counting_of (r.named f) (possible r past front f) ++ ks) (all-are fs kept at.1))

  balances-are : (asset : ℕ) → held_seen w asset ≡ balances past asset
  balances-are asset = fun_ext (λ channel. (stands.channels channel).held asset)

pub tells_share : ViewsTellShares
tells_share r orders past front w own kept parts stands at = record { counts = counts; shares = shares; funded = funded }
  where
    counts : counting_seen w (flat_map known_state kept) ≡ counting r past front
    counts = all-are r past front w stands (channels front) kept at

    -- whatever is told by parts, balances and channels that count
    told : {X : Type 0} (f : List Part → (List ℕ → ℕ) → List Counting → X) (asset : ℕ) →
        f own.parts (held_seen w asset) (counting_seen w (flat_map known_state kept)) ≡ f (plan orders front) (balances past asset) (counting r past front)
    told f asset =
        ap (λ (ps : List Part). f ps (held_seen w asset) (counting_seen w (flat_map known_state kept))) parts
        ∙ (ap (λ (h : List ℕ → ℕ). f (plan orders front) h (counting_seen w (flat_map known_state kept))) (balances-are r past front w stands asset)
        ∙ ap (f (plan orders front) (balances past asset)) counts)

    shares : (asset : ℕ) → share_seen w own (flat_map known_state kept) asset ≡ share r own.me orders past front asset
    shares asset =
        ap (λ (n : ℕ). share_of own.me n own.parts (held_seen w asset) (counting_seen w (flat_map known_state kept)) asset) (stands.paid own.me asset)
        ∙ told (λ ps h cs. share_of own.me (paid_to past own.me asset) ps h cs asset) asset

    funded : (asset : ℕ) → is_funded_seen w own (flat_map known_state kept) asset ≡ is_funded own.me (plan orders front) (balances past asset) (counting r past front) asset
    funded asset = told (λ ps h cs. is_funded own.me ps h cs asset) asset
