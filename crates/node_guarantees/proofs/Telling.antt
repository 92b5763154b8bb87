-- What a node knows is what a view and a store say at its place, so it determines the share.
use Rattle.std.proofs.Common.{◌≡◌, ℕ, ◌≤◌, false, List, [], ◌∷◌, ◌++◌, inl, inr, length, refl, sym, ◌∙◌, ap, subst, arith}
use Rattle.std.specs.Prelude.{Option, Some, None}
use Rattle.channel_values.specs.Parts.{FixedParts}
use Rattle.channel_values.specs.Digests.{name_of_person}
use Rattle.channel_values.specs.Rules.{Rules}
use Rattle.call_history.specs.History.{Legal}
use Rattle.call_history.specs.Marked.{Marked, marked_of}
use Rattle.call_history.specs.declared.entry.Entry.{Entry}
use Rattle.channel_store.specs.Storing.{kept_of}
use Rattle.channel_store.specs.declared.kept.Kept.{Kept}
use Rattle.channel_safety.proofs.Lists.{length-up}
use Rattle.channel_safety.proofs.Tests.{some-eq, none-eq}
use Rattle.channel_safety.proofs.Rowing.{legal-suffix}
use Rattle.history_view.specs.Standing.{StandsFor}
use Rattle.channel_safety.specs.Held.{held}
use Rattle.channel_safety.specs.Journals.{In, is_watched}
use Rattle.share_laws.specs.Places.{plan, share}
use Rattle.plan_share.specs.Seen.{share_seen}
use Rattle.node_guarantees.specs.ViewLaws.{AreKeptAt, TellsShare}
use Rattle.node_guarantees.proofs.Seeing.{tells_share}
use Rattle.channel_node.specs.Minds.{Mind, facts_of}
use Rattle.channel_node.specs.Tables.{Tables}
use Rattle.channel_node.specs.Places.{Told, lines_of, mind_at, AreFew}
use Rattle.channel_node.specs.Playing.{Signing, Plays}
use Rattle.channel_node.specs.Nodes.{told_of}
use Rattle.channel_node.specs.Standing.{Knows}
use Rattle.channel_node.proofs.Agreeing.{Agree}
use Rattle.channel_node.proofs.Standing.{known}
use Rattle.node_guarantees.specs.Orders.{orders_of}
use Rattle.node_guarantees.specs.NodeShareLaws.{KnowsShare, IsFront, PlacesTellShares, NodesTellShares}
use Rattle.node_guarantees.proofs.Ordering.{Fits, fits-journal, plan-told}
use Rattle.node_guarantees.proofs.Apart.{Apart, found-again}
use Rattle.node_guarantees.proofs.Keeping.{AllKeep, all-names}
use Rattle.node_guarantees.proofs.Growing.{channels_told, Grows}
use Rattle.node_guarantees.proofs.Placing.{grows-at}

-- what stands for these entries
stands-at : (r : Rules) (key : List ℕ) (past : List Entry) (front : List Told) → Legal r past → AreFew past → StandsFor r past (mind_at r key past front).view
stands-at r key past front legal few = (known r key (record { keys = []; nonce = 0; app = 0; duration = 0 }) past front legal few).view

module _ (r : Rules) (key : List ℕ) (past : List Entry) (front : List Told) (legal : Legal r past) (few : AreFew past) where
  abbrev m : Mind
  m = mind_at r key past front

  -- what is kept under its name is held
  holds : (f : FixedParts) (k : Kept) → kept_of (r.named f) m.kept ≡ Some k → k.chain.fixed ≡ f → held r f past (lines_of key front) ≡ Some (marked_of k.chain)
  holds f k found fixed = go (kept_of (r.named f) m.kept) (held r f past (lines_of key front)) found (known r key f past front legal few).agree
    where
      go : (o : Option Kept) (w : Option Marked) → o ≡ Some k → Agree r key f (lines_of key front) o w → w ≡ Some (marked_of k.chain)
      go None w e a = absurd (none-eq k e)
      go (Some z) None e a = absurd a
      go (Some z) (Some w) e a = ap (λ (y : Marked). Some y) (sym ((subst (λ (y : Kept). y.chain.fixed ≡ f → marked_of y.chain ≡ w) (some-eq z k e) a.1) fixed))

  kept-at : (fs : List FixedParts) (ks : List Kept) → ((k : Kept) → In k ks → kept_of k.channel m.kept ≡ Some k) → AllKeep r (lines_of key front) fs ks → AreKeptAt r past (lines_of key front) fs ks
  kept-at [] [] found all = tt
  kept-at [] (k ∷ ks) found all = absurd all
  kept-at (f ∷ fs) [] found all = absurd all
  kept-at (f ∷ fs) (k ∷ ks) found all = (
    record {
      good = all.0.good;
      name = all.0.name;
      fixed = all.0.fixed;
      chain = holds f k (subst (λ (n : List ℕ). kept_of n m.kept ≡ Some k) all.0.name (found k (inl refl))) all.0.fixed;
      last = all.0.last;
    },
    kept-at fs ks (λ y i. found y (inr i)) all.1,
  )

  pub all-kept : Grows r key front m → AreKeptAt r past (lines_of key front) (channels_told key front) m.kept
  all-kept grown =
      kept-at (channels_told key front) m.kept
      (found-again m.kept (subst Apart (sym (all-names r (lines_of key front) (channels_told key front) m.kept grown.all)) grown.apart)) grown.all

-- the events from a place on
plays-front : (t : Tables) (r : Rules) (s : Signing) (h : List Entry) (newer front : List Told) → Plays t r s h (newer ++ front) → Plays t r s h front
plays-front t r s h [] front plays = plays
plays-front t r s h (x ∷ newer) front plays = plays-front t r s h newer front plays.1

pub places_tell_shares : PlacesTellShares
places_tell_shares t r s h journal past front legal plays at = record { own = grown.mine; parts = parts; view = stands; tells = tells; shares = shares }
  where
    grown : Grows r s.key front (mind_at r s.key past front)
    grown = grows-at t r s h front (plays-front t r s h at.newer front (subst (Plays t r s h) at.events plays)) past at.later at.entries at.before

    before : Legal r past
    before = legal-suffix r at.later past (subst (Legal r) at.entries legal)

    fits : Fits r s.key (orders_of r s.key journal) front
    fits = subst (λ (j : List Told). Fits r s.key (orders_of r s.key j) front) (sym at.events) (fits-journal r s.key at.newer front)

    parts : (mind_at r s.key past front).parts ≡ plan (orders_of r s.key journal) (lines_of s.key front)
    parts = grown.opened ∙ sym (plan-told r s.key (orders_of r s.key journal) front fits)

    stands : StandsFor r past (mind_at r s.key past front).view
    stands = stands-at r s.key past front before at.few

    tells : TellsShare r (orders_of r s.key journal) past (lines_of s.key front) (mind_at r s.key past front).view (facts_of (mind_at r s.key past front)).plan (facts_of (mind_at r s.key past front)).known
    tells = tells_share r (orders_of r s.key journal) past (lines_of s.key front) (mind_at r s.key past front).view (facts_of (mind_at r s.key past front)).plan (mind_at r s.key past front).kept
        parts stands (all-kept r s.key past front before at.few grown)

    shares : (asset : ℕ) → share_seen (mind_at r s.key past front).view (facts_of (mind_at r s.key past front)).plan (facts_of (mind_at r s.key past front)).known asset
        ≡ share r (name_of_person s.key) (orders_of r s.key journal) past (lines_of s.key front) asset
    shares asset = tells.shares asset ∙ ap (λ (key : List ℕ). share r (name_of_person key) (orders_of r s.key journal) past (lines_of s.key front) asset) grown.mine

-- nothing comes after as many entries as there are
none-later : (h later past : List Entry) → h ≡ later ++ past → length past ≡ length h → past ≡ h
none-later h [] past is len = sym is
none-later h (e ∷ later) past is len =
    let whole : length h ≡ length (e ∷ (later ++ past)) = ap (λ (es : List Entry). length es) is in
    let up : length past ≤ length (later ++ past) = length-up later past in
    absurd (omega arith)

pub nodes_tell_shares : NodesTellShares
nodes_tell_shares t r s h n legal kept stands follows = subst (KnowsShare r s.key (told_of n) h (told_of n)) (sym mind) (places_tell_shares t r s h (told_of n) h (told_of n) legal stands.plays whole)
  where
    knows : Knows r s h n
    knows = stands.knows kept

    counts : (mind_at r s.key knows.past (told_of n)).view.count ≡ length knows.past
    counts = (stands-at r s.key knows.past (told_of n) (legal-suffix r knows.later knows.past (subst (Legal r) knows.split legal)) knows.few).count

    all : knows.past ≡ h
    all = none-later h knows.later knows.past knows.split (sym counts ∙ (ap (λ (m : Mind). m.view.count) (sym knows.mind) ∙ follows))

    mind : n.mind ≡ mind_at r s.key h (told_of n)
    mind = subst (λ (past : List Entry). n.mind ≡ mind_at r s.key past (told_of n)) all knows.mind

    whole : IsFront h (told_of n) h (told_of n)
    whole = record {
      later = [];
      newer = [];
      entries = refl;
      events = refl;
      few = subst AreFew all knows.few;
      before = subst (λ (past : List Entry). (y : Told) → In y (told_of n) → is_watched y.deed ≡ false → y.seen ≤ length past) all knows.before;
    }
