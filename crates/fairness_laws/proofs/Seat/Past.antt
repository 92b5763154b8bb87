-- Whether a participant signed past the set-up of a channel, by what it signed last.
use Rattle.std.proofs.Common.{◌≡◌, ℕ, ◌+◌, ◌<◌, ◌≤◌, Bool, true, false, cond, List, [], ◌∷◌, ◌++◌, inr, length, refl, sym, ◌∙◌, ap, subst, arith}
use Rattle.std.proofs.lemmas.List.{length-map}
use Rattle.std.specs.Prelude.{nat_le, Option, Some, None, is_some}
use Rattle.std.specs.Option.{option_map, option_or}
use Rattle.channel_values.specs.Parts.{FixedParts, StateParts}
use Rattle.channel_values.specs.declared.chain.Signed.{Signed}
use Rattle.channel_values.specs.declared.value.AssetOutcome.{AssetOutcome}
use Rattle.channel_safety.proofs.Lists.{In-append_right, get-within}
use Rattle.channel_safety.proofs.Tests.{some-eq, none-eq, le-true, true-le, cond-true, clash}
use Rattle.call_history.specs.Marked.{Marked, marked_of, is_supported}
use Rattle.call_history.specs.declared.entry.Entry.{Entry}
use Rattle.channel_values.specs.Rules.{people}
use Rattle.channel_values.specs.Digests.{name_of_person}
use Rattle.channel_store.proofs.Good.{held_is}
use Rattle.channel_store.specs.Keeping.{is_held}
use Rattle.channel_safety.proofs.Keeps.{HoldsNewer}
use Rattle.channel_safety.proofs.Places.{made-not_watched, made-noted}
use Rattle.channel_safety.proofs.Safe.{honest-suffix, noted-held, known as in-plan}
use Rattle.channel_safety.specs.Held.{held}
use Rattle.channel_safety.specs.Honest.{HonestIn}
use Rattle.channel_safety.specs.Journals.{In, Line, made_in, is_watched}
use Rattle.channel_safety.specs.Occurring.{OccursFixed}
use Rattle.channel_node.proofs.Bridging.{lines-append, In-lines}
use Rattle.channel_node.proofs.Once.{played_journals_are_honest}
use Rattle.channel_node.specs.Places.{Told, lines_of, mind_at}
use Rattle.channel_node.specs.Playing.{Signing}
use Rattle.node_guarantees.specs.NodeShareLaws.{IsFront}
use Rattle.stage_tables.specs.Stages.{stages}
use Rattle.channel_node.proofs.Agreeing.{Agree}
use Rattle.channel_node.proofs.Standing.{known}
use Rattle.channel_safety.proofs.Rowing.{legal-suffix}
use Rattle.call_history.specs.History.{Legal}
use Rattle.channel_store.specs.Storing.{kept_of}
use Rattle.channel_store.specs.declared.kept.Kept.{Kept}
use Rattle.fairness_laws.specs.PlanSeats.{SeatIs}
use Rattle.fairness_laws.specs.PlanSettings.{IsNodes, IsFair}
use Rattle.share_laws.proofs.Finality.{lasts, opened-there}
use Rattle.share_laws.specs.Places.{channels, last_made}
use Rattle.funding_plans.specs.Seats.{Seat, state_is, has_signed_past}
use Rattle.support_rules.specs.Real.{real}
use Rattle.support_rules.specs.Steps.{persons}

pub as-many : (f : FixedParts) → length (persons f) ≡ people f
as-many f = length-map f.keys name_of_person

pub two-people : (f : FixedParts) (first second : List ℕ) → persons f ≡ first ∷ second ∷ [] → people f ≡ 2
two-people f first second are = sym (as-many f) ∙ ap (λ (xs : List (List ℕ)). length xs) are

-- the state that was signed last is past the set-up
pub record Past (f : FixedParts) (front : List Line) : Type 0 where
  pub signed : Signed
  pub is : last_made (real.named f) front ≡ Some signed
  pub far : people f ≤ signed.state.turn

-- ---- a seat

module _ (key : List ℕ) (past : List Entry) (front : List Line) (f : FixedParts) (opening : List AssetOutcome) (c : Seat) (seat : SeatIs key past front f opening c) where
  pub people-are : length c.people ≡ people f
  people-are = ap (λ (x : Seat). length x.people) seat.is ∙ as-many f

  pub several : 1 ≤ people f
  several = let within : seat.kept.me < people f = get-within f.keys seat.kept.me key seat.mine in omega arith

  -- it is held where what is held supports the channel
  pub supported : is_held seat.kept ≡ is_supported real f (marked_of seat.kept.chain)
  supported = held_is real seat.kept seat.at.good ∙ ap (λ (g : FixedParts). is_supported real g (marked_of seat.kept.chain)) seat.at.fixed

-- ---- at a place

module _ (s : Signing) (h : List Entry) (journal : List Told) (nodes : IsNodes s h journal) (past : List Entry) (front : List Told) (place : IsFront h journal past front) where
  abbrev L : List Line
  L = lines_of s.key front

  abbrev newer : List Line
  newer = lines_of s.key place.newer

  whole : lines_of s.key journal ≡ newer ++ L
  whole = ap (lines_of s.key) place.events ∙ lines-append s.key place.newer front

  -- a channel of the node occurs
  pub occurs : (f : FixedParts) → In f (channels L) → OccursFixed h (lines_of s.key journal) f
  occurs f i =
      let x = opened-there L f i in
      inr (x.0, subst (In x.0) (sym whole) (In-append_right x.0 newer L x.1), x.2)

  pub honest : (f : FixedParts) → In f (channels L) → HonestIn real s.key f h L
  honest f i =
      let x = opened-there L f i in
      honest-suffix real s.key f h newer L (subst (HonestIn real s.key f h) whole
      (played_journals_are_honest stages real s h journal nodes.signs nodes.legal nodes.plays f x.0 (subst (In x.0) (sym whole) (In-append_right x.0 newer L x.1)) x.2))

  pub early : (x : Line) → In x L → is_watched x.deed ≡ false → x.seen ≤ length past
  early x i w =
      let z = In-lines s.key x front i in
      subst (λ (y : Line). y.seen ≤ length past) (sym z.2) (place.before z.0 z.1 (subst (λ (y : Line). is_watched y.deed ≡ false) z.2 w))

  pub signed-held : (f : FixedParts) → In f (channels L) → (t : Signed) → last_made (real.named f) L ≡ Some t → people f ≤ t.state.turn + 1 → HoldsNewer real f t.state.turn (held real f past L)
  signed-held f i t is high =
      let on = honest f i in
      let last = lasts real s.key f h L t on is in
      noted-held real s.key f h L on place.later past place.entries last.line t last.there (early last.line last.there (made-not_watched (real.named f) last.line.deed t last.made))
      (made-noted (real.named f) last.line.deed t last.made) high

  -- of a channel that isn't kept nothing was signed
  pub unkept-unsigned : (f : FixedParts) → HonestIn real s.key f h L → is_some (kept_of (real.named f) (mind_at real s.key past front).kept) ≡ false → last_made (real.named f) L ≡ None
  unkept-unsigned f on unkept = go (last_made (real.named f) L) refl
    where
      by : (o : Option Kept) (w : Marked) → is_some o ≡ false → Agree real s.key f L o (Some w) → ⊥
      by None w e a = a
      by (Some k) w e a = clash true refl e

      never : (t : Signed) → last_made (real.named f) L ≡ Some t → ⊥
      never t is =
          let last = lasts real s.key f h L t on is in
          let some-held =
          in-plan real s.key f h L on place.later past place.entries last.line t last.there
          (early last.line last.there (made-not_watched (real.named f) last.line.deed t last.made)) last.made in
          by (kept_of (real.named f) (mind_at real s.key past front).kept) some-held.0 unkept
          (subst (λ (o : Option Marked). Agree real s.key f L (kept_of (real.named f) (mind_at real s.key past front).kept) o) some-held.1
          (known real s.key f past front (legal-suffix real place.later past (subst (Legal real) place.entries nodes.legal)) place.few).agree)

      go : (o : Option Signed) → last_made (real.named f) L ≡ o → o ≡ None
      go None is = refl
      go (Some t) is = absurd (never t is)

  -- ---- what was signed last there

  module _ (f : FixedParts) (opening : List AssetOutcome) (c : Seat) (seat : SeatIs s.key past L f opening c) where
    pub own-is : c.own ≡ cond (is_held seat.kept) (option_map (λ s. s.state) (last_made (real.named f) L)) None
    own-is = ap (λ (x : Seat). x.own) seat.is ∙ ap (λ (o : Option StateParts). cond (is_held seat.kept) o None) seat.at.last

    -- what is known to be signed last was signed last
    pub own-made : (o : StateParts) → c.own ≡ Some o → (t : Signed) × (last_made (real.named f) L ≡ Some t) × (t.state ≡ o)
    own-made o e = go (is_held seat.kept) (last_made (real.named f) L) refl (sym own-is ∙ e)
      where
        go : (b : Bool) (m : Option Signed) → last_made (real.named f) L ≡ m → cond b (option_map (λ s. s.state) m) None ≡ Some o → (t : Signed) × (last_made (real.named f) L ≡ Some t) × (t.state ≡ o)
        go false m is e = absurd (none-eq o e)
        go true None is e = absurd (none-eq o e)
        go true (Some t) is e = (t, is, some-eq t.state o e)

    pub past-of : has_signed_past c ≡ true → Past f L
    past-of e = go c.own refl e
      where
        go : (o : Option StateParts) → c.own ≡ o → state_is (λ s. nat_le (length c.people) s.turn) o ≡ true → Past f L
        go None is e = absurd (clash false e refl)
        go (Some o) is e =
            let m = own-made o is in
            record {
              signed = m.0;
              is = m.1;
              far = subst (λ (n : ℕ). n ≤ m.0.state.turn) (people-are s.key past L f opening c seat) (subst (λ (x : StateParts). length c.people ≤ x.turn) (sym m.2) (le-true (length c.people) o.turn e));
            }

    -- what is signed late is known
    pub own-late : (t : Signed) → last_made (real.named f) L ≡ Some t → people f ≤ t.state.turn + 1 → c.own ≡ Some t.state
    own-late t is high =
        let n = signed-held f seat.own.there t is high in
        let same : marked_of seat.kept.chain ≡ n.latest = some-eq (marked_of seat.kept.chain) n.latest (sym seat.at.chain ∙ n.is) in
        own-is ∙ cond-true (is_held seat.kept) (option_map (λ s. s.state) (last_made (real.named f) L)) None (supported s.key past L f opening c seat ∙ subst (λ (w : Marked). is_supported real f w ≡ true) (sym same) n.chain)
        ∙ ap (option_map (λ s. s.state)) is

    pub of-past : Past f L → has_signed_past c ≡ true
    of-past p =
        ap (state_is (λ s. nat_le (length c.people) s.turn)) (own-late p.signed p.is (up (people f) p.signed.state.turn p.far))
        ∙ true-le (length c.people) p.signed.state.turn (subst (λ (n : ℕ). n ≤ p.signed.state.turn) (sym (people-are s.key past L f opening c seat)) p.far)
      where
        up : (a b : ℕ) → a ≤ b → a ≤ b + 1
        up a b h = omega arith

-- ---- two places

-- a name determines the fixed part, at whatever place
pub one-fixed : (s : Signing) (h : List Entry) (journal : List Told) (fair : IsFair s h journal) (past : List Entry) (front : List Told) (place : IsFront h journal past front)
    (after : List Entry) (longer : List Told) (then : IsFront h journal after longer) (f g : FixedParts) → In f (channels (lines_of s.key front)) → In g (channels (lines_of s.key longer))
    → real.named f ≡ real.named g → f ≡ g
one-fixed s h journal fair past front place after longer then f g i j same =
    fair.nodes.distinct.names f g (occurs s h journal fair.nodes past front place f i) (occurs s h journal fair.nodes after longer then g j) same

-- ---- one more line

-- it stays past it
pub past-grows : (key : List ℕ) (h : List Entry) (x : Line) (front : List Line) (f : FixedParts) → HonestIn real key f h (x ∷ front) → HonestIn real key f h front → Past f front → Past f (x ∷ front)
past-grows key h x front f on was p = go (made_in (real.named f) x.deed) refl
  where
    go : (o : Option Signed) → made_in (real.named f) x.deed ≡ o → Past f (x ∷ front)
    go None is = record { signed = p.signed; is = ap (λ (o : Option Signed). option_or o (last_made (real.named f) front)) is ∙ p.is; far = p.far }
    go (Some u) is =
        let made : last_made (real.named f) (x ∷ front) ≡ Some u = ap (λ (o : Option Signed). option_or o (last_made (real.named f) front)) is in
        let old = lasts real key f h front p.signed was p.is in
        let last = lasts real key f h (x ∷ front) u on made in
        record { signed = u; is = made; far = up (people f) p.signed.state.turn u.state.turn p.far (last.greatest old.line p.signed (inr old.there) old.made) }
      where
        up : (a b c : ℕ) → a ≤ b → b ≤ c → a ≤ c
        up a b c p q = omega arith

-- it was past it before a line that signs nothing there
pub past-before : (x : Line) (front : List Line) (f : FixedParts) → made_in (real.named f) x.deed ≡ None → Past f (x ∷ front) → Past f front
past-before x front f none p =
    record { signed = p.signed; is = sym (ap (λ (o : Option Signed). option_or o (last_made (real.named f) front)) none) ∙ p.is; far = p.far }
