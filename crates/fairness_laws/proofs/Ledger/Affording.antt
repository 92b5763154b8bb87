-- A ledger on which a part is opened affords it.
use Rattle.std.proofs.Common.{◌≡◌, ℕ, ◌≤◌, Bool, true, false, cond, ◌&&◌, ◌||◌, List, [], ◌∷◌, length, refl, sym, ◌∙◌, ap, subst}
use Rattle.std.specs.Prelude.{◌==◌, nat_le, nat_lt, Option, Some, None, map, slice_index_or}
use Rattle.std.specs.Option.{option_map}
use Rattle.channel_values.specs.Parts.{FixedParts, StateParts}
use Rattle.channel_values.specs.declared.value.AssetOutcome.{AssetOutcome}
use Rattle.channel_values.specs.declared.value.Dest.{Dest}
use Rattle.channel_values.specs.declared.value.Dest.TheVariants.{Person, Channel}
use Rattle.channel_safety.proofs.Tests.{some-eq, none-eq, clash, and-left, and-right, le-true}
use Rattle.call_history.specs.declared.entry.Entry.{Entry}
use Rattle.call_history.specs.declared.held_chain.HeldChain.{HeldChain}
use Rattle.channel_values.specs.Amounts.{amt, has}
use Rattle.channel_values.specs.Rules.{newest}
use Rattle.channel_store.specs.Keeping.{is_held}
use Rattle.funding_plans.specs.Known.{FactsOf}
use Rattle.funding_plans.specs.Shapes.{items_of, items_in}
use Rattle.channel_safety.specs.Journals.{In}
use Rattle.channel_node.specs.Minds.{facts_of}
use Rattle.channel_node.specs.Places.{Told, lines_of, mind_at}
use Rattle.channel_node.specs.Playing.{Signing}
use Rattle.stage_tables.specs.Fitting.{stake, is_running_end, lends_virtual, either_lends}
use Rattle.stage_tables.specs.declared.stake.Stake.{Stake}
use Rattle.stage_tables.specs.Ledgers.{covers, affords_after, affords_in, is_between, is_running_root, lends}
use Rattle.fairness_laws.proofs.Apps.{no-payments}
use Rattle.fairness_laws.proofs.Outcomes.{only}
use Rattle.fairness_laws.specs.PlanLaws.{PartsAreKnown}
use Rattle.fairness_laws.specs.PlanSeats.{SeatIs, seat_of}
use Rattle.fairness_laws.specs.PlanSettings.{IsFair}
use Rattle.share_laws.specs.Places.{channels, last_made, outcomes_of}
use Rattle.funding_plans.specs.Gathered.{place_in, chain_in, top_of}
use Rattle.funding_plans.specs.Seats.{Seat}
use Rattle.support_rules.specs.Real.{real}
use Rattle.support_rules.specs.Steps.{persons}
use Rattle.channel_node.specs.Openings.{shared}
use Rattle.funding_plans.specs.declared.child.Child.{Child}
use Rattle.fairness_laws.specs.LedgerMoving.{HaveItems, Afford}
use Rattle.fairness_laws.proofs.Plan.Holding.{Holds, chain-holds, seat-is}
use Rattle.fairness_laws.proofs.Plan.Known.{OfLedger}
use Rattle.fairness_laws.proofs.Plan.Places.{lent-at, knows-there, plays-there, legal-there, grown-there}
use Rattle.fairness_laws.specs.LedgerPlaces.{is_ledger, own_at}
use Rattle.fairness_laws.specs.PaymentLaws.{At}
use Rattle.fairness_laws.proofs.Seat.Held.{Tops, tops, top-could}
use Rattle.fairness_laws.proofs.Signing.{kept-of}

-- both people have items of at least these amounts
pub record Covered (asset : ℕ) (first second : List ℕ) (ab : ℕ × ℕ) (o : List AssetOutcome) : Type 0 where
  pub one : has (items_in asset o) (Person first) ≡ true
  pub other : has (items_in asset o) (Person second) ≡ true
  pub a : ab.0 ≤ amt (items_in asset o) (Person first)
  pub b : ab.1 ≤ amt (items_in asset o) (Person second)

-- what lends has a latest state that covers both
record Lending (f : FactsOf) (l : List ℕ) (asset : ℕ) (first second : List ℕ) (ab : ℕ × ℕ) : Type 0 where
  top : StateParts
  held : top_of (chain_in l f.chains) ≡ Some top
  covered : Covered asset first second ab top.outcome

either-affords : (f : FactsOf) (l : List ℕ) (k : Stake) → either_lends f l k ≡ true → affords_in k (chain_in l f.chains) ≡ true
either-affords f l k e = go (lends f l k) refl e
  where
    go : (b : Bool) → lends f l k ≡ b → (b || lends_virtual f l k) ≡ true → affords_in k (chain_in l f.chains) ≡ true
    go true is h = and-right (is_running_root f l && is_between k (place_in l f.places)) (affords_in k (chain_in l f.chains)) is
    go false is h = and-right (is_running_end f l && is_between k (place_in l f.places)) (affords_in k (chain_in l f.chains)) h

lending : (f : FactsOf) (l : List ℕ) (asset : ℕ) (a b : List ℕ) (ab : ℕ × ℕ) → either_lends f l (stake asset a b ab) ≡ true → Lending f l asset a b ab
lending f l asset a b ab lent = go (chain_in l f.chains) refl (either-affords f l k lent)
  where
    k : Stake
    k = stake asset a b ab

    go : (o : Option HeldChain) → chain_in l f.chains ≡ o → affords_in (stake asset a b ab) o ≡ true → Lending f l asset a b ab
    go None is t = absurd (clash false t refl)
    go (Some h) is t = by (newest h.chain.states) refl (and-right (h.chain.fixed.app == 0) (affords_after (stake asset a b ab) (newest h.chain.states)) t)
      where
        by : (n : Option StateParts) → newest h.chain.states ≡ n → affords_after (stake asset a b ab) n ≡ true → Lending f l asset a b ab
        by None at u = absurd (clash false u refl)
        by (Some s) at u =
            let items = items_in asset s.outcome in
            let both = and-left (covers items a ab.0 && covers items b ab.1) (nat_lt (length items) 16) u in
            let one = and-left (covers items a ab.0) (covers items b ab.1) both in
            let other = and-right (covers items a ab.0) (covers items b ab.1) both in
            record {
              top = s;
              held = ap top_of is ∙ at;
              covered = record {
                one = and-left (has items (Person a)) (nat_le ab.0 (amt items (Person a))) one;
                other = and-left (has items (Person b)) (nat_le ab.1 (amt items (Person b))) other;
                a = le-true ab.0 (amt items (Person a)) (and-right (has items (Person a)) (nat_le ab.0 (amt items (Person a))) one);
                b = le-true ab.1 (amt items (Person b)) (and-right (has items (Person b)) (nat_le ab.1 (amt items (Person b))) other);
              };
            }

module _ (s : Signing) (h : List Entry) (journal : List Told) (fair : IsFair s h journal) (known : PartsAreKnown)
    (past : List Entry) (front : List Told) (here : At s h journal past front) where
  -- it covers them by what the node signed last, where that has no votes
  pub covers-last : (l : List ℕ) (asset : ℕ) (first second : List ℕ) (ab : ℕ × ℕ) → either_lends (facts_of (mind_at real s.key past front)) l (stake asset first second ab) ≡ true
      → (last : StateParts) → own_at s.key journal front l ≡ Some last → outcomes_of last ≡ last.outcome ∷ [] → Covered asset first second ab last.outcome
  covers-last l asset first second ab lent last signed alone = subst (Covered asset first second ab) (only last last.outcome alone y.top.outcome (subst (In y.top.outcome) (ap outcomes_of same) could)) y.covered
    where
      y : Lending (facts_of (mind_at real s.key past front)) l asset first second ab
      y = lending (facts_of (mind_at real s.key past front)) l asset first second ab lent

      ledger : OfLedger (channels (lines_of s.key front)) (mind_at real s.key past front).parts first second l
      ledger =
          lent-at s h journal fair.nodes past front here.front_is.few here.front_is.later here.front_is.entries (plays-there s h journal fair.nodes past front here.front_is) here.front_is.before
          (knows-there s h journal fair.nodes past front here.front_is) l first second asset ab lent

      held : Holds s.key past (lines_of s.key front) (mind_at real s.key past front) ledger.fixed
      held = kept-of s h journal fair past front here ledger.fixed ledger.there

      c : Seat
      c = seat_of ledger.fixed [] held.kept

      seat : SeatIs s.key past (lines_of s.key front) ledger.fixed [] c
      seat =
          seat-is s.key past front (legal-there s h journal fair.nodes past front here.front_is) here.front_is.few (grown-there s h journal fair.nodes past front here.front_is)
          ledger.fixed ledger.there held []

      -- its latest state is that of its held chain
      top-is : c.top ≡ Some y.top
      top-is = tops-same (is_held held.kept) ∙ (ap top_of (sym (chain-holds s.key past front (legal-there s h journal fair.nodes past front here.front_is) here.front_is.few
          (grown-there s h journal fair.nodes past front here.front_is) ledger.fixed held l ledger.named)) ∙ y.held)
        where
          tops-same : (b : Bool) → cond b (newest held.kept.chain.states) None ≡ top_of (cond b (Some (record { channel = held.kept.channel; chain = held.kept.chain })) None)
          tops-same true = refl
          tops-same false = refl

      w : Tops s h journal fair past front here ledger.fixed [] c seat y.top
      w = tops s h journal fair past front here ledger.fixed [] c seat y.top top-is

      could : In y.top.outcome (outcomes_of w.last.state)
      could = top-could s h journal fair past front here ledger.fixed [] c seat (no-payments ledger.fixed ledger.app) y.top w

      made : last_made l (lines_of s.key front) ≡ Some w.last
      made = subst (λ (n : List ℕ). last_made n (lines_of s.key front) ≡ Some w.last) ledger.named w.is

      same : w.last.state ≡ last
      same = go (is_ledger s.key journal l) signed
        where
          go : (b : Bool) → cond b (option_map (λ s. s.state) (last_made l (lines_of s.key front))) None ≡ Some last → w.last.state ≡ last
          go true e = some-eq w.last.state last (sym (ap (option_map (λ s. s.state)) made) ∙ e)
          go false e = absurd (none-eq last e)

-- a child of those people and amounts is covered
pub covered-child : (k : Child) (asset : ℕ) (first second : List ℕ) (ab : ℕ × ℕ) (o : List AssetOutcome) → k.asset ≡ asset → k.first ≡ first → k.second ≡ second → ab ≡ (k.a, k.b)
    → Covered asset first second ab o → HaveItems k o × Afford k o
covered-child k asset first second ab o assets firsts seconds pair c = (
  record {
    one = subst (λ (n : List ℕ). has (items_in k.asset o) (Person n) ≡ true) (sym firsts) (subst (λ (z : ℕ). has (items_in z o) (Person first) ≡ true) (sym assets) c.one);
    other = subst (λ (n : List ℕ). has (items_in k.asset o) (Person n) ≡ true) (sym seconds) (subst (λ (z : ℕ). has (items_in z o) (Person second) ≡ true) (sym assets) c.other);
  },
  record {
    one = subst (λ (n : List ℕ). k.a ≤ amt (items_in k.asset o) (Person n)) (sym firsts)
        (subst (λ (z : ℕ). k.a ≤ amt (items_in z o) (Person first)) (sym assets) (subst (λ (z : ℕ × ℕ). z.0 ≤ amt (items_in asset o) (Person first)) pair c.a));
    other = subst (λ (n : List ℕ). k.b ≤ amt (items_in k.asset o) (Person n)) (sym seconds)
        (subst (λ (z : ℕ). k.b ≤ amt (items_in z o) (Person second)) (sym assets) (subst (λ (z : ℕ × ℕ). z.1 ≤ amt (items_in asset o) (Person second)) pair c.b));
  },
)

-- ---- two people, by what is shared between them

abbrev name-of : Dest → List ℕ
name-of (Person n) = n
name-of (Channel n) = n

abbrev names-in : List AssetOutcome → List (List ℕ)
names-in [] = []
names-in (o ∷ os) = map (λ i. name-of i.to) (items_of (Some o.shape))

-- the same outcome is shared between the same two
pub same-people : (f g : FixedParts) (x y : ℕ) (ab cd : ℕ × ℕ) (a b c d : List ℕ) → persons f ≡ a ∷ b ∷ [] → persons g ≡ c ∷ d ∷ [] → shared f x ab ≡ shared g y cd → a ∷ b ∷ [] ≡ c ∷ d ∷ []
same-people f g x y ab cd a b c d one other same = sym (two-of (persons f) a b one) ∙ (ap names-in same ∙ two-of (persons g) c d other)
  where
    two-of : (people : List (List ℕ)) (m n : List ℕ) → people ≡ m ∷ n ∷ [] → slice_index_or people 0 [] ∷ slice_index_or people 1 [] ∷ [] ≡ m ∷ n ∷ []
    two-of people m n e = ap (λ (z : List (List ℕ)). slice_index_or z 0 [] ∷ slice_index_or z 1 [] ∷ []) e
