-- What is a ledger of a node's whole plan is the own channel of a root or of an end of it, and no other channel of
-- its parts is.
use Rattle.std.proofs.Common.{◌≡◌, ℕ, Bool, true, false, ◌&&◌, ◌||◌, List, [], ◌∷◌, ◌++◌, inl, inr, refl, sym, ◌∙◌, ap, subst}
use Rattle.std.specs.Prelude.{◌==◌, Some}
use Rattle.std.specs.List.{list_any}
use Rattle.std.specs.Str.{bytes_eq}
use Rattle.channel_values.specs.Parts.{FixedParts}
use Rattle.channel_safety.proofs.Lists.{In-append_left}
use Rattle.channel_safety.proofs.Tests.{and-both, and-left, and-right, eqb-true}
use Rattle.call_history.proofs.Names.{same_bytes, bytes_eq_self}
use Rattle.call_history.specs.Flows.{is_among}
use Rattle.call_history.specs.declared.entry.Entry.{Entry}
use Rattle.funding_plans.specs.Parts.{channels_of, channels as channels-of-parts, ledgers_of}
use Rattle.funding_plans.specs.declared.plan.Goal.{Goal}
use Rattle.funding_plans.specs.declared.plan.Part.{Part}
use Rattle.funding_plans.specs.declared.plan.Part.TheVariants as kinds
use Rattle.funding_plans.specs.declared.plan.Virtual.{Virtual}
use Rattle.channel_safety.specs.Journals.{In, Line, opened}
use Rattle.channel_node.proofs.Bridging.{lines-append}
use Rattle.channel_node.specs.Minds.{facts_of}
use Rattle.channel_node.specs.Openings.{are_apart}
use Rattle.channel_node.specs.Places.{Told, lines_of, mind_at}
use Rattle.channel_node.specs.Playing.{Signing}
use Rattle.node_guarantees.proofs.Telling.{places_tell_shares}
use Rattle.node_guarantees.specs.NodeShareLaws.{IsFront}
use Rattle.node_guarantees.specs.Orders.{orders_of}
use Rattle.stage_tables.specs.Stages.{stages}
use Rattle.share_laws.proofs.Finality.{opened-there}
use Rattle.share_laws.proofs.FairPlaces.{plan-later}
use Rattle.share_laws.specs.Places.{Order, channels, plan}
use Rattle.fairness_laws.specs.PlanBearers.{bears}
use Rattle.fairness_laws.proofs.Plan.Bearers.{Bearer, bears-among, bearer-of}
use Rattle.support_rules.specs.Real.{real}
use Rattle.std.proofs.lemmas.Bool.{eq-eqb}
use Rattle.fairness_laws.specs.LedgerLending.{Lent}
use Rattle.fairness_laws.specs.LedgerPlaces.{is_ledger, parts_at, lends_at}
use Rattle.fairness_laws.specs.PlanLaws.{PartAt, PlansAreWhole}
use Rattle.fairness_laws.specs.PlanParts.{EndIs}
use Rattle.fairness_laws.specs.PlanSettings.{IsFair}
use Rattle.fairness_laws.proofs.Planned.{is-planned, one-part}
use Rattle.fairness_laws.proofs.Ledger.Lent.{LendsAt, by-kind, lends-is}
use Rattle.fairness_laws.proofs.Seat.Past.{occurs}
use Rattle.fairness_laws.proofs.Plan.Names.{Passing, any-in, in-among}
use Rattle.fairness_laws.proofs.Plans.{all-front}

any-of : {A : Type 0} (is : A → Bool) (xs : List A) (y : A) → In y xs → is y ≡ true → list_any is xs ≡ true
any-of is [] y i e = absurd i
any-of is (x ∷ xs) y (inl same) e = ap (λ (b : Bool). b || list_any is xs) (ap is (sym same) ∙ e)
any-of is (x ∷ xs) y (inr i) e = later (is x) (any-of is xs y i e)
  where
    later : (b : Bool) → list_any is xs ≡ true → (b || list_any is xs) ≡ true
    later true e = refl
    later false e = e

channels-grow : (newer front : List Line) (f : FixedParts) → In f (channels front) → In f (channels (newer ++ front))
channels-grow [] front f i = i
channels-grow (x ∷ newer) front f i = In-append_left f (channels (newer ++ front)) (opened x) (channels-grow newer front f i)

-- a channel for which a ledger sets something aside stands on it
pub lent-stands : (s : Signing) (past : List Entry) (front : List Told) (p : Part) (at : PartAt s past front p) (l : List ℕ) (k : Lent) → lends_at s past front l p ≡ Some k → In l (ledgers_of p)
lent-stands s past front p at l k is =
    by-kind s past front (λ (l : List ℕ) (p : Part) (k : Lent). In l (ledgers_of p)) p at (λ l c g o same found. inl refl) (λ v g e same found. inl refl) (λ v g m same found. inl refl)
    (λ v g m same found differ. inr (inl refl)) l k is

module _ (s : Signing) (h : List Entry) (journal : List Told) (fair : IsFair s h journal) (whole : PlansAreWhole) where
  abbrev orders : ℕ → Order
  orders = orders_of real s.key journal

  abbrev all : List Part
  all = plan orders (lines_of s.key journal)

  parts-are : (past : List Entry) (front : List Told) → IsFront h journal past front → parts_at s past front ≡ plan orders (lines_of s.key front)
  parts-are past front place = (places_tell_shares stages real s h journal past front fair.nodes.legal fair.nodes.plays place).parts

  all-apart : are_apart (channels-of-parts all) ≡ true
  all-apart =
      let f = all-front s h journal fair in
      subst (λ (ps : List Part). are_apart (channels-of-parts ps) ≡ true) (parts-are h journal f) (is-planned stages real s h journal fair.nodes.plays f.later h f.entries f.before).apart

  ledger-bearer : (c : List ℕ) → is_ledger s.key journal c ≡ true → Bearer all c
  ledger-bearer c e =
      go (any-in (bears c) all (and-right (list_any (λ f. bytes_eq (real.named f) c && (f.app == 0)) (channels (lines_of s.key journal))) (list_any (bears c) all) e))
    where
      go : Passing (bears c) all → Bearer all c
      go x = record { part = x.item; there = x.there; is = x.passes }

  -- its application is that of consensus channels
  pub ledger-app : (past : List Entry) (front : List Told) → IsFront h journal past front → (c : List ℕ) → is_ledger s.key journal c ≡ true → (f : FixedParts)
      → In f (channels (lines_of s.key front)) → real.named f ≡ c → f.app ≡ 0
  ledger-app past front place c e f i same =
      go (any-in (λ f. bytes_eq (real.named f) c && (f.app == 0)) (channels (lines_of s.key journal))
      (and-left (list_any (λ f. bytes_eq (real.named f) c && (f.app == 0)) (channels (lines_of s.key journal))) (list_any (bears c) all) e))
    where
      go : Passing (λ f. bytes_eq (real.named f) c && (f.app == 0)) (channels (lines_of s.key journal)) → f.app ≡ 0
      go x =
          let y = opened-there (lines_of s.key journal) x.item x.there in
          let one : f ≡ x.item =
          fair.nodes.distinct.names f x.item (occurs s h journal fair.nodes past front place f i) (inr (y.0, y.1, y.2))
          (same ∙ sym (same_bytes (real.named x.item) c (and-left (bytes_eq (real.named x.item) c) (x.item.app == 0) x.passes))) in
          ap (λ (z : FixedParts). z.app) one ∙ eqb-true x.item.app 0 (and-right (bytes_eq (real.named x.item) c) (x.item.app == 0) x.passes)

  module _ (past : List Entry) (front : List Told) (place : IsFront h journal past front) where
    lines-are : lines_of s.key journal ≡ lines_of s.key place.newer ++ lines_of s.key front
    lines-are = ap (lines_of s.key) place.events ∙ lines-append s.key place.newer front

    in-all : (p : Part) → In p (parts_at s past front) → In p all
    in-all p i =
        let w = plan-later orders (lines_of s.key place.newer) (lines_of s.key front) in
        subst (In p) (sym (ap (plan orders) lines-are ∙ w.1)) (In-append_left p (plan orders (lines_of s.key front)) w.0 (subst (In p) (parts-are past front place) i))

    -- a channel of a part that is a ledger is the part's own
    pub ledger-part : (p : Part) → In p (parts_at s past front) → (c : List ℕ) → is_among c (channels_of p) ≡ true → is_ledger s.key journal c ≡ true → bears c p ≡ true
    ledger-part p i c among on =
        let b = ledger-bearer c on in
        subst (λ (q : Part). bears c q ≡ true) (sym (one-part c all p b.part all-apart (in-all p i) b.there among (bears-among c b.part b.is))) b.is

    -- what a part stands on has such a part
    pub bearer-there : (p : Part) → In p (parts_at s past front) → (l : List ℕ) → In l (ledgers_of p) → Bearer (parts_at s past front) l
    bearer-there p i l on =
        subst (λ (ps : List Part). Bearer ps l) (sym (parts-are past front place))
        (bearer-of (plan orders (lines_of s.key front)) (whole s h journal past front fair.nodes place).whole p (subst (In p) (parts-are past front place) i) l (in-among l (ledgers_of p) on))

    -- so it is a ledger
    pub lent-on-ledger : (p : Part) (at : PartAt s past front p) → In p (parts_at s past front) → (l : List ℕ) (k : Lent) → lends_at s past front l p ≡ Some k → is_ledger s.key journal l ≡ true
    lent-on-ledger p at i l k is =
        and-both (list_any (λ f. bytes_eq (real.named f) l && (f.app == 0)) (channels (lines_of s.key journal))) (list_any (bears l) all)
        (any-of (λ f. bytes_eq (real.named f) l && (f.app == 0)) (channels (lines_of s.key journal)) a.on.fixed
        (subst (λ (ls : List Line). In a.on.fixed (channels ls)) (sym lines-are) (channels-grow (lines_of s.key place.newer) (lines_of s.key front) a.on.fixed a.on.seat.own.there))
        (and-both (bytes_eq (real.named a.on.fixed) l) (a.on.fixed.app == 0) (subst (λ (n : List ℕ). bytes_eq n l ≡ true) (sym a.on.named) (bytes_eq_self l)) (eq-eqb a.on.fixed.app 0 a.on.app)))
        (any-of (bears l) all b.part (in-all b.part b.there) b.is)
      where
        b : Bearer (parts_at s past front) l
        b = bearer-there p i l (lent-stands s past front p at l k is)

        a : LendsAt s past front l p k
        a = lends-is s past front p at l k is

    -- an end's consensus channel is one
    pub end-is-ledger : (v : Virtual) (g : Goal) → In (kinds.End v) (parts_at s past front) → (e : EndIs s.key past (lines_of s.key front) (facts_of (mind_at real s.key past front)) v g) → e.fixed.app ≡ 0
        → is_ledger s.key journal v.channel ≡ true
    end-is-ledger v g i e app =
        and-both (list_any (λ f. bytes_eq (real.named f) v.channel && (f.app == 0)) (channels (lines_of s.key journal))) (list_any (bears v.channel) all)
        (any-of (λ f. bytes_eq (real.named f) v.channel && (f.app == 0)) (channels (lines_of s.key journal)) e.fixed
        (subst (λ (ls : List Line). In e.fixed (channels ls)) (sym lines-are) (channels-grow (lines_of s.key place.newer) (lines_of s.key front) e.fixed e.seat.own.there))
        (and-both (bytes_eq (real.named e.fixed) v.channel) (e.fixed.app == 0) (subst (λ (n : List ℕ). bytes_eq n v.channel ≡ true) (sym e.named) (bytes_eq_self v.channel)) (eq-eqb e.fixed.app 0 app)))
        (any-of (bears v.channel) all (kinds.End v) (in-all (kinds.End v) i) (bytes_eq_self v.channel))
