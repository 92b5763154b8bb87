-- What ledgers set aside for parts, from one place of a node's journal to another.
use Rattle.std.proofs.Common.{◌≡◌, ℕ, ◌+◌, ◌≤◌, Bool, true, false, ◌&&◌, List, [], ◌∷◌, inl, inr, length, refl, sym, ◌∙◌, ap, subst, arith}
use Rattle.std.specs.Prelude.{Option, Some}
use Rattle.channel_values.specs.Parts.{FixedParts, StateParts}
use Rattle.channel_values.specs.declared.value.AssetOutcome.{AssetOutcome}
use Rattle.support_rules.specs.Toward.{is_settled}
use Rattle.channel_safety.proofs.Tests.{some-eq}
use Rattle.call_history.specs.declared.entry.Entry.{Entry}
use Rattle.channel_values.specs.Rules.{people}
use Rattle.funding_plans.specs.Parts.{own_channel, own_ledger}
use Rattle.funding_plans.specs.declared.plan.Goal.{Goal}
use Rattle.funding_plans.specs.declared.plan.Part.{Part}
use Rattle.funding_plans.specs.declared.plan.Part.TheVariants as kinds
use Rattle.funding_plans.specs.declared.plan.Virtual.{Virtual}
use Rattle.channel_safety.specs.Journals.{In, Line}
use Rattle.channel_node.specs.Minds.{facts_of}
use Rattle.channel_node.specs.Places.{Told, lines_of, mind_at}
use Rattle.channel_node.specs.Playing.{Signing}
use Rattle.node_guarantees.specs.NodeShareLaws.{IsFront}
use Rattle.funding_plans.specs.Outcomes.{names}
use Rattle.funding_plans.specs.Targets.{apart, together}
use Rattle.funding_plans.specs.declared.child.Child.{Child}
use Rattle.funding_plans.specs.declared.terms.Terms.{Terms}
use Rattle.share_laws.specs.Places.{channels, last_made}
use Rattle.funding_plans.specs.Gathered.{goal_in}
use Rattle.funding_plans.specs.Seats.{Seat, state_is, has_signed_past, settled_on}
use Rattle.support_rules.specs.Real.{real}
use Rattle.support_rules.specs.Steps.{persons}
use Rattle.virtual_channel.specs.Middles.{is_without, target_together}
use Rattle.fairness_laws.specs.JointKeeping.{EndsKeep, MiddlesKeep}
use Rattle.fairness_laws.proofs.Truths.{both-ways}
use Rattle.fairness_laws.specs.LedgerKeeping.{Later, Drifts, HasGoneUp}
use Rattle.fairness_laws.specs.LedgerLending.{Lent, of_funded, of_end}
use Rattle.fairness_laws.specs.LedgerPlaces.{parts_at, lends_at}
use Rattle.fairness_laws.specs.PaymentLaws.{At}
use Rattle.fairness_laws.specs.PlanLaws.{PartAt, PartsAreKnown}
use Rattle.fairness_laws.specs.PlanParts.{OnLedgerIs, JointIs, EndIs, MiddleIs}
use Rattle.fairness_laws.specs.PlanSeats.{SeatIs}
use Rattle.fairness_laws.specs.PlanSettings.{IsFair}
use Rattle.fairness_laws.proofs.Joint.Terms.{head-of, rest-of, terms-one}
use Rattle.fairness_laws.proofs.Ledger.Lent.{LendsAt, gate-of, asset-for, asset-of, of-a, of-b, by-kind, lends-is, lent-again, child-there, end-there, first-there, second-there}
use Rattle.fairness_laws.proofs.Seat.Past.{one-fixed, Past, people-are, past-of, of-past, own-late}
use Rattle.fairness_laws.proofs.Ledger.Ready.{Rests, part-at, ready-at, rests-up, end-keeps, middle-keeps}

child-eq : (x y : Child) → x.asset ≡ y.asset → x.name ≡ y.name → x.first ≡ y.first → x.second ≡ y.second → x.a ≡ y.a → x.b ≡ y.b → x ≡ y
child-eq x y e1 e2 e3 e4 e5 e6 =
    ap (λ (z : ℕ). record { asset = z; name = x.name; first = x.first; second = x.second; a = x.a; b = x.b }) e1
    ∙ (ap (λ (z : List ℕ). record { asset = y.asset; name = z; first = x.first; second = x.second; a = x.a; b = x.b }) e2
    ∙ (ap (λ (z : List ℕ). record { asset = y.asset; name = y.name; first = z; second = x.second; a = x.a; b = x.b }) e3
    ∙ (ap (λ (z : List ℕ). record { asset = y.asset; name = y.name; first = y.first; second = z; a = x.a; b = x.b }) e4
    ∙ (ap (λ (z : ℕ). record { asset = y.asset; name = y.name; first = y.first; second = y.second; a = z; b = x.b }) e5
    ∙ ap (λ (z : ℕ). record { asset = y.asset; name = y.name; first = y.first; second = y.second; a = y.a; b = z }) e6))))

-- by the channel that shows it
pub is-past : (s : Signing) (h : List Entry) (journal : List Told) (fair : IsFair s h journal) (past : List Entry) (front : List Told) (place : IsFront h journal past front)
    (l : List ℕ) (p : Part) (k : Lent) (a : LendsAt s past front l p k) → k.is_up ≡ true → Past a.fixed (lines_of s.key front)
is-past s h journal fair past front place l p k a e = past-of s h journal fair.nodes past front place a.fixed a.opening a.gate a.seat (sym a.is_up ∙ e)

pub is-up : (s : Signing) (h : List Entry) (journal : List Told) (fair : IsFair s h journal) (past : List Entry) (front : List Told) (place : IsFront h journal past front)
    (l : List ℕ) (p : Part) (k : Lent) (a : LendsAt s past front l p k) → Past a.fixed (lines_of s.key front) → k.is_up ≡ true
is-up s h journal fair past front place l p k a q = a.is_up ∙ of-past s h journal fair.nodes past front place a.fixed a.opening a.gate a.seat q

-- ---- two places

module _ (s : Signing) (h : List Entry) (journal : List Told) (fair : IsFair s h journal) (known : PartsAreKnown) (ends : EndsKeep) (middles : MiddlesKeep)
    (past : List Entry) (front : List Told) (at : At s h journal past front) (after : List Entry) (longer : List Told) (then : At s h journal after longer) where
  abbrev L : List Line
  L = lines_of s.key front

  abbrev M : List Line
  M = lines_of s.key longer

  fixed-one : (f g : FixedParts) → In f (channels L) → In g (channels M) → real.named f ≡ real.named g → f ≡ g
  fixed-one f g i j same = one-fixed s h journal fair past front at.front_is after longer then.front_is f g i j same

  -- ---- seats

  module _ (f : FixedParts) (opening : List AssetOutcome) (c : Seat) (seat : SeatIs s.key past L f opening c) (g : FixedParts) (begins : List AssetOutcome) (d : Seat)
      (sits : SeatIs s.key after M g begins d) (same : f ≡ g) where
    pub past-stays : (Past f L → Past f M) → has_signed_past c ≡ true → has_signed_past d ≡ true
    past-stays grows e =
        of-past s h journal fair.nodes after longer then.front_is g begins d sits
        (subst (λ (z : FixedParts). Past z M) same (grows (past-of s h journal fair.nodes past front at.front_is f opening c seat e)))

    pub past-before : (Past f M → Past f L) → has_signed_past d ≡ true → has_signed_past c ≡ true
    past-before was e =
        of-past s h journal fair.nodes past front at.front_is f opening c seat
        (was (subst (λ (z : FixedParts). Past z M) (sym same) (past-of s h journal fair.nodes after longer then.front_is g begins d sits e)))

    -- where nothing was signed since
    module _ (unsigned : last_made (real.named f) M ≡ last_made (real.named f) L) where
      pub past-same : has_signed_past d ≡ has_signed_past c
      past-same =
          both-ways (has_signed_past c) (has_signed_past d) (past-stays (λ p. record { signed = p.signed; is = unsigned ∙ p.is; far = p.far }))
          (past-before (λ p. record { signed = p.signed; is = sym unsigned ∙ p.is; far = p.far }))

      pub own-same : has_signed_past c ≡ true → d.own ≡ c.own
      own-same e =
          let q = past-of s h journal fair.nodes past front at.front_is f opening c seat e in
          own-late s h journal fair.nodes after longer then.front_is g begins d sits q.signed
          (subst (λ (z : FixedParts). last_made (real.named z) M ≡ Some q.signed) same (unsigned ∙ q.is)) (subst (λ (z : FixedParts). people z ≤ q.signed.state.turn + 1) same (more (people f) q.signed.state.turn q.far))
          ∙ sym (own-late s h journal fair.nodes past front at.front_is f opening c seat q.signed q.is (more (people f) q.signed.state.turn q.far))
        where
          more : (a b : ℕ) → a ≤ b → a ≤ b + 1
          more a b p = omega arith

      pub many-same : length d.people ≡ length c.people
      many-same =
          people-are s.key after M g begins d sits
          ∙ (ap people (sym same) ∙ sym (people-are s.key past L f opening c seat))

  -- ---- joint channels

  module _ (v : Virtual) (g b : Goal) (t u : Terms) (c d : Seat) (x : JointIs s.key past L v g t c) (y : JointIs s.key after M v b u d) where
    pub joint-fixed : x.fixed ≡ y.fixed
    joint-fixed = fixed-one x.fixed y.fixed x.seat.own.there y.seat.own.there (x.named ∙ sym y.named)

    pub terms-same : u ≡ t
    terms-same = sym (terms-one s h journal fair past front at.front_is after longer then.front_is v g b t u c d x y)

    module _ (unsigned : last_made v.joint M ≡ last_made v.joint L) where
      made-same : last_made (real.named x.fixed) M ≡ last_made (real.named x.fixed) L
      made-same = subst (λ (n : List ℕ). last_made n M ≡ last_made n L) (sym x.named) unsigned

      pub joint-own : has_signed_past c ≡ true → d.own ≡ c.own
      joint-own = own-same x.fixed (apart t g.amounts) c x.seat y.fixed (apart u b.amounts) d y.seat joint-fixed made-same

      pub joint-past : has_signed_past d ≡ has_signed_past c
      joint-past = past-same x.fixed (apart t g.amounts) c x.seat y.fixed (apart u b.amounts) d y.seat joint-fixed made-same

      pub joint-settled : has_signed_past c ≡ true → settled_on (Some (together u)) d ≡ settled_on (Some (together t)) c
      joint-settled e =
          ap (λ (n : ℕ). is_settled n (together u) d.own) (many-same x.fixed (apart t g.amounts) c x.seat y.fixed (apart u b.amounts) d y.seat joint-fixed made-same)
          ∙ (ap (λ (z : Terms). is_settled (length c.people) (together z) d.own) terms-same ∙ ap (is_settled (length c.people) (together t)) (joint-own e))

      pub joint-without : has_signed_past c ≡ true → state_is (is_without u) d.own ≡ state_is (is_without t) c.own
      joint-without e = ap (λ (z : Terms). state_is (is_without z) d.own) terms-same ∙ ap (state_is (is_without t)) (joint-own e)

  -- ---- what is set aside

  module _ (l : List ℕ) (p : Part) (k j : Lent) (a : LendsAt s past front l p k) (b : LendsAt s after longer l p j) where
    pub gate-fixed : a.fixed ≡ b.fixed
    gate-fixed = fixed-one a.fixed b.fixed a.seat.own.there b.seat.own.there (a.gate_named ∙ sym b.gate_named)

    asset-same : (p : Part) (g x : Goal) → x.opening ≡ g.opening → asset-for p x ≡ asset-for p g
    asset-same (kinds.Root c) g x e = ap asset-of e
    asset-same (kinds.OnLedger n c) g x e = ap asset-of e
    asset-same (kinds.End v) g x e = refl
    asset-same (kinds.Middle v) g x e = refl

    on-same : j.child.first ∷ j.child.second ∷ [] ≡ k.child.first ∷ k.child.second ∷ []
    on-same = sym b.on.people ∙ (ap persons (sym (fixed-one a.on.fixed b.on.fixed a.on.seat.own.there b.on.seat.own.there (a.on.named ∙ sym b.on.named))) ∙ a.on.people)

    pub child-same : b.goal.opening ≡ a.goal.opening → b.goal.amounts ≡ a.goal.amounts → j.child ≡ k.child
    child-same opening amounts =
        child-eq j.child k.child (b.asset ∙ (asset-same p a.goal b.goal opening ∙ sym a.asset)) (b.named ∙ sym a.named) (ap head-of on-same)
        (ap (λ (x : List (List ℕ)). head-of (rest-of x)) on-same) (ap (λ (x : ℕ × ℕ). x.0) pairs) (ap (λ (x : ℕ × ℕ). x.1) pairs)
      where
        pairs : ◌≡◌ {A = ℕ × ℕ} (j.child.a, j.child.b) (k.child.a, k.child.b)
        pairs = sym b.amounts ∙ (amounts ∙ a.amounts)

    pub up-stays : (Past a.fixed L → Past a.fixed M) → k.is_up ≡ true → j.is_up ≡ true
    up-stays grows e = b.is_up ∙ past-stays a.fixed a.opening a.gate a.seat b.fixed b.opening b.gate b.seat gate-fixed grows (sym a.is_up ∙ e)

    pub up-before : (Past a.fixed M → Past a.fixed L) → j.is_up ≡ true → k.is_up ≡ true
    up-before was e = a.is_up ∙ past-before a.fixed a.opening a.gate a.seat b.fixed b.opening b.gate b.seat gate-fixed was (sym b.is_up ∙ e)

    -- it is past it now
    pub past-now : j.is_up ≡ true → Past a.fixed M
    past-now e = subst (λ (f : FixedParts). Past f M) (sym gate-fixed) (past-of s h journal fair.nodes after longer then.front_is b.fixed b.opening b.gate b.seat (sym b.is_up ∙ e))

  -- What holds of what is set aside at both places, for each kind, holds of all that is.
  pub by-both : (P : List ℕ → Part → Lent → Lent → Type 0) (p : Part) → In p (parts_at s past front) → In p (parts_at s after longer)
      → ((l c : List ℕ) (g b : Goal) (o : OnLedgerIs s.key past L (facts_of (mind_at real s.key past front)) l c g) (y : OnLedgerIs s.key after M (facts_of (mind_at real s.key after longer)) l c b)
      → kinds.OnLedger l c ≡ p → P l (kinds.OnLedger l c) (of_funded o.funded) (of_funded y.funded))
      → ((v : Virtual) (g b : Goal) (e : EndIs s.key past L (facts_of (mind_at real s.key past front)) v g) (y : EndIs s.key after M (facts_of (mind_at real s.key after longer)) v b)
      → kinds.End v ≡ p → P (own_ledger v) (kinds.End v) (of_end e.end) (of_end y.end))
      → ((v : Virtual) (g b : Goal) (m : MiddleIs s.key past L (facts_of (mind_at real s.key past front)) v g) (y : MiddleIs s.key after M (facts_of (mind_at real s.key after longer)) v b)
      → kinds.Middle v ≡ p → P v.ledger_a (kinds.Middle v) (of-a m.middle) (of-a y.middle))
      → ((v : Virtual) (g b : Goal) (m : MiddleIs s.key past L (facts_of (mind_at real s.key past front)) v g) (y : MiddleIs s.key after M (facts_of (mind_at real s.key after longer)) v b)
      → kinds.Middle v ≡ p → P v.ledger_b (kinds.Middle v) (of-b m.middle) (of-b y.middle))
      → (n : List ℕ) (k j : Lent) → lends_at s past front n p ≡ Some k → lends_at s after longer n p ≡ Some j → P n p k j
  by-both P p i o child end first second n k j isk isj =
      by-kind s past front (λ (n : List ℕ) (p : Part) (k : Lent). (j : Lent) → lends_at s after longer n p ≡ Some j → P n p k j) p (part-at s h journal fair known ends middles past front at p i)
      (λ l c g x same found j e.
      let y = now (kinds.OnLedger l c) same in
      subst (P l (kinds.OnLedger l c) (of_funded x.funded)) (some-eq (of_funded y.is.funded) j (sym (child-there s after longer l c y.goal y.is) ∙ e)) (child l c g y.goal x y.is same))
      (λ v g x same found j e.
      let y = now (kinds.End v) same in
      subst (P (own_ledger v) (kinds.End v) (of_end x.end)) (some-eq (of_end y.is.end) j (sym (end-there s after longer v y.goal y.is) ∙ e)) (end v g y.goal x y.is same))
      (λ v g x same found j e.
      let y = now (kinds.Middle v) same in
      subst (P v.ledger_a (kinds.Middle v) (of-a x.middle)) (some-eq (of-a y.is.middle) j (sym (first-there s after longer v y.goal y.is) ∙ e)) (first v g y.goal x y.is same))
      (λ v g x same found differ j e.
      let y = now (kinds.Middle v) same in
      subst (P v.ledger_b (kinds.Middle v) (of-b x.middle)) (some-eq (of-b y.is.middle) j (sym (second-there s after longer v y.goal y.is differ) ∙ e)) (second v g y.goal x y.is same))
      n k isk j isj
    where
      now : (q : Part) → q ≡ p → PartAt s after longer q
      now q same = part-at s h journal fair known ends middles after longer then q (subst (λ (z : Part). In z (parts_at s after longer)) (sym same) o)

  -- where nothing was signed since, no less and no more is to be done
  module _ (unsigned : (c : List ℕ) → last_made c M ≡ last_made c L) (p : Part) (i : In p (parts_at s past front)) (o : In p (parts_at s after longer)) where
    pub done-same : (l : List ℕ) (k j : Lent) → lends_at s past front l p ≡ Some k → lends_at s after longer l p ≡ Some j → j.done ≡ k.done
    done-same l k j isk isj =
        by-both (λ (l : List ℕ) (p : Part) (k j : Lent). j.done ≡ k.done) p i o
        (λ l c g b x y is.
        past-same x.fixed g.opening x.funded.channel x.seat y.fixed b.opening y.funded.channel y.seat
        (fixed-one x.fixed y.fixed x.seat.own.there y.seat.own.there (x.named ∙ sym y.named)) (unsigned (real.named x.fixed)))
        (λ v g b x y is.
        past-same x.fixed g.opening x.end.channel x.seat y.fixed b.opening y.end.channel y.seat
        (fixed-one x.fixed y.fixed x.seat.own.there y.seat.own.there (x.named ∙ sym y.named)) (unsigned (real.named x.fixed)))
        (λ v g b x y is. of v g b x y is) (λ v g b x y is. of v g b x y is) l k j isk isj
      where
        of : (v : Virtual) (g b : Goal) (m : MiddleIs s.key past L (facts_of (mind_at real s.key past front)) v g) (y : MiddleIs s.key after M (facts_of (mind_at real s.key after longer)) v b)
            → kinds.Middle v ≡ p → settled_on (target_together y.middle) y.middle.joint ≡ settled_on (target_together m.middle) m.middle.joint
        of v g b m y is =
            both-ways (settled_on (target_together m.middle) m.middle.joint) (settled_on (target_together y.middle) y.middle.joint)
            (λ e. same ((middle-keeps s h journal fair known ends middles past front at v g (subst (λ (z : Part). In z (parts_at s past front)) (sym is) i) m).past (inr e)) ∙ e)
            (λ e. sym (same (sym (joint-past v g b m.middle.terms y.middle.terms m.middle.joint y.middle.joint m.joint y.joint (unsigned v.joint))
            ∙ (middle-keeps s h journal fair known ends middles after longer then v b (subst (λ (z : Part). In z (parts_at s after longer)) (sym is) o) y).past (inr e))) ∙ e)
          where
            same : has_signed_past m.middle.joint ≡ true → settled_on (target_together y.middle) y.middle.joint ≡ settled_on (target_together m.middle) m.middle.joint
            same = joint-settled v g b m.middle.terms y.middle.terms m.middle.joint y.middle.joint m.joint y.joint (unsigned v.joint)

    pub falls-same : (l : List ℕ) (k j : Lent) → lends_at s past front l p ≡ Some k → lends_at s after longer l p ≡ Some j → j.closing ≡ k.closing → j.falls ≡ k.falls
    falls-same l k j isk isj =
        by-both (λ (l : List ℕ) (p : Part) (k j : Lent). j.closing ≡ k.closing → j.falls ≡ k.falls) p i o
        (λ l c g b x y is closes. closes)
        (λ v g b x y is closes.
        both x.end.closing y.end.closing (state_is (is_without x.end.terms) x.end.joint.own) (state_is (is_without y.end.terms) y.end.joint.own) closes
        (λ e. joint-without v g b x.end.terms y.end.terms x.end.joint y.end.joint x.joint y.joint (unsigned v.joint)
        ((end-keeps s h journal fair known ends middles past front at v g (subst (λ (z : Part). In z (parts_at s past front)) (sym is) i) x).past (inl e))))
        (λ v g b x y is closes. of v g b x y is closes) (λ v g b x y is closes. of v g b x y is closes) l k j isk isj
      where
        both : (c d a b : Bool) → d ≡ c → (c ≡ true → b ≡ a) → (d && b) ≡ (c && a)
        both true d a b e f = ap (λ (t : Bool). t && b) e ∙ f refl
        both false d a b e f = ap (λ (t : Bool). t && b) e

        of : (v : Virtual) (g b : Goal) (m : MiddleIs s.key past L (facts_of (mind_at real s.key past front)) v g) (y : MiddleIs s.key after M (facts_of (mind_at real s.key after longer)) v b)
            → kinds.Middle v ≡ p → y.middle.closing ≡ m.middle.closing → (of-a y.middle).falls ≡ (of-a m.middle).falls
        of v g b m y is closes =
            both m.middle.closing y.middle.closing (state_is (is_without m.middle.terms) m.middle.joint.own) (state_is (is_without y.middle.terms) y.middle.joint.own) closes
            (λ e. joint-without v g b m.middle.terms y.middle.terms m.middle.joint y.middle.joint m.joint y.joint (unsigned v.joint)
            ((middle-keeps s h journal fair known ends middles past front at v g (subst (λ (z : Part). In z (parts_at s past front)) (sym is) i) m).past (inl e)))

  -- ---- drift

  module _ (own : List ℕ → Option StateParts) (same : (p : Part) → In p (parts_at s past front) → In p (parts_at s after longer))
      (goals : (l : List ℕ) (p : Part) (k : Lent) → In p (parts_at s past front) → lends_at s past front l p ≡ Some k
      → (g : Goal) → goal_in (facts_of (mind_at real s.key past front)) (own_channel p) ≡ Some g → goal_in (facts_of (mind_at real s.key after longer)) (own_channel p) ≡ Some g)
      (grows : (f : FixedParts) → In f (channels L) → Past f L → Past f M)
      (rises : (l : List ℕ) (p : Part) (k : Lent) (a : LendsAt s past front l p k) → In p (parts_at s past front) → lends_at s past front l p ≡ Some k → k.is_up ≡ false → Past a.fixed M
      → (last : StateParts) → own l ≡ Some last → HasGoneUp k last)
      (stays : (l : List ℕ) (p : Part) (k : Lent) → In p (parts_at s past front) → lends_at s past front l p ≡ Some k → Rests p k → last_made (gate-of p) M ≡ last_made (gate-of p) L) where
    module _ (l : List ℕ) (p : Part) (k j : Lent) (i : In p (parts_at s past front)) (isk : lends_at s past front l p ≡ Some k) (isj : lends_at s after longer l p ≡ Some j) where
      a : LendsAt s past front l p k
      a = lends-is s past front p (part-at s h journal fair known ends middles past front at p i) l k isk

      b : LendsAt s after longer l p j
      b = lends-is s after longer p (part-at s h journal fair known ends middles after longer then p (same p i)) l j isj

      goal-same : b.goal ≡ a.goal
      goal-same = some-eq b.goal a.goal (sym b.found ∙ goals l p k i isk a.goal a.found)

      child : j.child ≡ k.child
      child = child-same l p k j a b (ap (λ (x : Goal). x.opening) goal-same) (ap (λ (x : Goal). x.amounts) goal-same)

      closing : j.closing ≡ k.closing
      closing = b.closing ∙ (ap (λ (x : Goal). x.closing) goal-same ∙ sym a.closing)

      done : (Rests p k → last_made (gate-of p) M ≡ last_made (gate-of p) L) → k.is_up ≡ true → k.closing ≡ false → k.done ≡ true → j.done ≡ true
      done =
          by-both (λ (l : List ℕ) (p : Part) (k j : Lent). (Rests p k → last_made (gate-of p) M ≡ last_made (gate-of p) L) → k.is_up ≡ true → k.closing ≡ false → k.done ≡ true → j.done ≡ true)
          p i (same p i)
          (λ l c g b o y is rest up running e.
          past-stays o.fixed g.opening o.funded.channel o.seat y.fixed b.opening y.funded.channel y.seat
          (fixed-one o.fixed y.fixed o.seat.own.there y.seat.own.there (o.named ∙ sym y.named)) (grows o.fixed o.seat.own.there) e)
          (λ v g b o y is rest up running e.
          past-stays o.fixed g.opening o.end.channel o.seat y.fixed b.opening y.end.channel y.seat
          (fixed-one o.fixed y.fixed o.seat.own.there y.seat.own.there (o.named ∙ sym y.named)) (grows o.fixed o.seat.own.there) e)
          (λ v g b o y is rest up running e.
          joint-settled v g b o.middle.terms y.middle.terms o.middle.joint y.middle.joint o.joint y.joint (rest (inr (running, e))) up ∙ e)
          (λ v g b o y is rest up running e.
          joint-settled v g b o.middle.terms y.middle.terms o.middle.joint y.middle.joint o.joint y.joint (rest (inr (running, e))) up ∙ e)
          l k j isk isj

      falls : (Rests p k → last_made (gate-of p) M ≡ last_made (gate-of p) L) → (Rests p k → k.is_up ≡ true) → j.closing ≡ k.closing → k.falls ≡ true → j.falls ≡ true
      falls =
          by-both (λ (l : List ℕ) (p : Part) (k j : Lent). (Rests p k → last_made (gate-of p) M ≡ last_made (gate-of p) L) → (Rests p k → k.is_up ≡ true) → j.closing ≡ k.closing → k.falls ≡ true → j.falls ≡ true)
          p i (same p i)
          (λ l c g b o y is rest up closes e. closes ∙ e)
          (λ v g b o y is rest up closes e.
          ap (λ (t : Bool). t && state_is (is_without y.end.terms) y.end.joint.own) closes
          ∙ (ap (λ (t : Bool). o.end.closing && t) (joint-without v g b o.end.terms y.end.terms o.end.joint y.end.joint o.joint y.joint (rest e) (up e)) ∙ e))
          (λ v g b o y is rest up closes e.
          ap (λ (t : Bool). t && state_is (is_without y.middle.terms) y.middle.joint.own) closes
          ∙ (ap (λ (t : Bool). o.middle.closing && t) (joint-without v g b o.middle.terms y.middle.terms o.middle.joint y.middle.joint o.joint y.joint (rest (inl e)) (up (inl e))) ∙ e))
          (λ v g b o y is rest up closes e.
          ap (λ (t : Bool). t && state_is (is_without y.middle.terms) y.middle.joint.own) closes
          ∙ (ap (λ (t : Bool). o.middle.closing && t) (joint-without v g b o.middle.terms y.middle.terms o.middle.joint y.middle.joint o.joint y.joint (rest (inl e)) (up (inl e))) ∙ e))
          l k j isk isj

      later : Later k j (own l)
      later = record {
        child = child;
        closing = closing;
        is_up = up-stays l p k j a b (grows a.fixed a.seat.own.there);
        done = λ running e. done (stays l p k i isk) (ready-at s h journal fair known ends middles past front at p i l k isk running e) running e;
        ready = ready-at s h journal fair known ends middles after longer then p (same p i) l j isj;
        falls = falls (stays l p k i isk) (rests-up s h journal fair known ends middles past front at p i l k isk) closing;
        rises = λ early up last signed.
            let g = rises l p k a i isk early (past-now l p k j a b up) last signed in
            record { alone = g.alone; named = subst (λ (x : Child). names x last.outcome ≡ true) (sym child) g.named };
      }

    pub drifts-so : Drifts (parts_at s past front) (lends_at s past front) (lends_at s after longer) own
    drifts-so = record { before = before; after = next }
      where
        was : (p : Part) → In p (parts_at s past front) → PartAt s past front p
        was p i = part-at s h journal fair known ends middles past front at p i

        now : (p : Part) → In p (parts_at s past front) → PartAt s after longer p
        now p i = part-at s h journal fair known ends middles after longer then p (same p i)

        next : (l : List ℕ) (p : Part) (k : Lent) → In p (parts_at s past front) → lends_at s past front l p ≡ Some k → (j : Lent) × (lends_at s after longer l p ≡ Some j)
        next l p k i is = lent-again s past front after longer p (was p i) (now p i) l k is

        before : (l : List ℕ) (p : Part) (j : Lent) → In p (parts_at s past front) → lends_at s after longer l p ≡ Some j → (k : Lent) × (lends_at s past front l p ≡ Some k) × Later k j (own l)
        before l p j i is = let w = lent-again s after longer past front p (now p i) (was p i) l j is in (w.0, w.1, later l p w.0 j i w.1 is)
