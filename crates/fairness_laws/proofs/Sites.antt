-- Where a node's votes stand: on a ledger of a part that is pending, or in the joint channel of one.
use Rattle.std.proofs.Common.{◌≡◌, ℕ, ◌≤◌, Bool, true, false, cond, ◌&&◌, ◌||◌, ◌⊎◌, inl, inr, List, [], ◌∷◌, refl, sym, ◌∙◌, ap, subst, arith}
use Rattle.std.proofs.lemmas.Bool.Decides.{nat_tests}
use Rattle.std.specs.Prelude.{◌==◌, Option, Some, None}
use Rattle.std.specs.List.{list_any}
use Rattle.std.specs.Option.{option_map}
use Rattle.std.specs.Str.{bytes_eq}
use Rattle.channel_values.specs.Parts.{FixedParts, StateParts}
use Rattle.channel_values.specs.declared.chain.Signed.{Signed}
use Rattle.channel_values.specs.declared.value.AssetOutcome.{AssetOutcome}
use Rattle.channel_safety.proofs.Tests.{some-eq, none-eq, clash, and-both, cond-true}
use Rattle.call_history.proofs.Names.{bytes_eq_self}
use Rattle.call_history.specs.declared.entry.Entry.{Entry}
use Rattle.call_history.specs.declared.held_chain.Known.{Known}
use Rattle.fairness_laws.proofs.Payments.{root-bare}
use Rattle.fairness_laws.proofs.Votes.{fixed, own-there, named-so, joins, last-named, signed-is, seat-own}
use Rattle.fairness_laws.proofs.Joint.EndsKeep.{ends_keep}
use Rattle.fairness_laws.proofs.Joint.MiddlesKeep.{middles_keep}
use Rattle.fairness_laws.proofs.Joint.Seats.{same-fixed}
use Rattle.fairness_laws.proofs.Ledger.Full.{signed-last}
use Rattle.fairness_laws.proofs.Ledger.Lent.{of-a, of-b, same-name, lent-end, lent-middle, end-there, first-there}
use Rattle.fairness_laws.proofs.Ledger.Plans.{lent-stands, end-is-ledger}
use Rattle.fairness_laws.proofs.Ledger.Standing.{ledgers_back, known-signed}
use Rattle.fairness_laws.proofs.OpenedVirtuals.{end-opened, middle-opened}
use Rattle.fairness_laws.proofs.Outcomes.{alone}
use Rattle.fairness_laws.proofs.Payment.Shares.{children_share, ends_share}
use Rattle.fairness_laws.proofs.Plan.Names.{in-among}
use Rattle.fairness_laws.proofs.Plan.Parts.{parts_are_known}
use Rattle.fairness_laws.proofs.Plan.Plans.{plans_are_whole}
use Rattle.fairness_laws.proofs.Plans.{whole-place}
use Rattle.fairness_laws.specs.JointKeeping.{EndKeeps, MiddleKeeps}
use Rattle.fairness_laws.specs.LedgerKeeping.{Lends, IsPending, IsVoted, PendingOn}
use Rattle.fairness_laws.specs.LedgerLending.{Lent, of_end}
use Rattle.fairness_laws.specs.LedgerPlaces.{is_ledger, own_at, lends_at, KeepAt}
use Rattle.fairness_laws.specs.OpeningChannels.{SignsOnly}
use Rattle.fairness_laws.specs.PaymentLaws.{At}
use Rattle.fairness_laws.specs.PlanLaws.{PartAt}
use Rattle.fairness_laws.specs.PlanParts.{RootIs, LedgerIs, EndIs, MiddleIs}
use Rattle.fairness_laws.specs.PlanSettings.{IsFair}
use Rattle.funding_plans.specs.Parts.{own_ledger, joined_of, ledgers_of}
use Rattle.funding_plans.specs.declared.plan.Part.{Part}
use Rattle.funding_plans.specs.declared.plan.Part.TheVariants as kinds
use Rattle.funding_plans.specs.declared.plan.Virtual.{Virtual}
use Rattle.channel_safety.specs.Journals.{In, Line, made_in}
use Rattle.channel_node.specs.Minds.{Mind, facts_of}
use Rattle.channel_node.specs.Places.{Told, lines_of, mind_at}
use Rattle.channel_node.specs.Playing.{Signing}
use Rattle.node_guarantees.proofs.Telling.{places_tell_shares}
use Rattle.node_guarantees.specs.Orders.{orders_of}
use Rattle.fairness_laws.specs.PlanBearers.{bears}
use Rattle.stage_tables.specs.Stages.{stages}
use Rattle.funding_plans.specs.Outcomes.{names}
use Rattle.share_laws.specs.Places.{channels, plan, last_made, outcomes_of}
use Rattle.funding_plans.specs.Seats.{state_is, has_signed_past, settled_on}
use Rattle.support_rules.specs.Real.{real}
use Rattle.virtual_channel.specs.Ends as ends
use Rattle.virtual_channel.specs.Ends.{End}
use Rattle.virtual_channel.specs.Middles as middles
use Rattle.virtual_channel.specs.Middles.{Middle, is_without}

-- ---- a part

-- the channels of a part in which three people vote
abbrev pub joints_of : Part → List (List ℕ)
joints_of (kinds.Root channel) = []
joints_of (kinds.OnLedger ledger channel) = []
joints_of (kinds.End v) = v.joint ∷ []
joints_of (kinds.Middle v) = v.joint ∷ []

any-of : {A : Type 0} (is : A → Bool) (xs : List A) (y : A) → In y xs → is y ≡ true → list_any is xs ≡ true
any-of is [] y i e = absurd i
any-of is (x ∷ xs) y (inl same) e = ap (λ (b : Bool). b || list_any is xs) (ap is (sym same) ∙ e)
any-of is (x ∷ xs) y (inr i) e = later (is x) (any-of is xs y i e)
  where
    later : (b : Bool) → list_any is xs ≡ true → (b || list_any is xs) ≡ true
    later true e = refl
    later false e = e

zero-or-one : (n : ℕ) → n ≤ 1 → (n ≡ 0) ⊎ (n ≡ 1)
zero-or-one n low = go (n == 0) refl
  where
    go : (b : Bool) → (n == 0) ≡ b → (n ≡ 0) ⊎ (n ≡ 1)
    go true e = inl (grind (arith, nat_tests))
    go false e = inr (grind (arith, nat_tests))

-- ---- the end of a journal

module _ (s : Signing) (h : List Entry) (journal : List Told) (fair : IsFair s h journal) where
  abbrev at : At s h journal h journal
  at = whole-place s h journal fair

  abbrev m : Mind
  m = mind_at real s.key h journal

  abbrev L : List Line
  L = lines_of s.key journal

  abbrev lends : Lends
  lends = lends_at s h journal

  abbrev own : List ℕ → Option StateParts
  own = own_at s.key journal journal

  pub keep : KeepAt s journal h journal
  keep = ledgers_back s h journal fair h journal at

  -- votes on a ledger, for a part
  pub record AtLedger (c : List ℕ) : Type 0 where
    pub part : Part
    pub there : In part m.parts
    pub lent : Lent
    pub is : lends c part ≡ Some lent
    pub last : StateParts
    pub signed : own c ≡ Some last
    pub voted : IsVoted lent last

  -- votes in the joint channel of a part that is pending, and has none on its ledgers
  pub record AtJoint (c : List ℕ) : Type 0 where
    pub part : Part
    pub there : In part m.parts
    pub pending : PendingOn lends own part
    pub joint : In c (joints_of part)
    pub quiet : (l : List ℕ) (k : Lent) (last : StateParts) → lends l part ≡ Some k → IsVoted k last → ⊥

  abbrev pub Site : List ℕ → Type 0
  Site c = AtLedger c ⊎ AtJoint c

  known : (p : Part) → In p m.parts → PartAt s h journal p
  known p there = parts_are_known s h journal h journal fair.nodes at.front_is p there

  -- what is voted for is pending
  pub pends : (c : List ℕ) (a : AtLedger c) → PendingOn lends own a.part
  pends c a = record { ledger = c; lent = a.lent; is = a.is; last = a.last; signed = a.signed; pending = by a.voted }
    where
      by : IsVoted a.lent a.last → IsPending a.lent a.last
      by (inr w) = inr (w.0, w.2)
      by (inl w) = inl (w.0, early a.lent.done refl)
        where
          early : (b : Bool) → a.lent.done ≡ b → a.lent.done ≡ false
          early false e = e
          early true e = absurd (clash a.lent.is_up (keep.ready c a.part a.lent a.there a.is w.0 e) w.1)

  pub stands : (c : List ℕ) (a : AtLedger c) → In c (ledgers_of a.part)
  stands c a = lent-stands s h journal a.part (known a.part a.there) c a.lent a.is

  -- a state was signed in each ledger of a part
  module _ (p : Part) (there : In p m.parts) (l : List ℕ) (on : In l (ledgers_of p)) (k : Lent) (is : lends l p ≡ Some k) where
    ledger-signed : (first second : List ℕ) → LedgerIs s.key h L first second l k.ledger → (last : StateParts) × (own l ≡ Some last)
    ledger-signed first second ledger =
        let w = signed-last s h journal fair h journal at p there l (in-among l (ledgers_of p) on) first second k.ledger ledger in
        (w.ends.last.state, known-signed s h journal fair parts_are_known plans_are_whole ends_keep middles_keep h journal at p there l k w.ends.last.state is w.own_is)

    -- that went up and may not go down yet, so it names the child
    names-child : (last : StateParts) → own l ≡ Some last → k.is_up ≡ true → k.falls ≡ false → names k.child last.outcome ≡ true
    names-child last signed up stays = ((keep.ledgers l last signed).backs p k last.outcome there is (inl refl)).up up stays

  -- ---- a known state without a single outcome

  module _ (k : Known) (i : In k (facts_of m).known) (two : (o : List AssetOutcome) → outcomes_of k.last ≡ o ∷ [] → ⊥) where
    abbrev c : List ℕ
    c = k.channel

    bare : k.last.app_bytes ≡ [] → ⊥
    bare e = two k.last.outcome (alone k.last e)

    -- ---- a channel that holds its own funds

    module _ (name : List ℕ) (there : In (kinds.Root name) m.parts) (named : c ≡ name) where
      root : PartAt s h journal (kinds.Root name)
      root = known (kinds.Root name) there

      root-is : RootIs s.key h L (facts_of m) name root.goal
      root-is = root.is

      f-is : root-is.fixed ≡ fixed s h journal fair h journal at k i
      f-is =
          same-fixed s h journal fair h journal at root-is.fixed (fixed s h journal fair h journal at k i) root-is.seat.own.there (own-there s h journal fair h journal at k i)
          (root-is.named ∙ (sym named ∙ sym (named-so s h journal fair h journal at k i)))

      parts-are : m.parts ≡ plan (orders_of real s.key journal) L
      parts-are = (places_tell_shares stages real s h journal h journal fair.nodes.legal fair.nodes.plays at.front_is).parts

      ledger-there : root-is.fixed.app ≡ 0 → is_ledger s.key journal c ≡ true
      ledger-there app =
          and-both (list_any (λ f. bytes_eq (real.named f) c && (f.app == 0)) (channels L)) (list_any (bears c) (plan (orders_of real s.key journal) L))
          (any-of (λ f. bytes_eq (real.named f) c && (f.app == 0)) (channels L) root-is.fixed root-is.seat.own.there
          (and-both (bytes_eq (real.named root-is.fixed) c) (root-is.fixed.app == 0) (ap (λ (n : List ℕ). bytes_eq n c) (root-is.named ∙ sym named) ∙ bytes_eq_self c) (zero root-is.fixed.app app)))
          (any-of (bears c) (plan (orders_of real s.key journal) L) (kinds.Root name) (subst (In (kinds.Root name)) parts-are there) (ap (λ (n : List ℕ). bytes_eq name n) named ∙ bytes_eq_self name))
        where
          zero : (n : ℕ) → n ≡ 0 → (n == 0) ≡ true
          zero n e = grind (arith, nat_tests)

      signed-there : root-is.fixed.app ≡ 0 → own c ≡ Some k.last
      signed-there app =
          cond-true (is_ledger s.key journal c) (option_map (λ (z : Signed). z.state) (last_made c L)) None (ledger-there app)
          ∙ last-named s h journal fair h journal at k i

      on-a-ledger : root-is.fixed.app ≡ 0 → Site c
      on-a-ledger app = go (keep.ledgers c k.last (signed-there app)).quiet
        where
          go : (outcomes_of k.last ≡ k.last.outcome ∷ []) ⊎ ((p : Part) × (j : Lent) × In p m.parts × (lends c p ≡ Some j) × IsVoted j k.last) → Site c
          go (inl e) = absurd (two k.last.outcome e)
          go (inr w) = inl (record { part = w.0; there = w.2; lent = w.1; is = w.3; last = k.last; signed = signed-there app; voted = w.4 })

      at-root : Site c
      at-root = go (zero-or-one root-is.fixed.app root-is.app)
        where
          go : (root-is.fixed.app ≡ 0) ⊎ (root-is.fixed.app ≡ 1) → Site c
          go (inl app) = on-a-ledger app
          go (inr app) =
              absurd (bare (signed-is s h journal fair h journal at k i (λ t. t.app_bytes ≡ [])
              (λ y n j made. root-bare s h journal fair h journal at name root.goal there root.found root-is.fixed root-is.seat.own.there root-is.named app y n j
              (subst (λ (x : List ℕ). made_in x y.deed ≡ Some n) (named ∙ sym root-is.named) made))))

    -- ---- a guarantor signs its guarantee alone

    guaranteed : (f : FixedParts) (promise : List AssetOutcome) → SignsOnly f promise L → real.named f ≡ c → ⊥
    guaranteed f promise signs named =
        bare (signed-is s h journal fair h journal at k i (λ t. t.app_bytes ≡ [])
        (λ y n j made. (signs y n j (subst (λ (x : List ℕ). made_in x y.deed ≡ Some n) (sym named) made)).2))

    -- ---- a joint channel

    module _ (v : Virtual) (there : In (kinds.End v) m.parts) where
      end-at : PartAt s h journal (kinds.End v)
      end-at = known (kinds.End v) there

      e : EndIs s.key h L (facts_of m) v end-at.goal
      e = end-at.is

      abbrev p : End
      p = e.end

      abbrev lent-of : Lent
      lent-of = of_end p

      lent-is : lends (own_ledger v) (kinds.End v) ≡ Some lent-of
      lent-is = end-there s h journal v end-at.goal e

      keeps : EndKeeps end-at.goal p
      keeps = ends_keep s h journal h journal fair at v end-at.goal there e

      ledger-last : (last : StateParts) × (own (own_ledger v) ≡ Some last)
      ledger-last = ledger-signed (kinds.End v) there (own_ledger v) (inl refl) lent-of lent-is p.child.first p.child.second e.on

      module _ (named : c ≡ v.joint) where
        joint-own : p.joint.own ≡ Some k.last
        joint-own = seat-own s h journal fair h journal at k i e.joint.fixed _ p.joint e.joint.seat (e.joint.named ∙ sym named)

        up : has_signed_past p.joint ≡ true
        up = go (has_signed_past p.joint) refl
          where
            go : (b : Bool) → has_signed_past p.joint ≡ b → has_signed_past p.joint ≡ true
            go true q = q
            go false q = absurd (two _ (keeps.opens k.last joint-own q))

        late : p.closing ≡ false → has_signed_past p.channel ≡ false
        late stays = go (has_signed_past p.channel) refl
          where
            go : (b : Bool) → has_signed_past p.channel ≡ b → has_signed_past p.channel ≡ false
            go false q = q
            go true q = absurd (two _ (keeps.joined stays (keeps.opened stays q) k.last joint-own).0)

        back : p.closing ≡ true → state_is (is_without p.terms) p.joint.own ≡ false
        back closes = keeps.without closes ∙ go (settled_on (ends.target_back p) p.joint) refl
          where
            go : (b : Bool) → settled_on (ends.target_back p) p.joint ≡ b → settled_on (ends.target_back p) p.joint ≡ false
            go false q = q
            go true q = absurd (two _ (keeps.parted closes q k.last joint-own).1)

        stays-up : p.closing ≡ true → lent-of.falls ≡ false
        stays-up closes = ap (λ (b : Bool). p.closing && b) (back closes) ∙ none p.closing
          where
            none : (b : Bool) → (b && false) ≡ false
            none true = refl
            none false = refl

        pending : IsPending lent-of ledger-last.0
        pending = go p.closing refl
          where
            go : (b : Bool) → p.closing ≡ b → IsPending lent-of ledger-last.0
            go false q = inl (q, late q)
            go true q = inr (q, names-child (kinds.End v) there (own_ledger v) (inl refl) lent-of lent-is ledger-last.0 ledger-last.1 up (stays-up q))

        quiet-so : (last : StateParts) → IsVoted lent-of last → ⊥
        quiet-so last (inl w) = clash (has_signed_past p.joint) up w.1
        quiet-so last (inr w) = clash lent-of.falls w.1 (stays-up w.0)

        quiet : (l : List ℕ) (j : Lent) (last : StateParts) → lends l (kinds.End v) ≡ Some j → IsVoted j last → ⊥
        quiet l j last is voted =
            let same = same-name (own_ledger v) l lent-of j (sym (lent-end s h journal l v end-at.goal e) ∙ is) in
            quiet-so last (subst (λ (z : Lent). IsVoted z last) (sym same.1) voted)

        at-end-joint : Site c
        at-end-joint = inr (record {
          part = kinds.End v;
          there = there;
          pending = record { ledger = own_ledger v; lent = lent-of; is = lent-is; last = ledger-last.0; signed = ledger-last.1; pending = pending };
          joint = inl named;
          quiet = quiet;
        })

    module _ (v : Virtual) (there : In (kinds.Middle v) m.parts) where
      middle-at : PartAt s h journal (kinds.Middle v)
      middle-at = known (kinds.Middle v) there

      y : MiddleIs s.key h L (facts_of m) v middle-at.goal
      y = middle-at.is

      abbrev q : Middle
      q = y.middle

      lent-first : lends v.ledger_a (kinds.Middle v) ≡ Some (of-a q)
      lent-first = first-there s h journal v middle-at.goal y

      middle-keeps : MiddleKeeps middle-at.goal q
      middle-keeps = middles_keep s h journal h journal fair at v middle-at.goal there y

      first-last : (last : StateParts) × (own v.ledger_a ≡ Some last)
      first-last = ledger-signed (kinds.Middle v) there v.ledger_a (inl refl) (of-a q) lent-first q.child_a.first q.child_a.second y.on_a

      module _ (named : c ≡ v.joint) where
        middle-own : q.joint.own ≡ Some k.last
        middle-own = seat-own s h journal fair h journal at k i y.joint.fixed _ q.joint y.joint.seat (y.joint.named ∙ sym named)

        middle-up : has_signed_past q.joint ≡ true
        middle-up = go (has_signed_past q.joint) refl
          where
            go : (b : Bool) → has_signed_past q.joint ≡ b → has_signed_past q.joint ≡ true
            go true w = w
            go false w = absurd (two _ (middle-keeps.opens k.last middle-own w))

        middle-late : q.closing ≡ false → settled_on (middles.target_together q) q.joint ≡ false
        middle-late stays = go (settled_on (middles.target_together q) q.joint) refl
          where
            go : (b : Bool) → settled_on (middles.target_together q) q.joint ≡ b → settled_on (middles.target_together q) q.joint ≡ false
            go false w = w
            go true w = absurd (two _ (middle-keeps.joined stays w k.last middle-own).0)

        middle-stays : q.closing ≡ true → (q.closing && middles.is_settled_back q) ≡ false
        middle-stays closes = ap (λ (b : Bool). q.closing && b) (go (middles.is_settled_back q) refl) ∙ none q.closing
          where
            none : (b : Bool) → (b && false) ≡ false
            none true = refl
            none false = refl

            go : (b : Bool) → middles.is_settled_back q ≡ b → middles.is_settled_back q ≡ false
            go false w = w
            go true w = absurd (two _ (middle-keeps.parted closes w k.last middle-own).1)

        middle-pending : IsPending (of-a q) first-last.0
        middle-pending = go q.closing refl
          where
            go : (b : Bool) → q.closing ≡ b → IsPending (of-a q) first-last.0
            go false w = inl (w, middle-late w)
            go true w = inr (w, names-child (kinds.Middle v) there v.ledger_a (inl refl) (of-a q) lent-first first-last.0 first-last.1 middle-up (middle-stays w))

        middle-quiet : (l : List ℕ) (j : Lent) (last : StateParts) → lends l (kinds.Middle v) ≡ Some j → IsVoted j last → ⊥
        middle-quiet l j last is voted = go (bytes_eq v.ledger_a l) (bytes_eq v.ledger_b l) (sym (lent-middle s h journal l v middle-at.goal y) ∙ is)
          where
            of-first : IsVoted (of-a q) last → ⊥
            of-first (inl w) = clash (has_signed_past q.joint) middle-up w.1
            of-first (inr w) = clash (q.closing && middles.is_settled_back q) w.1 (middle-stays w.0)

            of-second : IsVoted (of-b q) last → ⊥
            of-second (inl w) = clash (has_signed_past q.joint) middle-up w.1
            of-second (inr w) = clash (q.closing && middles.is_settled_back q) w.1 (middle-stays w.0)

            go : (a b : Bool) → cond a (Some (of-a q)) (cond b (Some (of-b q)) None) ≡ Some j → ⊥
            go true b w = of-first (subst (λ (z : Lent). IsVoted z last) (sym (some-eq (of-a q) j w)) voted)
            go false true w = of-second (subst (λ (z : Lent). IsVoted z last) (sym (some-eq (of-b q) j w)) voted)
            go false false w = none-eq j w

        at-middle-joint : Site c
        at-middle-joint = inr (record {
          part = kinds.Middle v;
          there = there;
          pending = record { ledger = v.ledger_a; lent = of-a q; is = lent-first; last = first-last.0; signed = first-last.1; pending = middle-pending };
          joint = inl named;
          quiet = middle-quiet;
        })

    -- ---- the channel of an end

    at-end-channel : (v : Virtual) (there : In (kinds.End v) m.parts) → c ≡ v.channel → ((known (kinds.End v) there).is.fixed.app ≡ 0) ⊎ ((known (kinds.End v) there).is.fixed.app ≡ 1) → Site c
    at-end-channel v there named (inr app) =
        let o = known (kinds.End v) there in
        let own-is = seat-own s h journal fair h journal at k i o.is.fixed _ o.is.end.channel o.is.seat (o.is.named ∙ sym named) in
        absurd (bare ((ends_share s h journal h journal fair at v o.goal there o.is app).own k.last own-is).1)
    at-end-channel v there named (inl app) = go (keep.ledgers c k.last signed).quiet
      where
        on : is_ledger s.key journal c ≡ true
        on =
            let o = known (kinds.End v) there in
            subst (λ (n : List ℕ). is_ledger s.key journal n ≡ true) (sym named) (end-is-ledger s h journal fair plans_are_whole h journal at.front_is v o.goal there o.is app)

        signed : own c ≡ Some k.last
        signed = cond-true (is_ledger s.key journal c) (option_map (λ (z : Signed). z.state) (last_made c L)) None on ∙ last-named s h journal fair h journal at k i

        go : (outcomes_of k.last ≡ k.last.outcome ∷ []) ⊎ ((p : Part) × (j : Lent) × In p m.parts × (lends c p ≡ Some j) × IsVoted j k.last) → Site c
        go (inl e) = absurd (two k.last.outcome e)
        go (inr w) = inl (record { part = w.0; there = w.2; lent = w.1; is = w.3; last = k.last; signed = signed; voted = w.4 })

    -- ---- any channel

    site-in : (part : Part) → In part m.parts → In c (joined_of part) → Site c
    site-in (kinds.Root name) there (inl e) = at-root name there e
    site-in (kinds.Root name) there (inr j) = absurd j
    site-in (kinds.OnLedger ledger name) there (inl named) =
        let o = known (kinds.OnLedger ledger name) there in
        let own-is = seat-own s h journal fair h journal at k i o.is.fixed _ o.is.funded.channel o.is.seat (o.is.named ∙ sym named) in
        absurd (bare ((children_share s h journal h journal fair at ledger name o.goal there o.is).own k.last own-is).1)
    site-in (kinds.OnLedger ledger name) there (inr j) = absurd j
    site-in (kinds.End v) there (inl named) =
        let o = known (kinds.End v) there in
        absurd (guaranteed o.is.guarantor.fixed _ (end-opened s h journal fair h journal at v o.goal there o.is).signs (o.is.guarantor.named ∙ sym named))
    site-in (kinds.End v) there (inr (inl named)) = at-end-joint v there named
    site-in (kinds.End v) there (inr (inr (inl named))) =
        let o = known (kinds.End v) there in
        at-end-channel v there named (zero-or-one o.is.fixed.app o.is.app)
    site-in (kinds.End v) there (inr (inr (inr j))) = absurd j
    site-in (kinds.Middle v) there (inl named) =
        let o = known (kinds.Middle v) there in
        absurd (guaranteed o.is.guarantor_a.fixed _ (middle-opened s h journal fair h journal at v o.goal there o.is).signs_a (o.is.guarantor_a.named ∙ sym named))
    site-in (kinds.Middle v) there (inr (inl named)) =
        let o = known (kinds.Middle v) there in
        absurd (guaranteed o.is.guarantor_b.fixed _ (middle-opened s h journal fair h journal at v o.goal there o.is).signs_b (o.is.guarantor_b.named ∙ sym named))
    site-in (kinds.Middle v) there (inr (inr (inl named))) = at-middle-joint v there named
    site-in (kinds.Middle v) there (inr (inr (inr j))) = absurd j

    pub site : Site c
    site = let j = joins s h journal fair h journal at k i in site-in j.part j.there j.joins
