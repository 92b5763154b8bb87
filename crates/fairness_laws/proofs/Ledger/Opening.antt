-- An accepted command that opens a part is a step of the ledgers: what the part stands on affords it, and nothing of
-- it was signed.
use Rattle.std.proofs.Common.{◌≡◌, ℕ, ◌<◌, Bool, true, false, cond, List, [], ◌∷◌, ◌++◌, ◌⊎◌, inl, inr, length, refl, sym, ◌∙◌, ap, subst}
use Rattle.std.specs.Prelude.{◌==◌, nat_le, is_some, Option, Some, None, map, slice_index_or}
use Rattle.std.specs.List.{slice_get}
use Rattle.std.specs.Option.{option_or}
use Rattle.std.specs.Str.{bytes_eq}
use Rattle.channel_values.specs.Parts.{FixedParts, IsFixed, StateParts}
use Rattle.channel_values.specs.declared.chain.Signed.{Signed}
use Rattle.channel_values.specs.declared.value.AssetOutcome.{AssetOutcome}
use Rattle.support_rules.specs.Toward.{is_settled}
use Rattle.channel_safety.proofs.Lists.{In-get, get-some, get-append}
use Rattle.channel_safety.proofs.Tests.{some-eq, none-eq, clash, and-left, and-right}
use Rattle.call_history.proofs.Names.{same_bytes, bytes_eq_self}
use Rattle.call_history.specs.Flows.{is_among}
use Rattle.call_history.specs.declared.entry.Entry.{Entry}
use Rattle.call_history.specs.declared.event.Deed.{Deed}
use Rattle.call_history.specs.declared.event.Deed.TheVariants as deeds
use Rattle.channel_values.specs.Digests.{name_of_person}
use Rattle.channel_store.specs.Storing.{kept_of}
use Rattle.funding_plans.specs.Known.{FactsOf}
use Rattle.funding_plans.specs.Parts.{own_channel, own_ledger, channels_of, channels}
use Rattle.funding_plans.specs.declared.plan.Goal.{Goal}
use Rattle.funding_plans.specs.declared.plan.Part.{Part}
use Rattle.funding_plans.specs.declared.plan.Part.TheVariants as kinds
use Rattle.funding_plans.specs.declared.plan.Virtual.{Virtual}
use Rattle.channel_safety.proofs.Members.{In-append_left, In-append_right, In-append_cases, In-flat_map}
use Rattle.channel_safety.specs.Journals.{In, Line, made_in, is_followed, opened}
use Rattle.fairness_laws.specs.Openings.{open_on, open_virtual}
use Rattle.network.specs.declared.command.Command.{Command}
use Rattle.network.specs.declared.command.Command.TheVariants as commands
use Rattle.network.specs.declared.command.Route.{Route}
use Rattle.channel_node.proofs.Allowing.{first_none, rest_none}
use Rattle.channel_node.proofs.Places.{mind-event}
use Rattle.channel_node.specs.Minds.{Mind, facts_of, did, commanded, with_opened}
use Rattle.channel_node.specs.Openings.{opened_by, takes_part, adds, virtual, parts_of, shared, goal_with, goals_of}
use Rattle.channel_node.specs.Places.{Told, line_of, lines_of, mind_at}
use Rattle.channel_node.specs.Playing.{Signing}
use Rattle.channel_node.specs.Refusing.{not_open, unfinished, has_left, are_new, open_refusal}
use Rattle.node_guarantees.proofs.Apart.{Apart}
use Rattle.node_guarantees.proofs.Growing.{channels_told}
use Rattle.stage_tables.specs.Fitting.{stake, can_share, fits_between, fits, lends_virtual, either_lends}
use Rattle.stage_tables.specs.Ledgers.{lends}
use Rattle.stage_tables.specs.Stages.{stages}
use Rattle.funding_plans.specs.Targets.{together}
use Rattle.funding_plans.specs.declared.child.Child.{Child}
use Rattle.funding_plans.specs.declared.terms.Terms.{Terms}
use Rattle.share_laws.specs.Places.{channels as channels-of, last_made, outcomes_of}
use Rattle.funding_plans.specs.Gathered.{goal_in}
use Rattle.funding_plans.specs.Seats.{Seat, state_is, settled_on}
use Rattle.support_rules.specs.Real.{real}
use Rattle.support_rules.specs.Steps.{persons}
use Rattle.fairness_laws.proofs.Finding.{or-left}
use Rattle.fairness_laws.proofs.Planned.{channels-append}
use Rattle.fairness_laws.specs.JointKeeping.{EndsKeep, MiddlesKeep}
use Rattle.fairness_laws.proofs.Seat.Past.{one-fixed, honest, own-made, unkept-unsigned}
use Rattle.fairness_laws.proofs.Plan.Asked.{planned}
use Rattle.fairness_laws.specs.PaymentLaws.{ActsNext}
use Rattle.fairness_laws.proofs.Closing.{FoundGoal, goal-found}
use Rattle.fairness_laws.specs.LedgerKeeping.{PendingOn, Drifts}
use Rattle.fairness_laws.specs.LedgerLending.{Lent, of_funded, of_end}
use Rattle.fairness_laws.specs.LedgerMoving.{HaveItems, Afford}
use Rattle.fairness_laws.specs.LedgerPlaces.{own_at, lends_at, KeepAt, opens, StepAt}
use Rattle.fairness_laws.specs.PlanLaws.{PartAt, PartsAreKnown}
use Rattle.fairness_laws.specs.PlanParts.{OnLedgerIs, JointIs, ChildIs, EndIs, MiddleIs}
use Rattle.fairness_laws.specs.PlanSeats.{SeatIs}
use Rattle.fairness_laws.specs.PlanSettings.{IsFair}
use Rattle.fairness_laws.proofs.EventPlaces.{at-before}
use Rattle.fairness_laws.proofs.Ledger.Affording.{covers-last, covered-child, same-people}
use Rattle.fairness_laws.proofs.Ledger.Closing.{none-pending}
use Rattle.fairness_laws.proofs.Plan.Goals.{goal-opens}
use Rattle.fairness_laws.proofs.Ledger.Lent.{asset-of, of-a, of-b, same-name, lent-child, lent-end, lent-middle, by-kind, lends-is, named-in}
use Rattle.fairness_laws.proofs.Ledger.Quiet.{quiet-drift, own-quiet}
use Rattle.fairness_laws.proofs.Ledger.Whole.{alone-idle, drift-pending}
use Rattle.fairness_laws.proofs.Plan.ByRoute.{true-left}
use Rattle.fairness_laws.proofs.Plan.Fitting.{Tells, Fitted, can-open, fitted, joint-takes, unplanned}
use Rattle.fairness_laws.proofs.Plan.Known.{OfLedger}
use Rattle.fairness_laws.proofs.Plan.Names.{own-in, apart-cross}
use Rattle.fairness_laws.proofs.Plan.Places.{lent-at, owns-at, plays-there, knows-there, grown-there, apart-there, fixed-there}

-- two people to whom a ledger lends
pub record Between (f : FactsOf) (l : List ℕ) (asset : ℕ) (ab : ℕ × ℕ) (people : List (List ℕ)) : Type 0 where
  pub first : List ℕ
  pub second : List ℕ
  pub are : people ≡ first ∷ second ∷ []
  pub lends_them : lends f l (stake asset first second ab) ≡ true

pub between : (f : FactsOf) (l : List ℕ) (asset : ℕ) (ab : ℕ × ℕ) (people : List (List ℕ)) → fits_between f l asset ab people ≡ true → Between f l asset ab people
between f l asset ab [] e = absurd (clash false e refl)
between f l asset ab (a ∷ []) e = absurd (clash false e refl)
between f l asset ab (a ∷ b ∷ c ∷ rest) e = absurd (clash false e refl)
between f l asset ab (a ∷ b ∷ []) e = record { first = a; second = b; are = refl; lends_them = and-right (can_share a b ab) (lends f l (stake asset a b ab)) e }

module _ (s : Signing) (h : List Entry) (journal : List Told) (fair : IsFair s h journal) (known : PartsAreKnown) (ends : EndsKeep) (middles : MiddlesKeep)
    (past : List Entry) (x : Told) (front : List Told) (next : ActsNext s h journal past x front) (keeps : KeepAt s journal past front) where
  abbrev m : Mind
  m = mind_at real s.key past front

  abbrev new : Mind
  new = mind_at real s.key past (x ∷ front)

  abbrev L : List Line
  L = lines_of s.key front

  abbrev lines : List Line
  lines = lines_of s.key (x ∷ front)

  mine : m.key ≡ s.key
  mine = (grown-there s h journal fair.nodes past front next.place).mine

  abbrev Unsigned : Type 0
  Unsigned = (c : List ℕ) → made_in c x.deed ≡ None

  -- ---- a command that was accepted

  module _ (step : ℕ) (deed-is : x.deed ≡ deeds.Commanded step None) where
    unsigned : Unsigned
    unsigned c = ap (made_in c) deed-is

    module _ (command : Command) (command-is : x.command ≡ Some command) (taken : None ≡ open_refusal stages real m command) where
      idle : unfinished stages (facts_of m) ≡ None
      idle =
          let after-plan = rest_none _ _ (sym taken) in
          let after-open = rest_none (not_open stages (facts_of m)) _ after-plan in
          let after-can = rest_none _ _ after-open in
          let after-left = rest_none (has_left m) _ after-can in
          first_none (unfinished stages (facts_of m)) _ after-left

      abbrev names : List (List ℕ)
      names = map real.named (opened_by command)

      new-names : are_new m names ≡ true
      new-names = and-right (stages.fits (facts_of m) command) (are_new m names) (can-open m command taken)

      alone : (l : List ℕ) (last : StateParts) → own_at s.key journal front l ≡ Some last → outcomes_of last ≡ last.outcome ∷ []
      alone = alone-idle m.parts (lends_at s past front) (own_at s.key journal front) keeps (none-pending s h journal fair known ends middles past x front next idle)

      -- ---- the part

      module _ (p : Part) (opening : List AssetOutcome) (amounts : ℕ × ℕ) (changes : commanded real command m ≡ with_opened real command m) (parts-are : parts_of real s.key command ≡ p ∷ [])
          (goals-are : goals_of (length m.parts) command ≡ goal_with (length m.parts) opening amounts ∷ []) (names-are : channels_of p ≡ names) where
        abbrev goal : Goal
        goal = goal_with (length m.parts) opening amounts

        happened : new ≡ with_opened real command m
        happened =
            mind-event real s.key past x front next.len
            ∙ (ap (λ (d : Deed). did real d x.command m) deed-is ∙ (ap (λ (o : Option Command). did real (deeds.Commanded step None) o m) command-is ∙ changes))

        parts : new.parts ≡ m.parts ++ p ∷ []
        parts = ap (λ (z : Mind). z.parts) happened ∙ ap (λ (ps : List Part). m.parts ++ ps) (ap (λ (k : List ℕ). parts_of real k command) mine ∙ parts-are)

        goals : new.goals ≡ m.goals ++ goal ∷ []
        goals = ap (λ (z : Mind). z.goals) happened ∙ ap (λ (gs : List Goal). m.goals ++ gs) goals-are

        there : In p new.parts
        there = subst (In p) (sym parts) (In-append_right p m.parts (p ∷ []) (inl refl))

        stays : (q : Part) → In q m.parts → In q new.parts
        stays q i = subst (In q) (sym parts) (In-append_left q m.parts (p ∷ []) i)

        at : PartAt s past (x ∷ front) p
        at = known s h journal past (x ∷ front) fair.nodes next.then p there

        -- no other part has one of its channels
        other-names : (q : Part) → In q m.parts → (n : List ℕ) → In n (channels_of q) → In n (channels_of p) → ⊥
        other-names q i n of-q of-p =
            clash (bytes_eq n n) (bytes_eq_self n)
            (apart-cross (channels m.parts) (channels (p ∷ [])) apart n n (In-flat_map channels_of n q m.parts i of-q) (In-append_left n (channels_of p) [] of-p))
          where
            apart : Apart (channels m.parts ++ channels (p ∷ []))
            apart = subst Apart (ap channels parts ∙ channels-append m.parts (p ∷ [])) (apart-there s h journal fair.nodes past (x ∷ front) next.then)

        -- its goal is the command's
        goal-is : (g : Goal) → goal_in (facts_of new) (own_channel p) ≡ Some g → g ≡ goal
        goal-is g found = split (In-append_cases g m.goals (goal ∷ []) (subst (In g) goals f.there))
          where
            f : FoundGoal new.parts new.goals (own_channel p) g
            f = goal-found new.parts new.goals (own_channel p) g found

            old-none : In g m.goals → ⊥
            old-none i =
                let small : g.part < length m.parts = (planned s h journal fair past front (at-before s h journal fair past x front next)).within g i in
                let got = get-some m.parts g.part small in
                let is : f.q ≡ got.0 =
                some-eq f.q got.0 (sym f.at ∙ (ap (λ (ps : List Part). slice_get ps g.part) parts ∙ (get-append m.parts (p ∷ []) g.part small ∙ got.1))) in
                other-names got.0 (In-get m.parts g.part got.0 got.1) (own_channel got.0) (own-in got.0)
                (subst (λ (c : List ℕ). In c (channels_of p)) (sym (ap own_channel (sym is) ∙ same_bytes (own_channel f.q) (own_channel p) f.about)) (own-in p))

            split : In g m.goals ⊎ In g (goal ∷ []) → g ≡ goal
            split (inl i) = absurd (old-none i)
            split (inr (inl e)) = e
            split (inr (inr i)) = absurd i

        -- ---- it is new

        own-none : (f : FixedParts) (o : List AssetOutcome) (c : Seat) → SeatIs s.key past lines f o c → In (real.named f) (channels_of p) → c.own ≡ None
        own-none f o c seat i = go c.own refl
          where
            go : (y : Option StateParts) → c.own ≡ y → y ≡ None
            go None is = refl
            go (Some t) is =
                let made = own-made s h journal fair.nodes past (x ∷ front) next.then f o c seat t is in
                let none : last_made (real.named f) lines ≡ None =
                ap (λ (o : Option Signed). option_or o (last_made (real.named f) L)) (unsigned (real.named f))
                ∙ unkept-unsigned s h journal fair.nodes past front next.place f (honest s h journal fair.nodes past (x ∷ front) next.then f seat.own.there).1
                (or-left (is_some (kept_of (real.named f) m.kept)) (is_among (real.named f) (channels m.parts)) (unplanned m names new-names (real.named f) (subst (In (real.named f)) names-are i))) in
                absurd (none-eq made.0 (sym none ∙ made.1))

        abbrev IsFresh : Lent → Type 0
        IsFresh k = (k.closing ≡ false) × (k.is_up ≡ false) × (k.done ≡ false)

        unclosed : (q : Part) (g : Goal) → q ≡ p → goal_in (facts_of new) (own_channel q) ≡ Some g → g.closing ≡ false
        unclosed q g same found = ap (λ (y : Goal). y.closing) (goal-is g (ap (λ (z : Part). goal_in (facts_of new) (own_channel z)) (sym same) ∙ found))

        fresh : (l : List ℕ) (k : Lent) → lends_at s past (x ∷ front) l p ≡ Some k → IsFresh k
        fresh =
            by-kind s past (x ∷ front) (λ (l : List ℕ) (q : Part) (k : Lent). IsFresh k) p at
            (λ l c g o same found.
            let none = own-none o.fixed g.opening o.funded.channel o.seat (subst (λ (q : Part). In (real.named o.fixed) (channels_of q)) same (inl o.named)) in (
              o.closing ∙ unclosed (kinds.OnLedger l c) g same found,
              ap (state_is (λ y. nat_le (length o.funded.channel.people) y.turn)) none,
              ap (state_is (λ y. nat_le (length o.funded.channel.people) y.turn)) none,
            ))
            (λ v g e same found. (
              e.closing ∙ unclosed (kinds.End v) g same found,
              ap (state_is (λ y. nat_le (length e.end.joint.people) y.turn)) (joint-none v g e.end.terms e.end.joint e.joint (subst (λ (q : Part). In v.joint (channels_of q)) same (inr (inr (inl refl))))),
              ap (state_is (λ y. nat_le (length e.end.channel.people) y.turn))
                  (own-none e.fixed g.opening e.end.channel e.seat (subst (λ (q : Part). In (real.named e.fixed) (channels_of q)) same (inr (inr (inr (inl e.named)))))),
            ))
            (λ v g y same found. middle-fresh v g y same found) (λ v g y same found differ. middle-fresh v g y same found)
          where
            joint-none : (v : Virtual) (g : Goal) (t : Terms) (c : Seat) (j : JointIs s.key past lines v g t c) → In v.joint (channels_of p) → c.own ≡ None
            joint-none v g t c j i = own-none j.fixed _ c j.seat (subst (λ (n : List ℕ). In n (channels_of p)) (sym j.named) i)

            middle-fresh : (v : Virtual) (g : Goal) (y : MiddleIs s.key past lines (facts_of new) v g) → kinds.Middle v ≡ p → goal_in (facts_of new) v.channel ≡ Some g
                → (y.middle.closing ≡ false) × (state_is (λ z. nat_le (length y.middle.joint.people) z.turn) y.middle.joint.own ≡ false)
                × (settled_on (Some (together y.middle.terms)) y.middle.joint ≡ false)
            middle-fresh v g y same found =
                let none = joint-none v g y.middle.terms y.middle.joint y.joint (subst (λ (q : Part). In v.joint (channels_of q)) same (inr (inr (inl refl)))) in (
                  y.closing ∙ unclosed (kinds.Middle v) g same found,
                  ap (state_is (λ z. nat_le (length y.middle.joint.people) z.turn)) none,
                  ap (is_settled (length y.middle.joint.people) (together y.middle.terms)) none,
                )

        unnamed : (l : List ℕ) (k : Lent) → lends_at s past (x ∷ front) l p ≡ Some k → (q : Part) (j : Lent) → In q m.parts → lends_at s past (x ∷ front) l q ≡ Some j → j.child.name ≡ k.child.name → ⊥
        unnamed l k is q j i isj same =
            let a = lends-is s past (x ∷ front) p at l k is in
            let b = lends-is s past (x ∷ front) q (known s h journal past (x ∷ front) fair.nodes next.then q (stays q i)) l j isj in
            other-names q i j.child.name (subst (λ (n : List ℕ). In n (channels_of q)) (sym b.named) (named-in l q))
            (subst (λ (n : List ℕ). In n (channels_of p)) (sym (same ∙ a.named)) (named-in l p))

        -- ---- the step

        part-step : ((l : List ℕ) (k : Lent) → lends_at s past (x ∷ front) l p ≡ Some k → (last : StateParts) → own_at s.key journal front l ≡ Some last → HaveItems k.child last.outcome × Afford k.child last.outcome)
            → StepAt s journal past past front (x ∷ front)
        part-step affords = opens p parts drifts-now (record { idle = still-idle; fresh = fresh; unnamed = unnamed; affords = affords }) (own-quiet s h journal fair known ends middles past x front next unsigned)
          where
            drifts-now : Drifts m.parts (lends_at s past front) (lends_at s past (x ∷ front)) (own_at s.key journal front)
            drifts-now =
                quiet-drift s h journal fair known ends middles past x front next unsigned stays (λ l q k i is g found. goal-opens m new (own_channel q) (p ∷ []) (goal ∷ []) parts goals g found)
                (own_at s.key journal front)

            still-idle : (q : Part) → In q m.parts → PendingOn (lends_at s past (x ∷ front)) (own_at s.key journal front) q → ⊥
            still-idle q i w =
                none-pending s h journal fair known ends middles past x front next idle q i
                (drift-pending m.parts (lends_at s past front) (lends_at s past (x ∷ front)) (own_at s.key journal front) keeps drifts-now q i w)

    -- ---- by the command

    pub open-step : (fixed : FixedParts) (outcome : List AssetOutcome) → x.command ≡ Some (commands.Open fixed outcome) → None ≡ open_refusal stages real m (commands.Open fixed outcome)
        → StepAt s journal past past front (x ∷ front)
    open-step fixed outcome is taken =
        part-step (commands.Open fixed outcome) is taken (kinds.Root (real.named fixed)) outcome (0, 0) refl refl refl refl (λ l k lends. absurd (none-eq k lends))

    module _ (l : List ℕ) (fixed : FixedParts) (asset : ℕ) (amounts : ℕ × ℕ) (is : x.command ≡ Some (open_on l fixed asset amounts)) (taken : None ≡ open_refusal stages real m (open_on l fixed asset amounts)) where
      abbrev on-it : Part
      on-it = kinds.OnLedger l (real.named fixed)

      at-it : PartAt s past (x ∷ front) on-it
      at-it = at (open_on l fixed asset amounts) is taken on-it (shared fixed asset amounts) amounts refl refl refl refl

      told-it : at-it.goal ≡ goal_with (length m.parts) (shared fixed asset amounts) amounts
      told-it = goal-is (open_on l fixed asset amounts) is taken on-it (shared fixed asset amounts) amounts refl refl refl refl at-it.goal at-it.found

      pub fits-it : fits_between (facts_of m) l asset amounts (persons fixed) ≡ true
      unfolding fits
      fits-it =
          and-right (fixed.app == 1) (fits_between (facts_of m) l asset amounts (persons fixed))
          (and-left (stages.fits (facts_of m) (open_on l fixed asset amounts)) (are_new m (map real.named (fixed ∷ []))) (can-open m (open_on l fixed asset amounts) taken))

      it-affords : (o : OnLedgerIs s.key past lines (facts_of new) l (real.named fixed) at-it.goal) (last : StateParts) → own_at s.key journal front l ≡ Some last
          → HaveItems o.funded.child last.outcome × Afford o.funded.child last.outcome
      it-affords o last signed =
          covered-child o.funded.child asset b.first b.second amounts last.outcome (ap asset-of (sym o.opening ∙ ap (λ (g : Goal). g.opening) told-it))
          (ap (λ (ns : List (List ℕ)). slice_index_or ns 0 []) people) (ap (λ (ns : List (List ℕ)). slice_index_or ns 1 []) people) (sym (ap (λ (g : Goal). g.amounts) told-it) ∙ o.amounts)
          (covers-last s h journal fair known past front (at-before s h journal fair past x front next) l asset b.first b.second amounts
          (true-left (lends (facts_of m) l (stake asset b.first b.second amounts)) (lends_virtual (facts_of m) l (stake asset b.first b.second amounts)) b.lends_them) last signed (alone (open_on l fixed asset amounts) is taken l last signed))
        where
          b : Between (facts_of m) l asset amounts (persons fixed)
          b = between (facts_of m) l asset amounts (persons fixed) fits-it

          people : o.funded.child.first ∷ o.funded.child.second ∷ [] ≡ b.first ∷ b.second ∷ []
          people =
              same-people o.fixed fixed o.funded.child.asset asset at-it.goal.amounts amounts o.funded.child.first o.funded.child.second b.first b.second o.people b.are
              (sym o.opening ∙ ap (λ (g : Goal). g.opening) told-it)

      pub on-step : StepAt s journal past past front (x ∷ front)
      on-step = part-step (open_on l fixed asset amounts) is taken on-it (shared fixed asset amounts) amounts refl refl refl refl (affords at-it.is)
        where
          affords : (o : OnLedgerIs s.key past lines (facts_of new) l (real.named fixed) at-it.goal) (n : List ℕ) (k : Lent) → lends_at s past (x ∷ front) n on-it ≡ Some k
              → (last : StateParts) → own_at s.key journal front n ≡ Some last → HaveItems k.child last.outcome × Afford k.child last.outcome
          affords o n k lends last signed =
              let z = same-name l n (of_funded o.funded) k (sym (lent-child s past (x ∷ front) n l (real.named fixed) at-it.goal o) ∙ lends) in
              subst (λ (j : Lent). HaveItems j.child last.outcome × Afford j.child last.outcome) z.1
              (it-affords o last (subst (λ (q : List ℕ). own_at s.key journal front q ≡ Some last) (sym (same_bytes l n z.0)) signed))

    -- ---- a virtual channel

    module _ (route : Route) (ledgers : List ℕ × List ℕ) (guarantors : FixedParts × FixedParts) (joint channel : FixedParts) (asset : ℕ) (amounts : ℕ × ℕ)
        (is : x.command ≡ Some (open_virtual route ledgers guarantors joint channel asset amounts)) (taken : None ≡ open_refusal stages real m (open_virtual route ledgers guarantors joint channel asset amounts)) where
      abbrev virtually : Command
      virtually = open_virtual route ledgers guarantors joint channel asset amounts

      abbrev v : Virtual
      v = virtual real s.key ledgers guarantors joint channel asset amounts

      in-new : (f : FixedParts) → In f (adds s.key (Some virtually)) → In f (channels-of lines)
      in-new f i = In-append_right f (channels-of L) (opened (line_of s.key x)) (subst (In f) (sym opened-is) i)
        where
          opened-is : opened (line_of s.key x) ≡ adds s.key (Some virtually)
          opened-is = ap (λ (d : Deed). cond (is_followed d) (adds s.key x.command) []) deed-is ∙ ap (adds s.key) is

      tells : (f : FixedParts) → In f (opened_by virtually) → Tells s.key f
      tells f i = fair.nodes.people x virtually f (subst (In x) (sym next.then.events) (In-append_right x next.then.newer (x ∷ front) (inl refl))) (ap is_followed deed-is) is i

      valid : (f : FixedParts) → In f (adds s.key (Some virtually)) → IsFixed f
      valid f i = fixed-there s h journal fair.nodes past (x ∷ front) next.then f (in-new f i)

      on-ledger : (name first second : List ℕ) (n : ℕ) (ab : ℕ × ℕ) → either_lends (facts_of m) name (stake n first second ab) ≡ true → OfLedger (channels_told s.key front) m.parts first second name
      on-ledger =
          lent-at s h journal fair.nodes past front next.place.few next.place.later next.place.entries (plays-there s h journal fair.nodes past front next.place) next.place.before (knows-there s h journal fair.nodes past front next.place)

      owns : (f : FixedParts) → In f (channels_told s.key front) → In s.key f.keys
      owns = owns-at s h journal fair.nodes past front next.place.few next.place.later next.place.entries (plays-there s h journal fair.nodes past front next.place) next.place.before

      abbrev Fit : Type 0
      Fit = Fitted s.key m mine (channels_told s.key front) on-ledger owns route ledgers guarantors joint channel asset amounts tells valid (can-open m virtually taken)

      fit : Fit
      fit = fitted s.key m mine (channels_told s.key front) on-ledger owns route ledgers guarantors joint channel asset amounts tells valid (can-open m virtually taken)

      joint-there : In joint (channels-of lines)
      joint-there =
          in-new joint (joint-takes s.key m mine (channels_told s.key front) on-ledger owns route ledgers guarantors joint channel asset amounts tells valid (can-open m virtually taken) fit)

      -- the people of the joint channel
      module _ (g : Goal) (t : Terms) (c : Seat) (j : JointIs s.key past lines v g t c) where
        three : fit.first ∷ fit.middle ∷ fit.second ∷ [] ≡ t.first ∷ t.middle ∷ t.second ∷ []
        three = sym fit.people ∙ (ap persons (sym same) ∙ j.people)
          where
            same : j.fixed ≡ joint
            same =
                one-fixed s h journal fair past (x ∷ front) next.then past (x ∷ front) next.then j.fixed joint j.seat.own.there joint-there j.named

        pub first-lends : In (name_of_person s.key) (t.first ∷ t.middle ∷ []) → either_lends (facts_of m) ledgers.0 (stake asset t.first t.middle amounts) ≡ true
        first-lends =
            subst (λ (ns : List (List ℕ)). In (name_of_person s.key) (slice_index_or ns 0 [] ∷ slice_index_or ns 1 [] ∷ [])
            → either_lends (facts_of m) ledgers.0 (stake asset (slice_index_or ns 0 []) (slice_index_or ns 1 []) amounts) ≡ true) three fit.lends_a

        pub second-lends : In (name_of_person s.key) (t.middle ∷ t.second ∷ []) → either_lends (facts_of m) ledgers.1 (stake asset t.middle t.second amounts) ≡ true
        second-lends =
            subst (λ (ns : List (List ℕ)). In (name_of_person s.key) (slice_index_or ns 1 [] ∷ slice_index_or ns 2 [] ∷ [])
            → either_lends (facts_of m) ledgers.1 (stake asset (slice_index_or ns 1 []) (slice_index_or ns 2 []) amounts) ≡ true) three fit.lends_b

        -- at an end
        pub end-lends : (b : Bool) → cond b t.second t.first ≡ name_of_person s.key
            → either_lends (facts_of m) (cond b ledgers.1 ledgers.0) (stake asset (cond b t.middle t.first) (cond b t.second t.middle) amounts) ≡ true
        end-lends true me = second-lends (inr (inl (sym me)))
        end-lends false me = first-lends (inl (sym me))

      -- what lends affords the child
      child-affords : (l first second name : List ℕ) → either_lends (facts_of m) l (stake asset first second amounts) ≡ true → (g : Goal) → g.amounts ≡ amounts → (k : Child) → ChildIs v g first second name k
          → (last : StateParts) → own_at s.key journal front l ≡ Some last → HaveItems k last.outcome × Afford k last.outcome
      child-affords l first second name lent g told k child last signed =
          covered-child k asset first second amounts last.outcome child.asset child.one child.other (sym told ∙ child.amounts)
          (covers-last s h journal fair known past front (at-before s h journal fair past x front next) l asset first second amounts lent last signed (alone virtually is taken l last signed))

      abbrev Affords : Lent → List ℕ → Type 0
      Affords k l = (last : StateParts) → own_at s.key journal front l ≡ Some last → HaveItems k.child last.outcome × Afford k.child last.outcome

      -- for what is set aside on this ledger
      elsewhere : (l n : List ℕ) (j k : Lent) → (bytes_eq l n ≡ true) × (j ≡ k) → Affords j l → Affords k n
      elsewhere l n j k z a = subst (λ (y : Lent). Affords y n) z.1 (subst (λ (y : List ℕ). Affords j y) (same_bytes l n z.0) a)

      module _ (takes : takes_part s.key channel ≡ true) where
        parts-end : parts_of real s.key virtually ≡ kinds.End v ∷ []
        parts-end = ap (λ (b : Bool). cond b (kinds.End v ∷ []) (kinds.Middle v ∷ [])) takes

        pub at-end : PartAt s past (x ∷ front) (kinds.End v)
        at-end = at virtually is taken (kinds.End v) (shared channel asset amounts) amounts refl parts-end refl refl

        told-end : at-end.goal.amounts ≡ amounts
        told-end = ap (λ (g : Goal). g.amounts) (goal-is virtually is taken (kinds.End v) (shared channel asset amounts) amounts refl parts-end refl refl at-end.goal at-end.found)

        end-affords : (e : EndIs s.key past lines (facts_of new) v at-end.goal) (n : List ℕ) (k : Lent) → lends_at s past (x ∷ front) n (kinds.End v) ≡ Some k → Affords k n
        end-affords e n k lends =
            let z = same-name (own_ledger v) n (of_end e.end) k (sym (lent-end s past (x ∷ front) n v at-end.goal e) ∙ lends) in
            elsewhere (own_ledger v) n (of_end e.end) k z
            (child-affords (own_ledger v) _ _ _ (end-lends at-end.goal e.end.terms e.end.joint e.joint v.side_b e.me) at-end.goal told-end e.end.child e.child)

        end-step : StepAt s journal past past front (x ∷ front)
        end-step = part-step virtually is taken (kinds.End v) (shared channel asset amounts) amounts refl parts-end refl refl (end-affords at-end.is)

      module _ (passes : takes_part s.key channel ≡ false) where
        parts-middle : parts_of real s.key virtually ≡ kinds.Middle v ∷ []
        parts-middle = ap (λ (b : Bool). cond b (kinds.End v ∷ []) (kinds.Middle v ∷ [])) passes

        pub at-middle : PartAt s past (x ∷ front) (kinds.Middle v)
        at-middle = at virtually is taken (kinds.Middle v) (shared channel asset amounts) amounts refl parts-middle refl refl

        told-middle : at-middle.goal.amounts ≡ amounts
        told-middle = ap (λ (g : Goal). g.amounts) (goal-is virtually is taken (kinds.Middle v) (shared channel asset amounts) amounts refl parts-middle refl refl at-middle.goal at-middle.found)

        middle-affords : (y : MiddleIs s.key past lines (facts_of new) v at-middle.goal) (n : List ℕ) (k : Lent) → lends_at s past (x ∷ front) n (kinds.Middle v) ≡ Some k → Affords k n
        middle-affords y n k lends = go (bytes_eq v.ledger_a n) refl (sym (lent-middle s past (x ∷ front) n v at-middle.goal y) ∙ lends)
          where
            go : (b : Bool) → bytes_eq v.ledger_a n ≡ b → cond b (Some (of-a y.middle)) (cond (bytes_eq v.ledger_b n) (Some (of-b y.middle)) None) ≡ Some k → Affords k n
            go true same e =
                elsewhere v.ledger_a n (of-a y.middle) k (same, some-eq (of-a y.middle) k e)
                (child-affords v.ledger_a _ _ _ (first-lends at-middle.goal y.middle.terms y.middle.joint y.joint (inr (inl (sym y.me)))) at-middle.goal told-middle y.middle.child_a y.child_a)
            go false same e =
                elsewhere v.ledger_b n (of-b y.middle) k (same-name v.ledger_b n (of-b y.middle) k e)
                (child-affords v.ledger_b _ _ _ (second-lends at-middle.goal y.middle.terms y.middle.joint y.joint (inl (sym y.me))) at-middle.goal told-middle y.middle.child_b y.child_b)

        middle-step : StepAt s journal past past front (x ∷ front)
        middle-step = part-step virtually is taken (kinds.Middle v) (shared channel asset amounts) amounts refl parts-middle refl refl (middle-affords at-middle.is)

      pub virtual-step : StepAt s journal past past front (x ∷ front)
      virtual-step = go (takes_part s.key channel) refl
        where
          go : (b : Bool) → takes_part s.key channel ≡ b → StepAt s journal past past front (x ∷ front)
          go true takes = end-step takes
          go false passes = middle-step passes
