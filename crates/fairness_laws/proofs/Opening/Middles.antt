-- The first round of an intermediary's channels of a virtual one.
use Rattle.std.proofs.Common.{◌≡◌, ℕ, ◌+◌, ◌-◌, ◌<◌, ◌≤◌, Bool, true, false, ◌&&◌, ◌||◌, ◌⊎◌, List, [], ◌∷◌, inl, inr, refl, sym, ◌∙◌, ap, subst, arith}
use Rattle.std.specs.Prelude.{◌==◌, nat_lt, Option, Some, None}
use Rattle.std.specs.Str.{bytes_eq}
use Rattle.channel_values.specs.Parts.{FixedParts, StateParts}
use Rattle.channel_values.specs.declared.value.AssetOutcome.{AssetOutcome}
use Rattle.channel_values.specs.Rules.{people}
use Rattle.call_history.proofs.Names.{same_bytes, bytes_eq_self}
use Rattle.call_history.specs.Flows.{is_among}
use Rattle.channel_store.specs.Keeping.{next_of}
use Rattle.channel_store.specs.Storing.{kept_of}
use Rattle.channel_store.specs.declared.kept.Kept.{Kept}
use Rattle.funding_plans.specs.Known.{FactsOf}
use Rattle.funding_plans.specs.Parts.{joined_of}
use Rattle.funding_plans.specs.declared.plan.Goal.{Goal}
use Rattle.funding_plans.specs.declared.plan.Part.TheVariants as parts
use Rattle.funding_plans.specs.declared.plan.Virtual.{Virtual}
use Rattle.funding_plans.specs.Targets.{apart, guarantee}
use Rattle.funding_plans.specs.declared.child.Child.{Child}
use Rattle.funding_plans.specs.declared.terms.Terms.{Terms}
use Rattle.support_rules.specs.Real.{real}
use Rattle.support_rules.specs.Steps.{persons}
use Rattle.channel_safety.specs.Journals.{In}
use Rattle.fairness_laws.specs.Openings.{open_virtual}
use Rattle.network.specs.declared.command.Command.{Command}
use Rattle.network.specs.declared.command.Route.{Route}
use Rattle.funding_plans.specs.Gathered as gathered
use Rattle.funding_plans.specs.Rows.{wanted_in}
use Rattle.funding_plans.specs.Seats.{Seat, holds, is_set_up, repeats, takes_fixed}
use Rattle.virtual_channel.specs.Middles.{Middle, are_set_up, middle_rows, middle_takes}
use Rattle.virtual_channel.specs.Stages.{◌>>=◌, terms_for, terms_in, middle_in, stage_of_middle, wanted_of_middle, taken_of_middle}
use Rattle.stage_tables.specs.Asked.{is_closing, wanted_of, takes_of}
use Rattle.channel_node.specs.Minds.{Mind, facts_of}
use Rattle.channel_node.specs.Openings.{opened_by, virtual, are_apart}
use Rattle.channel_node.specs.Places.{lines_of}
use Rattle.stage_tables.specs.Stages.{stages}
use Rattle.channel_safety.proofs.Tests.{some-eq, none-eq, and-left, and-right, or-right, eqb-true, clash}
use Rattle.fairness_laws.specs.Carried.{OpensWith}
use Rattle.fairness_laws.specs.Roots.{is_repeated}
use Rattle.fairness_laws.proofs.Finding.{names, flips}
use Rattle.fairness_laws.proofs.Planned.{or-true}
use Rattle.fairness_laws.proofs.Closing.{RunsAt}
use Rattle.fairness_laws.proofs.FirstRounds.{IsPlace, Starts, opens-with}
use Rattle.fairness_laws.proofs.Plan.Names.{in-among}
use Rattle.fairness_laws.specs.OpeningChannels.{MiddlesOpenWith}
use Rattle.fairness_laws.proofs.Joint.Rows.{MiddleWants, middle-wants}
use Rattle.fairness_laws.proofs.Joint.Rows as rows
use Rattle.fairness_laws.proofs.Rows.{stage-is}
use Rattle.fairness_laws.proofs.Stages.{middle-runs}
use Rattle.fairness_laws.proofs.Opening.Seated.{Seated, seated, named-seat, in-first, not-after, set-up-runs, repeats-opening, takes-opening, cond-yes, cond-no}
use Rattle.fairness_laws.proofs.Opening.Virtuals.{bound, terms-known, GoalIs, goal-is, Differ, named-so, named-other, not-low, Comes, names-differ, at-middle}

-- ---- what the facts say of it

pub record MiddleAt (m : Mind) (v : Virtual) (p : Middle) : Type 0 where
  pub told : terms_in (facts_of m) v ≡ Some p.terms
  pub g : Goal
  pub goal : gathered.goal_in (facts_of m) v.channel ≡ Some g
  pub on_a : gathered.seat_in (facts_of m) v.ledger_a ≡ Some p.ledger_a
  pub on_b : gathered.seat_in (facts_of m) v.ledger_b ≡ Some p.ledger_b
  pub first_a : gathered.seat_with (facts_of m) v.guarantor_a (guarantee p.terms v.joint p.terms.first) ≡ Some p.guarantor_a
  pub first_b : gathered.seat_with (facts_of m) v.guarantor_b (guarantee p.terms v.joint p.terms.second) ≡ Some p.guarantor_b
  pub middle : gathered.seat_with (facts_of m) v.joint (apart p.terms g.amounts) ≡ Some p.joint
  pub closes : p.closing ≡ g.closing

module _ (m : Mind) (v : Virtual) where
  abbrev F : FactsOf
  F = facts_of m

  abbrev whole : Terms → Goal → Seat → Seat → Child → Child → Seat → Seat → Seat → Middle
  whole t g la lb ka kb a b j = record {
    terms = t;
    child_a = ka;
    child_b = kb;
    ledger_a = la;
    ledger_b = lb;
    guarantor_a = a;
    guarantor_b = b;
    joint = j;
    closing = g.closing;
  }

  abbrev with-b : Terms → Goal → Seat → Seat → Child → Child → Seat → Seat → Option Middle
  with-b t g la lb ka kb a b = gathered.seat_with F v.joint (apart t g.amounts) >>= λ j. Some (whole t g la lb ka kb a b j)

  abbrev with-a : Terms → Goal → Seat → Seat → Child → Child → Seat → Option Middle
  with-a t g la lb ka kb a = gathered.seat_with F v.guarantor_b (guarantee t v.joint t.second) >>= λ b. with-b t g la lb ka kb a b

  abbrev with-children : Terms → Goal → Seat → Seat → Child → Child → Option Middle
  with-children t g la lb ka kb = gathered.seat_with F v.guarantor_a (guarantee t v.joint t.first) >>= λ a. with-a t g la lb ka kb a

  abbrev with-child : Terms → Goal → Seat → Seat → Child → Option Middle
  with-child t g la lb ka = gathered.child_for v.asset v.guarantor_b g.amounts lb.people >>= λ kb. with-children t g la lb ka kb

  abbrev with-ledgers : Terms → Goal → Seat → Seat → Option Middle
  with-ledgers t g la lb = gathered.child_for v.asset v.guarantor_a g.amounts la.people >>= λ ka. with-child t g la lb ka

  abbrev with-ledger : Terms → Goal → Seat → Option Middle
  with-ledger t g la = gathered.seat_in F v.ledger_b >>= λ lb. with-ledgers t g la lb

  abbrev with-goal : Terms → Goal → Option Middle
  with-goal t g = gathered.seat_in F v.ledger_a >>= λ la. with-ledger t g la

  abbrev with-terms : Terms → Option Middle
  with-terms t = gathered.goal_in F v.channel >>= λ g. with-goal t g

  middle-made : (t : Terms) (g : Goal) (la lb : Seat) (ka kb : Child) (a b j : Seat) (p : Middle) → terms_in F v ≡ Some t → gathered.goal_in F v.channel ≡ Some g → gathered.seat_in F v.ledger_a ≡ Some la
      → gathered.seat_in F v.ledger_b ≡ Some lb → gathered.seat_with F v.guarantor_a (guarantee t v.joint t.first) ≡ Some a → gathered.seat_with F v.guarantor_b (guarantee t v.joint t.second) ≡ Some b
      → gathered.seat_with F v.joint (apart t g.amounts) ≡ Some j → Some (whole t g la lb ka kb a b j) ≡ Some p → MiddleAt m v p
  middle-made t g la lb ka kb a b j p et eg ela elb ea eb ej e =
      subst (MiddleAt m v) (some-eq (whole t g la lb ka kb a b j) p e)
      (record { told = et; g = g; goal = eg; on_a = ela; on_b = elb; first_a = ea; first_b = eb; middle = ej; closes = refl })

  pub middle-at : (p : Middle) → middle_in F v ≡ Some p → MiddleAt m v p
  middle-at p e =
      let t = bound (terms_in F v) with-terms p e in
      let g = bound (gathered.goal_in F v.channel) (with-goal t.x) p t.rest in
      let la = bound (gathered.seat_in F v.ledger_a) (with-ledger t.x g.x) p g.rest in
      let lb = bound (gathered.seat_in F v.ledger_b) (with-ledgers t.x g.x la.x) p la.rest in
      let ka = bound (gathered.child_for v.asset v.guarantor_a g.x.amounts la.x.people) (with-child t.x g.x la.x lb.x) p lb.rest in
      let kb = bound (gathered.child_for v.asset v.guarantor_b g.x.amounts lb.x.people) (with-children t.x g.x la.x lb.x ka.x) p ka.rest in
      let a = bound (gathered.seat_with F v.guarantor_a (guarantee t.x v.joint t.x.first)) (with-a t.x g.x la.x lb.x ka.x kb.x) p kb.rest in
      let b = bound (gathered.seat_with F v.guarantor_b (guarantee t.x v.joint t.x.second)) (with-b t.x g.x la.x lb.x ka.x kb.x a.x) p a.rest in
      let j = bound (gathered.seat_with F v.joint (apart t.x g.x.amounts)) (λ j. Some (whole t.x g.x la.x lb.x ka.x kb.x a.x b.x j)) p b.rest in
      middle-made t.x g.x la.x lb.x ka.x kb.x a.x b.x j.x p t.is g.is la.is lb.is a.is b.is j.is j.rest

-- ---- its rows

-- what follows from each wish of an intermediary for a channel
pub record MiddleWishes (p : Middle) (c : List ℕ) (s : StateParts) (Q : Type 0) : Type 0 where
  pub by_a : bytes_eq p.guarantor_a.name c ≡ true → repeats 0 2 p.guarantor_a ≡ Some s → Q
  pub by_b : bytes_eq p.guarantor_b.name c ≡ true → repeats 0 2 p.guarantor_b ≡ Some s → Q
  pub by_joint : (from until : ℕ) → bytes_eq p.joint.name c ≡ true → repeats from until p.joint ≡ Some s → Q
  pub by_move : bytes_eq p.joint.name c ≡ true → (p.closing || holds 5 p.joint) ≡ true → Q
  pub by_ledger_a : bytes_eq p.ledger_a.name c ≡ true → Q
  pub by_ledger_b : bytes_eq p.ledger_b.name c ≡ true → Q

pub from-middle : (p : Middle) (c : List ℕ) (s : StateParts) (Q : Type 0) → MiddleWishes p c s Q → wanted_in c (middle_rows p) ≡ Some s → Q
from-middle p c s Q k e = by (middle-wants p c s e)
  where
    by : MiddleWants p c s → Q
    by (rows.guarantees_a going unset same w) = k.by_a same w
    by (rows.guarantees_b going unset same w) = k.by_b same w
    by (rows.splits from until small going early risen same w) = k.by_joint from until same w
    by (rows.ups_a going set unsettled same w) = k.by_ledger_a same
    by (rows.ups_b going set unsettled same w) = k.by_ledger_b same
    by (rows.joins going set up five unsettled same w) = k.by_move same (or-true p.closing (holds 5 p.joint) five)
    by (rows.parts closing unsettled same w) = k.by_move same (ap (λ (b : Bool). b || holds 5 p.joint) closing)
    by (rows.downs_a closing settled not-down same w) = k.by_ledger_a same
    by (rows.downs_b closing settled not-down same w) = k.by_ledger_b same

-- ---- one of its channels

module _ (key : List ℕ) (route : Route) (ledgers : List ℕ × List ℕ) (guarantors : FixedParts × FixedParts) (joint channel : FixedParts) (asset : ℕ) (amounts : ℕ × ℕ) (t : Terms) where
  abbrev v : Virtual
  v = virtual real key ledgers guarantors joint channel asset amounts

  abbrev command : Command
  command = open_virtual route ledgers guarantors joint channel asset amounts

  module _ (told : terms_for v (persons joint) ≡ Some t) (distinct : Differ (real.named guarantors.0) (real.named guarantors.1) (real.named joint) (real.named channel)) where
    -- what is known of a place
    pub record MiddlePlace (m : Mind) (f : FixedParts) (p : Middle) : Type 0 where
      pub at : MiddleAt m v p
      pub place : IsPlace m command (parts.Middle v) f
      pub terms_are : p.terms ≡ t
      pub goal_of : GoalIs channel asset amounts at.g

    pub middle-place : (m : Mind) (f : FixedParts) (p : Middle) → middle_in (facts_of m) v ≡ Some p → IsPlace m command (parts.Middle v) f → MiddlePlace m f p
    middle-place m f p e place =
        let at = middle-at m v p e in
        let sits = seated m v.joint (apart p.terms at.g.amounts) p.joint at.middle in
        record {
          at = at;
          place = place;
          terms_are = terms-known m v joint p.terms t sits.k at.told sits.keeps (place.fixed joint (inr (inr (inl refl))) sits.k sits.keeps) told;
          goal_of = goal-is route ledgers guarantors joint channel asset amounts at.g (place.goal at.g at.goal);
        }

    -- what its tables say of one of its channels
    pub record MiddleChannel (f : FixedParts) (opening : List AssetOutcome) : Type 0 where
      pub joins : is_among (real.named f) (joined_of (parts.Middle v)) ≡ true
      pub inside : In f (opened_by command)
      pub runs : (m : Mind) (p : Middle) → are_apart (names m.kept) ≡ true → MiddleAt m v p → are_set_up p ≡ true → RunsAt m f (people f - 1)
      pub taking : (m : Mind) (p : Middle) (s : StateParts) → MiddlePlace m f p → Comes m f s → middle_takes p (real.named f) s ≡ true → is_repeated opening s ≡ true
      pub wishing : (m : Mind) (p : Middle) (s : StateParts) → MiddlePlace m f p → Comes m f s → p.closing ≡ false → MiddleWishes p (real.named f) s (is_repeated opening s ≡ true)

    pub middle-starts : (f : FixedParts) (opening : List AssetOutcome) → MiddleChannel f opening → Starts command (parts.Middle v) f opening (people f - 1)
    middle-starts f opening ch = record {
      own = ch.joins;
      enough = once (people f);
      runs = runs;
      done = done;
      starts = first;
    }
      where
        c : List ℕ
        c = real.named f

        once : (n : ℕ) → n ≤ n - 1 + 1
        once n = omega arith

        not-five : (n : ℕ) → n ≡ 0 → n ≡ 5 → ⊥
        not-five n e f = absurd (omega arith)

        done : (m : Mind) → is_closing (gathered.goal_in (facts_of m) v.channel) ≡ false → nat_lt (stage_of_middle (middle_in (facts_of m) v)) 5 ≡ false → (stage_of_middle (middle_in (facts_of m) v) == 5) ≡ true
        done m open-yet e = by (middle_in (facts_of m) v) refl e
          where
            by : (o : Option Middle) → middle_in (facts_of m) v ≡ o → nat_lt (stage_of_middle o) 5 ≡ false → (stage_of_middle o == 5) ≡ true
            by None is low = absurd (not-low low)
            by (Some p) is low =
                let at = middle-at m v p is in
                stage-is (middle_rows p) 5 (at.closes ∙ (sym (ap is_closing at.goal) ∙ open-yet)) low

        runs : (m : Mind) → are_apart (names m.kept) ≡ true → (stage_of_middle (middle_in (facts_of m) v) == 5) ≡ true → RunsAt m f (people f - 1)
        runs m apart-kept e = by (middle_in (facts_of m) v) refl (eqb-true (stage_of_middle (middle_in (facts_of m) v)) 5 e)
          where
            by : (o : Option Middle) → middle_in (facts_of m) v ≡ o → stage_of_middle o ≡ 5 → RunsAt m f (people f - 1)
            by None is five = absurd (not-five 0 refl five)
            by (Some p) is five =
                ch.runs m p apart-kept (middle-at m v p is) (middle-runs p five).set

        first : (m : Mind) (k : Kept) (s : StateParts) → IsPlace m command (parts.Middle v) f → stages.asked (facts_of m) c ≡ Some (parts.Middle v) → kept_of c m.kept ≡ Some k → s.turn ≡ next_of k → s.turn < people f
            → (stages.accepts (facts_of m) c s ≡ true)
            ⊎ (((g : Goal) → gathered.goal_in (facts_of m) v.channel ≡ Some g → g.closing ≡ false) × (stages.wanted (facts_of m) c ≡ Some s))
            → is_repeated opening s ≡ true
        first m k s place asked keeps next small why = by (middle_in (facts_of m) v) refl why
          where
            comes : Comes m f s
            comes = record { k = k; keeps = keeps; fixed = place.fixed f ch.inside k keeps; next = next; small = small }

            by : (o : Option Middle) → middle_in (facts_of m) v ≡ o
                → (stages.accepts (facts_of m) c s ≡ true) ⊎ (((g : Goal) → gathered.goal_in (facts_of m) v.channel ≡ Some g → g.closing ≡ false) × (stages.wanted (facts_of m) c ≡ Some s)) → is_repeated opening s ≡ true
            by None is (inl e) = absurd (clash false (sym (ap (taken_of_middle c s) is) ∙ (sym (ap (takes_of (facts_of m) c s) asked) ∙ e)) refl)
            by None is (inr e) = absurd (none-eq s (sym (ap (wanted_of_middle c) is) ∙ (sym (ap (wanted_of (facts_of m) c) asked) ∙ e.1)))
            by (Some p) is (inl e) = ch.taking m p s (middle-place m f p is place) comes (sym (ap (taken_of_middle c s) is) ∙ (sym (ap (takes_of (facts_of m) c s) asked) ∙ e))
            by (Some p) is (inr e) =
                let at = middle-at m v p is in
                from-middle p c s (is_repeated opening s ≡ true) (ch.wishing m p s (middle-place m f p is place) comes (at.closes ∙ e.0 at.g at.goal))
                (sym (ap (wanted_of_middle c) is) ∙ (sym (ap (wanted_of (facts_of m) c) asked) ∙ e.1))

    -- the seats of a place, by name
    module _ (m : Mind) (f : FixedParts) (p : Middle) (e : MiddlePlace m f p) where
      abbrev at : MiddleAt m v p
      at = e.at

      sits-a : Seated m v.guarantor_a (guarantee p.terms v.joint p.terms.first) p.guarantor_a
      sits-a = seated m v.guarantor_a (guarantee p.terms v.joint p.terms.first) p.guarantor_a at.first_a

      sits-b : Seated m v.guarantor_b (guarantee p.terms v.joint p.terms.second) p.guarantor_b
      sits-b = seated m v.guarantor_b (guarantee p.terms v.joint p.terms.second) p.guarantor_b at.first_b

      sits-joint : Seated m v.joint (apart p.terms at.g.amounts) p.joint
      sits-joint = seated m v.joint (apart p.terms at.g.amounts) p.joint at.middle

      not-a : bytes_eq p.ledger_a.name (real.named f) ≡ true → ⊥
      not-a same =
          e.place.apart (ap (λ (b : Bool). b || is_among (real.named f) (v.ledger_b ∷ []))
          (subst (λ (x : List ℕ). bytes_eq x v.ledger_a ≡ true) (sym (named-seat m v.ledger_a p.ledger_a at.on_a) ∙ same_bytes p.ledger_a.name (real.named f) same) (bytes_eq_self v.ledger_a)))

      not-b : bytes_eq p.ledger_b.name (real.named f) ≡ true → ⊥
      not-b same =
          e.place.apart (or-true (bytes_eq (real.named f) v.ledger_a) (is_among (real.named f) (v.ledger_b ∷ [])) (ap (λ (b : Bool). b || false)
          (subst (λ (x : List ℕ). bytes_eq x v.ledger_b ≡ true) (sym (named-seat m v.ledger_b p.ledger_b at.on_b) ∙ same_bytes p.ledger_b.name (real.named f) same) (bytes_eq_self v.ledger_b))))

      a-opening : p.guarantor_a.opening ≡ guarantee t v.joint t.first
      a-opening = sits-a.opening_is ∙ ap (λ (x : Terms). guarantee x v.joint x.first) e.terms_are

      b-opening : p.guarantor_b.opening ≡ guarantee t v.joint t.second
      b-opening = sits-b.opening_is ∙ ap (λ (x : Terms). guarantee x v.joint x.second) e.terms_are

      joint-opening : p.joint.opening ≡ apart t amounts
      joint-opening = sits-joint.opening_is ∙ (ap (λ (x : Terms). apart x at.g.amounts) e.terms_are ∙ ap (apart t) e.goal_of.of_ends)

      -- a seat has no name but its own
      a-other : (y : List ℕ) → bytes_eq v.guarantor_a y ≡ false → bytes_eq p.guarantor_a.name y ≡ false
      a-other y d = named-other p.guarantor_a.name y v.guarantor_a y sits-a.name_is refl d

      b-other : (y : List ℕ) → bytes_eq v.guarantor_b y ≡ false → bytes_eq p.guarantor_b.name y ≡ false
      b-other y d = named-other p.guarantor_b.name y v.guarantor_b y sits-b.name_is refl d

      joint-other : (y : List ℕ) → bytes_eq v.joint y ≡ false → bytes_eq p.joint.name y ≡ false
      joint-other y d = named-other p.joint.name y v.joint y sits-joint.name_is refl d

    -- ---- the guarantors

    -- the guarantee alone is wanted, in any stage
    pub first-wishes : (m : Mind) (p : Middle) (s : StateParts) (Q : Type 0) → MiddlePlace m guarantors.0 p
        → ((c : Seat) (from until : ℕ) → c.opening ≡ guarantee t v.joint t.first → repeats from until c ≡ Some s → Q) → MiddleWishes p v.guarantor_a s Q
    first-wishes m p s Q e told-of = record {
      by_a = λ same w. told-of p.guarantor_a 0 2 (a-opening m guarantors.0 p e) w;
      by_b = λ same w. absurd (clash (bytes_eq p.guarantor_b.name v.guarantor_a) same (b-other m guarantors.0 p e v.guarantor_a (flips v.guarantor_a v.guarantor_b distinct.ab)));
      by_joint = λ from until same w. absurd (no-joint same);
      by_move = λ same w. absurd (no-joint same);
      by_ledger_a = λ same. absurd (not-a m guarantors.0 p e same);
      by_ledger_b = λ same. absurd (not-b m guarantors.0 p e same);
    }
      where
        no-joint : bytes_eq p.joint.name v.guarantor_a ≡ true → ⊥
        no-joint same = clash (bytes_eq p.joint.name v.guarantor_a) same (joint-other m guarantors.0 p e v.guarantor_a (flips v.guarantor_a v.joint distinct.ac))

    pub first-channel : MiddleChannel guarantors.0 (guarantee t v.joint t.first)
    first-channel = record {
      joins = ap (λ (b : Bool). b || is_among v.guarantor_a (v.guarantor_b ∷ v.joint ∷ [])) (bytes_eq_self v.guarantor_a);
      inside = inl refl;
      runs = λ m p apart-kept at set-up. set-up-runs m guarantors.0 (guarantee p.terms v.joint p.terms.first) p.guarantor_a apart-kept
          (seated m v.guarantor_a (guarantee p.terms v.joint p.terms.first) p.guarantor_a at.first_a)
          (and-left (is_set_up p.guarantor_a) (is_set_up p.guarantor_b) (and-left (is_set_up p.guarantor_a && is_set_up p.guarantor_b) (is_set_up p.joint) set-up));
      taking = taking;
      wishing = λ m p s e comes stays. first-wishes m p s (is_repeated (guarantee t v.joint t.first) s ≡ true) e
          (λ c from until is w. repeats-opening c (guarantee t v.joint t.first) from until s is w);
    }
      where
        opening : List AssetOutcome
        opening = guarantee t v.joint t.first

        taking : (m : Mind) (p : Middle) (s : StateParts) → MiddlePlace m guarantors.0 p → Comes m guarantors.0 s → middle_takes p v.guarantor_a s ≡ true → is_repeated opening s ≡ true
        taking m p s e comes h =
            let sits = sits-a m guarantors.0 p e in
            takes-opening p.guarantor_a opening s s.is_final (a-opening m guarantors.0 p e)
            (in-first m v.guarantor_a (guarantee p.terms v.joint p.terms.first) p.guarantor_a sits guarantors.0 comes.k comes.keeps comes.fixed s.turn comes.small)
            (cond-yes (bytes_eq p.guarantor_a.name v.guarantor_a) (takes_fixed p.guarantor_a s) _ (named-so p.guarantor_a.name v.guarantor_a v.guarantor_a sits.name_is refl) h)

    -- the guarantee alone is wanted, in any stage
    pub second-wishes : (m : Mind) (p : Middle) (s : StateParts) (Q : Type 0) → MiddlePlace m guarantors.1 p
        → ((c : Seat) (from until : ℕ) → c.opening ≡ guarantee t v.joint t.second → repeats from until c ≡ Some s → Q) → MiddleWishes p v.guarantor_b s Q
    second-wishes m p s Q e told-of = record {
      by_a = λ same w. absurd (clash (bytes_eq p.guarantor_a.name v.guarantor_b) same (a-other m guarantors.1 p e v.guarantor_b distinct.ab));
      by_b = λ same w. told-of p.guarantor_b 0 2 (b-opening m guarantors.1 p e) w;
      by_joint = λ from until same w. absurd (no-joint same);
      by_move = λ same w. absurd (no-joint same);
      by_ledger_a = λ same. absurd (not-a m guarantors.1 p e same);
      by_ledger_b = λ same. absurd (not-b m guarantors.1 p e same);
    }
      where
        no-joint : bytes_eq p.joint.name v.guarantor_b ≡ true → ⊥
        no-joint same = clash (bytes_eq p.joint.name v.guarantor_b) same (joint-other m guarantors.1 p e v.guarantor_b (flips v.guarantor_b v.joint distinct.bc))

    pub second-channel : MiddleChannel guarantors.1 (guarantee t v.joint t.second)
    second-channel = record {
      joins = in-among v.guarantor_b (joined_of (parts.Middle v)) (inr (inl refl));
      inside = inr (inl refl);
      runs = λ m p apart-kept at set-up. set-up-runs m guarantors.1 (guarantee p.terms v.joint p.terms.second) p.guarantor_b apart-kept
          (seated m v.guarantor_b (guarantee p.terms v.joint p.terms.second) p.guarantor_b at.first_b)
          (and-right (is_set_up p.guarantor_a) (is_set_up p.guarantor_b) (and-left (is_set_up p.guarantor_a && is_set_up p.guarantor_b) (is_set_up p.joint) set-up));
      taking = taking;
      wishing = λ m p s e comes stays. second-wishes m p s (is_repeated (guarantee t v.joint t.second) s ≡ true) e
          (λ c from until is w. repeats-opening c (guarantee t v.joint t.second) from until s is w);
    }
      where
        opening : List AssetOutcome
        opening = guarantee t v.joint t.second

        no-a : (m : Mind) (p : Middle) → MiddlePlace m guarantors.1 p → bytes_eq p.guarantor_a.name v.guarantor_b ≡ false
        no-a m p e = a-other m guarantors.1 p e v.guarantor_b distinct.ab

        taking : (m : Mind) (p : Middle) (s : StateParts) → MiddlePlace m guarantors.1 p → Comes m guarantors.1 s → middle_takes p v.guarantor_b s ≡ true → is_repeated opening s ≡ true
        taking m p s e comes h =
            let sits = sits-b m guarantors.1 p e in
            takes-opening p.guarantor_b opening s s.is_final (b-opening m guarantors.1 p e)
            (in-first m v.guarantor_b (guarantee p.terms v.joint p.terms.second) p.guarantor_b sits guarantors.1 comes.k comes.keeps comes.fixed s.turn comes.small)
            (cond-yes (bytes_eq p.guarantor_b.name v.guarantor_b) (takes_fixed p.guarantor_b s) _ (named-so p.guarantor_b.name v.guarantor_b v.guarantor_b sits.name_is refl)
            (cond-no (bytes_eq p.guarantor_a.name v.guarantor_b) (takes_fixed p.guarantor_a s) _ (no-a m p e) h))

    -- ---- the joint channel

    joint-channel : MiddleChannel joint (apart t amounts)
    joint-channel = record {
      joins = in-among v.joint (joined_of (parts.Middle v)) (inr (inr (inl refl)));
      inside = inr (inr (inl refl));
      runs = λ m p apart-kept at set-up. set-up-runs m joint (apart p.terms at.g.amounts) p.joint apart-kept (seated m v.joint (apart p.terms at.g.amounts) p.joint at.middle)
          (and-right (is_set_up p.guarantor_a && is_set_up p.guarantor_b) (is_set_up p.joint) set-up);
      taking = taking;
      wishing = wishing;
    }
      where
        opening : List AssetOutcome
        opening = apart t amounts

        no-a : (m : Mind) (p : Middle) → MiddlePlace m joint p → bytes_eq p.guarantor_a.name v.joint ≡ false
        no-a m p e = a-other m joint p e v.joint distinct.ac

        no-b : (m : Mind) (p : Middle) → MiddlePlace m joint p → bytes_eq p.guarantor_b.name v.joint ≡ false
        no-b m p e = b-other m joint p e v.joint distinct.bc

        taking : (m : Mind) (p : Middle) (s : StateParts) → MiddlePlace m joint p → Comes m joint s → middle_takes p v.joint s ≡ true → is_repeated opening s ≡ true
        taking m p s e comes h =
            let sits = sits-joint m joint p e in
            takes-opening p.joint opening s _ (joint-opening m joint p e)
            (in-first m v.joint (apart p.terms e.at.g.amounts) p.joint sits joint comes.k comes.keeps comes.fixed s.turn comes.small)
            (cond-yes (bytes_eq p.joint.name v.joint) _ _ (named-so p.joint.name v.joint v.joint sits.name_is refl)
            (cond-no (bytes_eq p.guarantor_b.name v.joint) (takes_fixed p.guarantor_b s) _ (no-b m p e) (cond-no (bytes_eq p.guarantor_a.name v.joint) (takes_fixed p.guarantor_a s) _ (no-a m p e) h)))

        wishing : (m : Mind) (p : Middle) (s : StateParts) → MiddlePlace m joint p → Comes m joint s → p.closing ≡ false → MiddleWishes p v.joint s (is_repeated opening s ≡ true)
        wishing m p s e comes stays = record {
          by_a = λ same w. absurd (clash (bytes_eq p.guarantor_a.name v.joint) same (no-a m p e));
          by_b = λ same w. absurd (clash (bytes_eq p.guarantor_b.name v.joint) same (no-b m p e));
          by_joint = λ from until same w. repeats-opening p.joint opening from until s (joint-opening m joint p e) w;
          by_move = λ same w. absurd (not-after m v.joint (apart p.terms e.at.g.amounts) p.joint (sits-joint m joint p e) joint comes.k comes.keeps comes.fixed e.place.once
              (or-right p.closing (holds 5 p.joint) w stays) s.turn comes.next comes.small);
          by_ledger_a = λ same. absurd (not-a m joint p e same);
          by_ledger_b = λ same. absurd (not-b m joint p e same);
        }

pub middles_open : MiddlesOpenWith
middles_open s h journal legal plays route ledgers guarantors joint channel asset amounts t took takes told = record {
  first_opens = opens guarantors.0 (inl refl) (guarantee t (real.named joint) t.first) (first-channel s.key route ledgers guarantors joint channel asset amounts t told distinct);
  second_opens = opens guarantors.1 (inr (inl refl)) (guarantee t (real.named joint) t.second) (second-channel s.key route ledgers guarantors joint channel asset amounts t told distinct);
  joint_opens = opens joint (inr (inr (inl refl))) (apart t amounts) (joint-channel s.key route ledgers guarantors joint channel asset amounts t told distinct);
}
  where
    distinct : Differ (real.named guarantors.0) (real.named guarantors.1) (real.named joint) (real.named channel)
    distinct = names-differ s h journal legal plays route ledgers guarantors joint channel asset amounts took

    opens : (f : FixedParts) → In f (opened_by (open_virtual route ledgers guarantors joint channel asset amounts)) → (opening : List AssetOutcome) → MiddleChannel s.key route ledgers guarantors joint channel asset amounts t told distinct f opening
        → OpensWith f opening (lines_of s.key journal)
    opens f inside opening ch =
        opens-with s h journal legal plays (open_virtual route ledgers guarantors joint channel asset amounts) (parts.Middle (virtual real s.key ledgers guarantors joint channel asset amounts)) f opening (people f - 1) took inside
        (at-middle s.key route ledgers guarantors joint channel asset amounts takes) (middle-starts s.key route ledgers guarantors joint channel asset amounts t told distinct f opening ch)
