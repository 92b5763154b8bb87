-- The first round of an end's channels of a virtual one.
use Rattle.std.proofs.Common.{◌≡◌, ℕ, ◌+◌, ◌-◌, ◌<◌, ◌≤◌, Bool, true, false, cond, ◌&&◌, ◌||◌, ◌⊎◌, List, [], ◌∷◌, length, inl, inr, refl, sym, ◌∙◌, ap, subst, arith}
use Rattle.std.specs.Prelude.{◌==◌, nat_lt, Option, Some, None}
use Rattle.std.specs.Str.{bytes_eq}
use Rattle.channel_values.specs.Parts.{FixedParts, StateParts}
use Rattle.channel_values.specs.declared.value.AssetOutcome.{AssetOutcome}
use Rattle.channel_values.specs.Rules.{people}
use Rattle.call_history.proofs.Names.{same_bytes, bytes_eq_self}
use Rattle.call_history.specs.Flows.{is_among}
use Rattle.channel_store.specs.Keeping.{next_of}
use Rattle.channel_store.specs.Storing.{kept_of}
use Rattle.channel_store.specs.declared.kept.Kept.{Kept}
use Rattle.funding_plans.specs.Known.{FactsOf}
use Rattle.funding_plans.specs.Parts.{own_ledger, own_guarantor, joined_of}
use Rattle.funding_plans.specs.declared.plan.Goal.{Goal}
use Rattle.funding_plans.specs.declared.plan.Part.TheVariants as parts
use Rattle.funding_plans.specs.declared.plan.Virtual.{Virtual}
use Rattle.funding_plans.specs.Targets.{apart, guarantee}
use Rattle.funding_plans.specs.declared.child.Child.{Child}
use Rattle.funding_plans.specs.declared.terms.Terms.{Terms}
use Rattle.support_rules.specs.Real.{real}
use Rattle.support_rules.specs.Steps.{persons}
use Rattle.channel_safety.specs.Journals.{In}
use Rattle.fairness_laws.specs.Openings.{open_virtual}
use Rattle.network.specs.declared.command.Command.{Command}
use Rattle.network.specs.declared.command.Route.{Route}
use Rattle.funding_plans.specs.Gathered as gathered
use Rattle.funding_plans.specs.Rows.{wanted_in}
use Rattle.funding_plans.specs.Seats.{Seat, holds, is_set_up, repeats, takes_payment, takes_idle, takes_fixed}
use Rattle.virtual_channel.specs.Ends.{End, are_set_up, end_rows, end_takes, channel_takes}
use Rattle.virtual_channel.specs.Stages.{◌>>=◌, terms_for, terms_in, own_end, is_voting, end_in, stage_of_end, wanted_of_end, taken_of_end}
use Rattle.stage_tables.specs.Asked.{is_closing, wanted_of, takes_of}
use Rattle.channel_node.specs.Minds.{Mind, facts_of}
use Rattle.channel_node.specs.Openings.{opened_by, virtual, are_apart, shared}
use Rattle.channel_node.specs.Places.{lines_of}
use Rattle.stage_tables.specs.Stages.{stages}
use Rattle.channel_safety.proofs.Tests.{some-eq, none-eq, and-left, and-right, or-right, eqb-true, clash}
use Rattle.fairness_laws.specs.Carried.{OpensWith}
use Rattle.fairness_laws.specs.Roots.{is_repeated}
use Rattle.fairness_laws.proofs.Finding.{names, flips}
use Rattle.fairness_laws.proofs.Closing.{RunsAt}
use Rattle.fairness_laws.proofs.FirstRounds.{IsPlace, Starts, opens-with}
use Rattle.fairness_laws.proofs.Plan.Names.{in-among}
use Rattle.fairness_laws.specs.OpeningChannels.{guarantor_of, EndsOpenWith}
use Rattle.fairness_laws.proofs.Planned.{or-true}
use Rattle.fairness_laws.proofs.Joint.Rows.{EndWants, end-wants}
use Rattle.fairness_laws.proofs.Joint.Rows as rows
use Rattle.fairness_laws.proofs.Rows.{stage-is}
use Rattle.fairness_laws.proofs.Stages.{EndRuns, end-runs}
use Rattle.fairness_laws.proofs.Opening.Seated.{Seated, seated, named-seat, in-first, not-after, set-up-runs, third-runs, repeats-opening, takes-opening, cond-yes, cond-no}
use Rattle.fairness_laws.proofs.Opening.Virtuals.{bound, terms-known, GoalIs, goal-is, Differ, named-so, named-other, not-low, Comes, names-differ, at-end}

-- ---- what the facts say of it

pub record EndAt (m : Mind) (v : Virtual) (p : End) : Type 0 where
  pub told : terms_in (facts_of m) v ≡ Some p.terms
  pub g : Goal
  pub goal : gathered.goal_in (facts_of m) v.channel ≡ Some g
  pub on : gathered.seat_in (facts_of m) (own_ledger v) ≡ Some p.ledger
  pub first : gathered.seat_with (facts_of m) (own_guarantor v) (guarantee p.terms v.joint (own_end v p.terms)) ≡ Some p.guarantor
  pub middle : gathered.seat_with (facts_of m) v.joint (apart p.terms g.amounts) ≡ Some p.joint
  pub last : gathered.seat_with (facts_of m) v.channel g.opening ≡ Some p.channel
  pub closes : p.closing ≡ g.closing

module _ (m : Mind) (v : Virtual) where
  abbrev F : FactsOf
  F = facts_of m

  abbrev whole : Terms → Goal → Seat → Child → Seat → Seat → Seat → End
  whole t g l k a j c = record { terms = t; child = k; ledger = l; guarantor = a; joint = j; channel = c; votes = is_voting (gathered.chain_in v.channel F.chains); closing = g.closing }

  abbrev with-joint : Terms → Goal → Seat → Child → Seat → Seat → Option End
  with-joint t g l k a j = gathered.seat_with F v.channel g.opening >>= λ c. Some (whole t g l k a j c)

  abbrev with-guarantor : Terms → Goal → Seat → Child → Seat → Option End
  with-guarantor t g l k a = gathered.seat_with F v.joint (apart t g.amounts) >>= λ j. with-joint t g l k a j

  abbrev with-child : Terms → Goal → Seat → Child → Option End
  with-child t g l k = gathered.seat_with F (own_guarantor v) (guarantee t v.joint (own_end v t)) >>= λ a. with-guarantor t g l k a

  abbrev with-ledger : Terms → Goal → Seat → Option End
  with-ledger t g l = gathered.child_for v.asset (own_guarantor v) g.amounts l.people >>= λ k. with-child t g l k

  abbrev with-goal : Terms → Goal → Option End
  with-goal t g = gathered.seat_in F (own_ledger v) >>= λ l. with-ledger t g l

  abbrev with-terms : Terms → Option End
  with-terms t = gathered.goal_in F v.channel >>= λ g. with-goal t g

  end-made : (t : Terms) (g : Goal) (l : Seat) (k : Child) (a j c : Seat) (p : End) → terms_in F v ≡ Some t → gathered.goal_in F v.channel ≡ Some g → gathered.seat_in F (own_ledger v) ≡ Some l
      → gathered.seat_with F (own_guarantor v) (guarantee t v.joint (own_end v t)) ≡ Some a → gathered.seat_with F v.joint (apart t g.amounts) ≡ Some j → gathered.seat_with F v.channel g.opening ≡ Some c
      → Some (whole t g l k a j c) ≡ Some p → EndAt m v p
  end-made t g l k a j c p et eg el ea ej ec e =
      subst (EndAt m v) (some-eq (whole t g l k a j c) p e) (record { told = et; g = g; goal = eg; on = el; first = ea; middle = ej; last = ec; closes = refl })

  pub end-at : (p : End) → end_in F v ≡ Some p → EndAt m v p
  end-at p e =
      let t = bound (terms_in F v) with-terms p e in
      let g = bound (gathered.goal_in F v.channel) (with-goal t.x) p t.rest in
      let l = bound (gathered.seat_in F (own_ledger v)) (with-ledger t.x g.x) p g.rest in
      let k = bound (gathered.child_for v.asset (own_guarantor v) g.x.amounts l.x.people) (with-child t.x g.x l.x) p l.rest in
      let a = bound (gathered.seat_with F (own_guarantor v) (guarantee t.x v.joint (own_end v t.x))) (with-guarantor t.x g.x l.x k.x) p k.rest in
      let j = bound (gathered.seat_with F v.joint (apart t.x g.x.amounts)) (with-joint t.x g.x l.x k.x a.x) p a.rest in
      let c = bound (gathered.seat_with F v.channel g.x.opening) (λ c. Some (whole t.x g.x l.x k.x a.x j.x c)) p j.rest in
      end-made t.x g.x l.x k.x a.x j.x c.x p t.is g.is l.is a.is j.is c.is c.rest

-- ---- its rows

-- what follows from each wish of an end for a channel
pub record EndWishes (p : End) (c : List ℕ) (s : StateParts) (Q : Type 0) : Type 0 where
  pub by_guarantor : bytes_eq p.guarantor.name c ≡ true → repeats 0 2 p.guarantor ≡ Some s → Q
  pub by_joint : (from until : ℕ) → bytes_eq p.joint.name c ≡ true → repeats from until p.joint ≡ Some s → Q
  pub by_move : bytes_eq p.joint.name c ≡ true → (p.closing || holds 5 p.joint) ≡ true → Q
  pub by_channel : (from until : ℕ) → bytes_eq p.channel.name c ≡ true → repeats from until p.channel ≡ Some s → Q
  pub by_final : bytes_eq p.channel.name c ≡ true → p.closing ≡ true → Q
  pub by_ledger : bytes_eq p.ledger.name c ≡ true → Q

pub from-end : (p : End) (c : List ℕ) (s : StateParts) (Q : Type 0) → EndWishes p c s Q → wanted_in c (end_rows p) ≡ Some s → Q
from-end p c s Q k e = by (end-wants p c s e)
  where
    by : EndWants p c s → Q
    by (rows.guarantees going unset same w) = k.by_guarantor same w
    by (rows.splits from until small going early risen same w) = k.by_joint from until same w
    by (rows.opens from until small early same w) = k.by_channel from until same w
    by (rows.ups going set unsettled same w) = k.by_ledger same
    by (rows.joins going set up five unsettled same w) = k.by_move same (or-true p.closing (holds 5 p.joint) five)
    by (rows.finals closing unended same w) = k.by_final same closing
    by (rows.parts closing final unsettled same w) = k.by_move same (ap (λ (b : Bool). b || holds 5 p.joint) closing)
    by (rows.downs closing final settled yet same w) = k.by_ledger same

-- ---- one of its channels

module _ (key : List ℕ) (route : Route) (ledgers : List ℕ × List ℕ) (guarantors : FixedParts × FixedParts) (joint channel : FixedParts) (asset : ℕ) (amounts : ℕ × ℕ) (t : Terms) where
  abbrev v : Virtual
  v = virtual real key ledgers guarantors joint channel asset amounts

  abbrev command : Command
  command = open_virtual route ledgers guarantors joint channel asset amounts

  module _ (told : terms_for v (persons joint) ≡ Some t) (distinct : Differ (real.named guarantors.0) (real.named guarantors.1) (real.named joint) (real.named channel)) where
    -- what is known of a place
    pub record EndPlace (m : Mind) (f : FixedParts) (p : End) : Type 0 where
      pub at : EndAt m v p
      pub place : IsPlace m command (parts.End v) f
      pub terms_are : p.terms ≡ t
      pub goal_of : GoalIs channel asset amounts at.g

    pub end-place : (m : Mind) (f : FixedParts) (p : End) → end_in (facts_of m) v ≡ Some p → IsPlace m command (parts.End v) f → EndPlace m f p
    end-place m f p e place =
        let at = end-at m v p e in
        let sits = seated m v.joint (apart p.terms at.g.amounts) p.joint at.middle in
        record {
          at = at;
          place = place;
          terms_are = terms-known m v joint p.terms t sits.k at.told sits.keeps (place.fixed joint (inr (inr (inl refl))) sits.k sits.keeps) told;
          goal_of = goal-is route ledgers guarantors joint channel asset amounts at.g (place.goal at.g at.goal);
        }

    -- what its tables say of one of its channels
    pub record EndChannel (f : FixedParts) (opening : List AssetOutcome) : Type 0 where
      pub joins : is_among (real.named f) (joined_of (parts.End v)) ≡ true
      pub inside : In f (opened_by command)
      pub runs : (m : Mind) (p : End) → are_apart (names m.kept) ≡ true → EndAt m v p → are_set_up p ≡ true → RunsAt m f (people f - 1)
      pub taking : (m : Mind) (p : End) (s : StateParts) → EndPlace m f p → Comes m f s → end_takes p (real.named f) s ≡ true → is_repeated opening s ≡ true
      pub wishing : (m : Mind) (p : End) (s : StateParts) → EndPlace m f p → Comes m f s → p.closing ≡ false → EndWishes p (real.named f) s (is_repeated opening s ≡ true)

    -- held so far where the part runs
    end-starts-at : (f : FixedParts) (opening : List AssetOutcome) (turn : ℕ) → people f ≤ turn + 1
        → ((m : Mind) (p : End) → are_apart (names m.kept) ≡ true → EndAt m v p → EndRuns p → RunsAt m f turn) → EndChannel f opening → Starts command (parts.End v) f opening turn
    end-starts-at f opening turn enough reached ch = record {
      own = ch.joins;
      enough = enough;
      runs = runs;
      done = done;
      starts = first;
    }
      where
        c : List ℕ
        c = real.named f

        not-five : (n : ℕ) → n ≡ 0 → n ≡ 5 → ⊥
        not-five n e f = absurd (omega arith)

        done : (m : Mind) → is_closing (gathered.goal_in (facts_of m) v.channel) ≡ false → nat_lt (stage_of_end (end_in (facts_of m) v)) 5 ≡ false → (stage_of_end (end_in (facts_of m) v) == 5) ≡ true
        done m open-yet e = by (end_in (facts_of m) v) refl e
          where
            by : (o : Option End) → end_in (facts_of m) v ≡ o → nat_lt (stage_of_end o) 5 ≡ false → (stage_of_end o == 5) ≡ true
            by None is low = absurd (not-low low)
            by (Some p) is low =
                let at = end-at m v p is in
                stage-is (end_rows p) 5 (at.closes ∙ (sym (ap is_closing at.goal) ∙ open-yet)) low

        runs : (m : Mind) → are_apart (names m.kept) ≡ true → (stage_of_end (end_in (facts_of m) v) == 5) ≡ true → RunsAt m f turn
        runs m apart-kept e = by (end_in (facts_of m) v) refl (eqb-true (stage_of_end (end_in (facts_of m) v)) 5 e)
          where
            by : (o : Option End) → end_in (facts_of m) v ≡ o → stage_of_end o ≡ 5 → RunsAt m f turn
            by None is five = absurd (not-five 0 refl five)
            by (Some p) is five = reached m p apart-kept (end-at m v p is) (end-runs p five)

        first : (m : Mind) (k : Kept) (s : StateParts) → IsPlace m command (parts.End v) f → stages.asked (facts_of m) c ≡ Some (parts.End v) → kept_of c m.kept ≡ Some k → s.turn ≡ next_of k → s.turn < people f
            → (stages.accepts (facts_of m) c s ≡ true)
            ⊎ (((g : Goal) → gathered.goal_in (facts_of m) v.channel ≡ Some g → g.closing ≡ false) × (stages.wanted (facts_of m) c ≡ Some s))
            → is_repeated opening s ≡ true
        first m k s place asked keeps next small why = by (end_in (facts_of m) v) refl why
          where
            comes : Comes m f s
            comes = record { k = k; keeps = keeps; fixed = place.fixed f ch.inside k keeps; next = next; small = small }

            by : (o : Option End) → end_in (facts_of m) v ≡ o
                → (stages.accepts (facts_of m) c s ≡ true) ⊎ (((g : Goal) → gathered.goal_in (facts_of m) v.channel ≡ Some g → g.closing ≡ false) × (stages.wanted (facts_of m) c ≡ Some s)) → is_repeated opening s ≡ true
            by None is (inl e) = absurd (clash false (sym (ap (taken_of_end c s) is) ∙ (sym (ap (takes_of (facts_of m) c s) asked) ∙ e)) refl)
            by None is (inr e) = absurd (none-eq s (sym (ap (wanted_of_end c) is) ∙ (sym (ap (wanted_of (facts_of m) c) asked) ∙ e.1)))
            by (Some p) is (inl e) = ch.taking m p s (end-place m f p is place) comes (sym (ap (taken_of_end c s) is) ∙ (sym (ap (takes_of (facts_of m) c s) asked) ∙ e))
            by (Some p) is (inr e) =
                let at = end-at m v p is in
                from-end p c s (is_repeated opening s ≡ true) (ch.wishing m p s (end-place m f p is place) comes (at.closes ∙ e.0 at.g at.goal))
                (sym (ap (wanted_of_end c) is) ∙ (sym (ap (wanted_of (facts_of m) c) asked) ∙ e.1))

    -- by its first round
    pub end-starts : (f : FixedParts) (opening : List AssetOutcome) → EndChannel f opening → Starts command (parts.End v) f opening (people f - 1)
    end-starts f opening ch = end-starts-at f opening (people f - 1) (once (people f)) (λ m p apart-kept at r. ch.runs m p apart-kept at r.set) ch
      where
        once : (n : ℕ) → n ≤ n - 1 + 1
        once n = omega arith

    -- ---- names

    pub guarantor-named : real.named (guarantor_of v guarantors) ≡ own_guarantor v
    guarantor-named = go v.side_b
      where
        go : (b : Bool) → real.named (cond b guarantors.1 guarantors.0) ≡ cond b (real.named guarantors.1) (real.named guarantors.0)
        go true = refl
        go false = refl

    guarantor-joint : bytes_eq (own_guarantor v) v.joint ≡ false
    guarantor-joint = go v.side_b
      where
        go : (b : Bool) → bytes_eq (cond b (real.named guarantors.1) (real.named guarantors.0)) (real.named joint) ≡ false
        go true = distinct.bc
        go false = distinct.ac

    pub guarantor-channel : bytes_eq (own_guarantor v) v.channel ≡ false
    guarantor-channel = go v.side_b
      where
        go : (b : Bool) → bytes_eq (cond b (real.named guarantors.1) (real.named guarantors.0)) (real.named channel) ≡ false
        go true = distinct.bd
        go false = distinct.ad

    pub guarantor-inside : In (guarantor_of v guarantors) (opened_by command)
    guarantor-inside = go v.side_b
      where
        go : (b : Bool) → In (cond b guarantors.1 guarantors.0) (opened_by command)
        go true = inr (inl refl)
        go false = inl refl

    -- the seats of a place, by name
    module _ (m : Mind) (f : FixedParts) (p : End) (e : EndPlace m f p) where
      abbrev at : EndAt m v p
      at = e.at

      sits-guarantor : Seated m (own_guarantor v) (guarantee p.terms v.joint (own_end v p.terms)) p.guarantor
      sits-guarantor = seated m (own_guarantor v) (guarantee p.terms v.joint (own_end v p.terms)) p.guarantor at.first

      sits-joint : Seated m v.joint (apart p.terms at.g.amounts) p.joint
      sits-joint = seated m v.joint (apart p.terms at.g.amounts) p.joint at.middle

      sits-channel : Seated m v.channel at.g.opening p.channel
      sits-channel = seated m v.channel at.g.opening p.channel at.last

      not-ledger : bytes_eq p.ledger.name (real.named f) ≡ true → ⊥
      not-ledger same =
          e.place.apart (ap (λ (b : Bool). b || false)
          (subst (λ (x : List ℕ). bytes_eq x (own_ledger v) ≡ true) (sym (named-seat m (own_ledger v) p.ledger at.on) ∙ same_bytes p.ledger.name (real.named f) same) (bytes_eq_self (own_ledger v))))

      guarantor-opening : p.guarantor.opening ≡ guarantee t v.joint (own_end v t)
      guarantor-opening = sits-guarantor.opening_is ∙ ap (λ (x : Terms). guarantee x v.joint (own_end v x)) e.terms_are

      joint-opening : p.joint.opening ≡ apart t amounts
      joint-opening = sits-joint.opening_is ∙ (ap (λ (x : Terms). apart x at.g.amounts) e.terms_are ∙ ap (apart t) e.goal_of.of_ends)

      channel-opening : p.channel.opening ≡ shared channel asset amounts
      channel-opening = sits-channel.opening_is ∙ e.goal_of.opening

    -- ---- the guarantor

    -- the guarantee alone is wanted, in any stage
    pub guarantor-wishes : (m : Mind) (p : End) (s : StateParts) (Q : Type 0) → EndPlace m (guarantor_of v guarantors) p
        → ((c : Seat) (from until : ℕ) → c.opening ≡ guarantee t v.joint (own_end v t) → repeats from until c ≡ Some s → Q)
        → EndWishes p (real.named (guarantor_of v guarantors)) s Q
    guarantor-wishes m p s Q e told = record {
      by_guarantor = λ same w. told p.guarantor 0 2 (guarantor-opening m (guarantor_of v guarantors) p e) w;
      by_joint = λ from until same w. absurd (no-joint same);
      by_move = λ same w. absurd (no-joint same);
      by_channel = λ from until same w. absurd (no-channel same);
      by_final = λ same w. absurd (no-channel same);
      by_ledger = λ same. absurd (not-ledger m (guarantor_of v guarantors) p e same);
    }
      where
        no-joint : bytes_eq p.joint.name (real.named (guarantor_of v guarantors)) ≡ true → ⊥
        no-joint same =
            clash (bytes_eq p.joint.name (real.named (guarantor_of v guarantors))) same
            (named-other p.joint.name (real.named (guarantor_of v guarantors)) v.joint (own_guarantor v) (sits-joint m (guarantor_of v guarantors) p e).name_is guarantor-named (flips (own_guarantor v) v.joint guarantor-joint))

        no-channel : bytes_eq p.channel.name (real.named (guarantor_of v guarantors)) ≡ true → ⊥
        no-channel same =
            clash (bytes_eq p.channel.name (real.named (guarantor_of v guarantors))) same
            (named-other p.channel.name (real.named (guarantor_of v guarantors)) v.channel (own_guarantor v) (sits-channel m (guarantor_of v guarantors) p e).name_is guarantor-named (flips (own_guarantor v) v.channel guarantor-channel))

    pub guarantor-channel-of : EndChannel (guarantor_of v guarantors) (guarantee t v.joint (own_end v t))
    guarantor-channel-of = record {
      joins = ap (λ (b : Bool). b || is_among f-name (v.joint ∷ v.channel ∷ [])) (named-so f-name (own_guarantor v) (own_guarantor v) guarantor-named refl);
      inside = guarantor-inside;
      runs = λ m p apart-kept at set-up. set-up-runs m (guarantor_of v guarantors) (guarantee p.terms v.joint (own_end v p.terms)) p.guarantor apart-kept
          (subst (λ (n : List ℕ). Seated m n (guarantee p.terms v.joint (own_end v p.terms)) p.guarantor) (sym guarantor-named)
          (seated m (own_guarantor v) (guarantee p.terms v.joint (own_end v p.terms)) p.guarantor at.first))
          (and-left (is_set_up p.guarantor) (is_set_up p.joint) (and-left (is_set_up p.guarantor && is_set_up p.joint) (is_set_up p.channel) set-up));
      taking = taking;
      wishing = λ m p s e comes stays. guarantor-wishes m p s (is_repeated (guarantee t v.joint (own_end v t)) s ≡ true) e
          (λ c from until is w. repeats-opening c (guarantee t v.joint (own_end v t)) from until s is w);
    }
      where
        f-name : List ℕ
        f-name = real.named (guarantor_of v guarantors)

        opening : List AssetOutcome
        opening = guarantee t v.joint (own_end v t)

        taking : (m : Mind) (p : End) (s : StateParts) → EndPlace m (guarantor_of v guarantors) p → Comes m (guarantor_of v guarantors) s → end_takes p f-name s ≡ true → is_repeated opening s ≡ true
        taking m p s e comes h =
            let sits = sits-guarantor m (guarantor_of v guarantors) p e in
            takes-opening p.guarantor opening s s.is_final (guarantor-opening m (guarantor_of v guarantors) p e)
            (in-first m (own_guarantor v) (guarantee p.terms v.joint (own_end v p.terms)) p.guarantor sits (guarantor_of v guarantors) comes.k
            (subst (λ (n : List ℕ). kept_of n m.kept ≡ Some comes.k) guarantor-named comes.keeps) comes.fixed s.turn comes.small)
            (cond-yes (bytes_eq p.guarantor.name f-name) (takes_fixed p.guarantor s) _ (named-so p.guarantor.name f-name (own_guarantor v) sits.name_is guarantor-named) h)

    -- ---- the joint channel

    joint-channel-of : EndChannel joint (apart t amounts)
    joint-channel-of = record {
      joins = in-among v.joint (joined_of (parts.End v)) (inr (inl refl));
      inside = inr (inr (inl refl));
      runs = λ m p apart-kept at set-up. set-up-runs m joint (apart p.terms at.g.amounts) p.joint apart-kept (seated m v.joint (apart p.terms at.g.amounts) p.joint at.middle)
          (and-right (is_set_up p.guarantor) (is_set_up p.joint) (and-left (is_set_up p.guarantor && is_set_up p.joint) (is_set_up p.channel) set-up));
      taking = taking;
      wishing = wishing;
    }
      where
        opening : List AssetOutcome
        opening = apart t amounts

        no-guarantor : (m : Mind) (p : End) → EndPlace m joint p → bytes_eq p.guarantor.name v.joint ≡ false
        no-guarantor m p e = named-other p.guarantor.name v.joint (own_guarantor v) v.joint (sits-guarantor m joint p e).name_is refl guarantor-joint

        no-channel : (m : Mind) (p : End) → EndPlace m joint p → bytes_eq p.channel.name v.joint ≡ false
        no-channel m p e = named-other p.channel.name v.joint v.channel v.joint (sits-channel m joint p e).name_is refl (flips v.joint v.channel distinct.cd)

        taking : (m : Mind) (p : End) (s : StateParts) → EndPlace m joint p → Comes m joint s → end_takes p v.joint s ≡ true → is_repeated opening s ≡ true
        taking m p s e comes h =
            let sits = sits-joint m joint p e in
            takes-opening p.joint opening s _ (joint-opening m joint p e)
            (in-first m v.joint (apart p.terms e.at.g.amounts) p.joint sits joint comes.k comes.keeps comes.fixed s.turn comes.small)
            (cond-yes (bytes_eq p.joint.name v.joint) _ _ (named-so p.joint.name v.joint v.joint sits.name_is refl)
            (cond-no (bytes_eq p.channel.name v.joint) (channel_takes p s) _ (no-channel m p e) (cond-no (bytes_eq p.guarantor.name v.joint) (takes_fixed p.guarantor s) _ (no-guarantor m p e) h)))

        wishing : (m : Mind) (p : End) (s : StateParts) → EndPlace m joint p → Comes m joint s → p.closing ≡ false → EndWishes p v.joint s (is_repeated opening s ≡ true)
        wishing m p s e comes stays = record {
          by_guarantor = λ same w. absurd (clash (bytes_eq p.guarantor.name v.joint) same (no-guarantor m p e));
          by_joint = λ from until same w. repeats-opening p.joint opening from until s (joint-opening m joint p e) w;
          by_move = λ same w. absurd (not-after m v.joint (apart p.terms e.at.g.amounts) p.joint (sits-joint m joint p e) joint comes.k comes.keeps comes.fixed e.place.once
              (or-right p.closing (holds 5 p.joint) w stays) s.turn comes.next comes.small);
          by_channel = λ from until same w. absurd (clash (bytes_eq p.channel.name v.joint) same (no-channel m p e));
          by_final = λ same w. absurd (clash (bytes_eq p.channel.name v.joint) same (no-channel m p e));
          by_ledger = λ same. absurd (not-ledger m joint p e same);
        }

    -- ---- the payment channel

    channel-no_guarantor : (m : Mind) (p : End) → EndPlace m channel p → bytes_eq p.guarantor.name v.channel ≡ false
    channel-no_guarantor m p e = named-other p.guarantor.name v.channel (own_guarantor v) v.channel (sits-guarantor m channel p e).name_is refl guarantor-channel

    channel-no_joint : (m : Mind) (p : End) → EndPlace m channel p → bytes_eq p.joint.name v.channel ≡ false
    channel-no_joint m p e = named-other p.joint.name v.channel v.joint v.channel (sits-joint m channel p e).name_is refl distinct.cd

    channel-wishes : (m : Mind) (p : End) (s : StateParts) (Q : Type 0) → EndPlace m channel p → p.closing ≡ false
        → ((c : Seat) (from until : ℕ) → c.opening ≡ shared channel asset amounts → repeats from until c ≡ Some s → Q) → EndWishes p v.channel s Q
    channel-wishes m p s Q e stays told = record {
      by_guarantor = λ same w. absurd (clash (bytes_eq p.guarantor.name v.channel) same (channel-no_guarantor m p e));
      by_joint = λ from until same w. absurd (clash (bytes_eq p.joint.name v.channel) same (channel-no_joint m p e));
      by_move = λ same w. absurd (clash (bytes_eq p.joint.name v.channel) same (channel-no_joint m p e));
      by_channel = λ from until same w. told p.channel from until (channel-opening m channel p e) w;
      by_final = λ same w. absurd (clash p.closing w stays);
      by_ledger = λ same. absurd (not-ledger m channel p e same);
    }

    pub payment-channel-of : EndChannel channel (shared channel asset amounts)
    payment-channel-of = record {
      joins = in-among v.channel (joined_of (parts.End v)) (inr (inr (inl refl)));
      inside = inr (inr (inr (inl refl)));
      runs = λ m p apart-kept at set-up. set-up-runs m channel at.g.opening p.channel apart-kept (seated m v.channel at.g.opening p.channel at.last)
          (and-right (is_set_up p.guarantor && is_set_up p.joint) (is_set_up p.channel) set-up);
      taking = taking;
      wishing = wishing;
    }
      where
        opening : List AssetOutcome
        opening = shared channel asset amounts

        taking : (m : Mind) (p : End) (s : StateParts) → EndPlace m channel p → Comes m channel s → end_takes p v.channel s ≡ true → is_repeated opening s ≡ true
        taking m p s e comes h =
            by p.votes
            (cond-yes (bytes_eq p.channel.name v.channel) (channel_takes p s) _ (named-so p.channel.name v.channel v.channel sits.name_is refl)
            (cond-no (bytes_eq p.guarantor.name v.channel) (takes_fixed p.guarantor s) _ (channel-no_guarantor m p e) h))
          where
            sits : Seated m v.channel e.at.g.opening p.channel
            sits = sits-channel m channel p e

            early : nat_lt s.turn (length p.channel.people) ≡ true
            early = in-first m v.channel e.at.g.opening p.channel sits channel comes.k comes.keeps comes.fixed s.turn comes.small

            by : (b : Bool) → cond b (takes_idle p.closing p.channel s) (takes_payment p.channel s) ≡ true → is_repeated opening s ≡ true
            by true w = takes-opening p.channel opening s _ (channel-opening m channel p e) early w
            by false w = takes-opening p.channel opening s true (channel-opening m channel p e) early w

        wishing : (m : Mind) (p : End) (s : StateParts) → EndPlace m channel p → Comes m channel s → p.closing ≡ false → EndWishes p v.channel s (is_repeated opening s ≡ true)
        wishing m p s e comes stays = channel-wishes m p s (is_repeated opening s ≡ true) e stays (λ x from until is w. repeats-opening x opening from until s is w)

    -- it is held past its set-up where the part runs
    pub posted-starts : people channel ≤ 3 + 1 → Starts command (parts.End v) channel (shared channel asset amounts) 3
    posted-starts few =
        end-starts-at channel (shared channel asset amounts) 3 few
        (λ m p apart-kept at r. third-runs m channel at.g.opening p.channel apart-kept (seated m v.channel at.g.opening p.channel at.last) r.posted) payment-channel-of

    -- until Close what is wanted there repeats its opening outcome
    pub channel-wants : (m : Mind) (s : StateParts) (Q : Type 0) → IsPlace m command (parts.End v) channel → stages.asked (facts_of m) v.channel ≡ Some (parts.End v)
        → ((g : Goal) → gathered.goal_in (facts_of m) v.channel ≡ Some g → g.closing ≡ false) → stages.wanted (facts_of m) v.channel ≡ Some s
        → ((c : Seat) (from until : ℕ) → c.opening ≡ shared channel asset amounts → repeats from until c ≡ Some s → Q) → Q
    channel-wants m s Q place asked going wants told = by (end_in (facts_of m) v) refl
      where
        by : (o : Option End) → end_in (facts_of m) v ≡ o → Q
        by None is = absurd (none-eq s (sym (ap (wanted_of_end v.channel) is) ∙ (sym (ap (wanted_of (facts_of m) v.channel) asked) ∙ wants)))
        by (Some p) is =
            let at = end-at m v p is in
            from-end p v.channel s Q (channel-wishes m p s Q (end-place m channel p is place) (at.closes ∙ going at.g at.goal) told)
            (sym (ap (wanted_of_end v.channel) is) ∙ (sym (ap (wanted_of (facts_of m) v.channel) asked) ∙ wants))

pub ends_open : EndsOpenWith
ends_open s h journal legal plays route ledgers guarantors joint channel asset amounts t took takes told = record {
  guarantor_opens = opens (guarantor_of (v s.key route ledgers guarantors joint channel asset amounts t) guarantors) (guarantor-inside s.key route ledgers guarantors joint channel asset amounts t told distinct)
      (guarantee t (real.named joint) (own_end (v s.key route ledgers guarantors joint channel asset amounts t) t)) (guarantor-channel-of s.key route ledgers guarantors joint channel asset amounts t told distinct);
  joint_opens = opens joint (inr (inr (inl refl))) (apart t amounts) (joint-channel-of s.key route ledgers guarantors joint channel asset amounts t told distinct);
  channel_opens = opens channel (inr (inr (inr (inl refl)))) (shared channel asset amounts) (payment-channel-of s.key route ledgers guarantors joint channel asset amounts t told distinct);
}
  where
    distinct : Differ (real.named guarantors.0) (real.named guarantors.1) (real.named joint) (real.named channel)
    distinct = names-differ s h journal legal plays route ledgers guarantors joint channel asset amounts took

    opens : (f : FixedParts) → In f (opened_by (open_virtual route ledgers guarantors joint channel asset amounts)) → (opening : List AssetOutcome) → EndChannel s.key route ledgers guarantors joint channel asset amounts t told distinct f opening
        → OpensWith f opening (lines_of s.key journal)
    opens f inside opening ch =
        opens-with s h journal legal plays (open_virtual route ledgers guarantors joint channel asset amounts) (parts.End (virtual real s.key ledgers guarantors joint channel asset amounts)) f opening (people f - 1) took inside
        (at-end s.key route ledgers guarantors joint channel asset amounts takes) (end-starts s.key route ledgers guarantors joint channel asset amounts t told distinct f opening ch)
