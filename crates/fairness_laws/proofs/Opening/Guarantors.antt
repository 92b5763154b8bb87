-- What a node signs in a guarantor, at any turn, is the guarantee.
use Rattle.std.proofs.Common.{◌≡◌, ℕ, Bool, true, false, cond, ◌||◌, ◌⊎◌, List, [], ◌∷◌, inl, inr, refl, sym, ◌∙◌, ap, subst, ◌-◌, ◌&&◌}
use Rattle.std.specs.Prelude.{◌==◌, Option, Some, None}
use Rattle.std.specs.Option.{option_or}
use Rattle.std.specs.Str.{bytes_eq}
use Rattle.channel_values.specs.Rules.{people}
use Rattle.call_history.specs.History.{Legal}
use Rattle.call_history.specs.declared.entry.Entry.{Entry}
use Rattle.funding_plans.specs.declared.plan.Virtual.{Virtual}
use Rattle.funding_plans.specs.Targets.{guarantee}
use Rattle.funding_plans.specs.declared.terms.Terms.{Terms}
use Rattle.support_rules.specs.Real.{real}
use Rattle.fairness_laws.specs.Openings.{open_virtual}
use Rattle.network.specs.declared.command.Command.{Command}
use Rattle.channel_node.specs.Places.{Told, lines_of}
use Rattle.channel_node.specs.Playing.{Signing, Plays}
use Rattle.stage_tables.specs.Stages.{stages}
use Rattle.fairness_laws.specs.Opens.{Took}
use Rattle.fairness_laws.proofs.Commanded.{fitted}
use Rattle.fairness_laws.proofs.Plan.ByRoute.{fits-by-route}
use Rattle.fairness_laws.proofs.Apps.{no-payments-either}
use Rattle.fairness_laws.specs.OpeningChannels.{guarantor_of, IsExactly, SignsOnly, EndsSignGuarantees, MiddlesSignGuarantees}
use Rattle.fairness_laws.proofs.Rows.{exactly}
use Rattle.fairness_laws.proofs.Opening.Virtuals.{Differ, names-differ, at-end, at-middle}
use Rattle.channel_values.specs.declared.value.AssetOutcome.{AssetOutcome}
use Rattle.channel_values.specs.Parts.{FixedParts, StateParts}
use Rattle.call_history.proofs.Names.{same_bytes}
use Rattle.call_history.specs.Flows.{is_among}
use Rattle.funding_plans.specs.Known.{FactsOf}
use Rattle.funding_plans.specs.Parts.{own_channel, own_ledger, channels_of, channels, ledgers_of, own_guarantor}
use Rattle.funding_plans.specs.declared.plan.Goal.{Goal}
use Rattle.funding_plans.specs.declared.plan.Part.{Part}
use Rattle.funding_plans.specs.declared.plan.Part.TheVariants.{Root, OnLedger, End, Middle}
use Rattle.channel_safety.specs.Journals.{In}
use Rattle.network.specs.declared.command.Route.{Route}
use Rattle.funding_plans.specs.Gathered as gathered
use Rattle.funding_plans.specs.Seats.{Seat, repeats}
use Rattle.ledger_channel.specs.OnLedgers.{Funded}
use Rattle.ledger_channel.specs.Stages.{funded_in, wanted_on_ledger}
use Rattle.virtual_channel.specs.Ends as ends
use Rattle.virtual_channel.specs.Middles as middles
use Rattle.virtual_channel.specs.Stages.{end_in, middle_in, wanted_of_end, wanted_of_middle, terms_for, own_end}
use Rattle.stage_tables.specs.Asked.{unfinished_on, part_with, wanted_of, wanted_in}
use Rattle.channel_node.specs.Minds.{Mind, facts_of}
use Rattle.channel_node.specs.Openings.{are_apart, takes_part, virtual}
use Rattle.stage_tables.specs.Fitting.{can_share, is_double_small, is_channel_of, fits, app_of, route_lends, are_route_channels, fits_route_among}
use Rattle.support_rules.specs.Steps.{persons}
use Rattle.stage_tables.specs.Ledgers.{are_same}
use Rattle.channel_safety.proofs.Lists.{In-get}
use Rattle.channel_safety.proofs.Tests.{none-eq, and-left, and-right, eqb-true, clash}
use Rattle.fairness_laws.proofs.Finding.{on-in, with-in, flips}
use Rattle.fairness_laws.proofs.Planned.{own-among, one-part}
use Rattle.fairness_laws.proofs.Closing.{goal-found}
use Rattle.fairness_laws.proofs.FirstRounds.{joined-among, MadePlace, made-place}
use Rattle.fairness_laws.proofs.Opening.Children.{funded-at}
use Rattle.fairness_laws.proofs.Opening.Ends.{end-at, from-end, end-place, end-starts, guarantor-named, guarantor-inside, guarantor-channel, guarantor-channel-of, guarantor-wishes}
use Rattle.fairness_laws.proofs.Opening.Middles.{middle-at, MiddlePlace, MiddleChannel, MiddleWishes, from-middle, middle-place, middle-starts, first-channel, second-channel, first-wishes, second-wishes}

-- ---- who is asked about a channel that no part is about

module _ (m : Mind) (p : Part) (c : List ℕ) (plan : are_apart (channels m.parts) ≡ true) (there : In p m.parts) (among : is_among c (channels_of p) ≡ true) (other : bytes_eq (own_channel p) c ≡ false) where
  no-goal : gathered.goal_in (facts_of m) c ≡ None
  no-goal = by (gathered.goal_in (facts_of m) c) refl
    where
      by : (o : Option Goal) → gathered.goal_in (facts_of m) c ≡ o → o ≡ None
      by None is = refl
      by (Some g) is =
          let found = goal-found m.parts m.goals c g is in
          let q-is : found.q ≡ p =
          one-part c m.parts found.q p plan (In-get m.parts g.part found.q found.at) there
          (subst (λ (z : List ℕ). is_among z (channels_of found.q) ≡ true) (same_bytes (own_channel found.q) c found.about) (own-among found.q)) among in
          absurd (clash (bytes_eq (own_channel p) c) (subst (λ (q : Part). bytes_eq (own_channel q) c ≡ true) q-is found.about) other)

  pub no-seat : (l : List ℕ) (seat : Seat) → l ≡ c → gathered.seat_in (facts_of m) l ≡ Some seat → ⊥
  no-seat l seat is e = none-eq seat (sym (ap (gathered.seat_in (facts_of m)) is ∙ ap (gathered.seat_for (facts_of m) c) no-goal) ∙ e)

  pub alone : (l : List ℕ) → is_among c (l ∷ []) ≡ true → l ≡ c
  alone l e = go (bytes_eq c l) refl e
    where
      go : (b : Bool) → bytes_eq c l ≡ b → (b || false) ≡ true → l ≡ c
      go true is e = sym (same_bytes c l is)
      go false is e = absurd cc

  -- a part that stands on it wants nothing
  nothing-on : (q : Part) (s : StateParts) → is_among c (ledgers_of q) ≡ true → wanted_of (facts_of m) c (Some q) ≡ Some s → ⊥
  nothing-on (Root x) s l e = absurd cc
  nothing-on (OnLedger ledger x) s l e = by (funded_in (facts_of m) ledger x) refl e
    where
      by : (o : Option Funded) → funded_in (facts_of m) ledger x ≡ o → wanted_on_ledger c o ≡ Some s → ⊥
      by None is e = none-eq s e
      by (Some f) is e = no-seat ledger f.ledger (alone ledger l) (funded-at m ledger x f is).on
  nothing-on (End v) s l e = by (end_in (facts_of m) v) refl e
    where
      by : (o : Option ends.End) → end_in (facts_of m) v ≡ o → wanted_of_end c o ≡ Some s → ⊥
      by None is e = none-eq s e
      by (Some f) is e = no-seat (own_ledger v) f.ledger (alone (own_ledger v) l) (end-at m v f is).on
  nothing-on (Middle v) s l e = by (middle_in (facts_of m) v) refl e
    where
      by : (o : Option middles.Middle) → middle_in (facts_of m) v ≡ o → wanted_of_middle c o ≡ Some s → ⊥
      by None is e = none-eq s e
      by (Some f) is e = go (bytes_eq c v.ledger_a) refl l
        where
          go : (b : Bool) → bytes_eq c v.ledger_a ≡ b → (b || is_among c (v.ledger_b ∷ [])) ≡ true → ⊥
          go true same l = no-seat v.ledger_a f.ledger_a (sym (same_bytes c v.ledger_a same)) (middle-at m v f is).on_a
          go false same l = no-seat v.ledger_b f.ledger_b (alone v.ledger_b l) (middle-at m v f is).on_b

  -- so its own part wants what is wanted
  pub wants-own : (s : StateParts) → wanted_in (facts_of m) c ≡ Some s → wanted_of (facts_of m) c (Some p) ≡ Some s
  wants-own s e = by (unfinished_on (facts_of m) c m.parts) refl e
    where
      its : (o : Option Part) → part_with c m.parts ≡ o → wanted_of (facts_of m) c o ≡ Some s → wanted_of (facts_of m) c (Some p) ≡ Some s
      its None is e = absurd (none-eq s e)
      its (Some q) is e =
          let found = with-in c m.parts q is in
          subst (λ (x : Part). wanted_of (facts_of m) c (Some x) ≡ Some s) (one-part c m.parts q p plan found.0 there (joined-among c q found.1) among) e

      by : (o : Option Part) → unfinished_on (facts_of m) c m.parts ≡ o → wanted_of (facts_of m) c (option_or o (part_with c m.parts)) ≡ Some s → wanted_of (facts_of m) c (Some p) ≡ Some s
      by None is e = its (part_with c m.parts) refl e
      by (Some q) is e = absurd (nothing-on q s (on-in (facts_of m) c m.parts q is).1 e)

-- ---- guarantors are fixed channels

pub record AreFixed (guarantors : FixedParts × FixedParts) (joint : FixedParts) : Type 0 where
  pub first : guarantors.0.app ≡ 2
  pub second : guarantors.1.app ≡ 2
  -- the joint channel is a consensus channel of three people
  pub joint_app : joint.app ≡ 0
  pub one : List ℕ
  pub two : List ℕ
  pub three : List ℕ
  pub people : persons joint ≡ one ∷ two ∷ three ∷ []

fixed-among : (f : FactsOf) (route : Route) (ledgers : List ℕ × List ℕ) (guarantors : FixedParts × FixedParts) (joint channel : FixedParts) (asset : ℕ) (ab : ℕ × ℕ) (people : List (List ℕ))
    → persons joint ≡ people → fits_route_among f route ledgers guarantors joint channel asset ab people ≡ true → AreFixed guarantors joint
fixed-among f route ledgers guarantors joint channel asset ab [] is e = absurd cc
fixed-among f route ledgers guarantors joint channel asset ab (x ∷ []) is e = absurd cc
fixed-among f route ledgers guarantors joint channel asset ab (x ∷ y ∷ []) is e = absurd cc
fixed-among f route ledgers guarantors joint channel asset ab (x ∷ y ∷ z ∷ w ∷ rest) is e = absurd cc
fixed-among f route ledgers guarantors joint channel asset ab (x ∷ y ∷ z ∷ []) is e =
    let people-ok : Bool = is_among f.me (x ∷ y ∷ z ∷ []) && (can_share x z ab && is_double_small ab) in
    let channels-fit : Bool = are_route_channels (app_of route) guarantors joint channel x y z in
    let ledgers-lend : Bool = route_lends f route ledgers asset ab x y z in
    let channels-ok = and-left channels-fit ledgers-lend (and-right people-ok (channels-fit && ledgers-lend) e) in
    let both = and-left (is_channel_of 2 (x ∷ y ∷ []) guarantors.0 && is_channel_of 2 (y ∷ z ∷ []) guarantors.1) ((joint.app == 0) && is_channel_of (app_of route) (x ∷ z ∷ []) channel) channels-ok in
    record {
      first = eqb-true guarantors.0.app 2 (and-left (guarantors.0.app == 2) (are_same (persons guarantors.0) (x ∷ y ∷ []))
          (and-left (is_channel_of 2 (x ∷ y ∷ []) guarantors.0) (is_channel_of 2 (y ∷ z ∷ []) guarantors.1) both));
      second = eqb-true guarantors.1.app 2 (and-left (guarantors.1.app == 2) (are_same (persons guarantors.1) (y ∷ z ∷ []))
          (and-right (is_channel_of 2 (x ∷ y ∷ []) guarantors.0) (is_channel_of 2 (y ∷ z ∷ []) guarantors.1) both));
      joint_app = eqb-true joint.app 0 (and-left (joint.app == 0) (is_channel_of (app_of route) (x ∷ z ∷ []) channel)
          (and-right (is_channel_of 2 (x ∷ y ∷ []) guarantors.0 && is_channel_of 2 (y ∷ z ∷ []) guarantors.1) ((joint.app == 0) && is_channel_of (app_of route) (x ∷ z ∷ []) channel) channels-ok));
      one = x;
      two = y;
      three = z;
      people = is;
    }

pub are-fixed : (f : FactsOf) (route : Route) (ledgers : List ℕ × List ℕ) (guarantors : FixedParts × FixedParts) (joint channel : FixedParts) (asset : ℕ) (ab : ℕ × ℕ) → fits f (open_virtual route ledgers guarantors joint channel asset ab) ≡ true
    → AreFixed guarantors joint
are-fixed f route ledgers guarantors joint channel asset ab e =
    fixed-among f route ledgers guarantors joint channel asset ab (persons joint) refl (fits-by-route f route ledgers guarantors joint channel asset ab e)

-- ---- the laws

module _ (s : Signing) (h : List Entry) (journal : List Told) (legal : Legal real h) (plays : Plays stages real s h journal) (route : Route) (ledgers : List ℕ × List ℕ) (guarantors : FixedParts × FixedParts) (joint channel : FixedParts)
    (asset : ℕ) (amounts : ℕ × ℕ) (t : Terms) (took : Took (open_virtual route ledgers guarantors joint channel asset amounts) journal) where
  abbrev v : Virtual
  v = virtual real s.key ledgers guarantors joint channel asset amounts

  abbrev command : Command
  command = open_virtual route ledgers guarantors joint channel asset amounts

  pub distinct : Differ (real.named guarantors.0) (real.named guarantors.1) (real.named joint) (real.named channel)
  distinct = names-differ s h journal legal plays route ledgers guarantors joint channel asset amounts took

  pub apps : AreFixed guarantors joint
  apps = let a = fitted stages real s h legal joint journal plays command joint took (inr (inr (inl refl))) in are-fixed (facts_of a.0) route ledgers guarantors joint channel asset amounts a.1

  module _ (told : terms_for v (persons joint) ≡ Some t) where
    -- at an end
    abbrev own : FixedParts
    own = guarantor_of v guarantors

    own-app : own.app ≡ 2
    own-app = go v.side_b
      where
        go : (b : Bool) → (cond b guarantors.1 guarantors.0).app ≡ 2
        go true = apps.second
        go false = apps.first

    end-among : is_among (real.named own) (channels_of (End v)) ≡ true
    end-among = joined-among (real.named own) (End v) (guarantor-channel-of s.key route ledgers guarantors joint channel asset amounts t told distinct).joins

    end-other : bytes_eq (own_channel (End v)) (real.named own) ≡ false
    end-other =
        subst (λ (n : List ℕ). bytes_eq v.channel n ≡ false) (sym (guarantor-named s.key route ledgers guarantors joint channel asset amounts t told distinct))
        (flips (own_guarantor v) v.channel (guarantor-channel s.key route ledgers guarantors joint channel asset amounts t told distinct))

    end-signs : takes_part s.key channel ≡ true → SignsOnly own (guarantee t (real.named joint) (own_end v t)) (lines_of s.key journal)
    end-signs takes x n i e = by mp.why
      where
        promise : List AssetOutcome
        promise = guarantee t (real.named joint) (own_end v t)

        mp : MadePlace s h journal legal plays command (End v) own promise (people own - 1) took (guarantor-inside s.key route ledgers guarantors joint channel asset amounts t told distinct)
            (at-end s.key route ledgers guarantors joint channel asset amounts takes)
            (end-starts s.key route ledgers guarantors joint channel asset amounts t told distinct own promise (guarantor-channel-of s.key route ledgers guarantors joint channel asset amounts t told distinct)) n.state
        mp = made-place s h journal legal plays command (End v) own promise (people own - 1) took (guarantor-inside s.key route ledgers guarantors joint channel asset amounts t told distinct)
            (at-end s.key route ledgers guarantors joint channel asset amounts takes)
            (end-starts s.key route ledgers guarantors joint channel asset amounts t told distinct own promise (guarantor-channel-of s.key route ledgers guarantors joint channel asset amounts t told distinct)) x n i e

        wanting : (o : Option ends.End) → end_in (facts_of mp.m) v ≡ o → wanted_of_end (real.named own) o ≡ Some n.state → IsExactly promise n.state
        wanting None is w = absurd (none-eq n.state w)
        wanting (Some p) is w =
            let at = end-at mp.m v p is in
            let none = no-seat mp.m (End v) (real.named own) mp.plan mp.there end-among end-other in
            from-end p (real.named own) n.state (IsExactly promise n.state)
            (guarantor-wishes s.key route ledgers guarantors joint channel asset amounts t told distinct mp.m p n.state (IsExactly promise n.state)
            (end-place s.key route ledgers guarantors joint channel asset amounts t told distinct mp.m own p is
            (record {
              fixed = mp.fixed;
              goal = mp.goal;
              apart = λ l. none (own_ledger v) p.ledger (alone mp.m (End v) (real.named own) mp.plan mp.there end-among end-other (own_ledger v) l) at.on;
              once = mp.once;
            }))
            (λ c from until is w. exactly c promise from until n.state is w)) w

        by : (stages.wanted (facts_of mp.m) (real.named own) ≡ Some n.state) ⊎ (own.app ≡ 1) → IsExactly promise n.state
        by (inr app) = absurd (no-payments-either own own-app app)
        by (inl w) = wanting (end_in (facts_of mp.m) v) refl (wants-own mp.m (End v) (real.named own) mp.plan mp.there end-among end-other n.state w)

    -- at the intermediary
    module _ (takes : takes_part s.key channel ≡ false) where
      middle-signs : (f : FixedParts) (promise : List AssetOutcome) (ch : MiddleChannel s.key route ledgers guarantors joint channel asset amounts t told distinct f promise) → f.app ≡ 2
          → bytes_eq v.channel (real.named f) ≡ false
          → ((m : Mind) (p : middles.Middle) (n : StateParts) (Q : Type 0) → MiddlePlace s.key route ledgers guarantors joint channel asset amounts t told distinct m f p
          → ((c : Seat) (from until : ℕ) → c.opening ≡ promise → repeats from until c ≡ Some n → Q) → MiddleWishes p (real.named f) n Q)
          → SignsOnly f promise (lines_of s.key journal)
      middle-signs f promise ch two other wishes x n i e = by mp.why
        where
          among : is_among (real.named f) (channels_of (Middle v)) ≡ true
          among = joined-among (real.named f) (Middle v) ch.joins

          mp : MadePlace s h journal legal plays command (Middle v) f promise (people f - 1) took ch.inside (at-middle s.key route ledgers guarantors joint channel asset amounts takes)
              (middle-starts s.key route ledgers guarantors joint channel asset amounts t told distinct f promise ch) n.state
          mp = made-place s h journal legal plays command (Middle v) f promise (people f - 1) took ch.inside (at-middle s.key route ledgers guarantors joint channel asset amounts takes)
              (middle-starts s.key route ledgers guarantors joint channel asset amounts t told distinct f promise ch) x n i e

          wanting : (o : Option middles.Middle) → middle_in (facts_of mp.m) v ≡ o → wanted_of_middle (real.named f) o ≡ Some n.state → IsExactly promise n.state
          wanting None is w = absurd (none-eq n.state w)
          wanting (Some p) is w =
              from-middle p (real.named f) n.state (IsExactly promise n.state)
              (wishes mp.m p n.state (IsExactly promise n.state)
              (middle-place s.key route ledgers guarantors joint channel asset amounts t told distinct mp.m f p is
              (record { fixed = mp.fixed; goal = mp.goal; apart = no-ledger p is; once = mp.once }))
              (λ c from until is w. exactly c promise from until n.state is w)) w
            where
              no-ledger : (p : middles.Middle) → middle_in (facts_of mp.m) v ≡ Some p → is_among (real.named f) (v.ledger_a ∷ v.ledger_b ∷ []) ≡ true → ⊥
              no-ledger p is l = go (bytes_eq (real.named f) v.ledger_a) refl l
                where
                  go : (b : Bool) → bytes_eq (real.named f) v.ledger_a ≡ b → (b || is_among (real.named f) (v.ledger_b ∷ [])) ≡ true → ⊥
                  go true same l =
                      no-seat mp.m (Middle v) (real.named f) mp.plan mp.there among other v.ledger_a p.ledger_a (sym (same_bytes (real.named f) v.ledger_a same)) (middle-at mp.m v p is).on_a
                  go false same l =
                      no-seat mp.m (Middle v) (real.named f) mp.plan mp.there among other v.ledger_b p.ledger_b (alone mp.m (Middle v) (real.named f) mp.plan mp.there among other v.ledger_b l) (middle-at mp.m v p is).on_b

          by : (stages.wanted (facts_of mp.m) (real.named f) ≡ Some n.state) ⊎ (f.app ≡ 1) → IsExactly promise n.state
          by (inr app) = absurd (no-payments-either f two app)
          by (inl w) = wanting (middle_in (facts_of mp.m) v) refl (wants-own mp.m (Middle v) (real.named f) mp.plan mp.there among other n.state w)

pub ends_sign : EndsSignGuarantees
ends_sign s h journal legal plays route ledgers guarantors joint channel asset amounts t took takes told = end-signs s h journal legal plays route ledgers guarantors joint channel asset amounts t took told takes

pub middles_sign : MiddlesSignGuarantees
middles_sign s h journal legal plays route ledgers guarantors joint channel asset amounts t took takes told = (
  middle-signs s h journal legal plays route ledgers guarantors joint channel asset amounts t took told takes guarantors.0 (guarantee t (real.named joint) t.first)
      (first-channel s.key route ledgers guarantors joint channel asset amounts t told names) fixed.first (flips (real.named guarantors.0) (real.named channel) names.ad)
      (first-wishes s.key route ledgers guarantors joint channel asset amounts t told names),
  middle-signs s h journal legal plays route ledgers guarantors joint channel asset amounts t took told takes guarantors.1 (guarantee t (real.named joint) t.second)
      (second-channel s.key route ledgers guarantors joint channel asset amounts t told names) fixed.second (flips (real.named guarantors.1) (real.named channel) names.bd)
      (second-wishes s.key route ledgers guarantors joint channel asset amounts t told names),
)
  where
    names : Differ (real.named guarantors.0) (real.named guarantors.1) (real.named joint) (real.named channel)
    names = distinct s h journal legal plays route ledgers guarantors joint channel asset amounts t took

    fixed : AreFixed guarantors joint
    fixed = apps s h journal legal plays route ledgers guarantors joint channel asset amounts t took
