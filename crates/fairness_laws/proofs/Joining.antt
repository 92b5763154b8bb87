-- Each channel of a node is one in which its person is a participant by the part that has it.
use Rattle.std.proofs.Common.{◌≡◌, ℕ, Bool, true, false, cond, ◌&&◌, List, [], ◌∷◌, length, inl, inr, refl, sym, ◌∙◌, ap, subst}
use Rattle.std.specs.Prelude.{◌==◌}
use Rattle.std.specs.Str.{bytes_eq}
use Rattle.channel_values.specs.Parts.{FixedParts}
use Rattle.channel_safety.proofs.Lists.{In-get}
use Rattle.channel_safety.proofs.Tests.{and-left, and-right, clash}
use Rattle.call_history.proofs.Names.{bytes_eq_self}
use Rattle.call_history.specs.declared.entry.Entry.{Entry}
use Rattle.channel_values.specs.Digests.{name_of_person}
use Rattle.fairness_laws.proofs.OpenedParts.{one-fixed}
use Rattle.fairness_laws.proofs.Opening.Virtuals.{at-end, at-middle}
use Rattle.fairness_laws.proofs.Plan.ByRoute.{fits-by-route}
use Rattle.fairness_laws.proofs.Plan.Fitting.{same-people}
use Rattle.fairness_laws.proofs.Plan.Names.{place-within}
use Rattle.fairness_laws.proofs.Plan.Parts.{parts_are_known}
use Rattle.fairness_laws.proofs.Plan.Places.{plays-there}
use Rattle.fairness_laws.proofs.Signing.{kept-of}
use Rattle.fairness_laws.specs.Openings.{open_virtual}
use Rattle.fairness_laws.specs.PaymentLaws.{At}
use Rattle.fairness_laws.specs.PlanLaws.{PartAt}
use Rattle.fairness_laws.specs.PlanParts.{EndIs}
use Rattle.fairness_laws.specs.PlanSettings.{IsFair}
use Rattle.funding_plans.specs.Known.{FactsOf}
use Rattle.funding_plans.specs.Parts.{joined_of}
use Rattle.funding_plans.specs.declared.plan.Part.{Part}
use Rattle.funding_plans.specs.declared.plan.Part.TheVariants as parts
use Rattle.funding_plans.specs.declared.plan.Virtual.{Virtual}
use Rattle.channel_safety.proofs.Members.{In-map}
use Rattle.channel_safety.specs.Journals.{In}
use Rattle.network.specs.declared.command.Command.{Command}
use Rattle.network.specs.declared.command.Command.TheVariants as commands
use Rattle.network.specs.declared.command.Route.{Route}
use Rattle.channel_node.specs.Minds.{Mind, facts_of}
use Rattle.channel_node.specs.Openings.{opened_by, place_among, takes_part, virtual, parts_of}
use Rattle.channel_node.specs.Places.{Told, lines_of, mind_at}
use Rattle.channel_node.specs.Playing.{Signing, Plays}
use Rattle.node_guarantees.proofs.Apart.{apart-back}
use Rattle.stage_tables.specs.Fitting.{can_share, is_double_small, is_channel_of, app_of, route_lends, are_route_channels, fits_route_among}
use Rattle.stage_tables.specs.Ledgers.{are_same}
use Rattle.stage_tables.specs.Stages.{stages}
use Rattle.share_laws.proofs.Finality.{opened-there}
use Rattle.share_laws.specs.Places.{channels}
use Rattle.support_rules.specs.Real.{real}
use Rattle.support_rules.specs.Steps.{persons}
use Rattle.fairness_laws.proofs.Carrying.{low}
use Rattle.fairness_laws.proofs.Commanded.{stand, fitted}
use Rattle.fairness_laws.proofs.FirstRounds.{opener}
use Rattle.fairness_laws.specs.Opens.{Took}
use Rattle.call_history.specs.Flows.{is_among}

-- ---- the people of guarantors

-- each guarantor is of an end and the intermediary
record ArePeople (guarantors : FixedParts × FixedParts) (first middle second : List ℕ) : Type 0 where
  a : persons guarantors.0 ≡ first ∷ middle ∷ []
  b : persons guarantors.1 ≡ middle ∷ second ∷ []

people-of : (people : List (List ℕ)) (f : FixedParts) → is_channel_of 2 people f ≡ true → persons f ≡ people
people-of people f e = same-people (persons f) people (and-right (f.app == 2) (are_same (persons f) people) e)

among : (f : FactsOf) (route : Route) (ledgers : List ℕ × List ℕ) (guarantors : FixedParts × FixedParts) (joint channel : FixedParts) (asset : ℕ) (ab : ℕ × ℕ) (x y z : List ℕ)
    → fits_route_among f route ledgers guarantors joint channel asset ab (x ∷ y ∷ z ∷ []) ≡ true → ArePeople guarantors x y z
among f route ledgers guarantors joint channel asset ab x y z e =
    let people-ok : Bool = is_among f.me (x ∷ y ∷ z ∷ []) && (can_share x z ab && is_double_small ab) in
    let channels-fit : Bool = are_route_channels (app_of route) guarantors joint channel x y z in
    let ledgers-lend : Bool = route_lends f route ledgers asset ab x y z in
    let channels-ok = and-left channels-fit ledgers-lend (and-right people-ok (channels-fit && ledgers-lend) e) in
    let both = and-left (is_channel_of 2 (x ∷ y ∷ []) guarantors.0 && is_channel_of 2 (y ∷ z ∷ []) guarantors.1) ((joint.app == 0) && is_channel_of (app_of route) (x ∷ z ∷ []) channel) channels-ok in
    record {
      a = people-of (x ∷ y ∷ []) guarantors.0 (and-left (is_channel_of 2 (x ∷ y ∷ []) guarantors.0) (is_channel_of 2 (y ∷ z ∷ []) guarantors.1) both);
      b = people-of (y ∷ z ∷ []) guarantors.1 (and-right (is_channel_of 2 (x ∷ y ∷ []) guarantors.0) (is_channel_of 2 (y ∷ z ∷ []) guarantors.1) both);
    }

differ-twice : (me one other : List ℕ) → bytes_eq me one ≡ false → bytes_eq me other ≡ false → In me (one ∷ other ∷ []) → ⊥
differ-twice me one other a b (inl e) = clash (bytes_eq me one) (subst (λ (n : List ℕ). bytes_eq me n ≡ true) e (bytes_eq_self me)) a
differ-twice me one other a b (inr (inl e)) = clash (bytes_eq me other) (subst (λ (n : List ℕ). bytes_eq me n ≡ true) e (bytes_eq_self me)) b
differ-twice me one other a b (inr (inr i)) = i

-- ---- a place

-- the part that has a channel, which its person joined
pub record HasJoined (parts : List Part) (c : List ℕ) : Type 0 where
  pub part : Part
  pub there : In part parts
  pub joins : In c (joined_of part)

module _ (s : Signing) (h : List Entry) (journal : List Told) (fair : IsFair s h journal) (past : List Entry) (front : List Told) (at : At s h journal past front) where
  abbrev m : Mind
  m = mind_at real s.key past front

  plays : Plays stages real s h front
  plays = plays-there s h journal fair.nodes past front at.front_is

  -- the part of a command that opens
  opened-part : (c : Command) (p : Part) → Took c front → In p (parts_of real s.key c) → In p m.parts
  opened-part c p took of =
      stand stages real s h fair.nodes.legal (record { keys = []; nonce = 0; app = 0; duration = 0 }) front plays at.front_is.later past at.front_is.entries at.front_is.before c p took of

  -- the participant is one of an own channel's people
  own-key : (f : FixedParts) → In f (channels (lines_of s.key front)) → In s.key f.keys
  own-key f i = let o = kept-of s h journal fair past front at f i in In-get f.keys o.kept.me s.key o.mine

  own-takes : (f : FixedParts) → In f (channels (lines_of s.key front)) → takes_part s.key f ≡ true
  own-takes f i = low (place_among s.key f) (length f.keys) (place-within (bytes_eq s.key) f.keys s.key (own-key f i) (bytes_eq_self s.key))

  own-person : (f : FixedParts) → In f (channels (lines_of s.key front)) → In (name_of_person s.key) (persons f)
  own-person f i = In-map name_of_person s.key f.keys (own-key f i)

  module _ (route : Route) (ledgers : List ℕ × List ℕ) (guarantors : FixedParts × FixedParts) (joint channel : FixedParts) (asset : ℕ) (amounts : ℕ × ℕ)
      (took : Took (open_virtual route ledgers guarantors joint channel asset amounts) front) where
    abbrev command : Command
    command = open_virtual route ledgers guarantors joint channel asset amounts

    abbrev v : Virtual
    v = virtual real s.key ledgers guarantors joint channel asset amounts

    -- at an end
    module _ (takes : takes_part s.key channel ≡ true) where
      there : In (parts.End v) m.parts
      there = opened-part command (parts.End v) took (at-end s.key route ledgers guarantors joint channel asset amounts takes)

      known : PartAt s past front (parts.End v)
      known = parts_are_known s h journal past front fair.nodes at.front_is (parts.End v) there

      e : EndIs s.key past (lines_of s.key front) (facts_of m) v known.goal
      e = known.is

      joint-is : e.joint.fixed ≡ joint
      joint-is = one-fixed s h journal fair past front at command took joint (inr (inr (inl refl))) e.joint.fixed e.joint.seat.own.there e.joint.named

      people : ArePeople guarantors e.end.terms.first e.end.terms.middle e.end.terms.second
      people =
          let fit = fitted stages real s h fair.nodes.legal joint front plays command joint took (inr (inr (inl refl))) in
          among (facts_of fit.0) route ledgers guarantors joint channel asset amounts e.end.terms.first e.end.terms.middle e.end.terms.second
          (subst (λ (ps : List (List ℕ)). fits_route_among (facts_of fit.0) route ledgers guarantors joint channel asset amounts ps ≡ true) (sym (ap persons joint-is) ∙ e.joint.people)
          (fits-by-route (facts_of fit.0) route ledgers guarantors joint channel asset amounts fit.1))

      -- nobody is in the guarantor of the other end
      not-first : (side : Bool) → side ≡ true → cond side e.end.terms.second e.end.terms.first ≡ name_of_person s.key → In (name_of_person s.key) (persons guarantors.0) → ⊥
      not-first false is me i = cc
      not-first true is me i =
          differ-twice e.end.terms.second e.end.terms.first e.end.terms.middle (apart-back e.end.terms.first e.end.terms.second e.joint.ends) e.joint.second
          (subst (λ (ps : List (List ℕ)). In e.end.terms.second ps) people.a (subst (λ (n : List ℕ). In n (persons guarantors.0)) (sym me) i))

      not-second : (side : Bool) → side ≡ false → cond side e.end.terms.second e.end.terms.first ≡ name_of_person s.key → In (name_of_person s.key) (persons guarantors.1) → ⊥
      not-second true is me i = cc
      not-second false is me i =
          differ-twice e.end.terms.first e.end.terms.middle e.end.terms.second e.joint.first e.joint.ends
          (subst (λ (ps : List (List ℕ)). In e.end.terms.first ps) people.b (subst (λ (n : List ℕ). In n (persons guarantors.1)) (sym me) i))

      first-of : In guarantors.0 (channels (lines_of s.key front)) → (side : Bool) → v.side_b ≡ side → In (real.named guarantors.0) (joined_of (parts.End v))
      first-of i false is = inl (sym (ap (λ (b : Bool). cond b (real.named guarantors.1) (real.named guarantors.0)) is))
      first-of i true is = absurd (not-first v.side_b is e.me (own-person guarantors.0 i))

      second-of : In guarantors.1 (channels (lines_of s.key front)) → (side : Bool) → v.side_b ≡ side → In (real.named guarantors.1) (joined_of (parts.End v))
      second-of i true is = inl (sym (ap (λ (b : Bool). cond b (real.named guarantors.1) (real.named guarantors.0)) is))
      second-of i false is = absurd (not-second v.side_b is e.me (own-person guarantors.1 i))

      at-an-end : (f : FixedParts) → In f (channels (lines_of s.key front)) → In f (opened_by command) → In (real.named f) (joined_of (parts.End v))
      at-an-end f i (inl is) = subst (λ (x : FixedParts). In (real.named x) (joined_of (parts.End v))) (sym is) (first-of (subst (λ (x : FixedParts). In x (channels (lines_of s.key front))) is i) v.side_b refl)
      at-an-end f i (inr (inl is)) = subst (λ (x : FixedParts). In (real.named x) (joined_of (parts.End v))) (sym is) (second-of (subst (λ (x : FixedParts). In x (channels (lines_of s.key front))) is i) v.side_b refl)
      at-an-end f i (inr (inr (inl is))) = inr (inl (ap (λ (x : FixedParts). real.named x) is))
      at-an-end f i (inr (inr (inr (inl is)))) = inr (inr (inl (ap (λ (x : FixedParts). real.named x) is)))
      at-an-end f i (inr (inr (inr (inr j)))) = absurd j

    -- and at the intermediary
    at-a-middle : takes_part s.key channel ≡ false → (f : FixedParts) → takes_part s.key f ≡ true → In f (opened_by command) → In (real.named f) (joined_of (parts.Middle v))
    at-a-middle not f own (inl is) = inl (ap (λ (x : FixedParts). real.named x) is)
    at-a-middle not f own (inr (inl is)) = inr (inl (ap (λ (x : FixedParts). real.named x) is))
    at-a-middle not f own (inr (inr (inl is))) = inr (inr (inl (ap (λ (x : FixedParts). real.named x) is)))
    at-a-middle not f own (inr (inr (inr (inl is)))) = absurd (clash (takes_part s.key channel) (subst (λ (x : FixedParts). takes_part s.key x ≡ true) is own) not)
    at-a-middle not f own (inr (inr (inr (inr j)))) = absurd j

    of-virtual : (f : FixedParts) → In f (channels (lines_of s.key front)) → takes_part s.key f ≡ true → In f (opened_by command) → HasJoined m.parts (real.named f)
    of-virtual f i own inside = go (takes_part s.key channel) refl
      where
        go : (b : Bool) → takes_part s.key channel ≡ b → HasJoined m.parts (real.named f)
        go true t = record { part = parts.End v; there = there t; joins = at-an-end t f i inside }
        go false t = record {
          part = parts.Middle v;
          there = opened-part command (parts.Middle v) took (at-middle s.key route ledgers guarantors joint channel asset amounts t);
          joins = at-a-middle t f own inside;
        }

  of-command : (f : FixedParts) → In f (channels (lines_of s.key front)) → takes_part s.key f ≡ true → (c : Command) → Took c front → In f (opened_by c) → HasJoined m.parts (real.named f)
  of-command f i own (commands.Open g outcome) took (inl is) = record {
    part = parts.Root (real.named g);
    there = opened-part (commands.Open g outcome) (parts.Root (real.named g)) took (inl refl);
    joins = inl (ap (λ (x : FixedParts). real.named x) is);
  }
  of-command f i own (commands.Open g outcome) took (inr j) = absurd j
  of-command f i own (commands.OpenOn o) took (inl is) = record {
    part = parts.OnLedger o.ledger (real.named o.fixed);
    there = opened-part (commands.OpenOn o) (parts.OnLedger o.ledger (real.named o.fixed)) took (inl refl);
    joins = inl (ap (λ (x : FixedParts). real.named x) is);
  }
  of-command f i own (commands.OpenOn o) took (inr j) = absurd j
  of-command f i own (commands.OpenVirtual v) took inside =
      of-virtual v.route v.ledgers v.guarantors v.joint v.channel v.asset v.amounts took f i own inside
  of-command f i own (commands.Pay channel asset amount) took j = absurd j
  of-command f i own (commands.Close channel) took j = absurd j
  of-command f i own (commands.Release how channel) took j = absurd j
  of-command f i own (commands.Resend channel) took j = absurd j
  of-command f i own commands.Exit took j = absurd j

  pub own-joined : (f : FixedParts) → In f (channels (lines_of s.key front)) → HasJoined m.parts (real.named f)
  own-joined f i =
      let o = opened-there (lines_of s.key front) f i in
      let d = opener s.key front o.0 f o.1 o.2 in
      of-command f i (own-takes f i) d.command d.took d.inside
