-- How the parts of a plan were opened, and what is signed in the first round of their payment channels.
use Rattle.std.proofs.Common.{◌≡◌, ℕ, ◌-◌, ◌<◌, Bool, true, false, cond, List, [], ◌∷◌, ◌⊎◌, inl, inr, refl, sym, ◌∙◌, ap, subst}
use Rattle.std.specs.Prelude.{Some}
use Rattle.std.specs.Str.{bytes_eq}
use Rattle.channel_values.specs.Parts.{FixedParts}
use Rattle.channel_values.specs.declared.chain.Signed.{Signed}
use Rattle.channel_values.specs.declared.value.AssetOutcome.{AssetOutcome}
use Rattle.channel_values.specs.Rules.{people}
use Rattle.call_history.proofs.Names.{same_bytes, bytes_eq_self}
use Rattle.call_history.specs.Flows.{is_among}
use Rattle.call_history.specs.History.{Legal}
use Rattle.call_history.specs.declared.entry.Entry.{Entry}
use Rattle.channel_safety.proofs.Lists.{In-get}
use Rattle.channel_safety.proofs.Tests.{some-eq}
use Rattle.funding_plans.specs.Parts.{own_channel, channels_of}
use Rattle.funding_plans.specs.declared.plan.Goal.{Goal}
use Rattle.funding_plans.specs.declared.plan.Part.{Part}
use Rattle.funding_plans.specs.declared.plan.Part.TheVariants as parts
use Rattle.channel_safety.specs.Journals.{In, Line, made_in}
use Rattle.fairness_laws.specs.Openings.{open_on, open_virtual}
use Rattle.network.specs.declared.command.Command.{Command}
use Rattle.network.specs.declared.command.Command.TheVariants as commands
use Rattle.network.specs.declared.command.Route.{Route}
use Rattle.channel_node.proofs.Allowing.{apart-one}
use Rattle.channel_node.specs.Minds.{Mind, facts_of}
use Rattle.channel_node.specs.Openings.{opened_by, parts_of, shared, takes_part, virtual}
use Rattle.channel_node.specs.Places.{Told, lines_of, mind_at}
use Rattle.channel_node.specs.Playing.{Signing, Plays}
use Rattle.stage_tables.specs.Stages.{stages}
use Rattle.fairness_laws.proofs.Plan.Places.{plays-there}
use Rattle.fairness_laws.proofs.Opening.Children.{FundedAt, funded-at, goal-opening, wants-opening, child-starts}
use Rattle.fairness_laws.proofs.Opening.Ends.{end-starts, payment-channel-of, channel-wants}
use Rattle.fairness_laws.proofs.Rows.{exactly}
use Rattle.fairness_laws.proofs.Opening.Seated.{seated}
use Rattle.fairness_laws.proofs.Opening.Virtuals.{names-differ, at-end}
use Rattle.funding_plans.specs.declared.terms.Terms.{Terms}
use Rattle.share_laws.proofs.Finality.{opened-there}
use Rattle.fairness_laws.specs.PlanParts.{OnLedgerIs}
use Rattle.fairness_laws.specs.PlanSettings.{IsFair}
use Rattle.share_laws.specs.Places.{channels}
use Rattle.funding_plans.specs.Gathered.{goal_in}
use Rattle.funding_plans.specs.Seats.{Seat}
use Rattle.support_rules.specs.Real.{real}
use Rattle.support_rules.specs.Steps.{persons}
use Rattle.virtual_channel.specs.Stages.{terms_for}
use Rattle.fairness_laws.proofs.Closing.{goal-found}
use Rattle.fairness_laws.proofs.Commanded.{IsGoalOf, took-later, one-command, apart-names, goals-of}
use Rattle.fairness_laws.proofs.FirstRounds.{opener, first-place}
use Rattle.fairness_laws.proofs.Planned.{is-planned, own-among, one-part}
use Rattle.fairness_laws.proofs.RootOpening.{RootOf, root-of}
use Rattle.fairness_laws.specs.Opens.{Took}
use Rattle.fairness_laws.specs.PaymentLaws.{At}

-- in the first round of a channel the participant signs this outcome alone, without data
abbrev pub SignsFirst : FixedParts → List AssetOutcome → List Line → Type 0
SignsFirst f opening journal =
    (x : Line) (n : Signed) → In x journal → made_in (real.named f) x.deed ≡ Some n → n.state.turn < people f
    → (n.state.outcome ≡ opening) × (n.state.app_bytes ≡ [])

-- ---- by commands

module _ (s : Signing) (h : List Entry) (journal : List Told) (legal : Legal real h) (plays : Plays stages real s h journal) where
  child-signs : (ledger : List ℕ) (f : FixedParts) (asset : ℕ) (amounts : ℕ × ℕ) → Took (open_on ledger f asset amounts) journal → SignsFirst f (shared f asset amounts) (lines_of s.key journal)
  child-signs ledger f asset amounts took x n i made small =
      let p = first-place s h journal legal plays (open_on ledger f asset amounts) (parts.OnLedger ledger (real.named f)) f (shared f asset amounts) (people f - 1) took (inl refl) (inl refl)
      (child-starts ledger f asset amounts) x n i made small in
      wants-opening ledger f asset amounts p.m n.state ((n.state.outcome ≡ shared f asset amounts) × (n.state.app_bytes ≡ [])) p.known_there p.asked_is p.going p.wants
      (λ c from until is w. let z = exactly c (shared f asset amounts) from until n.state is w in (z.1, z.2))

  pub end-signs : (route : Route) (ledgers : List ℕ × List ℕ) (guarantors : FixedParts × FixedParts) (joint channel : FixedParts) (asset : ℕ) (amounts : ℕ × ℕ) (t : Terms)
      → Took (open_virtual route ledgers guarantors joint channel asset amounts) journal → takes_part s.key channel ≡ true
      → terms_for (virtual real s.key ledgers guarantors joint channel asset amounts) (persons joint) ≡ Some t → SignsFirst channel (shared channel asset amounts) (lines_of s.key journal)
  end-signs route ledgers guarantors joint channel asset amounts t took takes told x n i made small =
      let distinct = names-differ s h journal legal plays route ledgers guarantors joint channel asset amounts took in
      let p = first-place s h journal legal plays (open_virtual route ledgers guarantors joint channel asset amounts) (parts.End (virtual real s.key ledgers guarantors joint channel asset amounts)) channel
      (shared channel asset amounts) (people channel - 1) took (inr (inr (inr (inl refl)))) (at-end s.key route ledgers guarantors joint channel asset amounts takes)
      (end-starts s.key route ledgers guarantors joint channel asset amounts t told distinct channel (shared channel asset amounts) (payment-channel-of s.key route ledgers guarantors joint channel asset amounts t told distinct))
      x n i made small in
      channel-wants s.key route ledgers guarantors joint channel asset amounts t told distinct p.m n.state ((n.state.outcome ≡ shared channel asset amounts) × (n.state.app_bytes ≡ []))
      p.known_there p.asked_is p.going p.wants (λ c from until is w. let z = exactly c (shared channel asset amounts) from until n.state is w in (z.1, z.2))

-- ---- the command of a part at a place

module _ (s : Signing) (h : List Entry) (journal : List Told) (fair : IsFair s h journal) (past : List Entry) (front : List Told) (at : At s h journal past front) where
  abbrev m : Mind
  m = mind_at real s.key past front

  plays : Plays stages real s h front
  plays = plays-there s h journal fair.nodes past front at.front_is

  pub later-took : (c : Command) → Took c front → Took c journal
  later-took c t = subst (Took c) (sym at.front_is.events) (took-later c at.front_is.newer front t)

  -- a channel of the name of one that a command opens is that one
  pub one-fixed : (c : Command) → Took c front → (x : FixedParts) → In x (opened_by c) → (y : FixedParts) → In y (channels (lines_of s.key front)) → real.named y ≡ real.named x → y ≡ x
  one-fixed c took x i y j same =
      let o = opened-there (lines_of s.key front) y j in
      let d = opener s.key front o.0 y o.1 o.2 in
      let e : c ≡ d.command = one-command stages real s h fair.nodes.legal x front plays c d.command x y took d.took i d.inside same in
      apart-one real (opened_by c) (apart-names stages real s h fair.nodes.legal x front plays c x took i) x y i (subst (λ (k : Command). In y (opened_by k)) (sym e) d.inside)
      (subst (λ (n : List ℕ). bytes_eq n (real.named x) ≡ true) (sym same) (bytes_eq_self (real.named x)))

  pub record PartCommand (p : Part) (g : Goal) : Type 0 where
    pub command : Command
    pub took : Took command front
    pub of : In p (parts_of real s.key command)
    pub goal : IsGoalOf command g

  pub part-command : (any : FixedParts) (p : Part) → In p m.parts → (g : Goal) → goal_in (facts_of m) (own_channel p) ≡ Some g → PartCommand p g
  part-command any p i g is =
      let apart = (is-planned stages real s h front plays at.front_is.later past at.front_is.entries at.front_is.before).apart in
      let found = goal-found m.parts m.goals (own_channel p) g is in
      let q-is : found.q ≡ p =
      one-part (own_channel p) m.parts found.q p apart (In-get m.parts g.part found.q found.at) i
      (subst (λ (z : List ℕ). is_among z (channels_of found.q) ≡ true) (same_bytes (own_channel found.q) (own_channel p) found.about) (own-among found.q)) (own-among p) in
      let o = goals-of stages real s h fair.nodes.legal any front plays at.front_is.later past at.front_is.entries at.front_is.before g found.there in
      let p-is : o.p ≡ p = some-eq o.p found.q (sym o.at ∙ found.at) ∙ q-is in
      record { command = o.command; took = o.took; of = subst (λ (x : Part). In x (parts_of real s.key o.command)) p-is o.of; goal = o.goal }

  -- the command that opened a channel on a ledger
  pub record ChildOf (f : FixedParts) (opening : List AssetOutcome) : Type 0 where
    pub ledger : List ℕ
    pub asset : ℕ
    pub amounts : ℕ × ℕ
    pub took : Took (open_on ledger f asset amounts) journal
    pub is : opening ≡ shared f asset amounts

  pub child-of : (ledger name : List ℕ) (g : Goal) → In (parts.OnLedger ledger name) m.parts → (o : OnLedgerIs s.key past (lines_of s.key front) (facts_of m) ledger name g)
      → ChildOf o.fixed g.opening
  child-of ledger name g i o = of c.command c.took c.of c.goal
    where
      fa : FundedAt m ledger name o.funded
      fa = funded-at m ledger name o.funded o.is

      opening : g.opening ≡ fa.g.opening
      opening = sym (ap (λ (x : Seat). x.opening) o.seat.is) ∙ (seated m name fa.g.opening o.funded.channel fa.channel).opening_is

      c : PartCommand (parts.OnLedger ledger name) fa.g
      c = part-command o.fixed (parts.OnLedger ledger name) i fa.g fa.goal

      of : (d : Command) → Took d front → In (parts.OnLedger ledger name) (parts_of real s.key d) → IsGoalOf d fa.g → ChildOf o.fixed g.opening
      of (commands.OpenOn funding) took (inl e) goal =
          let is : o.fixed ≡ funding.fixed = one-fixed (commands.OpenOn funding) took funding.fixed (inl refl) o.fixed o.seat.own.there (o.named ∙ ap own_channel e) in
          let opens : g.opening ≡ shared funding.fixed funding.asset funding.amounts = opening ∙ goal-opening funding.ledger funding.fixed funding.asset funding.amounts fa.g goal in
          subst (λ (x : FixedParts). ChildOf x g.opening) (sym is)
          (record { ledger = funding.ledger; asset = funding.asset; amounts = funding.amounts; took = later-took (commands.OpenOn funding) took; is = opens })
      of (commands.OpenOn o) took (inr j) goal = absurd j
      of (commands.Open f outcome) took (inl e) goal = absurd cc
      of (commands.Open f outcome) took (inr j) goal = absurd j
      of (commands.OpenVirtual v) took j goal = absurd (no (takes_part s.key v.channel) j)
        where
          no : (b : Bool) → In (parts.OnLedger ledger name)
              (cond b (parts.End (virtual real s.key v.ledgers v.guarantors v.joint v.channel v.asset v.amounts) ∷ []) (parts.Middle (virtual real s.key v.ledgers v.guarantors v.joint v.channel v.asset v.amounts) ∷ [])) → ⊥
          no true (inl e) = cc
          no true (inr k) = k
          no false (inl e) = cc
          no false (inr k) = k
      of (commands.Pay channel asset amount) took j goal = absurd j
      of (commands.Close channel) took j goal = absurd j
      of (commands.Release how channel) took j goal = absurd j
      of (commands.Resend channel) took j goal = absurd j
      of commands.Exit took j goal = absurd j

  pub child-first : (ledger name : List ℕ) (g : Goal) → In (parts.OnLedger ledger name) m.parts → (o : OnLedgerIs s.key past (lines_of s.key front) (facts_of m) ledger name g)
      → SignsFirst o.fixed g.opening (lines_of s.key journal)
  child-first ledger name g i o =
      let c = child-of ledger name g i o in
      subst (λ (x : List AssetOutcome). SignsFirst o.fixed x (lines_of s.key journal)) (sym c.is)
      (child-signs s h journal fair.nodes.legal fair.nodes.plays c.ledger o.fixed c.asset c.amounts c.took)

  -- the command that opened a root
  pub record RootOpened (f : FixedParts) (g : Goal) : Type 0 where
    pub outcome : List AssetOutcome
    pub took : Took (commands.Open f outcome) front
    pub goal : IsGoalOf (commands.Open f outcome) g

  pub root-opened : (name : List ℕ) (g : Goal) → In (parts.Root name) m.parts → goal_in (facts_of m) name ≡ Some g → (f : FixedParts) → In f (channels (lines_of s.key front)) → real.named f ≡ name
      → RootOpened f g
  root-opened name g i found f there named = subst (λ (x : FixedParts). RootOpened x g) (sym f-is) (record { outcome = ro.outcome; took = took; goal = subst (λ (d : Command). IsGoalOf d g) ro.is by.goal })
    where
      by : PartCommand (parts.Root name) g
      by = part-command f (parts.Root name) i g found

      ro : RootOf name by.command
      ro = root-of s.key name by.command by.of

      took : Took (commands.Open ro.f ro.outcome) front
      took = subst (λ (d : Command). Took d front) ro.is by.took

      only : (parts.Root name ≡ parts.Root (real.named ro.f)) ⊎ ⊥ → name ≡ real.named ro.f
      only (inl e) = ap own_channel e
      only (inr j) = absurd j

      f-is : f ≡ ro.f
      f-is = one-fixed (commands.Open ro.f ro.outcome) took ro.f (inl refl) f there (named ∙ only (subst (λ (d : Command). In (parts.Root name) (parts_of real s.key d)) ro.is by.of))
