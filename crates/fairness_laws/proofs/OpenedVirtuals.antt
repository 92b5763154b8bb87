-- What the channels of a virtual channel open with, and what is signed in its guarantors, by the command that opened
-- its part.
use Rattle.std.proofs.Common.{◌≡◌, ℕ, ◌+◌, ◌≤◌, Bool, true, false, cond, List, [], ◌∷◌, inl, inr, refl, sym, ◌∙◌, ap, subst, arith}
use Rattle.std.specs.Prelude.{Some}
use Rattle.channel_values.specs.Outcomes.{IsName}
use Rattle.channel_values.specs.Parts.{FixedParts}
use Rattle.channel_values.specs.declared.value.AssetOutcome.{AssetOutcome}
use Rattle.channel_values.specs.Digests.{name_of_person}
use Rattle.call_history.specs.Flows.{is_among}
use Rattle.call_history.specs.declared.entry.Entry.{Entry}
use Rattle.channel_values.specs.Rules.{people}
use Rattle.funding_plans.specs.Parts.{own_channel, own_guarantor, ledgers_of}
use Rattle.funding_plans.specs.declared.plan.Goal.{Goal}
use Rattle.funding_plans.specs.declared.plan.Part.{Part}
use Rattle.funding_plans.specs.declared.plan.Part.TheVariants as parts
use Rattle.funding_plans.specs.declared.plan.Virtual.{Virtual}
use Rattle.channel_safety.specs.Held.{held}
use Rattle.channel_safety.specs.Journals.{In}
use Rattle.fairness_laws.specs.Openings.{open_virtual}
use Rattle.network.specs.declared.command.Command.{Command}
use Rattle.network.specs.declared.command.Command.TheVariants as commands
use Rattle.network.specs.declared.command.Route.{Route}
use Rattle.channel_node.proofs.Reaching.{Reaches}
use Rattle.channel_node.specs.Minds.{Mind, facts_of}
use Rattle.channel_node.specs.Openings.{opened_by, parts_of, shared, takes_part, virtual}
use Rattle.channel_node.specs.Places.{Told, lines_of, mind_at}
use Rattle.channel_node.specs.Playing.{Signing}
use Rattle.fairness_laws.proofs.NamesAreNames.{names_are_names}
use Rattle.fairness_laws.proofs.Opening.Ends.{EndAt, end-at, ends_open, guarantor-named, guarantor-inside, posted-starts}
use Rattle.fairness_laws.proofs.Opening.Guarantors.{ends_sign, middles_sign}
use Rattle.fairness_laws.proofs.Opening.Middles.{MiddleAt, middle-at, middles_open}
use Rattle.fairness_laws.proofs.Opening.Seated.{seated}
use Rattle.fairness_laws.proofs.Opening.Virtuals.{GoalIs, goal-is, Differ, names-differ, at-end}
use Rattle.fairness_laws.proofs.Plan.Places.{plays-there}
use Rattle.fairness_laws.proofs.Seat.Past.{two-people}
use Rattle.fairness_laws.proofs.OpenedParts.{SignsFirst, end-signs, PartCommand, part-command, later-took, one-fixed}
use Rattle.fairness_laws.specs.OpeningChannels.{guarantor_of, SignsOnly}
use Rattle.fairness_laws.specs.PaymentLaws.{At}
use Rattle.fairness_laws.specs.PlanParts.{EndIs, MiddleIs}
use Rattle.fairness_laws.specs.PlanSettings.{IsFair}
use Rattle.funding_plans.specs.Targets.{apart, guarantee}
use Rattle.funding_plans.specs.declared.terms.Terms.{Terms}
use Rattle.share_laws.specs.Places.{channels}
use Rattle.funding_plans.specs.Gathered.{goal_in}
use Rattle.funding_plans.specs.Seats.{Seat}
use Rattle.support_rules.specs.Real.{real}
use Rattle.support_rules.specs.Steps.{persons}
use Rattle.virtual_channel.specs.Stages.{terms_for, own_end}
use Rattle.fairness_laws.proofs.Commanded.{IsGoalOf}
use Rattle.fairness_laws.proofs.FirstRounds as firsts
use Rattle.fairness_laws.specs.Carried.{OpensWith}
use Rattle.fairness_laws.specs.Opens.{Took}

-- the virtual channel of a part
abbrev virtual-or : Virtual → Part → Virtual
virtual-or v (parts.End w) = w
virtual-or v (parts.Middle w) = w
virtual-or v p = v

-- the terms are told by the joint channel's people
told-terms : (v : Virtual) (t : Terms) → t.asset ≡ v.asset → t.channel ≡ v.channel → t.total ≡ v.total → terms_for v (t.first ∷ t.middle ∷ t.second ∷ []) ≡ Some t
told-terms v t asset channel total =
    ap (λ (n : ℕ). Some (record { asset = n; channel = v.channel; first = t.first; middle = t.middle; second = t.second; total = v.total })) (sym asset)
    ∙ (ap (λ (c : List ℕ). Some (record { asset = t.asset; channel = c; first = t.first; middle = t.middle; second = t.second; total = v.total })) (sym channel)
    ∙ ap (λ (n : ℕ). Some (record { asset = t.asset; channel = t.channel; first = t.first; middle = t.middle; second = t.second; total = n })) (sym total))

module _ (s : Signing) (h : List Entry) (journal : List Told) (fair : IsFair s h journal) (past : List Entry) (front : List Told) (at : At s h journal past front) where
  abbrev m : Mind
  m = mind_at real s.key past front

  -- its part, at an end or at the intermediary
  abbrev pub part-of : Virtual → Bool → Part
  part-of v end = cond end (parts.End v) (parts.Middle v)

  -- the command by which it was opened
  pub record OpenedBy (v : Virtual) (g : Goal) (end : Bool) : Type 0 where
    pub route : Route
    pub ledgers : List ℕ × List ℕ
    pub guarantors : FixedParts × FixedParts
    pub joint : FixedParts
    pub channel : FixedParts
    pub asset : ℕ
    pub amounts : ℕ × ℕ
    pub took : Took (open_virtual route ledgers guarantors joint channel asset amounts) front
    pub takes : takes_part s.key channel ≡ end
    pub is : v ≡ virtual real s.key ledgers guarantors joint channel asset amounts
    pub goal : GoalIs channel asset amounts g

  pub opened-by : (v : Virtual) (g : Goal) (end : Bool) → In (part-of v end) m.parts → goal_in (facts_of m) v.channel ≡ Some g → (own : FixedParts) → OpenedBy v g end
  opened-by v g end i found own = by-command end c.command c.took c.of c.goal
    where
      about : (end : Bool) → own_channel (part-of v end) ≡ v.channel
      about true = refl
      about false = refl

      c : PartCommand s h journal fair past front at (part-of v end) g
      c = part-command s h journal fair past front at own (part-of v end) i g (ap (goal_in (facts_of m)) (about end) ∙ found)

      by-command : (end : Bool) (d : Command) → Took d front → In (part-of v end) (parts_of real s.key d) → IsGoalOf d g → OpenedBy v g end
      by-command true (commands.OpenOn o) took (inl q) goal = absurd cc
      by-command false (commands.OpenOn o) took (inl q) goal = absurd cc
      by-command end (commands.OpenOn o) took (inr j) goal = absurd j
      by-command true (commands.Open f outcome) took (inl q) goal = absurd cc
      by-command false (commands.Open f outcome) took (inl q) goal = absurd cc
      by-command end (commands.Open f outcome) took (inr j) goal = absurd j
      by-command end (commands.OpenVirtual funding) took j goal = by end (takes_part s.key funding.channel) refl j
        where
          w : Virtual
          w = virtual real s.key funding.ledgers funding.guarantors funding.joint funding.channel funding.asset funding.amounts

          opened : (end : Bool) → takes_part s.key funding.channel ≡ end → v ≡ w → OpenedBy v g end
          opened end takes is = record {
            route = funding.route;
            ledgers = funding.ledgers;
            guarantors = funding.guarantors;
            joint = funding.joint;
            channel = funding.channel;
            asset = funding.asset;
            amounts = funding.amounts;
            took = took;
            takes = takes;
            is = is;
            goal = goal-is funding.route funding.ledgers funding.guarantors funding.joint funding.channel funding.asset funding.amounts g goal;
          }

          by : (end b : Bool) → takes_part s.key funding.channel ≡ b → In (part-of v end) (cond b (parts.End w ∷ []) (parts.Middle w ∷ [])) → OpenedBy v g end
          by true true takes (inl q) = opened true takes (ap (virtual-or v) q)
          by false false takes (inl q) = opened false takes (ap (virtual-or v) q)
          by true false takes (inl q) = absurd cc
          by false true takes (inl q) = absurd cc
          by end true takes (inr k) = absurd k
          by end false takes (inr k) = absurd k
      by-command end (commands.Pay channel asset amount) took j goal = absurd j
      by-command end (commands.Close channel) took j goal = absurd j
      by-command end (commands.Release how channel) took j goal = absurd j
      by-command end (commands.Resend channel) took j goal = absurd j
      by-command end commands.Exit took j goal = absurd j

  -- an own channel by the name of one that a command opens is that one
  same-fixed : (d : Command) → Took d front → (x : FixedParts) → In x (opened_by d) → (y : FixedParts) → In y (channels (lines_of s.key front)) → real.named y ≡ real.named x → y ≡ x
  same-fixed = one-fixed s h journal fair past front at

  abbrev Opens : FixedParts → List AssetOutcome → Type 0
  Opens f o = OpensWith f o (lines_of s.key journal)

  abbrev First : FixedParts → List AssetOutcome → Type 0
  First f o = SignsFirst f o (lines_of s.key journal)

  abbrev Signs : FixedParts → List AssetOutcome → Type 0
  Signs f o = SignsOnly f o (lines_of s.key journal)

  -- what holds of that channel and of its outcome
  there : (P : FixedParts → List AssetOutcome → Type 0) (f x : FixedParts) (a b : List AssetOutcome) → x ≡ f → a ≡ b → P f a → P x b
  there P f x a b same is p = subst (λ (y : FixedParts). P y b) (sym same) (subst (P f) is p)

  -- ---- at an end

  pub record EndOpened (v : Virtual) (g : Goal) (e : EndIs s.key past (lines_of s.key front) (facts_of m) v g) : Type 0 where
    pub guarantees : OpensWith e.guarantor.fixed (guarantee e.end.terms v.joint (name_of_person s.key)) (lines_of s.key journal)
    pub signs : SignsOnly e.guarantor.fixed (guarantee e.end.terms v.joint (name_of_person s.key)) (lines_of s.key journal)
    pub splits : OpensWith e.joint.fixed (apart e.end.terms g.amounts) (lines_of s.key journal)
    pub opens : OpensWith e.fixed g.opening (lines_of s.key journal)
    pub first : SignsFirst e.fixed g.opening (lines_of s.key journal)
    -- where a part stands on its channel it is held past its set-up
    pub borne : (q : Part) → In q m.parts → is_among v.channel (ledgers_of q) ≡ true → Reaches real e.fixed 3 (held real e.fixed past (lines_of s.key front))

  pub end-opened : (v : Virtual) (g : Goal) → In (parts.End v) m.parts → (e : EndIs s.key past (lines_of s.key front) (facts_of m) v g) → EndOpened v g e
  end-opened v g i e = by
    where
      t : Terms
      t = e.end.terms

      ea : EndAt m v e.end
      ea = end-at m v e.end e.is

      o : OpenedBy v ea.g true
      o = opened-by v ea.g true i ea.goal e.fixed

      w : Virtual
      w = virtual real s.key o.ledgers o.guarantors o.joint o.channel o.asset o.amounts

      command : Command
      command = open_virtual o.route o.ledgers o.guarantors o.joint o.channel o.asset o.amounts

      took : Took command journal
      took = later-took s h journal fair past front at command o.took

      joint-is : e.joint.fixed ≡ o.joint
      joint-is = same-fixed command o.took o.joint (inr (inr (inl refl))) e.joint.fixed e.joint.seat.own.there (e.joint.named ∙ ap (λ (x : Virtual). x.joint) o.is)

      channel-is : e.fixed ≡ o.channel
      channel-is = same-fixed command o.took o.channel (inr (inr (inr (inl refl)))) e.fixed e.seat.own.there (e.named ∙ ap (λ (x : Virtual). x.channel) o.is)

      told : terms_for w (persons o.joint) ≡ Some t
      told =
          ap (terms_for w) (ap persons (sym joint-is) ∙ e.joint.people)
          ∙ told-terms w t (e.joint.asset ∙ ap (λ (x : Virtual). x.asset) o.is) (e.joint.channel ∙ ap (λ (x : Virtual). x.channel) o.is) (e.joint.total ∙ ap (λ (x : Virtual). x.total) o.is)

      distinct : Differ (real.named o.guarantors.0) (real.named o.guarantors.1) (real.named o.joint) (real.named o.channel)
      distinct = names-differ s h journal fair.nodes.legal fair.nodes.plays o.route o.ledgers o.guarantors o.joint o.channel o.asset o.amounts took

      guarantor-is : e.guarantor.fixed ≡ guarantor_of w o.guarantors
      guarantor-is =
          same-fixed command o.took (guarantor_of w o.guarantors) (guarantor-inside s.key o.route o.ledgers o.guarantors o.joint o.channel o.asset o.amounts t told distinct) e.guarantor.fixed e.guarantor.seat.own.there
          (e.guarantor.named ∙ (ap own_guarantor o.is ∙ sym (guarantor-named s.key o.route o.ledgers o.guarantors o.joint o.channel o.asset o.amounts t told distinct)))

      promise-is : guarantee t w.joint (own_end w t) ≡ guarantee t v.joint (name_of_person s.key)
      promise-is = ap (λ (x : Virtual). guarantee t x.joint (own_end x t)) (sym o.is) ∙ ap (guarantee t v.joint) e.me

      split-is : apart t o.amounts ≡ apart t g.amounts
      split-is =
          ap (apart t) (sym o.goal.of_ends)
          ∙ (sym (seated m v.joint (apart t ea.g.amounts) e.end.joint ea.middle).opening_is ∙ ap (λ (x : Seat). x.opening) e.joint.seat.is)

      opening-is : shared o.channel o.asset o.amounts ≡ g.opening
      opening-is = sym o.goal.opening ∙ (sym (seated m v.channel ea.g.opening e.end.channel ea.last).opening_is ∙ ap (λ (x : Seat). x.opening) e.seat.is)

      borne-so : (q : Part) → In q m.parts → is_among v.channel (ledgers_of q) ≡ true → Reaches real e.fixed 3 (held real e.fixed past (lines_of s.key front))
      borne-so q j among =
          subst (λ (x : FixedParts). Reaches real x 3 (held real x past (lines_of s.key front))) (sym channel-is)
          ((firsts.lent s h journal fair.nodes.legal fair.nodes.plays command (parts.End w) o.channel (shared o.channel o.asset o.amounts) 3 took (inr (inr (inr (inl refl))))
          (at-end s.key o.route o.ledgers o.guarantors o.joint o.channel o.asset o.amounts o.takes)
          (posted-starts s.key o.route o.ledgers o.guarantors o.joint o.channel o.asset o.amounts t told distinct (few (people o.channel) many)) (some (people o.channel) many)
          at.front_is.newer front at.front_is.events (plays-there s h journal fair.nodes past front at.front_is) at.front_is.later past at.front_is.entries at.front_is.before q j
          (subst (λ (n : List ℕ). is_among n (ledgers_of q) ≡ true) (ap (λ (x : Virtual). x.channel) o.is) among)).1
          (subst (λ (x : Virtual). In (parts.End x) m.parts) o.is i))
        where
          many : people o.channel ≡ 2
          many = ap people (sym channel-is) ∙ two-people e.fixed t.first t.second e.people

          few : (n : ℕ) → n ≡ 2 → n ≤ 3 + 1
          few n k = omega arith

          some : (n : ℕ) → n ≡ 2 → 1 ≤ n
          some n k = omega arith

      by : EndOpened v g e
      by =
          let opens = ends_open s h journal fair.nodes.legal fair.nodes.plays o.route o.ledgers o.guarantors o.joint o.channel o.asset o.amounts t took o.takes told in
          record {
            guarantees = there Opens (guarantor_of w o.guarantors) e.guarantor.fixed (guarantee t w.joint (own_end w t)) (guarantee t v.joint (name_of_person s.key)) guarantor-is promise-is opens.guarantor_opens;
            signs = there Signs (guarantor_of w o.guarantors) e.guarantor.fixed (guarantee t w.joint (own_end w t)) (guarantee t v.joint (name_of_person s.key)) guarantor-is promise-is
                (ends_sign s h journal fair.nodes.legal fair.nodes.plays o.route o.ledgers o.guarantors o.joint o.channel o.asset o.amounts t took o.takes told);
            splits = there Opens o.joint e.joint.fixed (apart t o.amounts) (apart t g.amounts) joint-is split-is opens.joint_opens;
            opens = there Opens o.channel e.fixed (shared o.channel w.asset o.amounts) g.opening channel-is opening-is opens.channel_opens;
            borne = borne-so;
            first = there First o.channel e.fixed (shared o.channel w.asset o.amounts) g.opening channel-is opening-is
                (end-signs s h journal fair.nodes.legal fair.nodes.plays o.route o.ledgers o.guarantors o.joint o.channel o.asset o.amounts t took o.takes told);
          }

  -- ---- at the intermediary

  pub record MiddleOpened (v : Virtual) (g : Goal) (e : MiddleIs s.key past (lines_of s.key front) (facts_of m) v g) : Type 0 where
    pub guarantees_a : OpensWith e.guarantor_a.fixed (guarantee e.middle.terms v.joint e.middle.terms.first) (lines_of s.key journal)
    pub guarantees_b : OpensWith e.guarantor_b.fixed (guarantee e.middle.terms v.joint e.middle.terms.second) (lines_of s.key journal)
    pub signs_a : SignsOnly e.guarantor_a.fixed (guarantee e.middle.terms v.joint e.middle.terms.first) (lines_of s.key journal)
    pub signs_b : SignsOnly e.guarantor_b.fixed (guarantee e.middle.terms v.joint e.middle.terms.second) (lines_of s.key journal)
    pub splits : OpensWith e.joint.fixed (apart e.middle.terms g.amounts) (lines_of s.key journal)
    pub named : IsName v.channel

  pub middle-opened : (v : Virtual) (g : Goal) → In (parts.Middle v) m.parts → (e : MiddleIs s.key past (lines_of s.key front) (facts_of m) v g) → MiddleOpened v g e
  middle-opened v g i e = by
    where
      t : Terms
      t = e.middle.terms

      ma : MiddleAt m v e.middle
      ma = middle-at m v e.middle e.is

      o : OpenedBy v ma.g false
      o = opened-by v ma.g false i ma.goal e.joint.fixed

      w : Virtual
      w = virtual real s.key o.ledgers o.guarantors o.joint o.channel o.asset o.amounts

      command : Command
      command = open_virtual o.route o.ledgers o.guarantors o.joint o.channel o.asset o.amounts

      took : Took command journal
      took = later-took s h journal fair past front at command o.took

      joint-is : e.joint.fixed ≡ o.joint
      joint-is = same-fixed command o.took o.joint (inr (inr (inl refl))) e.joint.fixed e.joint.seat.own.there (e.joint.named ∙ ap (λ (x : Virtual). x.joint) o.is)

      a-is : e.guarantor_a.fixed ≡ o.guarantors.0
      a-is = same-fixed command o.took o.guarantors.0 (inl refl) e.guarantor_a.fixed e.guarantor_a.seat.own.there (e.guarantor_a.named ∙ ap (λ (x : Virtual). x.guarantor_a) o.is)

      b-is : e.guarantor_b.fixed ≡ o.guarantors.1
      b-is = same-fixed command o.took o.guarantors.1 (inr (inl refl)) e.guarantor_b.fixed e.guarantor_b.seat.own.there (e.guarantor_b.named ∙ ap (λ (x : Virtual). x.guarantor_b) o.is)

      told : terms_for w (persons o.joint) ≡ Some t
      told =
          ap (terms_for w) (ap persons (sym joint-is) ∙ e.joint.people)
          ∙ told-terms w t (e.joint.asset ∙ ap (λ (x : Virtual). x.asset) o.is) (e.joint.channel ∙ ap (λ (x : Virtual). x.channel) o.is) (e.joint.total ∙ ap (λ (x : Virtual). x.total) o.is)

      promise-is : (end : List ℕ) → guarantee t w.joint end ≡ guarantee t v.joint end
      promise-is end = ap (λ (x : Virtual). guarantee t x.joint end) (sym o.is)

      split-is : apart t o.amounts ≡ apart t g.amounts
      split-is =
          ap (apart t) (sym o.goal.of_ends)
          ∙ (sym (seated m v.joint (apart t ma.g.amounts) e.middle.joint ma.middle).opening_is ∙ ap (λ (x : Seat). x.opening) e.joint.seat.is)

      by : MiddleOpened v g e
      by =
          let opens = middles_open s h journal fair.nodes.legal fair.nodes.plays o.route o.ledgers o.guarantors o.joint o.channel o.asset o.amounts t took o.takes told in
          let signs = middles_sign s h journal fair.nodes.legal fair.nodes.plays o.route o.ledgers o.guarantors o.joint o.channel o.asset o.amounts t took o.takes told in
          record {
            guarantees_a = there Opens o.guarantors.0 e.guarantor_a.fixed (guarantee t w.joint t.first) (guarantee t v.joint t.first) a-is (promise-is t.first) opens.first_opens;
            guarantees_b = there Opens o.guarantors.1 e.guarantor_b.fixed (guarantee t w.joint t.second) (guarantee t v.joint t.second) b-is (promise-is t.second) opens.second_opens;
            signs_a = there Signs o.guarantors.0 e.guarantor_a.fixed (guarantee t w.joint t.first) (guarantee t v.joint t.first) a-is (promise-is t.first) signs.0;
            signs_b = there Signs o.guarantors.1 e.guarantor_b.fixed (guarantee t w.joint t.second) (guarantee t v.joint t.second) b-is (promise-is t.second) signs.1;
            splits = there Opens o.joint e.joint.fixed (apart t o.amounts) (apart t g.amounts) joint-is split-is opens.joint_opens;
            named = subst (λ (x : Virtual). IsName x.channel) (sym o.is) (names_are_names o.channel);
          }
