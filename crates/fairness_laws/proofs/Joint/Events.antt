-- What an event makes of the parts of a plan and of what was commanded of them.
use Rattle.std.proofs.Common.{◌≡◌, ℕ, ◌<◌, Bool, true, false, not, List, ◌∷◌, ◌++◌, ◌⊎◌, inl, inr, length, refl, sym, ◌∙◌, ap, subst}
use Rattle.std.specs.Prelude.{◌==◌, Option, Some, None, is_some, map}
use Rattle.std.specs.Str.{bytes_eq}
use Rattle.std.specs.List.{list_all, slice_get}
use Rattle.std.specs.Option.{option_map, option_or}
use Rattle.channel_values.specs.Parts.{FixedParts}
use Rattle.channel_values.specs.declared.chain.Signed.{Signed}
use Rattle.channel_safety.proofs.Lists.{In-get, get-some, get-append, In-append_cases}
use Rattle.channel_safety.proofs.Tests.{some-eq, none-eq, clash, and-right, eqb-true}
use Rattle.call_history.proofs.Names.{same_bytes}
use Rattle.call_history.specs.Flows.{is_among}
use Rattle.call_history.specs.declared.entry.Entry.{Entry}
use Rattle.call_history.specs.declared.event.Deed.{Deed}
use Rattle.call_history.specs.declared.event.Deed.TheVariants as deeds
use Rattle.channel_store.specs.Storing.{kept_of}
use Rattle.channel_store.specs.declared.kept.Kept.{Kept}
use Rattle.funding_plans.specs.Parts.{own_channel, channels_of, joined_of, running}
use Rattle.funding_plans.specs.Parts as parts-of
use Rattle.funding_plans.specs.declared.plan.Goal.{Goal}
use Rattle.funding_plans.specs.declared.plan.Part.{Part}
use Rattle.channel_safety.specs.Journals.{In, some_if, is_watched, is_followed, made_in}
use Rattle.network.specs.declared.command.Command.{Command}
use Rattle.network.specs.declared.command.Command.TheVariants as commands
use Rattle.channel_node.proofs.Bridging.{plays-at}
use Rattle.channel_node.proofs.Places.{mind-event}
use Rattle.channel_node.specs.Minds.{Mind, facts_of, did, place_with, close_if}
use Rattle.channel_node.specs.Openings.{opened_by, parts_of, goals_of, are_apart}
use Rattle.channel_node.specs.Places.{Told, lines_of, mind_at}
use Rattle.channel_node.specs.Playing.{Signing, Plays, pending, payment_in, signings, Allowed}
use Rattle.channel_node.specs.Refusing.{open_refusal, is_planned, part_with}
use Rattle.stage_tables.specs.Stages.{stages}
use Rattle.funding_plans.specs.declared.plan.Virtual.{Virtual}
use Rattle.funding_plans.specs.declared.terms.Terms.{Terms}
use Rattle.funding_plans.specs.Seats.{Seat}
use Rattle.fairness_laws.specs.PlanParts.{JointIs}
use Rattle.fairness_laws.proofs.Apps.{no-payments}
use Rattle.fairness_laws.specs.PaymentLaws.{At}
use Rattle.fairness_laws.specs.PlanSettings.{IsFair}
use Rattle.fairness_laws.proofs.Plan.Goals.{goal-stays, goal-opens, goal-closes}
use Rattle.fairness_laws.proofs.Seat.Past.{honest, unkept-unsigned}
use Rattle.fairness_laws.proofs.Accepted.{Closed, closed, LetGo, let-go, IsKept, paid-by, Paid, paid-so}
use Rattle.share_laws.specs.Places.{channels, last_made}
use Rattle.funding_plans.specs.Gathered.{goal_in}
use Rattle.channel_store.proofs.Places.{found_at_place}
use Rattle.support_rules.specs.Real.{real}
use Rattle.fairness_laws.proofs.Apart.{accepted-new}
use Rattle.fairness_laws.proofs.Closing.{FoundGoal, goal-found}
use Rattle.fairness_laws.proofs.Commanded.{fresh-name, all-at}
use Rattle.fairness_laws.proofs.Finding.{or-left, not-true}
use Rattle.fairness_laws.proofs.Planned.{Change, stays, opens, closes, event-changes, opened-channels, own-among, among-channels, new-goal}
use Rattle.fairness_laws.proofs.Seat.Held.{last-of}
use Rattle.fairness_laws.proofs.Plan.Asked.{planned, one-of-parts}
use Rattle.fairness_laws.proofs.Payment.Made.{made-deed}
use Rattle.fairness_laws.proofs.Plan.Holding.{Holds}
use Rattle.fairness_laws.proofs.Signing.{kept-of}
use Rattle.fairness_laws.proofs.Noting.{IsPaid, IsMade, why-made}

-- ---- one more event

-- of a look no payment waits
pub watched-pays : (d : Deed) (o : Option Command) → is_watched d ≡ true → payment_in d o ≡ None
watched-pays (deeds.Watched watcher calls) o w = refl
watched-pays (deeds.Commanded step refusal) o w = absurd cc
watched-pays (deeds.Handled bytes refusal) o w = absurd cc
watched-pays (deeds.Signed channel state signature) o w = absurd cc
watched-pays (deeds.SignedChallenge channel state who signature) o w = absurd cc
watched-pays (deeds.Called call) o w = absurd cc

-- what was signed last, after one more event
pub last-next : (key : List ℕ) (x : Told) (front : List Told) (c : List ℕ) → made_in c x.deed ≡ None → last-of c (lines_of key (x ∷ front)) ≡ last-of c (lines_of key front)
last-next key x front c e = ap (λ (o : Option Signed). option_map (λ (z : Signed). z.state) (option_or o (last_made c (lines_of key front)))) e

pub last-now : (key : List ℕ) (x : Told) (front : List Told) (c : List ℕ) (n : Signed) → made_in c x.deed ≡ Some n → last-of c (lines_of key (x ∷ front)) ≡ Some n.state
last-now key x front c n e = ap (λ (o : Option Signed). option_map (λ (z : Signed). z.state) (option_or o (last_made c (lines_of key front)))) e

-- ---- at an event

module _ (s : Signing) (h : List Entry) (journal : List Told) (fair : IsFair s h journal) (past : List Entry) (x : Told) (front : List Told)
    (at : At s h journal past front) (then : At s h journal past (x ∷ front)) (len : length past ≡ x.seen) where
  abbrev m : Mind
  m = mind_at real s.key past front

  abbrev new : Mind
  new = mind_at real s.key past (x ∷ front)

  pub allowed : Allowed stages real s past m (signings front) (pending front) x.deed x.command
  allowed =
      ((plays-at stages real s h then.front_is.newer x front (subst (Plays stages real s h) then.front_is.events fair.nodes.plays)).place at.front_is.later past at.front_is.entries len).1

  pub happened : new ≡ did real x.deed x.command m
  happened = mind-event real s.key past x front len

  change : Change stages real x.deed x.command m new
  change = subst (Change stages real x.deed x.command m) (sym happened) (event-changes stages real s past (signings front) (pending front) x.deed x.command m allowed)

  -- ---- the goal of a part

  -- Close was not commanded now, or the part ran
  pub record GoalNext (p : Part) (a b : Goal) : Type 0 where
    pub opening : b.opening ≡ a.opening
    pub amounts : b.amounts ≡ a.amounts
    pub closing : (b.closing ≡ a.closing) ⊎ ((b.closing ≡ true) × ((stages.stage (facts_of m) p == running p) ≡ true))

  pub goal-next : (p : Part) → In p m.parts → IsKept (facts_of m) p → (a b : Goal) → goal_in (facts_of m) (own_channel p) ≡ Some a → goal_in (facts_of new) (own_channel p) ≡ Some b → GoalNext p a b
  goal-next p i kept a b ea eb = go change
    where
      same : b ≡ a → GoalNext p a b
      same e = record { opening = ap (λ (g : Goal). g.opening) e; amounts = ap (λ (g : Goal). g.amounts) e; closing = inl (ap (λ (g : Goal). g.closing) e) }

      -- the part that has the channel, where it is the goal's
      here : (channel : List ℕ) (q : Part) → part_with channel m.parts ≡ Some q → (a.part == place_with channel m.parts) ≡ true → q ≡ p
      here channel q found e =
          let f = goal-found m.parts m.goals (own_channel p) a ea in
          let at-place : slice_get m.parts a.part ≡ Some q =
          ap (slice_get m.parts) (eqb-true a.part (place_with channel m.parts) e) ∙ (found_at_place (λ (part : Part). is_among channel (channels_of part)) m.parts ∙ found) in
          let same-part : f.q ≡ q = some-eq f.q q (sym f.at ∙ at-place) in
          sym same-part
          ∙ one-of-parts s h journal fair past front at (own_channel p) f.q p (In-get m.parts a.part f.q f.at) i
          (subst (λ (z : List ℕ). is_among z (channels_of f.q) ≡ true) (same_bytes (own_channel f.q) (own_channel p) f.about) (own-among f.q)) (own-among p)

      lets-it : (channel : List ℕ) → LetGo m channel → (t : Bool) → (a.part == place_with channel m.parts) ≡ t → b ≡ close_if true t a → GoalNext p a b
      lets-it channel c false e is = same is
      lets-it channel c true e is = absurd (kept c.how (subst (λ (q : Part). stages.releases (facts_of m) c.how q ≡ true) (here channel c.part c.found e) c.may))

      closes-it : (channel : List ℕ) → Closed m channel → (t : Bool) → (a.part == place_with channel m.parts) ≡ t → b ≡ close_if false t a → GoalNext p a b
      closes-it channel c false e is = same is
      closes-it channel c true e is = record {
        opening = ap (λ (g : Goal). g.opening) is;
        amounts = ap (λ (g : Goal). g.amounts) is;
        closing = inr (ap (λ (g : Goal). g.closing) is, subst (λ (q : Part). (stages.stage (facts_of m) q == running q) ≡ true) (here channel c.part c.found e) c.runs);
      }

      go : Change stages real x.deed x.command m new → GoalNext p a b
      go (stays parts goals) = same (some-eq b a (sym eb ∙ (goal-stays m new (own_channel p) parts goals ∙ ea)))
      go (opens command followed of taken parts goals) =
          same (some-eq b a (sym eb ∙ goal-opens m new (own_channel p) (parts_of real m.key command) (goals_of (length m.parts) command) parts goals a ea))
      go (closes true channel taken parts goals) =
          lets-it channel (let-go m channel taken.0 taken.1) (a.part == place_with channel m.parts) refl
          (some-eq b (close_if true (a.part == place_with channel m.parts) a) (sym eb ∙ goal-closes true m new (own_channel p) (place_with channel m.parts) parts goals a ea))
      go (closes false channel taken parts goals) =
          closes-it channel (closed m channel taken) (a.part == place_with channel m.parts) refl
          (some-eq b (close_if false (a.part == place_with channel m.parts) a) (sym eb ∙ goal-closes false m new (own_channel p) (place_with channel m.parts) parts goals a ea))

  -- ---- an accepted payment

  pub paid-here : (c : List ℕ) (asset amount : ℕ) → pending (x ∷ front) ≡ Some (commands.Pay c asset amount) → Paid m c
  paid-here c asset amount e = paid-so s past m (signings front) (pending front) x.deed x.command allowed c asset amount e

  -- ---- a state is signed

  module _ (channel : List ℕ) (n : Signed) (made : made_in channel x.deed ≡ Some n) where
    deed-is : x.deed ≡ deeds.Signed channel n.state n.signature
    deed-is = made-deed channel x.deed n made

    -- nothing is opened or closed
    pub goal-same : (p : Part) → (a b : Goal) → goal_in (facts_of m) (own_channel p) ≡ Some a → goal_in (facts_of new) (own_channel p) ≡ Some b → b ≡ a
    goal-same p a b ea eb = some-eq b a (sym eb ∙ (goal-stays m new (own_channel p) (ap (λ (z : Mind). z.parts) becomes) (ap (λ (z : Mind). z.goals) becomes) ∙ ea))
      where
        becomes : new ≡ did real (deeds.Signed channel n.state n.signature) x.command m
        becomes = happened ∙ ap (λ (d : Deed). did real d x.command m) deed-is

    -- no payment waits then
    pub none-waits : (c : Command) → pending (x ∷ front) ≡ Some c → ⊥
    none-waits c e = none-eq c (subst (λ (d : Deed). payment_in d x.command ≡ Some c) deed-is e)

    pub why-signed : IsMade stages (pending front) m channel n.state
    why-signed = why-made stages real s past m (signings front) (pending front) channel x.deed x.command n allowed made

    -- of other channels nothing is signed
    pub made-other : (c : List ℕ) → bytes_eq channel c ≡ false → made_in c x.deed ≡ None
    made-other c differ = ap (made_in c) deed-is ∙ ap (λ (b : Bool). some_if b (record { state = n.state; signature = n.signature })) differ

  -- a payment that waits is of this channel
  pub paid-is : (channel : List ℕ) (paid : IsPaid (pending front) channel) → pending front ≡ Some (commands.Pay channel paid.asset paid.amount)
  paid-is channel paid = subst (λ (c : List ℕ). pending front ≡ Some (commands.Pay c paid.asset paid.amount)) (same_bytes paid.paid channel paid.here) paid.is

  -- it is a payment channel
  no-pays : (f : FixedParts) → In f (channels (lines_of s.key front)) → f.app ≡ 0 → (asset amount : ℕ) → pending (x ∷ front) ≡ Some (commands.Pay (real.named f) asset amount) → ⊥
  no-pays f there app asset amount e =
      let q = paid-here (real.named f) asset amount e in
      let k : Holds s.key past (lines_of s.key front) m f = kept-of s h journal fair past front at f there in
      let same : q.kept ≡ k.kept = some-eq q.kept k.kept (sym q.keeps ∙ k.found) in
      no-payments q.kept.chain.fixed (ap (λ (z : Kept). z.chain.fixed.app) same ∙ (ap (λ (g : FixedParts). g.app) k.at.fixed ∙ app)) q.app

  pub no-joint-pays : (v : Virtual) (g : Goal) (t : Terms) (c : Seat) → JointIs s.key past (lines_of s.key front) v g t c → (asset amount : ℕ) → pending (x ∷ front) ≡ Some (commands.Pay v.joint asset amount) → ⊥
  no-joint-pays v g t c j asset amount e =
      no-pays j.fixed j.seat.own.there j.app asset amount (subst (λ (n : List ℕ). pending (x ∷ front) ≡ Some (commands.Pay n asset amount)) (sym j.named) e)

  -- ---- a new part

  -- it isn't closing, nothing was signed of its channels, and no payment waits
  pub record NewPart (p : Part) : Type 0 where
    pub going : (g : Goal) → goal_in (facts_of new) (own_channel p) ≡ Some g → g.closing ≡ false
    pub unsigned : (f : FixedParts) → In f (channels (lines_of s.key (x ∷ front))) → is_among (real.named f) (channels_of p) ≡ true → last_made (real.named f) (lines_of s.key (x ∷ front)) ≡ None
    pub unpaid : (c : List ℕ) (asset amount : ℕ) → pending (x ∷ front) ≡ Some (commands.Pay c asset amount) → ⊥

  module _ (p : Part) (command : Command) (followed : is_followed x.deed ≡ true) (of : x.command ≡ Some command) (taken : None ≡ open_refusal stages real m command)
      (parts : new.parts ≡ m.parts ++ parts_of real m.key command) (goals : new.goals ≡ m.goals ++ goals_of (length m.parts) command) (i : In p (parts_of real m.key command)) where
    abbrev fresh : List (List ℕ)
    fresh = map real.named (opened_by command)

    all-fresh : list_all (λ name. not (is_planned m name)) fresh ≡ true
    all-fresh = and-right (are_apart fresh) (list_all (λ name. not (is_planned m name)) fresh) (accepted-new stages real m command taken)

    among-fresh : (c : List ℕ) → is_among c (channels_of p) ≡ true → is_among c fresh ≡ true
    among-fresh c e = ap (is_among c) (sym (opened-channels real m.key command)) ∙ among-channels c (parts_of real m.key command) p i e

    other-part : (q : Part) → In q m.parts → own_channel q ≡ own_channel p → ⊥
    other-part q j same =
        clash (is_among (own_channel p) (parts-of.channels m.parts))
        (among-channels (own_channel p) m.parts q j (subst (λ (n : List ℕ). is_among n (channels_of q) ≡ true) same (own-among q)))
        (fresh-name m fresh (own_channel p) all-fresh (among-fresh (own_channel p) (own-among p)))

    goal-fresh : (g : Goal) → goal_in (facts_of new) (own_channel p) ≡ Some g → g.closing ≡ false
    goal-fresh g e = by (In-append_cases g m.goals (goals_of (length m.parts) command) (subst (In g) goals f.there))
      where
        f : FoundGoal new.parts new.goals (own_channel p) g
        f = goal-found new.parts new.goals (own_channel p) g e

        by : In g m.goals ⊎ In g (goals_of (length m.parts) command) → g.closing ≡ false
        by (inr j) = (new-goal real m.key (length m.parts) command g j).fresh
        by (inl j) =
            let small : g.part < length m.parts = (planned s h journal fair past front at).within g j in
            let got = get-some m.parts g.part small in
            let is : f.q ≡ got.0 =
            some-eq f.q got.0 (sym f.at ∙ (ap (λ (ps : List Part). slice_get ps g.part) parts ∙ (get-append m.parts (parts_of real m.key command) g.part small ∙ got.1))) in
            absurd (other-part got.0 (In-get m.parts g.part got.0 got.1) (ap own_channel (sym is) ∙ same_bytes (own_channel f.q) (own_channel p) f.about))

    unkept : (c : List ℕ) → is_among c (channels_of p) ≡ true → is_some (kept_of c m.kept) ≡ false
    unkept c e =
        or-left (is_some (kept_of c m.kept)) (is_among c (parts-of.channels m.parts))
        (not-true (is_planned m c) (all-at (λ name. not (is_planned m name)) fresh c all-fresh (among-fresh c e)))

    made-none : (d : Deed) → is_followed d ≡ true → (c : List ℕ) → made_in c d ≡ None
    made-none (deeds.Commanded step refusal) e c = refl
    made-none (deeds.Handled bytes refusal) e c = refl
    made-none (deeds.Signed channel state signature) e c = absurd cc
    made-none (deeds.SignedChallenge channel state who signature) e c = refl
    made-none (deeds.Called call) e c = refl
    made-none (deeds.Watched watcher calls) e c = refl

    unsigned-yet : (f : FixedParts) → In f (channels (lines_of s.key (x ∷ front))) → is_among (real.named f) (channels_of p) ≡ true → last_made (real.named f) (lines_of s.key (x ∷ front)) ≡ None
    unsigned-yet f j e =
        ap (λ (o : Option Signed). option_or o (last_made (real.named f) (lines_of s.key front))) (made-none x.deed followed (real.named f))
        ∙ unkept-unsigned s h journal fair.nodes past front at.front_is f (honest s h journal fair.nodes past (x ∷ front) then.front_is f j).1 (unkept (real.named f) e)

    no-payment : (c : List ℕ) (asset amount : ℕ) → pending (x ∷ front) ≡ Some (commands.Pay c asset amount) → ⊥
    no-payment c asset amount e =
        let by = paid-by x.deed x.command c asset amount e in
        subst (λ (d : Command). In p (parts_of real m.key d)) (some-eq command (commands.Pay c asset amount) (sym of ∙ by.command)) i

    is-new : NewPart p
    is-new = record { going = goal-fresh; unsigned = unsigned-yet; unpaid = no-payment }

  pub part-next : (p : Part) → In p new.parts → In p m.parts ⊎ NewPart p
  part-next p i = go change
    where
      go : Change stages real x.deed x.command m new → In p m.parts ⊎ NewPart p
      go (stays parts goals) = inl (subst (In p) parts i)
      go (closes lets channel taken parts goals) = inl (subst (In p) parts i)
      go (opens command followed of taken parts goals) = by (In-append_cases p m.parts (parts_of real m.key command) (subst (In p) parts i))
        where
          by : In p m.parts ⊎ In p (parts_of real m.key command) → In p m.parts ⊎ NewPart p
          by (inl j) = inl j
          by (inr j) = inr (is-new p command followed of taken parts goals j)
