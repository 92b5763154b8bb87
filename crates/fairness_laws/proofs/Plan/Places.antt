-- What is known of a node's plan at each place of its journal: the parts with their goals, and that ledgers were
-- opened before.
use Rattle.std.proofs.Common.{◌≡◌, ℕ, ◌+◌, Bool, true, false, List, [], ◌∷◌, ◌++◌, inl, inr, length, refl, sym, ◌∙◌, subst, arith}
use Rattle.std.specs.Prelude.{◌==◌, Option, Some, None, map, Result, Ok, Err}
use Rattle.channel_values.specs.Parts.{FixedParts, IsFixed}
use Rattle.channel_values.specs.declared.fault.ByteFault.{ByteFault}
use Rattle.channel_values.specs.declared.value.AssetOutcome.{AssetOutcome}
use Rattle.call_history.specs.Flows.{is_among}
use Rattle.call_history.specs.History.{Legal}
use Rattle.call_history.specs.Reading.{message_of}
use Rattle.call_history.specs.Spelling.{Message}
use Rattle.call_history.specs.declared.entry.Entry.{Entry}
use Rattle.call_history.specs.declared.event.Deed.{Deed}
use Rattle.call_history.specs.declared.event.Deed.TheVariants as deeds
use Rattle.channel_safety.proofs.Lists.{In-get}
use Rattle.call_history.proofs.Names.{same_bytes}
use Rattle.std.proofs.lemmas.Bool.{false≢true}
use Rattle.funding_plans.specs.Parts.{own_ledger, channels}
use Rattle.funding_plans.specs.declared.plan.Goal.{Goal}
use Rattle.funding_plans.specs.declared.plan.Part.{Part}
use Rattle.funding_plans.specs.declared.plan.Part.TheVariants.{Root, OnLedger, End, Middle}
use Rattle.channel_safety.proofs.Rowing.{legal-suffix}
use Rattle.channel_safety.specs.Journals.{In, opened, is_followed}
use Rattle.channel_safety.proofs.Members.{In-append_left, In-append_right, In-map}
use Rattle.network.specs.declared.command.Command.{Command}
use Rattle.network.specs.declared.command.Command.TheVariants as commands
use Rattle.channel_node.proofs.Places.{mind-event, mind-watched, mind-entry}
use Rattle.channel_node.specs.Minds.{Mind, facts_of, noted_message, with_opened, place_with, close_if, commanded, did}
use Rattle.channel_node.specs.Openings.{opened_by, adds, parts_of, goals_of}
use Rattle.channel_node.specs.Places.{Told, line_of, lines_of, mind_at, AreFew}
use Rattle.channel_node.specs.Playing.{Signing, signings, pending, Allowed, Plays}
use Rattle.channel_node.specs.Refusing.{command_refusal}
use Rattle.node_guarantees.proofs.Apart.{Apart, apart-of}
use Rattle.node_guarantees.proofs.Growing.{channels_told, Grows}
use Rattle.node_guarantees.proofs.Placing.{grows-at}
use Rattle.node_guarantees.specs.NodeShareLaws.{IsFront}
use Rattle.stage_tables.specs.Fitting.{stake, either_lends}
use Rattle.stage_tables.specs.Stages.{stages}
use Rattle.share_laws.specs.Plans.{StandsOn, ledgers_after, AllStandOn}
use Rattle.support_rules.specs.Real.{real}
use Rattle.fairness_laws.proofs.Closing.{rest-plays}
use Rattle.fairness_laws.proofs.Over.{Seen, IsKept, AtEvent, over, looked}
use Rattle.fairness_laws.proofs.Planned.{is-planned}
use Rattle.fairness_laws.proofs.Seat.Past.{occurs}
use Rattle.fairness_laws.specs.PlanSettings.{IsNodes}
use Rattle.fairness_laws.proofs.Plan.Fitting.{can-open, Tells, Added, lent, root-added, child-added, virtual-added}
use Rattle.fairness_laws.proofs.Plan.Holding.{Holds, holds, place-holds, chain-holds}
use Rattle.fairness_laws.proofs.Plan.Known.{OfLedger, Of, Paired, stays-known, stays-paired, closes-paired, opens-paired}
use Rattle.fairness_laws.proofs.Plan.Names.{in-among}
use Rattle.fairness_laws.specs.PlanBearers.{bears}

-- ---- ledgers that were opened before

abbrev all-ledgers : List (List ℕ) → List Part → List (List ℕ)
all-ledgers ledgers [] = ledgers
all-ledgers ledgers (p ∷ ps) = all-ledgers (ledgers_after ledgers p) ps

still-ledger : (l : List ℕ) (ledgers : List (List ℕ)) (p : Part) → In l ledgers → In l (ledgers_after ledgers p)
still-ledger l ledgers (Root channel) i = inr i
still-ledger l ledgers (OnLedger ledger channel) i = i
still-ledger l ledgers (End v) i = inr i
still-ledger l ledgers (Middle v) i = i

ledgers-stay : (l : List ℕ) (ledgers : List (List ℕ)) (ps : List Part) → In l ledgers → In l (all-ledgers ledgers ps)
ledgers-stay l ledgers [] i = i
ledgers-stay l ledgers (p ∷ ps) i = ledgers-stay l (ledgers_after ledgers p) ps (still-ledger l ledgers p i)

borne : (l : List ℕ) (ledgers : List (List ℕ)) (p : Part) → bears l p ≡ true → In l (ledgers_after ledgers p)
borne l ledgers (Root channel) e = inl (sym (same_bytes channel l e))
borne l ledgers (OnLedger ledger channel) e = absurd (false≢true e)
borne l ledgers (End v) e = inl (sym (same_bytes v.channel l e))
borne l ledgers (Middle v) e = absurd (false≢true e)

bearer-there : (l : List ℕ) (ledgers : List (List ℕ)) (ps : List Part) (p : Part) → In p ps → bears l p ≡ true → In l (all-ledgers ledgers ps)
bearer-there l ledgers [] p i e = absurd i
bearer-there l ledgers (q ∷ ps) p (inl same) e = ledgers-stay l (ledgers_after ledgers q) ps (subst (λ (z : Part). In l (ledgers_after ledgers z)) same (borne l ledgers p e))
bearer-there l ledgers (q ∷ ps) p (inr i) e = bearer-there l (ledgers_after ledgers q) ps p i e

stands-more : (ledgers : List (List ℕ)) (ps : List Part) (p : Part) → AllStandOn ledgers ps → StandsOn (all-ledgers ledgers ps) p → AllStandOn ledgers (ps ++ p ∷ [])
stands-more ledgers [] p all on = (on, tt)
stands-more ledgers (q ∷ ps) p all on = (all.0, stands-more (ledgers_after ledgers q) ps p all.1 on)

module _ (key : List ℕ) (fs hs : List FixedParts) (parts : List Part) where
  on-one : (first second name : List ℕ) → OfLedger fs parts first second name → is_among name (all-ledgers [] parts) ≡ true
  on-one first second name o = in-among name (all-ledgers [] parts) (bearer-there name [] parts o.bearer.part o.bearer.there o.bearer.is)

  stands-on : (p : Part) (opening : List AssetOutcome) (amounts : ℕ × ℕ) → Of key fs parts p opening amounts → StandsOn (all-ledgers [] parts) p
  stands-on (Root name) opening amounts o = tt
  stands-on (OnLedger ledger name) opening amounts o = on-one o.first o.second ledger o.on
  stands-on (End v) opening amounts o = on-one _ _ (own_ledger v) o.on
  stands-on (Middle v) opening amounts o = (on-one o.first o.middle v.ledger_a o.on_a, on-one o.middle o.second v.ledger_b o.on_b)

-- ---- the plan

pub record Knows (key : List ℕ) (fs : List FixedParts) (parts : List Part) (goals : List Goal) : Type 0 where
  pub paired : Paired key fs parts 0 parts goals
  pub stands : AllStandOn [] parts

with-channels : (key : List ℕ) (fs gs : List FixedParts) (parts : List Part) (goals : List Goal) → Knows key fs parts goals → Knows key (fs ++ gs) parts goals
with-channels key fs gs parts goals was = record {
  paired = stays-paired key fs (fs ++ gs) parts parts (λ f i. In-append_left f fs gs i) (λ p i. i) 0 parts goals was.paired;
  stands = was.stands;
}

with-closing : (lets : Bool) (key : List ℕ) (fs gs : List FixedParts) (parts : List Part) (goals : List Goal) (k : ℕ) → Knows key fs parts goals
    → Knows key (fs ++ gs) parts (map (λ goal. close_if lets (goal.part == k) goal) goals)
with-closing lets key fs gs parts goals k was = with-channels key fs gs parts (map (λ (goal : Goal). close_if lets (goal.part == k) goal) goals) (record {
  paired = closes-paired key fs parts lets k 0 parts goals was.paired;
  stands = was.stands;
})

with-added : (key : List ℕ) (fs : List FixedParts) (parts : List Part) (goals : List Goal) (command : Command) → Added key fs parts (length parts) command → Knows key fs parts goals
    → Knows key (fs ++ adds key (Some command)) (parts ++ parts_of real key command) (goals ++ goals_of (length parts) command)
with-added key fs parts goals command new was =
    subst (λ (ps : List Part). Knows key hs (parts ++ ps) (goals ++ goals_of (length parts) command)) (sym new.parts_are)
    (subst (λ (gs : List Goal). Knows key hs (parts ++ new.part ∷ []) (goals ++ gs)) (sym new.goals_are) (record {
      paired = opens-paired key hs more 0 parts goals new.part new.goal (stays-paired key fs hs parts more (λ f i. In-append_left f fs (adds key (Some command)) i) stay 0 parts goals was.paired)
          (new.place ∙ (let e : length parts ≡ 0 + length parts = omega arith in e)) (stays-known key hs hs parts more (λ f i. i) stay new.part new.goal.opening new.goal.amounts new.known);
      stands = stands-more [] parts new.part was.stands (stands-on key hs hs parts new.part new.goal.opening new.goal.amounts new.known);
    }))
  where
    hs : List FixedParts
    hs = fs ++ adds key (Some command)

    more : List Part
    more = parts ++ new.part ∷ []

    stay : (p : Part) → In p parts → In p more
    stay p i = In-append_left p parts (new.part ∷ []) i

-- ---- an event

module _ (s : Signing) (past : List Entry) (m : Mind) (mine : m.key ≡ s.key) (fs : List FixedParts)
    (on-ledger : (name first second : List ℕ) (asset : ℕ) (amounts : ℕ × ℕ) → either_lends (facts_of m) name (stake asset first second amounts) ≡ true → OfLedger fs m.parts first second name)
    (owns : (f : FixedParts) → In f fs → In s.key f.keys) (was : Knows s.key fs m.parts m.goals) where
  opening : (command : Command) → Added s.key fs m.parts (length m.parts) command → Knows s.key (fs ++ adds s.key (Some command)) (with_opened real command m).parts (with_opened real command m).goals
  opening command new =
      subst (λ (key : List ℕ). Knows s.key (fs ++ adds s.key (Some command)) (m.parts ++ parts_of real key command) (m.goals ++ goals_of (length m.parts) command)) (sym mine)
      (with-added s.key fs m.parts m.goals command new was)

  followed : (used : ℕ) (command : Command) → None ≡ command_refusal stages real s.limit used m command → ((f : FixedParts) → In f (opened_by command) → Tells s.key f)
      → ((f : FixedParts) → In f (adds s.key (Some command)) → IsFixed f)
      → Knows s.key (fs ++ adds s.key (Some command)) (commanded real command m).parts (commanded real command m).goals
  followed used (commands.Open f outcome) e tells valid =
      opening (commands.Open f outcome) (root-added s.key m mine fs on-ledger owns f outcome tells (can-open m (commands.Open f outcome) e) (length m.parts))
  followed used (commands.OpenOn o) e tells valid =
      opening (commands.OpenOn o)
      (child-added s.key m mine fs on-ledger owns o.ledger o.fixed o.asset o.amounts tells (can-open m (commands.OpenOn o) e) (length m.parts))
  followed used (commands.OpenVirtual v) e tells valid =
      opening (commands.OpenVirtual v)
      (virtual-added s.key m mine fs on-ledger owns v.route v.ledgers v.guarantors v.joint v.channel v.asset v.amounts tells valid (can-open m (commands.OpenVirtual v) e) (length m.parts))
  followed used (commands.Pay channel asset amount) e tells valid = with-channels s.key fs [] m.parts m.goals was
  followed used (commands.Close channel) e tells valid = with-closing false s.key fs [] m.parts m.goals (place_with channel m.parts) was
  followed used (commands.Release how channel) e tells valid = with-closing true s.key fs [] m.parts m.goals (place_with channel m.parts) was
  followed used (commands.Resend channel) e tells valid = with-channels s.key fs [] m.parts m.goals was
  followed used commands.Exit e tells valid = with-channels s.key fs [] m.parts m.goals was

  after : (used seen : ℕ) (waits : Option Command) (deed : Deed) (command : Option Command) → Allowed stages real s past m used waits deed command
      → (is_followed deed ≡ true → (c : Command) → command ≡ Some c → (f : FixedParts) → In f (opened_by c) → Tells s.key f)
      → ((f : FixedParts) → In f (opened (line_of s.key (record { seen = seen; deed = deed; command = command }))) → IsFixed f)
      → Knows s.key (fs ++ opened (line_of s.key (record { seen = seen; deed = deed; command = command }))) (did real deed command m).parts (did real deed command m).goals
  after used seen waits (deeds.Commanded step None) None allowed tells valid = absurd allowed.1
  after used seen waits (deeds.Commanded step None) (Some command) allowed tells valid = followed used command allowed.1 (tells refl command refl) valid
  after used seen waits (deeds.Commanded step (Some refusal)) None allowed tells valid = absurd allowed.1
  after used seen waits (deeds.Commanded step (Some refusal)) (Some command) allowed tells valid = with-channels s.key fs [] m.parts m.goals was
  after used seen waits (deeds.Handled bytes None) command allowed tells valid = go (message_of bytes)
    where
      go : (o : Result Message ByteFault) → Knows s.key (fs ++ []) (noted_message real o m).parts (noted_message real o m).goals
      go (Ok message) = with-channels s.key fs [] m.parts m.goals was
      go (Err fault) = with-channels s.key fs [] m.parts m.goals was
  after used seen waits (deeds.Handled bytes (Some refusal)) command allowed tells valid = with-channels s.key fs [] m.parts m.goals was
  after used seen waits (deeds.Signed channel state signature) command allowed tells valid = with-channels s.key fs [] m.parts m.goals was
  after used seen waits (deeds.SignedChallenge channel state who signature) command allowed tells valid = with-channels s.key fs [] m.parts m.goals was
  after used seen waits (deeds.Called call) command allowed tells valid = with-channels s.key fs [] m.parts m.goals was
  after used seen waits (deeds.Watched watcher given) command allowed tells valid = with-channels s.key fs [] m.parts m.goals was

-- ---- over the places

module _ (s : Signing) (h : List Entry) (journal : List Told) (nodes : IsNodes s h journal) where
  abbrev KnowsAt : List Entry → List Told → Type 0
  KnowsAt past front = Knows s.key (channels_told s.key front) (mind_at real s.key past front).parts (mind_at real s.key past front).goals

  no-plan : (past : List Entry) → KnowsAt past []
  no-plan [] = record { paired = tt; stands = tt }
  no-plan (e ∷ past) = no-plan past

  module _ (past : List Entry) (front : List Told) (few : AreFew past) (later : List Entry) (entries : h ≡ later ++ past) (plays : Plays stages real s h front) (before : Seen past front) where
    abbrev m : Mind
    m = mind_at real s.key past front

    pub grown-at : Grows real s.key front m
    grown-at = grows-at stages real s h front plays past later entries before

    pub legal-at : Legal real past
    legal-at = legal-suffix real later past (subst (Legal real) entries nodes.legal)

    pub apart-at : Apart (channels m.parts)
    apart-at = apart-of (channels m.parts) (is-planned stages real s h front plays later past entries before).apart

    pub holds-at : (f : FixedParts) → In f (channels_told s.key front) → Holds s.key past (lines_of s.key front) m f
    holds-at f i = holds s.key past front legal-at few grown-at f i

    pub lent-at : KnowsAt past front → (name first second : List ℕ) (asset : ℕ) (amounts : ℕ × ℕ) → either_lends (facts_of m) name (stake asset first second amounts) ≡ true
        → OfLedger (channels_told s.key front) m.parts first second name
    lent-at was =
        lent s.key past front m (channels_told s.key front) was.paired apart-at holds-at (place-holds s.key past front legal-at few grown-at) (chain-holds s.key past front legal-at few grown-at)

    pub owns-at : (f : FixedParts) → In f (channels_told s.key front) → In s.key f.keys
    owns-at f i = let o = holds-at f i in In-get f.keys o.kept.me s.key o.mine

  one-event : (past : List Entry) (x : Told) (front : List Told) → AtEvent stages real s h journal past x front → KnowsAt past front → KnowsAt past (x ∷ front)
  one-event past x front at was =
      subst (λ (n : Mind). Knows s.key (channels_told s.key (x ∷ front)) n.parts n.goals) (sym (mind-event real s.key past x front at.len))
      (after s past (mind_at real s.key past front) (grown-at past front few at.later at.entries at.plays at.before).mine (channels_told s.key front)
      (lent-at past front few at.later at.entries at.plays at.before was) (owns-at past front few at.later at.entries at.plays at.before) was
      (signings front) x.seen (pending front) x.deed x.command place.1 (λ taken c is f i. nodes.people x c f there taken is i)
      (λ f i. nodes.valid.fixed f (inr (line_of s.key x, In-map (line_of s.key) x journal there, i))))
    where
      place : AreFew past × Allowed stages real s past (mind_at real s.key past front) (signings front) (pending front) x.deed x.command
      place = at.event.place at.later past at.entries at.len

      few : AreFew past
      few = place.0

      there : In x journal
      there = subst (In x) (sym at.events) (In-append_right x at.newer (x ∷ front) (inl refl))

  plan-is-kept : IsKept stages real s h journal KnowsAt
  plan-is-kept = record {
    first = no-plan;
    event = one-event;
    look = λ past x front w was.
        subst (λ (n : Mind). Knows s.key (channels_told s.key (x ∷ front)) n.parts n.goals) (sym (mind-watched real s.key past x front (looked real x.deed x.command w)))
        (with-channels s.key (channels_told s.key front) (opened (line_of s.key x)) (mind_at real s.key past front).parts (mind_at real s.key past front).goals was);
    entry = λ past e front seen was. subst (λ (n : Mind). Knows s.key (channels_told s.key front) n.parts n.goals) (sym (mind-entry real s.key past e front seen)) was;
  }

  -- ---- a place

  module _ (past : List Entry) (front : List Told) (at : IsFront h journal past front) where
    pub plays-there : Plays stages real s h front
    plays-there = rest-plays s h at.newer front (subst (Plays stages real s h) at.events nodes.plays)

    -- what each event and each entry keeps holds there
    pub kept-there : (P : List Entry → List Told → Type 0) → IsKept stages real s h journal P → P past front
    kept-there P kept = over stages real s h journal P kept at.newer front at.events plays-there at.later past at.entries at.before

    pub knows-there : KnowsAt past front
    knows-there = kept-there KnowsAt plan-is-kept

    pub legal-there : Legal real past
    legal-there = legal-at past front at.few at.later at.entries plays-there at.before

    pub grown-there : Grows real s.key front (mind_at real s.key past front)
    grown-there = grown-at past front at.few at.later at.entries plays-there at.before

    pub apart-there : Apart (channels (mind_at real s.key past front).parts)
    apart-there = apart-at past front at.few at.later at.entries plays-there at.before

    pub fixed-there : (f : FixedParts) → In f (channels_told s.key front) → IsFixed f
    fixed-there f i = nodes.valid.fixed f (occurs s h journal nodes past front at f i)
