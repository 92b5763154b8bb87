-- Where the part whose channel a ledger is closes each part on it closes and is over there: what each event and entry
-- makes of that.
use Rattle.std.proofs.Common.{◌≡◌, ℕ, Bool, true, false, cond, ◌&&◌, ◌||◌, not, ◌⊎◌, inl, inr, List, [], ◌∷◌, ◌++◌, length, refl, sym, ◌∙◌, ap, subst}
use Rattle.std.specs.Str.{bytes_eq}
use Rattle.std.specs.Prelude.{◌==◌, nat_lt, Option, Some, None, map}
use Rattle.std.specs.List.{list_any, slice_get}
use Rattle.channel_values.specs.Parts.{StateParts}
use Rattle.channel_safety.proofs.Lists.{In-append_cases}
use Rattle.channel_safety.proofs.Tests.{some-eq, eqb-true, clash, and-left, and-right}
use Rattle.call_history.proofs.Names.{same_bytes}
use Rattle.call_history.specs.Flows.{is_among}
use Rattle.call_history.specs.declared.entry.Entry.{Entry}
use Rattle.call_history.specs.declared.event.Deed.{Deed}
use Rattle.call_history.specs.declared.event.Deed.TheVariants as deeds
use Rattle.call_history.specs.declared.event.NodeRefusal.TheVariants.{NotWanted}
use Rattle.funding_plans.specs.Known.{FactsOf}
use Rattle.funding_plans.specs.Parts.{own_channel, channels_of, ledgers_of, running, closed as closed-stage}
use Rattle.funding_plans.specs.declared.plan.Goal.{Goal}
use Rattle.funding_plans.specs.declared.plan.Part.{Part}
use Rattle.funding_plans.specs.declared.plan.Part.TheVariants as kinds
use Rattle.funding_plans.specs.declared.plan.Virtual.{Virtual}
use Rattle.ledger_channel.specs.OnLedgers.{Funded, on_ledger_rows}
use Rattle.ledger_channel.specs.Roots.{Direct, root_rows}
use Rattle.ledger_channel.specs.Stages.{stage_on_ledger, stage_of_root}
use Rattle.channel_safety.specs.Journals.{In, is_followed}
use Rattle.network.specs.declared.command.Command.{Command}
use Rattle.network.specs.declared.command.Command.TheVariants as commands
use Rattle.channel_node.proofs.Allowing.{holds_not}
use Rattle.channel_node.proofs.Bridging.{plays-at}
use Rattle.channel_node.proofs.Places.{mind-event}
use Rattle.channel_node.specs.Minds.{Mind, facts_of, place_with, close_if}
use Rattle.channel_node.specs.Openings.{takes_part, virtual, parts_of, goals_of}
use Rattle.channel_node.specs.Places.{Told, mind_at}
use Rattle.channel_node.specs.Playing.{Signing, Plays, pending, signings, Allowed}
use Rattle.channel_node.specs.Refusing.{open_refusal, standing_part, part_with}
use Rattle.stage_tables.specs.Fitting.{stake, runs_at_end, is_running_end, lends_virtual, either_lends}
use Rattle.stage_tables.specs.Ledgers.{is_root_of, is_running_root, is_between, affords_in, lends}
use Rattle.stage_tables.specs.declared.stake.Stake.{Stake}
use Rattle.stage_tables.specs.Stages.{stages}
use Rattle.funding_plans.specs.Gathered.{goal_in, place_in, chain_in}
use Rattle.funding_plans.specs.Rows.{stage_in}
use Rattle.channel_store.proofs.Places.{found_at_place}
use Rattle.support_rules.specs.Real.{real}
use Rattle.support_rules.specs.Steps.{persons}
use Rattle.virtual_channel.specs.Ends.{End, end_rows}
use Rattle.virtual_channel.specs.Middles.{Middle, middle_rows}
use Rattle.virtual_channel.specs.Stages.{stage_of_end, stage_of_middle}
use Rattle.fairness_laws.proofs.Closing.{FoundGoal, goal-found}
use Rattle.fairness_laws.proofs.Planned.{Change, stays, opens, closes, event-changes, IsShut as Shut}
use Rattle.fairness_laws.specs.JointKeeping.{EndsKeep, MiddlesKeep}
use Rattle.fairness_laws.specs.LedgerLending.{Lent, lent}
use Rattle.fairness_laws.specs.LedgerPlaces.{own_at, parts_at, lends_at, KeepAt, StepAt}
use Rattle.fairness_laws.specs.PaymentLaws.{At, ActsNext}
use Rattle.fairness_laws.specs.PlanLaws.{PartAt, PartsAreKnown, PlansAreWhole}
use Rattle.fairness_laws.specs.PlanSettings.{IsFair}
use Rattle.fairness_laws.proofs.Ledger.Closing.{not-pending}
use Rattle.fairness_laws.proofs.Accepted.{closed, let-go}
use Rattle.fairness_laws.proofs.Plan.Goals.{goal-stays, goal-opens, goal-closes}
use Rattle.fairness_laws.proofs.EventPlaces.{at-before, at-after}
use Rattle.fairness_laws.proofs.Ledger.Lent.{by-kind, lent-again}
use Rattle.fairness_laws.proofs.Ledger.Opening.{Between, between, fits-it, first-lends, second-lends, end-lends, at-end, at-middle}
use Rattle.fairness_laws.proofs.Ledger.Plans.{bearer-there}
use Rattle.fairness_laws.proofs.Stages.{root-runs, end-runs, child-closed, end-closed, middle-closed}
use Rattle.fairness_laws.proofs.Ledger.Shut.{IsShut, steps-shut}
use Rattle.fairness_laws.proofs.Plan.Bearers.{Bearer, bears-own}
use Rattle.fairness_laws.proofs.Plan.ByRoute.{true-left}
use Rattle.fairness_laws.proofs.Plan.Names.{Passing, any-in, in-among}
use Rattle.fairness_laws.specs.PlanBearers.{bears}
use Rattle.fairness_laws.proofs.Plan.Places.{grown-there}
use Rattle.stage_tables.specs.Asked.{is_closing, is_unfinished_at, is_unfinished}

-- where the part whose channel a ledger is closes each part on it closes and isn't pending on any ledger
abbrev pub ShutIn : Mind → (own : List ℕ → Option StateParts) → Type 0
ShutIn m own =
    (r l : List ℕ) (p : Part) (k : Lent) (g : Goal) → In p m.parts → In r (ledgers_of p) → lent (facts_of m) l p ≡ Some k → goal_in (facts_of m) r ≡ Some g → g.closing ≡ true → IsShut k (own l)

abbrev pub ShutAt : Signing → (journal : List Told) → List Entry → List Told → Type 0
ShutAt s journal past front = ShutIn (mind_at real s.key past front) (own_at s.key journal front)

-- a ledger that lends something
record Lender (f : FactsOf) (l : List ℕ) : Type 0 where
  asset : ℕ
  first : List ℕ
  second : List ℕ
  amounts : ℕ × ℕ
  lends_them : either_lends f l (stake asset first second amounts) ≡ true

unless : (a b : Bool) → (a && not b) ≡ false → a ≡ true → b ≡ true
unless true true e t = refl
unless true false e t = absurd (clash true refl e)
unless false b e t = absurd (clash false t refl)

a-command : (d : Deed) → is_followed d ≡ true → (step : ℕ) × (d ≡ deeds.Commanded step None)
a-command (deeds.Commanded step None) e = (step, refl)
a-command (deeds.Commanded step (Some refusal)) e = absurd cc
a-command (deeds.Handled bytes refusal) e = absurd cc
a-command (deeds.Signed channel state signature) e = absurd cc
a-command (deeds.SignedChallenge channel state who signature) e = absurd cc
a-command (deeds.Called call) e = absurd cc
a-command (deeds.Watched watcher calls) e = absurd cc

module _ (s : Signing) (h : List Entry) (journal : List Told) (fair : IsFair s h journal) (known : PartsAreKnown) (whole : PlansAreWhole) (ends : EndsKeep) (middles : MiddlesKeep) where
  -- ---- from one place to the next

  module _ (past : List Entry) (front : List Told) (at : At s h journal past front) (after : List Entry) (longer : List Told) (then : At s h journal after longer)
      (keeps : KeepAt s journal past front) (step : StepAt s journal past after front longer) where
    abbrev m : Mind
    m = mind_at real s.key past front

    abbrev new : Mind
    new = mind_at real s.key after longer

    carries : (l : List ℕ) (p : Part) (j : Lent) → In p m.parts → In p new.parts → lends_at s after longer l p ≡ Some j
        → ((k : Lent) → lends_at s past front l p ≡ Some k → IsShut k (own_at s.key journal front l)) → IsShut j (own_at s.key journal longer l)
    carries l p j i n isj shut =
        let w = lent-again s after longer past front p (known s h journal after longer fair.nodes then.front_is p n) (known s h journal past front fair.nodes at.front_is p i) l j isj in
        steps-shut m.parts (lends_at s past front) (own_at s.key journal front) new.parts (lends_at s after longer) (own_at s.key journal longer) keeps step l p w.0 j i w.1 isj (shut w.0 w.1)

    -- where nothing is opened or closed
    pub same-plan : new.parts ≡ m.parts → new.goals ≡ m.goals → ShutAt s journal past front → ShutAt s journal after longer
    same-plan parts goals was r l p j g n on isj found closing =
        let i : In p m.parts = subst (In p) parts n in
        carries l p j i n isj (λ k isk. was r l p k g i on isk (sym (goal-stays m new r parts goals) ∙ found) closing)

  -- ---- what is closed isn't unfinished

  closed-over : (f : FactsOf) (p : Part) → (stages.stage f p == closed-stage p) ≡ true → is_unfinished f p ≡ false
  closed-over f p e = go (is_closing (goal_in f (own_channel p)))
    where
      late : (p : Part) → nat_lt (closed-stage p) (running p) ≡ false
      late (kinds.Root c) = refl
      late (kinds.OnLedger l c) = refl
      late (kinds.End v) = refl
      late (kinds.Middle v) = refl

      go : (b : Bool) → is_unfinished_at p b (stages.stage f p) ≡ false
      go true = ap not e
      go false = subst (λ (n : ℕ). nat_lt n (running p) ≡ false) (sym (eqb-true (stages.stage f p) (closed-stage p) e)) (late p)

  -- ---- on whose channel parts stand

  module _ (past : List Entry) (front : List Told) (at : At s h journal past front) where
    abbrev F : FactsOf
    F = facts_of (mind_at real s.key past front)

    part-at : (p : Part) → In p (parts_at s past front) → PartAt s past front p
    part-at p i = known s h journal past front fair.nodes at.front_is p i

    -- the goal of that part
    bearer-goal : (l : List ℕ) (b : Bearer (parts_at s past front) l) → goal_in F l ≡ Some (part-at b.part b.there).goal
    bearer-goal l b = subst (λ (n : List ℕ). goal_in F n ≡ Some (part-at b.part b.there).goal) (bears-own l b.part b.is) (part-at b.part b.there).found

    -- what a part stands on
    bearer-at : (l : List ℕ) (p : Part) → In p (parts_at s past front) → In l (ledgers_of p) → Bearer (parts_at s past front) l
    bearer-at l p i on = bearer-there s h journal fair whole past front at.front_is p i l on

    -- a part that is closed closes
    closed-closes : (p : Part) → In p (parts_at s past front) → (l : List ℕ) (k : Lent) → lends_at s past front l p ≡ Some k → (stages.stage F p == closed-stage p) ≡ true → k.closing ≡ true
    closed-closes p i l k is =
        by-kind s past front (λ (l : List ℕ) (p : Part) (k : Lent). (stages.stage F p == closed-stage p) ≡ true → k.closing ≡ true) p (known s h journal past front fair.nodes at.front_is p i)
        (λ l c g o same found e.
        child-closed o.funded (eqb-true (stage_in (on_ledger_rows o.funded)) 6 (ap (λ (z : Option Funded). stage_on_ledger z == 6) (sym o.is) ∙ e)))
        (λ v g y same found e. end-closed y.end (eqb-true (stage_in (end_rows y.end)) 9 (ap (λ (z : Option End). stage_of_end z == 9) (sym y.is) ∙ e)))
        (λ v g y same found e. middle-closed y.middle (eqb-true (stage_in (middle_rows y.middle)) 9 (ap (λ (z : Option Middle). stage_of_middle z == 9) (sym y.is) ∙ e)))
        (λ v g y same found differ e. middle-closed y.middle (eqb-true (stage_in (middle_rows y.middle)) 9 (ap (λ (z : Option Middle). stage_of_middle z == 9) (sym y.is) ∙ e))) l k is

    -- what runs isn't closing
    runs-open : (l : List ℕ) (p : Part) → bears l p ≡ true → (a : PartAt s past front p) → (stages.stage F p == running p) ≡ true → a.goal.closing ≡ false
    runs-open l (kinds.Root c) e a runs =
        sym a.is.closing ∙ root-runs a.is.direct (eqb-true (stage_in (root_rows a.is.direct)) 3 (ap (λ (z : Option Direct). stage_of_root z == 3) (sym a.is.is) ∙ runs))
    runs-open l (kinds.End v) e a runs =
        sym a.is.closing ∙ (end-runs a.is.end (eqb-true (stage_in (end_rows a.is.end)) 5 (ap (λ (z : Option End). stage_of_end z == 5) (sym a.is.is) ∙ runs))).going
    runs-open l (kinds.OnLedger m c) e a runs = absurd (clash false e refl)
    runs-open l (kinds.Middle v) e a runs = absurd (clash false e refl)

    -- a part that runs on whose channel others may stand
    record Runner (l : List ℕ) : Type 0 where
      bearer : Bearer (parts_at s past front) l
      runs : (stages.stage F bearer.part == running bearer.part) ≡ true

    -- what lends is such a part's
    lender-runs : (l : List ℕ) → Lender F l → Runner l
    lender-runs l d = go (lends F l k) refl d.lends_them
      where
        k : Stake
        k = stake d.asset d.first d.second d.amounts

        between : Bool
        between = is_between k (place_in l F.places)

        affords : Bool
        affords = affords_in k (chain_in l F.chains)

        of-root : is_running_root F l ≡ true → Runner l
        of-root runs = by some.item some.there some.passes
          where
            some : Passing (is_root_of l) (parts_at s past front)
            some = any-in (is_root_of l) (parts_at s past front) (and-left (list_any (is_root_of l) (parts_at s past front)) (stages.stage F (kinds.Root l) == 3) runs)

            by : (p : Part) → In p (parts_at s past front) → is_root_of l p ≡ true → Runner l
            by (kinds.Root c) i e =
                let same : c ≡ l = same_bytes c l e in
                record {
                  bearer = record { part = kinds.Root c; there = i; is = e };
                  runs = subst (λ (n : List ℕ). (stages.stage F (kinds.Root n) == 3) ≡ true) (sym same)
                      (and-right (list_any (is_root_of l) (parts_at s past front)) (stages.stage F (kinds.Root l) == 3) runs);
                }
            by (kinds.OnLedger m c) i e = absurd (clash false e refl)
            by (kinds.End v) i e = absurd (clash false e refl)
            by (kinds.Middle v) i e = absurd (clash false e refl)

        of-end : is_running_end F l ≡ true → Runner l
        of-end runs = by some.item some.there some.passes
          where
            some : Passing (runs_at_end F l) (parts_at s past front)
            some = any-in (runs_at_end F l) (parts_at s past front) runs

            by : (p : Part) → In p (parts_at s past front) → runs_at_end F l p ≡ true → Runner l
            by (kinds.End v) i e = record {
              bearer = record { part = kinds.End v; there = i; is = and-left (bytes_eq v.channel l) (stages.stage F (kinds.End v) == 5) e };
              runs = and-right (bytes_eq v.channel l) (stages.stage F (kinds.End v) == 5) e;
            }
            by (kinds.Root c) i e = absurd (clash false e refl)
            by (kinds.OnLedger m c) i e = absurd (clash false e refl)
            by (kinds.Middle v) i e = absurd (clash false e refl)

        go : (b : Bool) → lends F l k ≡ b → (b || lends_virtual F l k) ≡ true → Runner l
        go true is h = of-root (and-left (is_running_root F l) between (and-left (is_running_root F l && between) affords is))
        go false is h = of-end (and-left (is_running_end F l) between (and-left (is_running_end F l && between) affords h))

    lender-open : (l : List ℕ) (d : Lender F l) → (part-at (lender-runs l d).bearer.part (lender-runs l d).bearer.there).goal.closing ≡ false
    lender-open l d =
        let r = lender-runs l d in
        runs-open l r.bearer.part r.bearer.is (part-at r.bearer.part r.bearer.there) r.runs

  -- ---- an event

  module _ (past : List Entry) (x : Told) (front : List Told) (next : ActsNext s h journal past x front) (keeps : KeepAt s journal past front) (step : StepAt s journal past past front (x ∷ front)) where
    abbrev M : Mind
    M = mind_at real s.key past front

    abbrev N : Mind
    N = mind_at real s.key past (x ∷ front)

    abbrev G : FactsOf
    G = facts_of M

    here : At s h journal past front
    here = at-before s h journal fair past x front next

    there : At s h journal past (x ∷ front)
    there = at-after s h journal fair past x front next

    -- the ledgers of what a command opens lend it something
    module _ (number : ℕ) (deed-is : x.deed ≡ deeds.Commanded number None) where
      lenders : (command : Command) → x.command ≡ Some command → None ≡ open_refusal stages real M command → (p : Part) (l : List ℕ) → In p (parts_of real s.key command) → In l (ledgers_of p) → Lender G l
      lenders (commands.Pay channel asset amount) is taken p l i on = absurd i
      lenders (commands.Close channel) is taken p l i on = absurd i
      lenders (commands.Release how channel) is taken p l i on = absurd i
      lenders (commands.Resend channel) is taken p l i on = absurd i
      lenders commands.Exit is taken p l i on = absurd i
      lenders (commands.Open fixed outcome) is taken p l (inr n) on = absurd n
      lenders (commands.Open fixed outcome) is taken p l (inl e) on = absurd (subst (λ (q : Part). In l (ledgers_of q)) e on)
      lenders (commands.OpenOn o) is taken p l (inr n) on = absurd n
      lenders (commands.OpenOn o) is taken p l (inl e) on = by (subst (λ (q : Part). In l (ledgers_of q)) e on)
        where
          b : Between G o.ledger o.asset o.amounts (persons o.fixed)
          b = between G o.ledger o.asset o.amounts (persons o.fixed) (fits-it s h journal fair known ends middles past x front next keeps number deed-is o.ledger o.fixed o.asset o.amounts is taken)

          by : In l (o.ledger ∷ []) → Lender G l
          by (inr n) = absurd n
          by (inl same) = subst (Lender G) (sym same) (record { asset = o.asset; first = b.first; second = b.second; amounts = o.amounts; lends_them = true-left (lends G o.ledger (stake o.asset b.first b.second o.amounts)) (lends_virtual G o.ledger (stake o.asset b.first b.second o.amounts)) b.lends_them })
      lenders (commands.OpenVirtual funding) is taken p l i on = go (takes_part s.key funding.channel) refl i
        where
          v : Virtual
          v = virtual real s.key funding.ledgers funding.guarantors funding.joint funding.channel funding.asset funding.amounts

          end : (takes : takes_part s.key funding.channel ≡ true) → PartAt s past (x ∷ front) (kinds.End v) → In l (ledgers_of (kinds.End v)) → Lender G l
          end takes a (inr n) = absurd n
          end takes a (inl same) =
              subst (Lender G) (sym same) (record {
                asset = funding.asset;
                first = cond v.side_b a.is.end.terms.middle a.is.end.terms.first;
                second = cond v.side_b a.is.end.terms.second a.is.end.terms.middle;
                amounts = funding.amounts;
                lends_them =
                    end-lends s h journal fair known ends middles past x front next keeps number deed-is funding.route funding.ledgers funding.guarantors funding.joint funding.channel funding.asset funding.amounts is taken
                    a.goal a.is.end.terms a.is.end.joint a.is.joint v.side_b a.is.me;
              })

          middle : (passes : takes_part s.key funding.channel ≡ false) → PartAt s past (x ∷ front) (kinds.Middle v) → In l (ledgers_of (kinds.Middle v)) → Lender G l
          middle passes a (inr (inr n)) = absurd n
          middle passes a (inl same) =
              subst (Lender G) (sym same) (record {
                asset = funding.asset;
                first = a.is.middle.terms.first;
                second = a.is.middle.terms.middle;
                amounts = funding.amounts;
                lends_them =
                    first-lends s h journal fair known ends middles past x front next keeps number deed-is funding.route funding.ledgers funding.guarantors funding.joint funding.channel funding.asset funding.amounts is taken
                    a.goal a.is.middle.terms a.is.middle.joint a.is.joint (inr (inl (sym a.is.me)));
              })
          middle passes a (inr (inl same)) =
              subst (Lender G) (sym same) (record {
                asset = funding.asset;
                first = a.is.middle.terms.middle;
                second = a.is.middle.terms.second;
                amounts = funding.amounts;
                lends_them =
                    second-lends s h journal fair known ends middles past x front next keeps number deed-is funding.route funding.ledgers funding.guarantors funding.joint funding.channel funding.asset funding.amounts is taken
                    a.goal a.is.middle.terms a.is.middle.joint a.is.joint (inl (sym a.is.me));
              })

          go : (b : Bool) → takes_part s.key funding.channel ≡ b → In p (cond b (kinds.End v ∷ []) (kinds.Middle v ∷ [])) → Lender G l
          go true takes (inr n) = absurd n
          go true takes (inl e) =
              end takes (at-end s h journal fair known ends middles past x front next keeps number deed-is funding.route funding.ledgers funding.guarantors funding.joint funding.channel funding.asset funding.amounts is taken takes)
              (subst (λ (q : Part). In l (ledgers_of q)) e on)
          go false passes (inr n) = absurd n
          go false passes (inl e) =
              middle passes (at-middle s h journal fair known ends middles past x front next keeps number deed-is funding.route funding.ledgers funding.guarantors funding.joint funding.channel funding.asset funding.amounts is taken passes)
              (subst (λ (q : Part). In l (ledgers_of q)) e on)

    -- what a command opens stands on what doesn't close
    opened-shut : (command : Command) → is_followed x.deed ≡ true → x.command ≡ Some command → None ≡ open_refusal stages real M command → N.parts ≡ M.parts ++ parts_of real M.key command
        → N.goals ≡ M.goals ++ goals_of (length M.parts) command → ShutAt s journal past front → ShutAt s journal past (x ∷ front)
    opened-shut command followed is taken parts goals was r l p j g n on isj found closing = by (In-append_cases p M.parts (parts_of real M.key command) (subst (In p) parts n))
      where
        -- the goal of what it stands on is what it was
        as-before : (b : Bearer M.parts r) → g ≡ (part-at past front here b.part b.there).goal
        as-before b =
            some-eq g (part-at past front here b.part b.there).goal
            (sym found ∙ goal-opens M N r (parts_of real M.key command) (goals_of (length M.parts) command) parts goals (part-at past front here b.part b.there).goal (bearer-goal past front here r b))

        by : In p M.parts ⊎ In p (parts_of real M.key command) → IsShut j (own_at s.key journal (x ∷ front) l)
        by (inl i) = carries past front here past (x ∷ front) there keeps step l p j i n isj (λ k isk.
            let b = bearer-at past front here r p i on in
            was r l p k (part-at past front here b.part b.there).goal i on isk (bearer-goal past front here r b) (ap (λ (z : Goal). z.closing) (sym (as-before b)) ∙ closing))
        by (inr i) =
            let c = a-command x.deed followed in
            let mine : M.key ≡ s.key = (grown-there s h journal fair.nodes past front next.place).mine in
            let d = lenders c.0 c.1 command is taken p r (subst (λ (key : List ℕ). In p (parts_of real key command)) mine i) on in
            absurd (clash g.closing closing (ap (λ (z : Goal). z.closing) (as-before (lender-runs past front here r d).bearer) ∙ lender-open past front here r d))

    -- what is closed, or what the node lets go of
    record Shuts (channel : List ℕ) : Type 0 where
      part : Part
      found : part_with channel M.parts ≡ Some part
      standing : (p : Part) → In p M.parts → standing_part stages G (own_channel part) p ≡ None

    shuts : (lets : Bool) (channel : List ℕ) → Shut lets stages M (part_with channel M.parts) → Shuts channel
    shuts false channel taken = let c = closed M channel taken in record { part = c.part; found = c.found; standing = c.standing }
    shuts true channel taken = let c = let-go M channel taken.0 taken.1 in record { part = c.part; found = c.found; standing = c.standing }

    module _ (lets : Bool) (channel : List ℕ) (taken : Shut lets stages M (part_with channel M.parts)) where
      abbrev c : Shuts channel
      c = shuts lets channel taken

      -- the part that it closes is this channel's own
      closes-own : (l : List ℕ) (g : Goal) → goal_in G l ≡ Some g → (g.part == place_with channel M.parts) ≡ true → own_channel c.part ≡ l
      closes-own l g found e = ap own_channel (sym same-part) ∙ same_bytes (own_channel f.q) l f.about
        where
          f : FoundGoal M.parts M.goals l g
          f = goal-found M.parts M.goals l g found

          same-part : f.q ≡ c.part
          same-part =
              some-eq f.q c.part (sym f.at ∙ (ap (slice_get M.parts) (eqb-true g.part (place_with channel M.parts) e)
              ∙ (found_at_place (λ (part : Part). is_among channel (channels_of part)) M.parts ∙ c.found)))

      -- each part on it is closed, and none is pending
      closes-shut : (p : Part) (l : List ℕ) (k : Lent) → In p M.parts → In (own_channel c.part) (ledgers_of p) → lends_at s past front l p ≡ Some k → IsShut k (own_at s.key journal front l)
      closes-shut p l k i on isk = record {
        closing = closing;
        idle = λ last e pending. not-pending s h journal fair known ends middles past x front next p i over
            (record { ledger = l; lent = k; is = isk; last = last; signed = e; pending = pending });
      }
        where
          at-end : (stages.stage G p == closed-stage p) ≡ true
          at-end =
              unless (is_among (own_channel c.part) (ledgers_of p)) (stages.stage G p == closed-stage p)
              (holds_not (is_among (own_channel c.part) (ledgers_of p) && not (stages.stage G p == closed-stage p)) (NotWanted (stages.stage G p)) (c.standing p i))
              (in-among (own_channel c.part) (ledgers_of p) on)

          closing : k.closing ≡ true
          closing = closed-closes past front here p i l k isk at-end

          -- what closes and is closed isn't unfinished
          over : is_unfinished G p ≡ false
          over = closed-over G p at-end

      closed-shut : N.parts ≡ M.parts → N.goals ≡ map (λ goal. close_if lets (goal.part == place_with channel M.parts) goal) M.goals → ShutAt s journal past front → ShutAt s journal past (x ∷ front)
      closed-shut parts goals was r l p j g n on isj found closing = carries past front here past (x ∷ front) there keeps step l p j i n isj shut
        where
          i : In p M.parts
          i = subst (In p) parts n

          shut : (k : Lent) → lends_at s past front l p ≡ Some k → IsShut k (own_at s.key journal front l)
          shut k isk = go (a.goal.part == place_with channel M.parts) refl
            where
              b : Bearer M.parts r
              b = bearer-at past front here r p i on

              a : PartAt s past front b.part
              a = part-at past front here b.part b.there

              there-is : goal_in G r ≡ Some a.goal
              there-is = bearer-goal past front here r b

              now : g ≡ close_if lets (a.goal.part == place_with channel M.parts) a.goal
              now = some-eq g (close_if lets (a.goal.part == place_with channel M.parts) a.goal) (sym found ∙ goal-closes lets M N r (place_with channel M.parts) parts goals a.goal there-is)

              go : (t : Bool) → (a.goal.part == place_with channel M.parts) ≡ t → IsShut k (own_at s.key journal front l)
              go true e =
                  let same : own_channel c.part ≡ r = closes-own r a.goal there-is e in
                  closes-shut p l k i (subst (λ (z : List ℕ). In z (ledgers_of p)) (sym same) on) isk
              go false e =
                  was r l p k a.goal i on isk there-is (ap (λ (z : Goal). z.closing) (sym (now ∙ ap (λ (t : Bool). close_if lets t a.goal) e)) ∙ closing)

    pub event-shut : ShutAt s journal past front → ShutAt s journal past (x ∷ front)
    event-shut was = go change
      where
        allowed : Allowed stages real s past M (signings front) (pending front) x.deed x.command
        allowed =
            ((plays-at stages real s h next.then.newer x front (subst (Plays stages real s h) next.then.events fair.nodes.plays)).place next.place.later past next.place.entries next.len).1

        change : Change stages real x.deed x.command M N
        change =
            subst (Change stages real x.deed x.command M) (sym (mind-event real s.key past x front next.len))
            (event-changes stages real s past (signings front) (pending front) x.deed x.command M allowed)

        go : Change stages real x.deed x.command M N → ShutAt s journal past (x ∷ front)
        go (stays parts goals) = same-plan past front here past (x ∷ front) there keeps step parts goals was
        go (opens command followed is taken parts goals) = opened-shut command followed is taken parts goals was
        go (closes lets channel taken parts goals) = closed-shut lets channel taken parts goals was
