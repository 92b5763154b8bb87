-- What is noted in the first round of a root repeats the outcome of its command.
use Rattle.std.proofs.Common.{◌≡◌, ℕ, suc, ◌+◌, ◌*◌, ◌-◌, ◌<◌, ◌≤◌, Bool, true, false, cond, ◌&&◌, ◌||◌, not, ◌⊎◌, List, [], ◌∷◌, inl, inr, refl, sym, ◌∙◌, ap, subst, arith}
use Rattle.std.specs.Prelude.{◌==◌, nat_lt, Option, Some, None}
use Rattle.channel_values.specs.Parts.{FixedParts, StateParts}
use Rattle.channel_values.specs.declared.value.AssetOutcome.{AssetOutcome}
use Rattle.call_history.specs.Mode.{is_final}
use Rattle.channel_values.specs.Rules.{people}
use Rattle.call_history.proofs.Names.{bytes_eq_self}
use Rattle.channel_store.specs.Keeping.{next_of}
use Rattle.channel_store.specs.Storing.{kept_of}
use Rattle.channel_store.specs.declared.kept.Kept.{Kept}
use Rattle.funding_plans.specs.declared.plan.Goal.{Goal}
use Rattle.funding_plans.specs.declared.plan.Part.TheVariants.{Root, End, Middle}
use Rattle.support_rules.specs.Real.{real}
use Rattle.channel_safety.specs.Journals.{In}
use Rattle.network.specs.declared.command.Command.{Command}
use Rattle.network.specs.declared.command.Command.TheVariants as commands
use Rattle.network.specs.declared.command.Command.TheVariants.{Open}
use Rattle.call_history.specs.Flows.{is_among}
use Rattle.call_history.specs.History.{Legal}
use Rattle.call_history.specs.declared.entry.Entry.{Entry}
use Rattle.funding_plans.specs.declared.plan.Part.{Part}
use Rattle.funding_plans.specs.declared.plan.Virtual.{Virtual}
use Rattle.channel_node.specs.Places.{Told, lines_of, mind_at}
use Rattle.channel_node.specs.Playing.{Signing, Plays}
use Rattle.channel_safety.proofs.Lists.{In-get}
use Rattle.funding_plans.specs.Gathered as gathered
use Rattle.funding_plans.specs.Rows.{stage_in}
use Rattle.funding_plans.specs.Seats.{Seat, holds, is_set_up}
use Rattle.ledger_channel.specs.Roots.{Direct, is_funded, is_any_due, root_rows}
use Rattle.ledger_channel.specs.Roots as direct
use Rattle.ledger_channel.specs.Stages.{direct_with, direct_of, direct_in, stage_of_root, wanted_of_root, taken_of_root}
use Rattle.stage_tables.specs.Asked.{is_closing, wanted_of, takes_of}
use Rattle.channel_node.specs.Minds.{Mind, facts_of}
use Rattle.channel_node.specs.Openings.{opened_by, takes_part, virtual, parts_of, goal_with}
use Rattle.fairness_laws.specs.Table.{stages}
use Rattle.channel_safety.proofs.Tests.{some-eq, none-eq, lt-false, clash}
use Rattle.fairness_laws.specs.Roots.{is_repeated}
use Rattle.fairness_laws.specs.Carried.{OpensWith}
use Rattle.fairness_laws.specs.Opens.{Took, RootsOpenWith}
use Rattle.fairness_laws.specs.Places.{RootPlace}
use Rattle.fairness_laws.proofs.Finding.{asked-there}
use Rattle.fairness_laws.proofs.Planned.{is-planned, opened-channels, own-among, among-channels, root-is}
use Rattle.fairness_laws.proofs.Closing.{root-runs, FoundGoal, goal-found, rest-plays}
use Rattle.fairness_laws.proofs.Commanded.{HasName, name-in, took-later, IsGoalOf, GoalOf, one-command, goals-of}
use Rattle.fairness_laws.proofs.FirstRounds.{IsPlace, Starts, Opener, opener, opens-with}
use Rattle.fairness_laws.proofs.Openings.{open_as_commanded}

-- a root of which Close wasn't commanded is in none of the closing stages
none-below : (n : ℕ) → n < 3 → nat_lt n 3 ≡ false → ⊥
none-below n l e = let h : 3 ≤ n = lt-false n 3 e in absurd (omega arith)

at-three : (l0 l1 l2 closing : Bool) (n : ℕ) → closing ≡ false → nat_lt (cond l0 (suc (cond l1 (suc (cond l2 (suc (cond closing (suc n) 0)) 0)) 0)) 0) 3 ≡ false
    → (cond l0 (suc (cond l1 (suc (cond l2 (suc (cond closing (suc n) 0)) 0)) 0)) 0 == 3) ≡ true
at-three l0 l1 l2 true n c e = absurd (clash true refl c)
at-three false l1 l2 false n c e = absurd (none-below 0 (omega arith) e)
at-three true false l2 false n c e = absurd (none-below 1 (omega arith) e)
at-three true true false false n c e = absurd (none-below 2 (omega arith) e)
at-three true true true false n c e = refl

root-at-three : (d : Direct) → d.closing ≡ false → nat_lt (stage_in (root_rows d)) 3 ≡ false → (stage_in (root_rows d) == 3) ≡ true
root-at-three d e low =
    at-three (d.closing || is_set_up d.channel) (d.closing || is_funded d || holds (direct.people d) d.channel) (d.closing || holds (2 * direct.people d - 1) d.channel) d.closing
    (cond (d.over || d.channel.all_final) (suc (cond (d.over || (is_final d.standing && not (is_any_due d))) (suc 0) 0)) 0) e low

module _ (m : Mind) (c : List ℕ) where
  no-direct : gathered.goal_in (facts_of m) c ≡ None → direct_in (facts_of m) c ≡ None
  no-direct e = ap (λ (o : Option Goal). direct_of (facts_of m) c (gathered.seat_for (facts_of m) c o) o) e

  root-done : is_closing (gathered.goal_in (facts_of m) c) ≡ false → nat_lt (stage_of_root (direct_in (facts_of m) c)) 3 ≡ false → (stage_of_root (direct_in (facts_of m) c) == 3) ≡ true
  root-done open-yet low = by (gathered.goal_in (facts_of m) c) refl
    where
      nowhere : direct_in (facts_of m) c ≡ None → ⊥
      nowhere e = none-below 0 (omega arith) (sym (ap (λ (o : Option Direct). nat_lt (stage_of_root o) 3) e) ∙ low)

      by : (o : Option Goal) → gathered.goal_in (facts_of m) c ≡ o → (stage_of_root (direct_in (facts_of m) c) == 3) ≡ true
      by None is = absurd (nowhere (no-direct is))
      by (Some g) is = seated (gathered.seat_for (facts_of m) c (Some g)) refl
        where
          whole : direct_in (facts_of m) c ≡ direct_of (facts_of m) c (gathered.seat_for (facts_of m) c (Some g)) (Some g)
          whole = ap (λ (o : Option Goal). direct_of (facts_of m) c (gathered.seat_for (facts_of m) c o) o) is

          seated : (o : Option Seat) → gathered.seat_for (facts_of m) c (Some g) ≡ o → (stage_of_root (direct_in (facts_of m) c) == 3) ≡ true
          seated None e = absurd (nowhere (whole ∙ ap (λ (o : Option Seat). direct_of (facts_of m) c o (Some g)) e))
          seated (Some seat) e =
              let d : Direct = direct_with (facts_of m) seat g (gathered.chain_in c (facts_of m).chains) (gathered.view_in c (facts_of m).view.channels) in
              let d-is : direct_in (facts_of m) c ≡ Some d = whole ∙ ap (λ (o : Option Seat). direct_of (facts_of m) c o (Some g)) e in
              ap (λ (o : Option Direct). stage_of_root o == 3) d-is
              ∙ root-at-three d (sym (ap is_closing is) ∙ open-yet) (sym (ap (λ (o : Option Direct). nat_lt (stage_of_root o) 3) d-is) ∙ low)

pub open-goal : (f : FixedParts) (outcome : List AssetOutcome) (g : Goal) → IsGoalOf (Open f outcome) g → g.opening ≡ outcome
open-goal f outcome g o = o.opening ∙ only o.n o.first o.there
  where
    only : (n : ℕ) (first : Goal) → (first ≡ goal_with n outcome (0, 0)) ⊎ ⊥ → first.opening ≡ outcome
    only n first (inl e) = ap (λ (x : Goal). x.opening) e
    only n first (inr i) = absurd i

pub root-starts : (f : FixedParts) (outcome : List AssetOutcome) → Starts (Open f outcome) (Root (real.named f)) f outcome (2 * people f - 1)
root-starts f outcome = record {
  own = ap (λ (b : Bool). b || false) (bytes_eq_self (real.named f));
  enough = twice (people f);
  runs = root-runs f;
  done = λ m. root-done m (real.named f);
  starts = first;
}
  where
    twice : (n : ℕ) → n ≤ 2 * n - 1 + 1
    twice n = omega arith

    first : (m : Mind) (k : Kept) (s : StateParts) → IsPlace m (Open f outcome) (Root (real.named f)) f → stages.asked (facts_of m) (real.named f) ≡ Some (Root (real.named f)) → kept_of (real.named f) m.kept ≡ Some k → s.turn ≡ next_of k
        → s.turn < people f
        → (stages.accepts (facts_of m) (real.named f) s ≡ true)
        ⊎ (((g : Goal) → gathered.goal_in (facts_of m) (real.named f) ≡ Some g → g.closing ≡ false) × (stages.wanted (facts_of m) (real.named f) ≡ Some s))
        → is_repeated outcome s ≡ true
    first m k s place asked keeps next small why = by (gathered.goal_in (facts_of m) (real.named f)) refl why
      where
        c : List ℕ
        c = real.named f

        by : (o : Option Goal) → gathered.goal_in (facts_of m) c ≡ o
            → (stages.accepts (facts_of m) c s ≡ true) ⊎ (((g : Goal) → gathered.goal_in (facts_of m) c ≡ Some g → g.closing ≡ false) × (stages.wanted (facts_of m) c ≡ Some s)) → is_repeated outcome s ≡ true
        by None is (inl e) = absurd (clash false (sym (ap (taken_of_root c s) (no-direct m c is)) ∙ (sym (ap (takes_of (facts_of m) c s) asked) ∙ e)) refl)
        by None is (inr e) = absurd (none-eq s (sym (ap (wanted_of_root c) (no-direct m c is)) ∙ (sym (ap (wanted_of (facts_of m) c) asked) ∙ e.1)))
        by (Some g) is why = subst (λ (o : List AssetOutcome). is_repeated o s ≡ true) opening-is (open_as_commanded m c g k s asked is keeps small-there (closing-known why))
          where
            small-there : s.turn < people k.chain.fixed
            small-there = subst (λ (x : FixedParts). s.turn < people x) (sym (place.fixed f (inl refl) k keeps)) small

            opening-is : g.opening ≡ outcome
            opening-is = open-goal f outcome g (place.goal g is)

            closing-known : (stages.accepts (facts_of m) c s ≡ true) ⊎ (((g : Goal) → gathered.goal_in (facts_of m) c ≡ Some g → g.closing ≡ false) × (stages.wanted (facts_of m) c ≡ Some s))
                → (stages.accepts (facts_of m) c s ≡ true) ⊎ ((g.closing ≡ false) × (stages.wanted (facts_of m) c ≡ Some s))
            closing-known (inl e) = inl e
            closing-known (inr e) = inr (e.0 g is, e.1)

pub roots_open_with : RootsOpenWith
roots_open_with s h journal legal plays f outcome took =
    opens-with s h journal legal plays (Open f outcome) (Root (real.named f)) f outcome (2 * people f - 1) took (inl refl) (inl refl) (root-starts f outcome)

-- ---- the root at a place

-- the command of a root
pub record RootOf (c : List ℕ) (command : Command) : Type 0 where
  pub f : FixedParts
  pub outcome : List AssetOutcome
  pub is : command ≡ Open f outcome

pub root-of : (key c : List ℕ) (command : Command) → In (Root c) (parts_of real key command) → RootOf c command
root-of key c (Open f outcome) i = record { f = f; outcome = outcome; is = refl }
root-of key c (commands.OpenOn o) (inl e) = absurd cc
root-of key c (commands.OpenOn o) (inr i) = absurd i
root-of key c (commands.OpenVirtual funding) i = absurd (go (takes_part key funding.channel) i)
  where
    v : Virtual
    v = virtual real key funding.ledgers funding.guarantors funding.joint funding.channel funding.asset funding.amounts

    go : (b : Bool) → In (Root c) (cond b (End v ∷ []) (Middle v ∷ [])) → ⊥
    go true (inl e) = cc
    go true (inr i) = i
    go false (inl e) = cc
    go false (inr i) = i
root-of key c (commands.Pay channel asset amount) i = absurd i
root-of key c (commands.Close channel) i = absurd i
root-of key c (commands.Release how channel) i = absurd i
root-of key c (commands.Resend channel) i = absurd i
root-of key c commands.Exit i = absurd i

-- a root at a place opens with its goal's outcome
pub root-opens : (s : Signing) (h : List Entry) (journal : List Told) → Legal real h → Plays stages real s h journal → (f : FixedParts) (g : Goal) (k : Kept) → RootPlace s h journal f g k
    → OpensWith f g.opening (lines_of s.key journal)
root-opens s h journal legal plays f g k p =
    subst (λ (o : List AssetOutcome). OpensWith f o (lines_of s.key journal)) (sym (open-goal root.f root.outcome g (subst (λ (d : Command). IsGoalOf d g) root.is of-goal.goal)))
    (roots_open_with s h journal legal plays f root.outcome
    (subst (λ (x : FixedParts). Took (Open x root.outcome) journal) (sym f-is) (subst (λ (d : Command). Took d journal) (one ∙ root.is) opened-by.took)))
  where
    m : Mind
    m = mind_at real s.key p.past p.front

    front-plays : Plays stages real s h p.front
    front-plays = rest-plays s h p.newer p.front (subst (Plays stages real s h) p.events plays)

    found : FoundGoal m.parts m.goals (real.named f) g
    found = goal-found m.parts m.goals (real.named f) g p.goal

    of-goal : GoalOf real s.key m.parts p.front g
    of-goal = goals-of stages real s h legal f p.front front-plays p.later p.past p.entries p.before g found.there

    part-is : of-goal.p ≡ Root (real.named f)
    part-is =
        some-eq of-goal.p found.q (sym of-goal.at ∙ found.at)
        ∙ root-is (real.named f) m.parts found.q (is-planned stages real s h p.front front-plays p.later p.past p.entries p.before).apart
        (asked-there (facts_of m) (real.named f) (Root (real.named f)) p.asked) (In-get m.parts g.part found.q found.at) found.about

    stands-there : In (Root (real.named f)) (parts_of real s.key of-goal.command)
    stands-there = subst (λ (x : Part). In x (parts_of real s.key of-goal.command)) part-is of-goal.of

    root : RootOf (real.named f) of-goal.command
    root = root-of s.key (real.named f) of-goal.command stands-there

    opened-by : Opener s.key journal f
    opened-by = opener s.key journal p.opened.line f p.opened.there p.opened.opens

    name : HasName real (real.named f) (opened_by of-goal.command)
    name = name-in real (real.named f) (opened_by of-goal.command)
        (ap (is_among (real.named f)) (sym (opened-channels real s.key of-goal.command))
        ∙ among-channels (real.named f) (parts_of real s.key of-goal.command) (Root (real.named f)) stands-there (own-among (Root (real.named f))))

    one : opened-by.command ≡ of-goal.command
    one = one-command stages real s h legal f journal plays opened-by.command of-goal.command f name.g opened-by.took
        (subst (Took of-goal.command) (sym p.events) (took-later of-goal.command p.newer p.front of-goal.took)) opened-by.inside name.there (sym name.named)

    f-is : f ≡ root.f
    f-is = only (subst (λ (d : Command). In f (opened_by d)) (one ∙ root.is) opened-by.inside)
      where
        only : (f ≡ root.f) ⊎ ⊥ → f ≡ root.f
        only (inl e) = e
        only (inr i) = absurd i
