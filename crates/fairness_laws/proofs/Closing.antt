-- Close isn't accepted before a root runs, and so not before its set-up is over.
use Rattle.std.proofs.Common.{◌≡◌, ℕ, suc, ◌+◌, ◌*◌, ◌-◌, ◌<◌, ◌≤◌, ◌&&◌, Bool, true, false, cond, ◌||◌, not, ◌⊎◌, List, [], ◌∷◌, ◌++◌, inl, inr, length, refl, sym, ◌∙◌, ap, subst, arith}
use Rattle.std.specs.Prelude.{◌==◌, nat_le, nat_lt, Option, Some, None, map}
use Rattle.std.specs.List.{slice_get, find, position, position_or_len}
use Rattle.std.specs.Str.{bytes_eq}
use Rattle.channel_values.specs.Parts.{FixedParts, StateParts}
use Rattle.call_history.specs.Mode.{is_final}
use Rattle.channel_values.specs.Rules.{people, newest}
use Rattle.call_history.specs.Flows.{is_among}
use Rattle.call_history.specs.History.{Legal}
use Rattle.call_history.specs.Marked.{Marked, marked_of, next_after}
use Rattle.call_history.specs.declared.entry.Entry.{Entry}
use Rattle.call_history.specs.declared.event.Deed.{Deed}
use Rattle.call_history.specs.declared.event.NodeRefusal.TheVariants.{NotWanted}
use Rattle.call_history.specs.declared.held_chain.HeldChain.{HeldChain}
use Rattle.call_history.specs.declared.held_chain.Place.{Place}
use Rattle.call_history.proofs.Names.{same_bytes}
use Rattle.channel_store.specs.Keeping.{is_held, place_in, next_of}
use Rattle.channel_store.specs.Storing.{is_of, kept_of}
use Rattle.channel_store.specs.declared.kept.Kept.{Kept}
use Rattle.funding_plans.specs.Parts.{own_channel, channels_of, running}
use Rattle.funding_plans.specs.declared.plan.Goal.{Goal}
use Rattle.funding_plans.specs.declared.plan.Part.{Part}
use Rattle.funding_plans.specs.declared.plan.Part.TheVariants.{Root, OnLedger, End, Middle}
use Rattle.funding_plans.specs.Gathered as gathered
use Rattle.funding_plans.specs.Rows.{stage_in}
use Rattle.funding_plans.specs.Seats.{holds, state_is, is_set_up}
use Rattle.ledger_channel.specs.Roots.{Direct, is_funded, is_any_due, root_rows}
use Rattle.ledger_channel.specs.Roots as direct
use Rattle.ledger_channel.specs.Stages.{direct_with, direct_of, direct_in, stage_of_root}
use Rattle.support_rules.specs.Real.{real}
use Rattle.support_rules.specs.Steps.{persons}
use Rattle.channel_safety.specs.Held.{held}
use Rattle.channel_safety.specs.Good.{IsGoodIfAny}
use Rattle.channel_safety.specs.Journals.{In, Line, is_watched}
use Rattle.channel_safety.specs.Occurring.{NoCollision, OccursFixed}
use Rattle.channel_safety.proofs.Members.{In-append_right, In-append_cases, mapped}
use Rattle.network.specs.declared.command.Command.{Command}
use Rattle.channel_node.specs.Minds.{Mind, facts_of, place_with, close_if, did}
use Rattle.channel_node.specs.Openings.{parts_of, goals_of, are_apart}
use Rattle.channel_node.specs.Places.{Told, line_of, lines_of, mind_at, AreFew}
use Rattle.channel_node.specs.Playing.{Signing, signings, pending, Plays}
use Rattle.channel_node.specs.Refusing.{not_open, unfinished, has_left, not_running, part_with, close_part, release_part}
use Rattle.fairness_laws.specs.Table.{stages}
use Rattle.channel_store.proofs.Places.{found_at_place, found_passes}
use Rattle.channel_safety.proofs.Tests.{some-eq, none-eq, or-right, not-false, clash, lt-true, le-true, eqb-true}
use Rattle.channel_safety.proofs.Lists.{In-get, get-within, get-some, get-append, append_assoc'}
use Rattle.channel_safety.proofs.Opening.{held-good}
use Rattle.channel_safety.proofs.Rowing.{legal-suffix}
use Rattle.channel_node.proofs.Agreeing.{IsOwn, Agree}
use Rattle.channel_node.proofs.Allowing.{first_none, rest_none, holds_not}
use Rattle.channel_node.proofs.Bridging.{lines-append}
use Rattle.channel_node.proofs.Places.{mind-event, mind-watched, mind-entry}
use Rattle.channel_node.proofs.Reaching.{Reaches, reaches-later}
use Rattle.channel_node.proofs.Standing.{known}
use Rattle.fairness_laws.specs.Places.{RootsCloseAfterSetUp}
use Rattle.fairness_laws.proofs.Finding.{names, held_of, passes, chain-found, asked-there}
use Rattle.fairness_laws.proofs.RootWishes.{seat, as-many, direct-found}
use Rattle.fairness_laws.proofs.Apart.{kept-apart}
use Rattle.fairness_laws.proofs.Over.{Seen, AtEvent, over, looked}
use Rattle.fairness_laws.proofs.Planned.{Change, stays, opens, closes, event-changes, Planned, is-planned, new-goal, root-is, IsShut}
use Rattle.channel_values.specs.Words.{fault_if}
use Rattle.network.specs.declared.command.Release.{Release}
use Rattle.network.specs.declared.command.Release.TheVariants.{Settle, Abandon}

-- ---- the stage in which a root runs

record Third (l2 l3 : Bool) : Type 0 where
  posted : l2 ≡ true
  runs : l3 ≡ false

not-three : (n : ℕ) → (n == 3) ≡ true → (n ≡ 3 → ⊥) → ⊥
not-three n e differs = differs (eqb-true n 3 e)

three : (l0 l1 l2 l3 : Bool) (n : ℕ) → (cond l0 (suc (cond l1 (suc (cond l2 (suc (cond l3 (suc n) 0)) 0)) 0)) 0 == 3) ≡ true → Third l2 l3
three false l1 l2 l3 n e = absurd (not-three 0 e (λ x. omega arith))
three true false l2 l3 n e = absurd (not-three 1 e (λ x. omega arith))
three true true false l3 n e = absurd (not-three 2 e (λ x. omega arith))
three true true true false n e = record { posted = refl; runs = refl }
three true true true true n e = absurd (not-three (suc (suc (suc (suc n)))) e (λ x. omega arith))

posts : (d : Direct) → (stage_in (root_rows d) == 3) ≡ true → holds (2 * direct.people d - 1) d.channel ≡ true
posts d e =
    let t = three (d.closing || is_set_up d.channel) (d.closing || is_funded d || holds (direct.people d) d.channel) (d.closing || holds (2 * direct.people d - 1) d.channel) d.closing
    (cond (d.over || d.channel.all_final) (suc (cond (d.over || (is_final d.standing && not (is_any_due d))) (suc 0) 0)) 0) e in
    or-right d.closing (holds (2 * direct.people d - 1) d.channel) t.posted t.runs

-- the latest state that is kept has this turn or more
pub record Topped (k : Kept) (turn : ℕ) : Type 0 where
  pub top : StateParts
  pub ends : newest k.chain.states ≡ Some top
  pub up : turn ≤ top.turn

pub held-top : (k : Kept) (turn : ℕ) (full : Bool) → state_is (λ s. nat_le turn s.turn) (gathered.top_of (cond full (Some (record { channel = k.channel; chain = k.chain })) None)) ≡ true → Topped k turn
held-top k turn false e = absurd cc
held-top k turn true e = go (newest k.chain.states) refl e
  where
    go : (o : Option StateParts) → newest k.chain.states ≡ o → state_is (λ s. nat_le turn s.turn) o ≡ true → Topped k turn
    go None is e = absurd cc
    go (Some t) is e = record { top = t; ends = is; up = le-true turn t.turn e }

pub place-none : (channel : List ℕ) (kept : List Kept) → kept_of channel kept ≡ None → gathered.place_in channel (map place_in kept) ≡ None
place-none channel [] e = refl
place-none channel (x ∷ xs) e = go (bytes_eq x.channel channel) refl (place-none channel xs)
  where
    go : (b : Bool) → bytes_eq x.channel channel ≡ b → (kept_of channel xs ≡ None → gathered.place_in channel (map place_in xs) ≡ None)
        → cond b (Some (place_in x)) (gathered.place_in channel (map place_in xs)) ≡ None
    go true is ih = absurd (none-eq x (sym e ∙ ap (λ (b : Bool). slice_get (x ∷ xs) (cond (not b) (1 + position_or_len (is_of channel) xs) 0)) is))
    go false is ih = ih (passes channel x xs is ∙ e)

-- something is kept of a root that runs, and the second round was held
record Runs (m : Mind) (c : List ℕ) : Type 0 where
  k : Kept
  keeps : kept_of c m.kept ≡ Some k
  topped : Topped k (2 * people k.chain.fixed - 1)

module _ (m : Mind) (c : List ℕ) (apart : are_apart (names m.kept) ≡ true) (third : (stage_of_root (direct_in (facts_of m) c) == 3) ≡ true) where
  no-direct : direct_in (facts_of m) c ≡ None → ⊥
  no-direct is = not-three 0 (sym (ap (λ (o : Option Direct). stage_of_root o == 3) is) ∙ third) (λ x. omega arith)

  by-few : (g : Goal) (k : Kept) (few : Bool) → kept_of c m.kept ≡ Some k
      → direct_in (facts_of m) c ≡ direct_of (facts_of m) c (gathered.seat_if few (seat k g c (gathered.chain_in c (facts_of m).chains) (gathered.last_of (gathered.known_in c (facts_of m).known)))) (Some g) → Runs m c
  by-few g k false keeps is = absurd (no-direct is)
  by-few g k true keeps is = record {
    k = k;
    keeps = keeps;
    topped = held-top k (2 * people k.chain.fixed - 1) (is_held k)
        (subst (λ (n : ℕ). state_is (λ s. nat_le (2 * n - 1) s.turn) (gathered.top_of (held_of k)) ≡ true) (as-many k)
        (subst (λ (o : Option HeldChain). state_is (λ s. nat_le (2 * length (persons k.chain.fixed) - 1) s.turn) (gathered.top_of o) ≡ true) (chain-found c m.kept k apart keeps)
        (posts (direct_with (facts_of m) (seat k g c (gathered.chain_in c (facts_of m).chains) (gathered.last_of (gathered.known_in c (facts_of m).known))) g
        (gathered.chain_in c (facts_of m).chains) (gathered.view_in c (facts_of m).view.channels))
        (sym (ap (λ (o : Option Direct). stage_of_root o == 3) is) ∙ third))));
  }

  by-goal : (o : Option Goal) → gathered.goal_in (facts_of m) c ≡ o → Runs m c
  by-goal None goal = absurd (no-direct (ap (λ (o : Option Goal). direct_of (facts_of m) c (gathered.seat_for (facts_of m) c o) o) goal))
  by-goal (Some g) goal = by-kept (kept_of c m.kept) refl
    where
      by-kept : (o : Option Kept) → kept_of c m.kept ≡ o → Runs m c
      by-kept None none =
          absurd (no-direct (ap (λ (o : Option Goal). direct_of (facts_of m) c (gathered.seat_for (facts_of m) c o) o) goal
          ∙ ap (λ (p : Option Place). direct_of (facts_of m) c (gathered.seat_at (facts_of m) c g.opening p) (Some g)) (place-none c m.kept none)))
      by-kept (Some k) keeps = by-few g k (gathered.are_few (persons k.chain.fixed)) keeps (direct-found m c g k goal keeps)

  runs : Runs m c
  runs = by-goal (gathered.goal_in (facts_of m) c) refl

-- something is kept of this channel, and ends with this turn or more
pub record RunsAt (m : Mind) (f : FixedParts) (turn : ℕ) : Type 0 where
  pub k : Kept
  pub keeps : kept_of (real.named f) m.kept ≡ Some k
  pub topped : k.chain.fixed ≡ f → Topped k turn

-- so it is wherever the part runs
abbrev pub RunsTo : Part → FixedParts → ℕ → Type 0
RunsTo p f turn = (m : Mind) → are_apart (names m.kept) ≡ true → (stages.stage (facts_of m) p == running p) ≡ true → RunsAt m f turn

pub root-runs : (f : FixedParts) → RunsTo (Root (real.named f)) f (2 * people f - 1)
root-runs f m apart third =
    let r = runs m (real.named f) apart third in
    record { k = r.k; keeps = r.keeps; topped = λ same. subst (λ (x : FixedParts). Topped r.k (2 * people x - 1)) same r.topped }

-- ---- an accepted Close

closing-runs : (m : Mind) (channel : List ℕ) (p : Part) → None ≡ close_part stages m (Some p) → (stages.stage (facts_of m) p == running p) ≡ true
closing-runs m channel p e =
    let after-open = rest_none (not_open stages (facts_of m)) _ (sym e) in
    let after-left = rest_none (has_left m) _ after-open in
    let after-unfinished = rest_none (unfinished stages (facts_of m)) _ after-left in
    not-false (stages.stage (facts_of m) p == running p)
    (holds_not (not (stages.stage (facts_of m) p == running p)) (NotWanted (stages.stage (facts_of m) p))
    (first_none (not_running stages (facts_of m) (Some p)) _ after-unfinished))

-- ---- letting go

-- the participant let go of the part: of a channel that holds its own funds alone
abbrev pub lets_go : Part → Goal → Bool
lets_go (Root c) g = g.over
lets_go _ g = false

-- only of a channel that holds its own funds
let-go : (m : Mind) (p : Part) (how : Release) → None ≡ release_part stages m how (Some p) → (g : Goal) → g.over ≡ true → lets_go p g ≡ false → ⊥
let-go m p how e g is held-on = by p how may is held-on
  where
    may : stages.releases (facts_of m) how p ≡ true
    may =
        not-false (stages.releases (facts_of m) how p)
        (holds_not (not (stages.releases (facts_of m) how p)) (NotWanted (stages.stage (facts_of m) p))
        (first_none (fault_if (not (stages.releases (facts_of m) how p)) (NotWanted (stages.stage (facts_of m) p))) _ (rest_none (has_left m) _ (sym e))))

    by : (p : Part) (how : Release) → stages.releases (facts_of m) how p ≡ true → g.over ≡ true → lets_go p g ≡ false → ⊥
    by (Root c) how may is held-on = clash g.over is held-on
    by (OnLedger l c) Settle may is held-on = clash false may refl
    by (OnLedger l c) Abandon may is held-on = clash false may refl
    by (End v) Settle may is held-on = clash false may refl
    by (End v) Abandon may is held-on = clash false may refl
    by (Middle v) Settle may is held-on = clash false may refl
    by (Middle v) Abandon may is held-on = clash false may refl

-- ---- the goal of a channel

pub find-in : {A : Type 0} (test : A → Bool) (xs : List A) (x : A) → find test xs ≡ Some x → In x xs
find-in test [] x e = absurd (none-eq x e)
find-in {A} test (y ∷ ys) x e = go (test y) (find-in test ys x) e
  where
    go : (b : Bool) → (find test ys ≡ Some x → In x ys) → cond b (Some y) (find test ys) ≡ Some x → In x (y ∷ ys)
    go true rest e = inl (sym (some-eq y x e))
    go false rest e = inr (rest e)

pub record FoundGoal (parts : List Part) (goals : List Goal) (c : List ℕ) (g : Goal) : Type 0 where
  pub there : In g goals
  pub q : Part
  pub at : slice_get parts g.part ≡ Some q
  pub about : bytes_eq (own_channel q) c ≡ true

pub goal-found : (parts : List Part) (goals : List Goal) (c : List ℕ) (g : Goal) → gathered.goal_at (position (λ p. bytes_eq (own_channel p) c) parts) goals ≡ Some g → FoundGoal parts goals c g
goal-found parts goals c g e = go (nat_lt n (length parts)) refl e
  where
    n : ℕ
    n = position_or_len (λ (p : Part). bytes_eq (own_channel p) c) parts

    go : (b : Bool) → nat_lt n (length parts) ≡ b → gathered.goal_at (cond b (Some n) None) goals ≡ Some g → FoundGoal parts goals c g
    go false is e = absurd (none-eq g e)
    go true is e =
        let got = get-some parts n (lt-true n (length parts) is) in
        let place : g.part ≡ n = eqb-true g.part n (found_passes (λ (x : Goal). x.part == n) goals g e) in
        record {
          there = find-in (λ (x : Goal). x.part == n) goals g e;
          q = got.0;
          at = ap (slice_get parts) place ∙ got.1;
          about = found_passes (λ (p : Part). bytes_eq (own_channel p) c) parts got.0 (sym (found_at_place (λ (p : Part). bytes_eq (own_channel p) c) parts) ∙ got.1);
        }

-- ---- what is held where Close was commanded

-- of a channel of the part, where a goal of that is closing, and the participant didn't let go of it
abbrev pub IsLate : Part → FixedParts → ℕ → Mind → Option Marked → Type 0
IsLate p f turn m st = (g : Goal) → In g m.goals → g.closing ≡ true → lets_go p g ≡ false → slice_get m.parts g.part ≡ Some p → Reaches real f turn st

module _ (p : Part) (f : FixedParts) (turn : ℕ) (m new : Mind) (st after : Option Marked) (plan : Planned m) (up : Reaches real f turn st → Reaches real f turn after)
    (accepted : (channel : List ℕ) → None ≡ close_part stages m (Some p) → Reaches real f turn st) (was : IsLate p f turn m st) where
  opens-late : (news : List Part) (fresh : List Goal) → new.parts ≡ m.parts ++ news → new.goals ≡ m.goals ++ fresh → ((g : Goal) → In g fresh → g.closing ≡ false) → IsLate p f turn new after
  opens-late news fresh parts goals open-yet g i closing held-on at = go (In-append_cases g m.goals fresh (subst (In g) goals i))
    where
      go : In g m.goals ⊎ In g fresh → Reaches real f turn after
      go (inl i) =
          up (was g i closing held-on (sym (get-append m.parts news g.part (plan.within g i)) ∙ subst (λ (x : List Part). slice_get x g.part ≡ Some p) parts at))
      go (inr i) = absurd (clash g.closing closing (open-yet g i))

  closes-late : (lets : Bool) (channel : List ℕ) → IsShut lets stages m (part_with channel m.parts) → new.parts ≡ m.parts
      → new.goals ≡ map (λ goal. close_if lets (goal.part == place_with channel m.parts) goal) m.goals → IsLate p f turn new after
  closes-late lets channel taken parts goals g i closing held-on at =
      let old = mapped (λ (goal : Goal). close_if lets (goal.part == place_with channel m.parts) goal) g m.goals (subst (In g) goals i) in
      go old.from old.there (old.from.part == place_with channel m.parts) refl old.is
    where
      by : (lets : Bool) (from : Goal) → IsShut lets stages m (Some p) → g ≡ close_if lets true from → Reaches real f turn after
      by false from shut same = up (accepted channel shut)
      by true from shut same = absurd (let-go m p shut.0 shut.1 g (ap (λ (x : Goal). x.over) same) held-on)

      here : slice_get m.parts g.part ≡ Some p
      here = subst (λ (x : List Part). slice_get x g.part ≡ Some p) parts at

      go : (from : Goal) → In from m.goals → (b : Bool) → (from.part == place_with channel m.parts) ≡ b → g ≡ close_if lets b from → Reaches real f turn after
      go from there false is same = up (was g (subst (λ (x : Goal). In x m.goals) (sym same) there) closing held-on here)
      go from there true is same =
          let place : g.part ≡ place_with channel m.parts = ap (λ (x : Goal). x.part) same ∙ eqb-true from.part (place_with channel m.parts) is in
          let found : part_with channel m.parts ≡ Some p =
          sym (found_at_place (λ (part : Part). is_among channel (channels_of part)) m.parts) ∙ (sym (ap (slice_get m.parts) place) ∙ here) in
          by lets from (subst (IsShut lets stages m) found taken) same

  change-late : (deed : Deed) (of : Option Command) → Change stages real deed of m new → IsLate p f turn new after
  change-late deed of (stays parts goals) =
      λ g i closing held-on at. up (was g (subst (In g) goals i) closing held-on (subst (λ (x : List Part). slice_get x g.part ≡ Some p) parts at))
  change-late deed of (opens command followed is taken parts goals) =
      opens-late (parts_of real m.key command) (goals_of (length m.parts) command) parts goals (λ g i. (new-goal real m.key (length m.parts) command g i).fresh)
  change-late deed of (closes lets channel taken parts goals) = closes-late lets channel taken parts goals

-- ---- what is held so stays

module _ (s : Signing) (f : FixedParts) (turn : ℕ) (past : List Entry) (front : List Told) where
  abbrev pub Held : Type 0
  Held = Reaches real f turn (held real f past (lines_of s.key front))

  pub event-reaches : (x : Told) → length past ≡ x.seen → Held → Reaches real f turn (held real f past (lines_of s.key (x ∷ front)))
  event-reaches x len = reaches-later real f turn (line_of s.key x ∷ []) [] past (lines_of s.key front) rising
    where
      rising : (y : Line) → In y (line_of s.key x ∷ []) → is_watched y.deed ≡ false → length past ≤ y.seen
      rising y (inl same) w = subst (λ (z : Line). length past ≤ z.seen) (sym same) (omega arith)
      rising y (inr i) w = absurd i

  pub look-reaches : (x : Told) → is_watched x.deed ≡ true → Held → Reaches real f turn (held real f past (lines_of s.key (x ∷ front)))
  look-reaches x w = reaches-later real f turn (line_of s.key x ∷ []) [] past (lines_of s.key front) rising
    where
      rising : (y : Line) → In y (line_of s.key x ∷ []) → is_watched y.deed ≡ false → length past ≤ y.seen
      rising y (inl same) v = absurd (clash (is_watched x.deed) w (sym (ap (λ (z : Line). is_watched z.deed) same) ∙ v))
      rising y (inr i) v = absurd i

  pub entry-reaches : (e : Entry) → Held → Reaches real f turn (held real f (e ∷ past) (lines_of s.key front))
  entry-reaches e = reaches-later real f turn [] (e ∷ []) past (lines_of s.key front) (λ y i w. absurd i)

-- ---- over the places

-- what is kept at a place is of the fixed part that was opened under its name
pub fixed-is : (s : Signing) (h : List Entry) (journal : List Told) → NoCollision real h (lines_of s.key journal) → (f : FixedParts) → OccursFixed h (lines_of s.key journal) f
    → (newer front : List Told) → journal ≡ newer ++ front → (k : Kept) → IsOwn real s.key (real.named f) (lines_of s.key front) k → k.chain.fixed ≡ f
fixed-is s h journal distinct f occurs newer front events k own =
    distinct.names k.chain.fixed f (inr (
      own.line,
      subst (In own.line) (sym (ap (lines_of s.key) events ∙ lines-append s.key newer front))
          (In-append_right own.line (lines_of s.key newer) (lines_of s.key front) own.there),
      own.opens,
    )) occurs (same_bytes (real.named k.chain.fixed) (real.named f) own.named)

-- what is kept of a channel at any place is of this fixed part
abbrev pub IsOneFixed : Signing → List Told → FixedParts → Type 0
IsOneFixed s journal f = (newer front : List Told) → journal ≡ newer ++ front → (k : Kept) → IsOwn real s.key (real.named f) (lines_of s.key front) k → k.chain.fixed ≡ f

module _ (s : Signing) (h : List Entry) (journal : List Told) (legal : Legal real h) (f : FixedParts) (several : 1 ≤ people f) (fixed : IsOneFixed s journal f) (p : Part) (turn : ℕ)
    (runs-to : RunsTo p f turn) where
  abbrev Late : List Entry → List Told → Type 0
  Late past front = IsLate p f turn (mind_at real s.key past front) (held real f past (lines_of s.key front))

  -- what is kept so is held so
  reaches : (past : List Entry) (front : List Told) (k : Kept) → Agree real s.key f (lines_of s.key front) (Some k) (held real f past (lines_of s.key front)) → k.chain.fixed ≡ f
      → Topped k turn → Reaches real f turn (held real f past (lines_of s.key front))
  reaches past front k agree same t = go (held real f past (lines_of s.key front)) refl agree
    where
      go : (o : Option Marked) → held real f past (lines_of s.key front) ≡ o → Agree real s.key f (lines_of s.key front) (Some k) o → Reaches real f turn (held real f past (lines_of s.key front))
      go None is a = absurd a
      go (Some w) is a = record {
        w = w;
        is = is;
        top = t.top;
        ends = sym (ap (λ (x : Marked). newest x.states) (a.1 same)) ∙ t.ends;
        up = t.up;
        good = subst (IsGoodIfAny real f) is (held-good real f several past (lines_of s.key front));
      }

  -- where the part runs
  pub running-reaches : (past : List Entry) (front newer : List Told) → journal ≡ newer ++ front → Plays stages real s h front → (later : List Entry) → h ≡ later ++ past → Seen past front → AreFew past
      → (stages.stage (facts_of (mind_at real s.key past front)) p == running p) ≡ true → Reaches real f turn (held real f past (lines_of s.key front))
  running-reaches past front newer events plays later entries before few run =
      let r = runs-to (mind_at real s.key past front) (kept-apart stages real s h front plays later past entries before) run in
      let agree : Agree real s.key f (lines_of s.key front) (Some r.k) (held real f past (lines_of s.key front)) =
      subst (λ (o : Option Kept). Agree real s.key f (lines_of s.key front) o (held real f past (lines_of s.key front))) r.keeps
      (known real s.key f past front (legal-suffix real later past (subst (Legal real) entries legal)) few).agree in
      let same = own-fixed r.k (held real f past (lines_of s.key front)) agree in
      reaches past front r.k agree same (r.topped same)
    where
      own-fixed : (k : Kept) (o : Option Marked) → Agree real s.key f (lines_of s.key front) (Some k) o → k.chain.fixed ≡ f
      own-fixed k None a = absurd a
      own-fixed k (Some w) a = fixed newer front events k a.0

  nothing-late : (past : List Entry) → Late past []
  nothing-late past g i closing held-on at = absurd (subst (In g) (no-goals past) i)
    where
      no-goals : (past : List Entry) → (mind_at real s.key past []).goals ≡ []
      no-goals [] = refl
      no-goals (e ∷ past) = no-goals past

  at-event : (past : List Entry) (x : Told) (front : List Told) → AtEvent stages real s h journal past x front → Late past front → Late past (x ∷ front)
  at-event past x front at was =
      subst (λ (m : Mind). IsLate p f turn m (held real f past (lines_of s.key (x ∷ front)))) (sym (mind-event real s.key past x front at.len))
      (change-late p f turn m (did real x.deed x.command m) (held real f past (lines_of s.key front)) (held real f past (lines_of s.key (x ∷ front)))
      (is-planned stages real s h front at.plays at.later past at.entries at.before)
      (event-reaches s f turn past front x at.len)
      accepted was x.deed x.command
      (event-changes stages real s past (signings front) (pending front) x.deed x.command m (at.event.place at.later past at.entries at.len).1))
    where
      m : Mind
      m = mind_at real s.key past front

      accepted : (channel : List ℕ) → None ≡ close_part stages m (Some p) → Reaches real f turn (held real f past (lines_of s.key front))
      accepted channel e =
          running-reaches past front (at.newer ++ x ∷ []) (at.events ∙ append_assoc' at.newer (x ∷ []) front) at.plays at.later at.entries at.before
          (at.event.place at.later past at.entries at.len).0 (closing-runs m channel p e)

  at-look : (past : List Entry) (x : Told) (front : List Told) → is_watched x.deed ≡ true → Late past front → Late past (x ∷ front)
  at-look past x front w was =
      subst (λ (m : Mind). IsLate p f turn m (held real f past (lines_of s.key (x ∷ front)))) (sym (mind-watched real s.key past x front (looked real x.deed x.command w)))
      (λ g i closing held-on at. look-reaches s f turn past front x w (was g i closing held-on at))

  at-entry : (past : List Entry) (e : Entry) (front : List Told) → Seen past front → Late past front → Late (e ∷ past) front
  at-entry past e front seen was =
      subst (λ (m : Mind). IsLate p f turn m (held real f (e ∷ past) (lines_of s.key front))) (sym (mind-entry real s.key past e front seen))
      (λ g i closing held-on at. entry-reaches s f turn past front e (was g i closing held-on at))

  pub late : (newer front : List Told) → journal ≡ newer ++ front → Plays stages real s h front → (later past : List Entry) → h ≡ later ++ past → Seen past front → Late past front
  late newer front = over stages real s h journal Late (record { first = nothing-late; event = at-event; look = at-look; entry = at-entry }) newer front

-- ---- the law

enough : (n t : ℕ) → 2 * n - 1 ≤ t → 2 * n ≤ t + 1
enough n t h = omega arith

after-turn : (f : FixedParts) (k : Kept) (w : Marked) (top : StateParts) → k.chain.fixed ≡ f → marked_of k.chain ≡ w → newest w.states ≡ Some top → 2 * people f - 1 ≤ top.turn
    → 2 * people k.chain.fixed ≤ next_of k
after-turn f k w top same is ends up =
    let next : next_of k ≡ top.turn + 1 = ap next_after (ap (λ (x : Marked). newest x.states) is ∙ ends) in
    subst (λ (n : ℕ). 2 * people k.chain.fixed ≤ n) (sym next) (subst (λ (x : FixedParts). 2 * people x ≤ top.turn + 1) (sym same) (enough (people f) top.turn up))

pub rest-plays : (s : Signing) (h : List Entry) (newer front : List Told) → Plays stages real s h (newer ++ front) → Plays stages real s h front
rest-plays s h [] front q = q
rest-plays s h (x ∷ newer) front q = rest-plays s h newer front q.1

pub close_late : RootsCloseAfterSetUp
close_late s h journal legal plays distinct f g k p closing held-on = by (known real s.key f p.past p.front (legal-suffix real p.later p.past (subst (Legal real) p.entries legal)) p.few).agree
  where
    front-plays : Plays stages real s h p.front
    front-plays = rest-plays s h p.newer p.front (subst (Plays stages real s h) p.events plays)

    occurs : OccursFixed h (lines_of s.key journal) f
    occurs = inr (p.opened.line, p.opened.there, p.opened.opens)

    some : 1 ≤ people f
    some = let small : p.opened.me < people f = get-within f.keys p.opened.me s.key p.opened.mine in omega arith

    m : Mind
    m = mind_at real s.key p.past p.front

    found : FoundGoal m.parts m.goals (real.named f) g
    found = goal-found m.parts m.goals (real.named f) g p.goal

    root : found.q ≡ Root (real.named f)
    root =
        root-is (real.named f) m.parts found.q (is-planned stages real s h p.front front-plays p.later p.past p.entries p.before).apart
        (asked-there (facts_of m) (real.named f) (Root (real.named f)) p.asked) (In-get m.parts g.part found.q found.at) found.about

    there : Reaches real f (2 * people f - 1) (held real f p.past (lines_of s.key p.front))
    there =
        late s h journal legal f some (fixed-is s h journal distinct f occurs) (Root (real.named f)) (2 * people f - 1) (root-runs f) p.newer p.front p.events front-plays p.later p.past p.entries p.before g found.there closing held-on
        (found.at ∙ ap (λ (q : Part). Some q) root)

    by : Agree real s.key f (lines_of s.key p.front) (kept_of (real.named f) m.kept) (held real f p.past (lines_of s.key p.front)) → 2 * people k.chain.fixed ≤ next_of k
    by agree =
        let a : Agree real s.key f (lines_of s.key p.front) (Some k) (Some there.w) =
        subst (Agree real s.key f (lines_of s.key p.front) (Some k)) there.is
        (subst (λ (o : Option Kept). Agree real s.key f (lines_of s.key p.front) o (held real f p.past (lines_of s.key p.front))) p.keeps agree) in
        let same = fixed-is s h journal distinct f occurs p.newer p.front p.events k a.0 in
        after-turn f k there.w there.top same (a.1 same) there.ends there.up
