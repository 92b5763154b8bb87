-- A node plans fairly, so nobody lowers the share of its person, and it can leave with it.
use Rattle.std.proofs.Common.{◌≡◌, ℕ, ◌≤◌, Bool, false, cond, List, [], ◌∷◌, ◌++◌, flat_map, inl, inr, sym, ◌∙◌, ap, subst}
use Rattle.std.specs.Prelude.{Option}
use Rattle.channel_values.specs.Collisions.{NoneCollide}
use Rattle.channel_values.specs.Digests.{name_of_person, person_string}
use Rattle.call_history.specs.declared.entry.Entry.{Entry}
use Rattle.channel_exits.specs.Fair.{LeavesFairly}
use Rattle.funding_plans.specs.declared.plan.Part.{Part}
use Rattle.funding_plans.specs.declared.plan.Part.TheVariants.{Root, OnLedger, End, Middle}
use Rattle.channel_safety.proofs.Telling.{tells}
use Rattle.channel_safety.proofs.Members.{In-append_left, In-append_right, In-map, In-flat_map, contains, contained}
use Rattle.channel_safety.specs.Hashed.{of_fixed, hashed}
use Rattle.channel_safety.specs.Honest.{Honest}
use Rattle.channel_safety.specs.Journals.{In, Line, is_watched, is_followed}
use Rattle.network.specs.declared.command.Command.{Command}
use Rattle.node_guarantees.proofs.RealExits.{leavers_are_paid}
use Rattle.node_guarantees.proofs.RealShares.{hashes, shares_kept}
use Rattle.channel_node.proofs.Bridging.{In-lines}
use Rattle.channel_node.proofs.Once.{played_journals_are_honest}
use Rattle.channel_node.specs.Places.{Told, lines_of}
use Rattle.channel_node.specs.Playing.{Signing, Plays}
use Rattle.node_guarantees.specs.Orders.{orders_of}
use Rattle.stage_tables.specs.Stages.{stages}
use Rattle.fairness_laws.proofs.Children.{children_want_fairly}
use Rattle.fairness_laws.proofs.EndPart.{ends_want_fairly}
use Rattle.fairness_laws.proofs.Leaving.{wanting_plans_leave}
use Rattle.fairness_laws.proofs.MiddlePart.{middles_want_fairly}
use Rattle.fairness_laws.proofs.Roots.{roots_want_fairly}
use Rattle.channel_node.specs.Named.{named_by, named_in}
use Rattle.fairness_laws.specs.FairLaws.{OfEachNode, NodesPlanFairly, NodesSignFairly, PlansKeepShares}
use Rattle.fairness_laws.specs.PlanSettings.{PeopleAreTold, IsFair}
use Rattle.fairness_laws.specs.Wanting.{WantsFairly}
use Rattle.share_laws.specs.Lines.{AreInOrder}
use Rattle.support_rules.specs.Real.{real}

-- ---- names of people

tail : List ℕ → List ℕ
tail [] = []
tail (n ∷ ns) = ns

names-tell : (key : List ℕ) (journal : List Told) (strings : List (List ℕ)) → NoneCollide (strings ++ (person_string key ∷ flat_map of_fixed (named_in journal))) → PeopleAreTold key journal
unfolding name_of_person tail
names-tell key journal strings none x c f i taken is j k l ik il same =
    ap tail (none (person_string k) (person_string l) (contains (person_string k) all (there k ik)) (contains (person_string l) all (there l il)) same)
  where
    own : List (List ℕ)
    own = person_string key ∷ flat_map of_fixed (named_in journal)

    all : List (List ℕ)
    all = strings ++ own

    named : In f (named_in journal)
    named =
        In-flat_map (λ (y : Told). cond (is_followed y.deed) (named_by y.command) []) f x journal i
        (subst (λ (b : Bool). In f (cond b (named_by x.command) [])) (sym taken) (subst (λ (o : Option Command). In f (named_by o)) (sym is) j))

    there : (y : List ℕ) → In y (key ∷ f.keys) → In (person_string y) all
    there y (inl e) = In-append_right (person_string y) strings own (inl (ap person_string e))
    there y (inr m) = In-append_right (person_string y) strings own (inr (In-flat_map of_fixed (person_string y) f (named_in journal) named (inr (In-map person_string y f.keys m))))

-- ---- the order of lines

in-order : (s : Signing) (h : List Entry) (journal : List Told) → Plays stages real s h journal → AreInOrder (lines_of s.key journal)
in-order s h [] plays = tt
in-order s h (x ∷ front) plays = (λ y i a w. by y i w, in-order s h front plays.1)
  where
    by : (y : Line) → In y (lines_of s.key front) → is_watched y.deed ≡ false → y.seen ≤ x.seen
    by y i w =
        let told = In-lines s.key y front i in
        subst (λ (z : Line). z.seen ≤ x.seen) (sym told.2) (plays.0.rising told.0 told.1 (ap (λ (z : Line). is_watched z.deed) (sym told.2) ∙ w))

-- ---- the law

-- each part wants fairly
wants-each : (s : Signing) (h : List Entry) (journal : List Told) → IsFair s h journal → (p : Part) → WantsFairly s h journal p
wants-each s h journal fair (Root name) = roots_want_fairly s h journal name fair
wants-each s h journal fair (OnLedger ledger name) = children_want_fairly s h journal ledger name fair
wants-each s h journal fair (End v) = ends_want_fairly s h journal v fair
wants-each s h journal fair (Middle v) = middles_want_fairly s h journal v fair

-- the strings of its history and its lines are among those that don't collide
hashed-apart : (s : Signing) (h : List Entry) (journal : List Told)
    → NoneCollide (hashed h (lines_of s.key journal) ++ (person_string s.key ∷ flat_map of_fixed (named_in journal))) → NoneCollide (hashed h (lines_of s.key journal))
hashed-apart s h journal none a b i j same =
    none a b
    (contains a _ (In-append_left a (hashed h (lines_of s.key journal)) _ (contained a (hashed h (lines_of s.key journal)) i)))
    (contains b _ (In-append_left b (hashed h (lines_of s.key journal)) _ (contained b (hashed h (lines_of s.key journal)) j))) same

pub is-fair : OfEachNode IsFair
is-fair s h journal signs legal plays valid unforged none = record {
  nodes = record {
    signs = signs;
    legal = legal;
    plays = plays;
    distinct = tells real h (lines_of s.key journal) hashes valid (hashed-apart s h journal none);
    people = names-tell s.key journal (hashed h (lines_of s.key journal)) none;
    valid = valid;
  };
  unforged = unforged;
  apart = hashed-apart s h journal none;
}

leaves : (s : Signing) (h : List Entry) (journal : List Told) → IsFair s h journal → LeavesFairly real (name_of_person s.key) (orders_of real s.key journal) h (lines_of s.key journal)
leaves s h journal fair =
    wanting_plans_leave s h journal fair (λ p i. wants-each s h journal fair p)

pub nodes_plan_fairly : NodesPlanFairly
nodes_plan_fairly s h journal signs legal plays valid unforged none = (leaves s h journal (is-fair s h journal signs legal plays valid unforged none)).plans

pub nodes_sign_fairly : NodesSignFairly
nodes_sign_fairly s h journal signs legal plays valid unforged none = (nodes_plan_fairly s h journal signs legal plays valid unforged none).signs

pub plans_keep_shares : PlansKeepShares
plans_keep_shares s h journal signs legal plays valid unforged none in_time = record {
  kept = shares_kept h (lines_of s.key journal) valid s.key (orders_of real s.key journal) legal honest unforged apart in_time fairly.plans;
  paid = leavers_are_paid h (lines_of s.key journal) valid s.key (orders_of real s.key journal) legal honest unforged apart in_time fairly (in-order s h journal plays);
}
  where
    apart : NoneCollide (hashed h (lines_of s.key journal))
    apart = hashed-apart s h journal none

    honest : Honest real s.key h (lines_of s.key journal)
    honest = played_journals_are_honest stages real s h journal signs legal plays

    fairly : LeavesFairly real (name_of_person s.key) (orders_of real s.key journal) h (lines_of s.key journal)
    fairly = leaves s h journal (is-fair s h journal signs legal plays valid unforged none)
