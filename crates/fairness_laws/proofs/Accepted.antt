-- What the plan was when a command was accepted.
use Rattle.std.proofs.Common.{◌≡◌, ℕ, ◌^◌, Bool, true, false, ◌&&◌, not, List, refl, sym, subst}
use Rattle.std.specs.Prelude.{◌==◌, nat_lt, Option, Some, None}
use Rattle.channel_safety.proofs.Tests.{none-eq, and-left, not-false, clash, eqb-true}
use Rattle.call_history.specs.Flows.{is_among}
use Rattle.call_history.specs.declared.entry.Entry.{Entry}
use Rattle.call_history.specs.declared.event.Deed.{Deed}
use Rattle.call_history.specs.declared.event.Deed.TheVariants as deeds
use Rattle.call_history.specs.declared.event.NodeRefusal.TheVariants.{UnknownChannel, NotNext, NotAStep, NotWanted}
use Rattle.channel_values.specs.Rows.{mover}
use Rattle.channel_values.specs.Rules.{people}
use Rattle.channel_values.specs.Words.{fault_if}
use Rattle.channel_store.specs.Keeping.{next_of}
use Rattle.channel_store.specs.Storing.{kept_of}
use Rattle.channel_store.specs.declared.kept.Kept.{Kept}
use Rattle.funding_plans.specs.Parts.{own_channel, joined_of, running}
use Rattle.funding_plans.specs.Shapes.{items_in}
use Rattle.funding_plans.specs.declared.plan.Part.{Part}
use Rattle.channel_safety.specs.Journals.{In}
use Rattle.network.specs.declared.command.Command.{Command}
use Rattle.network.specs.declared.command.Command.TheVariants as commands
use Rattle.channel_node.proofs.Allowing.{first_none, rest_none, holds_not}
use Rattle.channel_node.specs.Minds.{Mind, facts_of}
use Rattle.channel_node.specs.Playing.{Signing, payment_in, Allowed}
use Rattle.channel_node.specs.Refusing.{not_open, unfinished, has_left, not_running, part_with, part_joined, close_part, release_part, standing_part, pay_refusal, is_payable, latest_outcome}
use Rattle.stage_tables.specs.Stages.{stages}
use Rattle.channel_store.proofs.Places.{found_passes}
use Rattle.support_rules.specs.Real.{real}
use Rattle.fairness_laws.proofs.Closing.{find-in}
use Rattle.fairness_laws.proofs.Live.{each-none}
use Rattle.funding_plans.specs.Known.{FactsOf}
use Rattle.funding_plans.specs.declared.plan.Part.TheVariants as kinds
use Rattle.funding_plans.specs.declared.plan.Virtual.{Virtual}
use Rattle.network.specs.declared.command.Release.{Release}
use Rattle.network.specs.declared.command.Release.TheVariants.{Settle, Abandon}

-- a part that isn't refused runs
runs-so : (m : Mind) (p : Part) → not_running stages (facts_of m) (Some p) ≡ None → (stages.stage (facts_of m) p == running p) ≡ true
runs-so m p e = not-false (stages.stage (facts_of m) p == running p) (holds_not (not (stages.stage (facts_of m) p == running p)) (NotWanted (stages.stage (facts_of m) p)) e)

-- ---- an accepted Close

-- the part that it closes; nothing is unfinished, the part runs, and no part stands on the channel and isn't closed
pub record Closed (m : Mind) (channel : List ℕ) : Type 0 where
  pub part : Part
  pub found : part_with channel m.parts ≡ Some part
  pub idle : unfinished stages (facts_of m) ≡ None
  pub runs : (stages.stage (facts_of m) part == running part) ≡ true
  pub standing : (p : Part) → In p m.parts → standing_part stages (facts_of m) (own_channel part) p ≡ None

pub closed : (m : Mind) (channel : List ℕ) → None ≡ close_part stages m (part_with channel m.parts) → Closed m channel
closed m channel taken = go (part_with channel m.parts) refl taken
  where
    go : (o : Option Part) → part_with channel m.parts ≡ o → None ≡ close_part stages m o → Closed m channel
    go None is e = absurd (none-eq _ e)
    go (Some q) is e =
        let after-open = rest_none (not_open stages (facts_of m)) _ (sym e) in
        let after-left = rest_none (has_left m) _ after-open in
        let after-unfinished = rest_none (unfinished stages (facts_of m)) _ after-left in
        record {
          part = q;
          found = is;
          idle = first_none (unfinished stages (facts_of m)) _ after-left;
          runs = runs-so m q (first_none (not_running stages (facts_of m) (Some q)) _ after-unfinished);
          standing = each-none (standing_part stages (facts_of m) (own_channel q)) m.parts (rest_none (not_running stages (facts_of m) (Some q)) _ after-unfinished);
        }

-- ---- an accepted Release

-- the part of which the node lets go, which it may; and no part stands on the channel and isn't closed
pub record LetGo (m : Mind) (channel : List ℕ) : Type 0 where
  pub part : Part
  pub found : part_with channel m.parts ≡ Some part
  pub how : Release
  pub may : stages.releases (facts_of m) how part ≡ true
  pub standing : (p : Part) → In p m.parts → standing_part stages (facts_of m) (own_channel part) p ≡ None

pub let-go : (m : Mind) (channel : List ℕ) (how : Release) → None ≡ release_part stages m how (part_with channel m.parts) → LetGo m channel
let-go m channel how taken = go (part_with channel m.parts) refl taken
  where
    go : (o : Option Part) → part_with channel m.parts ≡ o → None ≡ release_part stages m how o → LetGo m channel
    go None is e = absurd (none-eq _ e)
    go (Some q) is e =
        let after-left = rest_none (has_left m) _ (sym e) in
        let test = fault_if (not (stages.releases (facts_of m) how q)) (NotWanted (stages.stage (facts_of m) q)) in
        record {
          part = q;
          found = is;
          how = how;
          may = not-false (stages.releases (facts_of m) how q)
              (holds_not (not (stages.releases (facts_of m) how q)) (NotWanted (stages.stage (facts_of m) q)) (first_none test _ after-left));
          standing = each-none (standing_part stages (facts_of m) (own_channel q)) m.parts (rest_none test _ after-left);
        }

-- the node lets go of no other part than a root
abbrev pub IsKept : FactsOf → Part → Type 0
IsKept f p = (how : Release) → stages.releases f how p ≡ true → ⊥

pub kept-on-ledger : (f : FactsOf) (l c : List ℕ) → IsKept f (kinds.OnLedger l c)
kept-on-ledger f l c Settle e = clash false e refl
kept-on-ledger f l c Abandon e = clash false e refl

pub kept-end : (f : FactsOf) (v : Virtual) → IsKept f (kinds.End v)
kept-end f v Settle e = clash false e refl
kept-end f v Abandon e = clash false e refl

pub kept-middle : (f : FactsOf) (v : Virtual) → IsKept f (kinds.Middle v)
kept-middle f v Settle e = clash false e refl
kept-middle f v Abandon e = clash false e refl

-- ---- an accepted payment

-- the event by which it was accepted
pub record PaidBy (d : Deed) (o : Option Command) (c : Command) : Type 0 where
  pub step : ℕ
  pub deed : d ≡ deeds.Commanded step None
  pub command : o ≡ Some c

pub paid-by : (d : Deed) (o : Option Command) (paid : List ℕ) (asset amount : ℕ) → payment_in d o ≡ Some (commands.Pay paid asset amount) → PaidBy d o (commands.Pay paid asset amount)
paid-by (deeds.Commanded step None) (Some (commands.Pay channel a n)) paid asset amount e = record { step = step; deed = refl; command = e }
paid-by (deeds.Commanded step None) (Some (commands.Open f outcome)) paid asset amount e = absurd (none-eq _ e)
paid-by (deeds.Commanded step None) (Some (commands.OpenOn o)) paid asset amount e = absurd (none-eq _ e)
paid-by (deeds.Commanded step None) (Some (commands.OpenVirtual v)) paid asset amount e = absurd (none-eq _ e)
paid-by (deeds.Commanded step None) (Some (commands.Close c)) paid asset amount e = absurd (none-eq _ e)
paid-by (deeds.Commanded step None) (Some (commands.Release how c)) paid asset amount e = absurd (none-eq _ e)
paid-by (deeds.Commanded step None) (Some (commands.Resend c)) paid asset amount e = absurd (none-eq _ e)
paid-by (deeds.Commanded step None) (Some commands.Exit) paid asset amount e = absurd (none-eq _ e)
paid-by (deeds.Commanded step None) None paid asset amount e = absurd (none-eq _ e)
paid-by (deeds.Commanded step (Some refusal)) o paid asset amount e = absurd (none-eq _ e)
paid-by (deeds.Handled bytes refusal) o paid asset amount e = absurd (none-eq _ e)
paid-by (deeds.Signed channel state signature) o paid asset amount e = absurd (none-eq _ e)
paid-by (deeds.SignedChallenge channel state who signature) o paid asset amount e = absurd (none-eq _ e)
paid-by (deeds.Called call) o paid asset amount e = absurd (none-eq _ e)
paid-by (deeds.Watched watcher calls) o paid asset amount e = absurd (none-eq _ e)

-- it is in a payment channel that is kept, of a part that runs
pub record Paid (m : Mind) (c : List ℕ) : Type 0 where
  pub kept : Kept
  pub keeps : kept_of c m.kept ≡ Some kept
  pub app : kept.chain.fixed.app ≡ 1
  pub part : Part
  pub there : In part m.parts
  pub joined : is_among c (joined_of part) ≡ true
  pub runs : (stages.stage (facts_of m) part == running part) ≡ true

pub paid-so : (s : Signing) (past : List Entry) (m : Mind) (used : ℕ) (waits : Option Command) (d : Deed) (o : Option Command) → Allowed stages real s past m used waits d o
    → (c : List ℕ) (asset amount : ℕ) → payment_in d o ≡ Some (commands.Pay c asset amount) → Paid m c
paid-so s past m used waits d o allowed c asset amount e = accepts (kept_of c m.kept) refl taken.1
  where
    by : PaidBy d o (commands.Pay c asset amount)
    by = paid-by d o c asset amount e

    taken : Allowed stages real s past m used waits (deeds.Commanded by.step None) (Some (commands.Pay c asset amount))
    taken =
        subst (λ (y : Option Command). Allowed stages real s past m used waits (deeds.Commanded by.step None) y) by.command
        (subst (λ (y : Deed). Allowed stages real s past m used waits y o) by.deed allowed)

    runs-in : (k : Kept) → kept_of c m.kept ≡ Some k → (k.chain.fixed.app == 1) ≡ true → (q : Option Part) → part_joined c m.parts ≡ q → not_running stages (facts_of m) q ≡ None → Paid m c
    runs-in k is app None found e = absurd (none-eq _ (sym e))
    runs-in k is app (Some q) found e = record {
      kept = k;
      keeps = is;
      app = eqb-true k.chain.fixed.app 1 app;
      part = q;
      there = find-in (λ (part : Part). is_among c (joined_of part)) m.parts q found;
      joined = found_passes (λ (part : Part). is_among c (joined_of part)) m.parts q found;
      runs = runs-so m q e;
    }

    can : Kept → Bool
    can k = is_payable real m c asset amount k (items_in asset (latest_outcome m c k))

    accepts : (y : Option Kept) → kept_of c m.kept ≡ y → None ≡ pay_refusal stages real s.limit used m c asset amount y → Paid m c
    accepts None is e = absurd (none-eq UnknownChannel e)
    accepts (Some k) is e =
        let a = rest_none (not_open stages (facts_of m)) _ (sym e) in
        let b = rest_none (fault_if (not (mover (people k.chain.fixed) (next_of k) == k.me)) (NotNext (next_of k))) _ a in
        let f = rest_none (fault_if (not (can k)) NotAStep) _ b in
        let g = rest_none (has_left m) _ f in
        let fits : can k ≡ true = not-false (can k) (holds_not (not (can k)) NotAStep (first_none (fault_if (not (can k)) NotAStep) _ b)) in
        runs-in k is (and-left (k.chain.fixed.app == 1) (nat_lt (next_of k) (2 ^ 48)) (and-left (k.chain.fixed.app == 1 && nat_lt (next_of k) (2 ^ 48)) _ fits)) (part_joined c m.parts) refl
        (first_none (not_running stages (facts_of m) (part_joined c m.parts)) _ g)
