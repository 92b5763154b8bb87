-- A final channel has settled on an outcome, whose digest its row records, and which stands in an entry.
use Rattle.std.proofs.Common.{◌≡◌, ℕ, Bool, true, false, List, [], ◌∷◌, ◌++◌, refl, sym, ◌∙◌, ap, subst, inl, inr}
use Rattle.std.specs.Prelude.{map, Some}
use Rattle.channel_values.specs.Parts.{FixedParts, StateParts}
use Rattle.channel_values.specs.declared.chain.Mark.{Mark}
use Rattle.channel_values.specs.declared.value.AssetOutcome.{AssetOutcome}
use Rattle.call_history.specs.declared.standing.Standing.TheVariants.{Final}
use Rattle.channel_values.specs.Rows.{last_of}
use Rattle.channel_values.specs.Rules.{Rules, top_outcome}
use Rattle.channel_values.specs.Support.{supports}
use Rattle.call_history.specs.Rows.{fixed_of, turned}
use Rattle.call_history.specs.History.{Legal, is_accepted, now_of, is_named, turning, row, mode, settles, settled}
use Rattle.call_history.specs.Marked.{is_supported}
use Rattle.call_history.specs.declared.call.Call.TheVariants.{Challenge, Respond, Refute, Checkpoint, Conclude}
use Rattle.call_history.specs.declared.call.Op.{Op}
use Rattle.call_history.specs.declared.call.Op.TheVariants as ops
use Rattle.call_history.specs.declared.row.Row.{Row}
use Rattle.call_history.specs.declared.entry.Entry.{Entry}
use Rattle.channel_safety.specs.Journals.{In}
use Rattle.channel_safety.specs.Strings.{outcomes_in}
use Rattle.channel_safety.specs.Occurring.{OccursOutcome}
use Rattle.channel_safety.specs.Settled.{SettlesOnOccurring, FinalOutcomesAreTold}
use Rattle.channel_safety.proofs.Tests.{cond-false, cond-true, and-left, and-right}
use Rattle.channel_safety.proofs.Final.{mode-final}
use Rattle.channel_safety.proofs.Replies.{taken, conclude_ok, challenge_ok}

last-in : (s : StateParts) (ss : List StateParts) → In (last_of s ss).outcome (s.outcome ∷ map (λ x. x.outcome) ss)
last-in s [] = inl refl
last-in s (t ∷ ts) = inr (last-in t ts)

top-in : (r : Rules) (f : FixedParts) (states : List StateParts) (marks : List Mark) → is_supported r f (record { states = states; marks = marks }) ≡ true →
    In (top_outcome states) (map (λ x. x.outcome) states)
unfolding supports
top-in r f [] marks h = cc
top-in r f (s ∷ ss) marks h = last-in s ss

occurs-later : (past : List Entry) (e : Entry) (o : List AssetOutcome) → OccursOutcome past o → OccursOutcome (e ∷ past) o
occurs-later past e o x = (x.0, inr x.1, x.2)

settled_by : (r : Rules) (c : List ℕ) (past : List Entry) (d : ℕ) → Legal r past → (row r c past).deadline ≡ Some d → SettlesOnOccurring r c past
settled_by r c [] d legal h = cc
settled_by r c (e ∷ past) d legal h = go (turning r c e) refl (settled_by r c past d legal.0)
  where
    before : turning r c e ≡ false → SettlesOnOccurring r c past → SettlesOnOccurring r c (e ∷ past)
    before t s = record {
      outcome = s.outcome;
      is = cond-false (turning r c e) (settles e.op (settled r c past)) (settled r c past) t ∙ s.is;
      recorded = ap (λ (x : Row). x.outcome_digest) (cond-false (turning r c e) (turned r (now_of past) e.op (row r c past)) (row r c past) t) ∙ s.recorded;
      occurs = occurs-later past e s.outcome s.occurs;
    }

    ends : turning r c e ≡ true → (op : Op) → e.op ≡ op → (o : List AssetOutcome) → settles op (settled r c past) ≡ Some o →
        (turned r (now_of past) op (row r c past)).outcome_digest ≡ r.outcome_digest o → In o (outcomes_in op) → SettlesOnOccurring r c (e ∷ past)
    ends t op is o s g i = record {
      outcome = o;
      is = cond-true (turning r c e) (settles e.op (settled r c past)) (settled r c past) t ∙ (ap (λ (x : Op). settles x (settled r c past)) is ∙ s);
      recorded =
          ap (λ (x : Row). x.outcome_digest) (cond-true (turning r c e) (turned r (now_of past) e.op (row r c past)) (row r c past) t)
          ∙ (ap (λ (x : Op). (turned r (now_of past) x (row r c past)).outcome_digest) is ∙ g);
      occurs = (e, inl refl, subst (λ (x : Op). In o (outcomes_in x)) (sym is) i);
    }

    -- the deadline after the entry, and its name
    at : turning r c e ≡ true → (op : Op) → e.op ≡ op → (turned r (now_of past) op (row r c past)).deadline ≡ Some d
    at t op is =
        sym (ap (λ (x : Row). x.deadline) (cond-true (turning r c e) (turned r (now_of past) e.op (row r c past)) (row r c past) t)
        ∙ ap (λ (x : Op). (turned r (now_of past) x (row r c past)).deadline) is) ∙ h

    named : turning r c e ≡ true → (op : Op) → e.op ≡ op → is_named r c (fixed_of op) ≡ true
    named t op is = subst (λ (x : Op). is_named r c (fixed_of x) ≡ true) is (and-right (is_accepted e.reply) (is_named r c (fixed_of e.op)) t)

    accepted : turning r c e ≡ true → is_accepted e.reply ≡ true
    accepted t = and-left (is_accepted e.reply) (is_named r c (fixed_of e.op)) t

    by_op : turning r c e ≡ true → (op : Op) → e.op ≡ op → (turned r (now_of past) op (row r c past)).deadline ≡ Some d → is_named r c (fixed_of op) ≡ true →
        SettlesOnOccurring r c (e ∷ past)
    by_op t (ops.Call (Challenge k)) is at n =
        ends t (ops.Call (Challenge k)) is (top_outcome k.chain.states) refl refl
        (top-in r k.chain.fixed k.chain.states k.chain.marks (challenge_ok r past k.chain k.challenger k.signature (taken r past e (Challenge k) legal is (accepted t))).supported)
    by_op t (ops.Call (Conclude chain)) is at n =
        ends t (ops.Call (Conclude chain)) is (top_outcome chain.states) refl refl
        (top-in r chain.fixed chain.states chain.marks (conclude_ok r past chain (taken r past e (Conclude chain) legal is (accepted t))).0)
    by_op t (ops.Call (Respond k)) is at n = cc
    by_op t (ops.Call (Refute fixed next)) is at n = cc
    by_op t (ops.Call (Checkpoint chain)) is at n = cc
    by_op t op is at n = cc

    go : (b : Bool) → turning r c e ≡ b → ((row r c past).deadline ≡ Some d → SettlesOnOccurring r c past) → SettlesOnOccurring r c (e ∷ past)
    go true t rec = by_op t e.op refl (at t e.op refl) (named t e.op refl)
    go false t rec = before t (rec (sym (ap (λ (x : Row). x.deadline) (cond-false (turning r c e) (turned r (now_of past) e.op (row r c past)) (row r c past) t)) ∙ h))

settled_final : (r : Rules) (c : List ℕ) (past : List Entry) → Legal r past → mode r c past ≡ Final → SettlesOnOccurring r c past
settled_final r c past legal h = let d = mode-final (row r c past).deadline (now_of past) h in settled_by r c past d.0 legal d.1

occurs-after : (later past : List Entry) (o : List AssetOutcome) → OccursOutcome past o → OccursOutcome (later ++ past) o
occurs-after [] past o x = x
occurs-after (e ∷ later) past o x = occurs-later (later ++ past) e o (occurs-after later past o x)

pub final-told : FinalOutcomesAreTold
final-told = record {
  settles = settled_final;
  told = λ r c later past journal o legal distinct final occurs digest. (
      let s = settled_final r c past legal final in
      s.is ∙ ap (λ (x : List AssetOutcome). Some x)
      (distinct.outcomes s.outcome o (occurs-after later past s.outcome s.occurs) occurs (sym s.recorded ∙ digest))
      );
}
