-- A final channel stays final, and its row, settled outcome and rest stay.
use Rattle.std.proofs.Common.{◌≡◌, ℕ, ◌≤◌, Bool, true, false, cond, List, [], ◌∷◌, refl, ◌∙◌, ap, subst, arith}
use Rattle.std.specs.Prelude.{nat_le, Option, Some, None}
use Rattle.channel_values.specs.declared.chain.Chain.{Chain}
use Rattle.call_history.specs.Mode.{mode_at, is_final, is_challenged}
use Rattle.call_history.specs.declared.standing.Standing.{Standing}
use Rattle.call_history.specs.declared.standing.Standing.TheVariants.{Open, Challenged, Final}
use Rattle.channel_values.specs.Rules.{Rules}
use Rattle.call_history.specs.Rows.{fixed_of, turned}
use Rattle.call_history.specs.History.{Legal, is_accepted, now_of, is_named, turning, row, mode, settles, settled, call_reply}
use Rattle.call_history.specs.declared.call.Call.TheVariants.{Challenge, Respond, Refute, Checkpoint, Conclude}
use Rattle.call_history.specs.declared.call.Op.{Op}
use Rattle.call_history.specs.declared.call.Op.TheVariants as ops
use Rattle.call_history.specs.Replies as replies
use Rattle.call_history.specs.declared.refusal.Refusal.TheVariants.{IsFinal}
use Rattle.call_history.specs.declared.refusal.Reply.TheVariants.{Concluded}
use Rattle.call_history.specs.declared.row.Row.{Row}
use Rattle.call_history.specs.declared.entry.Entry.{Entry}
use Rattle.call_history.proofs.Names.{same_bytes}
use Rattle.channel_safety.proofs.Tests.{cond-false, and-left, and-right, clash, le-true, true-le}
use Rattle.channel_safety.proofs.Rowing.{now-rises, passes, told-ok}
use Rattle.channel_safety.proofs.Replies.{taken, challenge_ok, checkpoint_ok, respond_ok, refute_ok}

not_both : (s : Standing) → is_final s ≡ true → is_challenged s ≡ true → ⊥
not_both Open h k = cc
not_both Challenged h k = cc
not_both Final h k = cc

conclude_still : (r : Rules) (past : List Entry) (chain : Chain) → is_accepted (call_reply r past (Conclude chain)) ≡ true → is_final (mode r (r.named chain.fixed) past) ≡ false
conclude_still r past chain h =
    let old : Row = row r (r.named chain.fixed) past in
    let v = told-ok (λ (new : Row). Concluded new.turn) (replies.conclude r old (now_of past) chain) h in
    (passes (is_final (mode r (r.named chain.fixed) past)) IsFinal _ v.0 v.1).0

module _ (r : Rules) (c : List ℕ) (past : List Entry) (e : Entry) (legal : Legal r (e ∷ past)) (final : is_final (mode r c past) ≡ true) where
  no_call : (op : Op) → e.op ≡ op → is_accepted e.reply ≡ true → is_named r c (fixed_of op) ≡ true → ⊥
  no_call (ops.Call (Challenge k)) is ok named = clash (is_final (mode r c past)) final
      (subst (λ (n : List ℕ). is_final (mode r n past) ≡ false) (same_bytes (r.named k.chain.fixed) c named)
      (challenge_ok r past k.chain k.challenger k.signature (taken r past e (Challenge k) legal is ok)).still)
  no_call (ops.Call (Respond k)) is ok named = not_both (mode r c past) final
      (subst (λ (n : List ℕ). is_challenged (mode r n past) ≡ true) (same_bytes (r.named k.fixed) c named)
      (respond_ok r past k.fixed k.from k.next (taken r past e (Respond k) legal is ok)).challenged)
  no_call (ops.Call (Refute fixed next)) is ok named = not_both (mode r c past) final
      (subst (λ (n : List ℕ). is_challenged (mode r n past) ≡ true) (same_bytes (r.named fixed) c named)
      (refute_ok r past fixed next (taken r past e (Refute fixed next) legal is ok)).challenged)
  no_call (ops.Call (Checkpoint chain)) is ok named = clash (is_final (mode r c past)) final
      (subst (λ (n : List ℕ). is_final (mode r n past) ≡ false) (same_bytes (r.named chain.fixed) c named)
      (checkpoint_ok r past chain (taken r past e (Checkpoint chain) legal is ok)).still)
  no_call (ops.Call (Conclude chain)) is ok named = clash (is_final (mode r c past)) final
      (subst (λ (n : List ℕ). is_final (mode r n past) ≡ false) (same_bytes (r.named chain.fixed) c named)
      (conclude_still r past chain (taken r past e (Conclude chain) legal is ok)))
  no_call op is ok named = cc

  pub final-quiet : turning r c e ≡ false
  final-quiet = go (turning r c e) refl
    where
      go : (b : Bool) → turning r c e ≡ b → b ≡ false
      go true t = absurd (no_call e.op refl (and-left (is_accepted e.reply) (is_named r c (fixed_of e.op)) t) (and-right (is_accepted e.reply) (is_named r c (fixed_of e.op)) t))
      go false t = refl

  later : (d : Option ℕ) (now then' : ℕ) → now ≤ then' → is_final (mode_at d now) ≡ true → is_final (mode_at d then') ≡ true
  later None now then' le h = cc
  later (Some d) now then' le h = go (nat_le d now) refl h
    where
      go : (b : Bool) → nat_le d now ≡ b → is_final (cond b Final Challenged) ≡ true → is_final (cond (nat_le d then') Final Challenged) ≡ true
      go true n k = let l : d ≤ now = le-true d now n in ap (λ (b : Bool). is_final (cond b Final Challenged)) (true-le d then' (omega arith))
      go false n k = cc

  pub final-stays : is_final (mode r c (e ∷ past)) ≡ true
  final-stays =
      let up : now_of past ≤ now_of (e ∷ past) = now-rises r (e ∷ []) past legal in
      ap (λ (x : Row). is_final (mode_at x.deadline (now_of (e ∷ past)))) (cond-false (turning r c e) (turned r (now_of past) e.op (row r c past)) (row r c past) final-quiet)
      ∙ later (row r c past).deadline (now_of past) (now_of (e ∷ past)) up final

  pub final-settled : settled r c (e ∷ past) ≡ settled r c past
  final-settled = cond-false (turning r c e) (settles e.op (settled r c past)) (settled r c past) final-quiet
