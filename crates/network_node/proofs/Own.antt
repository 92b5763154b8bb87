-- A state that the node signs where its rules give it passes the store's tests.
use Rattle.std.proofs.Common.{◌≡◌, ℕ, zero, suc, Bool, true, false, cond, not, ◌&&◌, List, [], ◌∷◌, refl, sym, ◌∙◌, ap, subst}
use Rattle.std.specs.Prelude.{◌==◌, is_none, Option, Some, None}
use Rattle.std.specs.List.{slice_get}
use Rattle.std.specs.Option.{option_map}
use Rattle.channel_values.specs.Parts.{StateParts}
use Rattle.channel_values.specs.declared.chain.Signed.{Signed}
use Rattle.channel_values.specs.declared.fault.StepFault.{StepFault}
use Rattle.channel_safety.proofs.Tests.{none-eq, some-eq, and-left, and-right, eqb-true}
use Rattle.call_history.proofs.Names.{same_bytes}
use Rattle.channel_values.specs.Rows.{mover}
use Rattle.channel_values.specs.Rules.{people, signs, is_signed_well}
use Rattle.channel_values.specs.Words.{fault_if, ◌⊳◌}
use Rattle.channel_values.specs.Messages.{message_of_state}
use Rattle.channel_store.specs.Keeping.{is_ended, next_of, step_of}
use Rattle.channel_store.specs.Storing.{is_of, place_of, kept_of}
use Rattle.channel_store.specs.Noting.{refusal_at, refusal_of}
use Rattle.channel_store.specs.declared.fault.NoteFault.TheVariants as faults
use Rattle.channel_store.specs.declared.kept.Kept.{Kept}
use Rattle.node_knowledge.specs.Owned.{IsOwned, AreOwned}
use Rattle.channel_node.specs.Minds.{Mind, facts_of}
use Rattle.channel_node.specs.Refusing.{is_open, stands_in, follows, can_sign, if_signable, signs_of, wish}
use Rattle.channel_node.specs.Answers.{IsWanted}
use Rattle.stage_tables.specs.Stages.{stages}
use Rattle.channel_store.proofs.Keeping.{named as found_named}
use Rattle.channel_store.proofs.Places.{found_passes}
use Rattle.support_rules.specs.Real.{real}

-- the tests of the store, one by one
passed : (ended next well : Bool) (k : Kept) (step : Option StepFault) → ended ≡ false → next ≡ true → well ≡ true → step ≡ None
    → (fault_if ended (faults.NotNext 0) ⊳ fault_if (not next) (faults.NotNext (next_of k)) ⊳ fault_if (not well) faults.BadSignature ⊳ option_map faults.BadStep step) ≡ None
passed ended next well k step e n w s =
    ap (λ (b : Bool). fault_if b (faults.NotNext 0) ⊳ fault_if (not next) (faults.NotNext (next_of k)) ⊳ fault_if (not well) faults.BadSignature ⊳ option_map faults.BadStep step) e
    ∙ (ap (λ (b : Bool). fault_if (not b) (faults.NotNext (next_of k)) ⊳ fault_if (not well) faults.BadSignature ⊳ option_map faults.BadStep step) n
    ∙ (ap (λ (b : Bool). fault_if (not b) faults.BadSignature ⊳ option_map faults.BadStep step) w ∙ ap (option_map faults.BadStep) s))

not-then : (b : Bool) → not b ≡ true → b ≡ false
not-then true e = sym e
not-then false e = refl

none-there : (o : Option StepFault) → is_none o ≡ true → o ≡ None
none-there None e = refl
none-there (Some fault) e = absurd cc

owned-at : (key : List ℕ) (kept : List Kept) (i : ℕ) (k : Kept) → AreOwned key kept → slice_get kept i ≡ Some k → IsOwned key k
owned-at key [] i k all e = absurd (none-eq k e)
owned-at key (x ∷ xs) zero k all e = subst (IsOwned key) (some-eq x k e) all.0
owned-at key (x ∷ xs) (suc i) k all e = owned-at key xs i k all.1 e

module _ (key : List ℕ) (m : Mind) (channel : List ℕ) (state : StateParts) (signature : List ℕ) (wanted : IsWanted stages real m channel state)
    (verifies : real.verifies key (message_of_state (real.digest channel state)) signature ≡ true) (owned : AreOwned key m.kept) where
  abbrev signed : Signed
  signed = record { state = state; signature = signature }

  at : (o : Option Kept) → kept_of channel m.kept ≡ o → signs_of stages real wanted.waits m channel o ≡ Some state → refusal_at real signed o ≡ None
  at None there e = absurd (none-eq state e)
  at (Some k) there e = wished (wish stages wanted.waits m channel k) e
    where
      own : IsOwned key k
      own = owned-at key m.kept (place_of channel m.kept) k owned there

      named : real.named k.chain.fixed ≡ channel
      named = own.named ∙ same_bytes k.channel channel (found_passes (is_of channel) m.kept k (sym (found_named channel m.kept) ∙ there))

      by : can_sign real (facts_of m) channel k state ≡ true → refusal_at real signed (Some k) ≡ None
      by can =
          let goes : follows real k state ≡ true = and-left (follows real k state) (((state.turn == next_of k) && (mover (people k.chain.fixed) state.turn == k.me)) && is_open (stands_in (facts_of m) channel)) can in
          let rest = and-right (follows real k state) (((state.turn == next_of k) && (mover (people k.chain.fixed) state.turn == k.me)) && is_open (stands_in (facts_of m) channel)) can in
          let both = and-left ((state.turn == next_of k) && (mover (people k.chain.fixed) state.turn == k.me)) (is_open (stands_in (facts_of m) channel)) rest in
          let next : (state.turn == next_of k) ≡ true = and-left (state.turn == next_of k) (mover (people k.chain.fixed) state.turn == k.me) both in
          let moves : mover (people k.chain.fixed) state.turn ≡ k.me =
          eqb-true (mover (people k.chain.fixed) state.turn) k.me (and-right (state.turn == next_of k) (mover (people k.chain.fixed) state.turn == k.me) both) in
          let well : is_signed_well real k.chain.fixed signed ≡ true =
          ap (λ (o : Option (List ℕ)). signs real o (message_of_state (real.digest (real.named k.chain.fixed) state)) signature) (ap (slice_get k.chain.fixed.keys) moves ∙ own.mine)
          ∙ (ap (λ (n : List ℕ). real.verifies key (message_of_state (real.digest n state)) signature) named ∙ verifies) in
          passed (is_ended k) (state.turn == next_of k) (is_signed_well real k.chain.fixed signed) k (step_of real k state)
          (not-then (is_ended k) (and-left (not (is_ended k)) (is_none (step_of real k state)) goes)) next well (none-there (step_of real k state) (and-right (not (is_ended k)) (is_none (step_of real k state)) goes))

      wished : (w : Option StateParts) → if_signable real (facts_of m) channel k w ≡ Some state → refusal_at real signed (Some k) ≡ None
      wished None e = absurd (none-eq state e)
      wished (Some t) e = test (can_sign real (facts_of m) channel k t) refl e
        where
          test : (b : Bool) → can_sign real (facts_of m) channel k t ≡ b → cond b (Some t) None ≡ Some state → refusal_at real signed (Some k) ≡ None
          test true can e = by (subst (λ (z : StateParts). can_sign real (facts_of m) channel k z ≡ true) (some-eq t state e) can)
          test false can e = absurd (none-eq state e)

  pub passes : refusal_of real channel signed m.kept ≡ None
  passes = at (kept_of channel m.kept) refl wanted.is
