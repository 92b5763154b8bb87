-- What every step of the program keeps of final states.
use Rattle.std.proofs.Common.{◌≡◌, ℕ, ◌*◌, ◌≤◌, Bool, true, false, cond, refl, sym, arith}
use Rattle.std.specs.Prelude.{Option, None, not, ◌&&◌, ◌||◌, length, nat_lt}
use Rattle.std.proofs.lemmas.Bool.Decides.{nat_tests}
use Rattle.channel_values.specs.Parts.{FixedParts, StateParts}
use Rattle.channel_values.specs.declared.fault.StepFault.{StepFault}
use Rattle.channel_values.specs.declared.fault.StepFault.TheVariants as faults
use Rattle.channel_values.specs.Words.{fault_if, ◌⊳◌}
use Rattle.channel_values.specs.Rows.{mover}
use Rattle.channel_values.specs.Rules.{people, KeepsFinal}
use Rattle.support_rules.specs.Rules.{app_fault}
use Rattle.support_rules.specs.Steps.{persons, is_set_up, repeat_fault, step_fault}
use Rattle.channel_values.proofs.Lines.{both_none, unbroken}
use Rattle.support_rules.proofs.Kept.{repeats}
use Rattle.support_rules.specs.Real.{real}

-- the lines of a step that is one
pub record Lines (f : FixedParts) (s t : StateParts) : Type 0 where
  pub after : (s.is_final && not t.is_final) ≡ false
  pub early : (t.is_final && is_set_up (length f.keys) t.turn) ≡ false
  pub rest : cond (is_set_up (length f.keys) t.turn || t.is_final) (repeat_fault s t) (app_fault f.app (persons f) (mover (length f.keys) t.turn) s t) ≡ None

lines : (f : FixedParts) (s t : StateParts) → step_fault f s t ≡ None → Lines f s t
unfolding step_fault
lines f s t h =
    let rest = cond (is_set_up (length f.keys) t.turn || t.is_final) (repeat_fault s t) (app_fault f.app (persons f) (mover (length f.keys) t.turn) s t) in
    let l = both_none (fault_if (s.is_final && not t.is_final) faults.AfterFinal) (fault_if (t.is_final && is_set_up (length f.keys) t.turn) faults.EarlyFinal ⊳ rest) h in
    let m = both_none (fault_if (t.is_final && is_set_up (length f.keys) t.turn) faults.EarlyFinal) rest l.1 in
    record {
      after = unbroken (s.is_final && not t.is_final) faults.AfterFinal l.0;
      early = unbroken (t.is_final && is_set_up (length f.keys) t.turn) faults.EarlyFinal m.0;
      rest = m.1;
    }

stays_final : (a b : Bool) → (a && not b) ≡ false → a ≡ true → b ≡ true
stays_final true true h e = refl
stays_final true false h e = absurd cc
stays_final false b h e = absurd cc

late_final : (b : Bool) (n turn : ℕ) → (b && nat_lt turn n) ≡ false → b ≡ true → n ≤ turn
late_final true n turn h e = grind (arith, nat_tests)
late_final false n turn h e = absurd cc

repeats_final : (a b : Bool) (x y : Option StepFault) → cond (a || b) x y ≡ None → b ≡ true → x ≡ None
repeats_final true b x y h e = h
repeats_final false true x y h e = h
repeats_final false false x y h e = absurd cc

pub real_keeps_final : KeepsFinal real
real_keeps_final = record {
  stays = λ f s t h e. stays_final s.is_final t.is_final (lines f s t h).after e;
  same = λ f s t hs ht h e. sym (repeats s t hs ht (repeats_final (is_set_up (length f.keys) t.turn) t.is_final (repeat_fault s t) (app_fault f.app (persons f) (mover (length f.keys) t.turn) s t) (lines f s t h).rest e)).outcome;
  late = λ f s t h e. late_final t.is_final (2 * people f) t.turn (lines f s t h).early e;
}
