-- The network's rules, so that they compute: digests and signatures of the example are looked up.
use Rattle.std.proofs.Common.{◌≡◌, ℕ, Bool, true, false, not, ◌&&◌, ◌||◌, cond, List, [], ◌∷◌, length, map, refl, sym, ◌∙◌, ap, subst}
use Rattle.std.specs.Prelude.{Option}
use Rattle.std.specs.List.{AllByRecursion}
use Rattle.std.specs.Str.{bytes_eq}
use mathlib.Core.Path.{fun_ext}
use Rattle.sha2.specs.Sha256.{sha256}
use Rattle.channel_values.specs.Parts.{FixedParts, StateParts}
use Rattle.channel_values.specs.Spelling.{fixed, state, outcome}
use Rattle.channel_values.specs.declared.fault.StepFault.{StepFault}
use Rattle.channel_values.specs.declared.fault.StepFault.TheVariants as faults
use Rattle.channel_values.specs.Digests.{channel_string, person_string, state_string, outcome_string, name_of_channel, name_of_person, digest_of_state, digest_of_outcome}
use Rattle.lms_signatures.specs.IsSigned.{is_signed}
use Rattle.channel_values.specs.Rows.{mover}
use Rattle.channel_values.specs.Rules.{Rules, KeepsFinal}
use Rattle.channel_values.specs.Words.{fault_if, ◌⊳◌}
use Rattle.call_history.proofs.Names.{same_bytes}
use Rattle.support_rules.specs.Rules.{app_fault}
use Rattle.support_rules.specs.Real.{real}
use Rattle.support_rules.specs.Steps.{is_set_up, repeat_fault, step_fault}
use Rattle.support_rules.proofs.Finals.{real_keeps_final}
use Rattle.share_laws.specs.Finality.{StepsKeepPossible}
use Rattle.node_guarantees.proofs.RealShares.{steps_possible}
use Rattle.further_laws.proofs.Digests.{key_a, a, hash, hash-is, person-a}
use Rattle.further_laws.proofs.KeyA as own
use Rattle.further_laws.proofs.KeyB as others

-- ---- signatures

record Signed : Type 0 where
  key : List ℕ
  message : List ℕ
  signature : List ℕ

abbrev by_a : List ℕ → List ℕ → Signed
by_a message signature = record { key = own.key; message = message; signature = signature }

abbrev by_b : List ℕ → List ℕ → Signed
by_b message signature = record { key = others.key; message = message; signature = signature }

abbrev all_signed : List Signed
all_signed =
    by_a own.message_0 own.signature_0 ∷ by_b others.message_1 others.signature_1 ∷ by_a own.message_2 own.signature_2 ∷ by_b others.message_3 others.signature_3
    ∷ by_a own.message_4 own.signature_4 ∷ by_b others.message_5 others.signature_5 ∷ by_a own.message_6 own.signature_6
    ∷ by_b others.message_4_1 others.signature_4_1 ∷ by_a own.message_6_0 own.signature_6_0 ∷ []

all-verify : AllByRecursion (λ x. is_signed x.key x.message x.signature ≡ true) all_signed
all-verify = (own.signs_0, (others.signs_1, (own.signs_2, (others.signs_3, (own.signs_4, (others.signs_5, (own.signs_6, (others.signs_4_1, (own.signs_6_0, tt)))))))))

-- whether a signature verifies, looked up where it is one of these
abbrev looked_up : List Signed → (key message signature : List ℕ) → Bool
looked_up [] key message signature = is_signed key message signature
looked_up (x ∷ rest) key message signature =
    cond (bytes_eq x.message message && (bytes_eq x.key key && bytes_eq x.signature signature)) true (looked_up rest key message signature)

looked-up : (xs : List Signed) → AllByRecursion (λ x. is_signed x.key x.message x.signature ≡ true) xs → (key message signature : List ℕ) → looked_up xs key message signature ≡ is_signed key message signature
looked-up [] verify key message signature = refl
looked-up (x ∷ rest) verify key message signature =
    go (bytes_eq x.message message) (bytes_eq x.key key) (bytes_eq x.signature signature) (same_bytes x.message message) (same_bytes x.key key) (same_bytes x.signature signature)
    (looked-up rest verify.1 key message signature)
  where
    go : (t u v : Bool) → (t ≡ true → x.message ≡ message) → (u ≡ true → x.key ≡ key) → (v ≡ true → x.signature ≡ signature)
        → looked_up rest key message signature ≡ is_signed key message signature → cond (t && (u && v)) true (looked_up rest key message signature) ≡ is_signed key message signature
    go true true true p q r later =
        sym verify.0
        ∙ (ap (λ (k : List ℕ). is_signed k x.message x.signature) (q refl)
        ∙ (ap (λ (m : List ℕ). is_signed key m x.signature) (p refl) ∙ ap (λ (s : List ℕ). is_signed key message s) (r refl)))
    go true true false p q r later = later
    go true false v p q r later = later
    go false u v p q r later = later

abbrev verifies : (key message signature : List ℕ) → Bool
verifies key message signature = looked_up all_signed key message signature

verifies-is : verifies ≡ is_signed
verifies-is = fun_ext (λ key. fun_ext (λ message. fun_ext (λ signature. looked-up all_signed all-verify key message signature)))

-- ---- the rules

abbrev step_by : (people : List (List ℕ)) → FixedParts → StateParts → StateParts → Option StepFault
step_by people f s t =
    fault_if (s.is_final && not t.is_final) faults.AfterFinal
    ⊳ fault_if (t.is_final && is_set_up (length f.keys) t.turn) faults.EarlyFinal
    ⊳ cond (is_set_up (length f.keys) t.turn || t.is_final) (repeat_fault s t) (app_fault f.app people (mover (length f.keys) t.turn) s t)

-- the network's, with this hash and this test of signatures
abbrev rules_by : (List ℕ → List ℕ) → (List ℕ → List ℕ → List ℕ → Bool) → Rules
rules_by h v =
    record {
      verifies = v;
      named = λ f. h (channel_string (fixed f));
      digest = λ channel s. h (state_string channel (state s));
      outcome_digest = λ o. h (outcome_string (outcome o));
      step = λ f s t. step_by (map (λ key. h (person_string key)) f.keys) f s t;
    }

abbrev pub rules : Rules
rules = rules_by hash verifies

pub are-real : rules ≡ real
unfolding name_of_channel name_of_person digest_of_state digest_of_outcome step_fault
are-real = ap (λ (h : List ℕ → List ℕ). rules_by h verifies) hash-is ∙ ap (λ (v : List ℕ → List ℕ → List ℕ → Bool). rules_by sha256 v) verifies-is

pub keeps_final : KeepsFinal rules
keeps_final = subst KeepsFinal (sym are-real) real_keeps_final

pub keeps_possible : StepsKeepPossible rules key_a a
keeps_possible = subst (λ (r : Rules). StepsKeepPossible r key_a a) (sym are-real) (subst (λ (m : List ℕ). StepsKeepPossible real key_a m) person-a (steps_possible key_a))
