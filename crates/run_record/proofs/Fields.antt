-- The format of flags.
use Rattle.std.proofs.Common.{◌≡◌, ℕ, Bool, true, false, eqb, List, [], ◌∷◌, ◌++◌, Ok, refl, subst, inl, inr}
use Rattle.std.proofs.lemmas.Bool.{eqb-true}
use Rattle.channel_values.specs.Outcomes.{AreBytes}
use Rattle.channel_values.specs.Spelling.{flag}
use Rattle.channel_values.specs.Reading.{byte_at, flag_at}
use Rattle.channel_values.proofs.Fields.{bind_ok, ok_is, Takes, byte_takes}
use Rattle.channel_values.proofs.Takes.{chosen}
use Rattle.channel_values.proofs.Format.{IsFormat}

flag_takes : (whole : ℕ) (bytes : List ℕ) (x : Bool × List ℕ) → AreBytes bytes → flag_at whole bytes ≡ Ok x → Takes bytes (flag x.0) x.1 × Unit {0}
unfolding flag_at
flag_takes whole bytes x fits e =
    let a = bind_ok (byte_at whole bytes) _ x e in
    let t = byte_takes whole bytes a.0 fits a.1 in
    elim (chosen (eqb a.0.0 0) _ _ (Ok x) a.2) [
      | inl p ↦ (subst (λ (y : Bool × List ℕ). Takes bytes (flag y.0) y.1) (ok_is (false, a.0.1) x p.1) (subst (λ (k : ℕ). Takes bytes (k ∷ []) a.0.1) (eqb-true _ _ p.0) t.0), tt)
      | inr q ↦
          elim (chosen (eqb a.0.0 1) _ _ (Ok x) q.1) [
            | inl p ↦ (subst (λ (y : Bool × List ℕ). Takes bytes (flag y.0) y.1) (ok_is (true, a.0.1) x p.1) (subst (λ (k : ℕ). Takes bytes (k ∷ []) a.0.1) (eqb-true _ _ p.0) t.0), tt)
            | inr r ↦ absurd (let never = r.1 in cc)
          ]
    ]

flag_again : (whole : ℕ) (b : Bool) (rest : List ℕ) → Unit {0} → flag_at whole (flag b ++ rest) ≡ Ok (b, rest)
unfolding flag_at
flag_again whole true rest valid = refl
flag_again whole false rest valid = refl

pub flag_format : IsFormat flag_at flag (λ b. Unit {0})
flag_format = record { takes = flag_takes; again = flag_again }
