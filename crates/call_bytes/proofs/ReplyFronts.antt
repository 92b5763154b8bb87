-- A front of a reply's bytes is read as the bytes themselves are, or its fault is that it ends.
use Rattle.std.proofs.Common.{ℕ, ◌-◌, ◌++◌, ◌&&◌, ◌||◌, not, Bool, true, false, eqb, ltb, length, List, [], Option, Some, None, Result, refl, inr}
use Rattle.std.specs.Int.{w64}
use Rattle.std.specs.Prelude.{is_some}
use Rattle.channel_values.specs.declared.fault.ByteFault.{ByteFault}
use Rattle.channel_values.specs.declared.fault.ByteFault.TheVariants as faults
use Rattle.channel_values.specs.Reading.{◌>>=◌, fault_if}
use Rattle.channel_values.proofs.Fronts.{GoesOn, IsSteady, then_on, if_on, byte_on, front_on, number_on}
use Rattle.call_bytes.specs.Numbers.{step_of, support_of, plain_of, numbered_of, named_of, accepted_of}
use Rattle.call_bytes.specs.Reading.{or_bad, step_at, support_at, unsupported_at, bad_step_at, numbered_at, named_at, kept_at, refusal_at, refused_at, accepted_at, told_at, reply_at}

pub test_on : {B : Type 0} (whole : ℕ) (more : List ℕ) (b : Bool) (d e : ByteFault) (f g : ℕ → Result (B × List ℕ) ByteFault)
    → GoesOn whole more (f 0) (g 0) → GoesOn whole more (fault_if b d >>= f) (fault_if b e >>= g)
test_on whole more true d e f g on = inr (e, refl)
test_on whole more false d e f g on = on

pub or_bad_on : {A : Type 0} (whole : ℕ) (more : List ℕ) (place other : ℕ) (o : Option A) (rest : List ℕ) → GoesOn whole more (or_bad place o rest) (or_bad other o (rest ++ more))
or_bad_on whole more place other None rest = inr (faults.BadTag other, refl)
or_bad_on whole more place other (Some x) rest = refl

step_on : IsSteady step_at
unfolding step_at
step_on whole more bytes =
    then_on whole more _ _ _ _ (byte_on whole more bytes) (λ n.
    or_bad_on whole more (whole - length bytes) (whole - length (bytes ++ more)) (step_of n.0) n.1)

support_on : IsSteady support_at
unfolding support_at
support_on whole more bytes =
    then_on whole more _ _ _ _ (byte_on whole more bytes) (λ tag.
    test_on whole more (eqb tag.0 0 || ltb 4 tag.0) _ _ _ _
    (then_on whole more _ _ _ _ (number_on w64 whole more tag.1) (λ place.
    test_on whole more (eqb tag.0 1 && not (eqb place.0 0)) _ _ _ _
    (then_on whole more _ _ _ _ (byte_on whole more place.1) (λ step.
    or_bad_on whole more (whole - length place.1) (whole - length (place.1 ++ more)) (support_of tag.0 place.0 step.0) step.1)))))

unsupported_on : IsSteady unsupported_at
unfolding unsupported_at
unsupported_on whole more bytes = then_on whole more _ _ _ _ (support_on whole more bytes) (λ fault. refl)

bad_step_on : IsSteady bad_step_at
unfolding bad_step_at
bad_step_on whole more bytes = then_on whole more _ _ _ _ (step_on whole more bytes) (λ fault. refl)

numbered_on : (whole place other tag : ℕ) (more bytes : List ℕ) → GoesOn whole more (numbered_at whole place tag bytes) (numbered_at whole other tag (bytes ++ more))
unfolding numbered_at
numbered_on whole place other tag more bytes =
    then_on whole more _ _ _ _ (number_on w64 whole more bytes) (λ n.
    or_bad_on whole more place other (numbered_of tag n.0) n.1)

named_on : (whole place other tag : ℕ) (more bytes : List ℕ) → GoesOn whole more (named_at whole place tag bytes) (named_at whole other tag (bytes ++ more))
unfolding named_at
named_on whole place other tag more bytes =
    then_on whole more _ _ _ _ (front_on 32 whole more bytes) (λ name.
    or_bad_on whole more place other (named_of tag name.0) name.1)

kept_on : (whole place other tag : ℕ) (more bytes : List ℕ) → GoesOn whole more (kept_at whole place tag bytes) (kept_at whole other tag (bytes ++ more))
kept_on whole place other tag more bytes =
    if_on whole more (eqb tag 2) _ _ _ _ (unsupported_on whole more bytes)
    (if_on whole more (eqb tag 9) _ _ _ _ (bad_step_on whole more bytes)
    (if_on whole more (is_some (numbered_of tag 0)) _ _ _ _ (numbered_on whole place other tag more bytes)
    (if_on whole more (is_some (named_of tag [])) _ _ _ _ (named_on whole place other tag more bytes)
    (or_bad_on whole more place other (plain_of tag) bytes))))

refusal_on : IsSteady refusal_at
unfolding refusal_at
refusal_on whole more bytes =
    then_on whole more _ _ _ _ (byte_on whole more bytes) (λ tag.
    kept_on whole (whole - length bytes) (whole - length (bytes ++ more)) tag.0 more tag.1)

refused_on : IsSteady refused_at
unfolding refused_at
refused_on whole more bytes = then_on whole more _ _ _ _ (refusal_on whole more bytes) (λ why. refl)

accepted_on : (whole place other tag : ℕ) (more bytes : List ℕ) → GoesOn whole more (accepted_at whole place tag bytes) (accepted_at whole other tag (bytes ++ more))
unfolding accepted_at
accepted_on whole place other tag more bytes =
    then_on whole more _ _ _ _ (number_on w64 whole more bytes) (λ n.
    or_bad_on whole more place other (accepted_of tag n.0) n.1)

told_on : (whole place other tag : ℕ) (more bytes : List ℕ) → GoesOn whole more (told_at whole place tag bytes) (told_at whole other tag (bytes ++ more))
told_on whole place other tag more bytes =
    if_on whole more (eqb tag 7) _ _ _ _ (refused_on whole more bytes)
    (if_on whole more (is_some (accepted_of tag 0)) _ _ _ _ (accepted_on whole place other tag more bytes) (inr (faults.BadTag other, refl)))

pub reply_on : IsSteady reply_at
unfolding reply_at
reply_on whole more bytes =
    then_on whole more _ _ _ _ (byte_on whole more bytes) (λ tag.
    told_on whole (whole - length bytes) (whole - length (bytes ++ more)) tag.0 more tag.1)
