-- Replies: what is read is spelled so and fits, and what is spelled is read.
use Rattle.std.proofs.Common.{◌≡◌, ℕ, ◌^◌, ◌<◌, ◌-◌, ◌&&◌, ◌||◌, not, Bool, true, false, eqb, ltb, List, [], ◌∷◌, ◌++◌, length, Option, Some, None, Result, Ok, refl, sym, ap, subst, ◌∙◌, append_assoc, lit<, inl, inr, ◌↔◌}
use Rattle.std.proofs.lemmas.Bool.{eqb-true}
use Rattle.std.specs.Int.{w64}
use Rattle.std.specs.Prelude.{is_some}
use Rattle.channel_values.specs.declared.fault.ByteFault.{ByteFault}
use Rattle.channel_values.specs.declared.fault.StepFault.{StepFault}
use Rattle.channel_values.specs.declared.fault.StepFault.TheVariants as steps
use Rattle.channel_values.specs.declared.fault.SupportFault.{SupportFault}
use Rattle.channel_values.specs.declared.fault.SupportFault.TheVariants as supports
use Rattle.channel_values.specs.Outcomes.{AreBytes, IsName}
use Rattle.channel_values.specs.Reading.{◌>>=◌, byte_at, number_at, name_at}
use Rattle.channel_values.proofs.Fields.{bind_ok, ok_is, passed, Takes, Takes-then, byte_takes, name_takes, number_takes, wide64}
use Rattle.channel_values.proofs.Takes.{chosen}
use Rattle.channel_values.proofs.Again.{bind_again, number_again, name_again}
use Rattle.channel_values.proofs.Format.{IsFormat, spelled_once}
use Rattle.call_history.specs.declared.refusal.Refusal.{Refusal}
use Rattle.call_history.specs.declared.refusal.Refusal.TheVariants.{IsFinal, NotSupported, Stale, BadChallenger, NoChallenge, WrongState, WrongTurn, BadSignature, BadStep, NotNewer, NotChallengers, NotFinalState, Zero, Underheld, AssetFull, NotFinal, WrongOutcome, NoAsset, WrongKind, WrongTarget, NotListed, NoItem, NothingDue, Backwards, TooLate}
use Rattle.call_history.specs.declared.refusal.Reply.{Reply}
use Rattle.call_history.specs.declared.refusal.Reply.TheVariants.{Held, Until, Opened, Concluded, Paid, Now, No}
use Rattle.call_bytes.specs.Numbers.{step_number, step_of, bare_of, stepping_of, support_of, plain_of, numbered_of, named_of, accepted_of}
use Rattle.call_bytes.specs.Spelling.{long, support, refusal, reply}
use Rattle.call_bytes.specs.Limits.{IsSupportFault, IsRefusal, IsReply}
use Rattle.call_bytes.specs.Reading.{or_bad, step_at, support_at, unsupported_at, bad_step_at, numbered_at, named_at, kept_at, refusal_at, refused_at, accepted_at, told_at, reply_at}
use Rattle.call_bytes.proofs.Fields.{tagged, behind, after_byte, or_bad_ok, some_is, none_is, pick}

-- ---- broken rules of steps

abbrev StepIs : ℕ → StepFault → Type 0
StepIs n f = step_number f ≡ n

step_is : (n : ℕ) (f : StepFault) → step_of n ≡ Some f → StepIs n f
step_is n f e =
    pick StepIs n 1 steps.Outcome _ f refl
    (pick StepIs n 2 steps.Data _ f refl
    (pick StepIs n 3 steps.Votes _ f refl
    (pick StepIs n 4 steps.Proposal _ f refl
    (pick StepIs n 5 steps.Raised _ f refl
    (pick StepIs n 6 steps.Lowered _ f refl
    (pick StepIs n 7 steps.EarlyFinal _ f refl
    (pick StepIs n 8 steps.AfterFinal _ f refl
    (none_is (StepIs n f) f)))))))) e

step_again : (f : StepFault) → step_of (step_number f) ≡ Some f
step_again steps.Outcome = refl
step_again steps.Data = refl
step_again steps.Votes = refl
step_again steps.Proposal = refl
step_again steps.Raised = refl
step_again steps.Lowered = refl
step_again steps.EarlyFinal = refl
step_again steps.AfterFinal = refl

step_takes : (whole : ℕ) (bytes : List ℕ) (x : StepFault × List ℕ) → AreBytes bytes → step_at whole bytes ≡ Ok x → Takes bytes (step_number x.0 ∷ []) x.1
unfolding step_at
step_takes whole bytes x fits e =
    let a = bind_ok (byte_at whole bytes) _ x e in
    let t = byte_takes whole bytes a.0 fits a.1 in
    let p = or_bad_ok (whole - length bytes) (step_of a.0.0) a.0.1 x a.2 in
    let n : step_number x.0 ≡ a.0.0 = step_is a.0.0 x.0 p.0 in
    subst (λ (r : List ℕ). Takes bytes (step_number x.0 ∷ []) r) p.1 (subst (λ (k : ℕ). Takes bytes (k ∷ []) a.0.1) (sym n) t.0)

step_read : (whole : ℕ) (f : StepFault) (rest : List ℕ) → step_at whole (step_number f ∷ rest) ≡ Ok (f, rest)
unfolding step_at
step_read whole f rest = rw (step_again f) refl

-- ---- faults of chains

-- what a fault is spelled as, after a tag, a place and a step's number
abbrev SupportIs : (place step : ℕ) → ℕ → SupportFault → Type 0
SupportIs place step tag f = ((eqb tag 1 && not (eqb place 0)) ≡ false) → (support f ≡ tag ∷ (long place ++ (step ∷ []))) × IsSupportFault f

zero_if : (n : ℕ) → not (eqb n 0) ≡ false → n ≡ 0
zero_if n e = eqb-true n 0 (turned (eqb n 0) e)
  where
    turned : (b : Bool) → not b ≡ false → b ≡ true
    turned true e = refl
    turned false e = absurd cc

length_is : (place : ℕ) → SupportIs place 0 1 supports.Length
unfolding support
length_is place e = (ap (λ (n : ℕ). 1 ∷ (long n ++ (0 ∷ []))) (sym (zero_if place e)), tt)

turn_is : (place : ℕ) → place < 2 ^ 64 → SupportIs place 0 2 (supports.Turn place)
unfolding support
turn_is place lt e = (refl, lt)

signature_is : (place : ℕ) → place < 2 ^ 64 → SupportIs place 0 4 (supports.Signature place)
unfolding support
signature_is place lt e = (refl, lt)

bare_is : (tag place : ℕ) (f : SupportFault) → place < 2 ^ 64 → bare_of tag place ≡ Some f → SupportIs place 0 tag f
bare_is tag place f lt e =
    pick (SupportIs place 0) tag 1 supports.Length _ f (length_is place)
    (pick (SupportIs place 0) tag 2 (supports.Turn place) _ f (turn_is place lt)
    (pick (SupportIs place 0) tag 4 (supports.Signature place) _ f (signature_is place lt)
    (none_is (SupportIs place 0 tag f) f))) e

stepping_is : (place step : ℕ) (o : Option StepFault) (f : SupportFault) → ((g : StepFault) → o ≡ Some g → step_number g ≡ step) → place < 2 ^ 64 → stepping_of place o ≡ Some f → SupportIs place step 3 f
unfolding support
stepping_is place step None f is lt e = absurd cc
stepping_is place step (Some g) f is lt e =
    subst (SupportIs place step 3) (some_is (supports.Step place g) f e)
    (λ test. (ap (λ (n : ℕ). 3 ∷ (long place ++ (n ∷ []))) (is g refl), lt))

support_is : (tag place step : ℕ) (f : SupportFault) → place < 2 ^ 64 → support_of tag place step ≡ Some f → SupportIs place step tag f
support_is tag place step f lt e =
    elim (chosen (eqb tag 3) _ _ (Some f) e) [
      | inl p ↦ subst (λ (k : ℕ). SupportIs place step k f) (sym (eqb-true tag 3 p.0)) (stepping_is place step (step_of step) f (step_is step) lt p.1)
      | inr q ↦ elim (chosen (eqb step 0) _ _ (Some f) q.1) [
        | inl p ↦ subst (λ (k : ℕ). SupportIs place k tag f) (sym (eqb-true step 0 p.0)) (bare_is tag place f lt p.1)
        | inr r ↦ none_is (SupportIs place step tag f) f r.1
      ]
    ]

support_takes : (whole : ℕ) (bytes : List ℕ) (x : SupportFault × List ℕ) → AreBytes bytes → support_at whole bytes ≡ Ok x → Takes bytes (support x.0) x.1 × IsSupportFault x.0
unfolding support_at
support_takes whole bytes x fits e =
    let a = bind_ok (byte_at whole bytes) _ x e in
    let known = passed (eqb a.0.0 0 || ltb 4 a.0.0) _ _ x a.2 in
    let b = bind_ok (number_at whole w64 a.0.1) _ x known.1 in
    let none = passed (eqb a.0.0 1 && not (eqb b.0.0 0)) _ _ x b.2 in
    let c = bind_ok (byte_at whole b.0.1) _ x none.1 in
    let p = or_bad_ok (whole - length b.0.1) (support_of a.0.0 b.0.0 c.0.0) c.0.1 x c.2 in
    let t0 = byte_takes whole bytes a.0 fits a.1 in
    let t1 = number_takes whole w64 (2 ^ 64) wide64 a.0.1 b.0 t0.0.rest_fits b.1 in
    let t2 = byte_takes whole b.0.1 c.0 t1.0.rest_fits c.1 in
    let e1 = Takes-then a.0.1 (long b.0.0) b.0.1 (c.0.0 ∷ []) c.0.1 t1.0 t2.0 in
    let e0 : Takes bytes (a.0.0 ∷ (long b.0.0 ++ (c.0.0 ∷ []))) c.0.1 = after_byte bytes (a.0.0 ∷ (long b.0.0 ++ (c.0.0 ∷ []))) a.0.1 c.0.1 a.0.0 t0.0 (tagged a.0.0 a.0.1 (long b.0.0 ++ (c.0.0 ∷ [])) c.0.1 e1) in
    let is = support_is a.0.0 b.0.0 c.0.0 x.0 t1.1 p.0 none.0 in
    (subst (λ (r : List ℕ). Takes bytes (support x.0) r) p.1 (subst (λ (w : List ℕ). Takes bytes w c.0.1) (sym is.0) e0), is.1)

support_again : (whole : ℕ) (f : SupportFault) (rest : List ℕ) → IsSupportFault f → support_at whole (support f ++ rest) ≡ Ok (f, rest)
unfolding support_at support
support_again whole supports.Length rest valid =
    subst (λ (w : List ℕ). support_at whole (1 ∷ w) ≡ Ok (supports.Length, rest)) (sym (append_assoc (long 0) (0 ∷ []) rest))
    (bind_again _ _ (0, 0 ∷ rest) _ (number_again whole w64 (2 ^ 64) wide64 0 (0 ∷ rest) (lit< tt)) refl)
support_again whole (supports.Turn place) rest valid =
    subst (λ (w : List ℕ). support_at whole (2 ∷ w) ≡ Ok (supports.Turn place, rest)) (sym (append_assoc (long place) (0 ∷ []) rest))
    (bind_again _ _ (place, 0 ∷ rest) _ (number_again whole w64 (2 ^ 64) wide64 place (0 ∷ rest) valid) refl)
support_again whole (supports.Step place fault) rest valid =
    subst (λ (w : List ℕ). support_at whole (3 ∷ w) ≡ Ok (supports.Step place fault, rest)) (sym (append_assoc (long place) (step_number fault ∷ []) rest))
    (bind_again _ _ (place, step_number fault ∷ rest) _ (number_again whole w64 (2 ^ 64) wide64 place (step_number fault ∷ rest) valid) (rw (step_again fault) refl))
support_again whole (supports.Signature who) rest valid =
    subst (λ (w : List ℕ). support_at whole (4 ∷ w) ≡ Ok (supports.Signature who, rest)) (sym (append_assoc (long who) (0 ∷ []) rest))
    (bind_again _ _ (who, 0 ∷ rest) _ (number_again whole w64 (2 ^ 64) wide64 who (0 ∷ rest) valid) refl)

-- ---- refusals

abbrev PlainIs : ℕ → Refusal → Type 0
PlainIs tag r = (refusal r ≡ tag ∷ []) × IsRefusal r

plain_is : (tag : ℕ) (r : Refusal) → plain_of tag ≡ Some r → PlainIs tag r
unfolding refusal
plain_is tag r e =
    pick PlainIs tag 1 IsFinal _ r (refl, tt)
    (pick PlainIs tag 4 BadChallenger _ r (refl, tt)
    (pick PlainIs tag 5 NoChallenge _ r (refl, tt)
    (pick PlainIs tag 6 WrongState _ r (refl, tt)
    (pick PlainIs tag 8 BadSignature _ r (refl, tt)
    (pick PlainIs tag 11 NotChallengers _ r (refl, tt)
    (pick PlainIs tag 13 Zero _ r (refl, tt)
    (pick PlainIs tag 18 NoAsset _ r (refl, tt)
    (pick PlainIs tag 19 WrongKind _ r (refl, tt)
    (pick PlainIs tag 20 WrongTarget _ r (refl, tt)
    (pick PlainIs tag 21 NotListed _ r (refl, tt)
    (pick PlainIs tag 22 NoItem _ r (refl, tt)
    (pick PlainIs tag 25 TooLate _ r (refl, tt)
    (none_is (PlainIs tag r) r))))))))))))) e

abbrev NumberedIs : ℕ → ℕ → Refusal → Type 0
NumberedIs n tag r = (refusal r ≡ tag ∷ long n) × IsRefusal r

numbered_is : (tag n : ℕ) (r : Refusal) → n < 2 ^ 64 → numbered_of tag n ≡ Some r → NumberedIs n tag r
unfolding refusal
numbered_is tag n r lt e =
    pick (NumberedIs n) tag 3 (Stale n) _ r (refl, lt)
    (pick (NumberedIs n) tag 7 (WrongTurn n) _ r (refl, lt)
    (pick (NumberedIs n) tag 10 (NotNewer n) _ r (refl, lt)
    (pick (NumberedIs n) tag 12 (NotFinalState n) _ r (refl, lt)
    (pick (NumberedIs n) tag 14 (Underheld n) _ r (refl, lt)
    (pick (NumberedIs n) tag 15 (AssetFull n) _ r (refl, lt)
    (pick (NumberedIs n) tag 23 (NothingDue n) _ r (refl, lt)
    (pick (NumberedIs n) tag 24 (Backwards n) _ r (refl, lt)
    (none_is (NumberedIs n tag r) r)))))))) e

abbrev NamedIs : List ℕ → ℕ → Refusal → Type 0
NamedIs name tag r = (refusal r ≡ tag ∷ name) × IsRefusal r

named_is : (tag : ℕ) (name : List ℕ) (r : Refusal) → IsName name → named_of tag name ≡ Some r → NamedIs name tag r
unfolding refusal
named_is tag name r is e =
    pick (NamedIs name) tag 16 (NotFinal name) _ r (refl, is)
    (pick (NamedIs name) tag 17 (WrongOutcome name) _ r (refl, is)
    (none_is (NamedIs name tag r) r)) e

abbrev TakesRefusal : ℕ → List ℕ → Refusal × List ℕ → Type 0
TakesRefusal tag bytes x = Takes (tag ∷ bytes) (refusal x.0) x.1 × IsRefusal x.0

unsupported_takes : (whole : ℕ) (bytes : List ℕ) (x : Refusal × List ℕ) → AreBytes bytes → unsupported_at whole bytes ≡ Ok x → TakesRefusal 2 bytes x
unfolding unsupported_at refusal
unsupported_takes whole bytes x fits e =
    let a = bind_ok (support_at whole bytes) _ x e in
    let t = support_takes whole bytes a.0 fits a.1 in
    let made : Refusal = NotSupported a.0.0 in
    subst (TakesRefusal 2 bytes) (ok_is (made, a.0.1) x a.2) (tagged 2 bytes (support a.0.0) a.0.1 t.0, t.1)

bad_step_takes : (whole : ℕ) (bytes : List ℕ) (x : Refusal × List ℕ) → AreBytes bytes → bad_step_at whole bytes ≡ Ok x → TakesRefusal 9 bytes x
unfolding bad_step_at refusal
bad_step_takes whole bytes x fits e =
    let a = bind_ok (step_at whole bytes) _ x e in
    let t = step_takes whole bytes a.0 fits a.1 in
    let made : Refusal = BadStep a.0.0 in
    subst (TakesRefusal 9 bytes) (ok_is (made, a.0.1) x a.2) (tagged 9 bytes (step_number a.0.0 ∷ []) a.0.1 t, tt)

numbered_takes : (whole place tag : ℕ) (bytes : List ℕ) (x : Refusal × List ℕ) → AreBytes bytes → numbered_at whole place tag bytes ≡ Ok x → TakesRefusal tag bytes x
unfolding numbered_at
numbered_takes whole place tag bytes x fits e =
    let a = bind_ok (number_at whole w64 bytes) _ x e in
    let t = number_takes whole w64 (2 ^ 64) wide64 bytes a.0 fits a.1 in
    let p = or_bad_ok place (numbered_of tag a.0.0) a.0.1 x a.2 in
    let is = numbered_is tag a.0.0 x.0 t.1 p.0 in
    (subst (λ (r : List ℕ). Takes (tag ∷ bytes) (refusal x.0) r) p.1 (subst (λ (w : List ℕ). Takes (tag ∷ bytes) w a.0.1) (sym is.0) (tagged tag bytes (long a.0.0) a.0.1 t.0)), is.1)

named_takes : (whole place tag : ℕ) (bytes : List ℕ) (x : Refusal × List ℕ) → AreBytes bytes → named_at whole place tag bytes ≡ Ok x → TakesRefusal tag bytes x
unfolding named_at
named_takes whole place tag bytes x fits e =
    let a = bind_ok (name_at whole bytes) _ x e in
    let t = name_takes whole bytes a.0 fits a.1 in
    let p = or_bad_ok place (named_of tag a.0.0) a.0.1 x a.2 in
    let is = named_is tag a.0.0 x.0 t.1 p.0 in
    (subst (λ (r : List ℕ). Takes (tag ∷ bytes) (refusal x.0) r) p.1 (subst (λ (w : List ℕ). Takes (tag ∷ bytes) w a.0.1) (sym is.0) (tagged tag bytes a.0.0 a.0.1 t.0)), is.1)

plain_takes : (place tag : ℕ) (bytes : List ℕ) (x : Refusal × List ℕ) → AreBytes bytes → or_bad place (plain_of tag) bytes ≡ Ok x → TakesRefusal tag bytes x
plain_takes place tag bytes x fits e =
    let p = or_bad_ok place (plain_of tag) bytes x e in
    let is = plain_is tag x.0 p.0 in
    let nothing : Takes (tag ∷ bytes) (tag ∷ []) bytes = record { parts = refl; rest_fits = fits } in
    (subst (λ (r : List ℕ). Takes (tag ∷ bytes) (refusal x.0) r) p.1 (subst (λ (w : List ℕ). Takes (tag ∷ bytes) w bytes) (sym is.0) nothing), is.1)

kept_takes : (whole place tag : ℕ) (bytes : List ℕ) (x : Refusal × List ℕ) → AreBytes bytes → kept_at whole place tag bytes ≡ Ok x → TakesRefusal tag bytes x
kept_takes whole place tag bytes x fits e =
    elim (chosen (eqb tag 2) _ _ (Ok x) e) [
      | inl p ↦ behind refusal IsRefusal tag 2 bytes x p.0 (unsupported_takes whole bytes x fits p.1)
      | inr q ↦ elim (chosen (eqb tag 9) _ _ (Ok x) q.1) [
        | inl p ↦ behind refusal IsRefusal tag 9 bytes x p.0 (bad_step_takes whole bytes x fits p.1)
        | inr q ↦ elim (chosen (is_some (numbered_of tag 0)) _ _ (Ok x) q.1) [
          | inl p ↦ numbered_takes whole place tag bytes x fits p.1
          | inr q ↦ elim (chosen (is_some (named_of tag [])) _ _ (Ok x) q.1) [
            | inl p ↦ named_takes whole place tag bytes x fits p.1
            | inr q ↦ plain_takes place tag bytes x fits q.1
          ]
        ]
      ]
    ]

refusal_takes : (whole : ℕ) (bytes : List ℕ) (x : Refusal × List ℕ) → AreBytes bytes → refusal_at whole bytes ≡ Ok x → Takes bytes (refusal x.0) x.1 × IsRefusal x.0
unfolding refusal_at
refusal_takes whole bytes x fits e =
    let a = bind_ok (byte_at whole bytes) _ x e in
    let t = byte_takes whole bytes a.0 fits a.1 in
    let k = kept_takes whole (whole - length bytes) a.0.0 a.0.1 x t.0.rest_fits a.2 in
    (after_byte bytes (refusal x.0) a.0.1 x.1 a.0.0 t.0 k.0, k.1)

number_read : {A : Type 0} (whole n : ℕ) (rest : List ℕ) (f : ℕ × List ℕ → Result A ByteFault) (y : Result A ByteFault) → n < 2 ^ 64 → f (n, rest) ≡ y → (number_at whole w64 (long n ++ rest) >>= f) ≡ y
number_read whole n rest f y lt e = bind_again _ f (n, rest) y (number_again whole w64 (2 ^ 64) wide64 n rest lt) e

refusal_again : (whole : ℕ) (r : Refusal) (rest : List ℕ) → IsRefusal r → refusal_at whole (refusal r ++ rest) ≡ Ok (r, rest)
unfolding refusal_at refusal unsupported_at bad_step_at numbered_at named_at
refusal_again whole IsFinal rest valid = refl
refusal_again whole (NotSupported fault) rest valid = bind_again _ _ (fault, rest) _ (support_again whole fault rest valid) refl
refusal_again whole (Stale n) rest valid = number_read whole n rest _ _ valid refl
refusal_again whole BadChallenger rest valid = refl
refusal_again whole NoChallenge rest valid = refl
refusal_again whole WrongState rest valid = refl
refusal_again whole (WrongTurn n) rest valid = number_read whole n rest _ _ valid refl
refusal_again whole BadSignature rest valid = refl
refusal_again whole (BadStep fault) rest valid = bind_again _ _ (fault, rest) _ (step_read whole fault rest) refl
refusal_again whole (NotNewer n) rest valid = number_read whole n rest _ _ valid refl
refusal_again whole NotChallengers rest valid = refl
refusal_again whole (NotFinalState n) rest valid = number_read whole n rest _ _ valid refl
refusal_again whole Zero rest valid = refl
refusal_again whole (Underheld n) rest valid = number_read whole n rest _ _ valid refl
refusal_again whole (AssetFull n) rest valid = number_read whole n rest _ _ valid refl
refusal_again whole (NotFinal name) rest valid = bind_again _ _ (name, rest) _ (name_again whole name rest valid.0) refl
refusal_again whole (WrongOutcome name) rest valid = bind_again _ _ (name, rest) _ (name_again whole name rest valid.0) refl
refusal_again whole NoAsset rest valid = refl
refusal_again whole WrongKind rest valid = refl
refusal_again whole WrongTarget rest valid = refl
refusal_again whole NotListed rest valid = refl
refusal_again whole NoItem rest valid = refl
refusal_again whole (NothingDue n) rest valid = number_read whole n rest _ _ valid refl
refusal_again whole (Backwards n) rest valid = number_read whole n rest _ _ valid refl
refusal_again whole TooLate rest valid = refl

-- ---- replies

abbrev ReplyIs : ℕ → ℕ → Reply → Type 0
ReplyIs n tag r = (reply r ≡ tag ∷ long n) × IsReply r

accepted_is : (tag n : ℕ) (r : Reply) → n < 2 ^ 64 → accepted_of tag n ≡ Some r → ReplyIs n tag r
unfolding reply
accepted_is tag n r lt e =
    pick (ReplyIs n) tag 1 (Held n) _ r (refl, lt)
    (pick (ReplyIs n) tag 2 (Until n) _ r (refl, lt)
    (pick (ReplyIs n) tag 3 (Opened n) _ r (refl, lt)
    (pick (ReplyIs n) tag 4 (Concluded n) _ r (refl, lt)
    (pick (ReplyIs n) tag 5 (Paid n) _ r (refl, lt)
    (pick (ReplyIs n) tag 6 (Now n) _ r (refl, lt)
    (none_is (ReplyIs n tag r) r)))))) e

abbrev TakesReply : ℕ → List ℕ → Reply × List ℕ → Type 0
TakesReply tag bytes x = Takes (tag ∷ bytes) (reply x.0) x.1 × IsReply x.0

refused_takes : (whole : ℕ) (bytes : List ℕ) (x : Reply × List ℕ) → AreBytes bytes → refused_at whole bytes ≡ Ok x → TakesReply 7 bytes x
unfolding refused_at reply
refused_takes whole bytes x fits e =
    let a = bind_ok (refusal_at whole bytes) _ x e in
    let t = refusal_takes whole bytes a.0 fits a.1 in
    let made : Reply = No a.0.0 in
    subst (TakesReply 7 bytes) (ok_is (made, a.0.1) x a.2) (tagged 7 bytes (refusal a.0.0) a.0.1 t.0, t.1)

accepted_takes : (whole place tag : ℕ) (bytes : List ℕ) (x : Reply × List ℕ) → AreBytes bytes → accepted_at whole place tag bytes ≡ Ok x → TakesReply tag bytes x
unfolding accepted_at
accepted_takes whole place tag bytes x fits e =
    let a = bind_ok (number_at whole w64 bytes) _ x e in
    let t = number_takes whole w64 (2 ^ 64) wide64 bytes a.0 fits a.1 in
    let p = or_bad_ok place (accepted_of tag a.0.0) a.0.1 x a.2 in
    let is = accepted_is tag a.0.0 x.0 t.1 p.0 in
    (subst (λ (r : List ℕ). Takes (tag ∷ bytes) (reply x.0) r) p.1 (subst (λ (w : List ℕ). Takes (tag ∷ bytes) w a.0.1) (sym is.0) (tagged tag bytes (long a.0.0) a.0.1 t.0)), is.1)

told_takes : (whole place tag : ℕ) (bytes : List ℕ) (x : Reply × List ℕ) → AreBytes bytes → told_at whole place tag bytes ≡ Ok x → TakesReply tag bytes x
told_takes whole place tag bytes x fits e =
    elim (chosen (eqb tag 7) _ _ (Ok x) e) [
      | inl p ↦ behind reply IsReply tag 7 bytes x p.0 (refused_takes whole bytes x fits p.1)
      | inr q ↦ elim (chosen (is_some (accepted_of tag 0)) _ _ (Ok x) q.1) [
        | inl p ↦ accepted_takes whole place tag bytes x fits p.1
        | inr q ↦ absurd (let never = q.1 in cc)
      ]
    ]

reply_takes : (whole : ℕ) (bytes : List ℕ) (x : Reply × List ℕ) → AreBytes bytes → reply_at whole bytes ≡ Ok x → Takes bytes (reply x.0) x.1 × IsReply x.0
unfolding reply_at
reply_takes whole bytes x fits e =
    let a = bind_ok (byte_at whole bytes) _ x e in
    let t = byte_takes whole bytes a.0 fits a.1 in
    let k = told_takes whole (whole - length bytes) a.0.0 a.0.1 x t.0.rest_fits a.2 in
    (after_byte bytes (reply x.0) a.0.1 x.1 a.0.0 t.0 k.0, k.1)

reply_again : (whole : ℕ) (r : Reply) (rest : List ℕ) → IsReply r → reply_at whole (reply r ++ rest) ≡ Ok (r, rest)
unfolding reply_at reply refused_at accepted_at
reply_again whole (Held n) rest valid = number_read whole n rest _ _ valid refl
reply_again whole (Until n) rest valid = number_read whole n rest _ _ valid refl
reply_again whole (Opened n) rest valid = number_read whole n rest _ _ valid refl
reply_again whole (Concluded n) rest valid = number_read whole n rest _ _ valid refl
reply_again whole (Paid n) rest valid = number_read whole n rest _ _ valid refl
reply_again whole (Now n) rest valid = number_read whole n rest _ _ valid refl
reply_again whole (No why) rest valid = bind_again _ _ (why, rest) _ (refusal_again whole why rest valid) refl

pub reply_format : IsFormat reply_at reply IsReply
reply_format = record { takes = reply_takes; again = reply_again }

-- replies are one where their spellings are
pub same_where : (a b : Reply) (xs ys : List ℕ) → xs ≡ reply a → ys ≡ reply b → IsReply a → IsReply b → (xs ≡ ys) ↔ (a ≡ b)
same_where a b xs ys p q fits_a fits_b = (λ e. spelled_once reply_format a b fits_a fits_b (sym p ∙ e ∙ q), λ e. p ∙ ap reply e ∙ sym q)
