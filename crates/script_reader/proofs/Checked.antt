-- The steps of a script keep the rules.
use Rattle.std.proofs.Common.{◌≡◌, ℕ, ◌+◌, List, [], ◌∷◌, ◌++◌, length, refl, sym, subst, ◌∙◌, ap, Result, Ok, Err, append_assoc, append-nil, true, false}
use Rattle.std.specs.Prelude.{Bool, ◌&&◌}
use Rattle.serde_json.specs.Data.{Data, Items, no_items, item}
use Rattle.script_steps.specs.Rules.{◌>>=◌, holds}
use Rattle.script_steps.specs.Conditions.{after, sign_uses, open_uses, open_on_uses, open_virtual_uses, are_known, is_named, fits, has_fixed, is_new_person, is_new_channel, distinct_channel, distinct}
use Rattle.script_steps.specs.Context.{is_new}
use Rattle.script_reader.specs.Listed.{listed}
use Rattle.script_reader.specs.Reading.{written_of, named_of, led, knows_names, limited, may_race, step_of, Keeps}
use Rattle.script_reader.specs.Resolved.{knows_outcome, resolved, outcome_in, pair_in, sign_step, open_step, open_on_step, open_virtual_step}
use Rattle.script_reader.specs.Script as script
use Rattle.script_reader.specs.Script.{at_step, steps_from, script_of, AreChecked}
use Rattle.script_steps.specs.declared.context.Context.{Context}
use Rattle.script_steps.specs.declared.step.Rule.{Rule}
use Rattle.script_steps.specs.declared.step.Rule.TheVariants as rules
use Rattle.script_steps.specs.declared.step.Step.{Step}
use Rattle.script_steps.specs.declared.step.Step.TheVariants as steps
use Rattle.script_reader.specs.declared.script.ScriptFault.{ScriptFault}
use Rattle.script_reader.specs.declared.written.Written.{Written}
use Rattle.script_reader.specs.declared.written.Written.TheVariants as written

-- both went well, if one after the other did
bind_ok : {A B : Type 0} (r : Result A Rule) (f : A → Result B Rule) (y : B) → r >>= f ≡ Ok y → (x : A) × (r ≡ Ok x) × (f x ≡ Ok y)
bind_ok (Ok x) f y e = (x, refl, e)
bind_ok (Err k) f y e = absurd (cc)

-- a rule that is held holds
held : (rule : Rule) (b : Bool) (x : ℕ) → holds rule b ≡ Ok x → b ≡ true
held rule true x e = refl
held rule false x e = absurd (cc)

-- and gives nothing
held_value : (rule : Rule) (b : Bool) (x : ℕ) → holds rule b ≡ Ok x → x ≡ 0
held_value rule true x e = cc
held_value rule false x e = absurd (cc)

first_holds : (a b : Bool) → a && b ≡ true → a ≡ true
first_holds true b e = refl
first_holds false b e = absurd (cc)

and_true : (b : Bool) → b ≡ true → b && true ≡ true
and_true true e = refl
and_true false e = absurd (cc)

-- a step that was resolved has the names that it was written with
resolved_named : (c : Context) (w : Written) (s : Step) → knows_names c w ≡ true → resolved c w ≡ Ok s → is_named c s ≡ true
resolved_named c (written.Plain t) s e r = let same : t ≡ s = cc in subst (λ (x : Step). is_named c x ≡ true) same e
resolved_named c (written.Sign k) s e r =
    let a = bind_ok (outcome_in c k.outcome) (λ o. outcome_in c k.proposal >>= λ p. Ok (sign_step k o p)) s r in
    let b = bind_ok (outcome_in c k.proposal) (λ p. Ok (sign_step k a.0 p)) s a.2 in
    let same : sign_step k a.0 b.0 ≡ s = cc in
    let known = is_new c k.name && are_known c (sign_uses k.channel k.by) in
    let names = first_holds known (knows_outcome c k.outcome) (first_holds (known && knows_outcome c k.outcome) (knows_outcome c k.proposal) e) in
    let all : is_named c (sign_step k a.0 b.0) ≡ true = and_true known names in
    subst (λ (x : Step). is_named c x ≡ true) same all
resolved_named c (written.Open k) s e r =
    let a = bind_ok (outcome_in c k.outcome) (λ o. Ok (open_step k o)) s r in
    let same : open_step k a.0 ≡ s = cc in
    let known = are_known c (open_uses k.who k.channel) in
    let all : is_named c (open_step k a.0) ≡ true = and_true known (first_holds known (knows_outcome c k.outcome) e) in
    subst (λ (x : Step). is_named c x ≡ true) same all
resolved_named c (written.OpenOn k) s e r =
    let a = bind_ok (pair_in k.amounts) (λ p. Ok (open_on_step k p)) s r in
    let same : open_on_step k a.0 ≡ s = cc in
    let all : is_named c (open_on_step k a.0) ≡ true = and_true (are_known c (open_on_uses k.who k.ledger k.channel)) e in
    subst (λ (x : Step). is_named c x ≡ true) same all
resolved_named c (written.OpenVirtual k) s e r =
    let a = bind_ok (pair_in k.amounts) (λ p. Ok (open_virtual_step k p)) s r in
    let same : open_virtual_step k a.0 ≡ s = cc in
    let all : is_named c (open_virtual_step k a.0) ≡ true = and_true (are_known c (open_virtual_uses k.who k.ledgers k.guarantors k.joint k.channel)) e in
    subst (λ (x : Step). is_named c x ≡ true) same all

-- where a digest is its own, nothing more is told
channel_none : (c : Context) (people : List (List ℕ)) (nonce app duration x : ℕ) → distinct_channel c people nonce app duration ≡ Ok x → distinct_channel c people nonce app duration ≡ Ok 0
channel_none c people nonce app duration x e =
    let p = bind_ok (holds rules.Limit (has_fixed c people nonce app duration)) (λ y. holds rules.Name (is_new_channel c people nonce app duration)) x e in
    e ∙ ap (λ n. Ok n) (held_value rules.Name (is_new_channel c people nonce app duration) x p.2)

distinct_none : (c : Context) (s : Step) (x : ℕ) → distinct c s ≡ Ok x → distinct c s ≡ Ok 0
distinct_none c (steps.Deposit k) x e = refl
distinct_none c (steps.Time to) x e = refl
distinct_none c (steps.Person k) x e = e ∙ ap (λ n. Ok n) (held_value rules.Name (is_new_person c k.seed k.h) x e)
distinct_none c (steps.Channel k) x e = channel_none c k.people k.nonce k.app k.duration x e
distinct_none c (steps.Sign k) x e = refl
distinct_none c (steps.Catch k) x e = refl
distinct_none c (steps.Send to state) x e = refl
distinct_none c (steps.Drop to) x e = refl
distinct_none c (steps.Challenge k) x e = refl
distinct_none c (steps.Respond k) x e = refl
distinct_none c (steps.Refute channel state) x e = refl
distinct_none c (steps.Checkpoint channel chain) x e = refl
distinct_none c (steps.Conclude channel chain) x e = refl
distinct_none c (steps.Transfer k) x e = refl
distinct_none c (steps.Claim k) x e = refl
distinct_none c (steps.Open k) x e = refl
distinct_none c (steps.OpenOn k) x e = refl
distinct_none c (steps.OpenVirtual k) x e = refl
distinct_none c (steps.Pay k) x e = refl
distinct_none c (steps.Close who channel) x e = refl
distinct_none c (steps.Release how who channel) x e = refl
distinct_none c (steps.Resend who channel) x e = refl
distinct_none c (steps.Exit who) x e = refl
distinct_none c (steps.Rounds count) x e = refl

pub keeps : (c : Context) (d : Data) (s : Step) → step_of c d ≡ Ok s → Keeps c s
keeps c d s h =
    let raced = λ (t : Step) (x : ℕ). holds rules.NotInRace (may_race c t) >>= λ y. Ok t in
    let apart = λ (t : Step) (x : ℕ). distinct c t >>= raced t in
    let r = bind_ok (led c d) (limited c) s h in
    let m = bind_ok (named_of c d) (resolved c) r.0 r.1 in
    let w = bind_ok (written_of d) (λ w. holds rules.Name (knows_names c w) >>= λ x. Ok w) m.0 m.1 in
    let n = bind_ok (holds rules.Name (knows_names c w.0)) (λ x. Ok w.0) m.0 w.2 in
    let one : w.0 ≡ m.0 = cc in
    let names = subst (λ (x : Written). knows_names c x ≡ true) one (held rules.Name (knows_names c w.0) n.0 n.1) in
    let f = bind_ok (holds rules.Limit (fits c r.0)) (apart r.0) s r.2 in
    let a = bind_ok (distinct c r.0) (raced r.0) s f.2 in
    let l = bind_ok (holds rules.NotInRace (may_race c r.0)) (λ y. Ok r.0) s a.2 in
    let same : r.0 ≡ s = cc in
    let all : Keeps c r.0 = record {
      named = resolved_named c m.0 r.0 names m.2;
      fit = held rules.Limit (fits c r.0) f.0 f.1;
      apart = distinct_none c r.0 a.0 a.1;
      raced = held rules.NotInRace (may_race c r.0) l.0 l.1;
    } in
    subst (λ (x : Step). Keeps c x) same all

-- the steps after those seen
next_checked : (c : Context) (seen all : List Step) (ds : Items) (n : ℕ) (r : Result Step Rule) → ((s : Step) → r ≡ Ok s → Keeps c s)
    → ((s : Step) → steps_from (after c s) (seen ++ s ∷ []) ds ≡ Ok all → (rest : List Step) × (all ≡ (seen ++ s ∷ []) ++ rest) × AreChecked (after c s) rest)
    → script.◌>>=◌ (at_step n r) (λ s. steps_from (after c s) (seen ++ s ∷ []) ds) ≡ Ok all → (rest : List Step) × (all ≡ seen ++ rest) × AreChecked c rest
next_checked c seen all ds n (Ok s) ok more h = let t = more s h in (s ∷ t.0, t.1 ∙ append_assoc seen (s ∷ []) t.0, (ok s refl, t.2))
next_checked c seen all ds n (Err k) ok more h = absurd (cc)

rest_checked : (c : Context) (seen all : List Step) (ds : Items) → steps_from c seen ds ≡ Ok all → (rest : List Step) × (all ≡ seen ++ rest) × AreChecked c rest
rest_checked c seen all no_items h = let same : seen ≡ all = cc in ([], sym same ∙ sym (append-nil seen), tt)
rest_checked c seen all (item d ds) h = next_checked c seen all ds (length seen + 1) (step_of c d) (keeps c d) (λ (s : Step). rest_checked (after c s) (seen ++ s ∷ []) all ds) h

all_checked : (c : Context) (all : List Step) (ds : Items) → steps_from c [] ds ≡ Ok all → AreChecked c all
all_checked c all ds h = let t = rest_checked c [] all ds h in let same : all ≡ t.0 = t.1 in rw same t.2

-- the items of a value, and then their steps
both_ok : {A B : Type 0} (r : Result A ScriptFault) (f : A → Result B ScriptFault) (y : B) → script.◌>>=◌ r f ≡ Ok y → (x : A) × (f x ≡ Ok y)
both_ok (Ok x) f y e = (x, e)
both_ok (Err k) f y e = absurd (cc)

-- the steps of a script keep the rules
pub steps_checked : (c : Context) (d : Data) (all : List Step) → script_of c d ≡ Ok all → AreChecked c all
steps_checked c d all h = let t = both_ok (at_step 0 (listed d)) (steps_from c []) all h in all_checked c all t.0 t.1
