-- What the row, the time and the settled outcome of a channel are along a legal history.
use Rattle.std.proofs.Common.{◌≡◌, ℕ, ◌^◌, ◌≤◌, Bool, true, false, List, [], ◌∷◌, ◌++◌, inl, inr, refl, sym, ◌∙◌, ap, subst, arith}
use Rattle.std.specs.Prelude.{nat_lt, Option, Some, None, Result, Ok, Err}
use Rattle.channel_values.specs.Rules.{Rules}
use Rattle.call_history.specs.Refusing.{refuse_if, refuse_fault, told}
use Rattle.call_history.specs.Rows.{turned}
use Rattle.call_history.specs.Replies as replies
use Rattle.call_history.specs.History.{is_accepted, time_set, or_before, now_of, turning, row, reply_to, Legal, settles, settled}
use Rattle.call_history.specs.declared.call.Op.{Op}
use Rattle.call_history.specs.declared.call.Op.TheVariants as ops
use Rattle.call_history.specs.declared.refusal.Refusal.{Refusal}
use Rattle.call_history.specs.declared.refusal.Refusal.TheVariants.{Backwards, TooLate}
use Rattle.call_history.specs.declared.refusal.Reply.{Reply}
use Rattle.call_history.specs.declared.refusal.Reply.TheVariants.{Now, No}
use Rattle.call_history.specs.declared.row.Row.{Row}
use Rattle.call_history.specs.declared.entry.Entry.{Entry}
use Rattle.channel_safety.specs.Journals.{In}
use Rattle.channel_safety.proofs.Tests.{cond-true, cond-false, lt-false}

pub passes : {A : Type 0} (b : Bool) (f : Refusal) (rest : Result A Refusal) (v : A) → refuse_if b f rest ≡ Ok v → (b ≡ false) × (rest ≡ Ok v)
passes true f rest v h = cc
passes false f rest v h = (refl, h)

pub passes-fault : {A F : Type 0} (o : Option F) (f : F → Refusal) (rest : Result A Refusal) (v : A) → refuse_fault o f rest ≡ Ok v → (o ≡ None) × (rest ≡ Ok v)
passes-fault None f rest v h = (refl, h)
passes-fault (Some x) f rest v h = cc

pub refuse-false : {A : Type 0} (b : Bool) (f : Refusal) (rest : Result A Refusal) → b ≡ false → refuse_if b f rest ≡ rest
refuse-false true f rest h = cc
refuse-false false f rest h = refl

-- an accepted reply describes a value
pub told-ok : {A : Type 0} (say : A → Reply) (x : Result A Refusal) → is_accepted (told say x) ≡ true → (v : A) × (x ≡ Ok v)
told-ok say (Ok v) h = (v, refl)
told-ok say (Err f) h = cc

time-on : (now t : ℕ) → is_accepted (told Now (replies.time now t)) ≡ true → now ≤ t
time-on now t h =
    let v = told-ok Now (replies.time now t) h in
    lt-false t now (passes (nat_lt t now) (Backwards now) (refuse_if (nat_lt (2 ^ 62) t) TooLate (Ok t)) v.0 v.1).0

-- the time never falls
pub time_up : (r : Rules) (past : List Entry) (op : Op) (reply : Reply) → reply ≡ reply_to r past op → now_of past ≤ or_before (time_set op reply) (now_of past)
unfolding reply_to
time_up r past (ops.Call call) reply h = omega arith
time_up r past (ops.Time t) (No f) h = omega arith
time_up r past (ops.Time t) reply h = time-on (now_of past) t (subst (λ (x : Reply). is_accepted x ≡ true) h refl)

pub now-rises : (r : Rules) (later past : List Entry) → Legal r (later ++ past) → now_of past ≤ now_of (later ++ past)
now-rises r [] past legal = omega arith
now-rises r (e ∷ later) past legal =
    let a : now_of past ≤ now_of (later ++ past) = now-rises r later past legal.0 in
    let b : now_of (later ++ past) ≤ now_of (e ∷ (later ++ past)) = time_up r (later ++ past) e.op e.reply legal.2 in
    omega arith

pub legal-suffix : (r : Rules) (later past : List Entry) → Legal r (later ++ past) → Legal r past
legal-suffix r [] past legal = legal
legal-suffix r (e ∷ later) past legal = legal-suffix r later past legal.0

-- no accepted time is above the time after it
pub time-below : (r : Rules) (later past : List Entry) (q : Entry) (t : ℕ) → Legal r (later ++ past) → In q later → time_set q.op q.reply ≡ Some t → t ≤ now_of (later ++ past)
time-below r [] past q t legal i is = absurd i
time-below r (e ∷ later) past q t legal (inl same) is =
    let at : or_before (time_set e.op e.reply) (now_of (later ++ past)) ≡ t = ap (λ (o : Option ℕ). or_before o (now_of (later ++ past))) (subst (λ (x : Entry). time_set x.op x.reply ≡ Some t) same is) in
    omega arith
time-below r (e ∷ later) past q t legal (inr i) is =
    let a : t ≤ now_of (later ++ past) = time-below r later past q t legal.0 i is in
    let b : now_of (later ++ past) ≤ now_of (e ∷ (later ++ past)) = time_up r (later ++ past) e.op e.reply legal.2 in
    omega arith

pub row-quiet : (r : Rules) (c : List ℕ) (mid past : List Entry) → ((q : Entry) → In q mid → turning r c q ≡ false) → row r c (mid ++ past) ≡ row r c past
row-quiet r c [] past quiet = refl
row-quiet r c (e ∷ mid) past quiet =
    cond-false (turning r c e) (turned r (now_of (mid ++ past)) e.op (row r c (mid ++ past))) (row r c (mid ++ past)) (quiet e (inl refl))
    ∙ row-quiet r c mid past (λ q i. quiet q (inr i))

-- the last entry that turned the row, where it has a deadline
pub record LastTurn (r : Rules) (c : List ℕ) (past : List Entry) (deadline : ℕ) : Type 0 where
  pub mid : List Entry
  pub entry : Entry
  pub older : List Entry
  pub split : past ≡ mid ++ entry ∷ older
  pub quiet : (q : Entry) → In q mid → turning r c q ≡ false
  pub turns : turning r c entry ≡ true
  pub sets : (turned r (now_of older) entry.op (row r c older)).deadline ≡ Some deadline

pub last_turn : (r : Rules) (c : List ℕ) (past : List Entry) (d : ℕ) → (row r c past).deadline ≡ Some d → LastTurn r c past d
last_turn r c [] d h = cc
last_turn r c (e ∷ past) d h = go (turning r c e) refl (last_turn r c past d)
  where
    go : (b : Bool) → turning r c e ≡ b → ((row r c past).deadline ≡ Some d → LastTurn r c past d) → LastTurn r c (e ∷ past) d
    go true t before =
        record {
          mid = [];
          entry = e;
          older = past;
          split = refl;
          quiet = λ q i. absurd i;
          turns = t;
          sets = ap (λ (x : Row). x.deadline) (sym (cond-true (turning r c e) (turned r (now_of past) e.op (row r c past)) (row r c past) t)) ∙ h;
        }
    go false t before =
        more (before (ap (λ (x : Row). x.deadline) (sym (cond-false (turning r c e) (turned r (now_of past) e.op (row r c past)) (row r c past) t)) ∙ h))
      where
        more : LastTurn r c past d → LastTurn r c (e ∷ past) d
        more l =
            record {
              mid = e ∷ l.mid;
              entry = l.entry;
              older = l.older;
              split = ap (λ (x : List Entry). e ∷ x) l.split;
              quiet = λ q i. still q i;
              turns = l.turns;
              sets = l.sets;
            }
          where
            still : (q : Entry) → In q (e ∷ l.mid) → turning r c q ≡ false
            still q (inl is) = subst (λ (x : Entry). turning r c x ≡ false) (sym is) t
            still q (inr i) = l.quiet q i

-- where nothing turns, the settled outcome stays
pub settled-quiet : (r : Rules) (c : List ℕ) (mid past : List Entry) → ((q : Entry) → In q mid → turning r c q ≡ false) → settled r c (mid ++ past) ≡ settled r c past
settled-quiet r c [] past quiet = refl
settled-quiet r c (e ∷ mid) past quiet =
    cond-false (turning r c e) (settles e.op (settled r c (mid ++ past))) (settled r c (mid ++ past)) (quiet e (inl refl)) ∙ settled-quiet r c mid past (λ q i. quiet q (inr i))
