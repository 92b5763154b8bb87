-- How a channel becomes final: by a conclude, or by a time entry at which a challenge runs out.
use Rattle.std.proofs.Common.{◌≡◌, ℕ, ◌+◌, ◌<◌, ◌≤◌, Bool, true, false, cond, List, [], ◌∷◌, ◌++◌, ◌⊎◌, inl, inr, refl, sym, subst, arith}
use Rattle.std.specs.Prelude.{nat_le, Option, Some, None}
use Rattle.channel_values.specs.declared.chain.Chain.{Chain}
use Rattle.call_history.specs.Mode.{mode_at}
use Rattle.call_history.specs.declared.standing.Standing.TheVariants.{Challenged, Final}
use Rattle.channel_values.specs.Rules.{Rules}
use Rattle.call_history.specs.Rows.{fixed_of, turned}
use Rattle.call_history.specs.History.{Legal, is_accepted, time_set, or_before, now_of, is_named, turning, row, mode}
use Rattle.call_history.specs.Calls.{make_challenge}
use Rattle.call_history.specs.declared.call.Call.TheVariants.{Challenge, Respond, Refute, Checkpoint, Conclude}
use Rattle.call_history.specs.declared.call.Op.{Op}
use Rattle.call_history.specs.declared.call.Op.TheVariants as ops
use Rattle.call_history.specs.declared.refusal.Reply.{Reply}
use Rattle.call_history.specs.declared.row.Row.{Row}
use Rattle.call_history.specs.declared.entry.Entry.{Entry}
use Rattle.channel_safety.specs.Journals.{In}
use Rattle.channel_safety.proofs.Tests.{cond-false, cond-true, le-false, le-true, and-right}
use Rattle.channel_safety.proofs.Rowing.{LastTurn, last_turn, now-rises, legal-suffix}

pub record Concluded (r : Rules) (c : List ℕ) (e : Entry) : Type 0 where
  pub chain : Chain
  pub op : e.op ≡ ops.Call (Conclude chain)
  pub turns : turning r c e ≡ true

pub record Expired (r : Rules) (c : List ℕ) (e : Entry) (past : List Entry) : Type 0 where
  pub quiet : turning r c e ≡ false
  pub deadline : ℕ
  pub recorded : (row r c past).deadline ≡ Some deadline
  pub before : now_of past < deadline
  pub time : ℕ
  pub sets : time_set e.op e.reply ≡ Some time
  pub after : deadline ≤ time

pub mode-final : (d : Option ℕ) (now : ℕ) → mode_at d now ≡ Final → (x : ℕ) × (d ≡ Some x) × (x ≤ now)
mode-final None now h = cc
mode-final (Some d) now h = go (nat_le d now) refl h
  where
    go : (b : Bool) → nat_le d now ≡ b → cond b Final Challenged ≡ Final → (x : ℕ) × (Some d ≡ Some x) × (x ≤ now)
    go true e k = (d, refl, le-true d now e)
    go false e k = cc

pub mode-not-final : (d now : ℕ) → (mode_at (Some d) now ≡ Final → ⊥) → now < d
mode-not-final d now h = go (nat_le d now) refl
  where
    go : (b : Bool) → nat_le d now ≡ b → now < d
    go true e = absurd (h (cond-true (nat_le d now) Final Challenged e))
    go false e = le-false d now e

by_op : (r : Rules) (c : List ℕ) (now : ℕ) (op : Op) (reply : Reply) (old : Row) → is_named r c (fixed_of op) ≡ true
    → ((chain : Chain) (who : ℕ) (sig : List ℕ) → op ≡ ops.Call (make_challenge chain who sig) → 0 < chain.fixed.duration)
    → mode_at (turned r now op old).deadline (or_before (time_set op reply) now) ≡ Final → (chain : Chain) × (op ≡ ops.Call (Conclude chain))
by_op r c now (ops.Call (Challenge k)) reply old named lasting final =
    let l : 0 < k.chain.fixed.duration = lasting k.chain k.challenger k.signature refl in
    let m = mode-final (Some (now + k.chain.fixed.duration)) now final in
    let e : now + k.chain.fixed.duration ≡ m.0 = some-eq (now + k.chain.fixed.duration) m.0 m.1 in
    let b : m.0 ≤ now = m.2 in
    absurd (omega arith)
  where
    some-eq : (x y : ℕ) → Some x ≡ Some y → x ≡ y
    some-eq x y h = cc
by_op r c now (ops.Call (Respond k)) reply old named lasting final = cc
by_op r c now (ops.Call (Refute fixed next)) reply old named lasting final = cc
by_op r c now (ops.Call (Checkpoint chain)) reply old named lasting final = cc
by_op r c now (ops.Call (Conclude chain)) reply old named lasting final = (chain, refl)
by_op r c now _ reply old named lasting final = cc

-- where an entry that turns nothing makes a channel final, it sets a time that reaches the deadline
by_time : (d : Option ℕ) (set : Option ℕ) (now : ℕ) → (mode_at d now ≡ Final → ⊥) → mode_at d (or_before set now) ≡ Final
    → (x : ℕ) × (t : ℕ) × (d ≡ Some x) × (now < x) × (set ≡ Some t) × (x ≤ t)
by_time None set now not_yet final = cc
by_time (Some d) None now not_yet final = absurd (not_yet final)
by_time (Some d) (Some t) now not_yet final =
    let m = mode-final (Some d) t final in
    (m.0, t, m.1, subst (λ (y : ℕ). now < y) (some-eq d m.0 m.1) (mode-not-final d now not_yet), refl, m.2)
  where
    some-eq : (x y : ℕ) → Some x ≡ Some y → x ≡ y
    some-eq x y h = cc

pub becomes_final : (r : Rules) (c : List ℕ) (e : Entry) (past : List Entry)
    → ((chain : Chain) (who : ℕ) (sig : List ℕ) → turning r c e ≡ true → e.op ≡ ops.Call (make_challenge chain who sig) → 0 < chain.fixed.duration)
    → (mode r c past ≡ Final → ⊥) → mode r c (e ∷ past) ≡ Final → Concluded r c e ⊎ Expired r c e past
becomes_final r c e past lasting not_yet final = go (turning r c e) refl
  where
    go : (b : Bool) → turning r c e ≡ b → Concluded r c e ⊎ Expired r c e past
    go true t =
        let f = subst (λ (x : Row). mode_at x.deadline (now_of (e ∷ past)) ≡ Final) (cond-true (turning r c e) (turned r (now_of past) e.op (row r c past)) (row r c past) t) final in
        let p = by_op r c (now_of past) e.op e.reply (row r c past) (and-right (is_accepted e.reply) (is_named r c (fixed_of e.op)) t) (λ chain who sig. lasting chain who sig t) f in
        inl (record { chain = p.0; op = p.1; turns = t })
    go false t =
        let f = subst (λ (x : Row). mode_at x.deadline (now_of (e ∷ past)) ≡ Final) (cond-false (turning r c e) (turned r (now_of past) e.op (row r c past)) (row r c past) t) final in
        let p = by_time (row r c past).deadline (time_set e.op e.reply) (now_of past) not_yet f in
        inr (record { quiet = t; deadline = p.0; recorded = p.2; before = p.3; time = p.1; sets = p.4; after = p.5 })

-- the challenge whose deadline that is
pub record Running (r : Rules) (c : List ℕ) (past : List Entry) (deadline : ℕ) : Type 0 where
  pub mid : List Entry
  pub entry : Entry
  pub older : List Entry
  pub split : past ≡ mid ++ entry ∷ older
  pub quiet : (q : Entry) → In q mid → turning r c q ≡ false
  pub turns : turning r c entry ≡ true
  pub chain : Chain
  pub who : ℕ
  pub sig : List ℕ
  pub op : entry.op ≡ ops.Call (make_challenge chain who sig)
  pub due : deadline ≡ now_of older + chain.fixed.duration

running_op : (r : Rules) (c : List ℕ) (now d : ℕ) (op : Op) (old : Row) → is_named r c (fixed_of op) ≡ true → now < d → (turned r now op old).deadline ≡ Some d
    → (chain : Chain) × (who : ℕ) × (sig : List ℕ) × (op ≡ ops.Call (make_challenge chain who sig)) × (d ≡ now + chain.fixed.duration)
running_op r c now d (ops.Call (Challenge k)) old named less is = (k.chain, k.challenger, k.signature, refl, cc)
running_op r c now d (ops.Call (Respond k)) old named less is = cc
running_op r c now d (ops.Call (Refute fixed next)) old named less is = cc
running_op r c now d (ops.Call (Checkpoint chain)) old named less is = cc
running_op r c now d (ops.Call (Conclude chain)) old named less is = let e : now ≡ d = cc in absurd (omega arith)
running_op r c now d _ old named less is = cc

pub running : (r : Rules) (c : List ℕ) (past : List Entry) (d : ℕ) → Legal r past → now_of past < d → (row r c past).deadline ≡ Some d → Running r c past d
running r c past d legal less is = go (last_turn r c past d is)
  where
    go : LastTurn r c past d → Running r c past d
    go l =
        let up : now_of (l.entry ∷ l.older) ≤ now_of past = subst (λ (x : List Entry). now_of (l.entry ∷ l.older) ≤ now_of x) (sym l.split) (now-rises r l.mid (l.entry ∷ l.older) (subst (Legal r) l.split legal)) in
        let at : Legal r (l.entry ∷ l.older) = legal-suffix r l.mid (l.entry ∷ l.older) (subst (Legal r) l.split legal) in
        let step : now_of l.older ≤ now_of (l.entry ∷ l.older) = now-rises r (l.entry ∷ []) l.older at in
        let p = running_op r c (now_of l.older) d l.entry.op (row r c l.older) (and-right (is_accepted l.entry.reply) (is_named r c (fixed_of l.entry.op)) l.turns) (omega arith) l.sets in
        record { mid = l.mid; entry = l.entry; older = l.older; split = l.split; quiet = l.quiet; turns = l.turns; chain = p.0; who = p.1; sig = p.2; op = p.3; due = p.4 }
