-- The times of a legal history rise.
use Rattle.std.proofs.Common.{◌≡◌, ◌≤◌, ◌<◌, ◌^◌, nat_le, nat_lt, List, [], ◌∷◌, Bool, true, false, ◌&&◌, refl, sym, ◌∙◌, ap, subst, arith, true≢false, ◌⊎◌, inl, inr}
use Rattle.std.proofs.lemmas.Bool.{le-leb, lt-ltb, cases_lt}
use Rattle.channel_values.specs.Rules.{Rules}
use Rattle.call_history.specs.Refusing.{told, refuse_if}
use Rattle.call_history.specs.History.{Legal, now_of, or_before, time_set, reply_to}
use Rattle.call_history.specs.declared.call.Op.{Op}
use Rattle.call_history.specs.declared.call.Op.TheVariants as ops
use Rattle.call_history.specs.declared.entry.Entry.{Entry}
use Rattle.call_history.specs.declared.refusal.Refusal.TheVariants.{Backwards, TooLate}
use Rattle.call_history.specs.declared.refusal.Reply.{Reply}
use Rattle.call_history.specs.declared.refusal.Reply.TheVariants.{Now}
use Rattle.std.specs.Prelude.{Ok}
use Rattle.network.specs.Watching.{history_after}
use Rattle.watchtower.specs.Towers.{is_rising}
use Rattle.watchtower.specs.Laws.{LegalTimesRise}

past_legal : (r : Rules) (h entries : List Entry) → Legal r (history_after h entries) → Legal r h
past_legal r h [] legal = legal
past_legal r h (e ∷ entries) legal = (past_legal r (e ∷ h) entries legal).0

step_rises : (r : Rules) (h : List Entry) (op : Op) (reply : Reply) → reply ≡ reply_to r h op → nat_le (now_of h) (or_before (time_set op reply) (now_of h)) ≡ true
unfolding reply_to
step_rises r h (ops.Call call) reply is = le-leb (now_of h) (now_of h) (omega arith)
step_rises r h (ops.Time t) reply is =
    subst (λ x. nat_le (now_of h) (or_before (time_set (ops.Time t) x) (now_of h)) ≡ true) (sym is) (go (nat_lt t (now_of h)) refl (nat_lt (2 ^ 62) t))
  where
    go : (b : Bool) → nat_lt t (now_of h) ≡ b → (c : Bool)
        → nat_le (now_of h) (or_before (time_set (ops.Time t) (told Now (refuse_if b (Backwards (now_of h)) (refuse_if c TooLate (Ok t))))) (now_of h)) ≡ true
    go true q c = le-leb (now_of h) (now_of h) (omega arith)
    go false q true = le-leb (now_of h) (now_of h) (omega arith)
    go false q false = le-leb (now_of h) t (late (cases_lt t (now_of h)))
      where
        late : (t < now_of h) ⊎ (now_of h ≤ t) → now_of h ≤ t
        late (inr le) = le
        late (inl lt) = absurd (true≢false (sym (lt-ltb t (now_of h) lt) ∙ q))

pub legal_times_rise : LegalTimesRise
legal_times_rise r h [] legal = refl
legal_times_rise r h (e ∷ entries) legal =
    let past : Legal r (e ∷ h) = past_legal r (e ∷ h) entries legal in
    ap (λ b. b && is_rising (or_before (time_set e.op e.reply) (now_of h)) entries) (step_rises r h e.op e.reply past.2)
    ∙ legal_times_rise r (e ∷ h) entries legal
