-- An old challenge once more keeps the limits.
use Rattle.std.proofs.Common.{◌≡◌, Bool, true, false, List, [], ◌∷◌, refl, sym, subst, ◌⊎◌, ⊎_elim}
use Rattle.std.specs.Prelude.{Option, Some, cond}
use Rattle.std.specs.List.{list_all, find, AllByRecursion}
use Rattle.std.proofs.lemmas.Bool.{and_parts, leb-true, true≢false}
use Rattle.channel_values.specs.Chains.{KeepsMark}
use Rattle.channel_values.specs.declared.chain.Mark.{Mark}
use Rattle.call_history.specs.declared.call.Call.TheVariants.{Deposit, Challenge, Respond, Refute, Checkpoint, Conclude, Transfer, Claim}
use Rattle.call_history.specs.declared.call.Op.{Op}
use Rattle.call_history.specs.declared.call.Op.TheVariants as ops
use Rattle.call_history.specs.declared.entry.Entry.{Entry}
use Rattle.network_rounds.specs.declared.actor.Act.{Act}
use Rattle.network_rounds.specs.declared.actor.Act.TheVariants as acts
use Rattle.network_rounds.specs.Acts.{IsWithinLimits}
use Rattle.cast_actors.specs.Replays.{is_short, is_challenge, entering, entering_if, replayed}

marks_keep : (marks : List Mark) → list_all (λ m. is_short m.signature) marks ≡ true → AllByRecursion KeepsMark marks
marks_keep [] e = tt
marks_keep (m ∷ ms) e = (leb-true _ _ (and_parts _ _ e).0, marks_keep ms (and_parts _ _ e).1)

keeps : (op : Op) → is_challenge op ≡ true → IsWithinLimits (entering op)
keeps (ops.Call (Challenge k)) e =
    let few = and_parts _ _ e in
    let more = and_parts _ _ few.1 in
    let ends = and_parts _ _ more.1 in
    (record { states = leb-true _ _ few.0; marks = leb-true _ _ more.0; signatures = marks_keep k.chain.marks ends.0 }, leb-true _ _ ends.1)
keeps (ops.Call (Deposit d)) e = tt
keeps (ops.Call (Respond k)) e = absurd (true≢false (sym e))
keeps (ops.Call (Refute f next)) e = absurd (true≢false (sym e))
keeps (ops.Call (Checkpoint chain)) e = absurd (true≢false (sym e))
keeps (ops.Call (Conclude chain)) e = absurd (true≢false (sym e))
keeps (ops.Call (Transfer k)) e = tt
keeps (ops.Call (Claim k)) e = tt
keeps (ops.Time to) e = tt

step : (e : Entry) (rest : Option Entry) (b : Bool) → is_challenge e.op ≡ b → IsWithinLimits (entering_if rest) → IsWithinLimits (entering_if (cond b (Some e) rest))
step e rest true is below = keeps e.op is
step e rest false is below = below

pub replayed_keeps : (entries : List Entry) → IsWithinLimits (replayed entries)
replayed_keeps [] = tt
replayed_keeps (e ∷ es) = step e (find (λ e. is_challenge e.op) es) (is_challenge e.op) refl (replayed_keeps es)

pub answer_keeps : (a b : Act) → IsWithinLimits b → (a ≡ acts.NoMemory) ⊎ (a ≡ b) → IsWithinLimits a
answer_keeps a b keeps w = ⊎_elim (λ e. subst (λ x. IsWithinLimits x) (sym e) tt) (λ e. subst (λ x. IsWithinLimits x) (sym e) keeps) w
