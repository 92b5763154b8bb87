-- What is wanted is what the row of the stage wants.
use Rattle.std.proofs.Common.{◌≡◌, refl, ℕ, suc, Bool, true, false, List, [], ◌∷◌, Option, Result, Ok, Err, IfOk, ◌∙◌, ap}
use Rattle.std.specs.Prelude.{if◌then◌else◌}
use Rattle.channel_values.specs.Parts.{StateParts}
use Rattle.call_history.specs.declared.call.Call.{Call}
use Rattle.funding_plans.specs.Rows.{Row, stage_in, wish_in, wanted_in, called_in, signs_of, calls_of}

pick : (name : List ℕ) (b : Bool) (n : ℕ) (r : Row) (rows : List Row) (w : Option StateParts) →
    wish_in name (signs_of n rows) ≡ w →
    wish_in name (signs_of (if b then suc n else 0) (r ∷ rows)) ≡ (if b then w else wish_in name r.signs)
pick name true n r rows w h = h
pick name false n r rows w h = refl

pub wanted_at_stage : (name : List ℕ) (rows : List Row) → wish_in name (signs_of (stage_in rows) rows) ≡ wanted_in name rows
wanted_at_stage name [] = refl
wanted_at_stage name (r ∷ rows) = pick name r.leaves (stage_in rows) r rows (wanted_in name rows) (wanted_at_stage name rows)

pub as_wanted : {E : Type 0} (name : List ℕ) (rows : List Row) (stage : ℕ) (r : Result (Option StateParts) E) → stage ≡ stage_in rows →
    IfOk r (λ o. o ≡ wish_in name (signs_of stage rows)) → IfOk r (λ o. o ≡ wanted_in name rows)
as_wanted name rows stage (Ok o) e h = h ∙ ap (λ n. wish_in name (signs_of n rows)) e ∙ wanted_at_stage name rows
as_wanted name rows stage (Err x) e h = h

pick_calls : (b : Bool) (n : ℕ) (r : Row) (rows : List Row) (w : List Call) →
    calls_of n rows ≡ w → calls_of (if b then suc n else 0) (r ∷ rows) ≡ (if b then w else r.calls)
pick_calls true n r rows w h = h
pick_calls false n r rows w h = refl

pub called_at_stage : (rows : List Row) → calls_of (stage_in rows) rows ≡ called_in rows
called_at_stage [] = refl
called_at_stage (r ∷ rows) = pick_calls r.leaves (stage_in rows) r rows (called_in rows) (called_at_stage rows)

pub as_called : {A E : Type 0} (items : A → List Call) (rows : List Row) (stage : ℕ) (r : Result A E) → stage ≡ stage_in rows →
    IfOk r (λ v. items v ≡ calls_of stage rows) → IfOk r (λ v. items v ≡ called_in rows)
as_called items rows stage (Ok v) e h = h ∙ ap (λ n. calls_of n rows) e ∙ called_at_stage rows
as_called items rows stage (Err x) e h = h
