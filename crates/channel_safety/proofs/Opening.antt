-- What is held is always the first round so far, each state with its mover's mark, or a supported chain.
use Rattle.std.proofs.Common.{◌≡◌, suc, ◌≤◌, Bool, true, false, cond, List, [], ◌∷◌, inl, inr, length, refl}
use Rattle.std.specs.Prelude.{Option, Some, None}
use Rattle.channel_values.specs.Parts.{FixedParts}
use Rattle.channel_values.specs.declared.chain.Signed.{Signed}
use Rattle.channel_values.specs.Rules.{Rules, people}
use Rattle.call_history.specs.Marked.{Marked, nothing, is_supported, answered, extends, extended, is_newer}
use Rattle.call_history.specs.Shown.{shown}
use Rattle.call_history.specs.declared.entry.Entry.{Entry}
use Rattle.channel_safety.specs.Journals.{Line, opens, noted_in}
use Rattle.channel_safety.specs.Held.{note, show, held}
use Rattle.channel_safety.specs.Good.{IsGood, IsGoodIfAny}
use Rattle.channel_safety.proofs.Tests.{and-left}
use Rattle.channel_safety.proofs.ChainsGrow.{noted-good, nothing-young}
use Rattle.channel_safety.proofs.Places.{slot-lasts}

note-good : (r : Rules) (F : FixedParts) → 1 ≤ people F → (x : Line) (st : Option Marked) → IsGoodIfAny r F st → IsGoodIfAny r F (note r F x st)
note-good r F one x None good = go (opens r (r.named F) x)
  where
    go : (b : Bool) → IsGoodIfAny r F (cond b (Some nothing) None)
    go true = inl (nothing-young r F one)
    go false = tt
note-good r F one x (Some w) good = go (noted_in (r.named F) x.deed)
  where
    go : (o : Option Signed) → IsGood r F (extended r F o w)
    go None = good
    go (Some s) = test (extends r F s w) refl
      where
        test : (b : Bool) → extends r F s w ≡ b → IsGood r F (cond b (answered F s w) w)
        test true e = (noted-good r F s w good e).good
        test false e = good

show-good : (r : Rules) (F : FixedParts) (chain : Marked) (st : Option Marked) → IsGoodIfAny r F st → IsGoodIfAny r F (show r F chain st)
show-good r F chain None good = tt
show-good r F chain (Some w) good = go (is_newer r F chain w) refl
  where
    go : (b : Bool) → is_newer r F chain w ≡ b → IsGood r F (cond b chain w)
    go true e = inr (and-left (is_supported r F chain) _ e)
    go false e = good

-- over every history and journal
pub held-good : (r : Rules) (F : FixedParts) → 1 ≤ people F → (past : List Entry) (journal : List Line) → IsGoodIfAny r F (held r F past journal)
held-good r F one [] journal = slot-lasts r F (IsGoodIfAny r F) 0 journal (λ x i. note-good r F one x) None tt
held-good r F one (e ∷ past) journal =
    slot-lasts r F (IsGoodIfAny r F) (suc (length past)) journal (λ x i. note-good r F one x) (show r F (shown r (r.named F) past e) (held r F past journal))
    (show-good r F (shown r (r.named F) past e) (held r F past journal) (held-good r F one past journal))
