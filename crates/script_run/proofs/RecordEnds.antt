-- What a run comes to is what its recording comes to.
use Rattle.std.proofs.Common.{◌≡◌, ℕ, List, [], ◌∷◌, Bool, true, false, cond, codes, Option, Some, None, refl, sym, subst, ⊎_elim}
use Rattle.std.specs.Prelude.{◌&&◌, ◌||◌}
use Rattle.std.specs.Str.{bytes_eq}
use Rattle.call_history.specs.History.{Legal, newest_first}
use Rattle.network.specs.Ways.{Ways}
use Rattle.run_record.specs.Spelling.{run_record}
use Rattle.script_run.specs.Recording.{is_play, asked_of, RunEnds, IsSoundIf, IsRecorded, EndsAs}
use Rattle.script_run.specs.declared.status.Status.{Status}
use Rattle.script_run.specs.declared.status.Status.TheVariants.{Ran}
use Rattle.run_record.specs.Sound.{HasSums}
use Rattle.script_run.specs.Laws.{PlaysHaveSoundRecords, RacesHaveSoundRecords, RecordsHaveSums}
use Rattle.report_text.proofs.Numbers.{conserved_in_time}
use Rattle.report_text.specs.Report.{record_from}
use Rattle.report_text.specs.declared.report.Report.{Report}
use Rattle.network_rounds.specs.Players.{Player}
use Rattle.script_run.specs.Run.{Given, IsUnread, playable, wanted, owed}
use Rattle.script_run.specs.Run as runs
use Rattle.script_run.specs.declared.run.Status.{Status as RanAs}
use Rattle.script_run.specs.declared.run.Status.TheVariants.{Done, NoMemory, Usage, Script, ReadFault, WriteFault, TooLong, Full}
use Rattle.support_rules.specs.Real.{real}
use Rattle.command_words.specs.declared.asking.Asked.TheVariants.{Run, Race, Load}

-- ---- the words

no_words : (a : Bool) (rest words : List (List ℕ)) → cond (a && false) (Some rest) None ≡ Some words → ⊥
no_words true rest words e = cc
no_words false rest words e = cc

asked_play : (given words : List (List ℕ)) → asked_of given ≡ Some words → is_play words ≡ true
asked_play [] words e = absurd (cc)
asked_play (word ∷ rest) words e = go (bytes_eq word (codes "record")) (is_play rest) refl e
  where
    same : (a : Bool) → cond (a && true) (Some rest) None ≡ Some words → rest ≡ words
    same true e = cc
    same false e = absurd (cc)

    go : (a b : Bool) → is_play rest ≡ b → cond (a && b) (Some rest) None ≡ Some words → is_play words ≡ true
    go a true p e = subst (λ (x : List (List ℕ)). is_play x ≡ true) (same a e) p
    go a false p e = absurd (no_words a rest words e)

unasked : (a b : Bool) → (a || b) ≡ true → playable (cond a (Some Run) (cond b (Some Race) None)) ≡ None → ⊥
unasked true b e n = cc
unasked false true e n = cc
unasked false false e n = cc

play_asks : (words : List (List ℕ)) → is_play words ≡ true → wanted words ≡ None → ⊥
play_asks [] e n = cc
play_asks (word ∷ []) e n = unasked (bytes_eq word (codes "run")) (bytes_eq word (codes "race")) e n
play_asks (word ∷ next ∷ rest) e n = cc

-- ---- the ends

module _ {P : Type 0} (ways : Ways P) (cast : List Player) where
  pub sound_if : PlaysHaveSoundRecords ways → RacesHaveSoundRecords ways cast → (r : Report) → Legal real (newest_first r.history) → IsSoundIf ways cast r
  sound_if plays races r legal steps played premised =
      ⊎_elim (λ p. plays None r steps p legal premised) (λ q. races r steps q legal premised) played

  -- whatever was asked for
  has_sums : RecordsHaveSums ways → (g : Given) (r : Report) → Legal real (newest_first r.history) → runs.IsToldOf ways cast g r → HasSums (record_from r)
  has_sums sums g r legal (Run, asks, reads) = sums _ _ r _ reads.4.2.tells legal
  has_sums sums g r legal (Race, asks, reads) = sums _ _ r _ reads.4.2.tells legal
  has_sums sums g r legal (Load seed count, asks, played) = sums _ _ r _ played.1.tells legal

  module _ (sums : RecordsHaveSums ways) (plays : PlaysHaveSoundRecords ways) (races : RacesHaveSoundRecords ways cast) (g : Given) (r : Report)
      (legal : Legal real (newest_first r.history)) (e : RunEnds ways cast g Done (Some r)) where
    is_recorded : IsRecorded ways cast g r
    is_recorded =
        record {
          ran = e;
          sums = has_sums sums (record g { words = e.0 }) r legal e.2;
          conserved = conserved_in_time r.history legal;
          sound = sound_if plays races r legal;
        }

    pub recorded_end : (bytes : List ℕ) → bytes ≡ run_record (record_from r) → EndsAs ways cast g (Ran Done) bytes
    recorded_end bytes spelled = (r, is_recorded, spelled)

  -- a report comes with a play alone
  pub is_done : (g : Given) (s : RanAs) (r : Report) → runs.EndsAs ways cast g s (Some r) → s ≡ Done
  is_done g Done r e = refl
  is_done g NoMemory r e = absurd e
  is_done g Usage r e = absurd e
  is_done g (Script step rule) r e = absurd e
  is_done g ReadFault r e = absurd e
  is_done g WriteFault r e = absurd e
  is_done g TooLong r e = absurd e
  is_done g Full r e = absurd e

  pub played_end : (g : Given) (words : List (List ℕ)) (s : RanAs) (o : Option Report) (r : Report) → asked_of g.words ≡ Some words → o ≡ Some r
      → runs.EndsAs ways cast (record g { words = words }) s o → RunEnds ways cast g Done (Some r)
  played_end g words s o r asked is e =
      (words, asked, subst (λ (x : RanAs). runs.EndsAs ways cast (record g { words = words }) x (Some r)) (is_done (record g { words = words }) s r given_one) given_one)
    where
      given_one : runs.EndsAs ways cast (record g { words = words }) s (Some r)
      given_one = subst (λ (p : Option Report). runs.EndsAs ways cast (record g { words = words }) s p) is e

  lined_as : (g : Given) (words : List (List ℕ)) (s : RanAs) → asked_of g.words ≡ Some words
      → runs.EndsAs ways cast (record g { words = words }) s None → EndsAs ways cast g (Ran s) (owed s None)
  lined_as g words Done asked e = absurd e
  lined_as g words NoMemory asked e = absurd e
  lined_as g words Usage asked e = absurd (play_asks words (asked_play g.words words asked) e.0)
  lined_as g words (Script step rule) asked e = ((words, asked, e), refl)
  lined_as g words ReadFault asked e = ((words, asked, e), refl)
  lined_as g words WriteFault asked e = absurd e
  lined_as g words TooLong asked e = ((words, asked, e), refl)
  lined_as g words Full asked e = ((words, asked, e), refl)

  pub lined_end : (g : Given) (words : List (List ℕ)) (s : RanAs) (bytes : List ℕ) → asked_of g.words ≡ Some words
      → runs.EndsAs ways cast (record g { words = words }) s None → bytes ≡ owed s None → EndsAs ways cast g (Ran s) bytes
  lined_end g words s bytes asked e spelled = subst (EndsAs ways cast g (Ran s)) (sym spelled) (lined_as g words s asked e)

  -- words that ask for no record read nothing
  pub unasked_end : (g : Given) (s : Status) (bytes : List ℕ) → asked_of g.words ≡ None → IsUnread g
      → (s ≡ Ran Usage) × (bytes ≡ owed Usage None) → EndsAs ways cast g s bytes
  unasked_end g s bytes none unread e = subst (λ (x : Status). EndsAs ways cast g x bytes) (sym e.0) (none, unread, e.1)
