-- The words and the bytes of a source that doesn't fail determine the end and the report.
use Rattle.std.proofs.Common.{◌≡◌, ℕ, ◌≤◌, ◌<◌, ◌⊎◌, inl, inr, List, length, Option, Some, None, refl, sym, ◌∙◌, ap, arith, subst}
use Rattle.std.specs.Prelude.{◌≢◌, true, false}
use Rattle.network.specs.Ways.{Ways}
use Rattle.play_report.specs.Reported.{IsPlayed}
use Rattle.play_report.proofs.Once.{one_report}
use Rattle.report_text.specs.declared.report.Load.{Load as Note}
use Rattle.report_text.specs.declared.report.Report.{Report}
use Rattle.script_race.specs.Raced.{IsOfRace}
use Rattle.step_meanings.specs.Commands.{command_of}
use Rattle.script_play.specs.Play.{play}
use Rattle.script_reader.specs.Script.{IsScript, Breaks}
use Rattle.script_reader.specs.step.Rule.{Rule}
use Rattle.script_reader.specs.step.Step.{Step}
use Rattle.script_reader.proofs.OneReading.{one_script, script_breaks_none, one_fault}
use Rattle.network_rounds.specs.Players.{Player}
use Rattle.script_run.specs.Run.{Given, IsCalm, EndsAlike, EndsAs, Comes, wanted, made_from}
use Rattle.command_words.specs.declared.asking.Asked.{Asked}
use Rattle.command_words.specs.declared.asking.Asked.TheVariants.{Run, Race, Load}
use Rattle.script_run.specs.Load.{load_steps}
use Rattle.script_run.specs.declared.run.Status.{Status}
use Rattle.script_run.specs.declared.run.Status.TheVariants.{Done, NoMemory, Usage, Script, ReadFault, WriteFault, TooLong, Full}
use Rattle.byte_streams.proofs.Known.{all_taken, no_more_taken}

-- ---- what words and bytes come to

record IsUsage (s : Status) (p : Option Report) : Type 0 where
  status : s ≡ Usage
  report : p ≡ None

record IsLong (bytes : List ℕ) (s : Status) (p : Option Report) : Type 0 where
  long : 4194304 < length bytes
  status : s ≡ TooLong
  report : p ≡ None

record IsBroken (bytes : List ℕ) (s : Status) (p : Option Report) : Type 0 where
  short : length bytes ≤ 4194304
  step : ℕ
  rule : Rule
  breaks : Breaks false step rule bytes
  status : s ≡ Script step rule
  report : p ≡ None

both : (s t s' t' : Status) (p q p' q' : Option Report) → s ≡ s' → t ≡ t' → p ≡ p' → q ≡ q' → s' ≡ t' → p' ≡ q' → (s ≡ t) × (p ≡ q)
both s t s' t' p q p' q' a b c d e f = (a ∙ e ∙ sym b, c ∙ f ∙ sym d)

module _ {P : Type 0} (ways : Ways P) (cast : List Player) where
  record IsPlayedOut (bytes : List ℕ) (s : Status) (p : Option Report) : Type 0 where
    short : length bytes ≤ 4194304
    told : Report
    steps : List Step
    script : IsScript false bytes steps
    played : IsPlayed ways None told steps
    status : s ≡ Done
    report : p ≡ Some told

  record IsLoaded (seed count : ℕ) (s : Status) (p : Option Report) : Type 0 where
    told : Report
    played : IsPlayed ways (Some (made_from seed count)) told (load_steps seed count)
    status : s ≡ Done
    report : p ≡ Some told

  -- of what was asked for
  abbrev Fate : Option Asked → List ℕ → Status → Option Report → Type 0
  Fate None bytes s p = IsUsage s p
  Fate (Some Run) bytes s p = IsLong bytes s p ⊎ (IsBroken bytes s p ⊎ IsPlayedOut bytes s p)
  -- (of a race nothing is said)
  Fate (Some Race) bytes s p = Unit {0}
  Fate (Some (Load seed count)) bytes s p = IsLoaded seed count s p

  came : (words : List (List ℕ)) (bytes : List ℕ) (g : Given) (r : Report) (a : Asked) → IsCalm words bytes g
      → Comes (λ load steps. IsPlayed ways load r steps) (λ steps. IsOfRace ways cast r steps) g a
      → Fate (Some a) bytes Done (Some r)
  came words bytes g r Run calm e =
      let whole = all_taken g.before g.after bytes e.0 calm.told e.1 e.2 in
      inr (inr (record {
        short = subst (λ b. length b ≤ 4194304) whole e.3;
        told = r;
        steps = e.4.0;
        script = subst (λ b. IsScript false b e.4.0) whole e.4.1;
        played = e.4.2;
        status = refl;
        report = refl;
      }))
  came words bytes g r Race calm e = tt
  came words bytes g r (Load seed count) calm e = record { told = r; played = e.1; status = refl; report = refl }

  fate : (words : List (List ℕ)) (bytes : List ℕ) (g : Given) (s : Status) (p : Option Report) → IsCalm words bytes g → EndsAs ways cast g s p
      → (o : Option Asked) × (wanted words ≡ o) × Fate o bytes s p
  fate words bytes g Done None calm e = absurd e
  fate words bytes g Done (Some r) calm e = (Some e.0, ap wanted (sym calm.words_are) ∙ e.1, came words bytes g r e.0 calm e.2)
  fate words bytes g NoMemory p calm e = absurd e
  fate words bytes g Usage None calm e = (None, ap wanted (sym calm.words_are) ∙ e.0, record { status = refl; report = refl })
  fate words bytes g Usage (Some r) calm e = absurd e
  fate words bytes g (Script step rule) None calm (true, asks, reads) = (Some Race, ap wanted (sym calm.words_are) ∙ asks, tt)
  fate words bytes g (Script step rule) None calm (false, asks, reads) =
      let whole = all_taken g.before g.after bytes reads.0 calm.told reads.1 reads.2 in (
        Some Run,
        ap wanted (sym calm.words_are) ∙ asks,
        inr (inl (record {
          short = subst (λ b. length b ≤ 4194304) whole reads.3;
          step = step;
          rule = rule;
          breaks = subst (Breaks false step rule) whole reads.4;
          status = refl;
          report = refl;
        })),
      )
  fate words bytes g (Script step rule) (Some r) calm e = absurd e
  fate words bytes g ReadFault None calm e = absurd (calm.faultless e.2.1)
  fate words bytes g ReadFault (Some r) calm e = absurd e
  fate words bytes g WriteFault p calm e = absurd e
  fate words bytes g TooLong None calm (true, asks, takes) = (Some Race, ap wanted (sym calm.words_are) ∙ asks, tt)
  fate words bytes g TooLong None calm (false, asks, takes) =
      let most = no_more_taken g.before g.after bytes takes.0 calm.told takes.1 in (
        Some Run,
        ap wanted (sym calm.words_are) ∙ asks,
        inl (record { long = omega (arith, most, takes.2); status = refl; report = refl }),
      )
  fate words bytes g TooLong (Some r) calm e = absurd e
  fate words bytes g Full None calm e = (Some Race, ap wanted (sym calm.words_are) ∙ e.0, tt)
  fate words bytes g Full (Some r) calm e = absurd e

  one_report_of : (load : Option Note) (r q : Report) (steps : List Step) → IsPlayed ways load r steps → IsPlayed ways load q steps → r ≡ q
  one_report_of load r q steps a b = one_report (command_of steps) ways load r q (play ways steps) a.tells b.tells

  one_fate : (o : Option Asked) (bytes : List ℕ) (s t : Status) (p q : Option Report) → o ≢ Some Race → Fate o bytes s p → Fate o bytes t q → (s ≡ t) × (p ≡ q)
  one_fate None bytes s t p q not a b = both s t Usage Usage p q None None a.status b.status a.report b.report refl refl
  one_fate (Some Race) bytes s t p q not a b = absurd (not refl)
  one_fate (Some (Load seed count)) bytes s t p q not a b =
      both s t Done Done p q (Some a.told) (Some b.told) a.status b.status a.report b.report refl
      (ap Some (one_report_of (Some (made_from seed count)) a.told b.told (load_steps seed count) a.played b.played))
  one_fate (Some Run) bytes s t p q not (inl a) (inl b) = both s t TooLong TooLong p q None None a.status b.status a.report b.report refl refl
  one_fate (Some Run) bytes s t p q not (inl a) (inr (inl b)) = absurd (omega (arith, a.long, b.short))
  one_fate (Some Run) bytes s t p q not (inl a) (inr (inr b)) = absurd (omega (arith, a.long, b.short))
  one_fate (Some Run) bytes s t p q not (inr (inl a)) (inl b) = absurd (omega (arith, b.long, a.short))
  one_fate (Some Run) bytes s t p q not (inr (inl a)) (inr (inl b)) =
      let same = one_fault false a.step b.step a.rule b.rule bytes a.breaks b.breaks in
      both s t (Script a.step a.rule) (Script b.step b.rule) p q None None a.status b.status a.report b.report (λ i. Script (same.0 i) (same.1 i)) refl
  one_fate (Some Run) bytes s t p q not (inr (inl a)) (inr (inr b)) = absurd (script_breaks_none false a.step a.rule bytes b.steps b.script a.breaks)
  one_fate (Some Run) bytes s t p q not (inr (inr a)) (inl b) = absurd (omega (arith, b.long, a.short))
  one_fate (Some Run) bytes s t p q not (inr (inr a)) (inr (inl b)) = absurd (script_breaks_none false b.step b.rule bytes a.steps a.script b.breaks)
  one_fate (Some Run) bytes s t p q not (inr (inr a)) (inr (inr b)) =
      let same = one_script false bytes a.steps b.steps a.script b.script in
      both s t Done Done p q (Some a.told) (Some b.told) a.status b.status a.report b.report refl
      (ap Some (one_report_of None a.told b.told a.steps a.played (subst (IsPlayed ways None b.told) (sym same) b.played)))

  pub alike : (words : List (List ℕ)) (bytes : List ℕ) (g h : Given) → wanted words ≢ Some Race → IsCalm words bytes g → IsCalm words bytes h → EndsAlike ways cast g h
  alike words bytes g h not calm quiet s t p q e f =
      let one = fate words bytes g s p calm e in
      let other = fate words bytes h t q quiet f in
      one_fate one.0 bytes s t p q (λ race. not (one.1 ∙ race)) one.2 (subst (λ (o : Option Asked). Fate o bytes t q) (sym other.1 ∙ one.1) other.2)
