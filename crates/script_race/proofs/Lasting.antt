-- A race of the steps, from its start on.
use Rattle.std.proofs.Common.{◌≡◌, ℕ, zero, suc, ◌+◌, ◌<◌, ◌≤◌, Bool, true, inl, inr, List, [], ◌∷◌, ◌++◌, length, map, drop, get_or, refl, sym, ◌∙◌, ap, subst, arith}
use Rattle.std.proofs.lemmas.List.{at_drop_more, reverse-reverse}
use Rattle.std.specs.Prelude.{All}
use Rattle.call_history.specs.History.{newest_first, now_of}
use Rattle.call_history.specs.declared.entry.Entry.{Entry}
use Rattle.channel_safety.specs.Journals.{In}
use Rattle.network.specs.Ways.{Ways}
use Rattle.network.specs.Entered.{oldest_first}
use Rattle.channel_safety.specs.Races.{IsRaced}
use Rattle.script_race.specs.Races.{RaceOf, starting, stage_of, DoesAs, Races}
use Rattle.script_race.proofs.Staying.{does_stays}
use Rattle.network_rounds.specs.Races.{IsRacing}
use Rattle.network_rounds.specs.Members.{HasFollowed}
use Rattle.network_rounds.specs.Players.{Player}
use Rattle.step_meanings.specs.Meanings.{meaning}
use Rattle.script_play.specs.Play.{numbered}
use Rattle.script_race.proofs.Fitting.{meaning_fits}
use Rattle.script_race.proofs.Timing.{have_followed, is_early}
use Rattle.script_race.specs.Driving.{KeepRaces}
use Rattle.script_steps.specs.Bounds.{Fits}
use Rattle.script_steps.specs.Conditions.{runs_in_race}
use Rattle.script_steps.specs.declared.step.Step.{Step}

-- ---- the start

-- actors whose notes are empty
pub no_notes : {A : Type 0} (f : A → Player) (xs : List A) → All (λ a. (f a).notes ≡ []) xs → (x : Player) → In x (map f xs) → x.notes ≡ []
no_notes f [] all x i = absurd i
no_notes f (y ∷ ys) all x (inl e) = ap (λ (p : Player). p.notes) e ∙ all 0 y (omega arith)
no_notes f (y ∷ ys) all x (inr i) = no_notes f ys (λ k d lt. all (suc k) d (omega (arith, lt))) x i

no_split : {A : Type 0} (later past : List A) (e : A) → [] ≡ later ++ e ∷ past → ⊥
no_split [] past e is = cc
no_split (x ∷ later) past e is = cc

none_raced : IsRaced [] [] []
none_raced = record { rounds = tt; ticks = λ later past e time split sets. absurd (no_split later past e split); over_by_now = omega arith }

module _ {P : Type 0} (ways : Ways P) (stands : List Entry → P → Type 0) (lost : P → Bool) where
  pub starts_racing : (cast : List Player) → ((x : Player) → In x cast → x.notes ≡ []) → IsRacing ways stands lost (stage_of (starting cast))
  starts_racing cast none = record {
    crew = record {
      legal = λ k e at. absurd (cc);
      nodes = λ m i. absurd i;
      notes = λ x i. ([], sym (ap (λ (l : List Entry). l ++ []) (none x i)));
    };
    ticks = none_raced;
    racers = λ m i. absurd i;
  }

  -- ---- what the driver knows of it

  pub early_by_now : (s : RaceOf P) (h : List Entry) → s.scene.world.history ≡ newest_first h → IsRacing ways stands lost (stage_of s) → now_of (newest_first h) ≤ length h
  early_by_now s h e is =
      subst (λ (l : List Entry). now_of (newest_first l) ≤ length l) (ap oldest_first e ∙ reverse-reverse h) (is_early ways stands lost (stage_of s) is)

  module _ (keep : KeepRaces ways stands lost) where
    pub all_followed : (s : RaceOf P) (h : List Entry) → s.scene.world.history ≡ newest_first h → IsRacing ways stands lost (stage_of s) → All (HasFollowed ways h) s.scene.world.members
    all_followed s h e is =
        subst (λ (l : List Entry). All (HasFollowed ways l) s.scene.world.members) (ap oldest_first e ∙ reverse-reverse h) (have_followed ways stands lost keep (stage_of s) is)

    -- it stays one, whatever a step does
    pub plays_on : (number : ℕ) (step : Step) (s t : RaceOf P) → Fits step → runs_in_race step ≡ true → IsRacing ways stands lost (stage_of s)
        → DoesAs ways number (meaning s.scene.names step) s t → IsRacing ways stands lost (stage_of t)
    plays_on number step s t fit may is does =
        does_stays ways stands lost keep.kept keep.writes number (meaning s.scene.names step).effect (record s { scene = record s.scene { names = (meaning s.scene.names step).names } }) t
        (meaning_fits s.scene.names step fit may) is does

-- ---- steps, one after another

-- the rest of the steps, after this one
pub races_on : {P : Type 0} (ways : Ways P) (number : ℕ) (steps : List Step) (i : ℕ) (d : Step) (s mid t : RaceOf P) → i < length steps
    → DoesAs ways number (meaning s.scene.names (get_or steps i d)) s mid → Races ways (numbered (number + 1) (drop (i + 1) steps)) mid t → Races ways (numbered number (drop i steps)) s t
races_on ways number steps i d s mid t inside does rest =
    let at : numbered number (drop i steps) ≡ (number, get_or steps i d) ∷ numbered (number + 1) (drop (i + 1) steps) = at_drop_more (λ xs. numbered number xs) steps i d inside in
    subst (λ (l : List (ℕ × Step)). Races ways l s t) (sym at) (mid, does, rest)

-- none is left
pub races_end : {P : Type 0} (ways : Ways P) (number : ℕ) (steps : List Step) (i : ℕ) (s : RaceOf P) → length steps ≤ i → Races ways (numbered number (drop i steps)) s s
races_end ways number [] zero s le = refl
races_end ways number [] (suc i) s le = refl
races_end ways number (x ∷ steps) zero s le = absurd (omega (arith, le))
races_end ways number (x ∷ steps) (suc i) s le = races_end ways number steps i s (omega (arith, le))
