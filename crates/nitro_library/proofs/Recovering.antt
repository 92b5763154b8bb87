-- The records of a file, and a core over them.
use Rattle.std.proofs.Common.{◌≡◌, ℕ, Bool, false, cond, List, [], ◌∷◌, ◌++◌, refl, ◌∙◌, ap, subst}
use Rattle.lasting_lines.specs.Lines.{IsLine, recovered}
use Rattle.lasting_lines.specs.Machines.{Ways}
use Rattle.lasting_lines.specs.Files.{Written, Aside}
use Rattle.lasting_lines.specs.Opening.{IsPlayed, owed_to}
use Rattle.lasting_lines.specs.Serving.{Ready}
use Rattle.lasting_lines.specs.declared.played.Played.{Played}
use Rattle.lasting_lines.proofs.Beginning.{begins_written}
use Rattle.lasting_lines.proofs.Moments.{as-aside}
use Rattle.nitro_library.specs.Files.{records_in, Begins}
use Rattle.nitro_library.specs.declared.cores.Core.{Core}

-- ---- the first line

pub records_none : (bytes : List ℕ) → IsLine bytes → records_in bytes ≡ []
records_none [] is = refl
records_none (b ∷ rest) is = ap (λ (t : Bool). cond t rest (records_in rest)) is.0 ∙ records_none rest is.1

pub records_some : (bytes row rest : List ℕ) → bytes ≡ row ++ 10 ∷ rest → IsLine row → records_in bytes ≡ rest
records_some bytes row rest e is = ap records_in e ∙ go row is
  where
    go : (row : List ℕ) → IsLine row → records_in (row ++ 10 ∷ rest) ≡ rest
    go [] is = refl
    go (b ∷ row) is = ap (λ (t : Bool). cond t (row ++ 10 ∷ rest) (records_in (row ++ 10 ∷ rest))) is.0 ∙ go row is.1

-- ---- a core that begins

pub begins : {M : Type 0} (ways : Ways M) (ready : Played M → List ℕ) (p : Played M) (n : ℕ) (file : List ℕ) (again : List ℕ) (core : Core M)
    → IsPlayed ways p file n core.played again → core.kept.items ≡ again ++ ready core.played → core.is_over ≡ false
    → Begins ways ready p n file core
begins ways ready p n file again core played keeps goes_on = record {
  keeps = keeps ∙ ap (λ (t : List ℕ). t ++ ready core.played) played.text;
  stands =
      subst (λ (t : List ℕ). Ready ways p (owed_to ways n p (recovered ways p file)) file (Aside (ready core.played) ∷ Written t ∷ []) core.played)
      played.text (as-aside ways p (owed_to ways n p (recovered ways p file)) file (Written again ∷ []) core.played
      (begins_written ways p file n core.played again played [] (Written again ∷ []) refl refl) (ready core.played)
      (Aside (ready core.played) ∷ Written again ∷ []) refl);
  goes_on = goes_on;
}
