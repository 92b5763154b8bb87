-- The first line of a state file.
use Rattle.std.proofs.Common.{◌≡◌, ◌==◌, ℕ, Bool, true, false, ◌||◌, List, [], ◌∷◌, ◌++◌, refl, ◌∙◌, sym, ap, subst}
use Rattle.lasting_lines.specs.Lines.{IsLine}
use Rattle.nitro_library.specs.Heads.{has_line}
use Rattle.nitro_library.specs.Beginnings.{IsForeign}
use Rattle.nitro_library.specs.declared.opened.OpenedFile.{OpenedFile}
use Rattle.nitro_library.specs.declared.status.Failure.{Failure}
use Rattle.nitro_library.specs.declared.status.Failure.TheVariants.{OutOfMemory}

pub no_line : (bytes : List ℕ) → IsLine bytes → false ≡ has_line bytes
no_line [] is = refl
no_line (b ∷ rest) is = no_line rest is.1 ∙ sym (ap (λ (t : Bool). t || has_line rest) is.0)

pub some_line : (bytes row rest : List ℕ) → bytes ≡ row ++ 10 ∷ rest → true ≡ has_line bytes
some_line bytes row rest e = go row ∙ sym (ap has_line e)
  where
    go : (row : List ℕ) → true ≡ has_line (row ++ 10 ∷ rest)
    go [] = refl
    go (b ∷ row) = either (b == 10) (has_line (row ++ 10 ∷ rest)) (go row)
      where
        either : (x y : Bool) → true ≡ y → true ≡ (x || y)
        either true y e = refl
        either false y e = e

pub memory : (title : List ℕ) (file : OpenedFile) (bytes : List ℕ) (failure : Failure) → failure ≡ OutOfMemory → IsForeign title file bytes failure
memory title file bytes failure e = subst (IsForeign title file bytes) (sym e) tt
