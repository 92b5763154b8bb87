-- Lines that may stand in a file.
use Rattle.std.proofs.Common.{◌≡◌, ◌==◌, ℕ, Bool, true, false, not, ◌||◌, List, [], ◌∷◌, refl}
use Rattle.lasting_lines.specs.Batches.{IsPart}
use Rattle.lasting_lines.proofs.Lines.{and_left, and_right}
use Rattle.nitro_library.specs.Endings.{is_part}

neither : (a b : Bool) → not (a || b) ≡ true → (a ≡ false) × (b ≡ false)
neither true b e = cc
neither false true e = cc
neither false false e = (refl, refl)

pub part : (line : List ℕ) → is_part line ≡ true → IsPart line
part [] e = tt
part (b ∷ line) e =
    let here = neither (b == 10) (b == 30) (and_left (not (b == 10 || b == 30)) (is_part line) e) in
    (here.0, here.1, part line (and_right (not (b == 10 || b == 30)) (is_part line) e))
