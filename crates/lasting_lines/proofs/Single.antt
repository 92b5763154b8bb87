-- A line that is taken by itself.
use Rattle.std.proofs.Common.{◌≡◌, ℕ, true, List, [], ◌∷◌, ◌++◌, refl}
use Rattle.lasting_lines.specs.Machines.{Ways}
use Rattle.lasting_lines.specs.Files.{Appended, Synced, Written}
use Rattle.lasting_lines.specs.Lines.{after, response, row_of, IsLine}
use Rattle.lasting_lines.specs.Serving.{IsAlone}
use Rattle.lasting_lines.specs.declared.played.Played.{Played}
use Rattle.lasting_lines.proofs.Moments.{as-ready}

pub alone : {M : Type 0} (ways : Ways M) (old now : Played M) (line row text : List ℕ) → ways.takes old.machine line ≡ true
    → IsLine (row_of ways old line) → row ≡ row_of ways old line ++ 10 ∷ [] → text ≡ response ways old line
    → now ≡ after ways old line → IsAlone ways old line row text now
alone ways old now line row text takes is row-is text-is place = record {
  row_is = row-is;
  text_is = text-is;
  place = place;
  ready = λ ops p before start r.
      as-ready ways p before start ops old r line takes is row row-is (Appended row ∷ ops) refl (Synced ∷ Appended row ∷ ops) refl
      text text-is (Written text ∷ Synced ∷ Appended row ∷ ops) refl now place;
}
