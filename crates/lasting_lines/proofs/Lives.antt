-- What was written in any run is explained by the file in the end.
use Rattle.std.proofs.Common.{◌≡◌, ℕ, List, [], ◌∷◌, ◌++◌, sym, ◌∙◌, ap}
use Rattle.std.specs.List.{AllByRecursion}
use Rattle.std.proofs.lemmas.List.{append-nil, append_assoc}
use Rattle.lasting_lines.specs.Machines.{Ways}
use Rattle.lasting_lines.specs.Files.{Op, Appended, Synced, Written, Aside, disk, MayLeave, written}
use Rattle.lasting_lines.specs.Lines.{recovered, records, AreTaken}
use Rattle.lasting_lines.specs.Serving.{state, owed, IsPrefix, Always}
use Rattle.lasting_lines.specs.Lives.{Run, AreLives, IsLeft}
use Rattle.lasting_lines.specs.declared.played.Played.{Played}
use Rattle.lasting_lines.proofs.Lines.{recovered-records, recovered-taken, owed-append}

-- a file only grows
pub grows : (start : List ℕ) (ops : List Op) → (more : List ℕ) × ((disk start ops).safe ≡ start ++ more)
grows start [] = ([], sym (append-nil start))
grows start (Appended bytes ∷ ops) = grows start ops
grows start (Synced ∷ ops) =
    let g = grows start ops in (
      g.0 ++ (disk start ops).loose,
      ap (λ (l : List ℕ). l ++ (disk start ops).loose) g.1 ∙ append_assoc start g.0 (disk start ops).loose,
    )
grows start (Written text ∷ ops) = grows start ops
grows start (Aside text ∷ ops) = grows start ops

prefix-trans : (a b c : List ℕ) → IsPrefix a b → IsPrefix b c → IsPrefix a c
prefix-trans a b c f g = (f.0 ++ g.0, sym (append_assoc a f.0 g.0) ∙ ap (λ (l : List ℕ). l ++ g.0) f.1 ∙ g.1)

module _ {M : Type 0} (ways : Ways M) (p : Played M) where
  -- a longer file owes more
  longer : (c start : List ℕ) (lines : List (List ℕ)) (more : List ℕ) → AreTaken ways p lines → start ≡ records ways p lines → c ≡ start ++ more
      → IsPrefix (owed ways p lines) (owed ways p (recovered ways p c))
  longer c start lines more all is e = (
    owed ways (state ways p lines) (recovered ways (state ways p lines) more),
    sym (owed-append ways p lines (recovered ways (state ways p lines) more))
        ∙ ap (owed ways p) (sym (ap (recovered ways p) (e ∙ ap (λ (l : List ℕ). l ++ more) is) ∙ recovered-records ways p lines more all)),
  )

  head : (run : Run) → Always ways p run.before run.start run.ops → (c : List ℕ) → MayLeave (disk run.start run.ops) c → IsPrefix (written run.before run.ops) (owed ways p (recovered ways p c))
  head run always c left = go run.ops always left
    where
      go : (ops : List Op) → Always ways p run.before run.start ops → MayLeave (disk run.start ops) c → IsPrefix (written run.before ops) (owed ways p (recovered ways p c))
      go [] always left = always c left
      go (op ∷ ops) always left = always.0 c left

  all-prefixes : (runs : List Run) (short long : List ℕ) → IsPrefix short long → AllByRecursion (λ run. IsPrefix (written run.before run.ops) short) runs → AllByRecursion (λ run. IsPrefix (written run.before run.ops) long) runs
  all-prefixes [] short long f all = tt
  all-prefixes (run ∷ runs) short long f all = (prefix-trans (written run.before run.ops) short long all.0 f, all-prefixes runs short long f all.1)

  pub one_story : (runs : List Run) (c : List ℕ) → AreLives ways p runs → IsLeft c runs → AllByRecursion (λ run. IsPrefix (written run.before run.ops) (owed ways p (recovered ways p c))) runs
  one_story [] c lives left = tt
  one_story (run ∷ runs) c lives left =
      let begins = lives.1 in
      let grown = grows run.start run.ops in
      let same : c ≡ run.start ++ (grown.0 ++ left.0) = left.1 ∙ ap (λ (l : List ℕ). l ++ left.0) grown.1 ∙ append_assoc run.start grown.0 left.0 in
      let earlier = one_story runs begins.0 lives.2 begins.1 in (
        head run lives.0 c left,
        all-prefixes runs (owed ways p (recovered ways p begins.0)) (owed ways p (recovered ways p c))
            (longer c run.start (recovered ways p begins.0) (grown.0 ++ left.0) (recovered-taken ways p begins.0) begins.2 same) earlier,
      )
