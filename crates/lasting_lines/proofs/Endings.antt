-- Why playing a file fails.
use Rattle.std.proofs.Common.{◌≡◌, ℕ, Bool, true, ◌&&◌, List, [], ◌∷◌, ◌++◌, refl, ◌∙◌, ap}
use Rattle.lasting_lines.specs.Machines.{Ways}
use Rattle.lasting_lines.specs.Batches.{batched, parts, takes_all}
use Rattle.lasting_lines.specs.Lines.{records, line_in}
use Rattle.lasting_lines.specs.Endings.{FailsBy, IsFull, Follows, FullIn, HasForeign, ForeignIn}
use Rattle.lasting_lines.specs.declared.outside.Fault.{Fault}
use Rattle.lasting_lines.specs.declared.outside.Fault.TheVariants as faults
use Rattle.lasting_lines.specs.declared.played.Played.{Played}
use Rattle.lasting_lines.proofs.Playing.{Playing}

-- for other reasons, which hold where these do
pub fails_so : (A B C D : Type 0) (fault : Fault) → (A → C) → (B → D) → FailsBy A B fault → FailsBy C D fault
fails_so A B C D faults.NoMemory f g why = tt
fails_so A B C D faults.Foreign f g why = f why
fails_so A B C D faults.Full f g why = g why
fails_so A B C D faults.Input f g why = absurd why
fails_so A B C D faults.Failed f g why = absurd why

module _ {M : Type 0} (ways : Ways M) (Foreign : M → List ℕ → Type 0) where
  -- ---- the lines of a batch

  pub foreign_first : (m : M) (line : List ℕ) (rest : List (List ℕ)) → ways.takes m line ≡ true → Foreign m line
      → HasForeign ways Foreign m (line ∷ rest)
  foreign_first m line rest takes foreign =
      record { before = []; line = line; rest = rest; is = refl; taken = ap (λ (t : Bool). t && true) takes; foreign = foreign }

  pub foreign_later : (m : M) (line : List ℕ) (rest : List (List ℕ)) → ways.takes m line ≡ true
      → HasForeign ways Foreign (ways.next m line) rest → HasForeign ways Foreign m (line ∷ rest)
  foreign_later m line rest takes h = record {
    before = line ∷ h.before;
    line = h.line;
    rest = h.rest;
    is = ap (λ (l : List (List ℕ)). line ∷ l) h.is;
    taken = ap (λ (t : Bool). t && takes_all ways (ways.next m line) (h.before ++ h.line ∷ [])) takes ∙ h.taken;
    foreign = h.foreign;
  }

  -- ---- the row of a file

  module _ (p : Played M) (file : List ℕ) (n : ℕ) (now : Played M) (rest again : List ℕ) (playing : Playing (batched ways) p file n now rest again) where
    follows : (row more : List ℕ) → rest ≡ row ++ 10 ∷ more → Follows ways p file now row
    follows row more split = record {
      lines = playing.lines;
      each = playing.each;
      more = more;
      bytes = playing.bytes ∙ ap (λ (l : List ℕ). records (batched ways) p playing.lines ++ l) split;
      place = playing.place;
    }

    pub row_fails : (row more : List ℕ) (fault : Fault) → rest ≡ row ++ 10 ∷ more
        → FailsBy (HasForeign ways Foreign now.machine (parts (line_in (batched ways) now row))) (IsFull now) fault
        → FailsBy (ForeignIn ways Foreign p file) (FullIn ways p file) fault
    row_fails row more fault split why =
        let here = follows row more split in
        fails_so (HasForeign ways Foreign now.machine (parts (line_in (batched ways) now row))) (IsFull now) (ForeignIn ways Foreign p file) (FullIn ways p file) fault
        (λ h. (now, row, here, h)) (λ f. (now, row, here, f)) why
