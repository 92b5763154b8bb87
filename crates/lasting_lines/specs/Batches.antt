-- Lines that share a record, and what a machine does with all of them.
use Rattle.std.specs.Prelude.{◌≡◌, ℕ, suc, ◌==◌, Bool, true, false, ◌&&◌, List, [], ◌∷◌, ◌++◌, length, if◌then◌else◌, Option, Some, None}
use Rattle.lasting_lines.specs.Machines.{Ways}
use Rattle.lasting_lines.specs.declared.played.Played.{Played}

-- A line of a source: no byte is a line feed, or the byte that separates the lines of a batch.
abbrev pub IsPart : List ℕ → Type 0
IsPart [] = Unit {0}
IsPart (b ∷ rest) = ((b == 10) ≡ false) × ((b == 30) ≡ false) × IsPart rest

abbrev pub parts_from : List ℕ → List ℕ → List (List ℕ)
parts_from prefix [] = prefix ∷ []
parts_from prefix (b ∷ rest) = if b == 30 then prefix ∷ parts_from [] rest else parts_from (prefix ++ b ∷ []) rest

-- the lines of a batch
abbrev pub parts : List ℕ → List (List ℕ)
parts batch = parts_from [] batch

-- the lines of what is left of a batch
abbrev pub parts_left : Option (List ℕ) → List (List ℕ)
parts_left None = []
parts_left (Some rest) = parts rest

abbrev pub size_left : Option (List ℕ) → ℕ
size_left None = 0
size_left (Some rest) = suc (length rest)

module _ {M : Type 0} (ways : Ways M) where
  -- each line is taken after those before it
  abbrev pub takes_all : M → List (List ℕ) → Bool
  takes_all m [] = true
  takes_all m (line ∷ lines) = ways.takes m line && takes_all (ways.next m line) lines

  abbrev pub next_all : M → List (List ℕ) → M
  next_all m [] = m
  next_all m (line ∷ lines) = next_all (ways.next m line) lines

  -- the answers, one after the other
  abbrev pub owes_all : M → List (List ℕ) → List ℕ
  owes_all m [] = []
  owes_all m (line ∷ lines) = ways.owes m line ++ owes_all (ways.next m line) lines

  -- the machine that takes batches
  abbrev pub batched : Ways M
  batched = record {
    takes = λ m batch. takes_all m (parts batch);
    next = λ m batch. next_all m (parts batch);
    owes = λ m batch. owes_all m (parts batch);
  }

  -- From p on a machine has taken the lines of a batch, which has no record yet.
  pub record Holds (p now : Played M) (batch answer : List ℕ) : Type 0 where
    pub count : now.count ≡ p.count
    pub mark : now.mark ≡ p.mark
    pub takes : takes_all p.machine (parts batch) ≡ true
    pub next : now.machine ≡ next_all p.machine (parts batch)
    pub owes : answer ≡ owes_all p.machine (parts batch)
