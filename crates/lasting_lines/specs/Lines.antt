-- The records of a file, and the lines that they stand for.
use Rattle.std.specs.Prelude.{◌≡◌, ℕ, ◌+◌, ◌==◌, Bool, true, false, ◌&&◌, List, [], ◌∷◌, ◌++◌, length, drop}
use Rattle.std.specs.Prelude.{bytes_eq, codes, decimal, if◌then◌else◌}
use Rattle.sha2.specs.Sha256.{sha256}
use Rattle.hex.specs.Hex.{encode_lower}
use Rattle.lasting_lines.specs.Machines.{Ways}
use Rattle.lasting_lines.specs.declared.played.Played.{Played}

-- the rows of a file; what follows the last line feed is no row
abbrev pub rows_from : List ℕ → List ℕ → List (List ℕ)
rows_from prefix [] = []
rows_from prefix (b ∷ rest) = if b == 10 then prefix ∷ rows_from [] rest else rows_from (prefix ++ b ∷ []) rest

abbrev pub rows : List ℕ → List (List ℕ)
rows file = rows_from [] file

-- no byte is a line feed
abbrev pub IsLine : List ℕ → Type 0
IsLine [] = Unit {0}
IsLine (b ∷ rest) = ((b == 10) ≡ false) × IsLine rest

-- the mark of a line, after that of the line before it: it covers the answer too
unfoldable pub mark_of : List ℕ → List ℕ → List ℕ → List ℕ
mark_of before line answer = sha256 (before ++ line ++ 10 ∷ answer)

-- the number, the mark and the line
unfoldable pub row_text : ℕ → List ℕ → List ℕ → List ℕ
row_text number mark line = decimal number ++ 32 ∷ encode_lower mark ++ 32 ∷ line

-- where the line begins in a row of this number
unfoldable pub head_length : ℕ → ℕ
head_length number = length (decimal number) + 66

-- the last line of a response
unfoldable pub done_text : ℕ → List ℕ → List ℕ
done_text count mark =
    codes "{\"effect\":\"done\",\"n\":"
    ++ (decimal count ++ (codes ",\"mark\":\"" ++ (encode_lower mark ++ codes "\"}\n")))

module _ {M : Type 0} (ways : Ways M) where
  -- a line more
  abbrev pub after : Played M → List ℕ → Played M
  after p line = record {
    machine = ways.next p.machine line;
    count = p.count + 1;
    mark = mark_of p.mark line (ways.owes p.machine line);
  }

  -- what is written for it
  abbrev pub response : Played M → List ℕ → List ℕ
  response p line = ways.owes p.machine line ++ done_text (p.count + 1) (mark_of p.mark line (ways.owes p.machine line))

  -- what stands in the file for it
  abbrev pub row_of : Played M → List ℕ → List ℕ
  row_of p line = row_text (p.count + 1) (mark_of p.mark line (ways.owes p.machine line)) line

  abbrev pub records : Played M → List (List ℕ) → List ℕ
  records p [] = []
  records p (line ∷ lines) = row_of p line ++ 10 ∷ records (after p line) lines

  -- the line of a row, if the row is its record
  abbrev pub line_in : Played M → List ℕ → List ℕ
  line_in p row = drop (head_length (p.count + 1)) row

  -- the place after it, and the response to it
  abbrev pub after_row : Played M → List ℕ → Played M
  after_row p row = after p (line_in p row)

  abbrev pub response_to_row : Played M → List ℕ → List ℕ
  response_to_row p row = response p (line_in p row)

  abbrev pub is_right : Played M → List ℕ → Bool
  is_right p row = ways.takes p.machine (line_in p row) && bytes_eq row (row_of p (line_in p row))

  -- the lines of the rows up to the first that isn't right
  abbrev pub lines_of : Played M → List (List ℕ) → List (List ℕ)
  lines_of p [] = []
  lines_of p (row ∷ rest) = if is_right p row then line_in p row ∷ lines_of (after p (line_in p row)) rest else []

  abbrev pub recovered : Played M → List ℕ → List (List ℕ)
  recovered p file = lines_of p (rows file)

  -- each is taken, and its record is one row
  abbrev pub AreTaken : Played M → List (List ℕ) → Type 0
  AreTaken p [] = Unit {0}
  AreTaken p (line ∷ lines) =
      (ways.takes p.machine line ≡ true) × IsLine (row_of p line) × AreTaken (after p line) lines
