-- What files of records stand for.
use Rattle.std.proofs.Common.{◌≡◌, ◌==◌, Result, Ok, Err, OnOk, OnErr, ℕ, suc, zero, ◌+◌, Bool, true, false, ◌&&◌, cond, List, [], ◌∷◌, ◌++◌, length, drop, refl, sym, ◌∙◌, ap, subst, arith, length-append}
use Rattle.std.specs.List.{AllByRecursion}
use Rattle.std.specs.Str.{bytes_eq}
use Rattle.std.specs.Fmt.{decimal}
use Rattle.std.proofs.lemmas.List.{append-nil, append_assoc}
use Rattle.std.proofs.lemmas.Slice.Eq.{bytes_eq-Decides}
use Rattle.sha2.proofs.Facts256.{length-sha256}
use Rattle.sha2.specs.Sha256.{sha256}
use Rattle.hex.specs.Hex.{encode_lower, lower_digits}
use Rattle.hex.proofs.HexLemmas.{length-encode_with}
use Rattle.lasting_lines.specs.Machines.{Ways}
use Rattle.lasting_lines.specs.Lines.{rows_from, rows, mark_of, row_text, head_length, IsLine, after, response, row_of, records, line_in, is_right, lines_of, recovered, AreTaken}
use Rattle.lasting_lines.specs.Serving.{state, owed}
use Rattle.lasting_lines.specs.declared.played.Played.{Played}

-- ---- rows

-- a line with its feed, whatever stands after it
pub rows_from-line : (prefix line rest : List ℕ) → IsLine line → rows_from prefix (line ++ 10 ∷ rest) ≡ (prefix ++ line) ∷ rows_from [] rest
rows_from-line prefix [] rest is = ap (λ (l : List ℕ). l ∷ rows_from [] rest) (sym (append-nil prefix))
rows_from-line prefix (b ∷ line) rest is =
    ap (λ (t : Bool). cond t (prefix ∷ rows_from [] (line ++ 10 ∷ rest)) (rows_from (prefix ++ b ∷ []) (line ++ 10 ∷ rest))) is.0
    ∙ rows_from-line (prefix ++ b ∷ []) line rest is.1
    ∙ ap (λ (l : List ℕ). l ∷ rows_from [] rest) (append_assoc prefix (b ∷ []) line)

pub line-push : (prefix : List ℕ) (b : ℕ) → IsLine prefix → (b == 10) ≡ false → IsLine (prefix ++ b ∷ [])
line-push [] b is e = (e, tt)
line-push (x ∷ prefix) b is e = (is.0, line-push prefix b is.1 e)

pub rows_from-lines : (prefix file : List ℕ) → IsLine prefix → AllByRecursion IsLine (rows_from prefix file)
rows_from-lines prefix [] is = tt
rows_from-lines prefix (b ∷ rest) is = go (b == 10) refl (rows_from-lines [] rest tt) (λ e. rows_from-lines (prefix ++ b ∷ []) rest (line-push prefix b is e))
  where
    go : (t : Bool) → (b == 10) ≡ t → AllByRecursion IsLine (rows_from [] rest) → ((b == 10) ≡ false → AllByRecursion IsLine (rows_from (prefix ++ b ∷ []) rest))
        → AllByRecursion IsLine (cond t (prefix ∷ rows_from [] rest) (rows_from (prefix ++ b ∷ []) rest))
    go true e ends goes = (is, ends)
    go false e ends goes = goes e

-- ---- a row and its line

drop-past : (xs ys : List ℕ) (n k : ℕ) → n ≡ length xs + k → drop n (xs ++ ys) ≡ drop k ys
drop-past [] ys n k e = let same : n ≡ k = omega arith in ap (λ (m : ℕ). drop m ys) same
drop-past (x ∷ xs) ys zero k e = absurd (omega arith)
drop-past (x ∷ xs) ys (suc n) k e = drop-past xs ys n k (omega arith)

drop-head : (digits mark line : List ℕ) → length mark ≡ 64 → drop (length digits + 66) (digits ++ 32 ∷ mark ++ 32 ∷ line) ≡ line
drop-head digits mark line e =
    drop-past (digits ++ 32 ∷ mark) (32 ∷ line) (length digits + 66) 1 (omega (arith, length-append digits (32 ∷ mark), e))

length-mark : (before line answer : List ℕ) → length (encode_lower (mark_of before line answer)) ≡ 64
unfolding mark_of
length-mark before line answer = omega (arith, length-encode_with lower_digits (sha256 (before ++ line ++ 10 ∷ answer)), length-sha256 (before ++ line ++ 10 ∷ answer))

pub and_left : (a b : Bool) → (a && b) ≡ true → a ≡ true
and_left true b h = refl
and_left false b h = h

pub and_right : (a b : Bool) → (a && b) ≡ true → b ≡ true
and_right true b h = h
and_right false b h = cc

module _ {M : Type 0} (ways : Ways M) where
  pub line_in-row : (p : Played M) (line : List ℕ) → line_in ways p (row_of ways p line) ≡ line
  unfolding head_length row_text
  line_in-row p line = drop-head (decimal (p.count + 1)) (encode_lower (mark_of p.mark line (ways.owes p.machine line))) line (length-mark p.mark line (ways.owes p.machine line))

  right : (p : Played M) (line : List ℕ) → ways.takes p.machine line ≡ true → is_right ways p (row_of ways p line) ≡ true
  right p line t =
      ap (λ (l : List ℕ). ways.takes p.machine l && bytes_eq (row_of ways p line) (row_of ways p l)) (line_in-row p line)
      ∙ ap (λ (b : Bool). b && bytes_eq (row_of ways p line) (row_of ways p line)) t
      ∙ (bytes_eq-Decides (row_of ways p line) (row_of ways p line)).1 refl

  lines_of-row : (p : Played M) (line : List ℕ) (rest : List (List ℕ)) → ways.takes p.machine line ≡ true → lines_of ways p (row_of ways p line ∷ rest) ≡ line ∷ lines_of ways (after ways p line) rest
  lines_of-row p line rest t =
      ap (λ (b : Bool). cond b (line_in ways p (row_of ways p line) ∷ lines_of ways (after ways p (line_in ways p (row_of ways p line))) rest) []) (right p line t)
      ∙ ap (λ (l : List ℕ). l ∷ lines_of ways (after ways p l) rest) (line_in-row p line)

  -- records stand for their lines, whatever stands after them
  pub recovered-records : (p : Played M) (lines : List (List ℕ)) (rest : List ℕ) → AreTaken ways p lines → recovered ways p (records ways p lines ++ rest) ≡ lines ++ recovered ways (state ways p lines) rest
  recovered-records p [] rest all = refl
  recovered-records p (line ∷ lines) rest all =
      ap (recovered ways p) (append_assoc (row_of ways p line) (10 ∷ records ways (after ways p line) lines) rest)
      ∙ ap (lines_of ways p) (rows_from-line [] (row_of ways p line) (records ways (after ways p line) lines ++ rest) all.1)
      ∙ lines_of-row p line (rows (records ways (after ways p line) lines ++ rest)) all.0
      ∙ ap (λ (ls : List (List ℕ)). line ∷ ls) (recovered-records (after ways p line) lines rest all.2)

  pub records-append : (p : Played M) (xs ys : List (List ℕ)) → records ways p (xs ++ ys) ≡ records ways p xs ++ records ways (state ways p xs) ys
  records-append p [] ys = refl
  records-append p (x ∷ xs) ys =
      ap (λ (l : List ℕ). row_of ways p x ++ 10 ∷ l) (records-append (after ways p x) xs ys)
      ∙ sym (append_assoc (row_of ways p x) (10 ∷ records ways (after ways p x) xs) (records ways (state ways (after ways p x) xs) ys))

  pub all-push : (p : Played M) (lines : List (List ℕ)) (line : List ℕ) → AreTaken ways p lines → ways.takes (state ways p lines).machine line ≡ true → IsLine (row_of ways (state ways p lines) line) → AreTaken ways p (lines ++ line ∷ [])
  all-push p [] line all t is = (t, is, tt)
  all-push p (x ∷ lines) line all t is = (all.0, all.1, all-push (after ways p x) lines line all.2 t is)

  -- what is recovered was taken
  pub lines_of-taken : (p : Played M) (all : List (List ℕ)) → AllByRecursion IsLine all → AreTaken ways p (lines_of ways p all)
  lines_of-taken p [] are = tt
  lines_of-taken p (row ∷ rest) are = go (is_right ways p row) refl (lines_of-taken (after ways p (line_in ways p row)) rest are.1)
    where
      go : (t : Bool) → is_right ways p row ≡ t → AreTaken ways (after ways p (line_in ways p row)) (lines_of ways (after ways p (line_in ways p row)) rest)
          → AreTaken ways p (cond t (line_in ways p row ∷ lines_of ways (after ways p (line_in ways p row)) rest) [])
      go true e more = (
        and_left (ways.takes p.machine (line_in ways p row)) (bytes_eq row (row_of ways p (line_in ways p row))) e,
        subst IsLine ((bytes_eq-Decides row (row_of ways p (line_in ways p row))).0 (and_right (ways.takes p.machine (line_in ways p row)) (bytes_eq row (row_of ways p (line_in ways p row))) e)) are.0,
        more,
      )
      go false e more = tt

  pub recovered-taken : (p : Played M) (file : List ℕ) → AreTaken ways p (recovered ways p file)
  recovered-taken p file = lines_of-taken p (rows file) (rows_from-lines [] file tt)

  -- ---- machines

  pub state-append : (p : Played M) (xs ys : List (List ℕ)) → state ways p (xs ++ ys) ≡ state ways (state ways p xs) ys
  state-append p [] ys = refl
  state-append p (x ∷ xs) ys = state-append (after ways p x) xs ys

  pub owed-append : (p : Played M) (xs ys : List (List ℕ)) → owed ways p (xs ++ ys) ≡ owed ways p xs ++ owed ways (state ways p xs) ys
  owed-append p [] ys = refl
  owed-append p (x ∷ xs) ys =
      ap (λ (l : List ℕ). response ways p x ++ l) (owed-append (after ways p x) xs ys) ∙ sym (append_assoc (response ways p x) (owed ways (after ways p x) xs) (owed ways (state ways (after ways p x) xs) ys))

-- ---- results

pub either : {T E X P Q : Type 0} (r : Result T E) → OnOk r P → OnErr r Q → (P → X) → (Q → X) → X
either (Ok x) p q f g = f p
either (Err e) p q f g = g q
