-- Playing the rows of a file.
use Rattle.std.proofs.Common.{◌≡◌, ◌≢◌, ℕ, ◌+◌, ◌-◌, Bool, true, false, ◌&&◌, ◌||◌, nat_lt, cond, List, [], ◌∷◌, ◌++◌, length, refl, sym, ◌∙◌, ap, subst, arith, length-append}
use Rattle.std.specs.Str.{bytes_eq}
use Rattle.std.proofs.lemmas.List.{append-nil, append_assoc}
use Rattle.std.proofs.lemmas.Slice.Eq.{bytes_eq-Decides}
use Rattle.lasting_lines.specs.Machines.{Ways}
use Rattle.lasting_lines.specs.Lines.{rows_from, rows, IsLine, after, response, row_of, records, line_in, is_right, lines_of, recovered, AreTaken}
use Rattle.lasting_lines.specs.Serving.{state}
use Rattle.lasting_lines.specs.Opening.{begins_later, is_damaged, IsFound, owed_above, EndsWith, IsPlayed, next_number}
use Rattle.lasting_lines.specs.declared.played.Played.{Played}
use Rattle.lasting_lines.specs.declared.recovery.Found.{Found}
use Rattle.lasting_lines.specs.declared.recovery.Found.TheVariants.{Torn, Damaged}
use Rattle.lasting_lines.proofs.Lines.{rows_from-line, recovered-records, records-append, all-push, state-append, and_left, and_right}

rows_from-none : (prefix bytes : List ℕ) → IsLine bytes → rows_from prefix bytes ≡ []
rows_from-none prefix [] is = refl
rows_from-none prefix (b ∷ rest) is = ap (λ (t : Bool). cond t (prefix ∷ rows_from [] rest) (rows_from (prefix ++ b ∷ []) rest)) is.0 ∙ rows_from-none (prefix ++ b ∷ []) rest is.1

undamaged : (n : ℕ) (bytes : List ℕ) → IsLine bytes → is_damaged n bytes ≡ false
undamaged n [] is = refl
undamaged n (b ∷ rest) is = ap (λ (t : Bool). (t && begins_later n rest) || is_damaged n rest) is.0 ∙ undamaged n rest is.1

split_is_some : (row more rest : List ℕ) → rest ≡ row ++ 10 ∷ more → rest ≢ []
split_is_some row more rest split = λ none.
    let whole : length rest ≡ length row + length (10 ∷ more) = ap length split ∙ length-append row (10 ∷ more) in
    let empty : length rest ≡ 0 = ap length none in absurd (omega arith)

none_is : (bytes : List ℕ) → length bytes ≡ 0 → bytes ≡ []
none_is [] e = refl
none_is (b ∷ rest) e = absurd (omega arith)

is-false : (t : Bool) → (t ≡ true → false ≡ true) → false ≡ t
is-false true h = h refl
is-false false h = refl

module _ {M : Type 0} (ways : Ways M) where
  -- ---- one row

  pub right_row : (p : Played M) (row line : List ℕ) → line ≡ line_in ways p row → ways.takes p.machine line ≡ true → row ≡ row_of ways p line → true ≡ is_right ways p row
  right_row p row line l t e =
      sym ((bytes_eq-Decides row (row_of ways p line)).1 e)
      ∙ ap (λ (b : Bool). b && bytes_eq row (row_of ways p line)) (sym t)
      ∙ ap (λ (x : List ℕ). ways.takes p.machine x && bytes_eq row (row_of ways p x)) l

  pub wrong_row : (p : Played M) (row line : List ℕ) → line ≡ line_in ways p row → (row ≡ row_of ways p line → false ≡ true) → false ≡ is_right ways p row
  wrong_row p row line l other =
      is-false (is_right ways p row) (λ h. other (
      (bytes_eq-Decides row (row_of ways p line)).0 (and_right (ways.takes p.machine line) (bytes_eq row (row_of ways p line))
      (ap (λ (x : List ℕ). ways.takes p.machine x && bytes_eq row (row_of ways p x)) l ∙ h))))

  right-is : (p : Played M) (row : List ℕ) → is_right ways p row ≡ true → row ≡ row_of ways p (line_in ways p row)
  right-is p row h = (bytes_eq-Decides row (row_of ways p (line_in ways p row))).0 (and_right (ways.takes p.machine (line_in ways p row)) (bytes_eq row (row_of ways p (line_in ways p row))) h)

  right-takes : (p : Played M) (row : List ℕ) → is_right ways p row ≡ true → ways.takes p.machine (line_in ways p row) ≡ true
  right-takes p row h = and_left (ways.takes p.machine (line_in ways p row)) (bytes_eq row (row_of ways p (line_in ways p row))) h

  -- ---- no row, or a wrong one
  pub no_row : (p : Played M) (rest : List ℕ) → IsLine rest → recovered ways p rest ≡ []
  no_row p rest is = ap (lines_of ways p) (rows_from-none [] rest is)

  pub no_right_row : (p : Played M) (row more rest : List ℕ) → rest ≡ row ++ 10 ∷ more → IsLine row → is_right ways p row ≡ false → recovered ways p rest ≡ []
  no_right_row p row more rest split is wrong =
      ap (recovered ways p) split ∙ ap (lines_of ways p) (rows_from-line [] row more is)
      ∙ ap (λ (t : Bool). cond t (line_in ways p row ∷ lines_of ways (after ways p (line_in ways p row)) (rows more)) []) wrong

  -- ---- all rows up to one

  abbrev pub response_above : ℕ → Played M → List ℕ → List ℕ
  response_above n p line = cond (nat_lt n (p.count + 1)) (response ways p line) []

  owed_above-push : (n : ℕ) (p : Played M) (lines : List (List ℕ)) (line : List ℕ) → owed_above ways n p (lines ++ line ∷ []) ≡ owed_above ways n p lines ++ response_above n (state ways p lines) line
  owed_above-push n p [] line = append-nil (response_above n p line)
  owed_above-push n p (x ∷ lines) line =
      ap (λ (l : List ℕ). response_above n p x ++ l) (owed_above-push n (after ways p x) lines line)
      ∙ sym (append_assoc (response_above n p x) (owed_above ways n (after ways p x) lines) (response_above n (state ways (after ways p x) lines) line))

  -- the rows before the rest are records, and are played
  pub record Playing (p : Played M) (file : List ℕ) (n : ℕ) (now : Played M) (rest again : List ℕ) : Type 0 where
    pub lines : List (List ℕ)
    pub each : AreTaken ways p lines
    pub bytes : file ≡ records ways p lines ++ rest
    pub place : now ≡ state ways p lines
    pub text : again ≡ owed_above ways n p lines

  pub playing_none : (p : Played M) (file : List ℕ) (n : ℕ) → Playing p file n p file []
  playing_none p file n = record { lines = []; each = tt; bytes = refl; place = refl; text = refl }

  module _ (p : Played M) (file : List ℕ) (n : ℕ) (now : Played M) (rest again : List ℕ) (playing : Playing p file n now rest again) where
    pub playing_more : (row more : List ℕ) → rest ≡ row ++ 10 ∷ more → IsLine row → is_right ways now row ≡ true
        → (then' : Played M) → then' ≡ after ways now (line_in ways now row) → (answer : List ℕ) → answer ≡ response ways now (line_in ways now row)
        → (texts : List ℕ) → texts ≡ again ++ cond (nat_lt n then'.count) answer [] → Playing p file n then' more texts
    playing_more row more split is right then' place answer answers texts adds =
        let text : texts ≡ again ++ response_above n now (line_in ways now row) =
        adds ∙ ap (λ (q : Played M). again ++ cond (nat_lt n q.count) answer []) place
        ∙ ap (λ (l : List ℕ). again ++ cond (nat_lt n (now.count + 1)) l []) answers in
        let line = line_in ways now row in
        let is-row : IsLine (row_of ways now line) = subst IsLine (right-is now row right) is in
        record {
          lines = playing.lines ++ line ∷ [];
          each =
              all-push ways p playing.lines line playing.each (ap (λ (q : Played M). ways.takes q.machine line) (sym playing.place) ∙ right-takes now row right)
              (subst (λ (q : Played M). IsLine (row_of ways q line)) playing.place is-row);
          bytes =
              playing.bytes ∙ ap (λ (l : List ℕ). records ways p playing.lines ++ l) split
              ∙ ap (λ (l : List ℕ). records ways p playing.lines ++ (l ++ 10 ∷ more)) (right-is now row right)
              ∙ ap (λ (q : Played M). records ways p playing.lines ++ (row_of ways q line ++ 10 ∷ more)) playing.place
              ∙ ap (λ (l : List ℕ). records ways p playing.lines ++ l) (sym (append_assoc (row_of ways (state ways p playing.lines) line) (10 ∷ []) more))
              ∙ sym (append_assoc (records ways p playing.lines) (row_of ways (state ways p playing.lines) line ++ 10 ∷ []) more)
              ∙ ap (λ (l : List ℕ). l ++ more) (sym (records-append ways p playing.lines (line ∷ [])));
          place = place ∙ ap (λ (q : Played M). after ways q line) playing.place ∙ sym (state-append ways p playing.lines (line ∷ []));
          text =
              text ∙ ap (λ (l : List ℕ). l ++ response_above n now line) playing.text
              ∙ ap (λ (q : Played M). owed_above ways n p playing.lines ++ response_above n q line) playing.place
              ∙ sym (owed_above-push n p playing.lines line);
        }

    -- ---- the end

    module _ (wrong : recovered ways now rest ≡ []) where
      pub recovered_is : recovered ways p file ≡ playing.lines
      recovered_is =
          ap (recovered ways p) playing.bytes ∙ recovered-records ways p playing.lines rest playing.each
          ∙ ap (λ (q : Played M). playing.lines ++ recovered ways q rest) (sym playing.place)
          ∙ ap (λ (l : List (List ℕ)). playing.lines ++ l) wrong ∙ append-nil playing.lines

      pub ends_with : EndsWith ways p file rest
      ends_with = record {
        whole = playing.bytes ∙ ap (λ (l : List (List ℕ)). records ways p l ++ rest) (sym recovered_is);
        wrong = ap (λ (l : List (List ℕ)). recovered ways (state ways p l) rest) recovered_is ∙ ap (λ (q : Played M). recovered ways q rest) (sym playing.place) ∙ wrong;
      }

      pub count_is : next_number ways p file ≡ now.count + 1
      count_is = ap (λ (l : List (List ℕ)). (state ways p l).count + 1) recovered_is ∙ ap (λ (q : Played M). q.count + 1) (sym playing.place)

      pub kept_is : length file - length rest ≡ length (records ways p (recovered ways p file))
      kept_is =
          let e : length file ≡ length (records ways p (recovered ways p file)) + length rest = ap length ends_with.whole ∙ length-append (records ways p (recovered ways p file)) rest in
          omega arith

      pub is_played : rest ≡ [] → IsPlayed ways p file n now again
      is_played none = record {
        whole = ends_with.whole ∙ ap (λ (l : List ℕ). records ways p (recovered ways p file) ++ l) none ∙ append-nil (records ways p (recovered ways p file));
        place = playing.place ∙ ap (state ways p) (sym recovered_is);
        text = playing.text ∙ ap (owed_above ways n p) (sym recovered_is);
      }

    pub found_whole : IsLine rest → length rest ≡ 0 → IsPlayed ways p file n now again
    found_whole is none = is_played (no_row now rest is) (none_is rest none)

    pub found_torn : IsLine rest → rest ≢ [] → IsFound ways p file n (Torn (length file - length rest))
    found_torn is some =
        let wrong = no_row now rest is in (
          rest,
          ends_with wrong,
          some,
          kept_is wrong,
          ap (λ (k : ℕ). is_damaged k rest) (count_is wrong) ∙ undamaged (now.count + 1) rest is,
        )

    -- a row that isn't right
    pub found_tail : (row more : List ℕ) → rest ≡ row ++ 10 ∷ more → IsLine row → is_right ways now row ≡ false → (found : Found M)
        → (is_damaged (now.count + 1) rest ≡ false → found ≡ Torn (length file - length rest)) → (is_damaged (now.count + 1) rest ≡ true → found ≡ Damaged)
        → IsFound ways p file n found
    found_tail row more split is not-right found torn damaged = go (is_damaged (now.count + 1) rest) refl
      where
        wrong : recovered ways now rest ≡ []
        wrong = no_right_row now row more rest split is not-right

        go : (t : Bool) → is_damaged (now.count + 1) rest ≡ t → IsFound ways p file n found
        go true e = subst (IsFound ways p file n) (sym (damaged e)) (rest, ends_with wrong, ap (λ (k : ℕ). is_damaged k rest) (count_is wrong) ∙ e)
        go false e =
            subst (IsFound ways p file n) (sym (torn e))
            (rest, ends_with wrong, split_is_some row more rest split, kept_is wrong, ap (λ (k : ℕ). is_damaged k rest) (count_is wrong) ∙ e)
