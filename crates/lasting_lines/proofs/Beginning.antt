-- A run that begins: the responses that were asked for are written again.
use Rattle.std.proofs.Common.{◌≡◌, ◌⊎◌, ℕ, ◌+◌, ◌<◌, Bool, true, false, cond, nat_lt, List, [], ◌∷◌, ◌++◌, ⊎_elim, refl, sym, ◌∙◌, ap, subst, arith}
use Rattle.std.proofs.lemmas.Bool.Decides.{nat_tests}
use Rattle.std.proofs.lemmas.List.{append_assoc}
use Rattle.lasting_lines.specs.Machines.{Ways}
use Rattle.lasting_lines.specs.Files.{Op, Written, disk, written}
use Rattle.lasting_lines.specs.Lines.{after, response, recovered}
use Rattle.lasting_lines.specs.Serving.{state, owed, Now, Always, Ready}
use Rattle.lasting_lines.specs.Opening.{owed_to, owed_above, IsPlayed}
use Rattle.lasting_lines.specs.declared.played.Played.{Played}
use Rattle.lasting_lines.proofs.Lines.{recovered-records, recovered-taken, owed-append}

module _ {M : Type 0} (ways : Ways M) (n : ℕ) where
  -- once the numbers are above n, all is after it
  none_to : (p : Played M) (lines : List (List ℕ)) → n < p.count + 1 → owed_to ways n p lines ≡ []
  none_to p [] above = refl
  none_to p (line ∷ lines) above =
      let t : nat_lt n (p.count + 1) ≡ true = grind (arith, nat_tests) in
      ap (λ (b : Bool). cond b [] (response ways p line) ++ owed_to ways n (after ways p line) lines) t ∙ none_to (after ways p line) lines (omega arith)

  all_above : (p : Played M) (lines : List (List ℕ)) → n < p.count + 1 → owed_above ways n p lines ≡ owed ways p lines
  all_above p [] above = refl
  all_above p (line ∷ lines) above =
      let t : nat_lt n (p.count + 1) ≡ true = grind (arith, nat_tests) in
      ap (λ (b : Bool). cond b (response ways p line) [] ++ owed_above ways n (after ways p line) lines) t
      ∙ ap (λ (l : List ℕ). response ways p line ++ l) (all_above (after ways p line) lines (omega arith))

  pub to_and_above : (p : Played M) (lines : List (List ℕ)) → owed_to ways n p lines ++ owed_above ways n p lines ≡ owed ways p lines
  to_and_above p [] = refl
  to_and_above p (line ∷ lines) = go (nat_lt n (p.count + 1)) refl (to_and_above (after ways p line) lines)
    where
      go : (t : Bool) → nat_lt n (p.count + 1) ≡ t
          → owed_to ways n (after ways p line) lines ++ owed_above ways n (after ways p line) lines ≡ owed ways (after ways p line) lines
          → (cond t [] (response ways p line) ++ owed_to ways n (after ways p line) lines) ++ (cond t (response ways p line) [] ++ owed_above ways n (after ways p line) lines)
          ≡ response ways p line ++ owed ways (after ways p line) lines
      go true e both =
          let above : n < p.count + 1 = grind (arith, nat_tests) in
          ap (λ (l : List ℕ). l ++ (response ways p line ++ owed_above ways n (after ways p line) lines)) (none_to (after ways p line) lines (omega arith))
          ∙ ap (λ (l : List ℕ). response ways p line ++ l) (all_above (after ways p line) lines (omega arith))
      go false e both =
          append_assoc (response ways p line) (owed_to ways n (after ways p line) lines) (owed_above ways n (after ways p line) lines)
          ∙ ap (λ (l : List ℕ). response ways p line ++ l) both

module _ {M : Type 0} (ways : Ways M) (p : Played M) (start : List ℕ) (n : ℕ) (now : Played M) (again : List ℕ) (played : IsPlayed ways p start n now again) where
  abbrev lines : List (List ℕ)
  lines = recovered ways p start

  abbrev before : List ℕ
  before = owed_to ways n p lines

  whole : before ++ again ≡ owed ways p lines
  whole = ap (λ (l : List ℕ). before ++ l) played.text ∙ to_and_above ways n p lines

  left : (c junk : List ℕ) → c ≡ start ++ junk → owed ways p (recovered ways p c) ≡ owed ways p lines ++ owed ways (state ways p lines) (recovered ways (state ways p lines) junk)
  left c junk e =
      ap (owed ways p) (
      ap (recovered ways p) (e ∙ ap (λ (l : List ℕ). l ++ junk) played.whole) ∙ recovered-records ways p lines junk (recovered-taken ways p start))
      ∙ owed-append ways p lines (recovered ways (state ways p lines) junk)

  begun : Always ways p before start []
  begun c l = (
    again ++ owed ways (state ways p lines) (recovered ways (state ways p lines) l.0),
    sym (append_assoc before again (owed ways (state ways p lines) (recovered ways (state ways p lines) l.0)))
        ∙ ap (λ (t : List ℕ). t ++ owed ways (state ways p lines) (recovered ways (state ways p lines) l.0)) whole
        ∙ sym (left c l.0 l.1),
  )

  written-again : Now ways p (disk start (Written again ∷ [])) (written before (Written again ∷ []))
  written-again c l = (
    owed ways (state ways p lines) (recovered ways (state ways p lines) l.0),
    ap (λ (t : List ℕ). t ++ owed ways (state ways p lines) (recovered ways (state ways p lines) l.0)) whole ∙ sym (left c l.0 l.1),
  )

  ready : Ready ways p before start (Written again ∷ []) now
  ready = record {
    lines = lines;
    each = recovered-taken ways p start;
    file = played.whole;
    loose = refl;
    text = whole;
    place = played.place;
    moments = (written-again, begun);
  }

  -- ---- as the call says it

  module _ (ops next : List Op) (new : ops ≡ []) where
    pub begins_written : next ≡ Written again ∷ ops → Ready ways p before start next now
    begins_written e = subst (λ (l : List Op). Ready ways p before start l now) (sym (e ∙ ap (λ (l : List Op). Written again ∷ l) new)) ready

    pub begins_writing : (next ≡ ops) ⊎ (next ≡ Written again ∷ ops) → Always ways p before start next
    begins_writing h =
        ⊎_elim (λ e. subst (Always ways p before start) (sym (e ∙ new)) begun) (λ e. (begins_written e).moments) h
