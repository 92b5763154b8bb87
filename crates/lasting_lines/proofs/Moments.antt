-- One line more: what is true at each moment.
use Rattle.std.proofs.Common.{◌≡◌, ◌⊎◌, ℕ, true, List, [], ◌∷◌, ◌++◌, ⊎_elim, refl, sym, ◌∙◌, ap, subst}
use Rattle.std.proofs.lemmas.List.{append-nil, append_assoc}
use Rattle.lasting_lines.specs.Machines.{Ways}
use Rattle.lasting_lines.specs.Files.{Op, Appended, Synced, Written, Aside, disk, written}
use Rattle.lasting_lines.specs.Lines.{after, response, row_of, recovered, records, IsLine, AreTaken}
use Rattle.lasting_lines.specs.Serving.{state, owed, IsPrefix, Now, Always, Ready}
use Rattle.lasting_lines.specs.declared.played.Played.{Played}
use Rattle.lasting_lines.proofs.Lines.{recovered-records, records-append, all-push, state-append, owed-append}

module _ {M : Type 0} (ways : Ways M) (p : Played M) (before start : List ℕ) (ops : List Op) (now : Played M) (ready : Ready ways p before start ops now) where
  -- what was written is explained by any file that begins with the lines
  explains : (c : List ℕ) (more : List (List ℕ)) → recovered ways p c ≡ ready.lines ++ more → IsPrefix (written before ops) (owed ways p (recovered ways p c))
  explains c more e = (
    owed ways (state ways p ready.lines) more,
    ap (λ (t : List ℕ). t ++ owed ways (state ways p ready.lines) more) ready.text
        ∙ sym (owed-append ways p ready.lines more) ∙ ap (owed ways p) (sym e),
  )

  left : (junk : List ℕ) → recovered ways p ((disk start ops).safe ++ junk) ≡ ready.lines ++ recovered ways (state ways p ready.lines) junk
  left junk = ap (λ (l : List ℕ). recovered ways p (l ++ junk)) ready.file ∙ recovered-records ways p ready.lines junk ready.each

  -- ---- a message aside changes nothing

  pub written-aside : (message : List ℕ) → Ready ways p before start (Aside message ∷ ops) now
  written-aside message = record {
    lines = ready.lines;
    each = ready.each;
    file = ready.file;
    loose = ready.loose;
    text = ready.text;
    place = ready.place;
    moments = (λ c l. explains c (recovered ways (state ways p ready.lines) l.0) (ap (recovered ways p) l.1 ∙ left l.0), ready.moments);
  }

  module _ (message : List ℕ) (next : List Op) where
    pub as-aside : next ≡ Aside message ∷ ops → Ready ways p before start next now
    as-aside e = subst (λ (l : List Op). Ready ways p before start l now) (sym e) (written-aside message)

    pub as-writing-aside : (next ≡ ops) ⊎ (next ≡ Aside message ∷ ops) → Always ways p before start next
    as-writing-aside h = ⊎_elim (λ e. subst (Always ways p before start) (sym e) ready.moments) (λ e. (as-aside e).moments) h

  -- ---- a line

  module _ (line : List ℕ) (takes : ways.takes now.machine line ≡ true) (is : IsLine (row_of ways now line)) where
    abbrev record_bytes : List ℕ
    record_bytes = row_of ways now line ++ 10 ∷ []

    -- ---- after the append

    now-appended : Now ways p (disk start (Appended record_bytes ∷ ops)) (written before (Appended record_bytes ∷ ops))
    now-appended c l = explains c (recovered ways (state ways p ready.lines) l.0) (ap (recovered ways p) l.1 ∙ left l.0)

    pub appended : Always ways p before start (Appended record_bytes ∷ ops)
    appended = (now-appended, ready.moments)

    -- ---- after the sync

    abbrev more : List (List ℕ)
    more = ready.lines ++ line ∷ []

    each-more : AreTaken ways p more
    each-more =
        all-push ways p ready.lines line ready.each (ap (λ (q : Played M). ways.takes q.machine line) (sym ready.place) ∙ takes)
        (subst (λ (q : Played M). IsLine (row_of ways q line)) ready.place is)

    safe-is : (disk start (Synced ∷ Appended record_bytes ∷ ops)).safe ≡ records ways p more
    safe-is =
        ap (λ (l : List ℕ). (disk start ops).safe ++ (l ++ record_bytes)) ready.loose
        ∙ ap (λ (l : List ℕ). l ++ record_bytes) ready.file
        ∙ ap (λ (q : Played M). records ways p ready.lines ++ (row_of ways q line ++ 10 ∷ [])) ready.place
        ∙ sym (records-append ways p ready.lines (line ∷ []))

    left-more : (c junk : List ℕ) → c ≡ (disk start (Synced ∷ Appended record_bytes ∷ ops)).safe ++ junk → recovered ways p c ≡ more ++ recovered ways (state ways p more) junk
    left-more c junk e = ap (recovered ways p) (e ∙ ap (λ (l : List ℕ). l ++ junk) safe-is) ∙ recovered-records ways p more junk each-more

    now-synced : Now ways p (disk start (Synced ∷ Appended record_bytes ∷ ops)) (written before (Synced ∷ Appended record_bytes ∷ ops))
    now-synced c l =
        explains c (line ∷ recovered ways (state ways p more) l.0) (left-more c l.0 l.1 ∙ append_assoc ready.lines (line ∷ []) (recovered ways (state ways p more) l.0))

    pub synced : Always ways p before start (Synced ∷ Appended record_bytes ∷ ops)
    synced = (now-synced, appended)

    -- ---- after the answer

    module _ (text : List ℕ) (gives : text ≡ response ways now line) where
      text-is : written before ops ++ text ≡ owed ways p more
      text-is =
          ap (λ (l : List ℕ). l ++ text) ready.text
          ∙ ap (λ (l : List ℕ). owed ways p ready.lines ++ l)
          (gives ∙ ap (λ (q : Played M). response ways q line) ready.place ∙ sym (append-nil (response ways (state ways p ready.lines) line)))
          ∙ sym (owed-append ways p ready.lines (line ∷ []))

      now-written : Now ways p (disk start (Written text ∷ Synced ∷ Appended record_bytes ∷ ops)) (written before (Written text ∷ Synced ∷ Appended record_bytes ∷ ops))
      now-written c l = (
        owed ways (state ways p more) (recovered ways (state ways p more) l.0),
        ap (λ (t : List ℕ). t ++ owed ways (state ways p more) (recovered ways (state ways p more) l.0)) text-is
            ∙ sym (owed-append ways p more (recovered ways (state ways p more) l.0)) ∙ ap (owed ways p) (sym (left-more c l.0 l.1)),
      )

      pub answered : Always ways p before start (Written text ∷ Synced ∷ Appended record_bytes ∷ ops)
      answered = (now-written, synced)

      pub ready-again : (then' : Played M) → then' ≡ after ways now line → Ready ways p before start (Written text ∷ Synced ∷ Appended record_bytes ∷ ops) then'
      ready-again then' e = record {
        lines = more;
        each = each-more;
        file = safe-is;
        loose = refl;
        text = text-is;
        place = e ∙ ap (λ (q : Played M). after ways q line) ready.place ∙ sym (state-append ways p ready.lines (line ∷ []));
        moments = answered;
      }

    -- ---- as the calls leave it

    module _ (bytes : List ℕ) (bytes-are : bytes ≡ record_bytes) (one : List Op) where
      pub as-appended : one ≡ Appended bytes ∷ ops → Always ways p before start one
      as-appended e = subst (Always ways p before start) (sym (e ∙ ap (λ (x : List ℕ). Appended x ∷ ops) bytes-are)) appended

      pub as-appending : (one ≡ ops) ⊎ (one ≡ Appended bytes ∷ ops) → Always ways p before start one
      as-appending h = ⊎_elim (λ e. subst (Always ways p before start) (sym e) ready.moments) as-appended h

      module _ (is-one : one ≡ Appended bytes ∷ ops) (two : List Op) (is-two : two ≡ Synced ∷ one) where
        whole-two : two ≡ Synced ∷ Appended record_bytes ∷ ops
        whole-two = is-two ∙ ap (λ (l : List Op). Synced ∷ l) (is-one ∙ ap (λ (x : List ℕ). Appended x ∷ ops) bytes-are)

        pub as-synced : Always ways p before start two
        as-synced = subst (Always ways p before start) (sym whole-two) synced

        module _ (text : List ℕ) (gives : text ≡ response ways now line) (three : List Op) where
          whole-three : three ≡ Written text ∷ two → three ≡ Written text ∷ Synced ∷ Appended record_bytes ∷ ops
          whole-three e = e ∙ ap (λ (l : List Op). Written text ∷ l) whole-two

          pub as-written : three ≡ Written text ∷ two → Always ways p before start three
          as-written e = subst (Always ways p before start) (sym (whole-three e)) (answered text gives)

          pub as-writing : (three ≡ two) ⊎ (three ≡ Written text ∷ two) → Always ways p before start three
          as-writing h = ⊎_elim (λ e. subst (Always ways p before start) (sym e) as-synced) as-written h

          pub as-ready : three ≡ Written text ∷ two → (then' : Played M) → then' ≡ after ways now line → Ready ways p before start three then'
          as-ready e then' is-next = subst (λ (l : List Op). Ready ways p before start l then') (sym (whole-three e)) (ready-again text gives then' is-next)
