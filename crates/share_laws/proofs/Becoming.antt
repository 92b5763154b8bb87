-- A share where one channel comes to end with other outcomes.
use Rattle.std.proofs.Common.{◌≡◌, ℕ, ◌+◌, ◌≤◌, Bool, true, false, List, [], ◌∷◌, Option, Some, None, refl, sym, ◌∙◌, ap, subst, arith, cond, inl, inr}
use Rattle.std.proofs.Math.Path.{fun_ext}
use Rattle.std.specs.Str.{bytes_eq}
use Rattle.channel_values.specs.declared.value.AssetOutcome.{AssetOutcome}
use Rattle.channel_values.specs.declared.value.Dest.{Dest}
use Rattle.channel_values.specs.declared.value.Dest.TheVariants.{Person}
use Rattle.channel_values.specs.declared.value.Item.{Item}
use Rattle.channel_values.specs.Amounts.{aff}
use Rattle.call_history.specs.Flows.{is_among}
use Rattle.funding_plans.specs.declared.plan.Part.{Part}
use Rattle.share_laws.specs.Books.{Counting, one_of, outcome_in, counts_in, varying, books_under}
use Rattle.funding_plans.specs.Shapes.{items_in, list_in}
use Rattle.share_laws.specs.Worth.{no_reach, worth}
use Rattle.share_laws.specs.Share.{least_over, worth_under, share_of}
use Rattle.share_laws.specs.Funded.{are_funded}
use Rattle.share_laws.specs.Moves.{owing, IsFair}
use Rattle.share_laws.specs.Signing.{Becomes, here, later, CanEnd, ComesFairly, ComesByPaying}
use Rattle.share_laws.specs.SigningLaws.{SigningsKeepShares, PaymentsLowerShares}
use Rattle.call_history.proofs.Names.{same_bytes, bytes_eq_self}
use Rattle.share_laws.proofs.Choices.{differ-flip, choose, choose-takes, chosen-is, outcome_by, outcome_in-by}
use Rattle.share_laws.proofs.Least.{Takes, least_over-kept, at_each-at}
use Rattle.share_laws.proofs.FairMoves.{fair_moves}
use Rattle.share_laws.proofs.Payments.{payments_lower}

-- the other channels have what they had
others-by : (was now : Counting) → now.channel ≡ was.channel → (ks ls : List Counting) → Becomes was now ks ls → (u : Bool) (m : List ℕ) →
    bytes_eq was.channel m ≡ false → outcome_by ls u m ≡ outcome_by ks u m
others-by was now e [] [] f u m ne = refl
others-by was now e [] (y ∷ ls) f u m ne = elim f [ ]
others-by was now e (x ∷ ks) [] f u m ne = elim f [ ]
others-by was now e (x ∷ ks) (y ∷ ks') here u m ne =
    ap (λ (t : Bool). cond t (one_of now.proposal u now.outcome) (outcome_by ks u m)) (ap (λ (z : List ℕ). bytes_eq z m) e ∙ ne)
    ∙ ap (λ (t : Bool). cond t (one_of was.proposal u was.outcome) (outcome_by ks u m)) (sym ne)
others-by was now e (x ∷ ks) (y ∷ ls) (later k apart f) u m ne =
    ap (λ (z : List AssetOutcome). cond (bytes_eq k.channel m) (one_of k.proposal u k.outcome) z) (others-by was now e ks ls f u m ne)

counts-same : (was now : Counting) → now.channel ≡ was.channel → (ks ls : List Counting) → Becomes was now ks ls → (m : List ℕ) →
    counts_in ls m ≡ counts_in ks m
counts-same was now e [] [] f m = refl
counts-same was now e [] (y ∷ ls) f m = elim f [ ]
counts-same was now e (x ∷ ks) [] f m = elim f [ ]
counts-same was now e (x ∷ ks) (y ∷ ks') here m = ap (λ (z : List ℕ). cond (bytes_eq z m) true (counts_in ks m)) e
counts-same was now e (x ∷ ks) (y ∷ ls) (later k apart f) m = ap (λ (t : Bool). cond (bytes_eq k.channel m) true t) (counts-same was now e ks ls f m)

-- the channel itself
was-by : (was now : Counting) (ks ls : List Counting) → Becomes was now ks ls → (t : Bool) → outcome_by ks t was.channel ≡ one_of was.proposal t was.outcome
was-by was now [] [] f t = elim f [ ]
was-by was now [] (y ∷ ls) f t = elim f [ ]
was-by was now (x ∷ ks) [] f t = elim f [ ]
was-by was now (x ∷ ks) (y ∷ ks') here t =
    ap (λ (u : Bool). cond u (one_of was.proposal t was.outcome) (outcome_by ks t was.channel)) (bytes_eq_self was.channel)
was-by was now (x ∷ ks) (y ∷ ls) (later k apart f) t =
    ap (λ (u : Bool). cond u (one_of k.proposal t k.outcome) (outcome_by ks t was.channel)) apart ∙ was-by was now ks ls f t

now-by : (was now : Counting) → now.channel ≡ was.channel → (ks ls : List Counting) → Becomes was now ks ls → (t : Bool) →
    outcome_by ls t was.channel ≡ one_of now.proposal t now.outcome
now-by was now e [] [] f t = elim f [ ]
now-by was now e [] (y ∷ ls) f t = elim f [ ]
now-by was now e (x ∷ ks) [] f t = elim f [ ]
now-by was now e (x ∷ ks) (y ∷ ks') here t =
    ap (λ (u : Bool). cond u (one_of now.proposal t now.outcome) (outcome_by ks t was.channel)) (ap (λ (z : List ℕ). bytes_eq z was.channel) e ∙ bytes_eq_self was.channel)
now-by was now e (x ∷ ks) (y ∷ ls) (later k apart f) t =
    ap (λ (u : Bool). cond u (one_of k.proposal t k.outcome) (outcome_by ls t was.channel)) apart ∙ now-by was now e ks ls f t

moved : (m n q k : ℕ) → m ≤ n + k → n ≡ q → m ≤ q + k
moved m n q k le e = omega (arith, le, e)

-- an outcome with which a channel can end is that of a test, and the other way round
one_of-can : (k : Counting) (t : Bool) → CanEnd k (one_of k.proposal t k.outcome)
one_of-can k t = by_case k.proposal refl t
  where
    by_case : (p : Option (List AssetOutcome)) → k.proposal ≡ p → (t : Bool) → CanEnd k (one_of p t k.outcome)
    by_case None e t = inl refl
    by_case (Some o) e true = inr e
    by_case (Some o) e false = inl refl

can-one_of : (k : Counting) (o : List AssetOutcome) → CanEnd k o → (t : Bool) × (one_of k.proposal t k.outcome ≡ o)
can-one_of k o (inl e) = (false, by_case k.proposal ∙ sym e)
  where
    by_case : (p : Option (List AssetOutcome)) → one_of p false k.outcome ≡ k.outcome
    by_case None = refl
    by_case (Some q) = refl
can-one_of k o (inr e) = (true, ap (λ (p : Option (List AssetOutcome)). one_of p true k.outcome) e)

module _ (me : List ℕ) (ps : List Part) (held : List ℕ → ℕ) (asset : ℕ) (ks ls : List Counting) (was now : Counting)
    (e : now.channel ≡ was.channel) (f : Becomes was now ks ls) where
  -- the choice before that goes with the choice s after, where this channel had the outcome of the test t
  former : Bool → List (List ℕ) → List (List ℕ)
  former t s = choose (λ m. cond (bytes_eq was.channel m) t (is_among m s)) (varying ks) []

  former-is : (t : Bool) (s : List (List ℕ)) (m : List ℕ) →
      outcome_in ks (former t s) m ≡ outcome_by ks (cond (bytes_eq was.channel m) t (is_among m s)) m
  unfolding former
  former-is t s m = outcome_in-by ks (former t s) (cond (bytes_eq was.channel m) t (is_among m s)) m
      (chosen-is (λ z. cond (bytes_eq was.channel z) t (is_among z s)) (varying ks) m)

  former-takes : (t : Bool) (s : List (List ℕ)) → Takes [] (varying ks) (former t s)
  unfolding former
  former-takes t s = choose-takes (λ m. cond (bytes_eq was.channel m) t (is_among m s)) (varying ks) []

  former-here : (t : Bool) (s : List (List ℕ)) → outcome_in ks (former t s) was.channel ≡ one_of was.proposal t was.outcome
  former-here t s =
      former-is t s was.channel
      ∙ ap (λ (u : Bool). outcome_by ks (cond u t (is_among was.channel s)) was.channel) (bytes_eq_self was.channel)
      ∙ was-by was now ks ls f t

  former-other : (t : Bool) (s : List (List ℕ)) (m : List ℕ) → bytes_eq was.channel m ≡ false → outcome_in ls s m ≡ outcome_in ks (former t s) m
  former-other t s m ne =
      outcome_in-by ls s (is_among m s) m (λ h. refl)
      ∙ others-by was now e ks ls f (is_among m s) m ne
      ∙ ap (λ (u : Bool). outcome_by ks (cond u t (is_among m s)) m) (sym ne)
      ∙ sym (former-is t s m)

  now-here : (s : List (List ℕ)) → outcome_in ls s was.channel ≡ one_of now.proposal (is_among was.channel s) now.outcome
  now-here s = outcome_in-by ls s (is_among was.channel s) was.channel (λ h. refl) ∙ now-by was now e ks ls f (is_among was.channel s)

  -- the share falls by no more than k where, under each choice, what this channel comes to end with is worth no more
  -- than k less
  pub becomes-shares : (k paid : ℕ)
      → ((o : List AssetOutcome) → CanEnd now o → (from : List AssetOutcome) × CanEnd was from × (list_in asset o ≡ list_in asset from)
      × ((taken : List (List ℕ)) → Takes [] (varying ks) taken → outcome_in ks taken was.channel ≡ from → (after : List ℕ → List Item)
      → ((m : List ℕ) → bytes_eq m was.channel ≡ false → after m ≡ (books_under held ks asset taken).items m)
      → after was.channel ≡ items_in asset o
      → worth (books_under held ks asset taken) me ps no_reach
      ≤ worth (owing held (counts_in ks) (books_under held ks asset taken).list after) me ps no_reach + k))
      → share_of me paid ps held ks asset ≤ share_of me paid ps held ls asset + k
  becomes-shares k paid comes =
      let p : 0 + least_over (varying ks) (worth_under me ps held ks asset) [] ≤ k + least_over (varying ls) (worth_under me ps held ls asset) [] =
      least_over-kept [] [] (varying ks) (varying ls) (worth_under me ps held ks asset) (worth_under me ps held ls asset) 0 k (λ s h. let r = one s in (r.0, r.1, (let le : worth_under me ps held ks asset r.0 ≤ worth_under me ps held ls asset s + k = r.2 in omega arith))) in
      omega (arith, p)
    where
      after-of : List (List ℕ) → List ℕ → List Item
      after-of s m = items_in asset (outcome_in ls s m)

      one : (s : List (List ℕ)) → (r : List (List ℕ)) × Takes [] (varying ks) r × (worth_under me ps held ks asset r ≤ worth_under me ps held ls asset s + k)
      one s = by_outcome (comes (one_of now.proposal (is_among was.channel s) now.outcome) (one_of-can now (is_among was.channel s)))
        where
          by_outcome : ((from : List AssetOutcome) × CanEnd was from
              × (list_in asset (one_of now.proposal (is_among was.channel s) now.outcome) ≡ list_in asset from)
              × ((taken : List (List ℕ)) → Takes [] (varying ks) taken → outcome_in ks taken was.channel ≡ from → (after : List ℕ → List Item)
              → ((m : List ℕ) → bytes_eq m was.channel ≡ false → after m ≡ (books_under held ks asset taken).items m)
              → after was.channel ≡ items_in asset (one_of now.proposal (is_among was.channel s) now.outcome)
              → worth (books_under held ks asset taken) me ps no_reach
              ≤ worth (owing held (counts_in ks) (books_under held ks asset taken).list after) me ps no_reach + k)) →
              (r : List (List ℕ)) × Takes [] (varying ks) r × (worth_under me ps held ks asset r ≤ worth_under me ps held ls asset s + k)
          by_outcome x = by_test (can-one_of was x.0 x.1)
            where
              by_test : ((t : Bool) × (one_of was.proposal t was.outcome ≡ x.0)) →
                  (r : List (List ℕ)) × Takes [] (varying ks) r × (worth_under me ps held ks asset r ≤ worth_under me ps held ls asset s + k)
              by_test t =
                  let is : outcome_in ks (former t.0 s) was.channel ≡ x.0 = former-here t.0 s ∙ t.1 in
                  let items : (m : List ℕ) → bytes_eq m was.channel ≡ false → after-of s m ≡ (books_under held ks asset (former t.0 s)).items m =
                  λ m ne. ap (λ (o : List AssetOutcome). items_in asset o) (former-other t.0 s m (differ-flip m was.channel ne)) in
                  let mine : after-of s was.channel ≡ items_in asset (one_of now.proposal (is_among was.channel s) now.outcome) =
                  ap (λ (o : List AssetOutcome). items_in asset o) (now-here s) in
                  let lists : (λ (m : List ℕ). list_in asset (outcome_in ks (former t.0 s) m)) ≡ (λ (m : List ℕ). list_in asset (outcome_in ls s m)) =
                  fun_ext (λ m. same-list t.0 is m (bytes_eq was.channel m) refl (same_bytes was.channel m)) in
                  let counts : counts_in ks ≡ counts_in ls = fun_ext (λ m. sym (counts-same was now e ks ls f m)) in
                  let le : worth (books_under held ks asset (former t.0 s)) me ps no_reach
                  ≤ worth (owing held (counts_in ks) (books_under held ks asset (former t.0 s)).list (after-of s)) me ps no_reach + k =
                  x.3 (former t.0 s) (former-takes t.0 s) is (after-of s) items mine in
                  let eq : worth (owing held (counts_in ks) (books_under held ks asset (former t.0 s)).list (after-of s)) me ps no_reach
                  ≡ worth (owing held (counts_in ls) (books_under held ls asset s).list (after-of s)) me ps no_reach =
                  ap (λ (c : List ℕ → Bool). worth (owing held c (books_under held ks asset (former t.0 s)).list (after-of s)) me ps no_reach) counts
                  ∙ ap (λ (l : List ℕ → List Dest). worth (owing held (counts_in ls) l (after-of s)) me ps no_reach) lists in
                  (former t.0 s, former-takes t.0 s, moved _ _ _ k le eq)
                where
                  same-list : (t : Bool) → outcome_in ks (former t s) was.channel ≡ x.0 → (m : List ℕ) (u : Bool) → bytes_eq was.channel m ≡ u → (u ≡ true → was.channel ≡ m) →
                      list_in asset (outcome_in ks (former t s) m) ≡ list_in asset (outcome_in ls s m)
                  same-list t is m true h at =
                      subst (λ (z : List ℕ). list_in asset (outcome_in ks (former t s) z) ≡ list_in asset (outcome_in ls s z)) (at refl)
                      (ap (λ (o : List AssetOutcome). list_in asset o) is ∙ sym x.2
                      ∙ ap (λ (o : List AssetOutcome). list_in asset o) (sym (now-here s)))
                  same-list t is m false h at = ap (λ (o : List AssetOutcome). list_in asset o) (sym (former-other t s m h))

pub signings_keep : SigningsKeepShares
signings_keep me ps plan held asset paid ks ls was now e f funded comes =
    let h : share_of me paid ps held ks asset ≤ share_of me paid ps held ls asset + 0 =
    becomes-shares me ps held asset ks ls was now e f 0 paid (λ o can.
    let c : ComesFairly me ps held ks was asset o = comes o can in (
      c.from,
      c.could,
      c.list,
      λ taken takes is after others mine.
          let w = fair_moves me ps plan held (counts_in ks) (books_under held ks asset taken).list (books_under held ks asset taken).items after was.channel others
          (at_each-at [] (varying ks) taken (λ t. are_funded (books_under held ks asset t) me ps no_reach) takes funded)
          (subst (λ (ys : List Item). IsFair (books_under held ks asset taken) me ps was.channel ys) (sym mine) (c.fair taken is)) in
          omega (arith, w),
    )) in
    omega (arith, h)

pub payments_lower_shares : PaymentsLowerShares
payments_lower_shares me ps plan held asset paid ks ls was now e f out k comes =
    becomes-shares me ps held asset ks ls was now e f k paid (λ o can.
    let c : ComesByPaying me k was asset o = comes o can in (
      c.from,
      c.could,
      c.list,
      λ taken takes is after others mine.
          payments_lower me ps plan held (counts_in ks) (books_under held ks asset taken).list (books_under held ks asset taken).items after was.channel others out k
          (λ r. subst (λ (ys : List Item). aff (items_in asset (outcome_in ks taken was.channel)) r (Person me) ≤ aff ys r (Person me) + k) (sym mine)
          (subst (λ (q : List AssetOutcome). aff (items_in asset q) r (Person me) ≤ aff (items_in asset o) r (Person me) + k) (sym is) (c.affords r))),
    ))
