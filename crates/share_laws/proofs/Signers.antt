-- Who signs well is fair to its share.
use Rattle.std.proofs.Common.{◌≡◌, ◌≢◌, ℕ, ◌+◌, ◌≤◌, Bool, true, false, List, [], ◌∷◌, ◌++◌, length, eqb, refl, sym, ◌∙◌, ap, subst, arith, cond, inl, inr, ◌⊎◌}
use Rattle.std.specs.Prelude.{Option}
use Rattle.std.proofs.lemmas.Bool.{false≢true}
use Rattle.std.proofs.lemmas.Bool.Decides.{eqb_tells}
use Rattle.channel_values.specs.Parts.{FixedParts, StateParts}
use Rattle.channel_values.specs.declared.value.AssetOutcome.{AssetOutcome}
use Rattle.channel_values.specs.declared.value.Dest.TheVariants.{Person}
use Rattle.channel_values.specs.declared.value.Item.{Item}
use Rattle.channel_values.specs.declared.value.Shape.{Shape}
use Rattle.channel_values.specs.Amounts.{aff}
use Rattle.channel_values.specs.Rules.{Rules}
use Rattle.call_history.specs.declared.entry.Entry.{Entry}
use Rattle.call_history.specs.declared.event.Deed.{Deed}
use Rattle.std.proofs.lemmas.List.{append_cancel_right, append_assoc}
use Rattle.channel_safety.specs.Journals.{In, Line, is_watched}
use Rattle.funding_plans.specs.Shapes.{items_of, list_of, items_in}
use Rattle.share_laws.specs.Places.{Order, opening, paying, other, share, Funded, IsPlace}
use Rattle.share_laws.specs.Kept.{last_order, is_paying, pays_of, SignsFairly}
use Rattle.share_laws.specs.Signatures.{signing, IsPaidAt}
use Rattle.share_laws.specs.Wanted.{paid_over}
use Rattle.share_laws.specs.Fairly.{Wants, first, repeats, votes, Pays, SignsWell, SignersAreFair, SignersAreFairAtPlaces}
use Rattle.share_laws.proofs.AtPlaces.{payments_lower_by}
use Rattle.share_laws.proofs.Voting.{possible-signed}
use Rattle.share_laws.proofs.Wishes.{wanted_votes_keep, wanted_repeats_keep, first_states_keep, payments_afford}

module _ (r : Rules) (me : List ℕ) (orders : ℕ → Order) (past : List Entry) (front : List Line)
    (f : FixedParts) (state : StateParts) (signature : List ℕ) (adds : List FixedParts) (w : SignsWell r me orders past front f state signature adds) where
  keeps : Wants r me orders past front f state → Funded r me orders past front → (asset : ℕ) →
      share r me orders past front asset ≤ share r me orders past (signing r past f state signature adds ∷ front) asset
  keeps k funded asset = elim k [
    | first new ↦ first_states_keep r me orders past front f state signature adds w.own w.plan_whole new asset
    | repeats from alone could so ↦
        wanted_repeats_keep r me orders past front f state signature adds from w.own w.plan_whole funded w.going w.counts alone could
        (elim so [ inl e ↦ inl e | inr n ↦ inr (n.0, n.1.affords, n.1.lists) ]) asset
    | votes n target s own valid wanted could so ↦
        wanted_votes_keep r me orders past front f n target s own state signature adds w.own w.plan_whole funded w.going w.counts valid wanted could so asset
  ]

  -- what the state affords against the outcome that the channel could end with
  paid-at : (asset amount : ℕ) (p : Pays r me orders past front f state asset amount) (a : ℕ) →
      IsPaidAt r me past front f a (pays_of a (paying asset amount)) state.outcome
  paid-at asset amount p a = by_test (eqb asset a) (eqb_tells asset a)
    where
      by_test : (t : Bool) → ((t ≡ true) × (asset ≡ a)) ⊎ ((t ≡ false) × (asset ≢ a)) → IsPaidAt r me past front f a (cond t amount 0) state.outcome
      by_test true (inl e) = subst (λ (z : ℕ). IsPaidAt r me past front f z amount state.outcome) e.1 (record {
        from = p.from;
        could = p.could;
        list = p.list ∙ p.improved.lists asset;
        affords = λ n.
            let i : aff (items_in asset p.from) n (Person me) ≤ aff (items_in asset p.latest) n (Person me) = p.improved.affords asset n in
            let k : aff (items_in asset p.latest) n (Person me) ≤ aff (paid_over me p.payee amount (items_in asset p.latest)) n (Person me) + amount =
            payments_afford me p.payee amount (items_in asset p.latest) p.apart n in
            let e : aff (items_in asset state.outcome) n (Person me) ≡ aff (paid_over me p.payee amount (items_in asset p.latest)) n (Person me) =
            ap (λ (xs : List Item). aff xs n (Person me)) p.items in
            omega (arith, i, k, e);
      })
      by_test true (inr e) = absurd (false≢true (sym e.0))
      by_test false (inl e) = absurd (false≢true e.0)
      by_test false (inr e) = record {
        from = p.from;
        could = p.could;
        list = ap (λ (s : Option Shape). list_of s) (p.others a (λ z. e.1 (sym z))) ∙ p.improved.lists a;
        affords = λ n.
            let i : aff (items_in a p.from) n (Person me) ≤ aff (items_in a p.latest) n (Person me) = p.improved.affords a n in
            let k : aff (items_in a state.outcome) n (Person me) ≡ aff (items_in a p.latest) n (Person me) =
            ap (λ (s : Option Shape). aff (items_of s) n (Person me)) (p.others a (λ z. e.1 (sym z))) in
            omega (arith, i, k);
      }

  pays-well : (asset amount : ℕ) → Pays r me orders past front f state asset amount → (a : ℕ) →
      share r me orders past front a ≤ share r me orders past (signing r past f state signature adds ∷ front) a + pays_of a (paying asset amount)
  pays-well asset amount p a =
      payments_lower_by r me orders past front f state signature adds w.own w.plan_whole p.no_base w.counts a (pays_of a (paying asset amount))
      (λ o i. inr (one o (subst (λ (os : List (List AssetOutcome)). In o os) p.alone (possible-signed r past front f state signature adds w.going o i))))
    where
      one : (o : List AssetOutcome) → In o (state.outcome ∷ []) → IsPaidAt r me past front f a (pays_of a (paying asset amount)) o
      one o (inl e) = subst (λ (q : List AssetOutcome). IsPaidAt r me past front f a (pays_of a (paying asset amount)) q) (sym e) (paid-at asset amount p a)
      one o (inr i) = absurd i

  payments : (d : Order) → last_order orders front ≡ d → is_paying d ≡ true → (a : ℕ) →
      share r me orders past front a ≤ share r me orders past (signing r past f state signature adds ∷ front) a + pays_of a d
  payments (opening p) e h a = absurd (false≢true h)
  payments (paying asset amount) e h a = pays-well asset amount (w.pays asset amount e) a
  payments other e h a = absurd (false≢true h)

pub signers_are_fair : SignersAreFair
signers_are_fair r me orders past front f state signature x seen deed w =
    subst (λ (y : Line). SignsFairly r me orders past y front)
    (sym (ap (λ (n : ℕ). record { seen = n; deed = x.deed; adds = x.adds }) seen ∙ ap (λ (d : Deed). record { seen = length past; deed = d; adds = x.adds }) deed))
    (record {
      payments = λ h a. payments r me orders past front f state signature x.adds w (last_order orders front) refl h a;
      others = λ h funded a. keeps r me orders past front f state signature x.adds w (w.wants h) funded a;
    })

-- what is last of a list is in it
in-last : (x : Line) (xs : List Line) → In x (xs ++ x ∷ [])
in-last x [] = inl refl
in-last x (y ∷ ys) = inr (in-last x ys)

-- a line that is signed at a place had seen the entries before it
seen-there : (h : List Entry) (journal : List Line) (past : List Entry) (front : List Line) (x : Line) → IsPlace h journal past front → IsPlace h journal past (x ∷ front) →
    is_watched x.deed ≡ false → x.seen ≡ length past
seen-there h journal past front x p q unwatched =
    let e : p.newer ≡ q.newer ++ x ∷ [] =
    append_cancel_right p.newer (q.newer ++ x ∷ []) front (sym p.lines ∙ q.lines ∙ sym (append_assoc q.newer (x ∷ []) front)) in
    let le : x.seen ≤ length past = q.before x (inl refl) unwatched in
    let ge : length past ≤ x.seen = p.after x (subst (λ (ys : List Line). In x ys) (sym e) (in-last x q.newer)) unwatched in
    omega (arith, le, ge)

pub signers_are_fair_at_places : SignersAreFairAtPlaces
signers_are_fair_at_places r me orders h journal past front f state signature x p q deed w =
    signers_are_fair r me orders past front f state signature x
    (seen-there h journal past front x p q (ap (λ (d : Deed). is_watched d) deed)) deed w
