-- A plan is funded in each asset that no channel that counts can end with.
use Rattle.std.proofs.Common.{◌≡◌, ℕ, Bool, true, false, ◌&&◌, cond, List, [], ◌∷◌, ◌⊎◌, inl, inr, Option, Some, None, refl, sym, ◌∙◌, ap, subst, arith}
use Rattle.std.specs.Prelude.{◌==◌, nat_le, IsTrue, ◌↔◌}
use Rattle.std.specs.List.{list_all}
use Rattle.std.specs.Str.{bytes_eq}
use Rattle.std.proofs.lemmas.Bool.{false≢true, eqb-true}
use Rattle.std.proofs.lemmas.Bool.Decides.{nat_tests}
use Rattle.channel_values.specs.declared.value.AssetOutcome.{AssetOutcome}
use Rattle.channel_values.specs.declared.value.Item.{Item}
use Rattle.call_history.specs.Flows.{is_among}
use Rattle.call_history.specs.declared.view.WorldView.{WorldView}
use Rattle.funding_plans.specs.Shapes.{items_in}
use Rattle.funding_plans.specs.declared.plan.Part.{Part}
use Rattle.funding_plans.specs.declared.plan.Part.TheVariants.{Root, OnLedger, End, Middle}
use Rattle.funding_plans.specs.declared.plan.Plan.{Plan}
use Rattle.funding_plans.specs.Parts.{own_ledger}
use Rattle.share_laws.specs.Books.{Books, Counting, one_of, outcome_in, varying, books_under}
use Rattle.share_laws.specs.Funded.{if_so, is_part_funded, are_funded, at_each}
use Rattle.share_laws.specs.Worth.{Table, no_reach, reach_after}
use Rattle.plan_share.specs.Pages.{or_empty}
use Rattle.plan_share.specs.Seen.{held_seen}
use Rattle.plan_share.specs.Whole.{funded_in, passes_each, passes_both}
use Rattle.plan_share.proofs.Skips.{at_each-all, and-left, and-right}
use mathlib.Core.Path.{fun_ext}

-- ---- one asset

-- neither outcome of a channel has items of an asset
abbrev HaveNone : ℕ → List Counting → Type 0
HaveNone asset [] = Unit {0}
HaveNone asset (x ∷ xs) = (items_in asset x.outcome ≡ []) × (items_in asset (or_empty x.proposal) ≡ []) × HaveNone asset xs

module _ (test : ℕ → Bool) (asset : ℕ) where
  named-or : (outcome : List AssetOutcome) → passes_each test outcome ≡ true → (test asset ≡ true) ⊎ (items_in asset outcome ≡ [])
  named-or [] all = inr refl
  named-or (o ∷ os) all = go (o.asset == asset) refl (named-or os (and-right (test o.asset) (passes_each test os) all))
    where
      same : (o.asset == asset) ≡ true → test asset ≡ true
      same e = ap test (sym (eqb-true o.asset asset e)) ∙ and-left (test o.asset) (passes_each test os) all

      past : (o.asset == asset) ≡ false → items_in asset os ≡ [] → items_in asset (o ∷ os) ≡ []
      past e rest = rw e rest

      go : (b : Bool) → (o.asset == asset) ≡ b → (test asset ≡ true) ⊎ (items_in asset os ≡ []) → (test asset ≡ true) ⊎ (items_in asset (o ∷ os) ≡ [])
      go true e rest = inl (same e)
      go false e (inl passes) = inl passes
      go false e (inr rest) = inr (past e rest)

  any-or : (xs : List Counting) → list_all (passes_both test) xs ≡ true → (test asset ≡ true) ⊎ HaveNone asset xs
  any-or [] all = inr tt
  any-or (x ∷ xs) all =
      pick (named-or x.outcome (and-left (passes_each test x.outcome) (passes_each test (or_empty x.proposal)) both))
      (named-or (or_empty x.proposal) (and-right (passes_each test x.outcome) (passes_each test (or_empty x.proposal)) both)) (any-or xs (and-right (passes_both test x) (list_all (passes_both test) xs) all))
    where
      both : passes_both test x ≡ true
      both = and-left (passes_both test x) (list_all (passes_both test) xs) all

      pick : (test asset ≡ true) ⊎ (items_in asset x.outcome ≡ []) → (test asset ≡ true) ⊎ (items_in asset (or_empty x.proposal) ≡ []) → (test asset ≡ true) ⊎ HaveNone asset xs
          → (test asset ≡ true) ⊎ HaveNone asset (x ∷ xs)
      pick (inl passes) second rest = inl passes
      pick (inr first) (inl passes) rest = inl passes
      pick (inr first) (inr second) (inl passes) = inl passes
      pick (inr first) (inr second) (inr rest) = inr (first, second, rest)

-- ---- books of nothing

no-items : (asset : ℕ) (xs : List Counting) (taken : List (List ℕ)) (channel : List ℕ) → HaveNone asset xs → items_in asset (outcome_in xs taken channel) ≡ []
no-items asset [] taken channel none = refl
no-items asset (x ∷ xs) taken channel none = go (bytes_eq x.channel channel) (no-items asset xs taken channel none.2)
  where
    chosen : (o : Option (List AssetOutcome)) (b : Bool) → items_in asset (or_empty o) ≡ [] → items_in asset (one_of o b x.outcome) ≡ []
    chosen None b second = none.0
    chosen (Some proposal) true second = second
    chosen (Some proposal) false second = none.0

    go : (b : Bool) → items_in asset (outcome_in xs taken channel) ≡ [] → items_in asset (cond b (one_of x.proposal (is_among x.channel taken) x.outcome) (outcome_in xs taken channel)) ≡ []
    go true rest = chosen x.proposal (is_among x.channel taken) none.1
    go false rest = rest

not-so : (a b : Bool) → if_so (a && false) b ≡ true
not-so true b = refl
not-so false b = refl

abbrev emptied : Books → Books
emptied b = record b { items = λ channel. [] }

zero-le : (n : ℕ) → nat_le 0 n ≡ true
zero-le n = grind (arith, nat_tests)

both : (a b : Bool) → a ≡ true → b ≡ true → (a && b) ≡ true
both a b p q = ap (λ (t : Bool). t && b) p ∙ q

part-funded : (b : Books) (me : List ℕ) (reach : Table) (part : Part) → is_part_funded (emptied b) me reach part ≡ true
part-funded b me reach (Root c) = refl
part-funded b me reach (OnLedger l c) = both (nat_le 0 (reach l)) _ (zero-le (reach l)) (not-so (b.counts c) _)
part-funded b me reach (End v) = both (nat_le 0 (reach (own_ledger v))) _ (zero-le (reach (own_ledger v))) (both _ true (not-so (b.counts v.channel) _) refl)
part-funded b me reach (Middle v) = both (nat_le 0 (reach v.ledger_a)) _ (zero-le (reach v.ledger_a)) (both (nat_le 0 (reach v.ledger_b)) true (zero-le (reach v.ledger_b)) refl)

all-funded : (b : Books) (me : List ℕ) (parts : List Part) (reach : Table) → are_funded (emptied b) me parts reach ≡ true
all-funded b me [] reach = refl
all-funded b me (part ∷ parts) reach =
    ap (λ (t : Bool). t && are_funded (emptied b) me parts (reach_after (emptied b) reach part)) (part-funded b me reach part) ∙ all-funded b me parts (reach_after (emptied b) reach part)

unnamed-funded : (w : WorldView) (own : Plan) (xs : List Counting) (asset : ℕ) → HaveNone asset xs → funded_in w own xs asset ≡ true
unnamed-funded w own xs asset none =
    at_each-all (held_seen w asset) xs asset [] (varying xs) (λ taken. are_funded (books taken) own.me own.parts no_reach)
    (λ taken takes. ap (λ (b : Books). are_funded b own.me own.parts no_reach) (empty taken) ∙ all-funded (books taken) own.me own.parts no_reach)
  where
    books : List (List ℕ) → Books
    books taken = books_under (held_seen w asset) xs asset taken

    empty : (taken : List (List ℕ)) → books taken ≡ emptied (books taken)
    empty taken = ap (λ (items : List ℕ → List Item). record (books taken) { items = items }) (fun_ext (λ channel. no-items asset xs taken channel none))

-- ---- every asset

all-so : {A : Type 0} (test : A → Bool) (xs : List A) → ((x : A) → test x ≡ true) → list_all test xs ≡ true
all-so test [] each = refl
all-so test (x ∷ xs) each = ap (λ (t : Bool). t && list_all test xs) (each x) ∙ all-so test xs each

pub funded_everywhere : (w : WorldView) (own : Plan) (xs : List Counting) (result : Bool) → result ≡ list_all (passes_both (funded_in w own xs)) xs
    → IsTrue result ↔ ((asset : ℕ) → funded_in w own xs asset ≡ true)
funded_everywhere w own xs result is = (to, from)
  where
    to : IsTrue result → (asset : ℕ) → funded_in w own xs asset ≡ true
    to yes-so asset = go (any-or (funded_in w own xs) asset xs (sym is ∙ yes-so))
      where
        go : (funded_in w own xs asset ≡ true) ⊎ HaveNone asset xs → funded_in w own xs asset ≡ true
        go (inl passes) = passes
        go (inr none) = unnamed-funded w own xs asset none

    from : ((asset : ℕ) → funded_in w own xs asset ≡ true) → IsTrue result
    from each =
        is ∙ all-so (passes_both (funded_in w own xs)) xs
        (λ x. ap (λ (t : Bool). t && passes_each (funded_in w own xs) (or_empty x.proposal)) (all-so (λ o. funded_in w own xs o.asset) x.outcome (λ o. each o.asset))
        ∙ all-so (λ o. funded_in w own xs o.asset) (or_empty x.proposal) (λ o. each o.asset))
