-- A proposal that has nothing else for an asset needs no choice: the least, and what holds at each choice, stay.
use Rattle.std.proofs.Common.{◌≡◌, ℕ, ◌≤◌, Bool, true, false, ◌||◌, ◌&&◌, not, List, [], ◌∷◌, Option, Some, None, is_some, refl, sym, ◌∙◌, ap, subst, cond, arith}
use Rattle.std.specs.Cmp.Lexicographic.{pointwise}
use Rattle.std.specs.Prelude.{◌==◌}
use Rattle.std.specs.Str.{bytes_eq}
use Rattle.std.proofs.lemmas.Bool.{false≢true, true≢false, eqb-true}
use Rattle.channel_values.specs.Outcomes.{is_same}
use Rattle.channel_values.specs.declared.value.AssetOutcome.{AssetOutcome}
use Rattle.channel_values.specs.declared.value.Dest.{Dest}
use Rattle.channel_values.specs.declared.value.Item.{Item}
use Rattle.call_history.specs.Flows.{is_among}
use Rattle.call_history.proofs.Names.{same_bytes, bytes_eq_self}
use Rattle.call_history.proofs.Payouts.{same_dest}
use Rattle.funding_plans.specs.Shapes.{items_in, list_in}
use Rattle.share_laws.specs.Books.{Books, Counting, one_of, outcome_in, counts_in, varying, books_under}
use Rattle.share_laws.specs.Share.{least_over, worth_under}
use Rattle.share_laws.specs.Funded.{are_funded, at_each, is_funded}
use Rattle.share_laws.specs.Worth.{worth, no_reach}
use Rattle.share_laws.proofs.Choices.{choose, choose-takes, chosen-is}
use Rattle.share_laws.proofs.Least.{Takes, ends, skips, takes, least_over-le, least_over-some, at_each-at}
use Rattle.call_history.specs.declared.view.WorldView.{WorldView}
use Rattle.funding_plans.specs.declared.plan.Plan.{Plan}
use Rattle.plan_share.specs.Pages.{is_same_item, is_same_in, differs, differing, least_among, funded_among}
use Rattle.plan_share.specs.Seen.{held_seen}
use mathlib.Core.Path.{fun_ext}

-- ---- two outcomes that are the same in an asset

pub and-left : (a b : Bool) → (a && b) ≡ true → a ≡ true
and-left true b h = refl
and-left false b h = absurd (false≢true h)

pub and-right : (a b : Bool) → (a && b) ≡ true → b ≡ true
and-right true b h = h
and-right false b h = absurd (false≢true h)

pointwise-same : {X : Type 0} (test : X → X → Bool) → ((x y : X) → test x y ≡ true → x ≡ y) →
    (xs ys : List X) → pointwise test xs ys ≡ true → xs ≡ ys
pointwise-same test means [] [] h = refl
pointwise-same test means [] (y ∷ ys) h = absurd (false≢true h)
pointwise-same test means (x ∷ xs) [] h = absurd (false≢true h)
pointwise-same test means (x ∷ xs) (y ∷ ys) h =
    let first : x ≡ y = means x y (and-left (test x y) (pointwise test xs ys) h) in
    let rest : xs ≡ ys = pointwise-same test means xs ys (and-right (test x y) (pointwise test xs ys) h) in
    rw first (rw rest refl)

abbrev item : Dest → ℕ → Item
item to amount = record { to = to; amount = amount }

same_item : (x y : Item) → is_same_item x y ≡ true → x ≡ y
same_item x y h =
    let to : x.to ≡ y.to = same_dest x.to y.to (and-left (is_same x.to y.to) (x.amount == y.amount) h) in
    let amount : x.amount ≡ y.amount = eqb-true x.amount y.amount (and-right (is_same x.to y.to) (x.amount == y.amount) h) in
    ap (λ (d : Dest). item d x.amount) to ∙ ap (item y.to) amount

-- two outcomes have the same for an asset
record Alike (asset : ℕ) (o p : List AssetOutcome) : Type 0 where
  items : items_in asset o ≡ items_in asset p
  list : list_in asset o ≡ list_in asset p

Alike-self : (asset : ℕ) (o : List AssetOutcome) → Alike asset o o
Alike-self asset o = record { items = refl; list = refl }

Alike-flip : (asset : ℕ) (o p : List AssetOutcome) → Alike asset o p → Alike asset p o
Alike-flip asset o p a = record { items = sym a.items; list = sym a.list }

is_same_in-alike : (asset : ℕ) (o p : List AssetOutcome) → is_same_in asset o p ≡ true → Alike asset o p
is_same_in-alike asset o p h = record {
  items = pointwise-same is_same_item same_item (items_in asset o) (items_in asset p)
      (and-left (pointwise is_same_item (items_in asset o) (items_in asset p)) (pointwise is_same (list_in asset o) (list_in asset p)) h);
  list = pointwise-same is_same same_dest (list_in asset o) (list_in asset p)
      (and-right (pointwise is_same_item (items_in asset o) (items_in asset p)) (pointwise is_same (list_in asset o) (list_in asset p)) h);
}

not-false : (b : Bool) → not b ≡ false → b ≡ true
not-false true h = refl
not-false false h = absurd (true≢false h)

-- whether the proposal is taken doesn't count where it doesn't differ
one_of-alike : (asset : ℕ) (o : List AssetOutcome) (p : Option (List AssetOutcome)) (s t : Bool) → differs asset o p ≡ false →
    Alike asset (one_of p s o) (one_of p t o)
one_of-alike asset o None s t h = Alike-self asset o
one_of-alike asset o (Some p) true true h = Alike-self asset p
one_of-alike asset o (Some p) false false h = Alike-self asset o
one_of-alike asset o (Some p) true false h = Alike-flip asset o p (is_same_in-alike asset o p (not-false (is_same_in asset o p) h))
one_of-alike asset o (Some p) false true h = is_same_in-alike asset o p (not-false (is_same_in asset o p) h)

-- ---- two choices that agree where the proposals differ

or-right : (x y : Bool) → y ≡ true → (x || y) ≡ true
or-right true y e = refl
or-right false y e = e

later : (b : Bool) (n c : List ℕ) (cs : List (List ℕ)) → is_among n cs ≡ true → is_among n (cond b (c ∷ cs) cs) ≡ true
later true n c cs e = or-right (bytes_eq n c) (is_among n cs) e
later false n c cs e = e

alike : (asset : ℕ) (ks : List Counting) (s t : List (List ℕ)) (n : List ℕ) →
    (is_among n (differing asset ks) ≡ true → is_among n s ≡ is_among n t) →
    Alike asset (outcome_in ks s n) (outcome_in ks t n)
alike asset [] s t n h = Alike-self asset []
alike asset (k ∷ ks) s t n h =
    by_test (bytes_eq k.channel n) (same_bytes k.channel n)
    (alike asset ks s t n (λ e. h (later (differs asset k.outcome k.proposal) n k.channel (differing asset ks) e)))
  where
    here : k.channel ≡ n → (d : Bool) → differs asset k.outcome k.proposal ≡ d →
        (is_among n (cond d (k.channel ∷ differing asset ks) (differing asset ks)) ≡ true → is_among n s ≡ is_among n t) →
        Alike asset (one_of k.proposal (is_among k.channel s) k.outcome) (one_of k.proposal (is_among k.channel t) k.outcome)
    here is false e g = one_of-alike asset k.outcome k.proposal (is_among k.channel s) (is_among k.channel t) e
    here is true e g =
        let among : is_among n (k.channel ∷ differing asset ks) ≡ true =
        ap (λ (b : Bool). b || is_among n (differing asset ks)) (ap (λ (m : List ℕ). bytes_eq n m) is ∙ bytes_eq_self n) in
        let flags : is_among k.channel s ≡ is_among k.channel t =
        ap (λ (m : List ℕ). is_among m s) is ∙ (g among ∙ sym (ap (λ (m : List ℕ). is_among m t) is)) in
        subst (λ (b : Bool). Alike asset (one_of k.proposal (is_among k.channel s) k.outcome) (one_of k.proposal b k.outcome)) flags
        (Alike-self asset (one_of k.proposal (is_among k.channel s) k.outcome))

    by_test : (b : Bool) → (b ≡ true → k.channel ≡ n) → Alike asset (outcome_in ks s n) (outcome_in ks t n) →
        Alike asset (cond b (one_of k.proposal (is_among k.channel s) k.outcome) (outcome_in ks s n))
        (cond b (one_of k.proposal (is_among k.channel t) k.outcome) (outcome_in ks t n))
    by_test true is a = here (is refl) (differs asset k.outcome k.proposal) refl h
    by_test false is a = a

-- ---- the choices of the channels that can end with two outcomes, and of those whose outcomes differ

wider : (asset : ℕ) (ks : List Counting) (t s : List (List ℕ)) → Takes t (differing asset ks) s → Takes t (varying ks) s
wider asset [] t s p = p
wider asset (k ∷ ks) t s p = by_proposal (λ u q. wider asset ks u s q) k.proposal p
  where
    added : ((u : List (List ℕ)) → Takes u (differing asset ks) s → Takes u (varying ks) s) → (d : Bool) →
        Takes t (cond d (k.channel ∷ differing asset ks) (differing asset ks)) s → Takes t (k.channel ∷ varying ks) s
    added rest false q = skips (rest t q)
    added rest true (skips q) = skips (rest t q)
    added rest true (takes q) = takes (rest (k.channel ∷ t) q)

    by_proposal : ((u : List (List ℕ)) → Takes u (differing asset ks) s → Takes u (varying ks) s) → (o : Option (List AssetOutcome)) →
        Takes t (cond (differs asset k.outcome o) (k.channel ∷ differing asset ks) (differing asset ks)) s →
        Takes t (cond (is_some o) (k.channel ∷ varying ks) (varying ks)) s
    by_proposal rest None q = rest t q
    by_proposal rest (Some o) q = added rest (differs asset k.outcome (Some o)) q

-- the choice of those whose outcomes differ that belongs to a choice of all
abbrev narrow : ℕ → List Counting → List (List ℕ) → List (List ℕ)
narrow asset ks s = choose (λ n. is_among n s) (differing asset ks) []

module _ (held : List ℕ → ℕ) (ks : List Counting) (asset : ℕ) (s : List (List ℕ)) where
  each : (n : List ℕ) → Alike asset (outcome_in ks (narrow asset ks s) n) (outcome_in ks s n)
  each n = alike asset ks (narrow asset ks s) s n (chosen-is (λ m. is_among m s) (differing asset ks) n)

  pub books-narrow : books_under held ks asset (narrow asset ks s) ≡ books_under held ks asset s
  books-narrow =
      ap (λ (f : List ℕ → List Item). record { held = held; items = f; counts = counts_in ks; list = λ n. list_in asset (outcome_in ks (narrow asset ks s) n); owed = λ n to. true })
      (fun_ext (λ n. (each n).items))
      ∙ ap (λ (f : List ℕ → List Dest). record { held = held; items = λ n. items_in asset (outcome_in ks s n); counts = counts_in ks; list = f; owed = λ n to. true })
      (fun_ext (λ n. (each n).list))

module _ (held : List ℕ → ℕ) (ks : List Counting) (asset : ℕ) where
  -- the least stays
  pub stays_same : (f : Books → ℕ) →
      least_over (differing asset ks) (λ s. f (books_under held ks asset s)) [] ≡ least_over (varying ks) (λ s. f (books_under held ks asset s)) []
  stays_same f = by_some (least_over-some [] (differing asset ks) g) (least_over-some [] (varying ks) g)
    where
      g : List (List ℕ) → ℕ
      g s = f (books_under held ks asset s)

      by_some : ((s : List (List ℕ)) × Takes [] (differing asset ks) s × (least_over (differing asset ks) g [] ≡ g s)) →
          ((s : List (List ℕ)) × Takes [] (varying ks) s × (least_over (varying ks) g [] ≡ g s)) →
          least_over (differing asset ks) g [] ≡ least_over (varying ks) g []
      by_some a b =
          let upper : least_over (varying ks) g [] ≤ g a.0 = least_over-le [] (varying ks) a.0 g (wider asset ks [] a.0 a.1) in
          let lower : least_over (differing asset ks) g [] ≤ g (narrow asset ks b.0) =
          least_over-le [] (differing asset ks) (narrow asset ks b.0) g (choose-takes (λ n. is_among n b.0) (differing asset ks) []) in
          let same : g (narrow asset ks b.0) ≡ g b.0 = ap f (books-narrow held ks asset b.0) in
          omega (arith, a.2, b.2, upper, lower, same)

  pub at_each-all : (t cs : List (List ℕ)) (test : List (List ℕ) → Bool) → ((s : List (List ℕ)) → Takes t cs s → test s ≡ true) → at_each cs test t ≡ true
  at_each-all t [] test h = h t ends
  at_each-all t (c ∷ cs) test h = both (at_each cs test t) (at_each cs test (c ∷ t)) (at_each-all t cs test (λ s p. h s (skips p))) (at_each-all (c ∷ t) cs test (λ s p. h s (takes p)))
    where
      both : (a b : Bool) → a ≡ true → b ≡ true → (a && b) ≡ true
      both true b x y = y
      both false b x y = absurd (false≢true x)

  -- and so does what holds at each
  pub holds_same : (f : Books → Bool) →
      at_each (differing asset ks) (λ s. f (books_under held ks asset s)) [] ≡ at_each (varying ks) (λ s. f (books_under held ks asset s)) []
  holds_same f = by_both (at_each (differing asset ks) g []) (at_each (varying ks) g []) there back
    where
      g : List (List ℕ) → Bool
      g s = f (books_under held ks asset s)

      there : at_each (differing asset ks) g [] ≡ true → at_each (varying ks) g [] ≡ true
      there h = at_each-all [] (varying ks) g (λ s p.
          sym (ap f (books-narrow held ks asset s))
          ∙ at_each-at [] (differing asset ks) (narrow asset ks s) g (choose-takes (λ n. is_among n s) (differing asset ks) []) h)

      back : at_each (varying ks) g [] ≡ true → at_each (differing asset ks) g [] ≡ true
      back h = at_each-all [] (differing asset ks) g (λ s p. at_each-at [] (varying ks) s g (wider asset ks [] s p) h)

      by_both : (a b : Bool) → (a ≡ true → b ≡ true) → (b ≡ true → a ≡ true) → a ≡ b
      by_both true b to from = sym (to refl)
      by_both false true to from = from refl
      by_both false false to from = refl

-- ---- a plan

pub least_is : (own : Plan) (w : WorldView) (ks : List Counting) (asset : ℕ) →
    least_among own (record { view = w; counting = ks; asset = asset; taken = [] }) ks
    ≡ least_over (varying ks) (worth_under own.me own.parts (held_seen w asset) ks asset) []
least_is own w ks asset = stays_same (held_seen w asset) ks asset (λ b. worth b own.me own.parts no_reach)

pub funded_is : (own : Plan) (w : WorldView) (ks : List Counting) (asset : ℕ) →
    funded_among own (record { view = w; counting = ks; asset = asset; taken = [] }) ks
    ≡ is_funded own.me own.parts (held_seen w asset) ks asset
funded_is own w ks asset = holds_same (held_seen w asset) ks asset (λ b. are_funded b own.me own.parts no_reach)
