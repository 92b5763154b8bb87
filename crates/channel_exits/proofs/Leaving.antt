-- What a call leaves: after it was paid what is due, nothing is due of it.
use Rattle.std.proofs.Common.{◌≡◌, ℕ, zero, suc, ◌+◌, ◌-◌, ◌≤◌, min, Bool, true, false, ◌||◌, not, List, [], ◌∷◌, refl, sym, ◌∙◌, ap, subst, arith, cond}
use Rattle.std.proofs.lemmas.Bool.{false≢true}
use Rattle.channel_values.specs.Outcomes.{is_same}
use Rattle.channel_values.specs.declared.value.Dest.{Dest}
use Rattle.channel_values.specs.declared.value.Item.{Item}
use Rattle.channel_values.specs.Amounts.{amt, has, aff, before, due}
use Rattle.call_history.specs.Dues.{place_of, dest_in}
use Rattle.call_history.specs.Rest.{lower_at}
use Rattle.share_laws.specs.Books.{Books}
use Rattle.share_laws.specs.Moved.{due_at}
use Rattle.funding_plans.specs.Shapes.{is_listed, position_of}
use Rattle.channel_exits.proofs.Edges.{Edge, moving, claiming, by_list, left}
use Rattle.channel_exits.proofs.Leaves.{is_same-true}

or-first : (t u : Bool) → (t || u) ≡ false → t ≡ false
or-first true u h = absurd (false≢true (sym h))
or-first false u h = refl

or-rest : (t u : Bool) → (t || u) ≡ false → u ≡ false
or-rest true u h = absurd (false≢true (sym h))
or-rest false u h = h

-- ---- nothing is left where no item is

pub aff-absent : (xs : List Item) (r : ℕ) (d : Dest) → has xs d ≡ false → aff xs r d ≡ 0
aff-absent [] r d h = refl
aff-absent (x ∷ xs) r d h =
    ap (λ (t : Bool). cond t (min x.amount r) (aff xs (r - x.amount) d)) (or-first _ (has xs d) h)
    ∙ aff-absent xs (r - x.amount) d (or-rest (is_same x.to d) _ h)

pub amt-absent : (xs : List Item) (d : Dest) → has xs d ≡ false → amt xs d ≡ 0
amt-absent [] d h = refl
amt-absent (x ∷ xs) d h =
    ap (λ (t : Bool). cond t x.amount (amt xs d)) (or-first _ (has xs d) h) ∙ amt-absent xs d (or-rest (is_same x.to d) _ h)

pub by_list-le : (xs : List Item) (ds : List Dest) (h : ℕ) (d : Dest) → by_list xs ds h d ≤ amt xs d
by_list-le xs [] h d = omega arith
by_list-le xs (e ∷ ds) h d = by_test (is_same e d) (λ t. ap (λ (y : Dest). amt xs y) (is_same-true e d t)) (by_list-le xs ds (h - amt xs e) d)
  where
    by_test : (t : Bool) → (t ≡ true → amt xs e ≡ amt xs d) → by_list xs ds (h - amt xs e) d ≤ amt xs d →
        cond t (min (amt xs e) h) (by_list xs ds (h - amt xs e) d) ≤ amt xs d
    by_test true g p = let y = g refl in omega (arith, y)
    by_test false g p = p

-- whether the item of an edge is there
abbrev pub is_present : Books → Edge → Bool
is_present b (moving f d) = has (b.items f) d
is_present b (claiming g j d) = has (b.items j) d

pub by_list-unlisted : (xs : List Item) (ds : List Dest) (h : ℕ) (d : Dest) → is_listed ds d ≡ false → by_list xs ds h d ≡ 0
by_list-unlisted xs [] h d n = refl
by_list-unlisted xs (e ∷ ds) h d n =
    ap (λ (t : Bool). cond t (min (amt xs e) h) (by_list xs ds (h - amt xs e) d)) (or-first (is_same e d) (is_listed ds d) n)
    ∙ by_list-unlisted xs ds (h - amt xs e) d (or-rest (is_same e d) (is_listed ds d) n)

pub left-absent : (b : Books) (c : Edge) → is_present b c ≡ false → left b c ≡ 0
left-absent b (moving f d) h = aff-absent (b.items f) (b.held f) d h
left-absent b (claiming g j d) h =
    let p = by_list-le (b.items j) (b.list g) (b.held g) d in let q = amt-absent (b.items j) d h in omega (arith, p, q)

-- ---- the first item of a destination

abbrev pub FirstAt : List Item → ℕ → Dest → Type 0
FirstAt [] i d = ⊥
FirstAt (x ∷ xs) zero d = is_same x.to d ≡ true
FirstAt (x ∷ xs) (suc i) d = (is_same x.to d ≡ false) × FirstAt xs i d

one_more : (n : ℕ) → 1 + n ≡ suc n
one_more n = omega arith

pub first-at : (xs : List Item) (d : Dest) → has xs d ≡ true → FirstAt xs (place_of xs d) d
first-at [] d h = cc
first-at (x ∷ xs) d h = go (is_same x.to d) refl h (first-at xs d)
  where
    go : (t : Bool) → is_same x.to d ≡ t → (t || has xs d) ≡ true → (has xs d ≡ true → FirstAt xs (place_of xs d) d) → FirstAt (x ∷ xs) (cond (not t) (1 + place_of xs d) 0) d
    go true e k rec = e
    go false e k rec = subst (λ (i : ℕ). FirstAt (x ∷ xs) i d) (sym (one_more (place_of xs d))) (e, rec k)

pub aff-due : (xs : List Item) (i h : ℕ) (d : Dest) → FirstAt xs i d → aff xs h d ≡ due_at xs i h
aff-due [] i h d f = absurd f
aff-due (x ∷ xs) zero h d f = ap (λ (t : Bool). cond t (min x.amount h) (aff xs (h - x.amount) d)) f
aff-due (x ∷ xs) (suc i) h d f =
    ap (λ (t : Bool). cond t (min x.amount h) (aff xs (h - x.amount) d)) f.0 ∙ aff-due xs i (h - x.amount) d f.1

aff-after : (xs : List Item) (i h : ℕ) (d : Dest) → FirstAt xs i d → aff (lower_at xs i (due_at xs i h)) (h - due_at xs i h) d ≡ 0
aff-after [] i h d f = absurd f
aff-after (x ∷ xs) zero h d f =
    let k : ℕ = min x.amount h in
    ap (λ (t : Bool). cond t (min (x.amount - k) (h - k)) (aff xs ((h - k) - (x.amount - k)) d)) f ∙ (omega arith)
aff-after (x ∷ xs) (suc i) h d f =
    let k : ℕ = due_at xs i (h - x.amount) in
    let e : (h - k) - x.amount ≡ (h - x.amount) - k = omega arith in
    ap (λ (t : Bool). cond t (min x.amount (h - k)) (aff (lower_at xs i k) ((h - k) - x.amount) d)) f.0
    ∙ ap (λ (y : ℕ). aff (lower_at xs i k) y d) e ∙ aff-after xs i (h - x.amount) d f.1

-- a transfer of what is due leaves nothing
pub transfer-leaves : (xs : List Item) (h k : ℕ) (d : Dest) → has xs d ≡ true → k ≡ aff xs h d → aff (lower_at xs (place_of xs d) k) (h - k) d ≡ 0
transfer-leaves xs h k d there is =
    let f = first-at xs d there in
    ap (λ (y : ℕ). aff (lower_at xs (place_of xs d) y) (h - y) d) (is ∙ aff-due xs (place_of xs d) h d f) ∙ aff-after xs (place_of xs d) h d f

pub amt-lowered-first : (xs : List Item) (i k : ℕ) (d : Dest) → FirstAt xs i d → amt (lower_at xs i k) d ≡ amt xs d - k
amt-lowered-first [] i k d f = absurd f
amt-lowered-first (x ∷ xs) zero k d f =
    ap (λ (t : Bool). cond t (x.amount - k) (amt xs d)) f ∙ ap (λ (n : ℕ). n - k) (sym (ap (λ (t : Bool). cond t x.amount (amt xs d)) f))
amt-lowered-first (x ∷ xs) (suc i) k d f =
    ap (λ (t : Bool). cond t x.amount (amt (lower_at xs i k) d)) f.0 ∙ amt-lowered-first xs i k d f.1
    ∙ ap (λ (n : ℕ). n - k) (sym (ap (λ (t : Bool). cond t x.amount (amt xs d)) f.0))

amt-lowered-other : (xs : List Item) (i k : ℕ) (d e : Dest) → FirstAt xs i d → is_same e d ≡ false → amt (lower_at xs i k) e ≡ amt xs e
amt-lowered-other [] i k d e f ne = refl
amt-lowered-other (x ∷ xs) zero k d e f ne = by_test (is_same x.to e) refl
  where
    by_test : (t : Bool) → is_same x.to e ≡ t → cond t (x.amount - k) (amt xs e) ≡ cond t x.amount (amt xs e)
    by_test true is = absurd (false≢true (sym ne ∙ subst (λ (y : Dest). is_same y d ≡ true) (is_same-true x.to e is) f))
    by_test false is = refl
amt-lowered-other (x ∷ xs) (suc i) k d e f ne =
    ap (λ (n : ℕ). cond (is_same x.to e) x.amount n) (amt-lowered-other xs i k d e f.1 ne)

by_list-after : (xs ys : List Item) (ds : List Dest) (h k : ℕ) (d : Dest) → k ≡ by_list xs ds h d → amt ys d ≡ amt xs d - k →
    ((e : Dest) → is_same e d ≡ false → amt ys e ≡ amt xs e) → by_list ys ds (h - k) d ≡ 0
by_list-after xs ys [] h k d is own others = refl
by_list-after xs ys (e ∷ ds) h k d is own others =
    by_test (is_same e d) (λ t. is_same-true e d t) (others e) is (λ p. by_list-after xs ys ds (h - amt xs e) k d p own others)
  where
    by_test : (t : Bool) → (t ≡ true → e ≡ d) → (t ≡ false → amt ys e ≡ amt xs e) →
        k ≡ cond t (min (amt xs e) h) (by_list xs ds (h - amt xs e) d) →
        (k ≡ by_list xs ds (h - amt xs e) d → by_list ys ds ((h - amt xs e) - k) d ≡ 0) →
        cond t (min (amt ys e) (h - k)) (by_list ys ds ((h - k) - amt ys e) d) ≡ 0
    by_test true same other q rest =
        let p : amt ys e ≡ amt ys d = ap (λ (y : Dest). amt ys y) (same refl) in
        let r : amt xs e ≡ amt xs d = ap (λ (y : Dest). amt xs y) (same refl) in
        omega (arith, p, r, q, own)
    by_test false same other q rest =
        let a : amt ys e ≡ amt xs e = other refl in
        let r : (h - k) - amt ys e ≡ (h - amt xs e) - k = omega (arith, a) in
        ap (λ (n : ℕ). by_list ys ds n d) r ∙ rest q

-- a claim of what is due leaves nothing
pub claim-leaves : (xs : List Item) (ds : List Dest) (h k : ℕ) (d : Dest) → has xs d ≡ true → k ≡ by_list xs ds h d → by_list (lower_at xs (place_of xs d) k) ds (h - k) d ≡ 0
claim-leaves xs ds h k d there is =
    let f = first-at xs d there in
    by_list-after xs (lower_at xs (place_of xs d) k) ds h k d is (amt-lowered-first xs (place_of xs d) k d f) (λ e ne. amt-lowered-other xs (place_of xs d) k d e f ne)

-- ---- what is due of a destination of a list

before-shift : (f : ℕ → ℕ) (n : ℕ) → before f (suc n) ≡ f 0 + before (λ i. f (suc i)) n
before-shift f zero = omega arith
before-shift f (suc n) = let e = before-shift f n in omega (arith, e)

pub by_list-due : (xs : List Item) (ds : List Dest) (h : ℕ) (d : Dest) → is_listed ds d ≡ true →
    by_list xs ds h d ≡ due (λ i. amt xs (dest_in ds i)) (position_of ds d) h
by_list-due xs [] h d l = cc
by_list-due xs (e ∷ ds) h d l = go (is_same e d) l (by_list-due xs ds (h - amt xs e) d)
  where
    go : (t : Bool) → (t || is_listed ds d) ≡ true → (is_listed ds d ≡ true → by_list xs ds (h - amt xs e) d ≡ due (λ i. amt xs (dest_in ds i)) (position_of ds d) (h - amt xs e)) →
        cond t (min (amt xs e) h) (by_list xs ds (h - amt xs e) d) ≡ due (λ i. amt xs (dest_in (e ∷ ds) i)) (cond (not t) (1 + position_of ds d) 0) h
    go true k rec = omega arith
    go false k rec =
        rec k
        ∙ (let s = before-shift (λ i. amt xs (dest_in (e ∷ ds) i)) (position_of ds d) in omega (arith, s))
        ∙ ap (λ (i : ℕ). due (λ j. amt xs (dest_in (e ∷ ds) j)) i h) (sym (one_more (position_of ds d)))
