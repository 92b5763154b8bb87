-- The outcomes of a joint channel: what they pay, which of it is an end's own, and that they are outcomes.
use Rattle.std.proofs.Common.{◌≡◌, ◌≢◌, ℕ, ◌+◌, ◌^◌, ◌<◌, ◌≤◌, Bool, true, false, cond, List, [], ◌∷◌, ◌⊎◌, inl, inr, refl, sym, ◌∙◌, ap, subst, arith}
use Rattle.std.proofs.lemmas.Bool.Decides.{nat_tests}
use Rattle.std.specs.Prelude.{◌==◌, Some, None}
use Rattle.std.specs.Str.{bytes_eq}
use Rattle.channel_values.specs.Outcomes.{IsName, IsOutcome}
use Rattle.channel_values.specs.declared.value.AssetOutcome.{AssetOutcome}
use Rattle.channel_values.specs.declared.value.Dest.{Dest}
use Rattle.channel_values.specs.declared.value.Dest.TheVariants.{Person, Channel}
use Rattle.channel_values.specs.declared.value.Shape.{Shape}
use Rattle.channel_values.specs.declared.value.Shape.TheVariants.{Allocation, Guarantee}
use Rattle.channel_safety.proofs.Tests.{clash}
use Rattle.call_history.proofs.Names.{bytes_eq_self}
use Rattle.call_history.specs.Dues.{shape_in}
use Rattle.channel_values.specs.Amounts.{amt}
use Rattle.funding_plans.specs.Shapes.{items_of, list_of, items_in, list_in}
use Rattle.funding_plans.specs.declared.plan.Virtual.{Virtual}
use Rattle.std.proofs.lemmas.Bool.{eq-eqb}
use Rattle.fairness_laws.specs.LedgerMoving.{IsUp}
use Rattle.funding_plans.specs.Limits.{is_valid}
use Rattle.funding_plans.specs.Targets.{only, apart, together, guarantee}
use Rattle.funding_plans.specs.declared.child.Child.{Child}
use Rattle.funding_plans.specs.declared.terms.Terms.{Terms}
use Rattle.share_laws.specs.Books.{Books}
use Rattle.share_laws.specs.Funded.{up_to}
use Rattle.share_laws.specs.Moves.{owing, SetsAside, IsApart, PaysApart, PaysTogether, IsApartBetween, IsTogetherBetween}
use Rattle.share_laws.specs.Items as targets
use Rattle.share_laws.proofs.Fits.{apart_fits, joint_fits}
use Rattle.fairness_laws.proofs.Ledger.Spelled.{read-is}
use Rattle.fairness_laws.proofs.Shared.{two, amt-first, amt-second, up-first, up-second}

other-number : (a b : ℕ) → (a ≡ b → ⊥) → (b == a) ≡ false
other-number a b n = grind (arith, nat_tests)

-- an outcome of one asset
pub only-there : (asset : ℕ) (shape : Shape) → shape_in (only asset shape) asset ≡ Some shape
only-there asset shape = ap (λ (t : Bool). cond t (Some shape) None) (eq-eqb asset asset refl)

pub only-other : (asset a : ℕ) (shape : Shape) → a ≢ asset → shape_in (only asset shape) a ≡ None
only-other asset a shape differ = ap (λ (t : Bool). cond t (Some shape) None) (other-number a asset differ)

pub apart-items : (t : Terms) (ab : ℕ × ℕ) → ab.0 + ab.1 ≡ t.total → items_in t.asset (apart t ab) ≡ targets.apart t.first t.second t.middle ab.0 ab.1
apart-items t ab sum =
    ap items_of (only-there t.asset (Allocation (targets.pays (Person t.first) ab.0 ∷ targets.pays (Person t.second) ab.1 ∷ targets.pays (Person t.middle) t.total ∷ [])))
    ∙ ap (λ (n : ℕ). targets.pays (Person t.first) ab.0 ∷ targets.pays (Person t.second) ab.1 ∷ targets.pays (Person t.middle) n ∷ []) (sym sum)

pub together-items : (t : Terms) → items_in t.asset (together t) ≡ targets.together t.middle t.channel t.total
together-items t = ap items_of (only-there t.asset (Allocation (targets.pays (Channel t.channel) t.total ∷ targets.pays (Person t.middle) t.total ∷ [])))

-- both have no list, and nothing of other assets
pub apart-list : (t : Terms) (ab : ℕ × ℕ) → list_in t.asset (apart t ab) ≡ []
apart-list t ab = ap list_of (only-there t.asset (Allocation (targets.pays (Person t.first) ab.0 ∷ targets.pays (Person t.second) ab.1 ∷ targets.pays (Person t.middle) t.total ∷ [])))

pub together-list : (t : Terms) → list_in t.asset (together t) ≡ []
together-list t = ap list_of (only-there t.asset (Allocation (targets.pays (Channel t.channel) t.total ∷ targets.pays (Person t.middle) t.total ∷ [])))

pub same-others : (t : Terms) (ab : ℕ × ℕ) (a : ℕ) → a ≢ t.asset → shape_in (together t) a ≡ shape_in (apart t ab) a
same-others t ab a differ =
    only-other t.asset a (Allocation (targets.pays (Channel t.channel) t.total ∷ targets.pays (Person t.middle) t.total ∷ [])) differ
    ∙ sym (only-other t.asset a (Allocation (targets.pays (Person t.first) ab.0 ∷ targets.pays (Person t.second) ab.1 ∷ targets.pays (Person t.middle) t.total ∷ [])) differ)

pub guarantee-list : (t : Terms) (joint end : List ℕ) → list_in t.asset (guarantee t joint end) ≡ Channel t.channel ∷ Person end ∷ Person t.middle ∷ []
guarantee-list t joint end = ap list_of (only-there t.asset (Guarantee joint (Channel t.channel ∷ Person end ∷ Person t.middle ∷ [])))

-- ---- what can be read of them is an outcome

pub asset-small : (asset : ℕ) (shape : Shape) → IsOutcome (only asset shape) → asset < 2 ^ 32
asset-small asset shape is = is.1.each.0.0

-- terms of names, of an asset and an amount
pub record AreTerms (t : Terms) : Type 0 where
  pub asset : t.asset < 2 ^ 32
  pub total : t.total < 2 ^ 64
  pub channel : IsName t.channel
  pub first : IsName t.first
  pub middle : IsName t.middle
  pub second : IsName t.second

pub parts-small : (a b n m : ℕ) → a + b ≡ n → n < m → (a < m) × (b < m)
parts-small a b n m sum small = (omega arith, omega arith)

pub apart-read : (t : Terms) → AreTerms t → (ab : ℕ × ℕ) → (ab.0 < 2 ^ 64) × (ab.1 < 2 ^ 64) → is_valid (apart t ab) ≡ true → IsOutcome (apart t ab)
apart-read t n ab small valid = read-is (apart t ab) ((n.asset, ((n.first, small.0), ((n.second, small.1), ((n.middle, n.total), tt)))), tt) valid

pub apart-outcome : (t : Terms) → AreTerms t → (ab : ℕ × ℕ) → ab.0 + ab.1 ≡ t.total → is_valid (apart t ab) ≡ true → IsOutcome (apart t ab)
apart-outcome t n ab sum valid = apart-read t n ab (parts-small ab.0 ab.1 t.total (2 ^ 64) sum n.total) valid

pub together-outcome : (t : Terms) → AreTerms t → is_valid (together t) ≡ true → IsOutcome (together t)
together-outcome t n valid = read-is (together t) ((n.asset, ((n.channel, n.total), ((n.middle, n.total), tt))), tt) valid

-- ---- what it pays by the guarantors' lists

lists : (list_a list_b : List Dest) → List ℕ → List Dest
lists list_a list_b [] = list_b
lists list_a list_b (n ∷ name) = list_a

pub between-fits : (v : Virtual) (t : Terms) (ab : ℕ × ℕ) (list_a list_b : List Dest) → ab.0 + ab.1 ≡ v.total → t.channel ≡ v.channel → t.total ≡ v.total → bytes_eq t.first t.second ≡ false
    → bytes_eq t.first t.middle ≡ false → bytes_eq t.second t.middle ≡ false → list_a ≡ Channel t.channel ∷ Person t.first ∷ Person t.middle ∷ []
    → list_b ≡ Channel t.channel ∷ Person t.second ∷ Person t.middle ∷ []
    → PaysApart t.middle v ab.0 ab.1 list_a list_b (items_in t.asset (apart t ab)) × PaysTogether t.middle v list_a list_b (items_in t.asset (together t))
unfolding lists
between-fits v t ab list_a list_b sum channel total ends first second is_a is_b = (
  subst (PaysApart t.middle v ab.0 ab.1 list_a list_b) (sym (apart-items t ab (sum ∙ sym total)))
      (record { channel = fit.0.channel; first = fit.0.first; second = fit.0.second; own = fit.0.own; whole = fit.0.whole }),
  subst (PaysTogether t.middle v list_a list_b) (sym items) (record { channel = fit.1.channel; first = fit.1.first; second = fit.1.second; own = fit.1.own }),
)
  where
    w : Virtual
    w = record v { guarantor_a = 0 ∷ []; guarantor_b = [] }

    b : Books
    b = owing (λ n. 0) (λ n. true) (lists list_a list_b) (λ n. [])

    items : items_in t.asset (together t) ≡ targets.together t.middle v.channel (ab.0 + ab.1)
    items =
        together-items t
        ∙ (ap (λ (c : List ℕ). targets.together t.middle c t.total) channel ∙ ap (targets.together t.middle v.channel) (total ∙ sym sum))

    fit : IsApartBetween b t.middle w ab.0 ab.1 (targets.apart t.first t.second t.middle ab.0 ab.1) × IsTogetherBetween b t.middle w (targets.together t.middle v.channel (ab.0 + ab.1))
    fit =
        joint_fits b t.first t.second t.middle ab.0 ab.1 w (sym sum) ends first second
        (is_a ∙ ap (λ (c : List ℕ). Channel c ∷ Person t.first ∷ Person t.middle ∷ []) channel) (is_b ∙ ap (λ (c : List ℕ). Channel c ∷ Person t.second ∷ Person t.middle ∷ []) channel)

-- ---- which end the person is

-- with these amounts for the ends: its own
pub record Own (me : List ℕ) (t : Terms) (ab : ℕ × ℕ) : Type 0 where
  pub mine : ℕ
  pub small : mine ≤ ab.0 + ab.1
  pub apart : IsApart me t.channel mine (targets.apart t.first t.second t.middle ab.0 ab.1)
  pub have : amt (two t.first t.second ab.0 ab.1) (Person me) ≡ mine
  pub within : up_to (two t.first t.second ab.0 ab.1) (Person me) ≤ ab.0 + ab.1
  pub sets : (k : Child) (from to : List AssetOutcome) → (((me ≡ k.first) × (me ≡ t.first)) ⊎ ((me ≡ k.second) × (me ≡ t.second))) → k.a ≡ ab.0 → k.b ≡ ab.1 → IsUp k from to
      → SetsAside me k.name mine (k.a + k.b) (items_in k.asset from) (items_in k.asset to)

pub own-of : (me : List ℕ) (t : Terms) (ab : ℕ × ℕ) → bytes_eq t.first t.second ≡ false → (me ≡ t.first) ⊎ (me ≡ t.second) → Own me t ab
own-of me t ab differ (inl e) = record {
  mine = ab.0;
  small = omega arith;
  apart = subst (λ (n : List ℕ). IsApart n t.channel ab.0 (targets.apart t.first t.second t.middle ab.0 ab.1)) (sym e) (apart_fits t.first t.second t.middle t.channel ab.0 ab.1 differ).0;
  have = subst (λ (n : List ℕ). amt (two t.first t.second ab.0 ab.1) (Person n) ≡ ab.0) (sym e) (amt-first t.first t.second ab.0 ab.1);
  within = subst (λ (n : List ℕ). up_to (two t.first t.second ab.0 ab.1) (Person n) ≤ ab.0 + ab.1) (sym e)
      (let z : up_to (two t.first t.second ab.0 ab.1) (Person t.first) ≡ ab.0 = up-first t.first t.second ab.0 ab.1 in omega arith);
  sets = λ k from to which a b u. by k from to which a u;
}
  where
    clash-ends : me ≡ t.second → ⊥
    clash-ends f = clash (bytes_eq t.first t.second) (subst (λ (n : List ℕ). bytes_eq t.first n ≡ true) (sym e ∙ f) (bytes_eq_self t.first)) differ

    by : (k : Child) (from to : List AssetOutcome) → (((me ≡ k.first) × (me ≡ t.first)) ⊎ ((me ≡ k.second) × (me ≡ t.second))) → k.a ≡ ab.0 → IsUp k from to
        → SetsAside me k.name ab.0 (k.a + k.b) (items_in k.asset from) (items_in k.asset to)
    by k from to (inl f) a u =
        subst (λ (n : ℕ). SetsAside me k.name n (k.a + k.b) (items_in k.asset from) (items_in k.asset to)) a
        (subst (λ (n : List ℕ). SetsAside n k.name k.a (k.a + k.b) (items_in k.asset from) (items_in k.asset to)) (sym f.0) u.one)
    by k from to (inr f) a u = absurd (clash-ends f.1)
own-of me t ab differ (inr e) = record {
  mine = ab.1;
  small = omega arith;
  apart = subst (λ (n : List ℕ). IsApart n t.channel ab.1 (targets.apart t.first t.second t.middle ab.0 ab.1)) (sym e) (apart_fits t.first t.second t.middle t.channel ab.0 ab.1 differ).1;
  have = subst (λ (n : List ℕ). amt (two t.first t.second ab.0 ab.1) (Person n) ≡ ab.1) (sym e) (amt-second t.first t.second ab.0 ab.1 differ);
  within = subst (λ (n : List ℕ). up_to (two t.first t.second ab.0 ab.1) (Person n) ≤ ab.0 + ab.1) (sym e)
      (let z : up_to (two t.first t.second ab.0 ab.1) (Person t.second) ≡ ab.0 + ab.1 = up-second t.first t.second ab.0 ab.1 differ in omega arith);
  sets = λ k from to which a b u. by k from to which b u;
}
  where
    clash-ends : me ≡ t.first → ⊥
    clash-ends f = clash (bytes_eq t.first t.second) (subst (λ (n : List ℕ). bytes_eq t.first n ≡ true) (sym f ∙ e) (bytes_eq_self t.first)) differ

    by : (k : Child) (from to : List AssetOutcome) → (((me ≡ k.first) × (me ≡ t.first)) ⊎ ((me ≡ k.second) × (me ≡ t.second))) → k.b ≡ ab.1 → IsUp k from to
        → SetsAside me k.name ab.1 (k.a + k.b) (items_in k.asset from) (items_in k.asset to)
    by k from to (inl f) b u = absurd (clash-ends f.1)
    by k from to (inr f) b u =
        subst (λ (n : ℕ). SetsAside me k.name n (k.a + k.b) (items_in k.asset from) (items_in k.asset to)) b
        (subst (λ (n : List ℕ). SetsAside n k.name k.b (k.a + k.b) (items_in k.asset from) (items_in k.asset to)) (sym f.0) u.other)
