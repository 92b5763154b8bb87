-- A funded plan covers the items of its ledgers.
use Rattle.std.proofs.Common.{◌≡◌, ℕ, ◌≤◌, Bool, true, false, ◌||◌, ◌&&◌, List, [], ◌∷◌, refl, sym, ◌∙◌, subst, arith, nat_le, inl, inr}
use Rattle.std.proofs.lemmas.Bool.{false≢true}
use Rattle.std.specs.Str.{bytes_eq}
use Rattle.channel_values.specs.Outcomes.{AreApart, total}
use Rattle.call_history.specs.Flows.{is_among}
use Rattle.channel_safety.specs.Journals.{In}
use Rattle.funding_plans.specs.declared.plan.Part.{Part}
use Rattle.funding_plans.specs.declared.plan.Part.TheVariants.{Root, OnLedger, End, Middle}
use Rattle.share_laws.specs.Books.{Books}
use Rattle.share_laws.specs.Worth.{Table, no_reach, reach_after}
use Rattle.funding_plans.specs.Parts.{own_ledger, channels_of, channels, ledgers_of}
use Rattle.share_laws.specs.Funded.{is_covered, is_part_funded, are_funded}
use Rattle.share_laws.specs.Plans.{StandsOn, ledgers_after, AllStandOn, IsPlan, reaches}
use Rattle.call_history.proofs.Names.{same_bytes}
use Rattle.share_laws.proofs.Apart.{among-append, or-none, apart-rest}
use Rattle.share_laws.proofs.Tables.{Apart, Apart-after, reaches-off}

pub and-left : (u v : Bool) → (u && v) ≡ true → u ≡ true
and-left true v e = refl
and-left false v e = absurd (false≢true e)

pub and-right : (u v : Bool) → (u && v) ≡ true → v ≡ true
and-right true v e = e
and-right false v e = absurd (false≢true e)

pub nat_le-true : (m n : ℕ) → nat_le m n ≡ true → m ≤ n
nat_le-true m n h = grind arith

one-of : (l m : List ℕ) (t : Bool) → (t ≡ true → l ≡ m) → (t || false) ≡ true → l ≡ m
one-of l m true is h = is refl
one-of l m false is h = absurd (false≢true h)

covers : (b : Books) (reach : Table) (l m : List ℕ) → l ≡ m → is_covered b reach m ≡ true → total (b.items l) ≤ reach l
covers b reach l m e h = subst (λ (z : List ℕ). total (b.items z) ≤ reach z) (sym e) (nat_le-true (total (b.items m)) (reach m) h)

part-covers : (b : Books) (me : List ℕ) (reach : Table) → (p : Part) → is_part_funded b me reach p ≡ true → (l : List ℕ) → is_among l (ledgers_of p) ≡ true →
    total (b.items l) ≤ reach l
part-covers b me reach (Root n) f l h = absurd (false≢true h)
part-covers b me reach (OnLedger m n) f l h = covers b reach l m (one-of l m (bytes_eq l m) (same_bytes l m) h) (and-left (is_covered b reach m) _ f)
part-covers b me reach (End v) f l h =
    covers b reach l (own_ledger v) (one-of l (own_ledger v) (bytes_eq l (own_ledger v)) (same_bytes l (own_ledger v)) h)
    (and-left (is_covered b reach (own_ledger v)) _ f)
part-covers b me reach (Middle v) f l h = by_test (bytes_eq l v.ledger_a) (same_bytes l v.ledger_a) h
  where
    by_test : (t : Bool) → (t ≡ true → l ≡ v.ledger_a) → (t || (bytes_eq l v.ledger_b || false)) ≡ true → total (b.items l) ≤ reach l
    by_test true is h = covers b reach l v.ledger_a (is refl) (and-left (is_covered b reach v.ledger_a) _ f)
    by_test false is h =
        covers b reach l v.ledger_b (one-of l v.ledger_b (bytes_eq l v.ledger_b) (same_bytes l v.ledger_b) h)
        (and-left (is_covered b reach v.ledger_b) _ (and-right (is_covered b reach v.ledger_a) _ f))

-- a ledger of a part was there before it
stands : (ledgers : List (List ℕ)) (p : Part) → StandsOn ledgers p → (l : List ℕ) → is_among l (ledgers_of p) ≡ true → is_among l ledgers ≡ true
stands ledgers (Root n) on l h = absurd (false≢true h)
stands ledgers (OnLedger m n) on l h = subst (λ (z : List ℕ). is_among z ledgers ≡ true) (sym (one-of l m (bytes_eq l m) (same_bytes l m) h)) on
stands ledgers (End v) on l h =
    subst (λ (z : List ℕ). is_among z ledgers ≡ true) (sym (one-of l (own_ledger v) (bytes_eq l (own_ledger v)) (same_bytes l (own_ledger v)) h)) on
stands ledgers (Middle v) on l h = by_test (bytes_eq l v.ledger_a) (same_bytes l v.ledger_a) h
  where
    by_test : (t : Bool) → (t ≡ true → l ≡ v.ledger_a) → (t || (bytes_eq l v.ledger_b || false)) ≡ true → is_among l ledgers ≡ true
    by_test true is h = subst (λ (z : List ℕ). is_among z ledgers ≡ true) (sym (is refl)) on.0
    by_test false is h = subst (λ (z : List ℕ). is_among z ledgers ≡ true) (sym (one-of l v.ledger_b (bytes_eq l v.ledger_b) (same_bytes l v.ledger_b) h)) on.1

all-cover : (b : Books) (me : List ℕ) (ps : List Part) (ledgers : List (List ℕ)) (reach : Table) → Apart ledgers ps → AreApart bytes_eq (channels ps) →
    AllStandOn ledgers ps → are_funded b me ps reach ≡ true → (p : Part) → In p ps → (l : List ℕ) → is_among l (ledgers_of p) ≡ true →
    total (b.items l) ≤ reaches b reach ps l
all-cover b me [] ledgers reach a d on f p i l h = absurd i
all-cover b me (q ∷ qs) ledgers reach a d on f p (inl e) l h =
    let k : is_among l (ledgers_of q) ≡ true = subst (λ (z : Part). is_among l (ledgers_of z) ≡ true) e h in
    let w : total (b.items l) ≤ reach l = part-covers b me reach q (and-left (is_part_funded b me reach q) _ f) l k in
    let r : reaches b reach (q ∷ qs) l ≡ reach l = reaches-off b (q ∷ qs) reach l (a l (stands ledgers q on.0 l k)) in
    omega (arith, w, r)
all-cover b me (q ∷ qs) ledgers reach a d on f p (inr i) l h =
    all-cover b me qs (ledgers_after ledgers q) (reach_after b reach q) (Apart-after ledgers q qs d a)
    (apart-rest (channels_of q) (channels qs) d) on.1 (and-right (is_part_funded b me reach q) _ f) p i l h

pub funded-covers : (b : Books) (me : List ℕ) (ps : List Part) → IsPlan ps → are_funded b me ps no_reach ≡ true → (p : Part) → In p ps →
    (l : List ℕ) → is_among l (ledgers_of p) ≡ true → total (b.items l) ≤ reaches b no_reach ps l
funded-covers b me ps plan f = all-cover b me ps [] no_reach (λ m h. absurd (false≢true h)) plan.apart plan.on_ledgers f

-- what a part stands on isn't a channel of its own
all-off : (ps : List Part) (ledgers : List (List ℕ)) → Apart ledgers ps → AreApart bytes_eq (channels ps) → AllStandOn ledgers ps → (p : Part) → In p ps →
    (l : List ℕ) → is_among l (ledgers_of p) ≡ true → is_among l (channels_of p) ≡ false
all-off [] ledgers a d on p i l h = absurd i
all-off (q ∷ qs) ledgers a d on p (inl e) l h =
    let k : is_among l (ledgers_of q) ≡ true = subst (λ (z : Part). is_among l (ledgers_of z) ≡ true) e h in
    subst (λ (z : Part). is_among l (channels_of z) ≡ false) (sym e)
    (or-none _ _ (sym (among-append l (channels_of q) (channels qs)) ∙ a l (stands ledgers q on.0 l k))).0
all-off (q ∷ qs) ledgers a d on p (inr i) l h =
    all-off qs (ledgers_after ledgers q) (Apart-after ledgers q qs d a) (apart-rest (channels_of q) (channels qs) d) on.1 p i l h

pub ledger-off : (ps : List Part) → IsPlan ps → (p : Part) → In p ps → (l : List ℕ) → is_among l (ledgers_of p) ≡ true → is_among l (channels_of p) ≡ false
ledger-off ps plan = all-off ps [] (λ m h. absurd (false≢true h)) plan.apart plan.on_ledgers
