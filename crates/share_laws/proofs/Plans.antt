-- What a whole plan keeps: no channel pays in two parts, the channels of a part are apart, and each front of it is
-- whole.
use Rattle.std.proofs.Common.{◌≡◌, ℕ, Bool, true, false, ◌||◌, List, [], ◌∷◌, ◌++◌, flat_map, inl, inr, refl, sym, ◌∙◌, ap, subst}
use Rattle.std.specs.List.{AllByRecursion}
use Rattle.std.specs.Str.{bytes_eq}
use Rattle.std.proofs.lemmas.Bool.{false≢true}
use Rattle.std.proofs.lemmas.List.{append_assoc}
use Rattle.channel_values.specs.Outcomes.{AreApart}
use Rattle.call_history.proofs.Names.{bytes_eq_self}
use Rattle.call_history.specs.Flows.{is_among}
use Rattle.channel_safety.specs.Journals.{In}
use Rattle.funding_plans.specs.Parts.{own_ledger, channels_of, channels}
use Rattle.funding_plans.specs.declared.plan.Part.{Part}
use Rattle.funding_plans.specs.declared.plan.Part.TheVariants.{Root, OnLedger, End, Middle}
use Rattle.funding_plans.specs.declared.plan.Virtual.{Virtual}
use Rattle.share_laws.proofs.Apart.{among-append, or-none, apart-once, apart-rest, apart-front}
use Rattle.share_laws.proofs.Choices.{differ-flip}
use Rattle.share_laws.proofs.Counts.{or-left, or-right, part-apart}
use Rattle.share_laws.proofs.Funded.{ledger-off}
use Rattle.share_laws.specs.Plans.{AllStandOn, IsPlan, ledgers_after}
use Rattle.share_laws.specs.Moved.{payers, all_payers}
use Rattle.share_laws.specs.Sound.{IsApart}

pub all-are : (P : Part → Type 0) (ps : List Part) → ((p : Part) → In p ps → P p) → AllByRecursion P ps
all-are P [] each = tt
all-are P (p ∷ ps) each = (each p (inl refl), all-are P ps (λ q i. each q (inr i)))

-- ---- channels that are picked of each part

neither : (s t : Bool) → s ≡ false → t ≡ false → (s || t) ≡ false
neither true t e f = absurd (false≢true (sym e))
neither false t e f = f

apart-joined : (xs ys : List (List ℕ)) → AreApart bytes_eq xs → AreApart bytes_eq ys → ((y : List ℕ) → is_among y xs ≡ true → is_among y ys ≡ false) → AreApart bytes_eq (xs ++ ys)
apart-joined [] ys a b cross = b
apart-joined (x ∷ xs) ys a b cross = (
  among-append x xs ys ∙ neither (is_among x xs) (is_among x ys) a.0 (cross x (ap (λ (t : Bool). t || is_among x xs) (bytes_eq_self x))),
  apart-joined xs ys a.1 b (λ y i. cross y (or-right (bytes_eq y x) (is_among y xs) i)),
)

module _ (pick : Part → List (List ℕ)) (within : (p : Part) (y : List ℕ) → is_among y (pick p) ≡ true → is_among y (channels_of p) ≡ true)
    (once : (p : Part) → AreApart bytes_eq (channels_of p) → AreApart bytes_eq (pick p)) where
  all-within : (ps : List Part) (y : List ℕ) → is_among y (flat_map pick ps) ≡ true → is_among y (channels ps) ≡ true
  all-within [] y i = i
  all-within (p ∷ ps) y i =
      among-append y (channels_of p) (channels ps)
      ∙ by_test (is_among y (pick p)) refl (sym (among-append y (pick p) (flat_map pick ps)) ∙ i) (all-within ps y)
    where
      by_test : (t : Bool) → is_among y (pick p) ≡ t → (t || is_among y (flat_map pick ps)) ≡ true → (is_among y (flat_map pick ps) ≡ true → is_among y (channels ps) ≡ true)
          → (is_among y (channels_of p) || is_among y (channels ps)) ≡ true
      by_test true e j rest = or-left (is_among y (channels_of p)) (is_among y (channels ps)) (within p y e)
      by_test false e j rest = or-right (is_among y (channels_of p)) (is_among y (channels ps)) (rest j)

  -- where channels of a plan are apart, so are those
  pub picked-apart : (ps : List Part) → AreApart bytes_eq (channels ps) → AreApart bytes_eq (flat_map pick ps)
  picked-apart [] a = tt
  picked-apart (p ∷ ps) a =
      apart-joined (pick p) (flat_map pick ps) (once p (apart-front (channels_of p) (channels ps) a)) (picked-apart ps (apart-rest (channels_of p) (channels ps) a))
      (λ y i. by_test (is_among y (flat_map pick ps)) y i refl)
    where
      by_test : (t : Bool) (y : List ℕ) → is_among y (pick p) ≡ true → is_among y (flat_map pick ps) ≡ t → t ≡ false
      by_test true y i e = absurd (false≢true (sym (apart-once (channels_of p) (channels ps) a y (within p y i)) ∙ all-within ps y e))
      by_test false y i e = refl

-- ---- payers

third-of : (r s t u : Bool) → (t || false) ≡ true → (r || (s || (t || (u || false)))) ≡ true
third-of true s t u e = refl
third-of false true t u e = refl
third-of false false true u e = refl
third-of false false false u e = absurd (false≢true e)

payers-within : (p : Part) (y : List ℕ) → is_among y (payers p) ≡ true → is_among y (channels_of p) ≡ true
payers-within (Root c) y i = i
payers-within (OnLedger l c) y i = i
payers-within (End v) y i =
    or-right (bytes_eq y v.guarantor_a) (is_among y (v.guarantor_b ∷ v.joint ∷ v.channel ∷ []))
    (or-right (bytes_eq y v.guarantor_b) (is_among y (v.joint ∷ v.channel ∷ [])) i)
payers-within (Middle v) y i = third-of (bytes_eq y v.guarantor_a) (bytes_eq y v.guarantor_b) (bytes_eq y v.joint) (bytes_eq y v.channel) i

payers-once : (p : Part) → AreApart bytes_eq (channels_of p) → AreApart bytes_eq (payers p)
payers-once (Root c) a = a
payers-once (OnLedger l c) a = a
payers-once (End v) a = a.1.1
payers-once (Middle v) a = (refl, tt)

payers-flat : (ps : List Part) → flat_map payers ps ≡ all_payers ps
payers-flat [] = refl
payers-flat (p ∷ ps) = ap (λ (ns : List (List ℕ)). payers p ++ ns) (payers-flat ps)

pub plan-payers : (ps : List Part) → IsPlan ps → AreApart bytes_eq (all_payers ps)
plan-payers ps plan = subst (AreApart bytes_eq) (payers-flat ps) (picked-apart payers payers-within payers-once ps plan.apart)

-- ---- the channels of a part

third-none : (r s t u : Bool) → (r || (s || (t || (u || false)))) ≡ false → t ≡ false
third-none true s t u e = absurd (false≢true (sym e))
third-none false true t u e = absurd (false≢true (sym e))
third-none false false true u e = absurd (false≢true (sym e))
third-none false false false u e = refl

-- an end's ledger is the channel of another part
joint-apart : (ps : List Part) → IsPlan ps → (v : Virtual) → In (End v) ps → bytes_eq v.joint (own_ledger v) ≡ false
joint-apart ps plan v i =
    differ-flip (own_ledger v) v.joint
    (third-none (bytes_eq (own_ledger v) v.guarantor_a) (bytes_eq (own_ledger v) v.guarantor_b) (bytes_eq (own_ledger v) v.joint) (bytes_eq (own_ledger v) v.channel)
    (ledger-off ps plan (End v) i (own_ledger v) (ap (λ (t : Bool). t || false) (bytes_eq_self (own_ledger v)))))

pub plan-apart : (ps : List Part) → IsPlan ps → AllByRecursion IsApart ps
plan-apart ps plan = all-are IsApart ps each
  where
    each : (p : Part) → In p ps → IsApart p
    each (Root c) i = tt
    each (OnLedger l c) i = tt
    each (End v) i = joint-apart ps plan v i
    each (Middle v) i = (or-none (bytes_eq v.guarantor_a v.guarantor_b) (is_among v.guarantor_a (v.joint ∷ v.channel ∷ [])) (part-apart ps plan.apart (Middle v) i).0).0

-- ---- fronts

channels-append : (ps qs : List Part) → channels (ps ++ qs) ≡ channels ps ++ channels qs
channels-append [] qs = refl
channels-append (p ∷ ps) qs = ap (λ (ns : List (List ℕ)). channels_of p ++ ns) (channels-append ps qs) ∙ sym (append_assoc (channels_of p) (channels ps) (channels qs))

left-stand : (ledgers : List (List ℕ)) (ps qs : List Part) → AllStandOn ledgers (ps ++ qs) → AllStandOn ledgers ps
left-stand ledgers [] qs on = tt
left-stand ledgers (p ∷ ps) qs on = (on.0, left-stand (ledgers_after ledgers p) ps qs on.1)

pub plan-front : (ps qs : List Part) → IsPlan (ps ++ qs) → IsPlan ps
plan-front ps qs plan = record {
  apart = apart-front (channels ps) (channels qs) (subst (AreApart bytes_eq) (channels-append ps qs) plan.apart);
  on_ledgers = left-stand [] ps qs plan.on_ledgers;
}
