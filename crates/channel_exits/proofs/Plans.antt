-- What a whole plan keeps of its exits: no channel pays in two parts' exits, and each ledger is a root or the channel
-- of an earlier end.
use Rattle.std.proofs.Common.{◌≡◌, ℕ, Bool, true, false, ◌||◌, List, [], ◌∷◌, flat_map, inl, inr, refl, sym, ap, subst}
use Rattle.std.specs.List.{AllByRecursion}
use Rattle.std.specs.Str.{bytes_eq}
use Rattle.std.proofs.lemmas.Bool.{false≢true}
use Rattle.channel_values.specs.Outcomes.{AreApart}
use Rattle.call_history.proofs.Names.{same_bytes}
use Rattle.call_history.specs.Flows.{is_among}
use Rattle.channel_safety.specs.Journals.{In}
use Rattle.funding_plans.specs.Parts.{own_ledger, own_guarantor, channels_of}
use Rattle.funding_plans.specs.declared.plan.Part.{Part}
use Rattle.funding_plans.specs.declared.plan.Part.TheVariants.{Root, OnLedger, End, Middle}
use Rattle.share_laws.proofs.Apart.{or-none}
use Rattle.share_laws.proofs.Choices.{differ-flip}
use Rattle.share_laws.proofs.Plans.{all-are, picked-apart}
use Rattle.share_laws.proofs.Counts.{part-apart}
use Rattle.share_laws.specs.Plans.{StandsOn, ledgers_after, AllStandOn, IsPlan}
use Rattle.channel_exits.specs.Calls.{exits}
use Rattle.channel_exits.specs.ExitLaws.{IsLedger, IsOnLedgers, AreOnLedgers, IsApartFromGuarantors}

-- ---- one of four channels

last-or-first : (r s t u : Bool) → (u || (r || false)) ≡ true → (r || (s || (t || (u || false)))) ≡ true
last-or-first true s t u e = refl
last-or-first false true t u e = refl
last-or-first false false true u e = refl
last-or-first false false false true e = refl
last-or-first false false false false e = absurd (false≢true e)

last-or-second : (r s t u : Bool) → (u || (s || false)) ≡ true → (r || (s || (t || (u || false)))) ≡ true
last-or-second true s t u e = refl
last-or-second false true t u e = refl
last-or-second false false true u e = refl
last-or-second false false false true e = refl
last-or-second false false false false e = absurd (false≢true e)

first-two : (r s t u : Bool) → (r || (s || false)) ≡ true → (r || (s || (t || (u || false)))) ≡ true
first-two true s t u e = refl
first-two false true t u e = refl
first-two false false t u e = absurd (false≢true e)

last-none : (r s t : Bool) → (r || (s || (t || false))) ≡ false → t ≡ false
last-none true s t e = absurd (false≢true (sym e))
last-none false true t e = absurd (false≢true (sym e))
last-none false false true e = absurd (false≢true (sym e))
last-none false false false e = refl

-- ---- the channels that pay in a part's exit

-- a virtual channel isn't a guarantor of its own
from-guarantors : (p : Part) → AreApart bytes_eq (channels_of p) → IsApartFromGuarantors p
from-guarantors (Root c) a = tt
from-guarantors (OnLedger l c) a = tt
from-guarantors (End v) a = go v.side_b
  where
    go : (b : Bool) → bytes_eq v.channel (own_guarantor (record v { side_b = b })) ≡ false
    go true = differ-flip v.guarantor_b v.channel (last-none false (bytes_eq v.guarantor_b v.joint) (bytes_eq v.guarantor_b v.channel) a.1.0)
    go false = differ-flip v.guarantor_a v.channel (last-none (bytes_eq v.guarantor_a v.guarantor_b) (bytes_eq v.guarantor_a v.joint) (bytes_eq v.guarantor_a v.channel) a.0)
from-guarantors (Middle v) a = (
  differ-flip v.guarantor_a v.channel (last-none (bytes_eq v.guarantor_a v.guarantor_b) (bytes_eq v.guarantor_a v.joint) (bytes_eq v.guarantor_a v.channel) a.0),
  differ-flip v.guarantor_b v.channel (last-none false (bytes_eq v.guarantor_b v.joint) (bytes_eq v.guarantor_b v.channel) a.1.0),
)

exits-within : (p : Part) (y : List ℕ) → is_among y (exits p) ≡ true → is_among y (channels_of p) ≡ true
exits-within (Root c) y i = i
exits-within (OnLedger l c) y i = i
exits-within (End v) y i = go v.side_b i
  where
    go : (b : Bool) → is_among y (v.channel ∷ own_guarantor (record v { side_b = b }) ∷ []) ≡ true → is_among y (channels_of (End v)) ≡ true
    go true e = last-or-second (bytes_eq y v.guarantor_a) (bytes_eq y v.guarantor_b) (bytes_eq y v.joint) (bytes_eq y v.channel) e
    go false e = last-or-first (bytes_eq y v.guarantor_a) (bytes_eq y v.guarantor_b) (bytes_eq y v.joint) (bytes_eq y v.channel) e
exits-within (Middle v) y i = first-two (bytes_eq y v.guarantor_a) (bytes_eq y v.guarantor_b) (bytes_eq y v.joint) (bytes_eq y v.channel) i

exits-once : (p : Part) → AreApart bytes_eq (channels_of p) → AreApart bytes_eq (exits p)
exits-once (Root c) a = a
exits-once (OnLedger l c) a = a
exits-once (End v) a = (ap (λ (t : Bool). t || false) (from-guarantors (End v) a), (refl, tt))
exits-once (Middle v) a = (
  ap (λ (t : Bool). t || false) (or-none (bytes_eq v.guarantor_a v.guarantor_b) (is_among v.guarantor_a (v.joint ∷ v.channel ∷ [])) a.0).0,
  (refl, tt),
)

pub exits-apart : (ps : List Part) → IsPlan ps → AreApart bytes_eq (flat_map exits ps)
exits-apart ps plan = picked-apart exits exits-within exits-once ps plan.apart

pub apart-from-guarantors : (ps : List Part) → IsPlan ps → AllByRecursion IsApartFromGuarantors ps
apart-from-guarantors ps plan = all-are IsApartFromGuarantors ps (λ p i. from-guarantors p (part-apart ps plan.apart p i))

-- ---- ledgers

module _ (ps before : List Part) (ledgers : List (List ℕ)) (there : (l : List ℕ) → is_among l ledgers ≡ true → IsLedger ps before l) where
  stands-there : (p : Part) → StandsOn ledgers p → IsOnLedgers ps before p
  stands-there (Root c) on = tt
  stands-there (OnLedger l c) on = there l on
  stands-there (End v) on = there (own_ledger v) on
  stands-there (Middle v) on = (there v.ledger_a on.0, there v.ledger_b on.1)

  earlier : (q : Part) (l : List ℕ) → IsLedger ps before l → IsLedger ps (q ∷ before) l
  earlier q l (inl i) = inl i
  earlier q l (inr w) = inr (w.0, inr w.1, w.2)

  -- a root, or the channel of an end, is there for the parts after it
  there-after : (q : Part) → In q ps → (l : List ℕ) → is_among l (ledgers_after ledgers q) ≡ true → IsLedger ps (q ∷ before) l
  there-after (Root c) i l h = by_test (bytes_eq l c) (same_bytes l c) h
    where
      by_test : (t : Bool) → (t ≡ true → l ≡ c) → (t || is_among l ledgers) ≡ true → IsLedger ps (Root c ∷ before) l
      by_test true is k = inl (subst (λ (n : List ℕ). In (Root n) ps) (sym (is refl)) i)
      by_test false is k = earlier (Root c) l (there l k)
  there-after (OnLedger m c) i l h = earlier (OnLedger m c) l (there l h)
  there-after (End v) i l h = by_test (bytes_eq l v.channel) (same_bytes l v.channel) h
    where
      by_test : (t : Bool) → (t ≡ true → l ≡ v.channel) → (t || is_among l ledgers) ≡ true → IsLedger ps (End v ∷ before) l
      by_test true is k = inr (v, inl refl, sym (is refl))
      by_test false is k = earlier (End v) l (there l k)
  there-after (Middle v) i l h = earlier (Middle v) l (there l h)

all-stand : (ps before qs : List Part) (ledgers : List (List ℕ)) → ((l : List ℕ) → is_among l ledgers ≡ true → IsLedger ps before l) → ((p : Part) → In p qs → In p ps) → AllStandOn ledgers qs
    → AreOnLedgers ps before qs
all-stand ps before [] ledgers there within on = tt
all-stand ps before (q ∷ qs) ledgers there within on = (
  stands-there ps before ledgers there q on.0,
  all-stand ps (q ∷ before) qs (ledgers_after ledgers q) (there-after ps before ledgers there q (within q (inl refl))) (λ p i. within p (inr i)) on.1,
)

pub all-on-ledgers : (ps : List Part) → IsPlan ps → AreOnLedgers ps [] ps
all-on-ledgers ps plan = all-stand ps [] ps [] (λ l h. absurd (false≢true h)) (λ p i. i) plan.on_ledgers
