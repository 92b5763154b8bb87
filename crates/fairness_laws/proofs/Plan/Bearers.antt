-- On whose channel a part stands: that of a root or of an end of the plan.
use Rattle.std.proofs.Common.{◌≡◌, ℕ, Bool, true, false, cond, ◌||◌, List, [], ◌∷◌, refl, sym, subst, inl, inr}
use Rattle.std.proofs.lemmas.Bool.{false≢true}
use Rattle.std.specs.Str.{bytes_eq}
use Rattle.channel_values.specs.Outcomes.{AreApart}
use Rattle.channel_values.specs.declared.value.Item.{Item}
use Rattle.call_history.proofs.Names.{same_bytes, bytes_eq_self}
use Rattle.call_history.specs.Flows.{is_among}
use Rattle.funding_plans.specs.Parts.{own_channel, own_ledger, own_guarantor, channels_of, joined_of, ledgers_of}
use Rattle.funding_plans.specs.declared.plan.Part.{Part}
use Rattle.funding_plans.specs.declared.plan.Part.TheVariants.{Root, OnLedger, End, Middle}
use Rattle.funding_plans.specs.declared.plan.Virtual.{Virtual}
use Rattle.channel_safety.specs.Journals.{In}
use Rattle.share_laws.proofs.Counts.{or-left, or-right, part-apart, part-once}
use Rattle.share_laws.proofs.Ledgers.{owns}
use Rattle.share_laws.proofs.LedgerMoves.{Owner, owner}
use Rattle.share_laws.specs.Plans.{IsPlan, Lends, IsBare}
use Rattle.fairness_laws.proofs.Finding.{flips}
use Rattle.fairness_laws.proofs.Planned.{own-among}
use Rattle.fairness_laws.specs.PlanBearers.{bears}

-- ---- a part that bears others

pub bears-own : (l : List ℕ) (p : Part) → bears l p ≡ true → own_channel p ≡ l
bears-own l (Root n) e = same_bytes n l e
bears-own l (OnLedger m n) e = absurd (false≢true e)
bears-own l (End v) e = same_bytes v.channel l e
bears-own l (Middle v) e = absurd (false≢true e)

-- its person is in that channel
pub bears-joined : (l : List ℕ) (p : Part) → bears l p ≡ true → is_among l (joined_of p) ≡ true
bears-joined l (Root n) e = subst (λ (z : List ℕ). is_among z (n ∷ []) ≡ true) (same_bytes n l e) (or-left (bytes_eq n n) false (bytes_eq_self n))
bears-joined l (OnLedger m n) e = absurd (false≢true e)
bears-joined l (End v) e =
    subst (λ (z : List ℕ). is_among z (joined_of (End v)) ≡ true) (same_bytes v.channel l e)
    (or-right (bytes_eq v.channel (own_guarantor v)) _ (or-right (bytes_eq v.channel v.joint) _ (or-left (bytes_eq v.channel v.channel) false (bytes_eq_self v.channel))))
bears-joined l (Middle v) e = absurd (false≢true e)

pub bears-among : (l : List ℕ) (p : Part) → bears l p ≡ true → is_among l (channels_of p) ≡ true
bears-among l p e = subst (λ (z : List ℕ). is_among z (channels_of p) ≡ true) (bears-own l p e) (own-among p)

-- such a part of a plan
pub record Bearer (parts : List Part) (l : List ℕ) : Type 0 where
  pub part : Part
  pub there : In part parts
  pub is : bears l part ≡ true

pub bearer-within : (parts more : List Part) (l : List ℕ) → ((p : Part) → In p parts → In p more) → Bearer parts l → Bearer more l
bearer-within parts more l within b = record { part = b.part; there = within b.part b.there; is = b.is }

pub bearer-named : (parts : List Part) (l m : List ℕ) → l ≡ m → Bearer parts l → Bearer parts m
bearer-named parts l m e b = subst (Bearer parts) e b

-- ---- each ledger of a plan has one

owned : (l : List ℕ) (p : Part) → owns l p ≡ true → bears l p ≡ true
unfolding owns
owned l (Root n) e = e
owned l (OnLedger m n) e = e
owned l (End v) e = e
owned l (Middle v) e = e

pub bearer-of : (ps : List Part) → IsPlan ps → (p : Part) → In p ps → (l : List ℕ) → is_among l (ledgers_of p) ≡ true → Bearer ps l
bearer-of ps plan p i l h = by (owner ps plan p i l h)
  where
    by : Owner ps l → Bearer ps l
    by o = record { part = o.part; there = o.there; is = owned l o.part o.owns }

-- ---- on which channels nothing stands

first-among : (x : List ℕ) (xs : List (List ℕ)) → is_among x (x ∷ xs) ≡ true
first-among x xs = or-left (bytes_eq x x) (is_among x xs) (bytes_eq_self x)

second-among : (x y : List ℕ) → is_among y (x ∷ y ∷ []) ≡ true
second-among x y = or-right (bytes_eq y x) (is_among y (y ∷ [])) (first-among y [])

lent-ledger : (p : Part) (l c : List ℕ) → Lends p l c → is_among l (ledgers_of p) ≡ true
lent-ledger (Root n) l c w = absurd w
lent-ledger (OnLedger m n) l c w = subst (λ (z : List ℕ). is_among z (m ∷ []) ≡ true) w.0 (first-among m [])
lent-ledger (End v) l c w = subst (λ (z : List ℕ). is_among z (own_ledger v ∷ []) ≡ true) w.0 (first-among (own_ledger v) [])
lent-ledger (Middle v) l c (inl w) = subst (λ (z : List ℕ). is_among z (v.ledger_a ∷ v.ledger_b ∷ []) ≡ true) w.0 (first-among v.ledger_a (v.ledger_b ∷ []))
lent-ledger (Middle v) l c (inr w) = subst (λ (z : List ℕ). is_among z (v.ledger_a ∷ v.ledger_b ∷ []) ≡ true) w.0 (second-among v.ledger_a v.ledger_b)

-- a channel on which no part stands sets nothing aside
pub none-bare : (ps : List Part) (l : List ℕ) → ((p : Part) → In p ps → is_among l (ledgers_of p) ≡ true → ⊥) → (items : List Item) → IsBare ps l items
none-bare ps l none items p c j w = absurd (none p j (lent-ledger p l c w))

-- none stands on the channel of a virtual channel at its intermediary
pub middle-bare : (ps : List Part) → IsPlan ps → (v : Virtual) → In (Middle v) ps → (items : List Item) → IsBare ps v.channel items
middle-bare ps plan v i = none-bare ps v.channel none
  where
    none : (p : Part) → In p ps → is_among v.channel (ledgers_of p) ≡ true → ⊥
    none p j h = by (bearer-of ps plan p j v.channel h)
      where
        by : Bearer ps v.channel → ⊥
        by b =
            let same : b.part ≡ Middle v = part-once ps plan.apart b.part (Middle v) b.there i v.channel (bears-among v.channel b.part b.is) (own-among (Middle v)) in
            false≢true (subst (λ (q : Part). bears v.channel q ≡ true) same b.is)

-- ---- the channel of an end and its others

third : (x y z : Bool) → (x || (y || (z || false))) ≡ false → z ≡ false
third x y true e = absurd (by x y (sym e))
  where
    by : (x y : Bool) → false ≡ (x || (y || true)) → ⊥
    by true y e = false≢true e
    by false true e = false≢true e
    by false false e = false≢true e
third x y false e = refl

second : (x y : Bool) → (x || (y || false)) ≡ false → y ≡ false
second true y e = absurd (false≢true (sym e))
second false true e = absurd (false≢true (sym e))
second false false e = refl

first : (x : Bool) → (x || false) ≡ false → x ≡ false
first true e = absurd (false≢true (sym e))
first false e = refl

-- it is neither the joint channel nor the end's guarantor
pub end-apart : (ps : List Part) → IsPlan ps → (v : Virtual) → In (End v) ps → (bytes_eq v.channel v.joint ≡ false) × (bytes_eq v.channel (own_guarantor v) ≡ false)
end-apart ps plan v i = (flips v.joint v.channel (first (bytes_eq v.joint v.channel) a.1.1.0), by v.side_b)
  where
    a : AreApart bytes_eq (channels_of (End v))
    a = part-apart ps plan.apart (End v) i

    by : (b : Bool) → bytes_eq v.channel (cond b v.guarantor_b v.guarantor_a) ≡ false
    by true = flips v.guarantor_b v.channel (second (bytes_eq v.guarantor_b v.joint) (bytes_eq v.guarantor_b v.channel) a.1.0)
    by false = flips v.guarantor_a v.channel (third (bytes_eq v.guarantor_a v.guarantor_b) (bytes_eq v.guarantor_a v.joint) (bytes_eq v.guarantor_a v.channel) a.0)
