-- What an exit's calls pay in one asset, and the books from which what some calls paid is taken out.
use Rattle.std.specs.Prelude.{◌≡◌, ℕ, ◌-◌, min, Bool, true, false, ◌&&◌, ◌||◌, List, [], ◌∷◌, if◌then◌else◌, ◌⊎◌}
use Rattle.std.specs.Str.{bytes_eq}
use Rattle.channel_values.specs.Outcomes.{is_same}
use Rattle.channel_values.specs.declared.value.Dest.{Dest}
use Rattle.channel_values.specs.declared.value.Dest.TheVariants.{Person, Channel}
use Rattle.funding_plans.specs.declared.plan.Part.{Part}
use Rattle.funding_plans.specs.declared.plan.Part.TheVariants.{Root, OnLedger, End, Middle}
use Rattle.channel_values.specs.Amounts.{amt, aff}
use Rattle.share_laws.specs.Books.{Books, Counting}
use Rattle.funding_plans.specs.Parts.{own_ledger, own_guarantor}
use Rattle.share_laws.specs.Sound.{IsSound}
use Rattle.share_laws.proofs.PartShares.{Pays}
use Rattle.channel_values.specs.declared.value.Item.{Item}

-- a call of an exit: a transfer of d's item of f, or a claim for d from the guarantor g of the channel j
pub data Edge : Type 0 where
  moving : (f : List ℕ) → (d : Dest) → Edge
  claiming : (g j : List ℕ) → (d : Dest) → Edge

abbrev pub payer : Edge → List ℕ
payer (moving f d) = f
payer (claiming g j d) = g

abbrev pub payee : Edge → Dest
payee (moving f d) = d
payee (claiming g j d) = d

-- what is left for d of the items xs where the holdings h pay the destinations of a guarantee in its order
abbrev pub by_list : List Item → List Dest → ℕ → Dest → ℕ
by_list xs [] h d = 0
by_list xs (e ∷ ds) h d = if is_same e d then min (amt xs e) h else by_list xs ds (h - amt xs e) d

-- what a call would pay
abbrev pub left : Books → Edge → ℕ
left b (moving f d) = aff (b.items f) (b.held f) d
left b (claiming g j d) = by_list (b.items j) (b.list g) (b.held g) d

-- whether one of the calls pays from n to d
abbrev pub is_shut : List Edge → List ℕ → Dest → Bool
is_shut [] n d = false
is_shut (c ∷ cs) n d = (bytes_eq n (payer c) && is_same d (payee c)) || is_shut cs n d

abbrev pub still : Bool → Bool
still t = if t then false else true

-- the books b, in which what the calls paid doesn't count any more
abbrev pub shut : List Edge → Books → Books
shut done b = record {
  held = b.held;
  items = b.items;
  counts = b.counts;
  list = b.list;
  owed = λ n d. still (is_shut done n d);
}

abbrev pub IsTransfer : Edge → Type 0
IsTransfer (moving f d) = Unit {0}
IsTransfer (claiming g j d) = ⊥

-- a claim of an item of the channel j
abbrev pub ClaimsOf : Edge → List ℕ → Type 0
ClaimsOf (moving f d) j = ⊥
ClaimsOf (claiming g t d) j = t ≡ j

-- the call comes at its place, for one part: what it pays from was paid by its own ledger or guarantor before, and an
-- intermediary claims for the channel before it claims for itself
abbrev pub InPlace : List ℕ → List Edge → Edge → Part → Type 0
InPlace me done call (Root x) = bytes_eq x (payer call) ≡ true → IsTransfer call
InPlace me done call (OnLedger l x) =
    bytes_eq x (payer call) ≡ true → IsTransfer call × (is_shut done l (Channel x) ≡ true)
InPlace me done call (End v) =
    (bytes_eq v.channel (payer call) ≡ true →
    IsTransfer call × (is_shut done (own_guarantor v) (Channel v.channel) ≡ true))
    × (bytes_eq (own_guarantor v) (payer call) ≡ true →
    ClaimsOf call v.joint × (is_shut done (own_ledger v) (Channel (own_guarantor v)) ≡ true))
InPlace me done call (Middle v) =
    (bytes_eq v.guarantor_a (payer call) ≡ true →
    ClaimsOf call v.joint × (is_shut done v.ledger_a (Channel v.guarantor_a) ≡ true)
    × (is_same (Channel v.channel) (payee call) ≡ true →
    (is_shut done v.guarantor_a (Person me) ≡ false) × (is_shut done v.guarantor_b (Person me) ≡ false)))
    × (bytes_eq v.guarantor_b (payer call) ≡ true →
    ClaimsOf call v.joint × (is_shut done v.ledger_b (Channel v.guarantor_b) ≡ true))

abbrev pub AllInPlace : List ℕ → List Edge → Edge → List Part → Type 0
AllInPlace me done call [] = Unit {0}
AllInPlace me done call (p ∷ ps) = InPlace me done call p × AllInPlace me done call ps

-- every call that pays the person for the part is is_among the calls, and an intermediary's claim for the channel
abbrev pub Complete : List ℕ → List Edge → Part → Type 0
Complete me done (Root x) = is_shut done x (Person me) ≡ true
Complete me done (OnLedger l x) = is_shut done x (Person me) ≡ true
Complete me done (End v) = (is_shut done (own_guarantor v) (Person me) ≡ true) × (is_shut done v.channel (Person me) ≡ true)
Complete me done (Middle v) =
    (is_shut done v.guarantor_a (Channel v.channel) ≡ true)
    × (is_shut done v.guarantor_a (Person me) ≡ true) × (is_shut done v.guarantor_b (Person me) ≡ true)

abbrev pub AllComplete : List ℕ → List Edge → List Part → Type 0
AllComplete me done [] = Unit {0}
AllComplete me done (p ∷ ps) = Complete me done p × AllComplete me done ps

-- the calls, which come after those of `done`, are an exit from the parts
abbrev pub IsExit : List ℕ → List Part → List Edge → List Edge → Type 0
IsExit me ps done [] = AllComplete me done ps
IsExit me ps done (c ∷ cs) = AllInPlace me done c ps × IsExit me ps (c ∷ done) cs

-- nothing of the channel j pays anything
abbrev pub IsBare : Books → List ℕ → Type 0
IsBare b j = (d : Dest) → amt (b.items j) d ≡ 0

-- a guarantor that counts guarantees its joint channel with the list of its side, or the joint channel has nothing
abbrev pub Listed : Books → List ℕ → Part → Type 0
Listed b me (Root x) = Unit {0}
Listed b me (OnLedger l x) = Unit {0}
Listed b me (End v) =
    b.counts (own_guarantor v) ≡ true →
    ((third : Dest) × (b.list (own_guarantor v) ≡ Channel v.channel ∷ Person me ∷ third ∷ [])) ⊎ IsBare b v.joint
Listed b me (Middle v) =
    (b.counts v.guarantor_a ≡ true →
    ((second : Dest) × (b.list v.guarantor_a ≡ Channel v.channel ∷ second ∷ Person me ∷ [])) ⊎ IsBare b v.joint)
    × (b.counts v.guarantor_b ≡ true →
    ((second : Dest) × (b.list v.guarantor_b ≡ Channel v.channel ∷ second ∷ Person me ∷ [])) ⊎ IsBare b v.joint)

abbrev pub AllListed : Books → List ℕ → List Part → Type 0
AllListed b me [] = Unit {0}
AllListed b me (p ∷ ps) = Listed b me p × AllListed b me ps

-- A stretch of a history in which the calls stand in their order. It goes from the books b, where the person was paid
-- `paid`, to the books e, where it was paid `last`. An entry by anybody is a payment or none. Right after a call of
-- the exit, whether it was accepted or refused, it would pay nothing more.
pub data Run (me : List ℕ) (ps : List Part) : List Edge → Books → ℕ → Books → ℕ → Type 0 where
  ends : {b : Books} {paid : ℕ} → Run me ps [] b paid b paid
  moves : {calls : List Edge} {b c e : Books} {paid now last : ℕ} (counting : List Counting) → IsSound me ps counting → Pays b c counting me paid now →
      Run me ps calls c now e last → Run me ps calls b paid e last
  stands : {calls : List Edge} {b e : Books} {paid last : ℕ} (call : Edge) → left b call ≡ 0 →
      Run me ps calls b paid e last → Run me ps (call ∷ calls) b paid e last
