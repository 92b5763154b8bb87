-- What any payment does to the books of a person: one relation for transfers and claims by anybody.
use Rattle.std.specs.Prelude.{◌≡◌, ℕ, zero, suc, ◌+◌, ◌-◌, ◌≤◌, min, true, false, List, [], ◌∷◌, ◌++◌, ◌⊎◌, if◌then◌else◌}
use Rattle.std.specs.Str.{bytes_eq}
use Rattle.channel_values.specs.Outcomes.{is_same}
use Rattle.channel_values.specs.declared.value.Dest.{Dest}
use Rattle.channel_values.specs.declared.value.Dest.TheVariants.{Person, Channel}
use Rattle.channel_values.specs.declared.value.Item.{Item}
use Rattle.channel_values.specs.Amounts.{amt, has, aff}
use Rattle.call_history.specs.Rest.{lower_at}
use Rattle.funding_plans.specs.declared.plan.Part.{Part}
use Rattle.funding_plans.specs.declared.plan.Part.TheVariants.{Root, OnLedger, End, Middle}
use Rattle.share_laws.specs.Books.{Books}

-- what d gains where k is paid to `to`
abbrev pub gain : Dest → Dest → ℕ → ℕ
gain to d k = if is_same to d then k else 0

-- what n pays where k is paid from f
abbrev pub lost : List ℕ → List ℕ → ℕ → ℕ
lost f n k = if bytes_eq f n then k else 0

-- by how much d's item of n may be lowered where k is paid for an item of s to `to`
abbrev pub spent : List ℕ → Dest → List ℕ → Dest → ℕ → ℕ
spent s to n d k = if bytes_eq s n then gain to d k else 0

-- k was paid from the channel f to `to`, for an item of s: s is f in a transfer and the target in a claim
pub record Moved (b c : Books) (f s : List ℕ) (to : Dest) (k : ℕ) : Type 0 where
  pub held : (n : List ℕ) → b.held n + gain to (Channel n) k ≤ c.held n + lost f n k
  pub spends : (n : List ℕ) (r q : ℕ) → b.held n ≤ r → r ≤ q + lost f n k →
      (d : Dest) → aff (b.items n) r d ≤ aff (c.items n) q d + spent s to n d k
  pub amounts : (n : List ℕ) (d : Dest) → amt (b.items n) d ≤ amt (c.items n) d + spent s to n d k
  pub falls : (n : List ℕ) (d : Dest) → amt (c.items n) d ≤ amt (b.items n) d
  pub names : (n : List ℕ) (d : Dest) → has (c.items n) d ≡ has (b.items n) d
  pub counts : (n : List ℕ) → c.counts n ≡ b.counts n
  pub lists : (n : List ℕ) → c.list n ≡ b.list n
  pub opens : (n : List ℕ) (d : Dest) → c.owed n d ≡ b.owed n d

-- the channels for whose items a part counts something of its person
abbrev pub payers : Part → List (List ℕ)
payers (Root c) = c ∷ []
payers (OnLedger l c) = c ∷ []
payers (End v) = v.joint ∷ v.channel ∷ []
payers (Middle v) = v.joint ∷ []

abbrev pub all_payers : List Part → List (List ℕ)
all_payers [] = []
all_payers (p ∷ ps) = payers p ++ all_payers ps

-- the amount due of item i at holdings h
abbrev pub due_at : List Item → ℕ → ℕ → ℕ
due_at [] i h = 0
due_at (x ∷ xs) zero h = min x.amount h
due_at (x ∷ xs) (suc i) h = due_at xs i (h - x.amount)

-- k where item i is d's, else 0
abbrev pub gain_at : List Item → ℕ → Dest → ℕ → ℕ
gain_at [] i d k = 0
gain_at (x ∷ xs) zero d k = if is_same x.to d then k else 0
gain_at (x ∷ xs) (suc i) d k = gain_at xs i d k

-- item i is there and is d's
abbrev pub IsAt : List Item → ℕ → Dest → Type 0
IsAt [] i d = ⊥
IsAt (x ∷ xs) zero d = x.to ≡ d
IsAt (x ∷ xs) (suc i) d = IsAt xs i d

-- an accepted transfer of item i of the channel f: k is due, and is paid to `to`
pub record Transfers (b c : Books) (f : List ℕ) (i : ℕ) (to : Dest) (k : ℕ) : Type 0 where
  pub at : IsAt (b.items f) i to
  pub amount : k ≡ due_at (b.items f) i (b.held f)
  pub held : (n : List ℕ) → c.held n + lost f n k ≡ b.held n + gain to (Channel n) k
  pub paid_item : c.items f ≡ lower_at (b.items f) i k
  pub others : (n : List ℕ) → bytes_eq f n ≡ false → c.items n ≡ b.items n
  pub counts : (n : List ℕ) → c.counts n ≡ b.counts n
  pub lists : (n : List ℕ) → c.list n ≡ b.list n
  pub opens : (n : List ℕ) (d : Dest) → c.owed n d ≡ b.owed n d

-- an accepted claim from the guarantor g of item i of its target t: k of it is paid to `to`
pub record Claims (b c : Books) (g t : List ℕ) (i : ℕ) (to : Dest) (k : ℕ) : Type 0 where
  pub at : IsAt (b.items t) i to
  pub no_items : b.items g ≡ []
  pub held : (n : List ℕ) → c.held n + lost g n k ≡ b.held n + gain to (Channel n) k
  pub paid_item : c.items t ≡ lower_at (b.items t) i k
  pub others : (n : List ℕ) → bytes_eq t n ≡ false → c.items n ≡ b.items n
  pub counts : (n : List ℕ) → c.counts n ≡ b.counts n
  pub lists : (n : List ℕ) → c.list n ≡ b.list n
  pub opens : (n : List ℕ) (d : Dest) → c.owed n d ≡ b.owed n d

-- a claim from an end's own guarantor pays its channel, then its person, then others, and each no more than is due
pub record EndPays (b c : Books) (g j x me s : List ℕ) (to : Dest) (k : ℕ) : Type 0 where
  pub target : s ≡ j
  pub exact : (d : Dest) → amt (c.items j) d + gain to d k ≤ amt (b.items j) d
  pub below : (is_same to (Channel x) ≡ true)
      ⊎ ((is_same to (Channel x) ≡ false) × (is_same to (Person me) ≡ true)
      × (k ≤ b.held g - amt (b.items j) (Channel x)))
      ⊎ ((is_same to (Channel x) ≡ false) × (is_same to (Person me) ≡ false)
      × (k ≤ b.held g - (amt (b.items j) (Channel x) + amt (b.items j) (Person me))))
