-- What a participant's own signatures move in a ledger and in a joint channel: of one asset, under one choice.
use Rattle.std.specs.Prelude.{◌≡◌, ℕ, ◌+◌, ◌≤◌, Bool, true, false, List, ◌⊎◌}
use Rattle.std.specs.Str.{bytes_eq}
use Rattle.channel_values.specs.declared.value.Dest.{Dest}
use Rattle.channel_values.specs.declared.value.Dest.TheVariants.{Person, Channel}
use Rattle.channel_values.specs.declared.value.Item.{Item}
use Rattle.channel_values.specs.Outcomes.{total}
use Rattle.channel_values.specs.Amounts.{amt, has, aff}
use Rattle.call_history.specs.Flows.{is_among}
use Rattle.channel_safety.specs.Journals.{In}
use Rattle.funding_plans.specs.declared.plan.Part.{Part}
use Rattle.funding_plans.specs.declared.plan.Part.TheVariants.{Root, OnLedger, End, Middle}
use Rattle.funding_plans.specs.declared.plan.Virtual.{Virtual}
use Rattle.share_laws.specs.Books.{Books}
use Rattle.funding_plans.specs.Parts.{own_channel, own_ledger, own_guarantor}
use Rattle.share_laws.specs.Worth.{second_amt}
use Rattle.share_laws.specs.Funded.{up_to}
use Rattle.share_laws.specs.Bases.{all_bases}
use Rattle.share_laws.specs.Plans.{IsBare}

-- books in which all is owed
abbrev pub owing : (List ℕ → ℕ) → (List ℕ → Bool) → (List ℕ → List Dest) → (List ℕ → List Item) → Books
owing held counts list items = record { held = held; items = items; counts = counts; list = list; owed = λ channel to. true }

-- The ledger's items ys are xs with `all` set aside for the channel x, of which `mine` was the person's.
pub record SetsAside (me x : List ℕ) (mine all : ℕ) (xs ys : List Item) : Type 0 where
  pub unnamed : has xs (Channel x) ≡ false
  pub named : has ys (Channel x) ≡ true
  pub amount : amt ys (Channel x) ≡ all
  pub own : amt xs (Person me) ≡ amt ys (Person me) + mine
  pub others : (y : List ℕ) → bytes_eq y x ≡ false
      → (has ys (Channel y) ≡ has xs (Channel y)) × (amt ys (Channel y) ≡ amt xs (Channel y))
  pub whole : total ys ≡ total xs

-- ---- the joint channel

-- an end's joint channel pays the end its amount, and the payment channel nothing
pub record IsApart (me x : List ℕ) (mine : ℕ) (items : List Item) : Type 0 where
  pub unnamed : has items (Channel x) ≡ false
  pub own : amt items (Person me) ≡ mine

-- it pays all to the payment channel, and the end nothing
pub record IsTogether (me x : List ℕ) (all : ℕ) (items : List Item) : Type 0 where
  pub named : has items (Channel x) ≡ true
  pub amount : amt items (Channel x) ≡ all
  pub own : amt items (Person me) ≡ 0

-- an intermediary's joint channel pays the ends a and b, the intermediary both together, and the payment channel
-- nothing; the guarantors' lists name the ends
pub record PaysApart (me : List ℕ) (v : Virtual) (a c : ℕ) (list_a list_b : List Dest)
    (items : List Item) : Type 0 where
  pub channel : amt items (Channel v.channel) ≡ 0
  pub first : second_amt items list_a ≡ a
  pub second : second_amt items list_b ≡ c
  pub own : amt items (Person me) ≡ v.total
  pub whole : a + c ≡ v.total

-- it pays all to the payment channel, and as much to the intermediary
pub record PaysTogether (me : List ℕ) (v : Virtual) (list_a list_b : List Dest) (items : List Item) : Type 0 where
  pub channel : amt items (Channel v.channel) ≡ v.total
  pub first : second_amt items list_a ≡ 0
  pub second : second_amt items list_b ≡ 0
  pub own : amt items (Person me) ≡ v.total

-- by the lists of its guarantors
abbrev pub IsApartBetween : Books → (me : List ℕ) → Virtual → (a c : ℕ) → List Item → Type 0
IsApartBetween b me v a c items = PaysApart me v a c (b.list v.guarantor_a) (b.list v.guarantor_b) items

abbrev pub IsTogetherBetween : Books → (me : List ℕ) → Virtual → List Item → Type 0
IsTogetherBetween b me v items = PaysTogether me v (b.list v.guarantor_a) (b.list v.guarantor_b) items

-- the guarantor g counts, and the ledger l names it with its total
pub record IsInFull (b : Books) (l g : List ℕ) (all : ℕ) : Type 0 where
  pub counts : b.counts g ≡ true
  pub named : has (b.items l) (Channel g) ≡ true
  pub amount : amt (b.items l) (Channel g) ≡ all

-- ---- what stands on a ledger

-- what an intermediary has of one of its ledgers: what the other end is paid
pub record BacksSide (b : Books) (me : List ℕ) (v : Virtual) (l x : List ℕ) (mine all : ℕ) : Type 0 where
  pub a : ℕ
  pub c : ℕ
  pub joint : IsApartBetween b me v a c (b.items v.joint)
  pub counts : b.counts x ≡ true
  pub whole : v.total ≡ all
  pub side : ((v.ledger_a ≡ l) × (v.guarantor_a ≡ x) × (mine ≡ c))
      ⊎ ((v.ledger_b ≡ l) × (v.guarantor_b ≡ x) × (mine ≡ a))

-- Of `all` that the ledger l sets aside for the channel x, `mine` is what the part has for the person me.
abbrev pub Backs : Books → (me : List ℕ) → Part → (l x : List ℕ) → (mine all : ℕ) → Type 0
Backs b me (Root c) l x mine all = ⊥
Backs b me (OnLedger m c) l x mine all =
    (m ≡ l) × (c ≡ x) × (amt (b.items c) (Person me) ≡ mine) × (up_to (b.items c) (Person me) ≤ all)
Backs b me (End v) l x mine all =
    (own_ledger v ≡ l) × (own_guarantor v ≡ x) × (b.counts x ≡ true) × (v.total ≡ all) × (mine ≤ all)
    × IsApart me v.channel mine (b.items v.joint)
Backs b me (Middle v) l x mine all = BacksSide b me v l x mine all

-- ---- what stands on a joint channel

-- an end's channel pays it what the joint channel does apart, and its guarantor reaches what the joint channel pays
-- together
pub record JoinsEnd (b : Books) (me : List ℕ) (v : Virtual) (js ks : List Item) : Type 0 where
  pub mine : ℕ
  pub apart : IsApart me v.channel mine js
  pub together : IsTogether me v.channel v.total ks
  pub own : amt (b.items v.channel) (Person me) ≡ mine
  pub within : up_to (b.items v.channel) (Person me) ≤ v.total
  pub full : IsInFull b (own_ledger v) (own_guarantor v) v.total

-- both guarantors of an intermediary reach what the joint channel pays the ends, apart or together
pub record JoinsBetween (b : Books) (me : List ℕ) (v : Virtual) (js ks : List Item) : Type 0 where
  pub a : ℕ
  pub c : ℕ
  pub apart : IsApartBetween b me v a c js
  pub together : IsTogetherBetween b me v ks
  pub full_a : IsInFull b v.ledger_a v.guarantor_a v.total
  pub full_b : IsInFull b v.ledger_b v.guarantor_b v.total

-- The joint channel j of the part pays the ends by js, or by ks all to the payment channel.
abbrev pub Joins : Books → (me : List ℕ) → Part → (j : List ℕ) → (js ks : List Item) → Type 0
Joins b me (Root c) j js ks = ⊥
Joins b me (OnLedger m c) j js ks = ⊥
Joins b me (End v) j js ks = (v.joint ≡ j) × JoinsEnd b me v js ks
Joins b me (Middle v) j js ks = (v.joint ≡ j) × JoinsBetween b me v js ks

-- ---- what may be signed

-- Under one choice: what may come in place of the items of the channel n, and lower nothing that the plan is worth.
pub data IsFair (b : Books) (me : List ℕ) (ps : List Part) (n : List ℕ) (ys : List Item) : Type 0 where
  -- a pass, a veto, a repeated outcome
  stays : ys ≡ b.items n → IsFair b me ps n ys
  -- in a channel on which no part stands, what affords the person no less
  improves : is_among n (all_bases ps) ≡ false → ((r : ℕ) → aff (b.items n) r (Person me) ≤ aff ys r (Person me))
      → IsFair b me ps n ys
  -- the ledger n sets money aside for a part, or takes it back
  sets_aside : (p : Part) (x : List ℕ) (mine all : ℕ) → In p ps → Backs b me p n x mine all
      → SetsAside me x mine all (b.items n) ys → IsFair b me ps n ys
  takes_back : (p : Part) (x : List ℕ) (mine all : ℕ) → In p ps → Backs b me p n x mine all
      → SetsAside me x mine all ys (b.items n) → IsFair b me ps n ys
  -- the joint channel n joins what its guarantors reach, or parts it, while the part's channel sets nothing aside
  joins : (p : Part) → In p ps → IsBare ps (own_channel p) (b.items (own_channel p)) → Joins b me p n (b.items n) ys → IsFair b me ps n ys
  parts : (p : Part) → In p ps → IsBare ps (own_channel p) (b.items (own_channel p)) → Joins b me p n ys (b.items n) → IsFair b me ps n ys
