-- A virtual channel of A and B through I, after payments: what each of the three is worth, funded, and sound.
use Rattle.std.specs.Prelude.{◌≡◌, ℕ, Bool, true, false, List, [], ◌∷◌, None, if◌then◌else◌}
use Rattle.std.specs.Str.{bytes_eq}
use Rattle.channel_values.specs.declared.value.AssetOutcome.{AssetOutcome}
use Rattle.channel_values.specs.declared.value.Dest.{Dest}
use Rattle.channel_values.specs.declared.value.Dest.TheVariants.{Person, Channel}
use Rattle.channel_values.specs.declared.value.Item.{Item}
use Rattle.channel_values.specs.declared.value.Shape.TheVariants.{Allocation, Guarantee}
use Rattle.funding_plans.specs.declared.plan.Part.{Part}
use Rattle.funding_plans.specs.declared.plan.Part.TheVariants.{Root, End, Middle}
use Rattle.funding_plans.specs.declared.plan.Virtual.{Virtual}
use Rattle.share_laws.specs.Books.{Counting}
use Rattle.share_laws.specs.Share.{share_of}
use Rattle.share_laws.specs.Funded.{is_funded}
use Rattle.share_laws.specs.Sound.{IsSound}

-- the persons, the ledgers of A and of B with I, the guarantors, the joint channel and the payment channel
abbrev pub a : List ℕ
a = 1 ∷ []

abbrev pub i : List ℕ
i = 2 ∷ []

abbrev pub b : List ℕ
b = 3 ∷ []

abbrev pub ledger_a : List ℕ
ledger_a = 11 ∷ []

abbrev pub ledger_b : List ℕ
ledger_b = 12 ∷ []

abbrev pub guarantor_a : List ℕ
guarantor_a = 13 ∷ []

abbrev pub guarantor_b : List ℕ
guarantor_b = 14 ∷ []

abbrev pub joint : List ℕ
joint = 15 ∷ []

abbrev pub channel : List ℕ
channel = 16 ∷ []

abbrev pub virtual : (side_b : Bool) → Virtual
virtual side_b = record {
  ledger_a = ledger_a;
  ledger_b = ledger_b;
  guarantor_a = guarantor_a;
  guarantor_b = guarantor_b;
  joint = joint;
  channel = channel;
  asset = 0;
  total = 1000;
  side_b = side_b;
}

-- each ledger holds 2,000
abbrev pub held : List ℕ → ℕ
held n = if bytes_eq n ledger_a then 2000 else if bytes_eq n ledger_b then 2000 else 0

abbrev pub item : Dest → ℕ → Item
item to amount = record { to = to; amount = amount }

abbrev pub pays : List Item → List AssetOutcome
pays items = record { asset = 0; shape = Allocation items } ∷ []

abbrev pub guarantees : List Dest → List AssetOutcome
guarantees list = record { asset = 0; shape = Guarantee joint list } ∷ []

abbrev pub ends : List ℕ → List AssetOutcome → Counting
ends n outcome = record { channel = n; outcome = outcome; proposal = None }

-- A brought 600 and B 400 into the channel, and A paid 140
abbrev pub of_ledger_a : Counting
of_ledger_a = ends ledger_a (pays (item (Person a) 400 ∷ item (Person i) 600 ∷ item (Channel guarantor_a) 1000 ∷ []))

abbrev pub of_ledger_b : Counting
of_ledger_b = ends ledger_b (pays (item (Person i) 400 ∷ item (Person b) 600 ∷ item (Channel guarantor_b) 1000 ∷ []))

abbrev pub of_guarantor_a : Counting
of_guarantor_a = ends guarantor_a (guarantees (Channel channel ∷ Person a ∷ Person i ∷ []))

abbrev pub of_guarantor_b : Counting
of_guarantor_b = ends guarantor_b (guarantees (Channel channel ∷ Person b ∷ Person i ∷ []))

abbrev pub of_joint : Counting
of_joint = ends joint (pays (item (Channel channel) 1000 ∷ item (Person i) 1000 ∷ []))

abbrev pub of_channel : Counting
of_channel = ends channel (pays (item (Person a) 460 ∷ item (Person b) 540 ∷ []))

-- the share of a person whose channels these are that count, in a plan that is sound and funded
pub record Holds (me : List ℕ) (parts : List Part) (counting : List Counting) (share : ℕ) : Type 0 where
  pub share_is : share_of me 0 parts held counting 0 ≡ share
  pub funded : is_funded me parts held counting 0 ≡ true
  pub sound : IsSound me parts counting

-- all that the ledgers hold is the three's, each its own: A's 860, I's 2,000 and B's 1,140
pub record ExampleHolds : Type 0 where
  pub of_a :
      Holds a (Root ledger_a ∷ End (virtual false) ∷ []) (of_ledger_a ∷ of_guarantor_a ∷ of_joint ∷ of_channel ∷ []) 860
  pub of_i :
      Holds i (Root ledger_a ∷ Root ledger_b ∷ Middle (virtual false) ∷ [])
      (of_ledger_a ∷ of_ledger_b ∷ of_guarantor_a ∷ of_guarantor_b ∷ of_joint ∷ []) 2000
  pub of_b :
      Holds b (Root ledger_b ∷ End (virtual true) ∷ []) (of_ledger_b ∷ of_guarantor_b ∷ of_joint ∷ of_channel ∷ []) 1140
