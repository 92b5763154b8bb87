-- A payment channel of A and B over two intermediaries, after seven payments. What each of the four is worth, funded
-- and sound, and the exits of A and of the second intermediary.
use Rattle.std.specs.Prelude.{◌≡◌, ℕ, Bool, true, false, List, [], ◌∷◌, None, if◌then◌else◌}
use Rattle.std.specs.Str.{bytes_eq}
use Rattle.channel_values.specs.declared.value.Dest.{Dest}
use Rattle.channel_values.specs.declared.value.Dest.TheVariants.{Person, Channel}
use Rattle.channel_values.specs.declared.value.Item.{Item}
use Rattle.channel_values.specs.declared.value.Shape.TheVariants.{Allocation, Guarantee}
use Rattle.call_history.specs.declared.call.Call.{Call}
use Rattle.call_history.specs.Calls.{make_transfer, make_claim}
use Rattle.funding_plans.specs.declared.plan.Part.{Part}
use Rattle.funding_plans.specs.declared.plan.Part.TheVariants.{Root, End, Middle}
use Rattle.funding_plans.specs.declared.plan.Virtual.{Virtual}
use Rattle.share_laws.specs.Books.{Counting}
use Rattle.share_laws.specs.Share.{share_of}
use Rattle.share_laws.specs.Funded.{is_funded}
use Rattle.share_laws.specs.Sound.{IsSound}
use Rattle.channel_exits.specs.Calls.{exit_calls}
use Rattle.channel_exits.specs.Example.{ended_in}

-- ---- the people

abbrev pub a : List ℕ
a = 1 ∷ []

abbrev pub first : List ℕ
first = 2 ∷ []

abbrev pub second : List ℕ
second = 3 ∷ []

abbrev pub b : List ℕ
b = 4 ∷ []

-- ---- the channels

-- A's ledger with the first, the first's with the second, and the second's with B
abbrev pub ledger_a : List ℕ
ledger_a = 11 ∷ []

abbrev pub ledger_between : List ℕ
ledger_between = 12 ∷ []

abbrev pub ledger_b : List ℕ
ledger_b = 13 ∷ []

-- the virtual ledger of A and the second
abbrev pub near_guarantor_a : List ℕ
near_guarantor_a = 14 ∷ []

abbrev pub near_guarantor_b : List ℕ
near_guarantor_b = 15 ∷ []

abbrev pub near_joint : List ℕ
near_joint = 16 ∷ []

abbrev pub near_channel : List ℕ
near_channel = 17 ∷ []

abbrev pub near : (side_b : Bool) → Virtual
near side_b = record {
  ledger_a = ledger_a;
  ledger_b = ledger_between;
  guarantor_a = near_guarantor_a;
  guarantor_b = near_guarantor_b;
  joint = near_joint;
  channel = near_channel;
  asset = 0;
  total = 80;
  side_b = side_b;
}

-- the payment channel of A and B, on it and on the second's ledger with B
abbrev pub far_guarantor_a : List ℕ
far_guarantor_a = 18 ∷ []

abbrev pub far_guarantor_b : List ℕ
far_guarantor_b = 19 ∷ []

abbrev pub far_joint : List ℕ
far_joint = 20 ∷ []

abbrev pub far_channel : List ℕ
far_channel = 21 ∷ []

abbrev pub far : (side_b : Bool) → Virtual
far side_b = record {
  ledger_a = near_channel;
  ledger_b = ledger_b;
  guarantor_a = far_guarantor_a;
  guarantor_b = far_guarantor_b;
  joint = far_joint;
  channel = far_channel;
  asset = 0;
  total = 50;
  side_b = side_b;
}

-- ---- what they hold and end with

abbrev pub held : List ℕ → ℕ
held n =
    if bytes_eq n ledger_a then 200
    else (if bytes_eq n ledger_between then 200 else (if bytes_eq n ledger_b then 200 else 0))

abbrev pub item : Dest → ℕ → Item
item to amount = record { to = to; amount = amount }

abbrev pub pays : List ℕ → List Item → Counting
pays n items = record { channel = n; outcome = record { asset = 0; shape = Allocation items } ∷ []; proposal = None }

abbrev pub guarantees : List ℕ → List ℕ → List Dest → Counting
guarantees n joint list = record { channel = n; outcome = record { asset = 0; shape = Guarantee joint list } ∷ []; proposal = None }

-- A brought 60 and the second 20 into the virtual ledger. Of that A brought 40 into the payment channel, and the
-- second 10 into what it guarantees. B brought 10, and A paid 7.
abbrev pub of_ledger_a : Counting
of_ledger_a = pays ledger_a (item (Person a) 40 ∷ item (Person first) 80 ∷ item (Channel near_guarantor_a) 80 ∷ [])

abbrev pub of_ledger_between : Counting
of_ledger_between = pays ledger_between (item (Person first) 40 ∷ item (Person second) 80 ∷ item (Channel near_guarantor_b) 80 ∷ [])

abbrev pub of_ledger_b : Counting
of_ledger_b = pays ledger_b (item (Person second) 60 ∷ item (Person b) 90 ∷ item (Channel far_guarantor_b) 50 ∷ [])

abbrev pub of_near_guarantor_a : Counting
of_near_guarantor_a = guarantees near_guarantor_a near_joint (Channel near_channel ∷ Person a ∷ Person first ∷ [])

abbrev pub of_near_guarantor_b : Counting
of_near_guarantor_b = guarantees near_guarantor_b near_joint (Channel near_channel ∷ Person second ∷ Person first ∷ [])

abbrev pub of_near_joint : Counting
of_near_joint = pays near_joint (item (Channel near_channel) 80 ∷ item (Person first) 80 ∷ [])

abbrev pub of_near_channel : Counting
of_near_channel = pays near_channel (item (Person a) 20 ∷ item (Person second) 10 ∷ item (Channel far_guarantor_a) 50 ∷ [])

abbrev pub of_far_guarantor_a : Counting
of_far_guarantor_a = guarantees far_guarantor_a far_joint (Channel far_channel ∷ Person a ∷ Person second ∷ [])

abbrev pub of_far_guarantor_b : Counting
of_far_guarantor_b = guarantees far_guarantor_b far_joint (Channel far_channel ∷ Person b ∷ Person second ∷ [])

abbrev pub of_far_joint : Counting
of_far_joint = pays far_joint (item (Channel far_channel) 50 ∷ item (Person second) 50 ∷ [])

abbrev pub of_far_channel : Counting
of_far_channel = pays far_channel (item (Person a) 33 ∷ item (Person b) 17 ∷ [])

-- ---- the plans, and the channels of which each one knows

abbrev pub parts_of_a : List Part
parts_of_a = Root ledger_a ∷ End (near false) ∷ End (far false) ∷ []

abbrev pub known_to_a : List Counting
known_to_a =
    of_ledger_a ∷ of_near_guarantor_a ∷ of_near_joint ∷ of_near_channel
    ∷ of_far_guarantor_a ∷ of_far_joint ∷ of_far_channel ∷ []

abbrev pub parts_of_first : List Part
parts_of_first = Root ledger_a ∷ Root ledger_between ∷ Middle (near false) ∷ []

abbrev pub known_to_first : List Counting
known_to_first = of_ledger_a ∷ of_ledger_between ∷ of_near_guarantor_a ∷ of_near_guarantor_b ∷ of_near_joint ∷ []

abbrev pub parts_of_second : List Part
parts_of_second = Root ledger_between ∷ Root ledger_b ∷ End (near true) ∷ Middle (far false) ∷ []

abbrev pub known_to_second : List Counting
known_to_second =
    of_ledger_between ∷ of_ledger_b ∷ of_near_guarantor_b ∷ of_near_joint ∷ of_near_channel
    ∷ of_far_guarantor_a ∷ of_far_guarantor_b ∷ of_far_joint ∷ []

abbrev pub parts_of_b : List Part
parts_of_b = Root ledger_b ∷ End (far true) ∷ []

abbrev pub known_to_b : List Counting
known_to_b = of_ledger_b ∷ of_far_guarantor_b ∷ of_far_joint ∷ of_far_channel ∷ []

-- ---- the exits

-- A's: its ledger pays the first guarantor, then A; that the virtual ledger; that the second guarantor, then A; that
-- the payment channel; that A
abbrev pub calls_of_a : List Call
calls_of_a =
    make_transfer ledger_a of_ledger_a.outcome 0 2 ∷ make_transfer ledger_a of_ledger_a.outcome 0 0
    ∷ make_claim near_guarantor_a of_near_guarantor_a.outcome near_joint of_near_joint.outcome 0 0
    ∷ make_transfer near_channel of_near_channel.outcome 0 2 ∷ make_transfer near_channel of_near_channel.outcome 0 0
    ∷ make_claim far_guarantor_a of_far_guarantor_a.outcome far_joint of_far_joint.outcome 0 0
    ∷ make_transfer far_channel of_far_channel.outcome 0 0 ∷ []

-- the second's: as an end of the virtual ledger, then as the intermediary of the payment channel
abbrev pub calls_of_second : List Call
calls_of_second =
    make_transfer ledger_between of_ledger_between.outcome 0 2
    ∷ make_transfer ledger_between of_ledger_between.outcome 0 1
    ∷ make_transfer ledger_b of_ledger_b.outcome 0 2 ∷ make_transfer ledger_b of_ledger_b.outcome 0 0
    ∷ make_claim near_guarantor_b of_near_guarantor_b.outcome near_joint of_near_joint.outcome 0 0
    ∷ make_transfer near_channel of_near_channel.outcome 0 2 ∷ make_transfer near_channel of_near_channel.outcome 0 1
    ∷ make_claim far_guarantor_a of_far_guarantor_a.outcome far_joint of_far_joint.outcome 0 0
    ∷ make_claim far_guarantor_b of_far_guarantor_b.outcome far_joint of_far_joint.outcome 0 0
    ∷ make_claim far_guarantor_a of_far_guarantor_a.outcome far_joint of_far_joint.outcome 0 2
    ∷ make_claim far_guarantor_b of_far_guarantor_b.outcome far_joint of_far_joint.outcome 0 2 ∷ []

-- ---- what holds

pub record Holds (me : List ℕ) (parts : List Part) (counting : List Counting) (share : ℕ) : Type 0 where
  pub share_is : share_of me 0 parts held counting 0 ≡ share
  pub funded : is_funded me parts held counting 0 ≡ true
  pub sound : IsSound me parts counting

-- all that the three ledgers hold is the four's, each its own
pub record ExampleHolds : Type 0 where
  pub of_a : Holds a parts_of_a known_to_a 93
  pub of_first : Holds first parts_of_first known_to_first 200
  pub of_second : Holds second parts_of_second known_to_second 200
  pub of_b : Holds b parts_of_b known_to_b 107
  pub exit_of_a : exit_calls (ended_in known_to_a) a parts_of_a ≡ calls_of_a
  pub exit_of_second : exit_calls (ended_in known_to_second) second parts_of_second ≡ calls_of_second
