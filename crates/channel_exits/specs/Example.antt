-- The exits of an end and of the intermediary of a virtual channel after payments; and why items of a joint channel
-- must be guaranteed.
use Rattle.std.specs.Prelude.{◌≡◌, false, List, [], ◌∷◌, Some, None, if◌then◌else◌}
use Rattle.std.specs.Str.{bytes_eq}
use Rattle.channel_values.specs.declared.value.AssetOutcome.{AssetOutcome}
use Rattle.channel_values.specs.declared.value.Dest.{Dest}
use Rattle.channel_values.specs.declared.value.Dest.TheVariants.{Person, Channel}
use Rattle.channel_values.specs.declared.value.Shape.TheVariants.{Allocation}
use Rattle.call_history.specs.declared.call.Call.{Call}
use Rattle.call_history.specs.Calls.{make_transfer, make_claim}
use Rattle.funding_plans.specs.declared.plan.Part.{Part}
use Rattle.funding_plans.specs.declared.plan.Part.TheVariants.{Root, End, Middle}
use Rattle.share_laws.specs.Books.{Counting}
use Rattle.share_laws.specs.Share.{share_of}
use Rattle.share_laws.specs.Example.{a, i, ledger_a, ledger_b, guarantor_a, guarantor_b, joint, channel, virtual, held, item, guarantees, ends, of_ledger_a, of_ledger_b, of_guarantor_a, of_guarantor_b, of_joint, of_channel}
use Rattle.share_laws.specs.Sound.{IsSound}
use Rattle.channel_exits.specs.Calls.{Ended, exit_calls}

-- what these channels end with
abbrev pub ended_in : List Counting → Ended
ended_in [] name = None
ended_in (x ∷ xs) name = if bytes_eq x.channel name then Some x.outcome else ended_in xs name

abbrev pub of_all : List Counting
of_all = of_ledger_a ∷ of_ledger_b ∷ of_guarantor_a ∷ of_guarantor_b ∷ of_joint ∷ of_channel ∷ []

-- A's: the ledger pays the guarantor, then A; the guarantor pays the channel; that pays A. The joint channel has no
-- item of A.
abbrev pub calls_of_a : List Call
calls_of_a =
    make_transfer ledger_a of_ledger_a.outcome 0 2 ∷ make_transfer ledger_a of_ledger_a.outcome 0 0
    ∷ make_claim guarantor_a of_guarantor_a.outcome joint of_joint.outcome 0 0
    ∷ make_transfer channel of_channel.outcome 0 0 ∷ []

-- I's: both ledgers pay their guarantors, then I; both guarantors pay the channel, then I.
abbrev pub calls_of_i : List Call
calls_of_i =
    make_transfer ledger_a of_ledger_a.outcome 0 2 ∷ make_transfer ledger_a of_ledger_a.outcome 0 1
    ∷ make_transfer ledger_b of_ledger_b.outcome 0 2 ∷ make_transfer ledger_b of_ledger_b.outcome 0 0
    ∷ make_claim guarantor_a of_guarantor_a.outcome joint of_joint.outcome 0 0
    ∷ make_claim guarantor_b of_guarantor_b.outcome joint of_joint.outcome 0 0
    ∷ make_claim guarantor_a of_guarantor_a.outcome joint of_joint.outcome 0 2
    ∷ make_claim guarantor_b of_guarantor_b.outcome joint of_joint.outcome 0 2 ∷ []

-- ---- an item that nobody guarantees

-- the ledger has 10 of the asset 1 for a guarantor that guarantees nothing of it, and the joint channel 10 of it for A
abbrev pub in_asset_1 : List AssetOutcome → Dest → List AssetOutcome
in_asset_1 outcome to = record { asset = 1; shape = Allocation (item to 10 ∷ []) } ∷ outcome

abbrev pub unbacked : List Counting
unbacked =
    ends ledger_a (in_asset_1 [] (Channel guarantor_a))
    ∷ ends guarantor_a (guarantees (Channel channel ∷ Person a ∷ Person i ∷ []))
    ∷ ends joint (in_asset_1 [] (Person a)) ∷ []

abbrev pub part : List Part
part = Root ledger_a ∷ End (virtual false) ∷ []

-- A's share is 10, in a sound plan; its exit has the ledger's transfer to the guarantor alone, and so pays A nothing
pub record ExampleHolds : Type 0 where
  pub end : exit_calls (ended_in of_all) a (Root ledger_a ∷ End (virtual false) ∷ []) ≡ calls_of_a
  pub middle : exit_calls (ended_in of_all) i (Root ledger_a ∷ Root ledger_b ∷ Middle (virtual false) ∷ []) ≡ calls_of_i
  pub unbacked_share : share_of a 0 part held unbacked 1 ≡ 10
  pub unbacked_sound : IsSound a part unbacked
  pub unbacked_exit :
      exit_calls (ended_in unbacked) a part ≡ make_transfer ledger_a (in_asset_1 [] (Channel guarantor_a)) 1 0 ∷ []
