-- A race brings about that watchers are in time, so what rests on that holds there.
use Rattle.std.proofs.Common.{List}
use Rattle.call_history.specs.declared.entry.Entry.{Entry}
use Rattle.support_rules.specs.Real.{real}
use Rattle.channel_safety.specs.Journals.{Line}
use Rattle.channel_safety.specs.Occurring.{AreValid}
use Rattle.channel_safety.proofs.Headline.{safe}
use Rattle.channel_safety.proofs.Telling.{tells}
use Rattle.network.proofs.Real.{network-safe}
use Rattle.node_guarantees.proofs.RealShares.{hashes, shares_kept}
use Rattle.node_guarantees.proofs.RealExits.{exits_pay, leavers_are_paid}
use Rattle.channel_safety.proofs.Looks.{in_time, stand_for_two}
use Rattle.further_laws.specs.AnyRules.{AnyRacedOutcomesAreNotOlder}
use Rattle.further_laws.specs.Network.{RacedWatchersAreInTime, RacedOutcomesAreNotOlder, RacedSharesAreKept, RacedExitsPay, RacedLeaversArePaid}

pub any-raced_safe : AnyRacedOutcomesAreNotOlder
any-raced_safe r key h journal ends keeps legal honest unforged distinct valid raced lasting =
    safe r key h journal keeps legal honest unforged distinct valid (in_time r h journal ends raced (stand_for_two r h journal lasting distinct))

pub raced-in_time : (h : List Entry) (journal : List Line) → AreValid h journal → RacedWatchersAreInTime h journal
raced-in_time h journal valid ends none raced lasting = in_time real h journal ends raced (stand_for_two real h journal lasting (tells real h journal hashes valid none))

pub raced-safe : (h : List Entry) (journal : List Line) → AreValid h journal → RacedOutcomesAreNotOlder h journal
raced-safe h journal valid key ends legal honest unforged none raced lasting =
    network-safe h journal valid key legal honest unforged none (raced-in_time h journal valid ends none raced lasting)

pub raced-shares : (h : List Entry) (journal : List Line) → AreValid h journal → RacedSharesAreKept h journal
raced-shares h journal valid key orders ends legal honest unforged none raced lasting plans =
    shares_kept h journal valid key orders legal honest unforged none (raced-in_time h journal valid ends none raced lasting) plans

pub raced-exits : (h : List Entry) (journal : List Line) → AreValid h journal → RacedExitsPay h journal
raced-exits h journal valid key orders ends legal honest unforged none raced lasting leaves =
    exits_pay h journal valid key orders legal honest unforged none (raced-in_time h journal valid ends none raced lasting) leaves

pub raced-leavers : (h : List Entry) (journal : List Line) → AreValid h journal → RacedLeaversArePaid h journal
raced-leavers h journal valid key orders ends legal honest unforged none raced lasting leaves ordered =
    leavers_are_paid h journal valid key orders legal honest unforged none (raced-in_time h journal valid ends none raced lasting) leaves ordered
