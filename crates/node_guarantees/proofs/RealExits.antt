-- The network's rules keep final states and know their outcomes, so fair exits pay under them.
use Rattle.std.proofs.Common.{List}
use Rattle.call_history.specs.declared.entry.Entry.{Entry}
use Rattle.channel_safety.specs.Journals.{Line}
use Rattle.channel_safety.specs.Occurring.{AreValid}
use Rattle.channel_values.specs.Digests.{name_of_person}
use Rattle.support_rules.specs.Real.{real}
use Rattle.support_rules.proofs.Finals.{real_keeps_final}
use Rattle.channel_safety.proofs.Telling.{tells}
use Rattle.node_guarantees.proofs.RealShares.{hashes, steps_possible}
use Rattle.channel_exits.proofs.Fair.{fair_exits, leavers_paid}
use Rattle.node_guarantees.specs.NetworkExits.{NetworkExitsPay, NetworkLeaversArePaid}

pub exits_pay : (h : List Entry) (journal : List Line) → AreValid h journal → NetworkExitsPay h journal
exits_pay h journal valid key orders legal honest unforged none in_time leaves past later front place is final stood =
    fair_exits real key (name_of_person key) orders h journal real_keeps_final (steps_possible key) legal honest unforged
    (tells real h journal hashes valid none) valid in_time leaves past later front place is final stood

pub leavers_are_paid : (h : List Entry) (journal : List Line) → AreValid h journal → NetworkLeaversArePaid h journal
leavers_are_paid h journal valid key orders legal honest unforged none in_time leaves ordered past mid later front newer start at quiet is final stood =
    leavers_paid real key (name_of_person key) orders h journal real_keeps_final (steps_possible key) legal honest unforged
    (tells real h journal hashes valid none) valid in_time leaves ordered past mid later front newer start at quiet is final stood
