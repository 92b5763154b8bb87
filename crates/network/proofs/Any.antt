-- The laws over any rules, with the validity of values after history and journal.
use Rattle.std.proofs.Common.{List}
use Rattle.call_history.specs.declared.entry.Entry.{Entry}
use Rattle.channel_safety.specs.Journals.{Line}
use Rattle.channel_safety.specs.Occurring.{AreValid}
use Rattle.channel_safety.proofs.Headline.{safe}
use Rattle.channel_safety.proofs.Since.{has_steps}
use Rattle.channel_safety.proofs.Clearing.{few-cleared}
use Rattle.network.specs.AnyRules.{AnyOutcomesAreNotOlder, AnyChainsHaveTheSteps, FewOfAnyChallengesAreCleared}

pub any-safe : (h : List Entry) (journal : List Line) → AreValid h journal → AnyOutcomesAreNotOlder h journal
any-safe h journal valid r key keeps legal honest unforged distinct in_time = safe r key h journal keeps legal honest unforged distinct valid in_time

pub any-steps : (h : List Entry) (journal : List Line) → AreValid h journal → AnyChainsHaveTheSteps h journal
any-steps h journal valid r key keeps legal honest unforged distinct = has_steps r key h journal keeps legal honest unforged distinct valid

pub any-cleared : (h : List Entry) (journal : List Line) → AreValid h journal → FewOfAnyChallengesAreCleared h journal
any-cleared h journal valid r key keeps legal honest unforged distinct = few-cleared r key h journal keeps legal honest unforged distinct valid
