-- What is kept stays good under any rules.
use Rattle.std.proofs.lemmas.List.Elements.{All-nil}
use Rattle.channel_store.specs.Keeping.{noting, adopting}
use Rattle.channel_store.specs.Good.{IsGoodKept}
use Rattle.channel_store.proofs.Good.{noting_good, adopting_good, added_good, changed_good, held_are_supported}
use Rattle.channel_store.specs.Laws.{KeptAreGood}

pub kept_are_good : KeptAreGood
kept_are_good r =
    record {
      begins = All-nil (IsGoodKept r);
      adds = λ f me kept some good. added_good r f me kept some good;
      notes = λ own channel next kept good. changed_good r (noting r own next) channel kept (noting_good r own next) good;
      adopts = λ channel shown kept good. changed_good r (adopting r shown) channel kept (adopting_good r shown) good;
      held = λ kept good. held_are_supported r kept good;
    }
