-- What a replay is asked by, and what it answers.
use Rattle.std.specs.Prelude.{ℕ, List, [], fold, codes}
use Rattle.support_rules.specs.Real.{real}
use Rattle.run_record.specs.declared.run_record.Ending.{Ending}
use Rattle.run_record.specs.declared.run_record.Record.{Record}
use Rattle.record_checker.specs.Answering.{Asked}
use Rattle.watchtower.specs.declared.client.Client.{Client}
use Rattle.watchtower.specs.Replay.{enrolling, replay_text}

-- the people of the endings, each with the chains of its endings
abbrev pub enrolled : List Ending → List Client
enrolled ends = fold (λ clients e. enrolling real clients e.person e.chains) [] ends

-- what a tower of the people of a record answers after each entry
abbrev pub record_text : Record → List ℕ
record_text r = replay_text real (enrolled r.ends) r.history

-- the one word is `tower`, and that text answers a sound record
abbrev pub tower_asked : Asked
tower_asked =
    record {
      word = codes "tower";
      text = record_text;
    }
