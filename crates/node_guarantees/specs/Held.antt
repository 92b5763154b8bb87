-- What is held under the network's own rules.
use Rattle.std.specs.Prelude.{ℕ, List}
use Rattle.channel_values.specs.Collisions.{NoneCollide}
use Rattle.channel_values.specs.Digests.{name_of_person}
use Rattle.call_history.specs.History.{Legal}
use Rattle.call_history.specs.declared.entry.Entry.{Entry}
use Rattle.channel_safety.specs.Hashed.{hashed}
use Rattle.channel_safety.specs.Honest.{Honest}
use Rattle.channel_safety.specs.Journals.{Line}
use Rattle.channel_safety.specs.Premises.{Unforged}
use Rattle.channel_safety.specs.Occurring.{AreValid}
use Rattle.share_laws.specs.Places.{IsPlace}
use Rattle.share_laws.specs.HeldLaws.{HeldEndsPossibly}
use Rattle.support_rules.specs.Real.{real}

-- Where nothing is forged and no hashed strings collide, what an honest participant holds at a place ends in an outcome
-- with which the channel could end.
abbrev pub HeldStatesCanEnd : Type 0
HeldStatesCanEnd =
    (key : List ℕ) (h : List Entry) (journal : List Line) → Legal real h
    → Honest real key h journal → Unforged real key h journal → NoneCollide (hashed h journal) → AreValid h journal
    → (past : List Entry) (front : List Line) → IsPlace h journal past front
    → HeldEndsPossibly real key (name_of_person key) past front
