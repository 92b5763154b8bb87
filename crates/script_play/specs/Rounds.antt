-- A round: nodes act in the order of their people, and then their watchers look, over nodes whose rules are given.
use Rattle.std.specs.Prelude.{ℕ, suc, zero, ◌+◌, ◌*◌, List, [], ◌++◌, fold, if◌then◌else◌}
use Rattle.std.specs.Str.{bytes_eq}
use Rattle.call_history.specs.declared.call.Call.{Call}
use Rattle.network.specs.Ways.{Ways}
use Rattle.network.specs.Worlds.{WorldOf, happened, given}
use Rattle.network.specs.declared.happening.Happening.{Happening}
use Rattle.network.specs.declared.happening.Happening.TheVariants as happenings
use Rattle.step_meanings.specs.People.{who_of, has_node}
use Rattle.step_meanings.specs.declared.people.Person.{Person}

-- a message, with the person that it is for
abbrev pub Letter : Type 0
Letter = List ℕ × List ℕ

-- a world, and the messages that are on their way in it
pub record Mailed (P : Type 0) : Type 0 where
  pub world : WorldOf P
  pub post : List Letter

-- a round makes at most so many entries: each of sixteen nodes gives at most 32768 calls, and each of its four
-- watchers 64
abbrev pub most_in_round : ℕ
most_in_round = 16 * (32768 + 4 * 64)

module _ {P : Type 0} (ways : Ways P) where
  -- a message is handed to the node of this number, if it is for this person
  abbrev pub handed : ℕ → List ℕ → WorldOf P → Letter → WorldOf P
  handed number who w letter = if bytes_eq letter.0 who then happened ways (happenings.Deliver number letter.1) w else w

  -- before it acts a node sees, and handles the messages that came for it
  abbrev pub ready : List Letter → Person → WorldOf P → WorldOf P
  ready post p w = fold (handed p.number (who_of p)) (happened ways (happenings.See p.number) w) post

  -- a node's calls are entered
  abbrev pub entered_by : ℕ → WorldOf P → Call → WorldOf P
  entered_by number w call = happened ways (happenings.Enter number call) w

  -- something happens to the node of this number, and the calls that it gives are entered
  abbrev pub with_calls : ℕ → Happening → WorldOf P → WorldOf P
  with_calls number event w = fold (entered_by number) (happened ways event w) (given ways event w).calls

  -- what a person's node does in the first half of a round, for which these messages came
  abbrev pub node_acted : List Letter → Mailed P → Person → Mailed P
  node_acted post s p =
      record {
        world = with_calls p.number (happenings.Tick p.number) (ready post p s.world);
        post = s.post ++ (given ways (happenings.Tick p.number) (ready post p s.world)).sends;
      }

  -- people without nodes do nothing
  abbrev pub acted : List Letter → Mailed P → Person → Mailed P
  acted post s p = if has_node p then node_acted post s p else s

  -- the watchers at so many places of a node look, one after another
  abbrev pub looked : ℕ → ℕ → WorldOf P → WorldOf P
  looked number zero w = w
  looked number (suc place) w = with_calls number (happenings.Watch number place) (looked number place w)

  -- a node has at most four watchers
  abbrev pub watched : WorldOf P → Person → WorldOf P
  watched w p = if has_node p then looked p.number 4 w else w

  -- The nodes act in the order of their declaration, with what was on its way to them; what they send is on its way
  -- then.
  abbrev pub first_half : List Person → Mailed P → Mailed P
  first_half people s = fold (acted s.post) (record { world = s.world; post = [] }) people

  -- Then their watchers look.
  abbrev pub second_half : List Person → Mailed P → Mailed P
  second_half people s = record s { world = fold watched s.world people }

  abbrev pub round : List Person → Mailed P → Mailed P
  round people s = second_half people (first_half people s)

  -- the node of a person follows what it hasn't followed of the history, if there is one
  abbrev pub seen_by : WorldOf P → Person → WorldOf P
  seen_by w p = happened ways (happenings.See p.number) w
