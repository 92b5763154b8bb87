-- Two honest nodes finish: what is asked of them, what they are told, and what they are paid.
use Rattle.std.specs.Prelude.{◌≡◌, ℕ, suc, ◌+◌, ◌-◌, ◌<◌, ◌≤◌, ◌^◌, Bool, true, false, cond, not, nat_lt, List, [], ◌∷◌, length, reverse, None}
use Rattle.std.specs.Str.{bytes_eq}
use Rattle.channel_values.specs.Chains.{IsSignature}
use Rattle.channel_values.specs.Outcomes.{IsName}
use Rattle.channel_values.specs.Parts.{StateParts}
use Rattle.call_history.specs.History.{paid_to, held_of, flows_of}
use Rattle.asset_holder.specs.Receipts.{assets_of}
use Rattle.node_guarantees.specs.Gains.{share_known}
use Rattle.call_history.specs.declared.entry.Entry.{Entry}
use Rattle.channel_values.specs.Digests.{name_of_person}
use Rattle.channel_values.specs.Messages.{message_of_state}
use Rattle.network.specs.declared.command.Command.TheVariants.{Open, Pay, Close}
use Rattle.channel_node.specs.Minds.{Mind, fresh}
use Rattle.channel_node.specs.Places.{AreFew}
use Rattle.channel_node.specs.Playing.{SignerOf, signing_of}
use Rattle.node_guarantees.specs.Ways.{Numbered}
use Rattle.script_play.specs.Play.{SceneOf, play_round, play_rounds, told}
use Rattle.script_play.specs.Rounds.{Letter}
use Rattle.step_meanings.specs.declared.names.Names.{Names}
use Rattle.step_meanings.specs.declared.people.Person.{Person}
use Rattle.support_rules.specs.Real.{real}
use Rattle.script_run.specs.Pair.{split}
use Rattle.script_run.specs.TwoPeople.{Pair, fixed, name}
use Rattle.script_run.specs.Rounds.{Pairing, Is, AreBare, ways}
use Rattle.script_run.specs.Whole.{IsWhole}

-- the signature of a state with an index, and the bytes of the state with it
abbrev pub signature : Pair → SignerOf → ℕ → StateParts → List ℕ
signature p signer used s = (signing_of signer).made used (message_of_state (real.digest (name real p) s))

-- names are digests, amounts fit, the two differ, and signatures are short and verify
pub record AreMade (p : Pair) (sa sb : SignerOf) : Type 0 where
  pub channel : IsName (name real p)
  pub person_a : IsName (name_of_person p.key_a)
  pub person_b : IsName (name_of_person p.key_b)
  pub apart : bytes_eq (name_of_person p.key_a) (name_of_person p.key_b) ≡ false
  pub keys : bytes_eq p.key_b p.key_a ≡ false
  pub asset : p.asset < 2 ^ 32
  pub some_a : 0 < p.a
  pub some_b : 0 < p.b
  pub sum : p.a + p.b < 2 ^ 64
  pub well_a : (used : ℕ) (s : StateParts) → nat_lt used (signing_of sa).limit ≡ true → real.verifies p.key_a (message_of_state (real.digest (name real p) s)) (signature p sa used s) ≡ true
  pub well_b : (used : ℕ) (s : StateParts) → nat_lt used (signing_of sb).limit ≡ true → real.verifies p.key_b (message_of_state (real.digest (name real p) s)) (signature p sb used s) ≡ true
  pub short_a : (used : ℕ) (message : List ℕ) → IsSignature ((signing_of sa).made used message)
  pub short_b : (used : ℕ) (message : List ℕ) → IsSignature ((signing_of sb).made used message)

-- The two are declared first and have nodes; the others have none.
pub record AreTwo (p : Pair) (people : List Person) : Type 0 where
  pub first : Person
  pub second : Person
  pub others : List Person
  pub are : people ≡ first ∷ second ∷ others
  pub one : first.number ≡ 1
  pub two : second.number ≡ 2
  pub node_a : first.hand ≡ None
  pub node_b : second.hand ≡ None
  pub key_a : first.key ≡ p.key_a
  pub key_b : second.key ≡ p.key_b
  pub bare : AreBare others

-- what a script has come to
pub record At (names : Names) (h : List Entry) (q : Pairing) (post : List Letter) (s : SceneOf Numbered) : Type 0 where
  pub named : s.names ≡ names
  pub is : Is h q s.world
  pub mail : s.post ≡ post

-- both know this of the channel
abbrev pub both : Pair → SignerOf → SignerOf → (ua ub : ℕ) → Mind → Mind → Pairing
both p sa sb ua ub a b = record { signer_a = sa; signer_b = sb; mind_a = a; mind_b = b; used_a = ua; used_b = ub }

-- the first pays these amounts if the test says so, else the second, and then in turn
abbrev pub all_covered : Bool → (x y : ℕ) → List ℕ → Type 0
all_covered turn x y [] = Unit {0}
all_covered true x y (amount ∷ rest) = (amount ≤ x) × all_covered false (x - amount) (y + amount) rest
all_covered false x y (amount ∷ rest) = (amount ≤ y) × all_covered true (x + amount) (y - amount) rest

-- what the first and the second have then
abbrev pub first_has : Bool → (x y : ℕ) → List ℕ → ℕ
first_has turn x y [] = x
first_has true x y (amount ∷ rest) = first_has false (x - amount) (y + amount) rest
first_has false x y (amount ∷ rest) = first_has true (x + amount) (y - amount) rest

abbrev pub second_has : Bool → (x y : ℕ) → List ℕ → ℕ
second_has turn x y [] = y
second_has true x y (amount ∷ rest) = second_has false (x - amount) (y + amount) rest
second_has false x y (amount ∷ rest) = second_has true (x + amount) (y - amount) rest

-- how often each signs
abbrev pub signs_first : Bool → List ℕ → ℕ
signs_first turn [] = 0
signs_first true (amount ∷ rest) = suc (signs_first false rest)
signs_first false (amount ∷ rest) = signs_first true rest

abbrev pub signs_second : Bool → List ℕ → ℕ
signs_second turn [] = 0
signs_second true (amount ∷ rest) = signs_second false rest
signs_second false (amount ∷ rest) = suc (signs_second true rest)

-- each is told to pay, and a round follows; the steps have these numbers
abbrev pub paying : Pair → Bool → ℕ → List ℕ → SceneOf Numbered → SceneOf Numbered
paying p turn step [] s = s
paying p turn step (amount ∷ rest) s = paying p (not turn) (step + 2) rest (play_round ways (told ways step (Pay (name real p) p.asset amount) s (cond turn 1 2)))

-- turns and indices enough
pub record Enough (sa sb : SignerOf) (ua ub : ℕ) (amounts : List ℕ) : Type 0 where
  pub turns : 6 + length amounts < 2 ^ 48
  pub first : suc (suc ua) + signs_first true amounts < (signing_of sa).limit
  pub second : suc (suc ub) + signs_second true amounts < (signing_of sb).limit

-- ---- the end

-- The two finished, with so much for each. The history is two deposits, a conclusion and two transfers, of one asset.
-- The two were paid this, and no channel holds anything. Both followed the whole history, refused no command, and
-- know that they can get what they were paid.
pub record Finishes (p : Pair) (sa sb : SignerOf) (names : Names) (x y : ℕ) (s : SceneOf Numbered) : Type 0 where
  pub history : List Entry
  pub knowing : Pairing
  pub at : At names history knowing [] s
  pub whole : IsWhole p (reverse history)
  pub few : AreFew history
  pub assets : assets_of (flows_of (reverse history)) ≡ p.asset ∷ []
  pub first_paid : paid_to history (name_of_person p.key_a) p.asset ≡ x
  pub second_paid : paid_to history (name_of_person p.key_b) p.asset ≡ y
  pub none_held : (channel : List ℕ) (asset : ℕ) → held_of history channel asset ≡ 0
  pub signer_a : knowing.signer_a ≡ sa
  pub signer_b : knowing.signer_b ≡ sb
  pub seen_a : knowing.mind_a.view.count ≡ length history
  pub seen_b : knowing.mind_b.view.count ≡ length history
  pub known_a : share_known knowing.mind_a p.asset ≡ x
  pub known_b : share_known knowing.mind_b p.asset ≡ y

-- both are told to open
abbrev pub told_both : Pair → ℕ → SceneOf Numbered → SceneOf Numbered
told_both p step s = told ways step (Open (fixed p) (split p p.a p.b)) (told ways step (Open (fixed p) (split p p.a p.b)) s 1) 2

-- both are told to close
abbrev pub asked_both : Pair → ℕ → SceneOf Numbered → SceneOf Numbered
asked_both p step s = told ways step (Close (name real p)) (told ways step (Close (name real p)) s 1) 2

-- Both are told to open, eight rounds follow, then payments in turn, each covered and with a round, and both are told
-- to close. Six rounds later the two were paid what they have then, and the channel holds nothing.
abbrev pub HonestTwoFinish : Type 0
HonestTwoFinish =
    (p : Pair) (sa sb : SignerOf) (names : Names) (opening step last : ℕ) (amounts : List ℕ) (s : SceneOf Numbered)
    → AreMade p sa sb → AreTwo p names.people → Enough sa sb 0 0 amounts
    → all_covered true p.a p.b amounts → 0 < first_has true p.a p.b amounts → 0 < second_has true p.a p.b amounts
    → At names [] (both p sa sb 0 0 (fresh p.key_a) (fresh p.key_b)) [] s
    → Finishes p sa sb names (first_has true p.a p.b amounts) (second_has true p.a p.b amounts)
    (play_rounds ways 6 (asked_both p last (paying p true step amounts (play_rounds ways 8 (told_both p opening s)))))
