-- What a round did, for each node and each actor. Histories are in the order of time here.
use Rattle.std.specs.Prelude.{◌≡◌, ℕ, ◌+◌, true, false, List, [], ◌∷◌, ◌++◌, length}
use Rattle.std.specs.List.{flat_map}
use Rattle.call_history.specs.declared.entry.Entry.{Entry}
use Rattle.shared_object.specs.History.{StartsWith, times, once}
use Rattle.channel_safety.specs.Journals.{In}
use Rattle.network.specs.Ways.{Ways}
use Rattle.network.specs.Members.{MemberOf}
use Rattle.network_rounds.specs.Acts.{is_done}
use Rattle.network_rounds.specs.Members.{Letter, Rises, acted, outs, tick_gave, looked_all, looks_gave}
use Rattle.network_rounds.specs.Players.{Player, awake, posts_of, act_gave}
use Rattle.network_rounds.specs.Rounds.{CrewOf}
use Rattle.network_rounds.specs.Working.{IsHistory, Given, AreEntered, RiseWithin}
use Rattle.network_rounds.specs.declared.actor.Act.{Act}

-- the first begins the second, which begins the third
abbrev pub IsBetween : List Entry → List Entry → List Entry → Type 0
IsBetween h seen later = StartsWith seen h × StartsWith later seen

-- these calls stand in a longer history, after the first and in their order: the numbers of their entries rise
pub record StandIn (h later : List Entry) (gave : List Given) : Type 0 where
  pub numbers : List ℕ
  pub are : AreEntered later numbers gave
  pub rise : RiseWithin (length h) (length later) numbers

-- these stand in a longer history, and each number that is new in it is one of theirs, once
pub record StandOnce (h later : List Entry) (gave : List Given) : Type 0 where
  pub numbers : List ℕ
  pub are : AreEntered later numbers gave
  pub each : (number : ℕ) → times number numbers + once number (length h) ≡ once number (length later)

-- A node in a round, from entries that the driver had seen to those that it has seen then. It followed what it looked
-- up itself, handled what came for it, and acted. Then each of its watchers looked.
pub record NodeRan {P : Type 0} (ways : Ways P) (post : List Letter) (h later : List Entry) (m after : MemberOf P) (sent : List Letter) (gave : List Given) : Type 0 where
  pub seen : List Entry
  pub looks : List (List Entry)
  pub saw : IsBetween h seen later
  pub rise : Rises seen looks later
  pub many : length looks ≡ length m.watchers
  pub is : after ≡ looked_all ways 0 looks (acted ways post seen m)
  pub sent_is : sent ≡ (outs ways post seen m).sends
  pub gave_is : gave ≡ tick_gave ways post seen m ++ looks_gave ways 0 looks (acted ways post seen m)
  pub entered : StandIn h later gave

-- one act, with the entries that it was given
pub record Answer : Type 0 where
  pub act : Act
  pub notes : List Entry

-- the calls that an actor of this number entered, and what it posted
abbrev pub answer_gave : ℕ → Answer → List Given
answer_gave number a = act_gave number (length a.notes) a.act

abbrev pub answer_posts : Answer → List Letter
answer_posts a = posts_of a.act

-- it was asked once and was done, or it was asked twice, the second time with all that it had been given the first,
-- and maybe more after that
abbrev pub AreAnswers : Player → List Answer → Type 0
AreAnswers x [] = ⊥
AreAnswers x (a ∷ []) = (is_done a.act ≡ true) × (x.done ≡ true) × (x.notes ≡ a.notes)
AreAnswers x (a ∷ b ∷ []) =
    (is_done a.act ≡ false) × (x.done ≡ is_done b.act) × (x.notes ≡ b.notes) × StartsWith b.notes a.notes
AreAnswers x (a ∷ b ∷ more) = ⊥

abbrev pub acts_in : List Answer → List Act
acts_in [] = []
acts_in (a ∷ rest) = a.act ∷ acts_in rest

-- An actor in a round: it keeps its number, and where it says what it answers, these are its new acts.
pub record ActorRan (h later : List Entry) (x after : Player) (sent : List Letter) (gave : List Given) : Type 0 where
  pub answers : List Answer
  pub are : AreAnswers after answers
  pub number : after.number ≡ x.number
  pub told : x.tells ≡ true → (after.tells ≡ true) × (after.told ≡ x.told ++ acts_in answers)
  pub saw : (a : Answer) → In a answers → IsBetween h a.notes later
  pub sent_is : sent ≡ flat_map answer_posts answers
  pub gave_is : gave ≡ flat_map (answer_gave x.number) answers
  pub entered : StandIn h later gave

-- four lists whose members correspond, in order
abbrev pub Each : {A B C D : Type 0} → (A → B → C → D → Type 0) → List A → List B → List C → List D → Type 0
Each R [] [] [] [] = Unit {0}
Each R (x ∷ xs) (y ∷ ys) (z ∷ zs) (w ∷ ws) = R x y z w × Each R xs ys zs ws
Each R _ _ _ _ = ⊥

abbrev pub all_of : {A : Type 0} → List (List A) → List A
all_of [] = []
all_of (xs ∷ rest) = xs ++ all_of rest

-- What a round made of a crew.
pub record Round {P : Type 0} (ways : Ways P) (crew after : CrewOf P) (h later : List Entry) : Type 0 where
  -- what each node, and each actor that wasn't done, sent, and which calls it gave
  pub sent : List (List Letter)
  pub gave : List (List Given)
  pub posted : List (List Letter)
  pub called : List (List Given)
  -- the history has grown, and is legal
  pub grows : StartsWith later h
  pub legal : IsHistory h → IsHistory later
  -- the nodes stay, in their order; of the actors those that weren't done
  pub nodes : Each (NodeRan ways crew.post h later) crew.nodes after.nodes sent gave
  pub cast : Each (ActorRan h later) (awake crew.cast) after.cast posted called
  -- what the nodes sent is on its way, and after it what the actors posted
  pub post : after.post ≡ all_of sent ++ all_of posted
  -- each new entry is one call that one of them gave
  pub entered : StandOnce h later (all_of gave ++ all_of called)
