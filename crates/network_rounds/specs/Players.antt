-- Actors of a cast, and what one does when it is asked.
use Rattle.std.specs.Prelude.{◌≡◌, ℕ, Bool, true, false, List, [], ◌∷◌, ◌++◌, length, if◌then◌else◌, Option, Some, None}
use Rattle.call_history.specs.declared.entry.Entry.{Entry}
use Rattle.shared_object.specs.Caller.{Caller}
use Rattle.network_rounds.specs.Acts.{is_done}
use Rattle.network_rounds.specs.Members.{Letter, Saw}
use Rattle.network_rounds.specs.Working.{Given, given_at}
use Rattle.network_rounds.specs.declared.actor.Act.{Act}
use Rattle.network_rounds.specs.declared.actor.Act.TheVariants.{Enter, Post}

-- What contracts see of an actor: its number, whether it says what it has answered, and what it says, the entries in
-- its notes, and whether it is done.
pub record Player : Type 0 where
  pub number : ℕ
  pub tells : Bool
  pub told : List Act
  pub notes : List Entry
  pub done : Bool

-- those that aren't done
abbrev pub awake : List Player → List Player
awake [] = []
awake (x ∷ xs) = if x.done then awake xs else x ∷ awake xs

abbrev pub posts_of : Act → List Letter
posts_of (Post to bytes) = (to, bytes) ∷ []
posts_of _ = []

abbrev pub posted : Option Letter → List Letter
posted None = []
posted (Some letter) = letter ∷ []

abbrev pub act_gave : ℕ → ℕ → Act → List Given
act_gave by seen (Enter call) = given_at by seen (call ∷ [])
act_gave by seen _ = []

-- It looks, and answers with one act, which is entered or posted.
pub record Asks (x y : Player) (sent : List Letter) (gave : List Given) (c d : Caller Entry) : Type 0 where
  pub act : Act
  pub number : y.number ≡ x.number
  pub told : x.tells ≡ true → (y.tells ≡ true) × (y.told ≡ x.told ++ act ∷ [])
  pub done : y.done ≡ is_done act
  pub saw : Saw y.notes c d
  pub sent_is : sent ≡ posts_of act
  pub gave_is : gave ≡ act_gave x.number (length y.notes) act

-- One that is done isn't asked.
pub record AsksIf (x y : Player) (sent : List Letter) (gave : List Given) (c d : Caller Entry) : Type 0 where
  pub idle : x.done ≡ true → (y ≡ x) × (sent ≡ []) × (gave ≡ [])
  pub asks : x.done ≡ false → Asks x y sent gave c d
