-- Seats of one book in a list.
use Rattle.std.specs.Prelude.{◌≡◌, ℕ, ◌+◌, List, [], ◌∷◌}
use Rattle.call_history.specs.declared.entry.Entry.{Entry}
use Rattle.shared_object.specs.Caller.{Caller, IsCaller}
use Rattle.shared_object.specs.History.{StartsWith, times}
use Rattle.network_rounds.specs.Working.{IsHistory}

abbrev pub Seats : Type 0
Seats = List (Caller Entry)

-- their parts of one, added up
abbrev pub parts : Seats → ℕ
parts [] = 0
parts (c ∷ cs) = c.part + parts cs

-- how often they made this number
abbrev pub times_made : ℕ → Seats → ℕ
times_made k [] = 0
times_made k (c ∷ cs) = times k c.made + times_made k cs

-- each is of the caller's book, has seen what it has, and made nothing
abbrev pub AreFresh : Caller Entry → Seats → Type 0
AreFresh c [] = Unit {0}
AreFresh c (d ∷ ds) = ((d.book ≡ c.book) × (d.seen ≡ c.seen) × (d.made ≡ [])) × AreFresh c ds

-- the history begins with what each has seen
abbrev pub Begin : List Entry → Seats → Type 0
Begin h [] = Unit {0}
Begin h (c ∷ cs) = StartsWith h c.seen × Begin h cs

-- what each has seen is a legal history
abbrev pub SawLegal : Seats → Type 0
SawLegal [] = Unit {0}
SawLegal (c ∷ cs) = IsHistory c.seen × SawLegal cs

-- the second caller is the first once it has taken in these seats
pub record Gathers (seats : Seats) (c d : Caller Entry) : Type 0 where
  pub book : d.book ≡ c.book
  pub part : d.part ≡ c.part + parts seats
  pub later : StartsWith d.seen c.seen
  pub begins : Begin d.seen seats
  pub made : (k : ℕ) → times k d.made ≡ times k c.made + times_made k seats
  pub legal : IsHistory c.seen → SawLegal seats → IsHistory d.seen
  pub sound : IsCaller c → IsCaller d
