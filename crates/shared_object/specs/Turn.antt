-- A turn: what a seat is between two calls, while it waits, and while it has the desk.
use Rattle.std.specs.Prelude.{◌≡◌, ℕ, ◌%◌, ◌≤◌, false, true, List, [], ◌∷◌, length, Option, None}
use Rattle.atomic_table.specs.Seated.{TableId}
use Rattle.atomic_table.specs.declared.shared.Seat.{Seat}
use Rattle.shared_object.specs.declared.rule.View.{View}
use Rattle.shared_object.specs.declared.desk.Desk.{Desk}
use Rattle.shared_object.specs.History.{StartsWith, times, once, IsLegal}
use Rattle.shared_object.specs.Caller.{Caller, IsCaller, whole, most_entries}
use Rattle.shared_object.specs.Turns.{idle, KeepsSeat}

module _ {S E : Type 0} where
  -- what contracts see of a token with this part
  abbrev pub caller_of : ℕ → Seat S (View E) → Caller E
  caller_of part s = record { book = s.table_id; seen = s.me.0.seen; made = s.me.0.made; part = part }

  -- the token is between two calls
  pub record IsAtRest (part : ℕ) (s : Seat S (View E)) : Type 0 where
    pub view : s.me.0 ≡ idle s.me.0.seen s.me.0.made part
    pub empty : s.me.1 ≡ []
    pub sound : IsCaller (caller_of part s)

  -- it has a ticket out, and waits
  pub record Waits (z : TableId) (ticket : ℕ) (v : View E) (s : Seat S (View E)) : Type 0 where
    pub table : s.table_id ≡ z
    pub empty : s.me.1 ≡ []
    pub one : s.me.0.tickets ≡ 1
    pub none_told : s.me.0.told ≡ []
    pub free : s.me.0.holds ≡ false
    pub ticket_is : s.me.0.ticket % 18446744073709551616 ≡ ticket
    pub keeps : KeepsSeat v s.me.0

module _ {O E C : Type 0} (stands : O → List E → Type 0) (gives : List E → ℕ → ℕ → C → E) where
  -- it is this seat's turn: the slot is out with it, and this desk was in it
  pub record HasTurn (z : TableId) (d : Desk O E) (v : View E) (s : Seat (Option (Desk O E)) (View E)) : Type 0 where
    pub table : s.table_id ≡ z
    pub slot : s.me.1 ≡ (0, None) ∷ []
    pub holds : s.me.0.holds ≡ true
    pub hand : s.me.0.hand ≡ d.history.items
    pub stands_for : stands d.object d.history.items
    pub legal : IsLegal gives d.history.items
    pub few : length d.history.items ≤ most_entries
    pub sees : StartsWith d.history.items v.seen
    pub all : v.part ≡ whole → (v.seen ≡ d.history.items) × ((k : ℕ) → times k v.made ≡ once k (length d.history.items))
    pub keeps : KeepsSeat v s.me.0
