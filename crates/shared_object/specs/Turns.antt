-- The rule of a book's table, and what its steps tell.
-- Word 0 is the next ticket, word 1 the ticket that is served, word 2 the noted length. The one slot has the object and its history.
use Rattle.std.specs.Prelude.{◌≡◌, ◌≢◌, ℕ, ◌+◌, ◌-◌, ◌/◌, ◌%◌, ◌<◌, ◌≤◌, true, false, ◌⊎◌, List, [], ◌∷◌, ◌++◌, length, Option, Some, None}
use mathlib.Core.Option.{none, some}
use lib.ListN.{get_elem?}
use Rattle.atomic_table.specs.Table.{State, Me, Step, rest}
use Rattle.shared_object.specs.declared.desk.Desk.{Desk}
use Rattle.shared_object.specs.declared.rule.View.{View}
use Rattle.shared_object.specs.History.{StartsWith, total, times, once, IsLegal}
use Rattle.shared_object.specs.Caller.{whole, most_entries, longer}

-- what a split gives away of a part
abbrev pub given_of : ℕ → ℕ
given_of part = part / 2

module _ {E : Type 0} where
  -- a seat with no ticket
  abbrev pub idle : List E → List ℕ → ℕ → View E
  idle seen made part = record { seen = seen; told = []; made = made; part = part; tickets = 0; ticket = 0; holds = false; hand = [] }

  -- the first seat of a book
  abbrev pub newcomer : View E
  newcomer = idle [] [] whole

  -- what is left of a seat that was joined to another
  abbrev pub spent : View E
  spent = idle [] [] 0

  -- the seat after a split
  abbrev pub kept_part : View E → View E
  kept_part v = idle v.seen v.made (v.part - given_of v.part)

  -- the seat that was split off
  abbrev pub given_part : View E → View E
  given_part v = idle v.seen [] (given_of v.part)

  -- two seats as one, which has yet to find out which history is longer
  abbrev pub both : View E → View E → View E
  both v w = record { seen = v.seen; told = w.seen; made = v.made ++ w.made; part = v.part + w.part; tickets = 0; ticket = 0; holds = false; hand = [] }

  -- a step leaves what the seat has seen and made, and its part
  abbrev pub KeepsSeat : View E → View E → Type 0
  KeepsSeat v w = (w.seen ≡ v.seen) × (w.made ≡ v.made) × (w.part ≡ v.part) × (w.told ≡ v.told)

  -- a history was noted by the seat that has it
  abbrev pub noted : List E → List ℕ → View E → View E
  noted h made v = record { seen = h; told = v.told; made = made; part = v.part; tickets = v.tickets; ticket = v.ticket; holds = v.holds; hand = h }

  -- what the rule says of one seat's view, where so many tickets are drawn and served and this is the history. What it saw and was told begins the history; it made
  -- nothing beyond both; it has at most one ticket, between those served and those drawn; with no part it is spent; and with the desk it is served, and has noted the history
  pub record Fits (drawn served : ℕ) (log : List E) (v : View E) : Type 0 where
    pub sees : StartsWith log v.seen
    pub hears : StartsWith log v.told
    pub within : (k : ℕ) → 0 < times k v.made → length v.seen < k → k ≤ length v.told
    pub one : v.tickets ≤ 1
    pub waits : v.tickets ≡ 1 → (served ≤ v.ticket) × (v.ticket < drawn)
    pub gone : v.part ≡ 0 → (v.tickets ≡ 0) × (v.made ≡ [])
    pub has : v.holds ≡ true → (v.tickets ≡ 1) × (v.ticket ≡ served) × (v.hand ≡ log)

  -- two seats have two tickets
  abbrev pub AreApart : List (View E) → Type 0
  AreApart views = (i j : ℕ) (v w : View E) → get_elem? views i ≡ some v → get_elem? views j ≡ some w → v.tickets ≡ 1 → w.tickets ≡ 1 → v.ticket ≡ w.ticket → i ≡ j

module _ {O E : Type 0} where
  -- the desk is in its slot with the history, and no seat has it
  abbrev pub IsHome : (O → List E → Type 0) → List E → List (View E) → List (mathlib.Core.Option.Option (Option (Desk O E))) → Type 0
  IsHome stands log views homes = (d : Desk O E) × (homes ≡ some (Some d) ∷ []) × (d.history.items ≡ log) × stands d.object log × ((j : ℕ) (v : View E) → get_elem? views j ≡ some v → v.holds ≡ false)

  -- the slot is empty, and a seat has the desk
  abbrev pub IsOut : List (View E) → List (mathlib.Core.Option.Option (Option (Desk O E))) → Type 0
  IsOut views homes = (j : ℕ) × (v : View E) × (get_elem? views j ≡ some v) × (v.holds ≡ true) × (homes ≡ none ∷ [])

module _ {O E C : Type 0} (stands : O → List E → Type 0) (gives : List E → ℕ → ℕ → C → E) where
  -- the rule. The words count modulo 2^64. The tickets served and those that are out are those drawn; the parts are one; each number of the history was made by one
  -- seat, once; the history is legal; and each seat fits
  pub record IsKept (s : State (Option (Desk O E)) (View E)) : Type 0 where
    pub drawn : ℕ
    pub served : ℕ
    pub log : List E
    pub words : s.words ≡ drawn % 18446744073709551616 ∷ served % 18446744073709551616 ∷ length log ∷ []
    pub tickets : served + total (λ v. v.tickets) s.views ≡ drawn
    pub parts : total (λ v. v.part) s.views ≡ whole
    pub numbers : (k : ℕ) → total (λ v. times k v.made) s.views ≡ once k (length log)
    pub legal : IsLegal gives log
    pub few : length log ≤ most_entries
    pub each : (j : ℕ) (v : View E) → get_elem? s.views j ≡ some v → Fits drawn served log v
    pub apart : AreApart s.views
    pub slot : IsHome stands log s.views s.homes ⊎ IsOut s.views s.homes

module _ {S E : Type 0} where
  -- the seat has the ticket that was found
  abbrev pub Draws : Step S → Me S (View E) → ℕ → Me S (View E) → Type 0
  Draws st m found m' = KeepsSeat m.0 m'.0 × (m'.1 ≡ m.1) × (m'.0.tickets ≡ 1) × (m'.0.holds ≡ false) × (m'.0.ticket % 18446744073709551616 ≡ found)

  -- the seat has no ticket, and gave the desk back
  abbrev pub Passes : Step S → Me S (View E) → ℕ → Me S (View E) → Type 0
  Passes st m found m' = (m'.0 ≡ idle m.0.seen m.0.made m.0.part) × (m'.1 ≡ rest m.1)

module _ {O E C : Type 0} (stands : O → List E → Type 0) (gives : List E → ℕ → ℕ → C → E) where
  -- the slot came with the object and its history
  pub record Took (m m' : Me (Option (Desk O E)) (View E)) : Type 0 where
    pub desk : Desk O E
    pub slot : m'.1 ≡ (0, Some desk) ∷ m.1
    pub hand : m'.0.hand ≡ desk.history.items
    pub stands_for : stands desk.object desk.history.items
    pub legal : IsLegal gives desk.history.items
    pub few : length desk.history.items ≤ most_entries
    pub sees : StartsWith desk.history.items m.0.seen
    pub within : (k : ℕ) → 0 < times k m.0.made → k ≤ length m.0.seen
    pub all : m.0.part ≡ whole → (m.0.seen ≡ desk.history.items) × ((k : ℕ) → times k m.0.made ≡ once k (length desk.history.items))
    pub keeps : KeepsSeat m.0 m'.0
    pub holds : m'.0.holds ≡ true

  -- where the word found is the seat's ticket, it took the desk; else nothing changed
  abbrev pub Sees : Step (Option (Desk O E)) → Me (Option (Desk O E)) (View E) → ℕ → Me (Option (Desk O E)) (View E) → Type 0
  Sees st m found m' = (found ≡ m.0.ticket % 18446744073709551616 → Took m m') × (found ≢ m.0.ticket % 18446744073709551616 → m' ≡ m)

module _ {O E : Type 0} where
  -- the history of the desk that was taken last
  abbrev pub in_hand : List (ℕ × Option (Desk O E)) → List E
  in_hand [] = []
  in_hand ((_, None) ∷ xs) = []
  in_hand ((_, Some d) ∷ xs) = d.history.items

  -- the history in hand was noted, with the number stored as one more that the seat made
  abbrev pub NotesMore : Step (Option (Desk O E)) → Me (Option (Desk O E)) (View E) → ℕ → Me (Option (Desk O E)) (View E) → Type 0
  NotesMore st m found m' = (m'.1 ≡ m.1) × (m'.0 ≡ noted (in_hand m.1) (m.0.made ++ st.first ∷ []) m.0)

  -- the history in hand was noted, with nothing more made
  abbrev pub NotesSame : Step (Option (Desk O E)) → Me (Option (Desk O E)) (View E) → ℕ → Me (Option (Desk O E)) (View E) → Type 0
  NotesSame st m found m' = (m'.1 ≡ m.1) × (m'.0 ≡ noted (in_hand m.1) m.0.made m.0)

module _ {S E : Type 0} where
  -- the seat has seen the longer of what it and the other had seen, which begins with both. Its part is at most all of one, and with all of it it made each entry
  pub record Learns (m m' : Me S (View E)) : Type 0 where
    pub is : m' ≡ (idle (longer m.0.seen m.0.told) m.0.made m.0.part, m.1)
    pub sees : StartsWith (longer m.0.seen m.0.told) m.0.seen
    pub hears : StartsWith (longer m.0.seen m.0.told) m.0.told
    pub within : (k : ℕ) → 0 < times k m.0.made → k ≤ length (longer m.0.seen m.0.told)
    pub at_most : m.0.part ≤ whole
    pub all : m.0.part ≡ whole → (k : ℕ) → times k m.0.made ≡ once k (length (longer m.0.seen m.0.told))

  -- the same, as a step shows it
  abbrev pub learned : Step S → Me S (View E) → ℕ → Me S (View E) → Type 0
  learned st m found m' = Learns m m'
