-- A desk: an object beside the history that it stands for.
use Rattle.std.specs.Prelude.{◌≡◌, ℕ, ◌+◌, ◌≤◌, List, [], ◌∷◌, ◌++◌, length}
use Rattle.shared_object.specs.Caller.{most_entries}
use Rattle.shared_object.specs.declared.desk.Desk.{Desk}

module _ {E C : Type 0} (gives : List E → ℕ → ℕ → C → E) where
  -- one more entry, which the object gave
  abbrev pub IsMore : List E → List E → Type 0
  IsMore h h' = (x : E) × (by : ℕ) × (call : C) × (h' ≡ h ++ x ∷ []) × (x ≡ gives h (length h + 1) by call)

module _ {O E C R : Type 0} (stands : O → List E → Type 0) (gives : List E → ℕ → ℕ → C → E) (reply_of : E → R) where
  -- the desk has one more entry, which the object gave for the call
  pub record Adds (by : ℕ) (call : C) (number : ℕ) (reply : R) (d d' : Desk O E) : Type 0 where
    pub entry : E
    pub history : d'.history.items ≡ d.history.items ++ entry ∷ []
    pub gave : entry ≡ gives d.history.items (length d.history.items + 1) by call
    pub number_is : number ≡ length d.history.items + 1
    pub few : number ≤ most_entries
    pub reply_is : reply ≡ reply_of entry
    pub stands_for : stands d'.object d'.history.items
