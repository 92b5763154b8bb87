-- A table of stages: a stage is the first row that isn't left, and says what is signed and called.
use Rattle.std.specs.Prelude.{ℕ, zero, suc, Bool, true, List, [], ◌∷◌, Option, None, if◌then◌else◌}
use Rattle.std.specs.Str.{bytes_eq}
use Rattle.channel_values.specs.Parts.{StateParts}
use Rattle.call_history.specs.declared.call.Call.{Call}
use Rattle.funding_plans.specs.Seats.{Seat}

-- what is wanted in a channel
pub record Wish : Type 0 where
  pub channel : List ℕ
  pub state : Option StateParts

infixr 6 ◌⊢◌
abbrev pub ◌⊢◌ : Seat → Option StateParts → Wish
c ⊢ s = record { channel = c.name; state = s }

pub record Row : Type 0 where
  pub leaves : Bool
  pub signs : List Wish
  pub calls : List Call

-- a row that is left when this is true, and until then signs, calls, or does nothing
abbrev pub signing : Bool → List Wish → Row
signing leaves signs = record { leaves = leaves; signs = signs; calls = [] }

abbrev pub calling : Bool → List Call → Row
calling leaves calls = record { leaves = leaves; signs = []; calls = calls }

abbrev pub waiting : Bool → Row
waiting leaves = record { leaves = leaves; signs = []; calls = [] }

-- a row that names a channel in which the participant isn't
abbrev pub passed : Row
passed = waiting true

-- the place of the first row that isn't left
abbrev pub stage_in : List Row → ℕ
stage_in [] = 0
stage_in (r ∷ rows) = if r.leaves then suc (stage_in rows) else 0

-- the first wish for that channel
abbrev pub wish_in : List ℕ → List Wish → Option StateParts
wish_in name [] = None
wish_in name (w ∷ ws) = if bytes_eq w.channel name then w.state else wish_in name ws

-- what the stage wants in a channel
abbrev pub wanted_in : List ℕ → List Row → Option StateParts
wanted_in name [] = None
wanted_in name (r ∷ rows) = if r.leaves then wanted_in name rows else wish_in name r.signs

-- and what it calls
abbrev pub called_in : List Row → List Call
called_in [] = []
called_in (r ∷ rows) = if r.leaves then called_in rows else r.calls

-- of the row at a place
abbrev pub signs_of : ℕ → List Row → List Wish
signs_of n [] = []
signs_of zero (r ∷ rows) = r.signs
signs_of (suc n) (r ∷ rows) = signs_of n rows

abbrev pub calls_of : ℕ → List Row → List Call
calls_of n [] = []
calls_of zero (r ∷ rows) = r.calls
calls_of (suc n) (r ∷ rows) = calls_of n rows
