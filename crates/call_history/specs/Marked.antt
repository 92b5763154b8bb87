-- Chains without their fixed part, as they are held and shown: what a next state and a newer chain make of them.
use Rattle.std.specs.Prelude.{ℕ, ◌+◌, ◌-◌, ◌==◌, Bool, true, ◌&&◌, ◌||◌, not, min, nat_lt, List, [], ◌∷◌, ◌++◌, length, map, fold, drop, slice_set, Option, Some, None, is_none, is_ok, if◌then◌else◌}
use Rattle.channel_values.specs.Parts.{FixedParts, StateParts}
use Rattle.channel_values.specs.declared.chain.Chain.{Chain}
use Rattle.channel_values.specs.declared.chain.Mark.{Mark}
use Rattle.channel_values.specs.declared.chain.Signed.{Signed}
use Rattle.channel_values.specs.Rows.{mover}
use Rattle.channel_values.specs.Rules.{Rules, people, newest, top_turn, is_signed_well}
use Rattle.channel_values.specs.Support.{supports}

-- states, the oldest first, and the marks of the participants 0, 1 and so on
pub record Marked : Type 0 where
  pub states : List StateParts
  pub marks : List Mark

abbrev pub nothing : Marked
nothing = record { states = []; marks = [] }

abbrev pub marked_of : Chain → Marked
marked_of chain = record { states = chain.states; marks = chain.marks }

abbrev pub chain_of : FixedParts → Marked → Chain
chain_of f w = record { fixed = f; states = w.states; marks = w.marks }

abbrev pub is_supported : Rules → FixedParts → Marked → Bool
is_supported r f w = is_ok (supports r (chain_of f w))

-- ---- a next state

-- while participants have no mark yet, one more mark, and else another one for participant j of n
abbrev pub put : ℕ → ℕ → Mark → List Mark → List Mark
put n j mark marks = if nat_lt (length marks) n then marks ++ mark ∷ [] else slice_set marks j mark

-- with one more state, and its mover's mark on it
abbrev pub longer : FixedParts → Signed → Marked → Marked
longer f s w =
    record {
      states = w.states ++ s.state ∷ [];
      marks =
          put (people f) (mover (people f) s.state.turn) (record { place = length w.states; signature = s.signature })
          w.marks;
    }

abbrev pub lower_place : ℕ → Mark → ℕ
lower_place least mark = min mark.place least

-- the smallest of this place and the places of the marks
abbrev pub lowest : ℕ → List Mark → ℕ
lowest place marks = fold lower_place place marks

abbrev pub lowered : ℕ → Mark → Mark
lowered d mark = record { place = mark.place - d; signature = mark.signature }

-- without the first d states, the places counted again
abbrev pub cut : ℕ → Marked → Marked
cut d w = record { states = drop d w.states; marks = map (lowered d) w.marks }

-- the chain with its answer, from its first marked state on
abbrev pub answered : FixedParts → Signed → Marked → Marked
answered f s w = cut (lowest (length w.states) (longer f s w).marks) (longer f s w)

abbrev pub next_after : Option StateParts → ℕ
next_after None = 0
next_after (Some s) = s.turn + 1

-- it follows from the state before it, if there is one
abbrev pub is_step : Rules → FixedParts → StateParts → Option StateParts → Bool
is_step r f s None = true
is_step r f s (Some before) = is_none (r.step f before s)

-- what is tested of a state before it is noted: that it comes next, its mover's signature, and the step
abbrev pub extends : Rules → FixedParts → Signed → Marked → Bool
extends r f s w =
    (s.state.turn == next_after (newest w.states)) && (is_signed_well r f s && is_step r f s.state (newest w.states))

-- with a state that was noted, where it passes the tests
abbrev pub extended : Rules → FixedParts → Option Signed → Marked → Marked
extended r f None w = w
extended r f (Some s) w = if extends r f s w then answered f s w else w

-- ---- a newer chain

-- it is supported, and none is held or the held one is older
abbrev pub is_newer : Rules → FixedParts → Marked → Marked → Bool
is_newer r f chain w =
    is_supported r f chain && (not (is_supported r f w) || nat_lt (top_turn w.states) (top_turn chain.states))

abbrev pub adopted : Rules → FixedParts → Marked → Marked → Marked
adopted r f chain w = if is_newer r f chain w then chain else w
