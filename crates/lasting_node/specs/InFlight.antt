-- Calls that a node gave and that nobody entered yet.
use Rattle.std.specs.Prelude.{ℕ, suc, ◌==◌, Bool, ◌&&◌, not, List, [], ◌∷◌, filter}
use Rattle.std.specs.List.{list_any}
use Rattle.call_history.specs.Same.{same_call, is_op}
use Rattle.call_history.specs.declared.call.Call.{Call}
use Rattle.call_history.specs.declared.call.Op.{Op}
use Rattle.node_lines.specs.declared.events.CallNumber.{CallNumber}
use Rattle.lasting_node.specs.declared.in_flight.InFlight.{InFlight}

-- the calls of an event, whose places count from this one on
abbrev pub numbered : ℕ → ℕ → List Call → List InFlight
numbered event place [] = []
numbered event place (call ∷ calls) =
    record { event = event; place = place; call = call } ∷ numbered event (suc place) calls

-- an equal call is in flight
abbrev pub is_in_flight : List InFlight → Call → Bool
is_in_flight waiting call = list_any (λ w. same_call w.call call) waiting

-- those that aren't in flight yet
abbrev pub not_in_flight : List InFlight → List Call → List Call
not_in_flight waiting calls = filter (λ call. not (is_in_flight waiting call)) calls

-- those that are still in flight after an entry with this op
abbrev pub not_entered : Op → List InFlight → List InFlight
not_entered op waiting = filter (λ w. not (is_op w.call op)) waiting

abbrev pub has_number : CallNumber → InFlight → Bool
has_number number w = (w.event == number.event) && (w.place == number.place)

abbrev pub not_dropped : CallNumber → List InFlight → List InFlight
not_dropped number waiting = filter (λ w. not (has_number number w)) waiting
