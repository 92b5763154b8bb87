-- What a look goes over: the channels that are challenged, and the clients that hold a chain of one.
use Rattle.std.specs.Prelude.{◌≡◌, ℕ, List, [], ◌∷◌, fold, slice_get, Option, Some, None, if◌then◌else◌}
use Rattle.std.specs.List.{Contains}
use Rattle.std.specs.Str.{bytes_eq}
use Rattle.indexmap.specs.IndexSet.{insert_key}
use Rattle.channel_values.specs.Parts.{FixedParts}
use Rattle.channel_values.specs.Spelling.{fixed}
use Rattle.channel_values.specs.Digests.{name_of_channel}
use Rattle.call_history.specs.Rows.{fixed_of}
use Rattle.call_history.specs.declared.call.Call.{Call}
use Rattle.call_history.specs.declared.entry.Entry.{Entry}
use Rattle.network.specs.Watching.{Watching}
use Rattle.watchtower.specs.declared.client.Client.{Client}
use Rattle.watchtower.specs.Towers.{calls_of, entitled}
use Rattle.watchtower.specs.Holding.{is_open}

-- a channel more, where it is challenged
abbrev pub noting : Watching → List (List ℕ) → List ℕ → List (List ℕ)
noting w noted channel = if is_open w channel then insert_key bytes_eq noted channel else noted

abbrev pub noting_of : Watching → List (List ℕ) → Option FixedParts → List (List ℕ)
noting_of w noted None = noted
noting_of w noted (Some f) = noting w noted (name_of_channel (fixed f))

-- of the channels that were noted and of those that entries touch, the ones that are challenged
abbrev pub noted_after : Watching → List (List ℕ) → List Entry → List (List ℕ)
noted_after w noted entries = fold (λ seen e. noting_of w seen (fixed_of e.op)) (fold (noting w) [] noted) entries

-- each of these is among those
abbrev pub HasAll : List ℕ → List ℕ → Type 0
HasAll places all = (place : ℕ) → Contains all place → Contains places place

-- each client that has calls is at one of these places
abbrev pub Concerned : Watching → List Client → List ℕ → Type 0
Concerned w clients places =
    (place : ℕ) (c : Client) (call : Call) (calls : List Call) → slice_get clients place ≡ Some c
    → calls_of w c.chains ≡ call ∷ calls → Contains places place

-- what is answered of the client at a place
abbrev pub answer_at : Watching → Option Client → List (List ℕ × List Call)
answer_at w None = []
answer_at w (Some c) = entitled c.name (calls_of w c.chains)
