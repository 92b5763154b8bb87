-- What workers find, and which places a queue holds.
use Rattle.std.specs.Prelude.{◌≡◌, ℕ, ◌<◌, List, slice_get, Some}
use Rattle.std.specs.List.{All}
use Rattle.network.specs.Watching.{Watching}
use Rattle.watchtower.specs.declared.client.Client.{Client}
use Rattle.watchtower.specs.declared.found.Found.{Found}
use Rattle.watchtower.specs.Towers.{calls_of}

-- what is found at a place are the calls for the client there
abbrev pub IsFor : Watching → List Client → Found → Type 0
IsFor w clients found = (c : Client) → slice_get clients found.place ≡ Some c → found.calls ≡ calls_of w c.chains

abbrev pub AreFor : Watching → List Client → List Found → Type 0
AreFor w clients found = All (IsFor w clients) found

-- each place is below the number of clients
abbrev pub AreBelow : ℕ → List ℕ → Type 0
AreBelow n places = All (λ place. place < n) places
