-- Calls of a tower one after the other, and what one client is answered: it depends on its own calls alone.
use Rattle.std.specs.Prelude.{◌≡◌, ℕ, Bool, true, not, List, [], ◌∷◌, ◌++◌, Option, Some, None, if◌then◌else◌}
use Rattle.std.specs.Str.{bytes_eq}
use Rattle.channel_values.specs.declared.chain.Chain.{Chain}
use Rattle.channel_values.specs.Rules.{Rules}
use Rattle.call_history.specs.declared.call.Call.{Call}
use Rattle.call_history.specs.declared.entry.Entry.{Entry}
use Rattle.call_history.specs.declared.held_chain.HeldChain.{HeldChain}
use Rattle.network.specs.Watching.{Watching}
use Rattle.watchtower.specs.declared.client.Client.{Client}
use Rattle.watchtower.specs.declared.fault.HandFault.{HandFault}
use Rattle.watchtower.specs.Towers.{Towering, unmanned, chains_of, is_admitted, with_chains, admitted, named, handed, hand_fault, answers, calls_of, watched}

pub data Act : Type 0 where
  admits : (name : List ℕ) → Act
  hands : (name : List ℕ) → (chain : Chain) → Act
  looks : (entries : List Entry) → Act

-- what a client is answered: whether its admission was new, why its chain isn't taken if it isn't, and its calls
pub data Told : Type 0 where
  is_new : Bool → Told
  refused : Option HandFault → Told
  given : List Call → Told

abbrev pub taken : List ℕ → HeldChain → List Client → Option HandFault → List Client
taken name new clients None = with_chains name (handed new) clients
taken name new clients (Some fault) = clients

-- the tower after a call for which there was memory
abbrev pub after : Rules → Towering → Act → Towering
after r t (admits name) = record t { clients = admitted name t.clients }
after r t (hands name chain) =
    record t { clients = taken name (named chain) t.clients (hand_fault r name (named chain) t.clients) }
after r t (looks entries) = watched entries t

abbrev pub calls_with : Watching → Option (List HeldChain) → List Call
calls_with w None = []
calls_with w (Some chains) = calls_of w chains

-- the calls for a client, by its own chains
abbrev pub calls_for : List ℕ → Towering → List Call
calls_for q t = calls_with t.watching (chains_of q t.clients)

abbrev pub told : Rules → List ℕ → Towering → Act → List Told
told r q t (admits name) = if bytes_eq q name then is_new (not (is_admitted q t.clients)) ∷ [] else []
told r q t (hands name chain) = if bytes_eq q name then refused (hand_fault r q (named chain) t.clients) ∷ [] else []
told r q t (looks entries) = given (calls_for q (watched entries t)) ∷ []

abbrev pub all_told : Rules → List ℕ → Towering → List Act → List Told
all_told r q t [] = []
all_told r q t (act ∷ acts) = told r q t act ++ all_told r q (after r t act) acts

-- a client's own calls: its admissions, its hands, and all looks
abbrev pub is_own : List ℕ → Act → Bool
is_own q (admits name) = bytes_eq q name
is_own q (hands name chain) = bytes_eq q name
is_own q (looks entries) = true

abbrev pub own : List ℕ → List Act → List Act
own q [] = []
own q (act ∷ acts) = if is_own q act then act ∷ own q acts else own q acts

-- a client whose own calls are the same is answered the same, whatever others call
abbrev pub ClientsAreApart : Type 0
ClientsAreApart =
    (r : Rules) (q : List ℕ) (a b : List Act) → own q a ≡ own q b → all_told r q unmanned a ≡ all_told r q unmanned b

-- ---- the list that a look answers

abbrev pub calls_in : List ℕ → List (List ℕ × List Call) → List Call
calls_in q [] = []
calls_in q (answer ∷ rest) = if bytes_eq q answer.0 then answer.1 else calls_in q rest

abbrev pub after_all : Rules → Towering → List Act → Towering
after_all r t [] = t
after_all r t (act ∷ acts) = after_all r (after r t act) acts

-- after any calls the list that a look answers gives each client its calls
abbrev pub EachIsTold : Type 0
EachIsTold =
    (r : Rules) (q : List ℕ) (acts : List Act)
    → calls_in q (answers (calls_of (after_all r unmanned acts).watching) (after_all r unmanned acts).clients)
    ≡ calls_for q (after_all r unmanned acts)
