-- What earlier steps declared and used up, and the conditions on names.
use Rattle.std.specs.Prelude.{ℕ, List, [], ◌∷◌, Bool, false, not, ◌&&◌, ◌||◌, ◌^◌, nat_lt, count_by, Option}
use Rattle.std.specs.List.{list_any, find}
use Rattle.std.specs.Str.{bytes_eq}
use Rattle.script_steps.specs.Digits.{is_hex}
use Rattle.script_steps.specs.declared.context.Channel.{Channel}
use Rattle.script_steps.specs.declared.context.Context.{Context}
use Rattle.script_steps.specs.declared.context.Kind.{Kind}
use Rattle.script_steps.specs.declared.context.Kind.TheVariants as kinds
use Rattle.script_steps.specs.declared.context.Person.{Person}

-- the person that is declared by this name
abbrev pub person_by : Context → List ℕ → Option Person
person_by c name = find (λ p. bytes_eq p.name name) c.people

-- the channel that is declared by this name
abbrev pub channel_by : Context → List ℕ → Option Channel
channel_by c name = find (λ k. bytes_eq k.name name) c.channels

abbrev pub is_person : Context → List ℕ → Bool
is_person c name = list_any (λ p. bytes_eq p.name name) c.people

-- a person without a node, whose hand the script leads
abbrev pub is_hand : Context → List ℕ → Bool
is_hand c name = list_any (λ p. bytes_eq p.name name && not p.node) c.people

abbrev pub is_node : Context → List ℕ → Bool
is_node c name = list_any (λ p. bytes_eq p.name name && p.node) c.people

abbrev pub is_channel : Context → List ℕ → Bool
is_channel c name = list_any (λ k. bytes_eq k.name name) c.channels

abbrev pub is_state : Context → List ℕ → Bool
is_state c name = list_any (λ s. bytes_eq s name) c.states

-- nothing is declared by this name
abbrev pub is_new : Context → List ℕ → Bool
is_new c name = not (is_person c name || is_channel c name || is_state c name)

abbrev pub has_seed : Context → List ℕ → Bool
has_seed c seed = list_any (λ p. bytes_eq p.seed seed) c.people

-- the name is declared as what a key needs
abbrev pub knows : Context → Kind → List ℕ → Bool
knows c kinds.Person name = is_person c name
knows c kinds.Hand name = is_hand c name
knows c kinds.Node name = is_node c name
knows c kinds.Channel name = is_channel c name
knows c kinds.Place name = is_hex name || is_channel c name
knows c kinds.State name = is_state c name
knows c kinds.Dest name = is_person c name || is_channel c name

-- a name stands twice
abbrev pub repeats : List (List ℕ) → Bool
repeats [] = false
repeats (n ∷ ns) = list_any (bytes_eq n) ns || repeats ns

-- how often the person was `by` of a sign or challenge step
abbrev pub signs : Context → List ℕ → ℕ
signs c name = count_by (λ s. bytes_eq s name) c.signers

-- the person has an index that isn't used up
abbrev pub has_index : Context → List ℕ → Bool
has_index c name = list_any (λ p. bytes_eq p.name name && nat_lt (signs c name) (2 ^ p.h)) c.people
