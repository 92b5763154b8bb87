-- The conditions on the names and the limits of a step, by what earlier steps declared; and what the step declares.
use Rattle.std.specs.Prelude.{◌==◌, ◌+◌, ◌&&◌, ◌||◌, ◌^◌, ℕ, List, [], ◌∷◌, ◌++◌, length, Bool, true, false, not, nat_lt, nat_le, is_ok, if◌then◌else◌, flat_map, Option, Some, None, Result, Ok}
use Rattle.std.specs.List.{list_any, list_all}
use Rattle.std.specs.Str.{bytes_eq}
use Rattle.channel_values.specs.Reading.{fixed_of}
use Rattle.lms_signatures.specs.Signing.{Signing}
use Rattle.script_steps.specs.Digests.{key_of, fresh, person_name, spelled, channel_name}
use Rattle.script_steps.specs.Context.{person_by, is_new, has_seed, knows, repeats, has_index}
use Rattle.script_steps.specs.Rules.{◌>>=◌, holds}
use Rattle.script_steps.specs.declared.context.Context.{Context}
use Rattle.script_steps.specs.declared.context.Kind.{Kind}
use Rattle.script_steps.specs.declared.context.Kind.TheVariants as kinds
use Rattle.script_steps.specs.declared.context.Person.{Person}
use Rattle.script_steps.specs.declared.step.Rule.{Rule}
use Rattle.script_steps.specs.declared.step.Rule.TheVariants as rules
use Rattle.script_steps.specs.declared.step.Step.{Step}
use Rattle.script_steps.specs.declared.step.Step.TheVariants as steps

-- the name that a step declares
abbrev pub declares : Step → Option (List ℕ)
declares (steps.Person k) = Some k.name
declares (steps.Channel k) = Some k.name
declares (steps.Sign k) = Some k.name
declares (steps.Catch k) = Some k.name
declares s = None

-- one name, as the kind that it must be
abbrev pub one_name : Kind → List ℕ → Kind × List (List ℕ)
one_name kind name = (kind, name ∷ [])

-- what the keys of the forms use whose values aren't those of their steps
abbrev pub sign_uses : List ℕ → List ℕ → List (Kind × List (List ℕ))
sign_uses channel by = one_name kinds.Channel channel ∷ one_name kinds.Hand by ∷ []

abbrev pub open_uses : List (List ℕ) → List ℕ → List (Kind × List (List ℕ))
open_uses who channel = (kinds.Node, who) ∷ one_name kinds.Channel channel ∷ []

abbrev pub open_on_uses : List (List ℕ) → List ℕ → List ℕ → List (Kind × List (List ℕ))
open_on_uses who ledger channel = (kinds.Node, who) ∷ one_name kinds.Channel ledger ∷ one_name kinds.Channel channel ∷ []

abbrev pub open_virtual_uses : List (List ℕ) → List (List ℕ) → List (List ℕ) → List ℕ → List ℕ → List (Kind × List (List ℕ))
open_virtual_uses who ledgers guarantors joint channel = (kinds.Node, who) ∷ (kinds.Channel, ledgers) ∷ (kinds.Channel, guarantors) ∷ one_name kinds.Channel joint ∷ one_name kinds.Channel channel ∷ []

-- the names that a step for nodes uses, each key's with the kind that they must be
abbrev pub uses_of_nodes : Step → List (Kind × List (List ℕ))
uses_of_nodes (steps.Catch k) = one_name kinds.Node k.from ∷ one_name kinds.Channel k.channel ∷ []
uses_of_nodes (steps.Send to state) = one_name kinds.Node to ∷ one_name kinds.State state ∷ []
uses_of_nodes (steps.Drop to) = one_name kinds.Node to ∷ []
uses_of_nodes (steps.Open k) = open_uses k.who k.channel
uses_of_nodes (steps.OpenOn k) = open_on_uses k.who k.ledger k.channel
uses_of_nodes (steps.OpenVirtual k) = open_virtual_uses k.who k.ledgers k.guarantors k.joint k.channel
uses_of_nodes (steps.Pay k) = one_name kinds.Node k.who ∷ one_name kinds.Channel k.channel ∷ []
uses_of_nodes (steps.Close who channel) = open_uses who channel
uses_of_nodes (steps.Release how who channel) = open_uses who channel
uses_of_nodes (steps.Resend who channel) = open_uses who channel
uses_of_nodes (steps.Exit who) = (kinds.Node, who) ∷ []
uses_of_nodes s = []

-- the names that a step uses; those of its outcomes come on top
abbrev pub uses : Step → List (Kind × List (List ℕ))
uses (steps.Deposit k) = one_name kinds.Place k.channel ∷ []
uses (steps.Channel k) = (kinds.Person, k.people) ∷ []
uses (steps.Sign k) = sign_uses k.channel k.by
uses (steps.Challenge k) = one_name kinds.Channel k.channel ∷ (kinds.State, k.chain) ∷ one_name kinds.Hand k.by ∷ []
uses (steps.Respond k) = one_name kinds.Channel k.channel ∷ one_name kinds.State k.from ∷ one_name kinds.State k.state ∷ []
uses (steps.Refute channel state) = one_name kinds.Channel channel ∷ one_name kinds.State state ∷ []
uses (steps.Checkpoint channel chain) = one_name kinds.Channel channel ∷ (kinds.State, chain) ∷ []
uses (steps.Conclude channel chain) = one_name kinds.Channel channel ∷ (kinds.State, chain) ∷ []
uses (steps.Transfer k) = one_name kinds.Channel k.channel ∷ one_name kinds.State k.state ∷ []
uses (steps.Claim k) = one_name kinds.Channel k.guarantor ∷ one_name kinds.State k.state ∷ one_name kinds.Channel k.target ∷ one_name kinds.State k.target_state ∷ []
uses s = uses_of_nodes s

-- what is declared has no name of an earlier step
abbrev pub is_free : Context → Option (List ℕ) → Bool
is_free c None = true
is_free c (Some name) = is_new c name

-- all names are declared as their kinds
abbrev pub are_known : Context → List (Kind × List (List ℕ)) → Bool
are_known c [] = true
are_known c (u ∷ us) = list_all (knows c u.0) u.1 && are_known c us

-- a person has a seed of its own, and the people of a channel don't repeat
abbrev pub is_single : Context → Step → Bool
is_single c (steps.Person k) = not (has_seed c k.seed)
is_single c (steps.Channel k) = not (repeats k.people)
is_single c s = true

-- what is declared is new, and each name was declared as what its key needs
abbrev pub is_named : Context → Step → Bool
is_named c s = is_free c (declares s) && are_known c (uses s) && is_single c s

-- from low to high
abbrev pub within : ℕ → ℕ → ℕ → Bool
within n low high = nat_le low n && nat_le n high

-- a person has a tree of height 5 or 10, and one to four watchers with a node, else none
abbrev pub is_able : ℕ → Bool → ℕ → Bool
is_able h node watchers = (h == 5 || h == 10) && (if node then within watchers 1 4 else watchers == 0)

-- each value of a step for nodes is within its limit
abbrev pub fits_nodes : Context → Step → Bool
fits_nodes c (steps.Catch k) = nat_lt k.turn (2 ^ 48)
fits_nodes c (steps.OpenOn k) = nat_lt k.asset (2 ^ 32)
fits_nodes c (steps.OpenVirtual k) = length k.ledgers == 2 && length k.guarantors == 2 && nat_lt k.asset (2 ^ 32)
fits_nodes c (steps.Pay k) = nat_lt k.asset (2 ^ 32)
fits_nodes c (steps.Rounds count) = within count 1 64 && nat_le (c.rounds + count) 4096
fits_nodes c s = true

-- each value is within its limit
abbrev pub fits : Context → Step → Bool
fits c (steps.Deposit k) = nat_lt k.asset (2 ^ 32)
fits c (steps.Person k) = is_able k.h k.node k.watchers && nat_lt (length c.people) 16
fits c (steps.Channel k) = within (length k.people) 2 4 && (not (k.app == 1) || length k.people == 2) && within k.duration 1 4294967295 && nat_lt (length c.channels) 64
fits c (steps.Sign k) = nat_lt k.turn (2 ^ 48) && nat_le k.votes 3 && (not (k.votes == 0) || length k.proposal == 0) && has_index c k.by
fits c (steps.Challenge k) = nat_le (length k.chain) 4 && has_index c k.by
fits c (steps.Checkpoint channel chain) = nat_le (length chain) 4
fits c (steps.Conclude channel chain) = nat_le (length chain) 4
fits c (steps.Transfer k) = nat_lt k.asset (2 ^ 32) && nat_lt k.index (2 ^ 8)
fits c (steps.Claim k) = nat_lt k.asset (2 ^ 32) && nat_lt k.position (2 ^ 8)
fits c s = fits_nodes c s

abbrev pub key_in : Option Person → List (List ℕ)
key_in None = []
key_in (Some p) = p.key ∷ []

-- the keys of the people of these names
abbrev pub keys_in : Context → List (List ℕ) → List (List ℕ)
keys_in c names = flat_map (λ name. key_in (person_by c name)) names

-- no earlier person has the digest of this one
abbrev pub is_new_person : Context → List ℕ → ℕ → Bool
is_new_person c seed h = not (list_any (λ p. bytes_eq p.digest (person_name seed h)) c.people)

-- the fixed part of a channel keeps the limits of fixed parts
abbrev pub has_fixed : Context → List (List ℕ) → ℕ → ℕ → ℕ → Bool
has_fixed c people nonce app duration = is_ok (fixed_of (spelled (keys_in c people) nonce app duration))

-- no earlier channel has the digest of this one
abbrev pub is_new_channel : Context → List (List ℕ) → ℕ → ℕ → ℕ → Bool
is_new_channel c people nonce app duration = not (list_any (λ k. bytes_eq k.digest (channel_name (keys_in c people) nonce app duration)) c.channels)

abbrev pub distinct_channel : Context → List (List ℕ) → ℕ → ℕ → ℕ → Result ℕ Rule
distinct_channel c people nonce app duration = do
  part ← holds rules.Limit (has_fixed c people nonce app duration)
  holds rules.Name (is_new_channel c people nonce app duration)

-- what is declared has a digest of its own
abbrev pub distinct : Context → Step → Result ℕ Rule
distinct c (steps.Person k) = holds rules.Name (is_new_person c k.seed k.h)
distinct c (steps.Channel k) = distinct_channel c k.people k.nonce k.app k.duration
distinct c s = Ok 0

-- a race sets its own times, and a duration of 1 leaves it no time to answer in
abbrev pub runs_in_race : Step → Bool
runs_in_race (steps.Time to) = false
runs_in_race (steps.Channel k) = not (k.duration == 1)
runs_in_race s = true

abbrev pub with_person : Context → List ℕ → List ℕ → ℕ → Bool → Context
with_person c name seed h node = record c { people = c.people ++ record { name = name; seed = seed; h = h; node = node; key = key_of seed h; digest = person_name seed h } ∷ [] }

abbrev pub with_channel : Context → List ℕ → List (List ℕ) → ℕ → ℕ → ℕ → Context
with_channel c name people nonce app duration = record c { channels = c.channels ++ record { name = name; digest = channel_name (keys_in c people) nonce app duration } ∷ [] }

-- what is declared and used up once the step is there
abbrev pub after : Context → Step → Context
after c (steps.Person k) = with_person c k.name k.seed k.h k.node
after c (steps.Channel k) = with_channel c k.name k.people k.nonce k.app k.duration
after c (steps.Sign k) = record c { states = c.states ++ k.name ∷ []; signers = c.signers ++ k.by ∷ [] }
after c (steps.Catch k) = record c { states = c.states ++ k.name ∷ [] }
after c (steps.Challenge k) = record c { signers = c.signers ++ k.by ∷ [] }
after c (steps.Rounds count) = record c { rounds = c.rounds + count }
after c s = c

-- the signer of a person, unused
abbrev pub signer_of : Step → Option Signing
signer_of (steps.Person k) = Some (fresh k.seed k.h)
signer_of s = None
