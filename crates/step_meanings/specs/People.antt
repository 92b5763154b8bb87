-- The people of a script: who has a name, and what people without nodes sign.
use Rattle.std.specs.Prelude.{ℕ, ◌+◌, ◌^◌, Bool, List, ◌∷◌, ◌++◌, flat_map, nat_lt, is_none, Option, Some, None, if◌then◌else◌}
use Rattle.std.specs.List.{find, before_first, after_first}
use Rattle.std.specs.Option.{option_map}
use Rattle.std.specs.Str.{bytes_eq}
use Rattle.channel_values.specs.Digests.{name_of_person}
use Rattle.step_meanings.specs.Chains.{or_none}
use Rattle.step_meanings.specs.declared.people.Person.{Person}
use Rattle.lms_signatures.specs.Made.{made_bytes}
use Rattle.lms_signatures.specs.Signing.{Signing}

-- one look-up after another, which finds nothing where one of them does
infixl 10 ◌>>=◌
abbrev pub ◌>>=◌ : {A B : Type 0} → Option A → (A → Option B) → Option B
None >>= f = None
(Some x) >>= f = f x

abbrev pub has_name : List ℕ → Person → Bool
has_name name p = bytes_eq p.name name

-- the person of this name
abbrev pub person_by : List Person → List ℕ → Option Person
person_by people name = find (has_name name) people

abbrev pub key_by : List Person → List ℕ → Option (List ℕ)
key_by people name = option_map (λ p. p.key) (person_by people name)

-- the digest that names a person
abbrev pub who_of : Person → List ℕ
who_of p = name_of_person p.key

-- the numbers of the people of these names
abbrev pub numbers_by : List Person → List (List ℕ) → List ℕ
numbers_by people names = flat_map (λ name. or_none (option_map (λ p. p.number) (person_by people name))) names

-- the public keys of the people of these names
abbrev pub keys_by : List Person → List (List ℕ) → List (List ℕ)
keys_by people names = flat_map (λ name. or_none (key_by people name)) names

abbrev pub has_node : Person → Bool
has_node p = is_none p.hand

-- ---- what people without nodes sign

-- the signature of a message at a signer's next index, unless all of its indices have signed
abbrev pub signature_of : Signing → List ℕ → Option (List ℕ)
signature_of s message = if nat_lt s.used (2 ^ s.h) then Some (made_bytes s.seed s.id s.h s.used message) else None

-- a signature, and the people after it
pub record SignedBy : Type 0 where
  pub signature : List ℕ
  pub people : List Person

-- one more index of the person's hand has signed
abbrev pub used_once : Person → Signing → Person
used_once p hand = record p { hand = Some (record hand { used = hand.used + 1 }) }

-- this person in place of the one of its name
abbrev pub replaced : List Person → List ℕ → Person → List Person
replaced people name p = before_first (has_name name) people ++ p ∷ after_first (has_name name) people

-- the person of this name signs a message, by hand
abbrev pub sign : List Person → List ℕ → List ℕ → Option SignedBy
sign people name message = do
  person ← person_by people name
  hand ← person.hand
  signature ← signature_of hand message
  Some (record { signature = signature; people = replaced people name (used_once person hand) })
