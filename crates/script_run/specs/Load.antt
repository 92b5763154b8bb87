-- The script of a load: two people with nodes open a channel, pay each other in turn, and close it.
use Rattle.std.specs.Prelude.{◌==◌, ◌+◌, ◌*◌, ◌/◌, ◌%◌, ◌^◌, ℕ, zero, suc, List, [], ◌∷◌, ◌++◌, replicate, Bool, true, not, if◌then◌else◌, codes}
use Rattle.std.specs.Int.{w64, to_be_bytes}
use Rattle.std.specs.Str.{bytes_eq}
use Rattle.channel_values.specs.declared.value.AssetOutcome.{AssetOutcome}
use Rattle.channel_values.specs.declared.value.Dest.TheVariants.{Person}
use Rattle.channel_values.specs.declared.value.Item.{Item}
use Rattle.channel_values.specs.declared.value.Shape.TheVariants.{Allocation}
use Rattle.lms_signatures.specs.Signing.{Signing}
use Rattle.script_reader.specs.Digests.{fresh, person_name}
use Rattle.script_reader.specs.step.Step.{Step}
use Rattle.script_reader.specs.step.Step.TheVariants as steps

-- ---- people

-- the seed of a person's key: the letter of its name 24 times, and the seed of the load in eight bytes
abbrev pub key_seed : (letter seed : ℕ) → List ℕ
key_seed letter seed = replicate 24 letter ++ to_be_bytes w64 seed

-- the person's digest, where its key's tree has height 10
abbrev pub digest_of : (letter seed : ℕ) → List ℕ
digest_of letter seed = person_name (key_seed letter seed) 10

-- the two people, A and B, have two digests
abbrev pub are_two : ℕ → Bool
are_two seed = not (bytes_eq (digest_of 65 seed) (digest_of 66 seed))

-- with a node, and one watcher
abbrev pub person : (letter seed : ℕ) → Step
person letter seed = steps.Person (record { name = letter ∷ []; seed = key_seed letter seed; h = 10; node = true; watchers = 1 })

abbrev pub people : List (List ℕ)
people = codes "A" ∷ codes "B" ∷ []

-- the signers of the two, unused
abbrev pub load_signers : ℕ → List Signing
load_signers seed = fresh (key_seed 65 seed) 10 ∷ fresh (key_seed 66 seed) 10 ∷ []

-- ---- the channel

-- for payments, with nonce 1 and duration 10
abbrev pub channel : Step
channel = steps.Channel (record { name = codes "C"; people = people; nonce = 1; app = 1; duration = 10 })

-- what the person with a digest has in the channel at first
abbrev pub stake : List ℕ → Item
stake digest = record { to = Person digest; amount = 1000000 }

abbrev pub stakes : (a b : List ℕ) → List AssetOutcome
stakes a b = record { asset = 0; shape = Allocation (stake a ∷ stake b ∷ []) } ∷ []

-- ---- payments

abbrev pub next : ℕ → ℕ
next number = (number * 6364136223846793005 + 1442695040888963407) % 2 ^ 64

-- the number at a place of the row that begins with the seed, at place 0
abbrev pub drawn : (seed place : ℕ) → ℕ
drawn seed zero = seed
drawn seed (suc place) = next (drawn seed place)

-- what the payment at a place pays, which is below 1,000
abbrev pub amount : (seed place : ℕ) → ℕ
amount seed place = drawn seed place / 2 ^ 48 % 1000

-- A pays first, and then in turn
abbrev pub payer : ℕ → List ℕ
payer place = if place % 2 == 1 then codes "A" else codes "B"

-- a payment, and a round in which it is made
abbrev pub payment : (seed place : ℕ) → List Step
payment seed place = steps.Pay (record { who = payer place; channel = codes "C"; asset = 0; amount = amount seed place }) ∷ steps.Rounds 1 ∷ []

-- the payments at the places from 1 on
abbrev pub payments : (seed count : ℕ) → List Step
payments seed zero = []
payments seed (suc count) = payments seed count ++ payment seed (suc count)

-- ---- the script

abbrev pub beginning : ℕ → List Step
beginning seed =
    person 65 seed ∷ person 66 seed ∷ channel
    ∷ steps.Open (record { who = people; channel = codes "C"; outcome = stakes (digest_of 65 seed) (digest_of 66 seed) }) ∷ steps.Rounds 8 ∷ []

abbrev pub ending : List Step
ending = steps.Close people (codes "C") ∷ steps.Rounds 6 ∷ []

-- the steps of a load
abbrev pub load_steps : (seed count : ℕ) → List Step
load_steps seed count = beginning seed ++ payments seed count ++ ending
