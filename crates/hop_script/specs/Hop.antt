-- The script of a hop: A and B pay each other over two intermediaries. A has a ledger with I1, I1 one with I2, and I2 one with
-- B. A and I2 open a virtual ledger through I1, and A and B a channel that stands on it and on the last ledger.
use Rattle.std.specs.Prelude.{◌≡◌, ◌&&◌, ℕ, zero, suc, List, [], ◌∷◌, ◌++◌, map, replicate, Bool, true, false, not, ⊤, Ok, codes}
use Rattle.std.specs.List.{fold}
use Rattle.std.specs.Str.{bytes_eq}
use Rattle.network.specs.declared.command.Route.TheVariants.{Ledger, Onward}
use Rattle.channel_values.specs.Parts.{IsKey}
use Rattle.channel_values.specs.declared.value.AssetOutcome.{AssetOutcome}
use Rattle.channel_values.specs.declared.value.Dest.TheVariants.{Person as ToPerson}
use Rattle.channel_values.specs.declared.value.Item.{Item}
use Rattle.channel_values.specs.declared.value.Shape.TheVariants.{Allocation}
use Rattle.script_reader.specs.Conditions.{after, distinct, fits}
use Rattle.script_reader.specs.Context.{repeats}
use Rattle.script_reader.specs.Digests.{key_of}
use Rattle.script_reader.specs.Script.{start}
use Rattle.script_reader.specs.context.Context.{Context}
use Rattle.script_reader.specs.context.Person.{Person}
use Rattle.script_reader.specs.step.Step.{Step}
use Rattle.script_reader.specs.step.Step.TheVariants as steps
use Rattle.script_reader.specs.step.StepFault.{StepFault}
use Rattle.script_reader.specs.step.StepFault.TheVariants as stepfaults
use Rattle.hop_script.specs.declared.ending.Ending.{Ending}
use Rattle.hop_script.specs.declared.ending.Ending.TheVariants.{Close, Exit}
use Rattle.hop_script.specs.declared.fault.HopFault.{HopFault}
use Rattle.hop_script.specs.declared.fault.HopFault.TheVariants as faults

-- ---- people

-- with a node and one watcher; the seed has this byte alone, and the key's tree height 10
abbrev pub person : List ℕ → ℕ → Step
person name letter = steps.Person (record { name = name; seed = replicate 32 letter; h = 10; node = true; watchers = 1 })

abbrev pub people : List Step
people =
    person (codes "A") 0x41 ∷ person (codes "I1") 0x31 ∷ person (codes "I2") 0x32 ∷ person (codes "B") 0x42 ∷ []

-- ---- channels: of consensus, of fixed outcomes as guarantors are, and of payments

abbrev pub channel : List ℕ → List (List ℕ) → (nonce app : ℕ) → Step
channel name who nonce app = steps.Channel (record { name = name; people = who; nonce = nonce; app = app; duration = 5 })

abbrev pub two : (first second : List ℕ) → List (List ℕ)
two first second = first ∷ second ∷ []

abbrev pub three : (first middle second : List ℕ) → List (List ℕ)
three first middle second = first ∷ middle ∷ second ∷ []

abbrev pub ledgers : List Step
ledgers =
    channel (codes "LA") (two (codes "A") (codes "I1")) 1 0
    ∷ channel (codes "LI") (two (codes "I1") (codes "I2")) 2 0
    ∷ channel (codes "LB") (two (codes "I2") (codes "B")) 3 0 ∷ []

-- what the virtual ledger takes: the guarantors of its two people, the joint channel and itself
abbrev pub virtual_ledger : List Step
virtual_ledger =
    channel (codes "GA1") (two (codes "A") (codes "I1")) 4 2
    ∷ channel (codes "GB1") (two (codes "I1") (codes "I2")) 5 2
    ∷ channel (codes "J1") (three (codes "A") (codes "I1") (codes "I2")) 6 0
    ∷ channel (codes "VL") (two (codes "A") (codes "I2")) 7 0 ∷ []

-- and what the channel of A and B does
abbrev pub onward : List Step
onward =
    channel (codes "GA2") (two (codes "A") (codes "I2")) 8 2
    ∷ channel (codes "GB2") (two (codes "I2") (codes "B")) 9 2
    ∷ channel (codes "J2") (three (codes "A") (codes "I2") (codes "B")) 10 0
    ∷ channel (codes "X2") (two (codes "A") (codes "B")) 11 1 ∷ []

abbrev pub channels : List Step
channels = ledgers ++ virtual_ledger ++ onward

-- the steps that declare all of them
abbrev pub declared : List Step
declared = people ++ channels

-- what is declared with the people, and then with the channels
abbrev pub known_people : Context
known_people = fold after (start false) people

abbrev pub known : Context
known = fold after known_people channels

abbrev pub declared_people : List Person
declared_people = known_people.people

-- no two people have one digest, and no two channels
abbrev pub are_apart : Bool
are_apart = not (repeats (map (λ p. p.digest) known.people)) && not (repeats (map (λ k. k.digest) known.channels))

-- ---- what steps keep as they are entered

-- each is within its limits, by what those before it declare
abbrev pub AreFit : Context → List Step → Type 0
AreFit c [] = ⊤
AreFit c (s ∷ ss) = (fits c s ≡ true) × AreFit (after c s) ss

-- each declares what no step before it does
abbrev pub AreApart : Context → List Step → Type 0
AreApart c [] = ⊤
AreApart c (s ∷ ss) = (distinct c s ≡ Ok 0) × AreApart (after c s) ss

-- what is told of a step that breaks a rule
abbrev pub fault_of : StepFault → HopFault
fault_of stepfaults.NoMemory = faults.NoMemory
fault_of (stepfaults.Broken rule) = faults.OneName

-- the keys of the people are some of the format
pub record HaveKeys : Type 0 where
  pub a : IsKey (key_of (replicate 32 0x41) 10)
  pub near : IsKey (key_of (replicate 32 0x31) 10)
  pub far : IsKey (key_of (replicate 32 0x32) 10)
  pub b : IsKey (key_of (replicate 32 0x42) 10)

-- ---- openings

-- the rounds in which what a step commands is done
abbrev pub settled : Step → List Step
settled step = step ∷ steps.Rounds 64 ∷ []

-- what a person has in a ledger at first
abbrev pub side : List ℕ → Item
side digest = record { to = ToPerson digest; amount = 100 }

abbrev pub sides : (first second : List ℕ) → List AssetOutcome
sides first second = record { asset = 0; shape = Allocation (side first ∷ side second ∷ []) } ∷ []

abbrev pub opened : List ℕ → (first second : Person) → Step
opened ledger first second = steps.Open (record { who = two first.name second.name; channel = ledger; outcome = sides first.digest second.digest })

-- the people of each ledger have two digests
abbrev pub AreOpened : List Person → Type 0
AreOpened (a ∷ near ∷ far ∷ b ∷ []) =
    (bytes_eq a.digest near.digest ≡ false) × (bytes_eq near.digest far.digest ≡ false) × (bytes_eq far.digest b.digest ≡ false)
AreOpened _ = ⊥

abbrev pub opened_ledgers : List Person → List Step
opened_ledgers (a ∷ near ∷ far ∷ b ∷ []) =
    settled (opened (codes "LA") a near) ++ settled (opened (codes "LI") near far) ++ settled (opened (codes "LB") far b)
opened_ledgers _ = []

abbrev pub opened_virtual : Step
opened_virtual =
    steps.OpenVirtual (record {
      who = three (codes "A") (codes "I1") (codes "I2");
      route = Ledger;
      ledgers = two (codes "LA") (codes "LI");
      guarantors = two (codes "GA1") (codes "GB1");
      joint = codes "J1";
      channel = codes "VL";
      asset = 0;
      amounts = (60, 20);
    })

abbrev pub opened_onward : Step
opened_onward =
    steps.OpenVirtual (record {
      who = three (codes "A") (codes "I2") (codes "B");
      route = Onward;
      ledgers = two (codes "VL") (codes "LB");
      guarantors = two (codes "GA2") (codes "GB2");
      joint = codes "J2";
      channel = codes "X2";
      asset = 0;
      amounts = (40, 10);
    })

abbrev pub opened_virtuals : List Step
opened_virtuals = settled opened_virtual ++ settled opened_onward

abbrev pub openings : List Step
openings = opened_ledgers declared_people ++ opened_virtuals

-- ---- payments

-- a payment, and the round in which it is made
abbrev pub payment : List ℕ → ℕ → List Step
payment who amount = steps.Pay (record { who = who; channel = codes "X2"; asset = 0; amount = amount }) ∷ steps.Rounds 1 ∷ []

-- 1 by A, and nothing by B, whose turn is next then
abbrev pub exchange : List Step
exchange = payment (codes "A") 1 ++ payment (codes "B") 0

-- so many of them
abbrev pub payments : ℕ → List Step
payments zero = []
payments (suc count) = payments count ++ exchange

-- ---- the end

abbrev pub virtual_closes : List Step
virtual_closes =
    settled (steps.Close (three (codes "A") (codes "I2") (codes "B")) (codes "X2"))
    ++ settled (steps.Close (three (codes "A") (codes "I1") (codes "I2")) (codes "VL"))

abbrev pub ledger_closes : List Step
ledger_closes =
    settled (steps.Close (two (codes "A") (codes "I1")) (codes "LA"))
    ++ settled (steps.Close (two (codes "I1") (codes "I2")) (codes "LI"))
    ++ settled (steps.Close (two (codes "I2") (codes "B")) (codes "LB"))

abbrev pub closes : List Step
closes = virtual_closes ++ ledger_closes

abbrev pub everyone : List (List ℕ)
everyone = codes "A" ∷ codes "I1" ∷ codes "I2" ∷ codes "B" ∷ []

-- time enough for each challenge
abbrev pub exits : List Step
exits = steps.Exit everyone ∷ steps.Rounds 8 ∷ steps.Time 5 ∷ steps.Rounds 12 ∷ []

abbrev pub ending_steps : Ending → List Step
ending_steps Close = closes
ending_steps Exit = exits

-- ---- the script

-- the steps of a hop
abbrev pub hop_steps : Ending → ℕ → List Step
hop_steps ending count = declared ++ openings ++ payments count ++ ending_steps ending
