-- What a step commands is told by the people and channels that names stand for, and not by states.
use Rattle.std.proofs.Common.{◌≡◌, ℕ, zero, suc, Bool, true, false, cond, List, [], ◌∷◌, ◌++◌, map, flat_map, refl, sym, ◌∙◌, ap, subst, rules}
use Rattle.std.proofs.lemmas.Option.{same_Some}
use Rattle.std.specs.Prelude.{Option, Some, None, unwrap_or, slice_get, slice_set}
use Rattle.std.specs.List.{find, position_or_len}
use Rattle.std.specs.Option.{option_map}
use Rattle.std.specs.Str.{bytes_eq}
use Rattle.channel_values.proofs.Found.{found_inside, put_found}
use Rattle.channel_values.specs.Parts.{FixedParts, fixed_with}
use Rattle.call_history.specs.declared.call.Op.{Op}
use Rattle.call_history.specs.declared.call.Op.TheVariants as ops
use Rattle.network.specs.declared.command.Command.{Command}
use Rattle.network.specs.declared.command.Command.TheVariants as commands
use Rattle.script_steps.specs.Digests.{key_of}
use Rattle.step_meanings.specs.Chains.{or_none}
use Rattle.step_meanings.specs.declared.chains.NamedState.{NamedState}
use Rattle.step_meanings.specs.Commands.{command_in}
use Rattle.step_meanings.specs.Meanings.{Meaning, learning, doing, telling, joins_if, valid_fixed, names_by, both_by, ledger_funding, virtual_funding, meant, meaning}
use Rattle.step_meanings.specs.Names.{sign_challenge, fixed_by, name_of}
use Rattle.step_meanings.specs.People.{◌>>=◌, SignedBy, has_name, person_by, key_by, keys_by, signature_of, used_once, replaced, sign}
use Rattle.step_meanings.specs.declared.effect.Effect.{Effect}
use Rattle.step_meanings.specs.declared.effect.Effect.TheVariants.{Nothing, Enter, Post, Lose, Catch, Rounds}
use Rattle.step_meanings.specs.declared.names.NamedChannel.{NamedChannel}
use Rattle.step_meanings.specs.declared.names.Names.{Names}
use Rattle.step_meanings.specs.declared.people.Person.{Person}
use Rattle.script_steps.specs.declared.step.Step.{Step}
use Rattle.script_steps.specs.declared.step.Step.TheVariants as steps
use Rattle.lms_signatures.specs.Signing.{Signing}

none-eq : {A B : Type 0} (x : A) → None ≡ Some x → B
none-eq x e = absurd cc

-- ---- names that stand for the same people and channels

-- a person's name and key
abbrev card : Person → List ℕ × List ℕ
card p = (p.name, p.key)

pub record AreAlike (n m : Names) : Type 0 where
  pub people : map card n.people ≡ map card m.people
  pub channels : n.channels ≡ m.channels

pub alike_self : (n : Names) → AreAlike n n
alike_self n = record { people = refl; channels = refl }

key_on : List ℕ → List (List ℕ × List ℕ) → Option (List ℕ)
key_on name [] = None
key_on name (c ∷ cards) = cond (bytes_eq c.0 name) (Some c.1) (key_on name cards)

key-on : (people : List Person) (name : List ℕ) → key_by people name ≡ key_on name (map card people)
unfolding key_on
key-on [] name = refl
key-on (p ∷ people) name = go (bytes_eq p.name name) (key-on people name)
  where
    go : (b : Bool) → key_by people name ≡ key_on name (map card people)
        → option_map (λ (q : Person). q.key) (cond b (Some p) (find (λ (q : Person). bytes_eq q.name name) people)) ≡ cond b (Some p.key) (key_on name (map card people))
    go true rest = refl
    go false rest = rest

key-alike : (p q : List Person) (name : List ℕ) → map card p ≡ map card q → key_by p name ≡ key_by q name
key-alike p q name same = key-on p name ∙ (ap (key_on name) same ∙ sym (key-on q name))

keys-alike : (p q : List Person) (names : List (List ℕ)) → map card p ≡ map card q → keys_by p names ≡ keys_by q names
keys-alike p q [] same = refl
keys-alike p q (name ∷ names) same = λ i. or_none (key-alike p q name same i) ++ keys-alike p q names same i

cards-append : (p q : List Person) → map card (p ++ q) ≡ map card p ++ map card q
cards-append [] q = refl
cards-append (x ∷ p) q = λ i. card x ∷ cards-append p q i

-- ---- who signs keeps name and key

set-cards : (people : List Person) (place : ℕ) (old new : Person) → slice_get people place ≡ Some old → card new ≡ card old → map card (slice_set people place new) ≡ map card people
set-cards [] place old new e same = refl
set-cards (x ∷ people) zero old new e same = λ i. (same ∙ sym (ap card (same_Some x old e))) i ∷ map card people
set-cards (x ∷ people) (suc place) old new e same = λ i. card x ∷ set-cards people place old new e same i

replaced-cards : (people : List Person) (name : List ℕ) (old new : Person) → person_by people name ≡ Some old → card new ≡ card old → map card (replaced people name new) ≡ map card people
replaced-cards people name old new e same =
    ap (map card) (sym (put_found (has_name name) people old new e))
    ∙ set-cards people (position_or_len (has_name name) people) old new (found_inside (has_name name) people old e).0 same

abbrev KeepsCards : List Person → Option SignedBy → Type 0
KeepsCards people None = Unit {0}
KeepsCards people (Some s) = map card s.people ≡ map card people

after-is : {A : Type 0} (people : List Person) (o : Option A) (f : A → Option SignedBy) → ((x : A) → o ≡ Some x → KeepsCards people (f x)) → KeepsCards people (o >>= f)
after-is people None f h = tt
after-is people (Some x) f h = h x refl

sign-keeps : (people : List Person) (name message : List ℕ) → KeepsCards people (sign people name message)
sign-keeps people name message =
    after-is people (person_by people name) _ (λ person is.
    after-is people person.hand _ (λ hand has.
    after-is people (signature_of hand message) _ (λ signature made. replaced-cards people name person (used_once person hand) is refl)))

challenge-keeps : (people : List Person) (by : List ℕ) (f : FixedParts) (states : List NamedState) (who : ℕ) → KeepsCards people (sign_challenge people by f states who)
challenge-keeps people by f [] who = refl
challenge-keeps people by f (last ∷ earlier) who = sign-keeps people by _

-- ---- steps that command nothing, and declare no person and no channel

record Stays (n : Names) (m : Meaning) : Type 0 where
  people : map card m.names.people ≡ map card n.people
  channels : m.names.channels ≡ n.channels
  command : command_in m.effect ≡ None

abbrev StaysIf : Names → Option Meaning → Type 0
StaysIf n None = Unit {0}
StaysIf n (Some m) = Stays n m

after : {A : Type 0} (n : Names) (o : Option A) (f : A → Option Meaning) → ((x : A) → StaysIf n (f x)) → StaysIf n (o >>= f)
after n None f h = tt
after n (Some x) f h = h x

after-signed : (n : Names) (o : Option SignedBy) (f : SignedBy → Option Meaning) → KeepsCards n.people o → ((s : SignedBy) → map card s.people ≡ map card n.people → StaysIf n (f s)) → StaysIf n (o >>= f)
after-signed n None f k h = tt
after-signed n (Some s) f k h = h s k

whole : (n : Names) (o : Option Meaning) → StaysIf n o → Stays n (unwrap_or o (learning n))
whole n None s = record { people = refl; channels = refl; command = refl }
whole n (Some m) s = s

quiet : (n n' : Names) (effect : Effect) → map card n'.people ≡ map card n.people → n'.channels ≡ n.channels → command_in effect ≡ None → Stays n (doing n' effect)
quiet n n' effect people channels command = record { people = people; channels = channels; command = command }

-- ---- what two mean that are alike

pub record MeanAlike (a b : Meaning) : Type 0 where
  pub names : AreAlike a.names b.names
  pub command : command_in a.effect ≡ command_in b.effect

both-stay : (n m : Names) (a b : Meaning) → AreAlike n m → Stays n a → Stays m b → MeanAlike a b
both-stay n m a b same s t = record {
  names = record { people = s.people ∙ (same.people ∙ sym t.people); channels = s.channels ∙ (same.channels ∙ sym t.channels) };
  command = s.command ∙ sym t.command;
}

abbrev AlikeIf : Option Meaning → Option Meaning → Type 0
AlikeIf None None = Unit {0}
AlikeIf (Some a) (Some b) = MeanAlike a b
AlikeIf _ _ = ⊥

after-both : {A : Type 0} (o p : Option A) (f g : A → Option Meaning) → o ≡ p → ((x : A) → AlikeIf (f x) (g x)) → AlikeIf (o >>= f) (p >>= g)
after-both None None f g e h = tt
after-both (Some x) (Some y) f g e h = subst (λ z. AlikeIf (f x) (g z)) (same_Some x y e) (h x)
after-both None (Some y) f g e h = none-eq y e
after-both (Some x) None f g e h = none-eq x (sym e)

whole-both : (n m : Names) (o p : Option Meaning) → AreAlike n m → AlikeIf o p → MeanAlike (unwrap_or o (learning n)) (unwrap_or p (learning m))
whole-both n m None None same s = record { names = same; command = refl }
whole-both n m (Some a) (Some b) same s = s
whole-both n m None (Some b) same s = absurd s
whole-both n m (Some a) None same s = absurd s

tells : (n m : Names) (who who' : List (List ℕ)) (command : Command) → AreAlike n m → MeanAlike (telling n who command) (telling m who' command)
tells n m who who' command same = record { names = same; command = refl }

-- ---- steps

-- the step commands nothing, and declares no person and no channel
abbrev IsQuiet : Step → Type 0
IsQuiet (steps.Person k) = ⊥
IsQuiet (steps.Channel k) = ⊥
IsQuiet (steps.Open k) = ⊥
IsQuiet (steps.OpenOn k) = ⊥
IsQuiet (steps.OpenVirtual k) = ⊥
IsQuiet (steps.Pay k) = ⊥
IsQuiet (steps.Close who channel) = ⊥
IsQuiet (steps.Release how who channel) = ⊥
IsQuiet (steps.Resend who channel) = ⊥
IsQuiet (steps.Exit who) = ⊥
IsQuiet step = Unit {0}

learns : (n n' : Names) → map card n'.people ≡ map card n.people → n'.channels ≡ n.channels → Stays n (learning n')
learns n n' people channels = quiet n n' Nothing people channels refl

enters : (n n' : Names) (op : Op) → map card n'.people ≡ map card n.people → n'.channels ≡ n.channels → Stays n (doing n' (Enter op))
enters n n' op people channels = quiet n n' (Enter op) people channels refl

posts : (n : Names) (to bytes : List ℕ) → Stays n (doing n (Post to bytes))
posts n to bytes = quiet n n (Post to bytes) refl refl refl

loses : (n : Names) (to : List ℕ) → Stays n (doing n (Lose to))
loses n to = quiet n n (Lose to) refl refl refl

catches : (n : Names) (name : List ℕ) (number : ℕ) (key channel : List ℕ) (turn : ℕ) → Stays n (doing n (Catch name number key channel turn))
catches n name number key channel turn = quiet n n (Catch name number key channel turn) refl refl refl

stays : (n : Names) (step : Step) → IsQuiet step → StaysIf n (meant n step)
stays n (steps.Deposit k) is = search (rules, after, enters)
stays n (steps.Time to) is = enters n n (ops.Time to) refl refl
stays n (steps.Sign k) is = search (rules, after, after-signed, sign-keeps, learns)
stays n (steps.Catch k) is = search (rules, after, catches)
stays n (steps.Send to state) is = search (rules, after, posts)
stays n (steps.Drop to) is = search (rules, after, loses)
stays n (steps.Challenge k) is = search (rules, after, after-signed, challenge-keeps, enters)
stays n (steps.Respond k) is = search (rules, after, enters)
stays n (steps.Refute channel next) is = search (rules, after, enters)
stays n (steps.Checkpoint channel chain) is = search (rules, after, enters)
stays n (steps.Conclude channel chain) is = search (rules, after, enters)
stays n (steps.Transfer k) is = search (rules, after, enters)
stays n (steps.Claim k) is = search (rules, after, enters)
stays n (steps.Rounds count) is = quiet n n (Rounds count) refl refl refl
stays n (steps.Person k) is = absurd is
stays n (steps.Channel k) is = absurd is
stays n (steps.Open k) is = absurd is
stays n (steps.OpenOn k) is = absurd is
stays n (steps.OpenVirtual k) is = absurd is
stays n (steps.Pay k) is = absurd is
stays n (steps.Close who channel) is = absurd is
stays n (steps.Release how who channel) is = absurd is
stays n (steps.Resend who channel) is = absurd is
stays n (steps.Exit who) is = absurd is

joins-none : (node : Bool) (number : ℕ) (signer : Signing) (watchers : ℕ) → command_in (joins_if node number signer watchers) ≡ None
joins-none true number signer watchers = refl
joins-none false number signer watchers = refl

-- ---- what a step means, for names that are alike

module _ (n m : Names) (same : AreAlike n m) where
  quietly : (step : Step) → IsQuiet step → MeanAlike (meaning n step) (meaning m step)
  quietly step is = both-stay n m (meaning n step) (meaning m step) same (whole n (meant n step) (stays n step is)) (whole m (meant m step) (stays m step is))

  fixed-alike : (name : List ℕ) → fixed_by n.channels name ≡ fixed_by m.channels name
  fixed-alike name = ap (λ (channels : List NamedChannel). fixed_by channels name) same.channels

  names-alike : (name : List ℕ) → option_map name_of (fixed_by n.channels name) ≡ option_map name_of (fixed_by m.channels name)
  names-alike name = ap (option_map name_of) (fixed-alike name)

  pub meaning_alike : (step : Step) → MeanAlike (meaning n step) (meaning m step)
  meaning_alike (steps.Person k) = record {
    names = record {
      people = cards-append n.people _ ∙ (ap (λ (cards : List (List ℕ × List ℕ)). cards ++ (k.name, key_of k.seed k.h) ∷ []) same.people ∙ sym (cards-append m.people _));
      channels = same.channels;
    };
    command = joins-none k.node _ _ k.watchers ∙ sym (joins-none k.node _ _ k.watchers);
  }
  meaning_alike (steps.Channel k) =
      whole-both n m (meant n (steps.Channel k)) (meant m (steps.Channel k)) same
      (after-both (valid_fixed (fixed_with (keys_by n.people k.people) k.nonce k.app k.duration)) (valid_fixed (fixed_with (keys_by m.people k.people) k.nonce k.app k.duration)) _ _
      (ap (λ (keys : List (List ℕ)). valid_fixed (fixed_with keys k.nonce k.app k.duration)) (keys-alike n.people m.people k.people same.people))
      (λ f. record { names = record { people = same.people; channels = ap (λ (channels : List NamedChannel). channels ++ record { name = k.name; fixed = f } ∷ []) same.channels }; command = refl }))
  meaning_alike (steps.Open k) =
      whole-both n m _ _ same (after-both (fixed_by n.channels k.channel) (fixed_by m.channels k.channel) _ _ (fixed-alike k.channel) (λ f. tells n m k.who k.who (commands.Open f k.outcome) same))
  meaning_alike (steps.OpenOn k) =
      whole-both n m _ _ same
      (after-both (fixed_by n.channels k.ledger) (fixed_by m.channels k.ledger) _ _ (fixed-alike k.ledger) (λ on.
      after-both (fixed_by n.channels k.channel) (fixed_by m.channels k.channel) _ _ (fixed-alike k.channel) (λ f. tells n m k.who k.who (commands.OpenOn (ledger_funding k on f)) same)))
  meaning_alike (steps.OpenVirtual k) =
      whole-both n m _ _ same
      (after-both (names_by n.channels k.ledgers) (names_by m.channels k.ledgers) _ _ (ap (λ (channels : List NamedChannel). names_by channels k.ledgers) same.channels) (λ on.
      after-both (both_by n.channels k.guarantors) (both_by m.channels k.guarantors) _ _ (ap (λ (channels : List NamedChannel). both_by channels k.guarantors) same.channels) (λ by.
      after-both (fixed_by n.channels k.joint) (fixed_by m.channels k.joint) _ _ (fixed-alike k.joint) (λ j.
      after-both (fixed_by n.channels k.channel) (fixed_by m.channels k.channel) _ _ (fixed-alike k.channel) (λ f.
      tells n m k.who k.who (commands.OpenVirtual (virtual_funding k on by j f)) same)))))
  meaning_alike (steps.Pay k) =
      whole-both n m _ _ same
      (after-both (fixed_by n.channels k.channel) (fixed_by m.channels k.channel) _ _ (fixed-alike k.channel) (λ f. tells n m (k.who ∷ []) (k.who ∷ []) (commands.Pay (name_of f) k.asset k.amount) same))
  meaning_alike (steps.Close who channel) =
      whole-both n m _ _ same
      (after-both (fixed_by n.channels channel) (fixed_by m.channels channel) _ _ (fixed-alike channel) (λ f. tells n m who who (commands.Close (name_of f)) same))
  meaning_alike (steps.Release how who channel) =
      whole-both n m _ _ same
      (after-both (fixed_by n.channels channel) (fixed_by m.channels channel) _ _ (fixed-alike channel) (λ f. tells n m who who (commands.Release how (name_of f)) same))
  meaning_alike (steps.Resend who channel) =
      whole-both n m _ _ same
      (after-both (fixed_by n.channels channel) (fixed_by m.channels channel) _ _ (fixed-alike channel) (λ f. tells n m who who (commands.Resend (name_of f)) same))
  meaning_alike (steps.Exit who) = tells n m who who commands.Exit same
  meaning_alike (steps.Deposit k) = quietly (steps.Deposit k) tt
  meaning_alike (steps.Time to) = quietly (steps.Time to) tt
  meaning_alike (steps.Sign k) = quietly (steps.Sign k) tt
  meaning_alike (steps.Catch k) = quietly (steps.Catch k) tt
  meaning_alike (steps.Send to state) = quietly (steps.Send to state) tt
  meaning_alike (steps.Drop to) = quietly (steps.Drop to) tt
  meaning_alike (steps.Challenge k) = quietly (steps.Challenge k) tt
  meaning_alike (steps.Respond k) = quietly (steps.Respond k) tt
  meaning_alike (steps.Refute channel next) = quietly (steps.Refute channel next) tt
  meaning_alike (steps.Checkpoint channel chain) = quietly (steps.Checkpoint channel chain) tt
  meaning_alike (steps.Conclude channel chain) = quietly (steps.Conclude channel chain) tt
  meaning_alike (steps.Transfer k) = quietly (steps.Transfer k) tt
  meaning_alike (steps.Claim k) = quietly (steps.Claim k) tt
  meaning_alike (steps.Rounds count) = quietly (steps.Rounds count) tt
