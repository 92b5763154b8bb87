-- What the reader knows of names is what the player knows of them, so each step that the reader passes means something.
use Rattle.std.proofs.Common.{◌≡◌, ℕ, zero, suc, ◌+◌, ◌≤◌, ◌^◌, List, [], ◌∷◌, ◌++◌, length, fold, Bool, true, false, cond, Option, Some, None, refl, sym, ◌∙◌, ap, subst, arith, lit<, append-nil, append_assoc}
use Rattle.std.proofs.lemmas.Bool.Decides.{nat_tests}
use Rattle.std.specs.Prelude.{◌&&◌, ◌||◌, ◌==◌, ◌%◌, ◌/◌, not, nat_lt, nat_le, IsSome, IsNone, All, is_some, is_ok, map, unwrap_or, Result, Ok, Err}
use Rattle.std.specs.List.{AllPass, find, list_any, list_all}
use Rattle.std.specs.Option.{option_map}
use Rattle.std.specs.Result.{result_ok}
use Rattle.std.specs.Str.{bytes_eq}
use Rattle.support_rules.proofs.Lengths.{long_outcome}
use Rattle.support_rules.specs.Ballots.{data_of}
use Rattle.channel_values.proofs.Format.{valid_again}
use Rattle.channel_values.proofs.Formats.{state_format}
use Rattle.channel_values.specs.Outcomes.{AreApart, AreBytes, IsOutcome}
use Rattle.channel_values.specs.declared.chain.Signed.{Signed}
use Rattle.channel_values.specs.declared.value.AssetOutcome.{AssetOutcome}
use Rattle.channel_values.specs.Parts.{FixedParts, IsState, fixed_with, state_with, StateParts}
use Rattle.channel_values.specs.Reading.{fixed_of}
use Rattle.lms_signatures.specs.Made.{made_bytes}
use Rattle.lms_signatures.specs.Signing.{Signing}
use Rattle.script_reader.specs.Conditions as reader
use Rattle.script_reader.specs.Context as context
use Rattle.script_reader.specs.context.Channel.{Channel as KnownChannel}
use Rattle.script_reader.specs.context.Context.{Context}
use Rattle.script_reader.specs.context.Person.{Person as KnownPerson}
use Rattle.std.proofs.lemmas.List.Elements.{All-nil, All-cons, All-head, All-tail}
use Rattle.hex.proofs.HexLemmas.{decode_pairs-digits}
use Rattle.hex.proofs.Pairs.{decode_sized-pairs}
use Rattle.hex.specs.Hex.{decode_sized, decode_pairs, is_hex_digit}
use Rattle.channel_values.specs.Spelling.{fixed, outcome, state}
use Rattle.channel_values.specs.Digests.{digest_of_state}
use Rattle.channel_values.specs.Messages.{message_of_state, message_of_challenge}
use Rattle.call_history.specs.declared.call.Call.{Call}
use Rattle.call_history.specs.Calls.{make_challenge}
use Rattle.network.specs.Ways.{Ways}
use Rattle.network.specs.Worlds.{journal}
use Rattle.script_reader.specs.Digests.{fresh, key_of, person_name}
use Rattle.script_reader.specs.Digits.{is_hex, is_lower_digit}
use Rattle.script_reader.specs.Reading.{Keeps}
use Rattle.script_reader.specs.Rules as rules
use Rattle.script_reader.specs.Script.{start, AreChecked}
use Rattle.script_reader.specs.step.Rule.TheVariants as broken
use Rattle.script_steps.specs.declared.step.PersonStep.{PersonStep}
use Rattle.script_reader.specs.step.Step.{Step}
use Rattle.script_reader.specs.step.Step.TheVariants as steps
use Rattle.further_laws.specs.Happens.{catches, IsCaught, HasCaught, EachHappens, HasOutcomes}
use Rattle.step_meanings.specs.Meanings.{Meaning, learning, doing, calling, joins_if, valid_fixed, valid_state, hand_of, with_person, with_channel, names_by, both_by, message_by, signing, meant, meaning, nameless}
use Rattle.step_meanings.specs.Chains.{state_by, listed, chain_of}
use Rattle.step_meanings.specs.Names.{fixed_by, name_of, digest_or_digits, position_of, sign_state, sign_challenge}
use Rattle.step_meanings.specs.People.{◌>>=◌, SignedBy, person_by, key_by, keys_by, sign}
use Rattle.script_play.specs.Play.{SceneOf, caught, naming, numbered, done, played, empty}
use Rattle.step_meanings.specs.declared.chains.NamedState.{NamedState}
use Rattle.step_meanings.specs.declared.effect.Effect.{Effect}
use Rattle.step_meanings.specs.declared.effect.Effect.TheVariants.{Nothing, Enter, Join, Tell, Post, Lose, Catch, Rounds}
use Rattle.step_meanings.specs.declared.names.NamedChannel.{NamedChannel}
use Rattle.step_meanings.specs.declared.names.Names.{Names}
use Rattle.step_meanings.specs.declared.people.Person.{Person}
use Rattle.script_play.proofs.Kept.{told_keeps, rounds_keep}
use Rattle.further_laws.proofs.Finding.{first, second, mapped_some, named_some, any_mapped, some_after, both_push}
use Rattle.further_laws.proofs.People.{IsHand, SamePeople, same_keys, known_key, people_more, people_push, tested_is_known, found, after_sign, signs, signed_people, apart_push}
use Rattle.lms_signatures.proofs.Lengths.{short_signature}
use Rattle.further_laws.proofs.States.{AreNamed, caught_by, named_later, named_push, named_missed, named_caught, message_there}

-- ---- what names stand for

-- the reader and the player know the same people, channels and states, but for states that were to be caught
pub record Mirrors (c : Context) (n : Names) (before : List Step) : Type 0 where
  pub people : SamePeople c.signers c.people n.people
  pub apart : AreApart (λ (p r : KnownPerson). bytes_eq p.name r.name) c.people
  pub channels : map (λ (k : KnownChannel). k.name) c.channels ≡ map (λ (k : NamedChannel). k.name) n.channels
  pub states : AreNamed c.states before n.states

known_channel : (c : Context) (n : Names) (before : List Step) → Mirrors c n before → (name : List ℕ) → context.is_channel c name ≡ true → IsSome (fixed_by n.channels name)
known_channel c n before m name e =
    mapped_some (λ (k : NamedChannel). k.fixed) _ (
    named_some (λ (k : NamedChannel). k.name) n.channels name (
    ap (λ names. list_any (λ s. bytes_eq s name) names) (sym m.channels) ∙ sym (any_mapped (λ (k : KnownChannel). k.name) c.channels name) ∙ e))

known_state : (c : Context) (n : Names) (before : List Step) → Mirrors c n before → (name : List ℕ) → context.is_state c name ≡ true → IsCaught n before name
    → IsSome (state_by n.states name)
known_state c n before m name e caught = by (list_any (catches name) before) refl
  where
    by : (b : Bool) → list_any (catches name) before ≡ b → IsSome (state_by n.states name)
    by true t = caught t
    by false t = m.states.there name e t

known_message : (c : Context) (n : Names) (before : List Step) → Mirrors c n before → (name : List ℕ) → context.is_state c name ≡ true
    → (list_any (catches name) before ≡ true → IsSome (message_by n.states name)) → IsSome (message_by n.states name)
known_message c n before m name e caught = by (list_any (catches name) before) refl
  where
    by : (b : Bool) → list_any (catches name) before ≡ b → IsSome (message_by n.states name)
    by true t = caught t
    by false t = message_there before n.states name m.states.short t (m.states.there name e t)

known_person : (c : Context) (n : Names) (before : List Step) → Mirrors c n before → (test : KnownPerson → Bool) (name : List ℕ)
    → list_any (λ (p : KnownPerson). bytes_eq p.name name && test p) c.people ≡ true → IsSome (person_by n.people name)
known_person c n before m test name e = known_key c.signers c.people n.people m.people name (tested_is_known test c.people name e)

known_hand : (c : Context) (n : Names) (before : List Step) → Mirrors c n before → (name : List ℕ) → context.is_hand c name ≡ true → IsSome (key_by n.people name)
known_hand c n before m name e = mapped_some (λ (q : Person). q.key) _ (known_person c n before m (λ (p : KnownPerson). not p.node) name e)

known_node : (c : Context) (n : Names) (before : List Step) → Mirrors c n before → (name : List ℕ) → context.is_node c name ≡ true → IsSome (person_by n.people name)
known_node c n before m name e = known_person c n before m (λ (p : KnownPerson). p.node) name e

-- the names that a form uses, one after another
one_known : (a : Bool) → ((a && true) && true) ≡ true → a ≡ true
one_known true e = refl
one_known false e = absurd (cc)

two_known : (a b : Bool) → ((a && true) && ((b && true) && true)) ≡ true → (a ≡ true) × (b ≡ true)
two_known true b e = (refl, one_known b e)
two_known false b e = absurd (cc)

three_known : (a b d : Bool) → ((a && true) && ((b && true) && ((d && true) && true))) ≡ true → (a ≡ true) × (b ≡ true) × (d ≡ true)
three_known true b d e = let h = two_known b d e in (refl, h.0, h.1)
three_known false b d e = absurd (cc)

four_known : (a b d f : Bool) → ((a && true) && ((b && true) && ((d && true) && ((f && true) && true)))) ≡ true
    → (a ≡ true) × (b ≡ true) × (d ≡ true) × (f ≡ true)
four_known true b d f e = let h = three_known b d f e in (refl, h.0, h.1, h.2)
four_known false b d f e = absurd (cc)

-- a channel, the states of a chain, and who signs
ends_known : (a states b : Bool) → ((a && true) && (states && ((b && true) && true))) ≡ true → (a ≡ true) × (b ≡ true)
ends_known true true b e = (refl, one_known b e)
ends_known true false b e = absurd (cc)
ends_known false states b e = absurd (cc)

first_known : (a states : Bool) → ((a && true) && (states && true)) ≡ true → a ≡ true
first_known true states e = refl
first_known false states e = absurd (cc)

-- after a list of names
behind_one : (who a : Bool) → (who && ((a && true) && true)) ≡ true → a ≡ true
behind_one true a e = one_known a e
behind_one false a e = absurd (cc)

behind_two : (who a b : Bool) → (who && ((a && true) && ((b && true) && true))) ≡ true → (a ≡ true) × (b ≡ true)
behind_two true a b e = two_known a b e
behind_two false a b e = absurd (cc)

behind_lists : (who ledgers guarantors a b : Bool) → (who && (ledgers && (guarantors && ((a && true) && ((b && true) && true))))) ≡ true
    → (ledgers ≡ true) × (guarantors ≡ true) × (a ≡ true) × (b ≡ true)
behind_lists true true true a b e = let h = two_known a b e in (refl, refl, h.0, h.1)
behind_lists true true false a b e = absurd (cc)
behind_lists true false guarantors a b e = absurd (cc)
behind_lists false ledgers guarantors a b e = absurd (cc)

-- ---- one look-up after another

-- what an effect makes of what names stand for: only a state that is caught gets a name
abbrev pub Becomes : Names → Effect → Names → Type 0
Becomes n (Catch name number key channel turn) n' = (o : Option Signed) × (n' ≡ naming n name key channel o)
Becomes n effect n' = n' ≡ n

abbrev Goes : Context → List Step → Option Meaning → Type 0
Goes c before None = ⊥
Goes c before (Some m) = (n' : Names) → Becomes m.names m.effect n' → Mirrors c n' before

goes : {A : Type 0} (c : Context) (before : List Step) (o : Option A) (f : A → Option Meaning) → IsSome o → ((x : A) → o ≡ Some x → Goes c before (f x)) → Goes c before (o >>= f)
goes c before None f h g = absurd (cc)
goes c before (Some x) f h g = g x refl

it_goes : (c : Context) (n : Names) (before : List Step) (o : Option Meaning) → Goes c before o
    → IsSome o × ((n' : Names) → Becomes (unwrap_or o (learning n)).names (unwrap_or o (learning n)).effect n' → Mirrors c n' before)
it_goes c n before None g = absurd g
it_goes c n before (Some m) g = (refl, g)

-- names that stay
still : (c : Context) (n : Names) (before : List Step) → Mirrors c n before → (n' : Names) → n' ≡ n → Mirrors c n' before
still c n before m n' e = subst (λ (x : Names). Mirrors c x before) (sym e) m

next : (c : Context) (n : Names) (before : List Step) (s : Step) → Mirrors c n before → Mirrors c n (before ++ s ∷ [])
next c n before s m = record { people = m.people; apart = m.apart; channels = m.channels; states = named_later c.states before s n.states m.states }

-- a step that declares nothing stays so, whether it happens or not
abbrev Stays : Names → Option Meaning → Type 0
Stays n None = Unit {0}
Stays n (Some m) = (n' : Names) → Becomes m.names m.effect n' → n' ≡ n

stays : {A : Type 0} (n : Names) (o : Option A) (f : A → Option Meaning) → ((x : A) → Stays n (f x)) → Stays n (o >>= f)
stays n None f h = tt
stays n (Some x) f h = h x

it_stays : (c : Context) (n : Names) (before : List Step) (s : Step) (o : Option Meaning) → Mirrors c n before → Stays n o
    → (n' : Names) → Becomes (unwrap_or o (learning n)).names (unwrap_or o (learning n)).effect n' → Mirrors c n' (before ++ s ∷ [])
it_stays c n before s None m h n' e = still c n (before ++ s ∷ []) (next c n before s m) n' e
it_stays c n before s (Some x) m h n' b = still c n (before ++ s ∷ []) (next c n before s m) n' (h n' b)

-- ---- people and channels

is_new_person : (a b d : Bool) → not (a || b || d) ≡ true → a ≡ false
is_new_person true b d e = absurd (cc)
is_new_person false b d e = refl

declared_person : (c : Context) (n : Names) (before : List Step) (p : PersonStep) → Mirrors c n before → context.is_new c p.name ≡ true
    → Mirrors (reader.after c (steps.Person p)) (with_person n p.name p.seed p.h p.node) (before ++ steps.Person p ∷ [])
declared_person c n before p m e =
    record {
      people = people_push c.signers c.people n.people _ _ m.people (record { name = refl; key = refl; hand = hand p.node });
      apart = apart_push c.people _ m.apart (is_new_person (context.is_person c p.name) (context.is_channel c p.name) (context.is_state c p.name) e);
      channels = m.channels;
      states = named_later c.states before (steps.Person p) n.states m.states;
    }
  where
    hand : (node : Bool) → IsHand c.signers (record { name = p.name; seed = p.seed; h = p.h; node = node; key = key_of p.seed p.h; digest = person_name p.seed p.h }) (hand_of node p.seed p.h)
    hand true = refl
    hand false = (refl, omega (arith))

valid_of : {E : Type 0} (r : Result FixedParts E) → is_ok r ≡ true → IsSome (result_ok r)
valid_of (Ok x) e = refl
valid_of (Err e') e = absurd (cc)

-- a digest is spelled
spelled : (text : List ℕ) → is_hex text ≡ true → IsSome (result_ok (decode_sized text 32))
spelled text e = by (decode_pairs-digits 0 text (even text (first (length text == 64) (list_all is_lower_digit text) e)) (digits text (second (length text == 64) (list_all is_lower_digit text) e)))
  where
    even : (text : List ℕ) → (length text == 64) ≡ true → length text % 2 ≡ 0
    even text e = grind (arith, nat_tests)

    half : (text : List ℕ) → (length text == 64) ≡ true → length text / 2 ≡ 32
    half text e = grind (arith, nat_tests)

    digit : (b : ℕ) → is_lower_digit b ≡ true → is_hex_digit b ≡ true
    digit b e = grind (arith, nat_tests)

    digits : (text : List ℕ) → list_all is_lower_digit text ≡ true → AllPass is_hex_digit text
    digits [] e = All-nil (λ b. is_hex_digit b ≡ true)
    digits (b ∷ text) e = All-cons (λ x. is_hex_digit x ≡ true) b text (digit b (first (is_lower_digit b) (list_all is_lower_digit text) e)) (digits text (second (is_lower_digit b) (list_all is_lower_digit text) e))

    by : (bytes : List ℕ) × (decode_pairs 0 text ≡ Ok bytes) → IsSome (result_ok (decode_sized text 32))
    by d = ap (λ r. is_some (result_ok r)) (decode_sized-pairs text 32 (even text (first (length text == 64) (list_all is_lower_digit text) e)) (half text (first (length text == 64) (list_all is_lower_digit text) e)) ∙ d.1)

placed_digest : (c : Context) (n : Names) (before : List Step) → Mirrors c n before → (name : List ℕ) → (is_hex name || context.is_channel c name) ≡ true
    → IsSome (digest_or_digits (fixed_by n.channels name) name)
placed_digest c n before m name e = by (fixed_by n.channels name) refl
  where
    known : (a b : Bool) → (a || b) ≡ true → b ≡ false → a ≡ true
    known true b t u = refl
    known false b t u = absurd (cc)

    not_there : (b : Bool) → context.is_channel c name ≡ b → IsNone (fixed_by n.channels name) → b ≡ false
    not_there true t none = let some = known_channel c n before m name t in absurd (cc)
    not_there false t none = refl

    by : (o : Option FixedParts) → fixed_by n.channels name ≡ o → IsSome (digest_or_digits o name)
    by (Some f) t = refl
    by None t = spelled name (known (is_hex name) (context.is_channel c name) e (not_there (context.is_channel c name) refl (ap is_some t)))

-- the channels of two names
are_named : (c : Context) (n : Names) (before : List Step) → Mirrors c n before → (a b : List ℕ) → list_all (λ x. context.is_channel c x) (a ∷ b ∷ []) ≡ true
    → IsSome (fixed_by n.channels a) × IsSome (fixed_by n.channels b)
are_named c n before m a b e =
    let one = first (context.is_channel c a) (context.is_channel c b && true) e in
    let two = first (context.is_channel c b) true (second (context.is_channel c a) (context.is_channel c b && true) e) in
    (known_channel c n before m a one, known_channel c n before m b two)

known_names : (c : Context) (n : Names) (before : List Step) → Mirrors c n before → (names : List (List ℕ)) → (length names == 2) ≡ true
    → list_all (λ x. context.is_channel c x) names ≡ true → IsSome (names_by n.channels names)
known_names c n before m [] two e = absurd (cc)
known_names c n before m (a ∷ []) two e = absurd (cc)
known_names c n before m (a ∷ b ∷ []) two e =
    let h = are_named c n before m a b e in
    some_after (option_map name_of (fixed_by n.channels a)) _ (mapped_some name_of _ h.0) (λ first is.
    some_after (option_map name_of (fixed_by n.channels b)) _ (mapped_some name_of _ h.1) (λ second was. refl))
known_names c n before m (a ∷ b ∷ d ∷ names) two e = absurd (long (length names) two)
  where
    long : (k : ℕ) → (suc (suc (suc k)) == 2) ≡ true → ⊥
    long k e = grind (arith, nat_tests)

known_both : (c : Context) (n : Names) (before : List Step) → Mirrors c n before → (names : List (List ℕ)) → (length names == 2) ≡ true
    → list_all (λ x. context.is_channel c x) names ≡ true → IsSome (both_by n.channels names)
known_both c n before m [] two e = absurd (cc)
known_both c n before m (a ∷ []) two e = absurd (cc)
known_both c n before m (a ∷ b ∷ []) two e =
    let h = are_named c n before m a b e in
    some_after (fixed_by n.channels a) _ h.0 (λ first is. some_after (fixed_by n.channels b) _ h.1 (λ second was. refl))
known_both c n before m (a ∷ b ∷ d ∷ names) two e = absurd (long (length names) two)
  where
    long : (k : ℕ) → (suc (suc (suc k)) == 2) ≡ true → ⊥
    long k e = grind (arith, nat_tests)

-- the person has a hand with an index left, signs, and is known after it
pub record CanSign (c : Context) (n : Names) (by message : List ℕ) : Type 0 where
  pub signed : SignedBy
  pub is : sign n.people by message ≡ Some signed
  pub same : SamePeople (c.signers ++ by ∷ []) c.people signed.people
  pub short : length signed.signature ≤ 9004

can_sign : (c : Context) (n : Names) (before : List Step) (by message : List ℕ) → Mirrors c n before → context.is_hand c by ≡ true → context.has_index c by ≡ true → CanSign c n by message
can_sign c n before by message m is_hand has_index =
    let a = found c.signers c.people n.people m.people m.apart by (tested_is_known (λ (p : KnownPerson). not p.node) c.people by is_hand) in
    with_hand a.person a.known a.person.hand refl a.same.hand a.there a.named (a.passes (λ (p : KnownPerson). not p.node) is_hand)
    (a.passes (λ (p : KnownPerson). nat_lt (context.signs c by) (2 ^ p.h)) has_index)
  where
    below : (a b d : ℕ) → a ≤ b → nat_lt b d ≡ true → nat_lt a d ≡ true
    below a b d l e = grind (arith, nat_tests)

    unspent : (used counted h k all : ℕ) → used ≤ counted → h ≡ k → counted ≡ all → nat_lt all (2 ^ k) ≡ true → nat_lt used (2 ^ h) ≡ true
    unspent used counted h k all le same is lt = ap (λ x. nat_lt used (2 ^ x)) same ∙ below used all (2 ^ k) (omega (arith, le, is)) lt

    has_none : (b : Bool) → b ≡ true → not b ≡ true → ⊥
    has_none true t u = cc
    has_none false t u = cc

    with_hand : (q : Person) (p : KnownPerson) (o : Option Signing) → q.hand ≡ o → IsHand c.signers p o → find (λ (x : Person). bytes_eq x.name by) n.people ≡ Some q
        → p.name ≡ by → not p.node ≡ true → nat_lt (context.signs c by) (2 ^ p.h) ≡ true → CanSign c n by message
    with_hand q p None has held there named free able = absurd (has_none p.node held free)
    with_hand q p (Some hand) has held there named free able =
        record {
          signed = record { signature = made_bytes hand.seed hand.id hand.h hand.used message; people = after_sign by n.people q hand };
          is = signs n.people by message q hand there has (unspent hand.used (context.signs c p.name) hand.h p.h (context.signs c by) held.1 held.0 (ap (context.signs c) named) able);
          same = signed_people by c.signers c.people n.people q hand m.people there has;
          short = short_signature hand.seed hand.id hand.h hand.used message;
        }

-- ---- the rules that a step keeps

named_free : (c : Context) (s : Step) → Keeps c s → reader.is_free c (reader.declares s) ≡ true
named_free c s k = first (reader.is_free c (reader.declares s)) (reader.are_known c (reader.uses s)) (first (reader.is_free c (reader.declares s) && reader.are_known c (reader.uses s)) (reader.is_single c s) k.named)

named_known : (c : Context) (s : Step) → Keeps c s → reader.are_known c (reader.uses s) ≡ true
named_known c s k = second (reader.is_free c (reader.declares s)) (reader.are_known c (reader.uses s)) (first (reader.is_free c (reader.declares s) && reader.are_known c (reader.uses s)) (reader.is_single c s) k.named)

has_part : (a b : Bool) → rules.◌>>=◌ (rules.holds broken.Limit a) (λ part. rules.holds broken.Name b) ≡ Ok 0 → a ≡ true
has_part true b e = refl
has_part false b e = absurd (cc)

-- ---- states that are signed

state_some : (s : StateParts) → IsState s → IsSome (valid_state s)
state_some s is = ap (λ r. is_some (result_ok r)) (valid_again state_format s is)

sign_fits : (a b c d : Bool) → (a && b && c && d) ≡ true → (a ≡ true) × (b ≡ true)
sign_fits true true c d e = (refl, refl)
sign_fits true false c d e = absurd (cc)
sign_fits false b c d e = absurd (cc)

data_fits : (votes : ℕ) (proposal : List AssetOutcome) → nat_le votes 3 ≡ true → IsOutcome proposal → AreBytes (outcome proposal)
    → (length (data_of (record { votes = votes; proposal = outcome proposal })) ≤ 4096) × AreBytes (data_of (record { votes = votes; proposal = outcome proposal }))
data_fits votes proposal few valid bytes = by (votes == 0)
  where
    none : AreBytes []
    none i = lit< tt

    whole : AreBytes (votes ∷ outcome proposal)
    whole zero = grind (arith, nat_tests)
    whole (suc i) = bytes i

    by : (b : Bool) → (length (cond b [] (votes ∷ outcome proposal)) ≤ 4096) × AreBytes (cond b [] (votes ∷ outcome proposal))
    by true = (omega arith, none)
    by false = (omega (arith, long_outcome proposal valid), whole)

made_some : (turn votes : ℕ) (is_final : Bool) (items proposal : List AssetOutcome) → nat_lt turn (2 ^ 48) ≡ true → nat_le votes 3 ≡ true
    → IsOutcome items × IsOutcome proposal × AreBytes (outcome proposal)
    → IsSome (valid_state (state_with turn is_final items (data_of (record { votes = votes; proposal = outcome proposal }))))
made_some turn votes is_final items proposal below few is =
    let d = data_fits votes proposal few is.1 is.2 in
    state_some (state_with turn is_final items (data_of (record { votes = votes; proposal = outcome proposal })))
    (record { turn = grind (arith, nat_tests); outcome = is.0; few = d.0; bytes = d.1 })

-- ---- steps that sign

same_signed : (a b : SignedBy) (o : Option SignedBy) → o ≡ Some a → o ≡ Some b → a ≡ b
same_signed a b o e f = cc

some_is : {X : Type 0} (o : Option X) (x : X) → o ≡ Some x → IsSome o
some_is o x e = ap is_some e

signed_goes : (c : Context) (n : Names) (before : List Step) (s : Step) (by : List ℕ) (signed : SignedBy) → Mirrors c n before → SamePeople (c.signers ++ by ∷ []) c.people signed.people
    → Mirrors (record c { signers = c.signers ++ by ∷ [] }) (record n { people = signed.people }) (before ++ s ∷ [])
signed_goes c n before s by signed m same = record { people = same; apart = m.apart; channels = m.channels; states = named_later c.states before s n.states m.states }

sign_goes : (c : Context) (n : Names) (before : List Step) (s : Step) (name channel by : List ℕ) (made : StateParts) → Mirrors c n before → context.is_channel c channel ≡ true
    → context.is_hand c by ≡ true → context.has_index c by ≡ true
    → Goes (record c { states = c.states ++ name ∷ []; signers = c.signers ++ by ∷ [] }) (before ++ s ∷ []) (signing n name channel by made)
sign_goes c n before s name channel by made m is_channel is_hand has_index =
    let after : Context = record c { states = c.states ++ name ∷ []; signers = c.signers ++ by ∷ [] } in
    goes after (before ++ s ∷ []) (fixed_by n.channels channel) _ (known_channel c n before m channel is_channel) (λ f there.
    goes after (before ++ s ∷ []) (key_by n.people by) _ (known_hand c n before m by is_hand) (λ key held.
    let can = can_sign c n before by (message_of_state (digest_of_state (name_of f) (state made))) m is_hand has_index in
    goes after (before ++ s ∷ []) (sign_state n.people by f made) _ (some_is (sign_state n.people by f made) can.signed can.is) (λ signed is.
    let same : can.signed ≡ signed = same_signed can.signed signed (sign_state n.people by f made) can.is is in
    still after _ (before ++ s ∷ []) (record {
      people = subst (λ (x : SignedBy). SamePeople (c.signers ++ by ∷ []) c.people x.people) same can.same;
      apart = m.apart;
      channels = m.channels;
      states = named_push c.states before s n.states (record { name = name; key = key; channel = name_of f; signed = record { state = made; signature = signed.signature } })
          (subst (λ (x : SignedBy). length x.signature ≤ 9004) same can.short) m.states;
    }))))

challenge_goes : (c : Context) (n : Names) (before : List Step) (s : Step) (by : List ℕ) (f : FixedParts) (l : List NamedState) (who : ℕ) (call : SignedBy → Call) → Mirrors c n before
    → context.is_hand c by ≡ true → context.has_index c by ≡ true
    → Goes (record c { signers = c.signers ++ by ∷ [] }) (before ++ s ∷ []) (sign_challenge n.people by f l who >>= λ signed. Some (calling (record n { people = signed.people }) (call signed)))
challenge_goes c n before s by f [] who call m is_hand has_index =
    still (record c { signers = c.signers ++ by ∷ [] }) n (before ++ s ∷ [])
    (signed_goes c n before s by (record { signature = []; people = n.people }) m (people_more by c.signers c.people n.people m.people))
challenge_goes c n before s by f (last ∷ earlier) who call m is_hand has_index =
    let message = message_of_challenge (digest_of_state (name_of f) (state last.signed.state)) who in
    let can = can_sign c n before by message m is_hand has_index in
    let after : Context = record c { signers = c.signers ++ by ∷ [] } in
    goes after (before ++ s ∷ []) (sign n.people by message) _ (some_is (sign n.people by message) can.signed can.is) (λ signed is.
    still after (record n { people = signed.people }) (before ++ s ∷ [])
    (signed_goes c n before s by signed m (subst (λ (x : SignedBy). SamePeople (c.signers ++ by ∷ []) c.people x.people) (same_signed can.signed signed (sign n.people by message) can.is is) can.same)))

-- ---- steps that catch

caught_goes : (c : Context) (n : Names) (before : List Step) (name from channel key digest : List ℕ) (turn : ℕ) → Mirrors c n before
    → (n' : Names) → (o : Option Signed) × (n' ≡ naming n name key digest o)
    → Mirrors (record c { states = c.states ++ name ∷ [] }) n' (before ++ caught_by name from channel turn ∷ [])
caught_goes c n before name from channel key digest turn m n' becomes = still after (naming n name key digest becomes.0) (before ++ s ∷ []) (by becomes.0) n' becomes.1
  where
    s : Step
    s = caught_by name from channel turn

    after : Context
    after = record c { states = c.states ++ name ∷ [] }

    by : (o : Option Signed) → Mirrors after (naming n name key digest o) (before ++ s ∷ [])
    by None = record { people = m.people; apart = m.apart; channels = m.channels; states = named_missed c.states before name from channel turn n.states m.states }
    by (Some signed) =
        record {
          people = m.people;
          apart = m.apart;
          channels = m.channels;
          states = named_caught c.states before from channel turn n.states (record { name = name; key = key; channel = digest; signed = signed }) m.states;
        }

-- ---- steps

-- a step means something, where what it names was caught, and the reader and the player know the same after it
pub record StepGoes (c : Context) (n : Names) (before : List Step) (s : Step) : Type 0 where
  pub happens : HasCaught n before s → IsSome (meant n s)
  pub keeps : (n' : Names) → Becomes (meaning n s).names (meaning n s).effect n' → Mirrors (reader.after c s) n' (before ++ s ∷ [])

always : (c : Context) (n : Names) (before : List Step) (s : Step) → Goes (reader.after c s) (before ++ s ∷ []) (meant n s) → StepGoes c n before s
always c n before s g = let h = it_goes (reader.after c s) n (before ++ s ∷ []) (meant n s) g in record { happens = λ caught. h.0; keeps = h.1 }

quiet : (c : Context) (n : Names) (before : List Step) (s : Step) → Mirrors c n before → (n' : Names) → n' ≡ n → Mirrors c n' (before ++ s ∷ [])
quiet c n before s m = still c n (before ++ s ∷ []) (next c n before s m)

person_goes : (c : Context) (n : Names) (before : List Step) (p : PersonStep)
    → Mirrors (reader.after c (steps.Person p)) (with_person n p.name p.seed p.h p.node) (before ++ steps.Person p ∷ [])
    → Goes (reader.after c (steps.Person p)) (before ++ steps.Person p ∷ []) (meant n (steps.Person p))
person_goes c n before p m = by p.node
  where
    by : (node : Bool) → Goes (reader.after c (steps.Person p)) (before ++ steps.Person p ∷ [])
        (Some (doing (with_person n p.name p.seed p.h p.node) (joins_if node (length n.people + 1) (fresh p.seed p.h) p.watchers)))
    by true = still _ _ _ m
    by false = still _ _ _ m

step_goes : (c : Context) (n : Names) (before : List Step) (s : Step) → Mirrors c n before → Keeps c s → HasOutcomes s → StepGoes c n before s
step_goes c n before (steps.Deposit keys) m k st =
    let s = steps.Deposit keys in
    let a = one_known (is_hex keys.channel || context.is_channel c keys.channel) (named_known c s k) in
    always c n before s (goes c (before ++ s ∷ []) (digest_or_digits (fixed_by n.channels keys.channel) keys.channel) _ (placed_digest c n before m keys.channel a) (λ to is. quiet c n before s m))
step_goes c n before (steps.Time to) m k st = always c n before (steps.Time to) (quiet c n before (steps.Time to) m)
step_goes c n before (steps.Person keys) m k st =
    let s = steps.Person keys in
    always c n before s (person_goes c n before keys (declared_person c n before keys m (named_free c s k)))
step_goes c n before (steps.Channel form) m k st =
    let s = steps.Channel form in
    let part = has_part (reader.has_fixed c form.people form.nonce form.app form.duration) (reader.is_new_channel c form.people form.nonce form.app form.duration) k.apart in
    let known = valid_of (fixed_of (fixed (fixed_with (reader.keys_in c form.people) form.nonce form.app form.duration))) part in
    always c n before s (
    goes (reader.after c s) (before ++ s ∷ []) (valid_fixed (fixed_with (keys_by n.people form.people) form.nonce form.app form.duration)) _
    (subst (λ keys. IsSome (valid_fixed (fixed_with keys form.nonce form.app form.duration))) (sym (same_keys c n.people m.people form.people)) known)
    (λ f is. still (reader.after c s) (with_channel n form.name f) (before ++ s ∷ []) (record {
      people = m.people;
      apart = m.apart;
      channels = both_push (λ (k : KnownChannel). k.name) (λ (k : NamedChannel). k.name) c.channels n.channels _ _ m.channels refl;
      states = named_later c.states before s n.states m.states;
    })))
step_goes c n before (steps.Sign keys) m k st =
    let s = steps.Sign keys in
    let a = two_known (context.is_channel c keys.channel) (context.is_hand c keys.by) (named_known c s k) in
    let f = sign_fits (nat_lt keys.turn (2 ^ 48)) (nat_le keys.votes 3) (not (keys.votes == 0) || length keys.proposal == 0) (context.has_index c keys.by) k.fit in
    always c n before s (goes (reader.after c s) (before ++ s ∷ []) _ _ (made_some keys.turn keys.votes keys.is_final keys.outcome keys.proposal f.0 f.1 st) (λ made is.
    sign_goes c n before s keys.name keys.channel keys.by made m a.0 a.1 (second _ (context.has_index c keys.by) k.fit)))
step_goes c n before (steps.Catch keys) m k st =
    let s = steps.Catch keys in
    let a = two_known (context.is_node c keys.from) (context.is_channel c keys.channel) (named_known c s k) in
    always c n before s (
    goes (reader.after c s) (before ++ s ∷ []) (person_by n.people keys.from) _ (known_node c n before m keys.from a.0) (λ p is.
    goes (reader.after c s) (before ++ s ∷ []) (fixed_by n.channels keys.channel) _ (known_channel c n before m keys.channel a.1) (λ f was.
    caught_goes c n before keys.name keys.from keys.channel p.key (name_of f) keys.turn m)))
step_goes c n before (steps.Send to state) m k st =
    let s = steps.Send to state in
    let a = two_known (context.is_node c to) (context.is_state c state) (named_known c s k) in
    record {
      happens = λ caught.
          some_after (person_by n.people to) _ (known_node c n before m to a.0) (λ p is.
          some_after (message_by n.states state) _ (known_message c n before m state a.1 caught) (λ bytes was. refl));
      keeps = it_stays c n before s (meant n s) m (stays n (person_by n.people to) _ (λ p. stays n (message_by n.states state) _ (λ bytes n' e. e)));
    }
step_goes c n before (steps.Drop to) m k st =
    let s = steps.Drop to in
    let a = one_known (context.is_node c to) (named_known c s k) in
    always c n before s (goes c (before ++ s ∷ []) (person_by n.people to) _ (known_node c n before m to a) (λ p is. quiet c n before s m))
step_goes c n before (steps.Challenge keys) m k st =
    let s = steps.Challenge keys in
    let a = ends_known (context.is_channel c keys.channel) (list_all (λ x. context.is_state c x) keys.chain) (context.is_hand c keys.by) (named_known c s k) in
    always c n before s (
    goes (reader.after c s) (before ++ s ∷ []) (fixed_by n.channels keys.channel) _ (known_channel c n before m keys.channel a.0) (λ f is.
    goes (reader.after c s) (before ++ s ∷ []) (key_by n.people keys.by) _ (known_hand c n before m keys.by a.1) (λ key has.
    challenge_goes c n before s keys.by f (listed n.states keys.chain) (position_of f.keys key)
    (λ signed. make_challenge (chain_of f (listed n.states keys.chain)) (position_of f.keys key) signed.signature) m a.1 (second _ (context.has_index c keys.by) k.fit))))
step_goes c n before (steps.Respond keys) m k st =
    let s = steps.Respond keys in
    let a = three_known (context.is_channel c keys.channel) (context.is_state c keys.from) (context.is_state c keys.state) (named_known c s k) in
    record {
      happens = λ caught.
          some_after (fixed_by n.channels keys.channel) _ (known_channel c n before m keys.channel a.0) (λ f is.
          some_after (state_by n.states keys.from) _ (known_state c n before m keys.from a.1 caught.0) (λ x was.
          some_after (state_by n.states keys.state) _ (known_state c n before m keys.state a.2 caught.1) (λ y will. refl)));
      keeps = it_stays c n before s (meant n s) m (
          stays n (fixed_by n.channels keys.channel) _ (λ f. stays n (state_by n.states keys.from) _ (λ x. stays n (state_by n.states keys.state) _ (λ y n' e. e))));
    }
step_goes c n before (steps.Refute channel answer) m k st =
    let s = steps.Refute channel answer in
    let a = two_known (context.is_channel c channel) (context.is_state c answer) (named_known c s k) in
    record {
      happens = λ caught.
          some_after (fixed_by n.channels channel) _ (known_channel c n before m channel a.0) (λ f is.
          some_after (state_by n.states answer) _ (known_state c n before m answer a.1 caught) (λ x was. refl));
      keeps = it_stays c n before s (meant n s) m (stays n (fixed_by n.channels channel) _ (λ f. stays n (state_by n.states answer) _ (λ x n' e. e)));
    }
step_goes c n before (steps.Checkpoint channel chain) m k st =
    let s = steps.Checkpoint channel chain in
    let a = first_known (context.is_channel c channel) (list_all (λ x. context.is_state c x) chain) (named_known c s k) in
    always c n before s (goes c (before ++ s ∷ []) (fixed_by n.channels channel) _ (known_channel c n before m channel a) (λ f is. quiet c n before s m))
step_goes c n before (steps.Conclude channel chain) m k st =
    let s = steps.Conclude channel chain in
    let a = first_known (context.is_channel c channel) (list_all (λ x. context.is_state c x) chain) (named_known c s k) in
    always c n before s (goes c (before ++ s ∷ []) (fixed_by n.channels channel) _ (known_channel c n before m channel a) (λ f is. quiet c n before s m))
step_goes c n before (steps.Transfer keys) m k st =
    let s = steps.Transfer keys in
    let a = two_known (context.is_channel c keys.channel) (context.is_state c keys.state) (named_known c s k) in
    record {
      happens = λ caught.
          some_after (fixed_by n.channels keys.channel) _ (known_channel c n before m keys.channel a.0) (λ f is.
          some_after (state_by n.states keys.state) _ (known_state c n before m keys.state a.1 caught) (λ x was. refl));
      keeps = it_stays c n before s (meant n s) m (stays n (fixed_by n.channels keys.channel) _ (λ f. stays n (state_by n.states keys.state) _ (λ x n' e. e)));
    }
step_goes c n before (steps.Claim keys) m k st =
    let s = steps.Claim keys in
    let a = four_known (context.is_channel c keys.guarantor) (context.is_state c keys.state) (context.is_channel c keys.target) (context.is_state c keys.target_state) (named_known c s k) in
    record {
      happens = λ caught.
          some_after (fixed_by n.channels keys.guarantor) _ (known_channel c n before m keys.guarantor a.0) (λ payer is.
          some_after (state_by n.states keys.state) _ (known_state c n before m keys.state a.1 caught.0) (λ x was.
          some_after (fixed_by n.channels keys.target) _ (known_channel c n before m keys.target a.2) (λ f has.
          some_after (state_by n.states keys.target_state) _ (known_state c n before m keys.target_state a.3 caught.1) (λ y will. refl))));
      keeps = it_stays c n before s (meant n s) m (
          stays n (fixed_by n.channels keys.guarantor) _ (λ payer. stays n (state_by n.states keys.state) _ (λ x.
          stays n (fixed_by n.channels keys.target) _ (λ f. stays n (state_by n.states keys.target_state) _ (λ y n' e. e)))));
    }
step_goes c n before (steps.Open keys) m k st =
    let s = steps.Open keys in
    let a = behind_one (list_all (λ x. context.is_node c x) keys.who) (context.is_channel c keys.channel) (named_known c s k) in
    always c n before s (goes c (before ++ s ∷ []) (fixed_by n.channels keys.channel) _ (known_channel c n before m keys.channel a) (λ f is. quiet c n before s m))
step_goes c n before (steps.OpenOn keys) m k st =
    let s = steps.OpenOn keys in
    let a = behind_two (list_all (λ x. context.is_node c x) keys.who) (context.is_channel c keys.ledger) (context.is_channel c keys.channel) (named_known c s k) in
    always c n before s (
    goes c (before ++ s ∷ []) (fixed_by n.channels keys.ledger) _ (known_channel c n before m keys.ledger a.0) (λ on is.
    goes c (before ++ s ∷ []) (fixed_by n.channels keys.channel) _ (known_channel c n before m keys.channel a.1) (λ f was. quiet c n before s m)))
step_goes c n before (steps.OpenVirtual keys) m k st =
    let s = steps.OpenVirtual keys in
    let a = behind_lists (list_all (λ x. context.is_node c x) keys.who) (list_all (λ x. context.is_channel c x) keys.ledgers) (list_all (λ x. context.is_channel c x) keys.guarantors) (context.is_channel c keys.joint)
    (context.is_channel c keys.channel) (named_known c s k) in
    let both = first (length keys.ledgers == 2 && length keys.guarantors == 2) (nat_lt keys.asset (2 ^ 32)) k.fit in
    always c n before s (
    goes c (before ++ s ∷ []) (names_by n.channels keys.ledgers) _ (known_names c n before m keys.ledgers (first (length keys.ledgers == 2) (length keys.guarantors == 2) both) a.0) (λ on is.
    goes c (before ++ s ∷ []) (both_by n.channels keys.guarantors) _ (known_both c n before m keys.guarantors (second (length keys.ledgers == 2) (length keys.guarantors == 2) both) a.1) (λ by was.
    goes c (before ++ s ∷ []) (fixed_by n.channels keys.joint) _ (known_channel c n before m keys.joint a.2) (λ j has.
    goes c (before ++ s ∷ []) (fixed_by n.channels keys.channel) _ (known_channel c n before m keys.channel a.3) (λ f will. quiet c n before s m)))))
step_goes c n before (steps.Pay keys) m k st =
    let s = steps.Pay keys in
    let a = two_known (context.is_node c keys.who) (context.is_channel c keys.channel) (named_known c s k) in
    always c n before s (goes c (before ++ s ∷ []) (fixed_by n.channels keys.channel) _ (known_channel c n before m keys.channel a.1) (λ f is. quiet c n before s m))
step_goes c n before (steps.Close who channel) m k st =
    let s = steps.Close who channel in
    let a = behind_one (list_all (λ x. context.is_node c x) who) (context.is_channel c channel) (named_known c s k) in
    always c n before s (goes c (before ++ s ∷ []) (fixed_by n.channels channel) _ (known_channel c n before m channel a) (λ f is. quiet c n before s m))
step_goes c n before (steps.Release how who channel) m k st =
    let s = steps.Release how who channel in
    let a = behind_one (list_all (λ x. context.is_node c x) who) (context.is_channel c channel) (named_known c s k) in
    always c n before s (goes c (before ++ s ∷ []) (fixed_by n.channels channel) _ (known_channel c n before m channel a) (λ f is. quiet c n before s m))
step_goes c n before (steps.Resend who channel) m k st =
    let s = steps.Resend who channel in
    let a = behind_one (list_all (λ x. context.is_node c x) who) (context.is_channel c channel) (named_known c s k) in
    always c n before s (goes c (before ++ s ∷ []) (fixed_by n.channels channel) _ (known_channel c n before m channel a) (λ f is. quiet c n before s m))
step_goes c n before (steps.Exit who) m k st = always c n before (steps.Exit who) (quiet c n before (steps.Exit who) m)
step_goes c n before (steps.Rounds count) m k st =
    let s = steps.Rounds count in
    let now = next c n before s m in
    always c n before s (still (reader.after c s) n (before ++ s ∷ []) (record { people = now.people; apart = now.apart; channels = now.channels; states = now.states }))

-- ---- plays

module _ {P : Type 0} (ways : Ways P) where
  -- what is done gives no name but that of a state that is caught
  done_becomes : (number : ℕ) (s : SceneOf P) (effect : Effect) → Becomes s.names effect (done ways number s effect).names
  done_becomes number s Nothing = refl
  done_becomes number s (Enter op) = refl
  done_becomes number s (Join who signer watchers) = refl
  done_becomes number s (Tell numbers command) = told_keeps ways number command numbers s
  done_becomes number s (Post to bytes) = refl
  done_becomes number s (Lose to) = refl
  done_becomes number s (Catch name who key channel turn) = (caught channel turn (journal ways s.world who), refl)
  done_becomes number s (Rounds count) = rounds_keep ways count s

  after_step : (c : Context) (scene : SceneOf P) (seen : List Step) (number : ℕ) (s : Step) → StepGoes c scene.names seen s
      → Mirrors (reader.after c s) (played ways scene (number, s)).names (seen ++ s ∷ [])
  after_step c scene seen number s g =
      let m : Meaning = meaning scene.names s in
      g.keeps (played ways scene (number, s)).names (done_becomes number (record scene { names = m.names }) m.effect)

  each : (c : Context) (scene : SceneOf P) (seen : List Step) (number : ℕ) → Mirrors c scene.names seen → (before later : List Step) (step : Step)
      → AreChecked c (before ++ step ∷ later) → All HasOutcomes (before ++ step ∷ later)
      → HasCaught (fold (played ways) scene (numbered number before)).names (seen ++ before) step
      → IsSome (meant (fold (played ways) scene (numbered number before)).names step)
  each c scene seen number m [] later step kept st has =
      let g = step_goes c scene.names seen step m kept.0 (All-head HasOutcomes step later st) in
      g.happens (subst (λ (xs : List Step). HasCaught scene.names xs step) (append-nil seen) has)
  each c scene seen number m (b ∷ before) later step kept st has =
      let g = step_goes c scene.names seen b m kept.0 (All-head HasOutcomes b (before ++ step ∷ later) st) in
      each (reader.after c b) (played ways scene (number, b)) (seen ++ b ∷ []) (number + 1) (after_step c scene seen number b g) before later step kept.1
      (All-tail HasOutcomes b (before ++ step ∷ later) st)
      (subst (λ (xs : List Step). HasCaught (fold (played ways) (played ways scene (number, b)) (numbered (number + 1) before)).names xs step) (sym (append_assoc seen (b ∷ []) before)) has)

  pub each_happens : (race : Bool) (ss : List Step) → AreChecked (start race) ss → All HasOutcomes ss → EachHappens ways ss
  each_happens race ss kept st before later step is has =
      each (start race) empty [] 1 nobody before later step (subst (AreChecked (start race)) is kept) (subst (All HasOutcomes) is st) has
    where
      nobody : Mirrors (start race) nameless []
      nobody = record { people = tt; apart = tt; channels = refl; states = record { there = λ name e f. absurd (cc); short = tt } }
