-- Where no two digests of what steps declare are the same, each is new where it is declared; and the other way round.
use Rattle.std.proofs.Common.{◌≡◌, ℕ, List, [], ◌∷◌, ◌++◌, Bool, true, false, not, ap, sym, refl, ◌∙◌}
use Rattle.std.specs.Prelude.{◌||◌, map, Ok}
use Rattle.std.specs.List.{fold, list_any}
use Rattle.std.specs.Str.{bytes_eq}
use Rattle.std.proofs.lemmas.List.{map-append}
use Rattle.std.proofs.lemmas.List.Folds.{list_any-append}
use Rattle.script_reader.specs.Conditions.{after, has_fixed, keys_in}
use Rattle.script_reader.specs.Context.{repeats}
use Rattle.script_reader.specs.Digests.{channel_name, key_of, person_name}
use Rattle.script_reader.specs.Rules.{◌>>=◌, holds}
use Rattle.script_reader.specs.context.Channel.{Channel}
use Rattle.script_reader.specs.context.Context.{Context}
use Rattle.script_reader.specs.context.Person.{Person}
use Rattle.script_reader.specs.step.Rule.TheVariants as rules
use Rattle.script_steps.specs.declared.step.ChannelStep.{ChannelStep}
use Rattle.script_steps.specs.declared.step.PersonStep.{PersonStep}
use Rattle.script_reader.specs.step.Step.{Step}
use Rattle.script_reader.specs.step.Step.TheVariants as steps
use Rattle.hop_script.specs.Hop.{AreApart}

-- ---- one name more

turned : (a e r l : Bool) → ((a || (e || false)) || (r || l)) ≡ ((a || r) || (e || l))
turned true e r l = refl
turned false true true l = refl
turned false true false l = refl
turned false false true l = refl
turned false false false l = refl

repeats-push : (xs : List (List ℕ)) (y : List ℕ) → repeats (xs ++ y ∷ []) ≡ (repeats xs || list_any (λ x. bytes_eq x y) xs)
repeats-push [] y = refl
repeats-push (x ∷ xs) y =
    ap (λ (b : Bool). b || repeats (xs ++ y ∷ [])) (list_any-append (bytes_eq x) xs (y ∷ []))
    ∙ ap (λ (b : Bool). (list_any (bytes_eq x) xs || (bytes_eq x y || false)) || b) (repeats-push xs y)
    ∙ turned (list_any (bytes_eq x) xs) (bytes_eq x y) (repeats xs) (list_any (λ z. bytes_eq z y) xs)

any-mapped : {X : Type 0} (f : X → List ℕ) (xs : List X) (y : List ℕ) → list_any (λ x. bytes_eq x y) (map f xs) ≡ list_any (λ x. bytes_eq (f x) y) xs
any-mapped f [] y = refl
any-mapped f (x ∷ xs) y = ap (λ (b : Bool). bytes_eq (f x) y || b) (any-mapped f xs y)

-- with one more, that no other has
more : {X : Type 0} (f : X → List ℕ) (xs : List X) (x : X) → repeats (map f (xs ++ x ∷ [])) ≡ (repeats (map f xs) || list_any (λ z. bytes_eq (f z) (f x)) xs)
more f xs x =
    ap repeats (map-append f xs (x ∷ []))
    ∙ repeats-push (map f xs) (f x)
    ∙ ap (λ (b : Bool). repeats (map f xs) || b) (any-mapped f xs (f x))

both-false : (a b : Bool) → a ≡ false → b ≡ false → (a || b) ≡ false
both-false false b e f = f
both-false true b e f = absurd cc

pub left_false : (a b : Bool) → (a || b) ≡ false → a ≡ false
left_false false b e = refl
left_false true b e = absurd cc

pub right_false : (a b : Bool) → (a || b) ≡ false → b ≡ false
right_false false b e = e
right_false true b e = absurd cc

-- ---- what is declared

abbrev new-person : PersonStep → Person
new-person k = record { name = k.name; seed = k.seed; h = k.h; node = k.node; key = key_of k.seed k.h; digest = person_name k.seed k.h }

abbrev new-channel : Context → ChannelStep → Channel
new-channel c k = record { name = k.name; digest = channel_name (keys_in c k.people) k.nonce k.app k.duration }

-- no two people have one digest, and no two channels
pub record Clean (c : Context) : Type 0 where
  pub people : repeats (map (λ (p : Person). p.digest) c.people) ≡ false
  pub channels : repeats (map (λ (k : Channel). k.digest) c.channels) ≡ false

-- what declares a person or a channel
pub data Declaration : Type 0 where
  of-person : PersonStep → Declaration
  of-channel : ChannelStep → Declaration

abbrev pub step : Declaration → Step
step (of-person s) = steps.Person s
step (of-channel s) = steps.Channel s

-- the fixed part of each channel keeps the limits of fixed parts
abbrev pub AreFixed : Context → List Declaration → Type 0
AreFixed c [] = Unit {0}
AreFixed c (of-person s ∷ ds) = AreFixed (after c (steps.Person s)) ds
AreFixed c (of-channel s ∷ ds) =
    (has_fixed c s.people s.nonce s.app s.duration ≡ true) × AreFixed (after c (steps.Channel s)) ds

is-new : (b : Bool) → holds rules.Name (not b) ≡ Ok 0 → b ≡ false
is-new false e = refl
is-new true e = absurd cc

new-is : (b : Bool) → b ≡ false → holds rules.Name (not b) ≡ Ok 0
new-is false e = refl
new-is true e = absurd cc

is-new-channel : (limits b : Bool) → (holds rules.Limit limits >>= λ part. holds rules.Name (not b)) ≡ Ok 0 → b ≡ false
is-new-channel true b e = is-new b e
is-new-channel false b e = absurd cc

new-channel-is : (limits b : Bool) → limits ≡ true → b ≡ false → (holds rules.Limit limits >>= λ part. holds rules.Name (not b)) ≡ Ok 0
new-channel-is true b fits e = new-is b e
new-channel-is false b fits e = absurd cc

-- ---- forward

pub clean : (c : Context) (ds : List Declaration) → Clean c → AreApart c (map step ds) → Clean (fold after c (map step ds))
clean c [] k a = k
clean c (of-person s ∷ ds) k a =
    clean (after c (steps.Person s)) ds
    (record {
      people = more (λ (p : Person). p.digest) c.people (new-person s) ∙ both-false _ _ k.people (is-new _ a.0);
      channels = k.channels;
    }) a.1
clean c (of-channel s ∷ ds) k a =
    clean (after c (steps.Channel s)) ds
    (record {
      people = k.people;
      channels = more (λ (x : Channel). x.digest) c.channels (new-channel c s) ∙ both-false _ _ k.channels (is-new-channel _ _ a.0);
    }) a.1

-- ---- and back

pub was_clean : (c : Context) (ds : List Declaration) → Clean (fold after c (map step ds)) → Clean c
was_clean c [] k = k
was_clean c (of-person s ∷ ds) k =
    let l = was_clean (after c (steps.Person s)) ds k in
    record { people = left_false _ _ (sym (more (λ (p : Person). p.digest) c.people (new-person s)) ∙ l.people); channels = l.channels }
was_clean c (of-channel s ∷ ds) k =
    let l = was_clean (after c (steps.Channel s)) ds k in
    record { people = l.people; channels = left_false _ _ (sym (more (λ (x : Channel). x.digest) c.channels (new-channel c s)) ∙ l.channels) }

pub apart : (c : Context) (ds : List Declaration) → AreFixed c ds → Clean (fold after c (map step ds)) → AreApart c (map step ds)
apart c [] fixed k = tt
apart c (of-person s ∷ ds) fixed k =
    let l = was_clean (after c (steps.Person s)) ds k in (
      new-is _ (right_false _ _ (sym (more (λ (p : Person). p.digest) c.people (new-person s)) ∙ l.people)),
      apart (after c (steps.Person s)) ds fixed k,
    )
apart c (of-channel s ∷ ds) fixed k =
    let l = was_clean (after c (steps.Channel s)) ds k in (
      new-channel-is _ _ fixed.0 (right_false _ _ (sym (more (λ (x : Channel). x.digest) c.channels (new-channel c s)) ∙ l.channels)),
      apart (after c (steps.Channel s)) ds fixed.1 k,
    )
