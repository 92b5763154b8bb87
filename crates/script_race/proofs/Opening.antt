-- The channels that the commands of a race open last, since each that is declared does.
use Rattle.std.proofs.Common.{◌≡◌, ◌∙◌, ℕ, zero, suc, Bool, true, false, cond, not, List, [], ◌∷◌, ◌++◌, Option, Some, None, refl, sym, ap, subst, inl, inr, ◌⊎◌}
use Rattle.std.specs.Prelude.{All, unwrap_or, ◌==◌}
use Rattle.std.specs.List.{find}
use Rattle.std.specs.Option.{option_map}
use Rattle.std.specs.Str.{bytes_eq}
use Rattle.std.proofs.lemmas.Bool.{eq-eqb}
use Rattle.std.proofs.lemmas.List.Elements.{All-head, All-tail}
use Rattle.support_rules.specs.Ballots.{data_of}
use Rattle.channel_values.specs.Parts.{FixedParts, StateParts, fixed_with, state_with}
use Rattle.channel_values.specs.Spelling.{outcome}
use Rattle.channel_safety.specs.Journals.{In}
use Rattle.channel_safety.proofs.Members.{In-append_cases}
use Rattle.network.specs.declared.command.Command.{Command}
use Rattle.network.specs.declared.command.Command.TheVariants as commands
use Rattle.channel_node.specs.Openings.{opened_by}
use Rattle.step_meanings.specs.Chains.{state_by, listed}
use Rattle.step_meanings.specs.Commands.{command_in, command_behind, command_of}
use Rattle.step_meanings.specs.Meanings.{Meaning, learning, joins_if, valid_fixed, valid_state, signing, names_by, both_by, message_by, meant, meaning, nameless}
use Rattle.step_meanings.specs.Names.{fixed_by, name_of, digest_or_digits, position_of, sign_state, sign_challenge}
use Rattle.step_meanings.specs.declared.effect.Effect.{Effect}
use Rattle.step_meanings.specs.declared.effect.Effect.TheVariants.{Nothing, Enter, Join, Tell, Post, Lose, Catch, Rounds}
use Rattle.step_meanings.specs.declared.names.NamedChannel.{NamedChannel}
use Rattle.step_meanings.specs.declared.names.Names.{Names}
use Rattle.step_meanings.specs.People.{◌>>=◌, person_by, key_by, keys_by}
use Rattle.script_steps.specs.Bounds.{Fits}
use Rattle.script_steps.specs.Conditions.{runs_in_race}
use Rattle.script_steps.specs.declared.step.Step.{Step}
use Rattle.script_steps.specs.declared.step.Step.TheVariants as steps
use Rattle.lms_signatures.specs.Signing.{Signing}
use Rattle.script_race.specs.CommandLaws.{Lasts, CommandsOpenLasting}
use Rattle.script_race.proofs.Durations.{same_duration}

-- the channels that have names last
abbrev AllLast : List NamedChannel → Type 0
AllLast channels = (c : NamedChannel) → In c channels → Lasts c.fixed

-- what is told opens channels that last
abbrev OpensLasting : Command → Type 0
OpensLasting command = (f : FixedParts) → In f (opened_by command) → Lasts f

abbrev TellsLasting : Effect → Type 0
TellsLasting (Tell numbers command) = OpensLasting command
TellsLasting effect = Unit {0}

abbrev IsGood : Option Meaning → Type 0
IsGood None = Unit {0}
IsGood (Some m) = AllLast m.names.channels × TellsLasting m.effect

bind_good : {A : Type 0} (o : Option A) (f : A → Option Meaning) → ((x : A) → o ≡ Some x → IsGood (f x)) → IsGood (o >>= f)
bind_good None f each = tt
bind_good (Some x) f each = each x refl

-- ---- a channel by its name

found_in : {A : Type 0} (test : A → Bool) (xs : List A) (x : A) → find test xs ≡ Some x → In x xs
found_in test [] x e = absurd cc
found_in test (y ∷ ys) x e = go (test y) (found_in test ys x) e
  where
    go : (b : Bool) → (find test ys ≡ Some x → In x ys) → cond b (Some y) (find test ys) ≡ Some x → In x (y ∷ ys)
    go true later is = inl cc
    go false later is = inr (later is)

by_map : (o : Option NamedChannel) (f : FixedParts) → option_map (λ (c : NamedChannel). c.fixed) o ≡ Some f → (c : NamedChannel) × (o ≡ Some c) × (c.fixed ≡ f)
by_map None f e = absurd cc
by_map (Some c) f e = (c, refl, cc)

module _ (n : Names) (last : AllLast n.channels) where
  named_lasts : (name : List ℕ) (f : FixedParts) → fixed_by n.channels name ≡ Some f → Lasts f
  named_lasts name f e =
      let by = by_map (find (λ (c : NamedChannel). bytes_eq c.name name) n.channels) f e in
      subst Lasts by.2 (last by.0 (found_in (λ (c : NamedChannel). bytes_eq c.name name) n.channels by.0 by.1))

  -- nothing is told, and no channel is declared
  stays : AllLast n.channels × Unit {0}
  stays = (last, tt)

  joins : (node : Bool) (number : ℕ) (signer : Signing) (watchers : ℕ) → TellsLasting (joins_if node number signer watchers)
  joins true number signer watchers = tt
  joins false number signer watchers = tt

  one_more : (name : List ℕ) (f : FixedParts) → Lasts f → AllLast (n.channels ++ record { name = name; fixed = f } ∷ [])
  one_more name f lasts c i = by (In-append_cases c n.channels (record { name = name; fixed = f } ∷ []) i)
    where
      by : In c n.channels ⊎ In c (record { name = name; fixed = f } ∷ []) → Lasts c.fixed
      by (inl j) = last c j
      by (inr (inl same)) = subst (λ (x : NamedChannel). Lasts x.fixed) (sym same) lasts
      by (inr (inr none)) = absurd none

  one : (f g : FixedParts) → Lasts f → In g (f ∷ []) → Lasts g
  one f g lasts (inl same) = subst Lasts (sym same) lasts
  one f g lasts (inr none) = absurd none

  -- both of two names
  both_last : (names : List (List ℕ)) (by : FixedParts × FixedParts) → both_by n.channels names ≡ Some by → Lasts by.0 × Lasts by.1
  both_last [] by e = absurd cc
  both_last (a ∷ []) by e = absurd cc
  both_last (a ∷ b ∷ []) by e = go (fixed_by n.channels a) (fixed_by n.channels b) refl refl e
    where
      go : (o p : Option FixedParts) → fixed_by n.channels a ≡ o → fixed_by n.channels b ≡ p → (o >>= λ first. p >>= λ second. Some (first, second)) ≡ Some by → Lasts by.0 × Lasts by.1
      go None p x y e = absurd cc
      go (Some f) None x y e = absurd cc
      go (Some f) (Some g) x y e =
          let same : (f, g) ≡ by = some-is (f, g) by e in
          (subst Lasts (ap (λ (z : FixedParts × FixedParts). z.0) same) (named_lasts a f x), subst Lasts (ap (λ (z : FixedParts × FixedParts). z.1) same) (named_lasts b g y))
        where
          some-is : (p q : FixedParts × FixedParts) → Some p ≡ Some q → p ≡ q
          some-is p q e = cc
  both_last (a ∷ b ∷ c ∷ rest) by e = absurd cc

  four : (a b j f g : FixedParts) → Lasts a → Lasts b → Lasts j → Lasts f → In g (a ∷ b ∷ j ∷ f ∷ []) → Lasts g
  four a b j f g x y z w (inl same) = subst Lasts (sym same) x
  four a b j f g x y z w (inr (inl same)) = subst Lasts (sym same) y
  four a b j f g x y z w (inr (inr (inl same))) = subst Lasts (sym same) z
  four a b j f g x y z w (inr (inr (inr (inl same)))) = subst Lasts (sym same) w
  four a b j f g x y z w (inr (inr (inr (inr none)))) = absurd none

  signs : (name channel by : List ℕ) (made : StateParts) → IsGood (signing n name channel by made)
  signs name channel by made =
      bind_good (fixed_by n.channels channel) _ (λ f e. bind_good (key_by n.people by) _ (λ key d. bind_good (sign_state n.people by f made) _ (λ signed c. stays)))

  not_one : (duration : ℕ) → not (duration == 1) ≡ true → duration ≡ 1 → ⊥
  not_one duration e is = let yes = eq-eqb duration 1 is in absurd (cc)

  step_good : (s : Step) → Fits s → runs_in_race s ≡ true → IsGood (meant n s)
  step_good (steps.Deposit k) fits race = bind_good (digest_or_digits (fixed_by n.channels k.channel) k.channel) _ (λ to e. stays)
  step_good (steps.Time to) fits race = absurd cc
  step_good (steps.Person k) fits race = (last, joins k.node _ _ k.watchers)
  step_good (steps.Channel k) fits race =
      bind_good (valid_fixed (fixed_with (keys_by n.people k.people) k.nonce k.app k.duration)) _
      (λ f e. (one_more k.name f (λ is. not_one k.duration race (sym (same_duration (fixed_with (keys_by n.people k.people) k.nonce k.app k.duration) f fits e) ∙ is)), tt))
  step_good (steps.Sign k) fits race =
      bind_good (valid_state (state_with k.turn k.is_final k.outcome (data_of (record { votes = k.votes; proposal = outcome k.proposal })))) _ (λ made e. signs k.name k.channel k.by made)
  step_good (steps.Catch k) fits race = bind_good (person_by n.people k.from) _ (λ p e. bind_good (fixed_by n.channels k.channel) _ (λ f d. stays))
  step_good (steps.Send to state) fits race = bind_good (person_by n.people to) _ (λ p e. bind_good (message_by n.states state) _ (λ bytes d. stays))
  step_good (steps.Drop to) fits race = bind_good (person_by n.people to) _ (λ p e. stays)
  step_good (steps.Challenge k) fits race =
      bind_good (fixed_by n.channels k.channel) _ (λ f e. bind_good (key_by n.people k.by) _
      (λ key d. bind_good (sign_challenge n.people k.by f (listed n.states k.chain) (position_of f.keys key)) _ (λ signed c. stays)))
  step_good (steps.Respond k) fits race =
      bind_good (fixed_by n.channels k.channel) _ (λ f e. bind_good (state_by n.states k.from) _ (λ before d. bind_good (state_by n.states k.state) _ (λ answer c. stays)))
  step_good (steps.Refute channel next) fits race = bind_good (fixed_by n.channels channel) _ (λ f e. bind_good (state_by n.states next) _ (λ answer d. stays))
  step_good (steps.Checkpoint channel chain) fits race = bind_good (fixed_by n.channels channel) _ (λ f e. stays)
  step_good (steps.Conclude channel chain) fits race = bind_good (fixed_by n.channels channel) _ (λ f e. stays)
  step_good (steps.Transfer k) fits race = bind_good (fixed_by n.channels k.channel) _ (λ f e. bind_good (state_by n.states k.state) _ (λ ending d. stays))
  step_good (steps.Claim k) fits race =
      bind_good (fixed_by n.channels k.guarantor) _ (λ payer e. bind_good (state_by n.states k.state) _ (λ promised d.
      bind_good (fixed_by n.channels k.target) _ (λ f c. bind_good (state_by n.states k.target_state) _ (λ ended b. stays))))
  step_good (steps.Open k) fits race = bind_good (fixed_by n.channels k.channel) _ (λ f e. (last, λ g i. one f g (named_lasts k.channel f e) i))
  step_good (steps.OpenOn k) fits race =
      bind_good (fixed_by n.channels k.ledger) _ (λ on d. bind_good (fixed_by n.channels k.channel) _ (λ f e. (last, λ g i. one f g (named_lasts k.channel f e) i)))
  step_good (steps.OpenVirtual k) fits race =
      bind_good (names_by n.channels k.ledgers) _ (λ on a. bind_good (both_by n.channels k.guarantors) _ (λ by b.
      bind_good (fixed_by n.channels k.joint) _ (λ j c. bind_good (fixed_by n.channels k.channel) _ (λ f d.
      let two = both_last k.guarantors by b in
      (last, λ g i. four by.0 by.1 j f g two.0 two.1 (named_lasts k.joint j c) (named_lasts k.channel f d) i)))))
  step_good (steps.Pay k) fits race = bind_good (fixed_by n.channels k.channel) _ (λ f e. (last, λ g i. absurd i))
  step_good (steps.Close who channel) fits race = bind_good (fixed_by n.channels channel) _ (λ f e. (last, λ g i. absurd i))
  step_good (steps.Release how who channel) fits race = bind_good (fixed_by n.channels channel) _ (λ f e. (last, λ g i. absurd i))
  step_good (steps.Resend who channel) fits race = bind_good (fixed_by n.channels channel) _ (λ f e. (last, λ g i. absurd i))
  step_good (steps.Exit who) fits race = (last, λ g i. absurd i)
  step_good (steps.Rounds count) fits race = stays

  whole : (o : Option Meaning) → IsGood o → AllLast (unwrap_or o (learning n)).names.channels × TellsLasting (unwrap_or o (learning n)).effect
  whole None good = stays
  whole (Some m) good = good

-- ---- all steps

told : (effect : Effect) (command : Command) → TellsLasting effect → command_in effect ≡ Some command → OpensLasting command
told (Tell numbers order) command lasting e = let same : order ≡ command = cc in subst OpensLasting same lasting
told Nothing command lasting e = absurd cc
told (Enter op) command lasting e = absurd cc
told (Join number signer watchers) command lasting e = absurd cc
told (Post to bytes) command lasting e = absurd cc
told (Lose to) command lasting e = absurd cc
told (Catch name number key channel turn) command lasting e = absurd cc
told (Rounds count) command lasting e = absurd cc

behind : (n : Names) (ss : List Step) → AllLast n.channels → All Fits ss → All (λ (s : Step). runs_in_race s ≡ true) ss
    → (count : ℕ) (command : Command) → command_behind n ss count ≡ Some command → OpensLasting command
behind n [] last fit race count command e = absurd cc
behind n (s ∷ rest) last fit race zero command e =
    told (meaning n s).effect command ((whole n last (meant n s) (step_good n last s (All-head Fits s rest fit) (All-head (λ (x : Step). runs_in_race x ≡ true) s rest race))).1) e
behind n (s ∷ rest) last fit race (suc count) command e =
    behind (meaning n s).names rest
    ((whole n last (meant n s) (step_good n last s (All-head Fits s rest fit) (All-head (λ (x : Step). runs_in_race x ≡ true) s rest race))).0)
    (All-tail Fits s rest fit) (All-tail (λ (x : Step). runs_in_race x ≡ true) s rest race) count command e

pub commands_last : CommandsOpenLasting
commands_last ss fit race zero command e f i = absurd cc
commands_last ss fit race (suc count) command e f i = behind nameless ss (λ c j. absurd j) fit race count command e f i
