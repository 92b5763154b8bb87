-- What the limits give of all steps that were read.
use Rattle.std.proofs.Common.{◌≡◌, ◌≤◌, ◌<◌, ◌+◌, ◌^◌, ◌∙◌, ℕ, List, [], ◌∷◌, length, refl, true, false, arith, length-append}
use Rattle.std.specs.Prelude.{Bool, ◌&&◌, ◌||◌, ◌==◌, not, nat_lt, nat_le, All, IsTrue, if◌then◌else◌}
use Rattle.std.proofs.lemmas.Bool.{ltb-true, leb-true, eqb-true}
use Rattle.std.proofs.lemmas.List.Elements.{All-nil, All-cons}
use Rattle.std.proofs.lemmas.List.Sums.{sum_by-cons}
use Rattle.script_steps.specs.Bounds.{Fits, persons, persons_of, rounds, rounds_of}
use Rattle.script_steps.specs.Conditions.{after, fits, is_able, within, runs_in_race}
use Rattle.script_steps.specs.Context.{has_index}
use Rattle.script_steps.specs.Digests.{key_of, person_name}
use Rattle.script_reader.specs.Script.{start, AreChecked}
use Rattle.script_steps.specs.declared.context.Context.{Context}
use Rattle.script_steps.specs.declared.step.Step.{Step}
use Rattle.script_steps.specs.declared.step.Step.TheVariants as steps

both : (a b : Bool) → a && b ≡ true → (a ≡ true) × (b ≡ true)
both true b e = (refl, e)
both false b e = absurd (cc)

few_watchers : (node : Bool) (watchers : ℕ) → (if node then within watchers 1 4 else watchers == 0) ≡ true → watchers ≤ 4
few_watchers true watchers e = leb-true watchers 4 ((both (nat_le 1 watchers) (nat_le watchers 4) e).1)
few_watchers false watchers e = let none = eqb-true watchers 0 e in omega (arith, none)

some_watchers : (node : Bool) (watchers : ℕ) → (if node then within watchers 1 4 else watchers == 0) ≡ true → node ≡ true → 1 ≤ watchers
some_watchers true watchers e is = leb-true 1 watchers ((both (nat_le 1 watchers) (nat_le watchers 4) e).0)
some_watchers false watchers e is = absurd (cc)

able_fits : (h : ℕ) (node : Bool) (watchers : ℕ) → is_able h node watchers ≡ true → IsTrue (h == 5 || h == 10) × (watchers ≤ 4) × (node ≡ true → 1 ≤ watchers)
able_fits h node watchers e =
    let p = both (h == 5 || h == 10) (if node then within watchers 1 4 else watchers == 0) e in
    (p.0, few_watchers node watchers p.1, some_watchers node watchers p.1)

pair_fits : (a b : ℕ) → nat_lt a (2 ^ 32) && nat_lt b (2 ^ 8) ≡ true → (a < 2 ^ 32) × (b < 2 ^ 8)
pair_fits a b e = let p = both (nat_lt a (2 ^ 32)) (nat_lt b (2 ^ 8)) e in (ltb-true a (2 ^ 32) p.0, ltb-true b (2 ^ 8) p.1)

step_fits : (c : Context) (s : Step) → fits c s ≡ true → Fits s
step_fits c (steps.Deposit k) e = ltb-true k.asset (2 ^ 32) e
step_fits c (steps.Time to) e = tt
step_fits c (steps.Person k) e = able_fits k.h k.node k.watchers ((both (is_able k.h k.node k.watchers) (nat_lt (length c.people) 16) e).0)
step_fits c (steps.Channel k) e =
    let p = both (within (length k.people) 2 4 && (not (k.app == 1) || length k.people == 2) && within k.duration 1 4294967295) (nat_lt (length c.channels) 64) e in
    let q = both (within (length k.people) 2 4 && (not (k.app == 1) || length k.people == 2)) (within k.duration 1 4294967295) p.0 in
    let d = leb-true k.duration 4294967295 ((both (nat_le 1 k.duration) (nat_le k.duration 4294967295) q.1).1) in
    omega (arith, d)
step_fits c (steps.Sign k) e =
    let p = both (nat_lt k.turn (2 ^ 48) && nat_le k.votes 3 && (not (k.votes == 0) || length k.proposal == 0)) (has_index c k.by) e in
    let q = both (nat_lt k.turn (2 ^ 48) && nat_le k.votes 3) (not (k.votes == 0) || length k.proposal == 0) p.0 in
    leb-true k.votes 3 ((both (nat_lt k.turn (2 ^ 48)) (nat_le k.votes 3) q.0).1)
step_fits c (steps.Catch k) e = tt
step_fits c (steps.Send to state) e = tt
step_fits c (steps.Drop to) e = tt
step_fits c (steps.Challenge k) e = leb-true (length k.chain) 4 ((both (nat_le (length k.chain) 4) (has_index c k.by) e).0)
step_fits c (steps.Respond k) e = tt
step_fits c (steps.Refute channel state) e = tt
step_fits c (steps.Checkpoint channel chain) e = leb-true (length chain) 4 e
step_fits c (steps.Conclude channel chain) e = leb-true (length chain) 4 e
step_fits c (steps.Transfer k) e = pair_fits k.asset k.index e
step_fits c (steps.Claim k) e = pair_fits k.asset k.position e
step_fits c (steps.Open k) e = tt
step_fits c (steps.OpenOn k) e = ltb-true k.asset (2 ^ 32) e
step_fits c (steps.OpenVirtual k) e =
    ltb-true k.asset (2 ^ 32) ((both (length k.ledgers == 2 && length k.guarantors == 2) (nat_lt k.asset (2 ^ 32)) e).1)
step_fits c (steps.Pay k) e = ltb-true k.asset (2 ^ 32) e
step_fits c (steps.Close who channel) e = tt
step_fits c (steps.Release how who channel) e = tt
step_fits c (steps.Resend who channel) e = tt
step_fits c (steps.Exit who) e = tt
step_fits c (steps.Rounds count) e = tt

pub all_fit : (c : Context) (ss : List Step) → AreChecked c ss → All Fits ss
all_fit c [] h = All-nil Fits
all_fit c (s ∷ ss) h = All-cons Fits s ss (step_fits c s (h.0).fit) (all_fit (after c s) ss h.1)

-- ---- a race

in_race : (race : Bool) (b : Bool) → race ≡ true → not race || b ≡ true → b ≡ true
in_race true b is e = e
in_race false b is e = absurd (cc)

-- a step declares nothing that makes a race of what is none
same_race : (c : Context) (s : Step) → (after c s).race ≡ c.race
same_race c (steps.Deposit k) = refl
same_race c (steps.Time to) = refl
same_race c (steps.Person k) = refl
same_race c (steps.Channel k) = refl
same_race c (steps.Sign k) = refl
same_race c (steps.Catch k) = refl
same_race c (steps.Send to state) = refl
same_race c (steps.Drop to) = refl
same_race c (steps.Challenge k) = refl
same_race c (steps.Respond k) = refl
same_race c (steps.Refute channel state) = refl
same_race c (steps.Checkpoint channel chain) = refl
same_race c (steps.Conclude channel chain) = refl
same_race c (steps.Transfer k) = refl
same_race c (steps.Claim k) = refl
same_race c (steps.Open k) = refl
same_race c (steps.OpenOn k) = refl
same_race c (steps.OpenVirtual k) = refl
same_race c (steps.Pay k) = refl
same_race c (steps.Close who channel) = refl
same_race c (steps.Release how who channel) = refl
same_race c (steps.Resend who channel) = refl
same_race c (steps.Exit who) = refl
same_race c (steps.Rounds count) = refl

-- each step of a race may stand in one
pub all_may_race : (c : Context) (ss : List Step) → c.race ≡ true → AreChecked c ss → All (λ (s : Step). runs_in_race s ≡ true) ss
all_may_race c [] race h = All-nil (λ (s : Step). runs_in_race s ≡ true)
all_may_race c (s ∷ ss) race h =
    All-cons (λ (x : Step). runs_in_race x ≡ true) s ss (in_race c.race (runs_in_race s) race (h.0).raced) (all_may_race (after c s) ss (same_race c s ∙ race) h.1)

-- ---- people

more_people : (c : Context) (s : Step) → length (after c s).people ≡ length c.people + persons s
more_people c (steps.Deposit k) = omega arith
more_people c (steps.Time to) = omega arith
more_people c (steps.Person k) = length-append c.people (record { name = k.name; seed = k.seed; h = k.h; node = k.node; key = key_of k.seed k.h; digest = person_name k.seed k.h } ∷ [])
more_people c (steps.Channel k) = omega arith
more_people c (steps.Sign k) = omega arith
more_people c (steps.Catch k) = omega arith
more_people c (steps.Send to state) = omega arith
more_people c (steps.Drop to) = omega arith
more_people c (steps.Challenge k) = omega arith
more_people c (steps.Respond k) = omega arith
more_people c (steps.Refute channel state) = omega arith
more_people c (steps.Checkpoint channel chain) = omega arith
more_people c (steps.Conclude channel chain) = omega arith
more_people c (steps.Transfer k) = omega arith
more_people c (steps.Claim k) = omega arith
more_people c (steps.Open k) = omega arith
more_people c (steps.OpenOn k) = omega arith
more_people c (steps.OpenVirtual k) = omega arith
more_people c (steps.Pay k) = omega arith
more_people c (steps.Close who channel) = omega arith
more_people c (steps.Release how who channel) = omega arith
more_people c (steps.Resend who channel) = omega arith
more_people c (steps.Exit who) = omega arith
more_people c (steps.Rounds count) = omega arith

room_for_people : (c : Context) (s : Step) → fits c s ≡ true → length c.people ≤ 16 → length (after c s).people ≤ 16
room_for_people c (steps.Deposit k) e l = l
room_for_people c (steps.Time to) e l = l
room_for_people c (steps.Person k) e l =
    let few = ltb-true (length c.people) 16 ((both (is_able k.h k.node k.watchers) (nat_lt (length c.people) 16) e).1) in
    omega (arith, few, more_people c (steps.Person k))
room_for_people c (steps.Channel k) e l = l
room_for_people c (steps.Sign k) e l = l
room_for_people c (steps.Catch k) e l = l
room_for_people c (steps.Send to state) e l = l
room_for_people c (steps.Drop to) e l = l
room_for_people c (steps.Challenge k) e l = l
room_for_people c (steps.Respond k) e l = l
room_for_people c (steps.Refute channel state) e l = l
room_for_people c (steps.Checkpoint channel chain) e l = l
room_for_people c (steps.Conclude channel chain) e l = l
room_for_people c (steps.Transfer k) e l = l
room_for_people c (steps.Claim k) e l = l
room_for_people c (steps.Open k) e l = l
room_for_people c (steps.OpenOn k) e l = l
room_for_people c (steps.OpenVirtual k) e l = l
room_for_people c (steps.Pay k) e l = l
room_for_people c (steps.Close who channel) e l = l
room_for_people c (steps.Release how who channel) e l = l
room_for_people c (steps.Resend who channel) e l = l
room_for_people c (steps.Exit who) e l = l
room_for_people c (steps.Rounds count) e l = l

people_behind : (c : Context) (ss : List Step) → AreChecked c ss → length c.people ≤ 16 → length c.people + persons_of ss ≤ 16
people_behind c [] h l = omega (arith, l)
people_behind c (s ∷ ss) h l =
    let rest = people_behind (after c s) ss h.1 (room_for_people c s (h.0).fit l) in
    omega (arith, rest, more_people c s, sum_by-cons persons s ss)

pub few_people : (race : Bool) (ss : List Step) → AreChecked (start race) ss → persons_of ss ≤ 16
few_people race ss h = let t = people_behind (start race) ss h (omega arith) in omega (arith, t)

-- ---- rounds

more_rounds : (c : Context) (s : Step) → (after c s).rounds ≡ c.rounds + rounds s
more_rounds c (steps.Deposit k) = omega arith
more_rounds c (steps.Time to) = omega arith
more_rounds c (steps.Person k) = omega arith
more_rounds c (steps.Channel k) = omega arith
more_rounds c (steps.Sign k) = omega arith
more_rounds c (steps.Catch k) = omega arith
more_rounds c (steps.Send to state) = omega arith
more_rounds c (steps.Drop to) = omega arith
more_rounds c (steps.Challenge k) = omega arith
more_rounds c (steps.Respond k) = omega arith
more_rounds c (steps.Refute channel state) = omega arith
more_rounds c (steps.Checkpoint channel chain) = omega arith
more_rounds c (steps.Conclude channel chain) = omega arith
more_rounds c (steps.Transfer k) = omega arith
more_rounds c (steps.Claim k) = omega arith
more_rounds c (steps.Open k) = omega arith
more_rounds c (steps.OpenOn k) = omega arith
more_rounds c (steps.OpenVirtual k) = omega arith
more_rounds c (steps.Pay k) = omega arith
more_rounds c (steps.Close who channel) = omega arith
more_rounds c (steps.Release how who channel) = omega arith
more_rounds c (steps.Resend who channel) = omega arith
more_rounds c (steps.Exit who) = omega arith
more_rounds c (steps.Rounds count) = refl

room_for_rounds : (c : Context) (s : Step) → fits c s ≡ true → c.rounds ≤ 4096 → (after c s).rounds ≤ 4096
room_for_rounds c (steps.Deposit k) e l = l
room_for_rounds c (steps.Time to) e l = l
room_for_rounds c (steps.Person k) e l = l
room_for_rounds c (steps.Channel k) e l = l
room_for_rounds c (steps.Sign k) e l = l
room_for_rounds c (steps.Catch k) e l = l
room_for_rounds c (steps.Send to state) e l = l
room_for_rounds c (steps.Drop to) e l = l
room_for_rounds c (steps.Challenge k) e l = l
room_for_rounds c (steps.Respond k) e l = l
room_for_rounds c (steps.Refute channel state) e l = l
room_for_rounds c (steps.Checkpoint channel chain) e l = l
room_for_rounds c (steps.Conclude channel chain) e l = l
room_for_rounds c (steps.Transfer k) e l = l
room_for_rounds c (steps.Claim k) e l = l
room_for_rounds c (steps.Open k) e l = l
room_for_rounds c (steps.OpenOn k) e l = l
room_for_rounds c (steps.OpenVirtual k) e l = l
room_for_rounds c (steps.Pay k) e l = l
room_for_rounds c (steps.Close who channel) e l = l
room_for_rounds c (steps.Release how who channel) e l = l
room_for_rounds c (steps.Resend who channel) e l = l
room_for_rounds c (steps.Exit who) e l = l
room_for_rounds c (steps.Rounds count) e l = leb-true (c.rounds + count) 4096 ((both (within count 1 64) (nat_le (c.rounds + count) 4096) e).1)

rounds_behind : (c : Context) (ss : List Step) → AreChecked c ss → c.rounds ≤ 4096 → c.rounds + rounds_of ss ≤ 4096
rounds_behind c [] h l = omega (arith, l)
rounds_behind c (s ∷ ss) h l =
    let rest = rounds_behind (after c s) ss h.1 (room_for_rounds c s (h.0).fit l) in
    omega (arith, rest, more_rounds c s, sum_by-cons rounds s ss)

pub few_rounds : (race : Bool) (ss : List Step) → AreChecked (start race) ss → rounds_of ss ≤ 4096
few_rounds race ss h = let t = rounds_behind (start race) ss h (omega arith) in omega (arith, t)
